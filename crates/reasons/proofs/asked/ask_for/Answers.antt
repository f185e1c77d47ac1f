use Rattle.std.proofs.Common.{◌<◌, length, subst}
use Rattle.std.specs.List.{flat_map}
use Rattle.graph.specs.Links.{links_of}
use Rattle.reasons.specs.Why.{HaveAsked}
use Rattle.reasons.proofs.Telling.{asked_later, within_of}
use Rattle.reasons.proofs.asked.ask_for.Goals as goal

pub ask-requires-clause-within : goal.ask-requires-clause-within
ask-requires-clause-within g c =
    within_of (length c.args.graph.now.manifest.paths) ((links_of c.args.graph.now).outputs c.args.edge) c.outputs.result.now c.outputs.ensures (c.lists_stand.ensures.outputs_within c.args.edge)

pub ask-requires-2-clause-within : goal.ask-requires-2-clause-within
ask-requires-2-clause-within g c =
    within_of (length c.args.graph.now.manifest.paths) ((links_of c.args.graph.now).recorded c.args.edge) c.recorded_inputs.result.now c.recorded_inputs.ensures (c.lists_stand.ensures.recorded_within c.args.edge)

pub returns-in_err-ask_regular-clause-looked : goal.returns-in_err-ask_regular-clause-looked
returns-in_err-ask_regular-clause-looked g c =
    (c.looks_follow.ensures.follow g.S.Texts.tells (g.S.Texts.world c.args.site.now) (g.S.Texts.world c.ask.new.site) (g.S.Texts.world c.ask_regular.new.site)).looked c.args.graph.now c.args.looks.now c.ask.new.self c.ask_regular.new.looks
    c.ask.ensures.looked c.ask_regular.ensures.looked

pub returns-in_err-ask-2-clause-looked : goal.returns-in_err-ask-2-clause-looked
returns-in_err-ask-2-clause-looked g c =
    let tells = g.S.Texts.tells in
    let graph = c.args.graph.now in
    let a = g.S.Texts.world c.args.site.now in
    let b = g.S.Texts.world c.ask.new.site in
    let d = g.S.Texts.world c.ask_regular.new.site in
    let f = g.S.Texts.world c.ask-2.new.site in
    (c.looks_follow.ensures.follow tells a d f).looked graph c.args.looks.now c.ask_regular.new.looks c.ask-2.new.self
    ((c.looks_follow.ensures.follow tells a b d).looked graph c.args.looks.now c.ask.new.self c.ask_regular.new.looks c.ask.ensures.looked c.ask_regular.ensures.looked) c.ask-2.ensures.looked

pub returns-clause-looked : goal.returns-clause-looked
returns-clause-looked g c =
    let tells = g.S.Texts.tells in
    let graph = c.args.graph.now in
    let a = g.S.Texts.world c.args.site.now in
    let b = g.S.Texts.world c.ask.new.site in
    let d = g.S.Texts.world c.ask_regular.new.site in
    let f = g.S.Texts.world c.ask-2.new.site in
    (c.looks_follow.ensures.follow tells a d f).looked graph c.args.looks.now c.ask_regular.new.looks c.ask-2.new.self
    ((c.looks_follow.ensures.follow tells a b d).looked graph c.args.looks.now c.ask.new.self c.ask_regular.new.looks c.ask.ensures.looked c.ask_regular.ensures.looked) c.ask-2.ensures.looked

pub returns-clause-outputs : goal.returns-clause-outputs
returns-clause-outputs g c =
    let outputs = (links_of c.args.graph.now).outputs c.args.edge in
    let one = subst (HaveAsked c.ask.new.self.seen.items) c.outputs.ensures c.in_ok-ask.ensures.asked in
    asked_later c.ask_regular.new.looks.seen.items c.ask-2.new.self.seen.items c.ask-2.ensures.looked.stays outputs (asked_later c.ask.new.self.seen.items c.ask_regular.new.looks.seen.items c.ask_regular.ensures.looked.stays outputs one)

pub returns-clause-regular : goal.returns-clause-regular
returns-clause-regular g c =
    asked_later c.ask_regular.new.looks.seen.items c.ask-2.new.self.seen.items c.ask-2.ensures.looked.stays (flat_map (links_of c.args.graph.now).regular c.args.edges.now) c.in_ok-ask_regular.ensures.regular

pub returns-clause-recorded : goal.returns-clause-recorded
returns-clause-recorded g c = subst (HaveAsked c.ask-2.new.self.seen.items) c.recorded_inputs.ensures c.in_ok-ask-2.ensures.asked
