use Rattle.std.proofs.Common.{◌≡◌, ◌<◌, ◌∙◌, ℕ, List, true, false, length, refl, sym, ap, subst, arith}
use Rattle.std.specs.List.{flat_map}
use Rattle.std.proofs.lemmas.Bool.{false≢true}
use Rattle.std.proofs.lemmas.List.{take_all}
use Rattle.theory.proofs.SiteCalls.{unrefused_none, unrefused_call, unrefused_then}
use Rattle.graph.specs.Links.{links_of}
use Rattle.reasons.specs.Why.{HaveAsked}
use Rattle.reasons.proofs.Firsts.{at_has}
use Rattle.reasons.proofs.Telling.{asked_more, within_of}
use Rattle.reasons.proofs.asked.ask_regular.Goals as goal

pub loop-edge-init : goal.loop-edge-init
loop-edge-init g c = record {
  sums = refl;
  looked = (c.looks_follow.ensures.follow g.S.Texts.tells (g.S.Texts.world c.args.site.now) (g.S.Texts.world c.args.site.now) (g.S.Texts.world c.args.site.now)).none c.args.graph.now c.args.looks.now;
  unrefused = unrefused_none (g.S.Texts.world c.args.site.now) c.requires.running;
  asked = λ p none. absurd (false≢true none);
}

pub regular_inputs-requires : goal.regular_inputs-requires
regular_inputs-requires g c =
    subst (λ (e : ℕ). e < length c.args.graph.now.manifest.lines) (sym {A = ℕ} c.edge-item.is)
    (c.requires.edges _ (at_has c.args.edges.now c.loop-edge.edge-index c.edge-item.result c.loop-edge-test.true))

pub ask-requires-clause-within : goal.ask-requires-clause-within
ask-requires-clause-within g c =
    within_of (length c.args.graph.now.manifest.paths) ((links_of c.args.graph.now).regular c.edge-item.result) c.regular_inputs.result.now c.regular_inputs.ensures (c.lists_stand.ensures.regular_within c.edge-item.result)

pub returns-in_err-ask-clause-looked : goal.returns-in_err-ask-clause-looked
returns-in_err-ask-clause-looked g c =
    (c.looks_follow.ensures.follow g.S.Texts.tells (g.S.Texts.world c.args.site.now) (g.S.Texts.world c.loop-edge.site) (g.S.Texts.world c.ask.new.site)).looked c.args.graph.now c.args.looks.now c.loop-edge.looks c.ask.new.self
    c.loop-edge.invariant.looked c.ask.ensures.looked

pub loop-edge-preserved : goal.loop-edge-preserved
loop-edge-preserved g c =
    let tells = g.S.Texts.tells in
    let graph = c.args.graph.now in
    let a = g.S.Texts.world c.args.site.now in
    let b = g.S.Texts.world c.loop-edge.site in
    let d = g.S.Texts.world c.ask.new.site in
    record {
      sums = c.ask.ensures.sums ∙ c.loop-edge.invariant.sums;
      looked = (c.looks_follow.ensures.follow tells a b d).looked graph c.args.looks.now c.loop-edge.looks c.ask.new.self c.loop-edge.invariant.looked c.ask.ensures.looked;
      unrefused = unrefused_then a b d c.loop-edge.invariant.unrefused (unrefused_call b d _ c.in_ok-ask.ensures.cause);
      asked = asked_more (links_of graph).regular c.loop-edge.looks.seen.items c.ask.new.self.seen.items c.ask.ensures.looked.stays c.args.edges.now c.loop-edge.edge-index c.edge-item.result c.loop-edge-test.true
          c.loop-edge.invariant.asked
          (subst (HaveAsked c.ask.new.self.seen.items) (c.regular_inputs.ensures ∙ ap (links_of graph).regular c.edge-item.is) c.in_ok-ask.ensures.asked);
    }

pub returns-clause-regular : goal.returns-clause-regular
returns-clause-regular g c =
    subst (λ (l : List ℕ). HaveAsked c.loop-edge.looks.seen.items (flat_map (links_of c.args.graph.now).regular l)) (take_all c.loop-edge.edge-index c.args.edges.now (omega arith)) c.loop-edge.invariant.asked

pub returns-in_err-ask-clause-sums : goal.returns-in_err-ask-clause-sums
returns-in_err-ask-clause-sums g c = c.ask.ensures.sums ∙ c.loop-edge.invariant.sums
