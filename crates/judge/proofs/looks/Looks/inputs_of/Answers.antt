use Rattle.std.proofs.Common.{◌∷◌, ◌∙◌, List, ℕ, true, false, length, ap, subst}
use Rattle.graph.specs.Links.{links_of}
use Rattle.judge.proofs.LooksStay.{looked_then}
use Rattle.judge.specs.Facts.{HasTaken}
use Rattle.judge.specs.Summed.{HasJoined}
use Rattle.judge.specs.declared.sums.Sums.{Sums}
use Rattle.judge.proofs.Answered.{read_seen}
use Rattle.judge.proofs.Reasons.{within_by}
use Rattle.judge.proofs.Summing.{taken_stays, taken_then, sums_kept, marks_kept, read_by_all}
use Rattle.judge.proofs.looks.Looks.inputs_of.Goals as goal

pub add_paths-requires-clause-within : goal.add_paths-requires-clause-within
add_paths-requires-clause-within g c =
    let graph = c.args.graph.now in
    within_by (length graph.manifest.paths) ((links_of graph).regular c.args.edge) c.regular_inputs-regular.result.now c.regular_inputs-regular.ensures (c.lists_stand.ensures.regular_within c.args.edge)

pub add_recorded-requires-clause-within : goal.add_recorded-requires-clause-within
add_recorded-requires-clause-within g c =
    let graph = c.args.graph.now in
    within_by (length graph.manifest.paths) ((links_of graph).recorded c.args.edge) c.recorded_inputs-recorded.result.now c.recorded_inputs-recorded.ensures (c.lists_stand.ensures.recorded_within c.args.edge)

-- what was kept in sum is right by what was seen since
pub returns-in_err-add_paths-clause-summed : goal.returns-in_err-add_paths-clause-summed
returns-in_err-add_paths-clause-summed g c = sums_kept c.args.graph.now c.args.changed.now c.args.self.now.seen.items c.add_paths.new.self.seen.items c.add_paths.ensures.looked.stays c.args.self.now.sums c.add_paths.new.self.sums c.add_paths.ensures.sums c.requires.summed

pub returns-in_err-add_recorded-clause-summed : goal.returns-in_err-add_recorded-clause-summed
returns-in_err-add_recorded-clause-summed g c = sums_kept c.args.graph.now c.args.changed.now c.add_aliases.new.self.seen.items c.add_recorded.new.self.seen.items c.add_recorded.ensures.looked.stays c.add_aliases.new.self.sums c.add_recorded.new.self.sums c.add_recorded.ensures.sums c.add_aliases.ensures.summed

pub add_aliases-requires-clause-summed : goal.add_aliases-requires-clause-summed
add_aliases-requires-clause-summed g c = sums_kept c.args.graph.now c.args.changed.now c.args.self.now.seen.items c.add_paths.new.self.seen.items c.add_paths.ensures.looked.stays c.args.self.now.sums c.add_paths.new.self.sums c.add_paths.ensures.sums c.requires.summed

pub returns-clause-summed : goal.returns-clause-summed
returns-clause-summed g c = sums_kept c.args.graph.now c.args.changed.now c.add_aliases.new.self.seen.items c.add_recorded.new.self.seen.items c.add_recorded.ensures.looked.stays c.add_aliases.new.self.sums c.add_recorded.new.self.sums c.add_recorded.ensures.sums c.add_aliases.ensures.summed

pub returns-in_err-add_paths-clause-marked : goal.returns-in_err-add_paths-clause-marked
returns-in_err-add_paths-clause-marked g c = marks_kept c.args.graph.now c.args.changed.now c.args.self.now.seen.items c.add_paths.new.self.seen.items c.add_paths.ensures.looked.stays c.args.self.now.sums c.add_paths.new.self.sums c.add_paths.ensures.sums

pub returns-in_err-add_aliases-clause-marked : goal.returns-in_err-add_aliases-clause-marked
returns-in_err-add_aliases-clause-marked g c marked =
    c.add_aliases.ensures.marked (marks_kept c.args.graph.now c.args.changed.now c.args.self.now.seen.items c.add_paths.new.self.seen.items c.add_paths.ensures.looked.stays c.args.self.now.sums c.add_paths.new.self.sums c.add_paths.ensures.sums marked)

pub returns-in_err-add_recorded-clause-marked : goal.returns-in_err-add_recorded-clause-marked
returns-in_err-add_recorded-clause-marked g c marked =
    marks_kept c.args.graph.now c.args.changed.now c.add_aliases.new.self.seen.items c.add_recorded.new.self.seen.items c.add_recorded.ensures.looked.stays c.add_aliases.new.self.sums c.add_recorded.new.self.sums c.add_recorded.ensures.sums
    (c.add_aliases.ensures.marked (marks_kept c.args.graph.now c.args.changed.now c.args.self.now.seen.items c.add_paths.new.self.seen.items c.add_paths.ensures.looked.stays c.args.self.now.sums c.add_paths.new.self.sums c.add_paths.ensures.sums marked))

pub returns-clause-marked : goal.returns-clause-marked
returns-clause-marked g c marked =
    marks_kept c.args.graph.now c.args.changed.now c.add_aliases.new.self.seen.items c.add_recorded.new.self.seen.items c.add_recorded.ensures.looked.stays c.add_aliases.new.self.sums c.add_recorded.new.self.sums c.add_recorded.ensures.sums
    (c.add_aliases.ensures.marked (marks_kept c.args.graph.now c.args.changed.now c.args.self.now.seen.items c.add_paths.new.self.seen.items c.add_paths.ensures.looked.stays c.args.self.now.sums c.add_paths.new.self.sums c.add_paths.ensures.sums marked))

pub returns-in_err-add_aliases-clause-looked : goal.returns-in_err-add_aliases-clause-looked
returns-in_err-add_aliases-clause-looked g c =
    looked_then g.S.Texts.tells c.args.graph.now (g.S.Texts.world c.args.site.now) (g.S.Texts.world c.add_paths.new.site) (g.S.Texts.world c.add_aliases.new.site) c.args.self.now c.add_paths.new.self c.add_aliases.new.self
    c.add_paths.ensures.looked c.add_aliases.ensures.looked

pub returns-in_err-add_recorded-clause-looked : goal.returns-in_err-add_recorded-clause-looked
returns-in_err-add_recorded-clause-looked g c =
    let tells = g.S.Texts.tells in
    let graph = c.args.graph.now in
    let a = g.S.Texts.world c.args.site.now in
    let b = g.S.Texts.world c.add_paths.new.site in
    let d = g.S.Texts.world c.add_aliases.new.site in
    let f = g.S.Texts.world c.add_recorded.new.site in
    looked_then tells graph a d f c.args.self.now c.add_aliases.new.self c.add_recorded.new.self
    (looked_then tells graph a b d c.args.self.now c.add_paths.new.self c.add_aliases.new.self c.add_paths.ensures.looked c.add_aliases.ensures.looked) c.add_recorded.ensures.looked

pub returns-clause-looked : goal.returns-clause-looked
returns-clause-looked g c =
    let tells = g.S.Texts.tells in
    let graph = c.args.graph.now in
    let a = g.S.Texts.world c.args.site.now in
    let b = g.S.Texts.world c.add_paths.new.site in
    let d = g.S.Texts.world c.add_aliases.new.site in
    let f = g.S.Texts.world c.add_recorded.new.site in
    looked_then tells graph a d f c.args.self.now c.add_aliases.new.self c.add_recorded.new.self
    (looked_then tells graph a b d c.args.self.now c.add_paths.new.self c.add_aliases.new.self c.add_paths.ensures.looked c.add_aliases.ensures.looked) c.add_recorded.ensures.looked

pub returns-clause-inputs : goal.returns-clause-inputs
returns-clause-inputs g c =
    let graph = c.args.graph.now in
    let flags = c.args.changed.now in
    let regular = (links_of graph).regular c.args.edge in
    let recorded = (links_of graph).recorded c.args.edge in
    let one = c.add_paths.new.self.seen.items in
    let two = c.add_aliases.new.self.seen.items in
    let three = c.add_recorded.new.self.seen.items in
    let own = subst (λ (l : List ℕ). HasTaken graph flags false one l c.new-inputs.result c.add_paths.new.inputs) c.regular_inputs-regular.ensures c.in_ok-add_paths.ensures.taken in
    let joined = subst (λ (l : List ℕ). HasJoined graph flags two l c.add_paths.new.inputs c.add_aliases.new.inputs) c.regular_inputs-regular.ensures c.in_ok-add_aliases.ensures.joined in
    let told = subst (λ (l : List ℕ). HasTaken graph flags true three l c.add_aliases.new.inputs c.add_recorded.new.inputs) c.recorded_inputs-recorded.ensures c.in_ok-add_recorded.ensures.taken in
    let both = taken_then graph flags false two regular _ c.new-inputs.result c.add_paths.new.inputs c.add_aliases.new.inputs
    (taken_stays graph flags false one two c.add_aliases.ensures.looked.stays regular c.new-inputs.result c.add_paths.new.inputs own) joined.taken in
    read_seen graph flags three c.args.edge (c.args.edge ∷ joined.edges) c.new-inputs.result c.add_aliases.new.inputs c.add_recorded.new.inputs c.lists_stand.ensures
    (read_by_all graph flags c.reading_stands.ensures two c.args.edge c.add_paths.new.inputs c.add_aliases.new.inputs joined) c.new-inputs.ensures
    (taken_stays graph flags false two three c.add_recorded.ensures.looked.stays _ c.new-inputs.result c.add_aliases.new.inputs both) told

-- the answers that are kept are left alone
pub returns-in_err-add_paths-clause-answers : goal.returns-in_err-add_paths-clause-answers
returns-in_err-add_paths-clause-answers g c = ap (λ (s : Sums). s.answers) c.add_paths.ensures.sums

pub returns-in_err-add_aliases-clause-answers : goal.returns-in_err-add_aliases-clause-answers
returns-in_err-add_aliases-clause-answers g c = c.add_aliases.ensures.answers ∙ ap (λ (s : Sums). s.answers) c.add_paths.ensures.sums

pub returns-in_err-add_recorded-clause-answers : goal.returns-in_err-add_recorded-clause-answers
returns-in_err-add_recorded-clause-answers g c = ap (λ (s : Sums). s.answers) c.add_recorded.ensures.sums ∙ (c.add_aliases.ensures.answers ∙ ap (λ (s : Sums). s.answers) c.add_paths.ensures.sums)

pub returns-clause-answers : goal.returns-clause-answers
returns-clause-answers g c = ap (λ (s : Sums). s.answers) c.add_recorded.ensures.sums ∙ (c.add_aliases.ensures.answers ∙ ap (λ (s : Sums). s.answers) c.add_paths.ensures.sums)
