use Rattle.std.proofs.Common.{◌≡◌, ◌&&◌, not, List, [], ◌∷◌, ℕ, if◌then◌else◌, length, arith, ap, ◌∙◌, sym}
use Rattle.std.specs.Prelude.{nat_eq}
use Rattle.indexmap.specs.IndexMap.{get}
use Rattle.model.specs.Graph.{has_number}
use Rattle.judge.proofs.Summing.{sum_noted, lasting_noted, found_in, taken_back}
use Rattle.judge.proofs.sums.Sums.note.Goals as goal

pub returns-clause-summed : goal.returns-clause-summed
returns-clause-summed c graph flags seen so sum e inputs is =
    sum_noted graph flags seen c.args.edge e c.args.inputs (get nat_eq c.mark.new.self.by_edge e) (get nat_eq c.insert.new.self e) (c.in_default.ensures.updates.0 e) sum
    (λ inputs was. so e inputs (ap (λ (m : _). get nat_eq m e) (sym c.mark.ensures.by_edge) ∙ was)) inputs is

pub returns-clause-marked : goal.returns-clause-marked
returns-clause-marked c graph flags seen so lasting e inputs is other =
    lasting_noted graph flags seen c.mark.new.self.passing.items c.args.edge e c.args.lasts c.args.inputs (get nat_eq c.mark.new.self.by_edge e) (get nat_eq c.insert.new.self e)
    (c.in_default.ensures.updates.0 e) lasting (c.mark.ensures.marked c.if-not-mark.false)
    (λ inputs was. so e inputs (ap (λ (m : _). get nat_eq m e) (sym c.mark.ensures.by_edge) ∙ was) (c.mark.ensures.others e other)) inputs is other

pub returns-in-Err-clause-marked : goal.returns-in-Err-clause-marked
returns-in-Err-clause-marked c graph flags seen so lasting e inputs is other =
    let old = c.args.self.now.passing.items in
    let len : c.len-marks.result ≡ length old = let is = c.len-marks.ensures in let ok = c.args.self.now.passing.ok.0 in omega arith in
    let back : c.truncate.new.self.items ≡ old =
    taken_back old (if c.mark.result && not c.args.lasts then c.args.edge ∷ [] else []) c.mark.new.self.passing.items c.truncate.new.self.items c.len-marks.result len c.mark.ensures.pushed c.truncate.ensures.items in
    so e inputs (found_in c.args.self.now.by_edge.entries c.insert.new.self.entries e inputs (c.in-Err.ensures.err ∙ ap (λ (m : _). m.entries) c.mark.ensures.by_edge) is)
    (ap (λ (l : List ℕ). has_number l e) (sym back) ∙ other)
