use Rattle.std.proofs.Common.{arith, List, ℕ, ap, ◌∙◌}
use Rattle.std.specs.Prelude.{nat_eq}
use Rattle.model.specs.Graph.{has_number}
use Rattle.indexmap.specs.IndexMap.{get}
use Rattle.judge.proofs.Summing.{popped, found_in, no_number}
use Rattle.judge.proofs.sums.Sums.forget_made.Goals as goal

pub loop-edge-preserved : goal.loop-edge-preserved
loop-edge-preserved c = record {
  marked = λ graph flags seen so e inputs is other.
      let was = popped c.pop.new.self.items c.in-Some.edge e (get nat_eq c.loop-edge.self.by_edge e) (get nat_eq c.swap_remove.new.self e) inputs (c.swap_remove.ensures.updates.0 e) is other in
      c.loop-edge.invariant.marked graph flags seen so e inputs was.0 (ap (λ (l : List ℕ). has_number l e) c.in-Some.ensures.items ∙ was.1);
}

pub returns-clause-lasting : goal.returns-clause-lasting
returns-clause-lasting c graph flags seen so e inputs is =
    c.loop-edge.invariant.marked graph flags seen so e inputs (found_in c.loop-edge.self.by_edge.entries c.give_back.new.self.by_edge.entries e inputs c.give_back.ensures.kept is)
    (no_number c.loop-edge.self.passing.items e (let none = c.in_default.ensures.cases.0 in let ok = c.loop-edge.self.passing.ok.0 in omega arith))

pub returns-clause-answers : goal.returns-clause-answers
returns-clause-answers c = c.forget_all.ensures.none

pub returns-clause-dues : goal.returns-clause-dues
returns-clause-dues c = c.forget_all.ensures.dues
