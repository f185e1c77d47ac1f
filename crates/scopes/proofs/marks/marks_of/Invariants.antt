use Rattle.std.proofs.Common.{List, ℕ, IsSome}
use Rattle.indexmap.specs.IndexMap.{get_by_text}
use Rattle.scopes.proofs.Marking.{IsMarkedOrLeft}
use Rattle.scopes.proofs.marks.marks_of.Given as goal

abbrev pub invariant-loop-name : goal.invariant-loop-name
invariant-loop-name g l = (name : List ℕ) → IsSome (get_by_text l.values name) → IsMarkedOrLeft l.marks l.name-iterator name
