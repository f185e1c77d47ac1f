use Rattle.std.proofs.Common.{◌≡◌, ℕ, List, ◌++◌}
use Rattle.notes.proofs.program.program_name.Given as goal

abbrev pub invariant-loop-word : goal.invariant-loop-word
invariant-loop-word l = record {
  can_next : (goal.iterator-loop-word).can_next l.word-iterator;
  finite : (goal.iterator-loop-word).is_finite l.word-iterator;
  left : (before : List ℕ) × (l.command ≡ before ++ l.word-iterator.rest.now);
}
