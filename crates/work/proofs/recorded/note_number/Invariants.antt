use Rattle.std.proofs.Common.{◌≡◌, ◌-◌, ℕ, suc, None, length, get_or}
use Rattle.work.proofs.recorded.note_number.Given as goal

abbrev pub invariant-loop-numbers : goal.invariant-loop-numbers
invariant-loop-numbers l = (k : ℕ) → get_or l.numbers.items k None ≡ get_or l.fn.numbers.items k None

abbrev pub decreases-loop-numbers : goal.decreases-loop-numbers
decreases-loop-numbers l = suc l.path - length l.numbers.items
