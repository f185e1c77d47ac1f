use Rattle.std.proofs.Common.{◌≡◌, length}
use Rattle.shares.specs.Marks.{skip_blanks}
use Rattle.shares.proofs.marks.skip_blanks.Given as goal

abbrev pub invariant-blanks : goal.invariant-blanks
invariant-blanks l = skip_blanks l.text ≡ skip_blanks l.rest

abbrev pub decreases-blanks : goal.decreases-blanks
decreases-blanks l = length l.rest
