use Rattle.std.proofs.Common.{length, List, ℕ}
use Rattle.lexer.specs.Places.{IsBehind}
use Rattle.lexer.specs.Values.{AreBlanks}
use Rattle.lexer.proofs.cursor.Cursor.skip_blanks.Given as goal

-- what stands for the rest
abbrev pub invariant-joins : goal.invariant-joins
invariant-joins l = IsBehind l.fn.self l.at × ((rest : List ℕ) → AreBlanks l.at.rest.now rest → AreBlanks l.fn.self.rest.now rest)

abbrev pub decreases-joins : goal.decreases-joins
decreases-joins l = length l.at.rest.now
