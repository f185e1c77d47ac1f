use Rattle.std.proofs.Common.{length}
use Rattle.lexer.proofs.Texts.{AreSaid}
use Rattle.lexer.proofs.lines.push_lines.Given as goal

abbrev pub invariant-lines : goal.invariant-lines
invariant-lines l = AreSaid l.text l.lines l.at l.inside

abbrev pub decreases-lines : goal.decreases-lines
decreases-lines l = length l.at.rest.now
