use Rattle.std.proofs.Common.{inl, inr}
use Rattle.tools.proofs.Putting.{if_ok_then}
use Rattle.tools.proofs.found.named.Goals as goal

pub returns-in-Some : goal.returns-in-Some
returns-in-Some c = if_ok_then c.first_made_of.result c.first_made_of.ensures (λ p is. inl (c.in-Some.read.now, c.in-Some.ensures, is))

pub returns-in-None : goal.returns-in-None
returns-in-None c = if_ok_then c.known.result c.known.ensures (λ p is. inr (c.in-None.ensures, is))
