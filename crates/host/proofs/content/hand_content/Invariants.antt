use Rattle.text.specs.Handed.{TakesMore}
use Rattle.host.proofs.content.hand_content.Given as goal

abbrev pub invariant-pieces : goal.invariant-pieces
invariant-pieces g l = TakesMore g.T.Takes.Took l.initial.taker l.taker
