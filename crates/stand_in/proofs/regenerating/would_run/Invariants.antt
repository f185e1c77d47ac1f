use Rattle.std.proofs.Common.{Ok}
use Rattle.stand_in.specs.Moves.{AsksWell}
use Rattle.stand_in.proofs.regenerating.would_run.Given as goal

abbrev pub invariant-loop-generator : goal.invariant-loop-generator
invariant-loop-generator g l = AsksWell {T = Unit {0}} g.S.Texts.tells (g.S.Texts.world l.fn.site) (g.S.Texts.world l.site) (Ok tt)
