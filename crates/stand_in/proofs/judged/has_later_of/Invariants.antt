use Rattle.std.proofs.Common.{Ok}
use Rattle.stand_in.specs.Moves.{AsksWell}
use Rattle.stand_in.proofs.judged.has_later_of.Given as goal

abbrev pub invariant-loop-edge : goal.invariant-loop-edge
invariant-loop-edge g l = AsksWell {T = Unit {0}} g.S.Texts.tells (g.S.Texts.world l.fn.site) (g.S.Texts.world l.site) (Ok tt)
