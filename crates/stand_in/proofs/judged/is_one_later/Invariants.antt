use Rattle.std.proofs.Common.{Ok}
use Rattle.stand_in.specs.Moves.{AsksWell}
use Rattle.stand_in.proofs.judged.is_one_later.Given as goal

abbrev pub invariant-loop-path : goal.invariant-loop-path
invariant-loop-path g l = AsksWell {T = Unit {0}} g.S.Texts.tells (g.S.Texts.world l.fn.site) (g.S.Texts.world l.site) (Ok tt)
