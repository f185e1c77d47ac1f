use Rattle.model.specs.Calls.{OnlyLooks}
use Rattle.stand_in.proofs.due.show_all.Given as goal

abbrev pub invariant-loop-explanation : goal.invariant-loop-explanation
invariant-loop-explanation g l = OnlyLooks g.S.Texts.tells (g.S.Texts.world l.fn.site) (g.S.Texts.world l.site)
