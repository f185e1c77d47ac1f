use Rattle.model.specs.Calls.{OnlyLooks}
use Rattle.tools.proofs.told_deps.deps.Given as goal

abbrev pub invariant-loop-path : goal.invariant-loop-path
invariant-loop-path g l = OnlyLooks g.S.Texts.tells (g.S.Texts.world l.fn.site) (g.S.Texts.world l.site)
