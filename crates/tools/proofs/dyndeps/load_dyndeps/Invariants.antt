use Rattle.model.specs.Calls.{OnlyLooks}
use Rattle.tools.proofs.dyndeps.load_dyndeps.Given as goal

abbrev pub invariant-loop-edge : goal.invariant-loop-edge
invariant-loop-edge g l = OnlyLooks g.S.Texts.tells (g.S.Texts.world l.fn.site) (g.S.Texts.world l.site)
