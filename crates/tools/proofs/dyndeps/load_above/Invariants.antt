use Rattle.model.specs.Calls.{OnlyLooks}
use Rattle.tools.proofs.dyndeps.load_above.Given as goal

-- so far there was only looked
abbrev pub invariant-loop : goal.invariant-loop
invariant-loop g l = OnlyLooks g.S.Texts.tells (g.S.Texts.world l.fn.site) (g.S.Texts.world l.site)
