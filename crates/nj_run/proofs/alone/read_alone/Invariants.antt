use Rattle.nj_run.specs.Alone.{Passes}
use Rattle.nj_run.proofs.alone.read_alone.Given as goal

-- so far time went by
abbrev pub invariant-loop : goal.invariant-loop
invariant-loop g l = Passes g.S.Texts.tells (g.S.Texts.world l.fn.site) (g.S.Texts.world l.site)
