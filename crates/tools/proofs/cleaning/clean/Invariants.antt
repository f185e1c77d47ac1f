use Rattle.tools.specs.Moves.{RemovesOf}
use Rattle.tools.proofs.cleaning.clean.Given as goal

abbrev pub invariant-loop-place : goal.invariant-loop-place
invariant-loop-place g l = RemovesOf g.S.Texts.tells l.only_count l.paths (g.S.Texts.world l.fn.site) (g.S.Texts.world l.site)
