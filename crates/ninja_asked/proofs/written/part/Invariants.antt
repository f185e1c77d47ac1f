use Rattle.ninja_asked.proofs.Parting.{IsParting}
use Rattle.ninja_asked.proofs.written.part.Given as goal

abbrev pub invariant-loop-place : goal.invariant-loop-place
invariant-loop-place g l = IsParting g.S.Texts.tells (g.S.Texts.world l.fn.site) (g.S.Texts.world l.site) l.notes l.paths l.place l.parted
