use Rattle.model.specs.Calls.{OnlyLooks}
use Rattle.ninja_asked.proofs.answers.query_each.Given as goal

-- so far there was only looked
abbrev pub invariant-loop-path : goal.invariant-loop-path
invariant-loop-path g l = OnlyLooks g.S.Texts.tells (g.S.Texts.world l.fn.site) (g.S.Texts.world l.site)
