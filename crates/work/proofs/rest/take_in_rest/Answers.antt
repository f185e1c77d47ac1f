use Rattle.work.proofs.After.{after_same}
use Rattle.work.proofs.rest.take_in_rest.Goals as goal

pub returns-then-is_final-clause-grows : goal.returns-then-is_final-clause-grows
returns-then-is_final-clause-grows g c = after_same g.S.Texts.tells (g.S.Texts.world c.args.site.now)
