use Rattle.std.proofs.Common.{ap}
use Rattle.seen.specs.Begun.{plainly_begun}
use Rattle.nj_run.proofs.Passing.{idle_at, looks_from}
use Rattle.nj_run.proofs.program.explain_over.Goals as goal

pub explain_on-explained-requires : goal.explain_on-explained-requires
explain_on-explained-requires g c = record { idle = idle_at g.S.Texts.tells plainly_begun _ (g.S.Texts.world c.args.site) c.requires.untold (ap g.S.Texts.world c.new-seen.ensures) c.requires.idle }

pub returns : goal.returns
returns g c = looks_from g.S.Texts.tells plainly_begun _ (g.S.Texts.world c.args.site) _ c.requires.untold (ap g.S.Texts.world c.new-seen.ensures) c.explain_on-explained.ensures
