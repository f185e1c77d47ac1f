use Rattle.graph.specs.Told.{declared_by}
use Rattle.seen_drive.proofs.Ended.{seen_ended}
use Rattle.seen_drive.proofs.one_build.build_linked.Goals as goal

pub returns-clause-ended : goal.returns-clause-ended
returns-clause-ended g c =
    seen_ended c.builds_end.ensures g.S.Texts.tells (declared_by c.args.graph) c.args.asked.now (g.S.Texts.world c.args.site) (g.S.Texts.world c.build_seen.result.1) c.build_seen.result.0
    c.requires.idle c.build_seen.ensures
