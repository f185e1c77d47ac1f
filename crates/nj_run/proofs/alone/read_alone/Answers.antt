use Rattle.nj_run.proofs.Passing.{read_passes}
use Rattle.nj_run.proofs.alone.read_alone.Goals as goal

pub loop-preserved : goal.loop-preserved
loop-preserved g c =
    read_passes g.S.Texts.tells c.args.options.now (g.S.Texts.world c.args.site.now) (g.S.Texts.world c.loop.site) (g.S.Texts.world c.read.new.site) (g.S.Texts.world c.has_waited.new.self)
    c.in_ok-reading.reading c.loop.invariant c.in_ok-reading.ensures.read c.has_waited.ensures
