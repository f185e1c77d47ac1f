use Rattle.std.proofs.Common.{ap}
use Rattle.graph.specs.Told.{declared_by}
use Rattle.seen_builds.proofs.Over.{idle_over, running_over, is_over}
use Rattle.seen_builds.proofs.build.build_over.Goals as goal

pub over-seen-requires : goal.over-seen-requires
over-seen-requires g c = record {
  unbegun = c.requires.unbegun;
  knows = c.requires.knows;
  first = c.requires.first;
  begins = c.requires.begins;
  enters = c.requires.enters;
}

pub build_graph_read-report-requires : goal.build_graph_read-report-requires
build_graph_read-report-requires g c =
    let old = g.S.Texts.world c.args.site in
    let first = g.S.Texts.world c.over-seen.result.retold.site in
    record {
      idle = idle_over g.S.Texts.tells g.B.Beginning.begun old first (ap g.S.Texts.world c.over-seen.ensures) c.requires.idle;
      running = running_over g.S.Texts.tells g.B.Beginning.begun old first (ap g.S.Texts.world c.over-seen.ensures) c.requires.running;
      formed = c.requires.formed;
      linked = c.requires.linked;
    }

pub returns : goal.returns
returns g c =
    is_over g.S.Texts.tells g.B.Beginning.begun (g.S.Texts.world c.args.site) (g.S.Texts.world c.over-seen.result.retold.site) (ap g.S.Texts.world c.over-seen.ensures)
    (declared_by c.args.graph) c.args.asked.now (g.S.Texts.world c.into_site.result) (g.S.Texts.world c.build_graph_read-report.new.site.retold.site) c.build_graph_read-report.result
    (ap g.S.Texts.world c.into_site.ensures) c.build_graph_read-report.new.site.retold.so_far c.build_graph_read-report.ensures
    c.build_graph_read-report.new.site.retold.stand
