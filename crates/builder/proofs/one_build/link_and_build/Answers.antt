use Rattle.std.proofs.Common.{List, ℕ, sym, ap, subst}
use Rattle.model.specs.declared.graph.BuildGraph.{BuildGraph}
use Rattle.model.specs.Graph.{IsMadeOnce}
use Rattle.model.specs.SingleBuild.{NamesOther}
use Rattle.manifest.specs.Answer.{IsGraph}
use Rattle.paths.specs.Told.{graph_of}
use Rattle.work.specs.declared.report.Report.{Report}
use Rattle.builder.specs.Build.{Builds, BuildsFor}
use Rattle.builder.specs.Parts.{IsReportOfNoGraph}
use Rattle.builder.proofs.Stages.{told_by}
use Rattle.builder.proofs.one_build.link_and_build.Goals as goal

pub returns-in_err-graph : goal.returns-in_err-graph
returns-in_err-graph g c =
    let tells = g.S.Texts.tells in
    let manifest = c.args.reading.manifest in
    let graph = graph_of manifest in
    let asked = c.args.reading.asked in
    let old = g.S.Texts.world c.args.site.now in
    let told = c.in_err-graph.field-0.0 in
    let always = subst (λ (f : List ℕ). IsReportOfNoGraph f manifest told) c.as_str.ensures c.in_err-graph.ensures.refused in (
      graph.edges,
      λ B format own entry depfiles dyndeps reads owned idle looked.
          subst (λ (r : Report). Builds tells B format own graph asked.folder asked.limits asked.given.now asked.targets graph.edges entry old r) (sym {A = Report} (told_by told c.from_residual.result c.from_residual.ensures.1))
          (always tells B format own asked.limits asked.given.now asked.targets entry old idle looked),
    )

-- the graph is that of what was read
pub build_graph_read-report-requires : goal.build_graph_read-report-requires
build_graph_read-report-requires g c =
    let same = sym {A = BuildGraph} (ap graph_of c.in_ok-graph.ensures.manifest) in
    record {
      idle = c.requires.idle;
      running = c.requires.running;
      formed = subst (λ (b : BuildGraph). IsGraph b) same c.requires.formed;
      linked = record {
        once = subst (λ (b : BuildGraph). IsMadeOnce b.edges) same c.in_ok-graph.ensures.once;
        inputs = subst (λ (b : BuildGraph). (file : List ℕ) → NamesOther b.edges file → ⊥) same c.in_ok-graph.ensures.dyndep;
        unrecorded = c.in_ok-graph.ensures.recorded;
      };
    }

pub returns : goal.returns
returns g c = (
  c.build_graph_read-report.ensures.0,
  subst (λ (b : BuildGraph). BuildsFor g.S.Texts.tells b c.args.reading.asked c.build_graph_read-report.ensures.0 (g.S.Texts.world c.args.site.now) (g.S.Texts.world c.build_graph_read-report.new.site) c.build_graph_read-report.result)
      (ap graph_of c.in_ok-graph.ensures.manifest) c.build_graph_read-report.ensures.1,
)
