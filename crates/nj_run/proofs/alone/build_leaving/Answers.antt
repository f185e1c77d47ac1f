use Rattle.std.proofs.Common.{List, ℕ, sym, ap, subst}
use Rattle.model.specs.declared.graph.BuildGraph.{BuildGraph}
use Rattle.model.specs.Graph.{IsMadeOnce}
use Rattle.model.specs.SingleBuild.{NamesOther}
use Rattle.manifest.specs.Answer.{IsGraph}
use Rattle.paths.specs.Told.{graph_of}
use Rattle.builder.specs.Build.{BuildsFor}
use Rattle.builder.specs.Parts.{IsReportOfNoGraph}
use Rattle.nj_run.proofs.alone.build_leaving.Goals as goal

-- where the edges make no graph, that is the report whatever is asked for
pub returns : goal.returns
returns g c =
    let graph = graph_of c.args.reading.manifest in
    let asked = c.args.reading.asked in
    let always = subst (λ (f : List ℕ). IsReportOfNoGraph f c.args.reading.manifest c.in-Err.report) c.as_str.ensures c.in-Err.ensures.refused in (
      graph.edges,
      λ B format own entry depfiles dyndeps reads owned idle looked.
          always g.S.Texts.tells B format own asked.limits asked.given.now asked.targets entry (g.S.Texts.world c.args.site.now) idle looked,
    )

-- the graph is that of what was read
pub build_graph_holding-requires : goal.build_graph_holding-requires
build_graph_holding-requires g c =
    let same = sym {A = BuildGraph} (ap graph_of c.in-Ok.ensures.manifest) in
    record {
      idle = c.requires.idle;
      running = c.requires.running;
      formed = subst (λ (b : BuildGraph). IsGraph b) same c.requires.formed;
      linked = record {
        once = subst (λ (b : BuildGraph). IsMadeOnce b.edges) same c.in-Ok.ensures.once;
        inputs = subst (λ (b : BuildGraph). (file : List ℕ) → NamesOther b.edges file → ⊥) same c.in-Ok.ensures.dyndep;
        unrecorded = c.in-Ok.ensures.recorded;
      };
    }

pub returns-in-Ok : goal.returns-in-Ok
returns-in-Ok g c = (
  c.build_graph_holding.ensures.0,
  subst (λ (b : BuildGraph). BuildsFor g.S.Texts.tells b c.args.reading.asked c.build_graph_holding.ensures.0 (g.S.Texts.world c.args.site.now) (g.S.Texts.world c.build_graph_holding.new.site) c.build_graph_holding.result.0)
      (ap graph_of c.in-Ok.ensures.manifest) c.build_graph_holding.ensures.1,
)
