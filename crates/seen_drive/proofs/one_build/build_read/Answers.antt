use Rattle.std.proofs.Common.{ℕ, List, ap, subst, sym}
use Rattle.model.specs.declared.graph.BuildGraph.{BuildGraph}
use Rattle.model.specs.Graph.{IsMadeOnce}
use Rattle.model.specs.SingleBuild.{NamesOther}
use Rattle.paths.specs.Told.{graph_of}
use Rattle.seen_drive.proofs.one_build.build_read.Goals as goal

-- the graph is that of what was read
pub build_linked-requires-clause-linked : goal.build_linked-requires-clause-linked
build_linked-requires-clause-linked g c =
    let same = sym {A = BuildGraph} (ap graph_of c.in-Ok.ensures.manifest) in
    record {
      once = subst (λ (b : BuildGraph). IsMadeOnce b.edges) same c.in-Ok.ensures.once;
      inputs = subst (λ (b : BuildGraph). (file : List ℕ) → NamesOther b.edges file → ⊥) same c.in-Ok.ensures.dyndep;
      unrecorded = c.in-Ok.ensures.recorded;
    }
