use Rattle.std.proofs.Common.{List, ℕ, sym, ap, subst}
use Rattle.model.specs.declared.graph.BuildGraph.{BuildGraph}
use Rattle.model.specs.Graph.{IsMadeOnce}
use Rattle.model.specs.SingleBuild.{NamesOther}
use Rattle.theory.proofs.Looks.{looks_nothing}
use Rattle.manifest.specs.Answer.{IsGraph}
use Rattle.paths.specs.Told.{graph_of}
use Rattle.builder.specs.Explained.{ExplainsBuild}
use Rattle.builder.proofs.Values.{if_ok_then}
use Rattle.builder.proofs.explaining.explain_read.Goals as goal

pub returns-in_err-graph-clause-looks : goal.returns-in_err-graph-clause-looks
returns-in_err-graph-clause-looks g c = looks_nothing g.S.Texts.tells (g.S.Texts.world c.args.site.now)

pub explain_linked-requires : goal.explain_linked-requires
explain_linked-requires g c =
    let same = sym {A = BuildGraph} (ap graph_of c.in_ok-graph.ensures.manifest) in
    record {
      idle = c.requires.idle;
      running = c.requires.running;
      formed = subst (λ (b : BuildGraph). IsGraph b) same c.requires.formed;
      linked = record {
        once = subst (λ (b : BuildGraph). IsMadeOnce b.edges) same c.in_ok-graph.ensures.once;
        inputs = subst (λ (b : BuildGraph). (file : List ℕ) → NamesOther b.edges file → ⊥) same c.in_ok-graph.ensures.dyndep;
        unrecorded = c.in_ok-graph.ensures.recorded;
      };
    }

pub returns-clause-explains : goal.returns-clause-explains
returns-clause-explains g c =
    if_ok_then c.explain_linked.result c.explain_linked.ensures.explains
    (λ explained so. subst (λ (b : BuildGraph). ExplainsBuild g.S.Texts.tells b c.args.reading.asked (g.S.Texts.world c.args.site.now) (g.S.Texts.world c.explain_linked.new.site) explained.commands.items) (ap graph_of c.in_ok-graph.ensures.manifest) so)
