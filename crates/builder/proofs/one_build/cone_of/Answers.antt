use Rattle.std.proofs.Common.{List, ℕ, inr, refl, sym, ◌∙◌, subst}
use Rattle.model.specs.Records.{recorded_inputs}
use Rattle.graph.specs.Targets.{IsConeFor}
use Rattle.graph.specs.Told.{declared_by, recorded_by, AreSameInputs}
use Rattle.model.specs.declared.graph.BuildGraph.{BuildGraph}
use Rattle.builder.proofs.one_build.cone_of.Goals as goal

pub returns-in-Ok-clause-cone : goal.returns-in-Ok-clause-cone
returns-in-Ok-clause-cone c store in_use =
    let graph = c.args.graph.now in
    let edges = (declared_by graph).edges in
    subst (λ (l : List (List ℕ)). IsConeFor graph (recorded_inputs store edges) l c.in-Ok.cone) c.as_slice.ensures (c.in-Ok.ensures.cone (recorded_inputs store edges) in_use)

pub returns-in_ok-refusal-in-Err-clause-refused : goal.returns-in_ok-refusal-in-Err-clause-refused
returns-in_ok-refusal-in-Err-clause-refused c = inr (
  c.in_ok-refusal-in-Err.field-0,
  refl,
  record {
    fault = c.in-Err.fault;
    shows = c.in_ok-refusal-in-Err.ensures;
    is = λ asked store declared graph targets in_use.
        c.in-Err.ensures.fault asked store declared graph (targets ∙ sym {A = List (List ℕ)} c.as_slice.ensures)
        (subst (λ (g : BuildGraph). AreSameInputs (recorded_inputs store g.edges) (recorded_by c.args.graph.now)) (sym {A = BuildGraph} graph) in_use);
  },
)
