-- How callers come to what is asked, and what they get.
use Rattle.std.proofs.Common.{◌≡◌, ℕ, suc, true, List, sym, subst}
use Rattle.model.specs.declared.graph.Edge.{Edge}
use Rattle.model.specs.Graph.{has_number, IsCommand}
use Rattle.model.specs.Reading.{IsInCone}
use Rattle.model.specs.Records.{Store, recorded_inputs}
use Rattle.model.specs.Schedule.{Task, Step}
use Rattle.theory.specs.Order.{IsOrderly}
use Rattle.paths.specs.Told.{texts_at}
use Rattle.graph.specs.declared.cone.Cone.{Cone}
use Rattle.graph.specs.declared.graph.Graph.{Graph}
use Rattle.graph.specs.Linked.{IsConeOf}
use Rattle.graph.specs.Told.{declared_by}
use Rattle.plan.specs.declared.plan.Plan.{Plan}
use Rattle.plan.specs.Planned.{IsPlanned, AreTaken}
use Rattle.records.specs.declared.records.Records.{Records}
use Rattle.judge.specs.Stores.{IsStoreOf}
use Rattle.judge.specs.UnderWay.{IsUnderWay}

module _ (graph : Graph) (records : Records) (cone : Cone) (plan : Plan) (store : Store) (known : IsStoreOf graph records store) (targets : List (List ℕ)) (task : Task) (same : task.graph.edges ≡ (declared_by graph).edges)
    (recorded : task.recorded ≡ recorded_inputs store (declared_by graph).edges) (wanted : task.targets ≡ targets)
  where
    abbrev edges : List Edge
    edges = (declared_by graph).edges

    -- where the plan is that of these steps, they are those of a build under way
    pub under_way : (before : List Step) → IsPlanned task graph plan before → AreTaken task before → IsConeOf edges (recorded_inputs store edges) targets cone.order.items cone.marks.items
        → texts_at graph.manifest.paths cone.targets.items ≡ targets → IsUnderWay graph records cone plan store targets before
    under_way before planned taken listed numbers = record {
      known = known;
      listed = listed;
      numbers = numbers;
      orderly = subst (λ (es : List Edge). IsOrderly es before) same taken.orderly;
      stands = λ e h command. planned.stands e (within e h) (subst (λ (es : List Edge). IsCommand es (suc e)) (sym same) command);
    }
      where
        within : (e : ℕ) → has_number cone.order.items e ≡ true → IsInCone task.graph.edges task.recorded task.targets (suc e)
        within e h =
            subst (λ (es : List Edge). IsInCone es task.recorded task.targets (suc e)) (sym same)
            (subst (λ (r : ℕ → List (List ℕ)). IsInCone edges r task.targets (suc e)) (sym recorded) (subst (λ (ts : List (List ℕ)). IsInCone edges (recorded_inputs store edges) ts (suc e)) (sym wanted) (listed.within e h)))
