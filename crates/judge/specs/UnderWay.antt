-- A build under way, of which it is asked what is due.
use Rattle.std.specs.Prelude.{◌≡◌, ℕ, suc, Bool, true, false, if◌then◌else◌, List, Option, Some, None}
use Rattle.model.specs.Graph.{has_number, IsCommand}
use Rattle.model.specs.Records.{Store, recorded_inputs}
use Rattle.model.specs.Schedule.{Step, judged_in}
use Rattle.theory.specs.Order.{IsOrderly}
use Rattle.paths.specs.Told.{texts_at}
use Rattle.graph.specs.declared.cone.Cone.{Cone}
use Rattle.graph.specs.declared.graph.Graph.{Graph}
use Rattle.graph.specs.Linked.{IsConeOf}
use Rattle.graph.specs.Links.{links_of}
use Rattle.graph.specs.Told.{declared_by}
use Rattle.plan.specs.declared.plan.Plan.{Plan}
use Rattle.plan.specs.declared.step.Standing.{Standing}
use Rattle.plan.specs.declared.step.Standing.TheVariants.{Outside, Unjudged, Clean, OutOfDate, Running, Well, Failed, Alias, Known}
use Rattle.plan.specs.Standing.{standing_at}
use Rattle.plan.specs.Planned.{standing_in}
use Rattle.records.specs.declared.records.Records.{Records}
use Rattle.judge.specs.Stores.{IsStoreOf}

-- whether a command that stands here was judged out of date; None where it was not judged
abbrev pub was_due : Standing → Option Bool
was_due Outside = None
was_due Unjudged = None
was_due Clean = Some false
was_due OutOfDate = Some true
was_due Running = Some true
was_due Well = Some true
was_due Failed = Some true
was_due Alias = None
was_due Known = None

-- so it is of the edge that counts as e in the code, by where it stands in the plan; None of a phony edge
abbrev pub judged_due : Graph → Plan → ℕ → Option Bool
judged_due graph plan e = if (links_of graph).phony e then None else was_due (standing_at plan.standings.items e)

-- the edge, if it has a command, was not judged by these steps
abbrev pub IsUnjudged : Graph → List Step → ℕ → Type 0
IsUnjudged graph before e = IsCommand (declared_by graph).edges (suc e) → has_number (judged_in before) (suc e) ≡ false

-- in the plan the edge that counts as e in the code, if it has a command, stands where these steps have left it
abbrev pub StandsIn : Graph → Plan → List Step → ℕ → Type 0
StandsIn graph plan before e = IsCommand (declared_by graph).edges (suc e) → standing_at plan.standings.items e ≡ standing_in before (suc e)

-- These steps were done of a build of these targets: the store has the records that were read, the cone is that of the targets, and
-- the plan tells where the commands of the cone stand.
pub record IsUnderWay (graph : Graph) (records : Records) (cone : Cone) (plan : Plan) (store : Store) (targets : List (List ℕ)) (before : List Step) : Type 0 where
  pub known : IsStoreOf graph records store
  pub listed : IsConeOf (declared_by graph).edges (recorded_inputs store (declared_by graph).edges) targets cone.order.items cone.marks.items
  pub numbers : texts_at graph.manifest.paths cone.targets.items ≡ targets
  pub orderly : IsOrderly (declared_by graph).edges before
  pub stands : (e : ℕ) → has_number cone.order.items e ≡ true → StandsIn graph plan before e
