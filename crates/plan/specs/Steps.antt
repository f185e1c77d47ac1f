-- What steps make of standings, and what standings tell of steps.
use Rattle.std.specs.Prelude.{◌≡◌, ◌≢◌, ◌↔◌, ℕ, suc, Bool, true, false, List, [], ◌∷◌, ◌++◌, length, count_by}
use Rattle.model.specs.Graph.{has_number, IsCommand}
use Rattle.model.specs.Reading.{IsInCone}
use Rattle.model.specs.Schedule.{Task, Step, Judged, Started, Ended, judged_in, out_of_date_in, started_in, running_in, failed_in, done_in, IsLawfulStep}
use Rattle.plan.specs.declared.step.Standing.{Standing}
use Rattle.plan.specs.declared.step.Standing.TheVariants.{Outside, Unjudged, Clean, OutOfDate, Running, Well, Failed}
use Rattle.plan.specs.Standing.{standing_at, is_running, is_failed, is_settled}
use Rattle.plan.specs.Planned.{standing_in, AreTaken}

-- the edge that a step is of
abbrev pub edge_of : Step → ℕ
edge_of (Judged i stale) = i
edge_of (Started i) = i
edge_of (Ended i ok) = i

-- where a step leaves its edge
abbrev pub left_by : Step → Standing
left_by (Judged i true) = OutOfDate
left_by (Judged i false) = Clean
left_by (Started i) = Running
left_by (Ended i true) = Well
left_by (Ended i false) = Failed

-- a lawful step moves its edge, and a step leaves all others where they stand
pub record StepsMove : Type 0 where
  pub own : (task : Task) (steps : List Step) (step : Step) → AreTaken task steps → IsLawfulStep task steps step → standing_in (steps ++ step ∷ []) (edge_of step) ≡ left_by step
  pub others : (steps : List Step) (step : Step) (i : ℕ) → edge_of step ≢ i → standing_in (steps ++ step ∷ []) i ≡ standing_in steps i

-- where an edge stands after steps tells what was done with it
pub record StandingsTell : Type 0 where
  pub unjudged : (task : Task) (steps : List Step) (i : ℕ) → AreTaken task steps → standing_in steps i ≡ Unjudged ↔ has_number (judged_in steps) i ≡ false
  pub out_of_date : (task : Task) (steps : List Step) (i : ℕ) → AreTaken task steps → standing_in steps i ≡ OutOfDate ↔ (has_number (out_of_date_in steps) i ≡ true) × (has_number (started_in steps) i ≡ false)
  pub running : (task : Task) (steps : List Step) (i : ℕ) → AreTaken task steps → is_running (standing_in steps i) ≡ has_number (running_in steps) i
  pub failed : (task : Task) (steps : List Step) (i : ℕ) → AreTaken task steps → is_failed (standing_in steps i) ≡ has_number (failed_in steps) i
  pub done : (task : Task) (steps : List Step) (i : ℕ) → AreTaken task steps → has_number (done_in steps) i ≡ true → is_settled (standing_in steps i) ≡ true

-- ---- lists of edges

-- each number stands once
abbrev pub IsOnce : List ℕ → Type 0
IsOnce [] = Unit {0}
IsOnce (x ∷ xs) = (has_number xs x ≡ false) × IsOnce xs

-- the list names commands of the cone, each once
pub record AreCommands (task : Task) (list : List ℕ) : Type 0 where
  pub within : (i : ℕ) → has_number list i ≡ true → IsInCone task.graph.edges task.recorded task.targets i
  pub commands : (i : ℕ) → has_number list i ≡ true → IsCommand task.graph.edges i
  pub positive : has_number list 0 ≡ false
  pub once : IsOnce list

-- what runs or has failed after steps are commands of the cone
pub record StepsName : Type 0 where
  pub running : (task : Task) (steps : List Step) → AreTaken task steps → AreCommands task (running_in steps)
  pub failed : (task : Task) (steps : List Step) → AreTaken task steps → AreCommands task (failed_in steps)

-- as many edges pass a test as a list names, which names just these
abbrev pub ListsCount : Type 0
ListsCount =
    (test : Standing → Bool) (standings : List Standing) (list : List ℕ) → test Outside ≡ false → IsOnce list → has_number list 0 ≡ false → ((e : ℕ) → test (standing_at standings e) ≡ has_number list (suc e))
    → count_by test standings ≡ length list
