-- Builds that load dyndep files: without such files there is one phase, and the steps of any such build are orderly.
use Rattle.std.proofs.Common.{◌≡◌, inl, ℕ, List, [], ◌∷◌, ◌++◌, Option, Some, None, refl, sym, ◌∙◌, subst}
use Rattle.std.proofs.lemmas.List.{append-nil}
use Rattle.model.specs.declared.graph.Edge.{Edge}
use Rattle.model.specs.World.{View}
use Rattle.model.specs.Graph.{edge_at, IsMadeOnce, Addition}
use Rattle.model.specs.Records.{Store}
use Rattle.model.specs.Schedule.{Task, Step, Judged, Started, Ended, IsLawful}
use Rattle.model.specs.Phases.{Phase, NoLoadIsDue, AreUnloadedFrom, task_with, steps_of, next_edges, ArePhasesFrom, IsLawfulBuild}
use Rattle.theory.specs.Order.{IsOrderlyStep, IsOrderlyFrom, IsOrderly}
use Rattle.theory.proofs.Orderly.{orderly_from}
use Rattle.theory.proofs.Growth.{HasGrown, grown_same, grown_further, grown_by, once_back}
use Rattle.theory.proofs.Walked.{orderly_join, taken_in_orderly}

-- ---- without dyndep files

differ : (file : List ℕ) → Some file ≡ None → ⊥
differ file is = cc

pub none_is_due : (task : Task) (before : List Step) → ((i : ℕ) → (edge_at task.graph.edges i).dyndep ≡ None) → NoLoadIsDue task before
none_is_due task before none file due = differ file (sym due.names ∙ none due.edge)

pub unloaded_from : (task : Task) (before steps : List Step) → ((i : ℕ) → (edge_at task.graph.edges i).dyndep ≡ None) → AreUnloadedFrom task before steps
unloaded_from task before [] none = tt
unloaded_from task before (step ∷ steps) none = (none_is_due task before none, unloaded_from task (before ++ step ∷ []) steps none)

-- where no edge names a dyndep file, a lawful schedule is a build of one phase
abbrev pub one_phase : (reading : List ℕ → Option (List Addition)) (texts : View) (declared : List Edge) (task : Task) (store : Store) (steps : List Step) → task.graph.edges ≡ declared
    → ((i : ℕ) → (edge_at task.graph.edges i).dyndep ≡ None) → IsLawful task steps → IsLawfulBuild reading texts declared task store steps
one_phase reading texts declared task store steps same none lawful = record {
  earlier = [];
  last = steps;
  taken_in = [];
  whole = sym (append-nil steps);
  begins = same;
  phases = tt;
  lawful = record { lawful = lawful; unloaded = unloaded_from task [] steps none };
  rest = tt;
  cause = inl refl;
}

-- ---- with them

module _ (reading : List ℕ → Option (List Addition)) (texts : View) (declared : List Edge) (task : Task) (store : Store) where
  pub rest_has_grown : (before : List Step) (phases : List Phase) → ArePhasesFrom reading texts task store before phases → HasGrown (next_edges phases task.graph.edges) task.graph.edges
  rest_has_grown before [] lawful = grown_same task.graph.edges
  rest_has_grown before (phase ∷ phases) lawful =
      grown_further phase.edges (next_edges phases task.graph.edges) task.graph.edges
      (grown_by lawful.1.file lawful.1.additions phase.edges (next_edges phases task.graph.edges) lawful.1.grown)
      (rest_has_grown (before ++ phase.steps) phases lawful.3)

  -- where no path is made twice at the end, none was by the build files
  pub declared_once : (steps : List Step) → IsLawfulBuild reading texts declared task store steps → IsMadeOnce task.graph.edges → IsMadeOnce declared
  declared_once steps build once = subst (λ (es : List Edge). IsMadeOnce es) build.begins
      (once_back (next_edges build.earlier task.graph.edges) task.graph.edges (rest_has_grown [] build.earlier build.phases) once)

  orderly_step_moved : (few many : List Edge) → HasGrown few many → (before : List Step) (s : Step) → IsOrderlyStep few before s → IsOrderlyStep many before s
  orderly_step_moved few many grown before (Judged i b) orderly = (grown.phony i ∙ orderly.0, orderly.1)
  orderly_step_moved few many grown before (Started i) orderly = orderly
  orderly_step_moved few many grown before (Ended i w) orderly = orderly

  orderly_moved : (few many : List Edge) → HasGrown few many → (before steps : List Step) → IsOrderlyFrom few before steps → IsOrderlyFrom many before steps
  orderly_moved few many grown before [] orderly = tt
  orderly_moved few many grown before (s ∷ steps) orderly = (orderly_step_moved few many grown before s orderly.0, orderly_moved few many grown (before ++ s ∷ []) steps orderly.1)

  abbrev Any : ℕ → List ℕ → Type 0
  Any i p = Unit {0}

  phases_orderly : (before : List Step) (phases : List Phase) → ArePhasesFrom reading texts task store before phases → IsOrderlyFrom task.graph.edges before (steps_of phases)
  phases_orderly before [] lawful = tt
  phases_orderly before (phase ∷ phases) lawful =
      orderly_join task.graph.edges Any before phase.steps (steps_of phases)
      (orderly_moved phase.edges task.graph.edges (rest_has_grown before (phase ∷ phases) lawful) before phase.steps (orderly_from (task_with task store phase.edges) before phase.steps lawful.0.lawful))
      (phases_orderly (before ++ phase.steps) phases lawful.3)

  -- the steps of a build are orderly, over the edges of its end
  pub build_is_orderly : (steps : List Step) → IsLawfulBuild reading texts declared task store steps → IsOrderly task.graph.edges steps
  build_is_orderly steps build = subst (λ (l : List Step). IsOrderly task.graph.edges l) (sym build.whole)
      (orderly_join task.graph.edges Any [] (steps_of build.earlier) (build.last ++ build.taken_in) (phases_orderly [] build.earlier build.phases)
      (orderly_join task.graph.edges Any (steps_of build.earlier) build.last build.taken_in (orderly_from task (steps_of build.earlier) build.last build.lawful.lawful)
      (taken_in_orderly task.graph.edges Any (steps_of build.earlier ++ build.last) build.taken_in build.rest)))

-- ---- the premise without dyndep files
