-- The clean build of files that agree on what no command makes.
use Rattle.std.proofs.Common.{◌≡◌, inl, inr, ℕ, Bool, true, false, if◌then◌else◌, List, [], Option, Some, None, is_some, length, refl, sym, ◌∙◌, ap, subst}
use Rattle.std.proofs.lemmas.Bool.{cases_Bool, false≢true}
use Rattle.model.specs.declared.graph.Edge.{Edge}
use Rattle.model.specs.Clean.{clean_build, if_no_command, rounds, sources_of}
use Rattle.model.specs.Graph.{edge_at, maker, Addition, IsCommand, IsMadeOnce}
use Rattle.model.specs.Outcome.{Behaviour}
use Rattle.model.specs.Phases.{Phase, IsLawfulBuild}
use Rattle.model.specs.Records.{OwnFiles, Store}
use Rattle.model.specs.Schedule.{Step, Task}
use Rattle.model.specs.SingleBuild.{Answer, Asked, Success, Failed, Unknown, Cyclic, MissingTarget, MissingInput, MadeTwice, NoDyndepInput, Refused, Fault, IsAnswer, IsSuccess}
use Rattle.model.specs.World.{View, World}
use Rattle.seen.specs.declared.counts.Counts.{Counts}
use Rattle.theory.proofs.Growth.{HasGrown}
use Rattle.theory.proofs.Loads.{rest_has_grown}
use Rattle.theory.proofs.Makers.{maker_is}
use Rattle.seen.specs.Makers.{maker_of}
use Rattle.seen_builds.specs.Makes.{KnowsMakers}
use Rattle.seen_builds.specs.Runs.{is_made_in}

none_some : {X : Type 0} {x : X} → None ≡ Some x → ⊥
none_some e = cc

some_same : {X : Type 0} {x y : X} → Some x ≡ Some y → x ≡ y
some_same e = cc

true_false : {b : Bool} → b ≡ true → b ≡ false → ⊥
true_false yes_is no_is = false≢true (sym no_is ∙ yes_is)

-- ---- the edges at the end

-- what dyndep files add comes behind what build files declare
pub grown_since : (reading : List ℕ → Option (List Addition)) (texts : View) (declared : List Edge) (task : Task) (store : Store) (steps : List Step)
    → IsLawfulBuild reading texts declared task store steps → HasGrown declared task.graph.edges
grown_since reading texts declared task store steps build =
    subst (λ (es : List Edge). HasGrown es task.graph.edges) build.begins (rest_has_grown reading texts declared task store [] build.earlier build.phases)

-- where a build succeeds no path is made twice by them
pub success_once : (tells : Bool) (B : Behaviour) (own : OwnFiles) (texts : View) (asked : Asked) (store : Store) (phases : List Phase) (done steps : List Step) (old new : World) (answer : Answer)
    → IsSuccess answer → IsAnswer tells B own texts asked store phases done steps old new answer → IsMadeOnce asked.graph.edges
success_once tells B own texts asked store phases done steps old new (Success started) well is = is.0.made_once
success_once tells B own texts asked store phases done steps old new (Failed outputs) well is = absurd well
success_once tells B own texts asked store phases done steps old new (Unknown path) well is = absurd well
success_once tells B own texts asked store phases done steps old new (Cyclic paths) well is = absurd well
success_once tells B own texts asked store phases done steps old new (MissingTarget path) well is = absurd well
success_once tells B own texts asked store phases done steps old new (MissingInput path output) well is = absurd well
success_once tells B own texts asked store phases done steps old new (MadeTwice path) well is = absurd well
success_once tells B own texts asked store phases done steps old new (NoDyndepInput path) well is = absurd well
success_once tells B own texts asked store phases done steps old new Refused well is = absurd well
success_once tells B own texts asked store phases done steps old new (Fault fault) well is = absurd well

-- ---- what no command makes

some_job : (maker : Option ℕ) → is_some maker ≡ true → (job : ℕ) × (maker ≡ Some job)
some_job None is = absurd (false≢true is)
some_job (Some job) is = (job, refl)

module _ (edges : List Edge) (once : IsMadeOnce edges) (k : Counts) (told real : View) (knows : KnowsMakers k.makers edges)
    (sources : (p : List ℕ) → is_made_in k p ≡ false → told p ≡ real p) where
  -- what no command of these edges makes is told as it is
  unmade : (p : List ℕ) → ((i : ℕ) → maker edges p ≡ Some i → IsCommand edges i → ⊥) → told p ≡ real p
  unmade p none = elim (cases_Bool (is_made_in k p)) [
    | inl made ↦
        let some = some_job (maker_of k.makers p) made in
        let is = knows p some.0 some.1 in
        absurd (none some.0 (maker_is edges p some.0 once is.0) is.1)
    | inr free ↦ sources p free
  ]

  same_source : (p : List ℕ) → sources_of edges told p ≡ sources_of edges real p
  same_source p = by (maker edges p) refl
    where
      by_phony : (i : ℕ) (phony : Bool) → maker edges p ≡ Some i → (edge_at edges i).phony ≡ phony
          → (if phony then told p else None) ≡ (if phony then real p else None)
      by_phony i true made is =
          unmade p (λ j other command. true_false (ap (λ (n : ℕ). (edge_at edges n).phony) (some_same (sym other ∙ made)) ∙ is) command)
      by_phony i false made is = refl

      by : (made : Option ℕ) → maker edges p ≡ made → if_no_command edges (told p) made ≡ if_no_command edges (real p) made
      by None is = unmade p (λ j other command. none_some (sym is ∙ other))
      by (Some i) is = by_phony i (edge_at edges i).phony is refl

  pub clean_same : (B : Behaviour) (o : List ℕ) → clean_build B edges told o ≡ clean_build B edges real o
  clean_same B o =
      let same : sources_of edges told ≡ sources_of edges real = λ i p. same_source p i in
      ap (λ (s : View). rounds B edges s (length edges) o) same
