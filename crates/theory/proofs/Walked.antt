-- A build in phases, from its first step to its last.
use Rattle.std.proofs.Common.{◌≡◌, inl, inr, ℕ, Bool, true, List, [], ◌∷◌, ◌++◌, Option, Some, None, refl, sym, ◌∙◌, subst, append_assoc}
use Rattle.std.proofs.lemmas.List.{append-nil}
use Rattle.std.proofs.lemmas.Bool.{false≢true}
use Rattle.model.specs.declared.event.Moment.{Moment}
use Rattle.model.specs.declared.graph.Edge.{Edge}
use Rattle.model.specs.World.{View}
use Rattle.model.specs.Graph.{has, has_number, edge_at, inputs, IsMadeOnce, Addition}
use Rattle.model.specs.Outcome.{Behaviour}
use Rattle.model.specs.Records.{Store, recorded_inputs}
use Rattle.model.specs.Schedule.{Task, Step, Judged, Started, Ended, judged_in, clean_in, well_in, done_in, IsLawfulFrom}
use Rattle.model.specs.Phases.{Phase, AreUnloadedFrom, AreTakenIn, task_with, steps_of, next_edges, ArePhasesFrom, IsLawfulBuild}
use Rattle.model.specs.Premises.{Matters, DyndepOutputsAreReadBelow}
use Rattle.theory.specs.Order.{settled_in, IsOrderlyStep, IsOrderlyFrom, IsReadAfter, AreReadFirst}
use Rattle.theory.proofs.Lists.{has_number-right, has_number-cases, has_number-is}
use Rattle.theory.proofs.Steps.{judged-append, settled-append, in_either, in_left, in_right, settled_done, done_settled}
use Rattle.theory.proofs.Orderly.{IsKept, kept_nothing, kept_push, orderly_step}
use Rattle.theory.proofs.Growth.{HasGrown, grown_same, grown_further, grown_by}
use Rattle.model.specs.OutOfDate.{Counted, IsVerdict}
use Rattle.theory.proofs.MadeBefore.{IsRight, right_more, right_here, read_here, counted_here, verdict_here}

-- ---- lists of steps

abbrev pub AreReadFrom : List Edge → (ℕ → List ℕ → Type 0) → List Step → List Step → Type 0
AreReadFrom edges Reads before [] = Unit {0}
AreReadFrom edges Reads before (Judged i b ∷ steps) = IsReadAfter edges Reads (done_in before) i × AreReadFrom edges Reads (before ++ Judged i b ∷ []) steps
AreReadFrom edges Reads before (Started i ∷ steps) = AreReadFrom edges Reads (before ++ Started i ∷ []) steps
AreReadFrom edges Reads before (Ended i w ∷ steps) = AreReadFrom edges Reads (before ++ Ended i w ∷ []) steps

-- a verdict over the edges of then, on any files, is one over the edges of the end; and what was judged before had its file loaded
pub record IsTurned (now last : List Edge) (store : Store) (before : List Step) (i : ℕ) (b : Bool) : Type 0 where
  pub verdict : (entry files : List Moment) → IsVerdict now store (well_in before) entry files i b → IsVerdict last store (well_in before) entry files i b
  pub counted : (files : List Moment) (p : List ℕ) → Counted now store files i p → Counted last store files i p
  pub loaded : (k : ℕ) → has_number (judged_in before) k ≡ true → (edge_at now k).dyndep ≡ None

abbrev pub AreTurnedFrom : List Edge → List Edge → Store → List Step → List Step → Type 0
AreTurnedFrom now last store before [] = Unit {0}
AreTurnedFrom now last store before (Judged i b ∷ steps) = IsTurned now last store before i b
    × AreTurnedFrom now last store (before ++ Judged i b ∷ []) steps
AreTurnedFrom now last store before (Started i ∷ steps) = AreTurnedFrom now last store (before ++ Started i ∷ []) steps
AreTurnedFrom now last store before (Ended i w ∷ steps) = AreTurnedFrom now last store (before ++ Ended i w ∷ []) steps

abbrev pub ArePhasesTurned : List Edge → Store → List Step → List Phase → Type 0
ArePhasesTurned last store before [] = Unit {0}
ArePhasesTurned last store before (phase ∷ phases) = AreTurnedFrom phase.edges last store before phase.steps × ArePhasesTurned last store (before ++ phase.steps) phases

module _ (edges : List Edge) (Reads : ℕ → List ℕ → Type 0) where
  rest_from : (before : List Step) (s : Step) (steps : List Step) → AreReadFrom edges Reads before (s ∷ steps) → AreReadFrom edges Reads (before ++ s ∷ []) steps
  rest_from before (Judged i b) steps read = read.1
  rest_from before (Started i) steps read = read
  rest_from before (Ended i w) steps read = read

  read_at : (before steps xs ys : List Step) (i : ℕ) (b : Bool) → AreReadFrom edges Reads before steps → steps ≡ xs ++ Judged i b ∷ ys → IsReadAfter edges Reads (done_in (before ++ xs)) i
  read_at before [] [] ys i b read is = cc
  read_at before [] (x ∷ xs) ys i b read is = cc
  read_at before (Judged j c ∷ steps) [] ys i b read is =
      let same : j ≡ i = cc in
      subst (λ (l : List Step). IsReadAfter edges Reads (done_in l) i) (sym (append-nil before)) (subst (λ (n : ℕ). IsReadAfter edges Reads (done_in before) n) same read.0)
  read_at before (Started j ∷ steps) [] ys i b read is = cc
  read_at before (Ended j w ∷ steps) [] ys i b read is = cc
  read_at before (s ∷ steps) (x ∷ xs) ys i b read is =
      let head : s ≡ x = cc in
      let tail : steps ≡ xs ++ Judged i b ∷ ys = cc in
      subst (λ (y : Step). IsReadAfter edges Reads (done_in (before ++ y ∷ xs)) i) head
      (subst (λ (l : List Step). IsReadAfter edges Reads (done_in l) i) (append_assoc before (s ∷ []) xs)
      (read_at (before ++ s ∷ []) steps xs ys i b (rest_from before s steps read) tail))

  pub first_of_from : (steps : List Step) → AreReadFrom edges Reads [] steps → AreReadFirst edges Reads steps
  first_of_from steps read xs ys i b is = read_at [] steps xs ys i b read is

  pub read_join : (before xs ys : List Step) → AreReadFrom edges Reads before xs → AreReadFrom edges Reads (before ++ xs) ys → AreReadFrom edges Reads before (xs ++ ys)
  read_join before [] ys first second = subst (λ (l : List Step). AreReadFrom edges Reads l ys) (append-nil before) second
  read_join before (Judged i b ∷ xs) ys first second =
      (first.0, read_join (before ++ Judged i b ∷ []) xs ys first.1 (subst (λ (l : List Step). AreReadFrom edges Reads l ys) (sym (append_assoc before (Judged i b ∷ []) xs)) second))
  read_join before (Started i ∷ xs) ys first second =
      read_join (before ++ Started i ∷ []) xs ys first (subst (λ (l : List Step). AreReadFrom edges Reads l ys) (sym (append_assoc before (Started i ∷ []) xs)) second)
  read_join before (Ended i w ∷ xs) ys first second =
      read_join (before ++ Ended i w ∷ []) xs ys first (subst (λ (l : List Step). AreReadFrom edges Reads l ys) (sym (append_assoc before (Ended i w ∷ []) xs)) second)

  pub orderly_join : (before xs ys : List Step) → IsOrderlyFrom edges before xs → IsOrderlyFrom edges (before ++ xs) ys → IsOrderlyFrom edges before (xs ++ ys)
  orderly_join before [] ys first second = subst (λ (l : List Step). IsOrderlyFrom edges l ys) (append-nil before) second
  orderly_join before (x ∷ xs) ys first second =
      (first.0, orderly_join (before ++ x ∷ []) xs ys first.1 (subst (λ (l : List Step). IsOrderlyFrom edges l ys) (sym (append_assoc before (x ∷ []) xs)) second))

  -- what is taken in after a refusal judges nothing
  pub taken_in_orderly : (before steps : List Step) → AreTakenIn before steps → IsOrderlyFrom edges before steps
  taken_in_orderly before [] taken = tt
  taken_in_orderly before (Judged i b ∷ steps) taken = absurd taken
  taken_in_orderly before (Started i ∷ steps) taken = absurd taken
  taken_in_orderly before (Ended i w ∷ steps) taken = (taken.0, taken_in_orderly (before ++ Ended i w ∷ []) steps taken.1)

  pub taken_in_read : (before steps : List Step) → AreTakenIn before steps → AreReadFrom edges Reads before steps
  taken_in_read before [] taken = tt
  taken_in_read before (Judged i b ∷ steps) taken = absurd taken
  taken_in_read before (Started i ∷ steps) taken = absurd taken
  taken_in_read before (Ended i w ∷ steps) taken = taken_in_read (before ++ Ended i w ∷ []) steps taken.1

none_judged : (before steps : List Step) → AreTakenIn before steps → judged_in steps ≡ []
none_judged before [] taken = refl
none_judged before (Judged i b ∷ steps) taken = absurd taken
none_judged before (Started i ∷ steps) taken = absurd taken
none_judged before (Ended i w ∷ steps) taken = none_judged (before ++ Ended i w ∷ []) steps taken.1

done_more : (before more : List Step) (k : ℕ) → has_number (done_in before) k ≡ true → has_number (done_in (before ++ more)) k ≡ true
done_more before more k h = settled_done (before ++ more) k (in_left settled_in settled-append before more k (done_settled before k h))

-- ---- one phase

module _ (declared last : List Edge) (store : Store) (B : Behaviour) (all : List Step) (old new : List Moment)
    (premise : DyndepOutputsAreReadBelow B declared last (recorded_inputs store last) all old new)
    (once : IsMadeOnce declared) (once_last : IsMadeOnce last)
    (inputs_named : (i : ℕ) (file : List ℕ) → (edge_at declared i).dyndep ≡ Some file → has (inputs (edge_at declared i)) file ≡ true) where
  abbrev pub AreRight : List Edge → List Step → Type 0
  AreRight now steps = (i : ℕ) → has_number (judged_in steps) i ≡ true → IsRight declared last store now (done_in steps) i

  abbrev pub Reads : ℕ → List ℕ → Type 0
  Reads i p = Matters B last (recorded_inputs store last) all old new i p

  -- what these steps came to, by the edges of then and of the end
  record Walks (now : List Edge) (before steps : List Step) : Type 0 where
    orderly : IsOrderlyFrom last before steps
    read : AreReadFrom last Reads before steps
    right : AreRight now (before ++ steps)
    kept : IsKept last (before ++ steps)

  walks_nothing : (now : List Edge) (before : List Step) → IsKept last before → AreRight now before → Walks now before []
  walks_nothing now before kept right = record {
    orderly = tt;
    read = tt;
    right = subst (λ (l : List Step). AreRight now l) (sym (append-nil before)) right;
    kept = subst (λ (l : List Step). IsKept last l) (sym (append-nil before)) kept;
  }

  right_grown : (now next : List Edge) (steps : List Step) → HasGrown now next → AreRight now steps → AreRight next steps
  right_grown now next steps grown right i h = right_more declared last store now next (done_in steps) (done_in steps) i grown (λ k is. is) (right i h)

  module _ (task : Task) (before_now : HasGrown declared task.graph.edges) (now_last : HasGrown task.graph.edges last) (once_now : IsMadeOnce task.graph.edges)
      (recorded_is : (i : ℕ) → task.recorded i ≡ recorded_inputs store task.graph.edges i) where
    moved : (before : List Step) (s : Step) → IsOrderlyStep task.graph.edges before s → IsOrderlyStep last before s
    moved before (Judged i b) orderly = (now_last.phony i ∙ orderly.0, orderly.1)
    moved before (Started i) orderly = orderly
    moved before (Ended i w) orderly = orderly

    rights : (before : List Step) → IsKept last before → AreRight task.graph.edges before → (i : ℕ) → has_number (done_in before) i ≡ true → IsRight declared last store task.graph.edges (done_in before) i
    rights before kept right i h = right i (elim (has_number-cases (clean_in before) (well_in before) i h) [
      | inl clean ↦ kept.clean i clean
      | inr well ↦ kept.out_of_date i (kept.started i (kept.ended i (kept.well i well)))
    ])

    right_push : (before : List Step) (s : Step) → AreRight task.graph.edges before
        → ((i : ℕ) → has_number (judged_in (s ∷ [])) i ≡ true → IsRight declared last store task.graph.edges (done_in before) i) → AreRight task.graph.edges (before ++ s ∷ [])
    right_push before s right turn i h = right_more declared last store task.graph.edges task.graph.edges (done_in before) (done_in (before ++ s ∷ [])) i (grown_same task.graph.edges)
        (λ k is. done_more before (s ∷ []) k is)
        (elim (in_either judged_in judged-append before (s ∷ []) i h) [
          | inl was ↦ right i was
          | inr now ↦ turn i now
        ])

    walks_behind : (before : List Step) (s : Step) (steps : List Step) → IsOrderlyStep last before s
        → (AreReadFrom last Reads (before ++ s ∷ []) steps → AreReadFrom last Reads before (s ∷ steps))
        → Walks task.graph.edges (before ++ s ∷ []) steps → Walks task.graph.edges before (s ∷ steps)
    walks_behind before s steps orderly read rest = record {
      orderly = (orderly, rest.orderly);
      read = read rest.read;
      right = subst (λ (l : List Step). AreRight task.graph.edges l) (append_assoc before (s ∷ []) steps) rest.right;
      kept = subst (λ (l : List Step). IsKept last l) (append_assoc before (s ∷ []) steps) rest.kept;
    }

    phase_walks : (before steps : List Step) → IsKept last before → IsLawfulFrom task before steps → AreUnloadedFrom task before steps → AreRight task.graph.edges before → Walks task.graph.edges before steps
    phase_walks before [] kept lawful unloaded right = walks_nothing task.graph.edges before kept right
    phase_walks before (Judged i b ∷ steps) kept lawful unloaded right =
        let orderly = moved before (Judged i b) (orderly_step task before (Judged i b) lawful.0) in
        let here = right_here declared last store task (done_in before) before_now now_last once once_now once_last recorded_is inputs_named
        (λ e file within names settled. unloaded.0 file (record { edge = e; within = within; names = names; settled = settled })) (rights before kept right)
        i lawful.0.0.within lawful.0.0.command (λ p j need made. lawful.0.0.ready p need j made) in
        let reads = read_here declared last store task (done_in before) before_now now_last once once_now once_last recorded_is inputs_named
        (λ e file within names settled. unloaded.0 file (record { edge = e; within = within; names = names; settled = settled })) (rights before kept right)
        i lawful.0.0.within lawful.0.0.command (λ p j need made. lawful.0.0.ready p need j made) B all old new premise in
        walks_behind before (Judged i b) steps orderly (λ rest. (reads, rest))
        (phase_walks (before ++ Judged i b ∷ []) steps (kept_push last before (Judged i b) kept orderly) lawful.1 unloaded.1
        (right_push before (Judged i b) right (λ k h. subst (λ (n : ℕ). IsRight declared last store task.graph.edges (done_in before) n) (has_number-is i k h) here)))
    phase_walks before (Started i ∷ steps) kept lawful unloaded right =
        let orderly = moved before (Started i) (orderly_step task before (Started i) lawful.0) in
        walks_behind before (Started i) steps orderly (λ rest. rest)
        (phase_walks (before ++ Started i ∷ []) steps (kept_push last before (Started i) kept orderly) lawful.1 unloaded.1 (right_push before (Started i) right (λ k h. absurd (false≢true h))))
    phase_walks before (Ended i w ∷ steps) kept lawful unloaded right =
        let orderly = moved before (Ended i w) (orderly_step task before (Ended i w) lawful.0) in
        walks_behind before (Ended i w) steps orderly (λ rest. rest)
        (phase_walks (before ++ Ended i w ∷ []) steps (kept_push last before (Ended i w) kept orderly) lawful.1 unloaded.1 (right_push before (Ended i w) right (λ k h. absurd (false≢true h))))

    phase_turned : (before steps : List Step) → IsKept last before → IsLawfulFrom task before steps → AreUnloadedFrom task before steps → AreRight task.graph.edges before → AreTurnedFrom task.graph.edges last store before steps
    phase_turned before [] kept lawful unloaded right = tt
    phase_turned before (Judged i b ∷ steps) kept lawful unloaded right =
        let orderly = moved before (Judged i b) (orderly_step task before (Judged i b) lawful.0) in
        let here = right_here declared last store task (done_in before) before_now now_last once once_now once_last recorded_is inputs_named
        (λ e file within names settled. unloaded.0 file (record { edge = e; within = within; names = names; settled = settled })) (rights before kept right)
        i lawful.0.0.within lawful.0.0.command (λ p j need made. lawful.0.0.ready p need j made) in (
          (record {
            verdict = λ entry files verdict. verdict_here declared last store task (done_in before) before_now now_last once once_now once_last recorded_is inputs_named
                (λ e file within names settled. unloaded.0 file (record { edge = e; within = within; names = names; settled = settled })) (rights before kept right)
                i lawful.0.0.within lawful.0.0.command (λ p j need made. lawful.0.0.ready p need j made) B all old new premise
                (well_in before) (λ j h. has_number-right (clean_in before) (well_in before) j h) entry files b verdict;
            counted = λ files p counted. counted_here declared last store task (done_in before) before_now now_last once once_now once_last recorded_is inputs_named
                (λ e file within names settled. unloaded.0 file (record { edge = e; within = within; names = names; settled = settled })) (rights before kept right)
                i lawful.0.0.within lawful.0.0.command (λ p j need made. lawful.0.0.ready p need j made) B all old new premise files p counted;
            loaded = λ k h. (right k h).loaded;
          }),
          phase_turned (before ++ Judged i b ∷ []) steps (kept_push last before (Judged i b) kept orderly) lawful.1 unloaded.1
              (right_push before (Judged i b) right (λ k h. subst (λ (n : ℕ). IsRight declared last store task.graph.edges (done_in before) n) (has_number-is i k h) here)),
        )
    phase_turned before (Started i ∷ steps) kept lawful unloaded right =
        let orderly = moved before (Started i) (orderly_step task before (Started i) lawful.0) in
        phase_turned (before ++ Started i ∷ []) steps (kept_push last before (Started i) kept orderly) lawful.1 unloaded.1 (right_push before (Started i) right (λ k h. absurd (false≢true h)))
    phase_turned before (Ended i w ∷ steps) kept lawful unloaded right =
        let orderly = moved before (Ended i w) (orderly_step task before (Ended i w) lawful.0) in
        phase_turned (before ++ Ended i w ∷ []) steps (kept_push last before (Ended i w) kept orderly) lawful.1 unloaded.1 (right_push before (Ended i w) right (λ k h. absurd (false≢true h)))

-- ---- all phases

module _ (reading : List ℕ → Option (List Addition)) (texts : View) (declared : List Edge) (task : Task) (store : Store) (B : Behaviour) (all : List Step) (old new : List Moment)
    (premise : DyndepOutputsAreReadBelow B declared task.graph.edges (recorded_inputs store task.graph.edges) all old new)
    (once : IsMadeOnce declared) (once_last : IsMadeOnce task.graph.edges)
    (inputs_named : (i : ℕ) (file : List ℕ) → (edge_at declared i).dyndep ≡ Some file → has (inputs (edge_at declared i)) file ≡ true) where
  abbrev WalksTo : List Edge → List Step → List Step → Type 0
  WalksTo now before steps = Walks declared task.graph.edges store B all old new premise once once_last inputs_named now before steps

  rest_grown : (before : List Step) (phases : List Phase) → ArePhasesFrom reading texts task store before phases → HasGrown (next_edges phases task.graph.edges) task.graph.edges
  rest_grown before [] lawful = grown_same task.graph.edges
  rest_grown before (phase ∷ phases) lawful =
      grown_further phase.edges (next_edges phases task.graph.edges) task.graph.edges
      (grown_by lawful.1.file lawful.1.additions phase.edges (next_edges phases task.graph.edges) lawful.1.grown)
      (rest_grown (before ++ phase.steps) phases lawful.3)

  walks_join : (now : List Edge) (before xs ys : List Step) → IsOrderlyFrom task.graph.edges before xs
      → AreReadFrom task.graph.edges (Matters B task.graph.edges (recorded_inputs store task.graph.edges) all old new) before xs → WalksTo now (before ++ xs) ys → WalksTo now before (xs ++ ys)
  walks_join now before xs ys orderly read rest = record {
    orderly = orderly_join task.graph.edges (Matters B task.graph.edges (recorded_inputs store task.graph.edges) all old new) before xs ys orderly rest.orderly;
    read = read_join task.graph.edges (Matters B task.graph.edges (recorded_inputs store task.graph.edges) all old new) before xs ys read rest.read;
    right = subst (λ (l : List Step). AreRight declared task.graph.edges store B all old new premise once once_last inputs_named now l) (append_assoc before xs ys) rest.right;
    kept = subst (λ (l : List Step). IsKept task.graph.edges l) (append_assoc before xs ys) rest.kept;
  }

  phases_walk : (before : List Step) (phases : List Phase) → ArePhasesFrom reading texts task store before phases → HasGrown declared (next_edges phases task.graph.edges) → IsMadeOnce (next_edges phases task.graph.edges)
      → IsKept task.graph.edges before → AreRight declared task.graph.edges store B all old new premise once once_last inputs_named (next_edges phases task.graph.edges) before
      → WalksTo task.graph.edges before (steps_of phases)
  phases_walk before [] lawful grown once_now kept right = walks_nothing declared task.graph.edges store B all old new premise once once_last inputs_named task.graph.edges before kept right
  phases_walk before (phase ∷ phases) lawful grown once_now kept right =
      let next = next_edges phases task.graph.edges in
      let by = grown_by lawful.1.file lawful.1.additions phase.edges next lawful.1.grown in
      let here = phase_walks declared task.graph.edges store B all old new premise once once_last inputs_named (task_with task store phase.edges) grown
      (rest_grown before (phase ∷ phases) lawful) once_now (λ i. refl) before phase.steps kept lawful.0.lawful lawful.0.unloaded right in
      walks_join task.graph.edges before phase.steps (steps_of phases) here.orderly here.read
      (phases_walk (before ++ phase.steps) phases lawful.3 (grown_further declared phase.edges next grown by) lawful.2.once here.kept
      (right_grown declared task.graph.edges store B all old new premise once once_last inputs_named phase.edges next (before ++ phase.steps) by here.right))

  phases_turned : (before : List Step) (phases : List Phase) → ArePhasesFrom reading texts task store before phases → HasGrown declared (next_edges phases task.graph.edges) → IsMadeOnce (next_edges phases task.graph.edges)
      → IsKept task.graph.edges before → AreRight declared task.graph.edges store B all old new premise once once_last inputs_named (next_edges phases task.graph.edges) before
      → ArePhasesTurned task.graph.edges store before phases
  phases_turned before [] lawful grown once_now kept right = tt
  phases_turned before (phase ∷ phases) lawful grown once_now kept right =
      let next = next_edges phases task.graph.edges in
      let by = grown_by lawful.1.file lawful.1.additions phase.edges next lawful.1.grown in
      let here = phase_walks declared task.graph.edges store B all old new premise once once_last inputs_named (task_with task store phase.edges) grown
      (rest_grown before (phase ∷ phases) lawful) once_now (λ i. refl) before phase.steps kept lawful.0.lawful lawful.0.unloaded right in (
        phase_turned declared task.graph.edges store B all old new premise once once_last inputs_named (task_with task store phase.edges) grown
            (rest_grown before (phase ∷ phases) lawful) once_now (λ i. refl) before phase.steps kept lawful.0.lawful lawful.0.unloaded right,
        phases_turned (before ++ phase.steps) phases lawful.3 (grown_further declared phase.edges next grown by) lawful.2.once here.kept
            (right_grown declared task.graph.edges store B all old new premise once once_last inputs_named phase.edges next (before ++ phase.steps) by here.right),
      )

  module _ (recorded_is : (i : ℕ) → task.recorded i ≡ recorded_inputs store task.graph.edges i) (steps : List Step) (build : IsLawfulBuild reading texts declared task store steps) where
    up_to : WalksTo task.graph.edges [] (steps_of build.earlier)
    up_to = phases_walk [] build.earlier build.phases (subst (λ (es : List Edge). HasGrown declared es) (sym build.begins) (grown_same declared))
        (subst (λ (es : List Edge). IsMadeOnce es) (sym build.begins) once) (kept_nothing task.graph.edges) (λ i h. absurd (false≢true h))

    pub grown_build : HasGrown declared task.graph.edges
    grown_build = subst (λ (es : List Edge). HasGrown es task.graph.edges) build.begins (rest_grown [] build.earlier build.phases)

    in_last : WalksTo task.graph.edges (steps_of build.earlier) build.last
    in_last = phase_walks declared task.graph.edges store B all old new premise once once_last inputs_named task grown_build (grown_same task.graph.edges) once_last recorded_is
        (steps_of build.earlier) build.last up_to.kept build.lawful.lawful build.lawful.unloaded up_to.right

    pub build_reads_first : AreReadFirst task.graph.edges (Matters B task.graph.edges (recorded_inputs store task.graph.edges) all old new) steps
    build_reads_first = subst (λ (l : List Step). AreReadFirst task.graph.edges (Matters B task.graph.edges (recorded_inputs store task.graph.edges) all old new) l) (sym build.whole)
        (first_of_from task.graph.edges (Matters B task.graph.edges (recorded_inputs store task.graph.edges) all old new) (steps_of build.earlier ++ (build.last ++ build.taken_in))
        (read_join task.graph.edges (Matters B task.graph.edges (recorded_inputs store task.graph.edges) all old new) [] (steps_of build.earlier) (build.last ++ build.taken_in) up_to.read
        (read_join task.graph.edges (Matters B task.graph.edges (recorded_inputs store task.graph.edges) all old new) (steps_of build.earlier) build.last build.taken_in in_last.read
        (taken_in_read task.graph.edges (Matters B task.graph.edges (recorded_inputs store task.graph.edges) all old new) (steps_of build.earlier ++ build.last) build.taken_in build.rest))))

    pub build_loaded : (i : ℕ) → has_number (judged_in steps) i ≡ true → (edge_at task.graph.edges i).dyndep ≡ None
    build_loaded i h = elim (in_either judged_in judged-append (steps_of build.earlier) (build.last ++ build.taken_in) i (subst (λ (l : List Step). has_number (judged_in l) i ≡ true) build.whole h)) [
      | inl early ↦ (up_to.right i early).loaded
      | inr later ↦ elim (in_either judged_in judged-append build.last build.taken_in i later) [
        | inl here ↦ (in_last.right i (in_right judged_in judged-append (steps_of build.earlier) build.last i here)).loaded
        | inr none ↦ absurd (false≢true (subst (λ (l : List ℕ). has_number l i ≡ true) (none_judged (steps_of build.earlier ++ build.last) build.taken_in build.rest) none))
      ]
    ]

    -- verdicts over the edges of their phase are verdicts over the edges of the end
    pub build_turned : ArePhasesTurned task.graph.edges store [] build.earlier × AreTurnedFrom task.graph.edges task.graph.edges store (steps_of build.earlier) build.last
    build_turned = (
      phases_turned [] build.earlier build.phases (subst (λ (es : List Edge). HasGrown declared es) (sym build.begins) (grown_same declared))
          (subst (λ (es : List Edge). IsMadeOnce es) (sym build.begins) once) (kept_nothing task.graph.edges) (λ i h. absurd (false≢true h)),
      phase_turned declared task.graph.edges store B all old new premise once once_last inputs_named task grown_build (grown_same task.graph.edges) once_last recorded_is
          (steps_of build.earlier) build.last up_to.kept build.lawful.lawful build.lawful.unloaded up_to.right,
    )
