-- Verdicts over the edges of their phase, from their moment to the exit.
use Rattle.std.proofs.Common.{◌≡◌, ◌⊎◌, inl, inr, ℕ, cond, is_some, Bool, true, false, IsTrue, List, [], ◌∷◌, ◌++◌, Option, Some, None, bytes_eq, refl, sym, ◌∙◌, ap, subst, append_assoc}
use Rattle.std.specs.List.{AllByRecursion}
use Rattle.std.proofs.lemmas.List.{append-nil}
use Rattle.std.proofs.lemmas.Bool.{false≢true, cases_Bool, or_left}
use Rattle.model.specs.declared.act.Act.{Act}
use Rattle.model.specs.declared.event.Moment.{Moment}
use Rattle.model.specs.declared.event.Moment.TheVariants.{Wrote, Happened}
use Rattle.model.specs.declared.event.Writer.TheVariants.{Program, Command, Someone}
use Rattle.model.specs.declared.graph.Edge.{Edge}
use Rattle.model.specs.World.{World, View, IsIdle}
use Rattle.model.specs.Graph.{has, has_number, edge_at, inputs, outputs, IsMadeOnce, IsCommand}
use Rattle.model.specs.Outcome.{Behaviour}
use Rattle.model.specs.Records.{Store, OwnFiles, recorded_of, recorded_inputs}
use Rattle.model.specs.OutOfDate.{Counted, ReadsNoFree, IsVerdict}
use Rattle.model.specs.Schedule.{Task, Step, Judged, Started, Ended, started_in, well_in, done_in}
use Rattle.model.specs.Phases.{Phase, steps_of, task_with, ArePhasesFrom, AreTakenIn, IsLawfulBuild}
use Rattle.model.specs.Premises.{InputsAreKnown, IsMaking, FilesAreKept, RecordedApart, OwnFilesApart, SharesNone, KeepToOutputs, IsWithinEdge, Matters, DyndepOutputsAreReadBelow}
use Rattle.model.specs.SingleBuild.{Asked, NamesOther, IsOfBuild, task_of}
use Rattle.theory.specs.Order.{AreReadFirst, IsReadAfter}
use Rattle.theory.specs.Run.{starts_in, IsToldBy, IsRunOrRest}
use Rattle.theory.proofs.Growth.{HasGrown, grown_same}
use Rattle.theory.proofs.Lists.{bytes_same, same_rest}
use Rattle.theory.proofs.Loads.{rest_has_grown, declared_once}
use Rattle.theory.proofs.Events.{starts_of_all}
use Rattle.theory.proofs.Looks.{kept_before}
use Rattle.theory.proofs.Moments.{of_build}
use Rattle.theory.proofs.Moved.{rest_moved}
use Rattle.theory.proofs.Runs.{rest_begins}
use Rattle.theory.proofs.Orderly.{IsKept, kept_orderly}
use Rattle.theory.proofs.Walked.{IsTurned, AreTurnedFrom, ArePhasesTurned, build_turned, build_reads_first}
use Rattle.theory.specs.Judged.{JudgedOver, AreJudgedOver, ArePhasesJudged, VerdictsWithLoads}
use Rattle.theory.proofs.Carried.{counted_on, verdict_stands}

-- ---- what is kept over the edges of the end is kept over those of then

module _ (own : OwnFiles) (few many : List Edge) (grown : HasGrown few many) where
  command_later : (i : ℕ) → IsCommand few i → IsCommand many i
  command_later i command = grown.phony i ∙ command

  -- an edge that makes what it names still does
  pub making_later : (i : ℕ) → IsMaking few i → IsMaking many i
  making_later i (inl command) = inl (command_later i command)
  making_later i (inr some) = inr (λ none. some (no_inputs none (inputs (edge_at few i)) refl))
    where
      no_inputs : inputs (edge_at many i) ≡ [] → (ps : List (List ℕ)) → inputs (edge_at few i) ≡ ps → inputs (edge_at few i) ≡ []
      no_inputs none [] is = is
      no_inputs none (q ∷ qs) is =
          let there : has (inputs (edge_at few i)) q ≡ true = ap (λ (l : List (List ℕ)). has l q) is ∙ or_left (bytes_eq q q) (has qs q) (bytes_same q) in
          absurd (false≢true (ap (λ (l : List (List ℕ)). has l q) (sym none) ∙ grown.inputs i q there))

  pub apart_before : OwnFilesApart own many → OwnFilesApart own few
  apart_before apart = record {
    within = apart.within;
    build_log = apart.build_log;
    deps_log = apart.deps_log;
    inputs = λ i p h. apart.inputs i p (grown.inputs i p h);
    outputs = λ i p h. apart.outputs i p (grown.outputs i p h);
    depfiles = λ i command. subst (λ (a : Act). (own.set a.depfile ≡ true) × (own.files a.depfile ≡ false)) (grown.act i) (apart.depfiles i (command_later i command));
    responses = λ i command. subst (λ (a : Act). (own.set a.response_path ≡ true) × (own.files a.response_path ≡ false)) (grown.act i) (apart.responses i (command_later i command));
    apart = λ i j command_i command_j other.
        subst (λ (a : Act). SharesNone a.depfile (edge_at few j).act.depfile × SharesNone a.response_path (edge_at few j).act.response_path × SharesNone a.depfile (edge_at few j).act.response_path) (grown.act i)
        (subst (λ (b : Act). SharesNone (edge_at many i).act.depfile b.depfile × SharesNone (edge_at many i).act.response_path b.response_path × SharesNone (edge_at many i).act.depfile b.response_path) (grown.act j)
        (apart.apart i j (command_later i command_i) (command_later j command_j) other));
  }

  pub recorded_before : (store : Store) → RecordedApart own (recorded_inputs store many) → RecordedApart own (recorded_inputs store few)
  recorded_before store apart i p h = by_dyndep (edge_at few i).dyndep refl
    where
      no_path : (t : Bool) → has (cond t [] []) p ≡ true → ⊥
      no_path true is = false≢true is
      no_path false is = false≢true is

      by_dyndep : (d : Option (List ℕ)) → (edge_at few i).dyndep ≡ d → own.set p ≡ false
      by_dyndep None is = apart i p (subst (λ (e : Edge). has (cond e.phony [] (cond (is_some e.dyndep) [] (recorded_of store e))) p ≡ true) (sym (grown.same i is)) h)
      by_dyndep (Some file) is = absurd (no_path (edge_at few i).phony
          (subst (λ (d : Option (List ℕ)). has (cond (edge_at few i).phony [] (cond (is_some d) [] (recorded_of store (edge_at few i)))) p ≡ true) is h))

  -- what a started command, whose dyndep file is loaded, writes within its edge
  within_before : (free : List ℕ → Bool) (steps : List Step) → ((i : ℕ) → has_number (started_in steps) i ≡ true → (edge_at few i).dyndep ≡ None) → (ms : List Moment) → AllByRecursion (IsOfBuild own few steps) ms
      → AllByRecursion (IsWithinEdge free many) ms → AllByRecursion (IsWithinEdge free few) ms
  within_before free steps loaded [] build within = tt
  within_before free steps loaded (Wrote Program path content stamp ∷ ms) build within = (tt, within_before free steps loaded ms build.1 within.1)
  within_before free steps loaded (Wrote (Command job) path content stamp ∷ ms) build within = (
    subst (λ (e : Edge). (has (outputs e) path ≡ true) ⊎ (path ≡ e.act.depfile) ⊎ (free path ≡ true)) (grown.same job (loaded job build.0)) within.0,
    within_before free steps loaded ms build.1 within.1,
  )
  within_before free steps loaded (Wrote Someone path content stamp ∷ ms) build within = (tt, within_before free steps loaded ms build.1 within.1)
  within_before free steps loaded (Happened event ∷ ms) build within = (tt, within_before free steps loaded ms build.1 within.1)

-- files that are kept over the edges of the end are kept over those of a run so far, where each command that it started has its dyndep
-- file loaded
pub commands_then : (tells : Bool) (own : OwnFiles) (few : Task) (many : List Edge) → HasGrown few.graph.edges many → (steps : List Step) (old now : World) → IsTrue tells → IsIdle old.events
    → IsRunOrRest tells own few steps old now → ((i : ℕ) → has_number (started_in steps) i ≡ true → (edge_at few.graph.edges i).dyndep ≡ None)
    → (free : List ℕ → Bool) → KeepToOutputs free many old.history now.history → KeepToOutputs free few.graph.edges old.history now.history
commands_then tells own few many grown steps old now tell idle rest loaded free commands more is = subst (λ (l : List Moment). AllByRecursion (IsWithinEdge free few.graph.edges) l) (same_rest old.history told.more more (sym told.grows ∙ is))
    (within_before own few.graph.edges many grown free steps loaded told.more of_build_then (commands told.more told.grows))
  where
    told : IsToldBy own few.graph.edges steps old.events (rest.first ++ rest.later) old.history now.history
    told = rest.history tell

    starts_are : starts_in (rest.first ++ rest.later) ≡ started_in steps
    starts_are = starts_of_all few.graph.edges steps rest.first (old.events ++ rest.first) rest.later rest.of_steps rest.finishes

    of_build_then : AllByRecursion (IsOfBuild own few.graph.edges steps) told.more
    of_build_then = of_build own few.graph.edges steps old.events [] told.more idle told.all
        (λ j h. subst (λ (l : List ℕ). has_number l j ≡ true) (ap starts_in told.happened ∙ starts_are) h)

abbrev pub kept_then : (tells : Bool) (own : OwnFiles) (few : Task) (many : List Edge) → HasGrown few.graph.edges many → (steps : List Step) (old now : World) → IsTrue tells → IsIdle old.events
    → IsRunOrRest tells own few steps old now → ((i : ℕ) → has_number (started_in steps) i ≡ true → (edge_at few.graph.edges i).dyndep ≡ None)
    → FilesAreKept own many old.history now.history → FilesAreKept own few.graph.edges old.history now.history
kept_then tells own few many grown steps old now tell idle rest loaded files = record {
  free = files.free;
  free_apart = record { set = files.free_apart.set; outputs = λ i p makes h. files.free_apart.outputs i p (making_later own few.graph.edges many grown i makes) (grown.outputs i p h) };
  commands = commands_then tells own few many grown steps old now tell idle rest loaded files.free files.commands;
  own_files = apart_before own few.graph.edges many grown files.own_files;
  edits = files.edits;
}

-- ---- from a phase to the exit

module _ (tells : Bool) (B : Behaviour) (own : OwnFiles) (texts : View) (asked : Asked) (store : Store) (steps : List Step) (old now : World)
    (tell : IsTrue tells) (idle : IsIdle old.events) (once : IsMadeOnce asked.graph.edges) (others : (file : List ℕ) → NamesOther asked.declared file → ⊥)
    (build : IsLawfulBuild B.dyndep texts asked.declared (task_of asked store) store steps) (rest : IsRunOrRest tells own (task_of asked store) steps old now)
    (files : FilesAreKept own asked.graph.edges old.history now.history) (apart : RecordedApart own (recorded_inputs store asked.graph.edges))
    (known : InputsAreKnown asked.declared asked.graph.edges (recorded_inputs store asked.graph.edges)) where
  -- of what commands report nothing needs to be known here
  below : DyndepOutputsAreReadBelow B asked.declared asked.graph.edges (recorded_inputs store asked.graph.edges) [] old.history now.history
  below = record { inputs = known; reports = λ i j p reported made command. absurd (false≢true reported.well) }

  declared : IsMadeOnce asked.declared
  declared = declared_once B.dyndep texts asked.declared (task_of asked store) store steps build once

  inputs_named : (i : ℕ) (file : List ℕ) → (edge_at asked.declared i).dyndep ≡ Some file → has (inputs (edge_at asked.declared i)) file ≡ true
  inputs_named i file names = elim (cases_Bool (has (inputs (edge_at asked.declared i)) file)) [
    | inl is ↦ is
    | inr other ↦ absurd (others file (record { edge = i; names = names; other = other }))
  ]

  first : AreReadFirst asked.graph.edges (Matters B asked.graph.edges (recorded_inputs store asked.graph.edges) [] old.history now.history) steps
  first = build_reads_first B.dyndep texts asked.declared (task_of asked store) store B [] old.history now.history below declared once inputs_named (λ i. refl) steps build

  turned : ArePhasesTurned asked.graph.edges store [] build.earlier × AreTurnedFrom asked.graph.edges asked.graph.edges store (steps_of build.earlier) build.last
  turned = build_turned B.dyndep texts asked.declared (task_of asked store) store B [] old.history now.history below declared once inputs_named (λ i. refl) steps build

  -- one verdict
  final : (edges : List Edge) → HasGrown edges asked.graph.edges → (before after : List Step) (i : ℕ) (b : Bool) → steps ≡ before ++ Judged i b ∷ after
      → IsTurned edges asked.graph.edges store before i b → JudgedOver tells own asked store edges before i b old now → ReadsNoFree files.free asked.graph.edges store now.history i → IsVerdict asked.graph.edges store (well_in before) old.history now.history i b
  final edges grown before after i b splits turn was unread =
      verdict_stands tells own asked store before after i b old was.mid now was.more tell idle once
      (rest_moved tells own (task_with (task_of asked store) store edges) (task_of asked store) before old was.mid grown (rest_begins tells own (task_with (task_of asked store) store edges) old before was.mid was.run))
      (subst (λ (l : List Step). IsRunOrRest tells own (task_of asked store) l old now) splits rest) (was.grows tell) files apart counted unread
      (turn.verdict old.history was.mid.history (was.right tell files_then (recorded_before own edges asked.graph.edges grown store apart)
      (λ p counts. unread p (counted_on tells own asked store before after i b old was.mid now was.more tell idle once
      (rest_moved tells own (task_with (task_of asked store) store edges) (task_of asked store) before old was.mid grown (rest_begins tells own (task_with (task_of asked store) store edges) old before was.mid was.run))
      (subst (λ (l : List Step). IsRunOrRest tells own (task_of asked store) l old now) splits rest) (was.grows tell) files apart counted
      p (turn.counted was.mid.history p counts)))))
    where
      kept : IsKept edges before
      kept = kept_orderly edges before was.run.orderly

      files_mid : FilesAreKept own asked.graph.edges old.history was.mid.history
      files_mid = kept_before own asked.graph.edges old.history was.mid.history now.history was.more (was.grows tell) files

      files_then : FilesAreKept own edges old.history was.mid.history
      files_then = kept_then tells own (task_with (task_of asked store) store edges) asked.graph.edges grown before old was.mid tell idle (rest_begins tells own (task_with (task_of asked store) store edges) old before was.mid was.run)
          (λ k started. turn.loaded k (kept.out_of_date k (kept.started k started))) files_mid

      counted : IsReadAfter asked.graph.edges (λ k p. Counted asked.graph.edges store now.history k p) (done_in before) i
      counted p j (inl read) made command = first before after i b splits p j (inl read) made command
      counted p j (inr recorded) made command = first before after i b splits p j (inr (inl recorded)) made command

  -- a verdict is right at the exit
  abbrev IsFinal : List Step → ℕ → Bool → Type 0
  IsFinal before i b = ReadsNoFree files.free asked.graph.edges store now.history i → IsVerdict asked.graph.edges store (well_in before) old.history now.history i b

  -- all verdicts of these steps
  abbrev AreFinal : List Step → List Step → Type 0
  AreFinal before [] = Unit {0}
  AreFinal before (Judged i b ∷ after) = IsFinal before i b × AreFinal (before ++ Judged i b ∷ []) after
  AreFinal before (Started i ∷ after) = AreFinal (before ++ Started i ∷ []) after
  AreFinal before (Ended i w ∷ after) = AreFinal (before ++ Ended i w ∷ []) after

  step_on : (before after later : List Step) (s : Step) → steps ≡ before ++ (s ∷ after ++ later) → steps ≡ (before ++ s ∷ []) ++ (after ++ later)
  step_on before after later s is = is ∙ sym (append_assoc before (s ∷ []) (after ++ later))

  over_steps : (edges : List Edge) → HasGrown edges asked.graph.edges → (before some later : List Step) → steps ≡ before ++ (some ++ later) → AreTurnedFrom edges asked.graph.edges store before some
      → AreJudgedOver tells own asked store edges before some old now → AreFinal before some
  over_steps edges grown before [] later is turn judged = tt
  over_steps edges grown before (Judged i b ∷ some) later is turn judged =
      (final edges grown before (some ++ later) i b is turn.0 judged.0, over_steps edges grown (before ++ Judged i b ∷ []) some later (step_on before some later (Judged i b) is) turn.1 judged.1)
  over_steps edges grown before (Started i ∷ some) later is turn judged = over_steps edges grown (before ++ Started i ∷ []) some later (step_on before some later (Started i) is) turn judged
  over_steps edges grown before (Ended i w ∷ some) later is turn judged = over_steps edges grown (before ++ Ended i w ∷ []) some later (step_on before some later (Ended i w) is) turn judged

  final_join : (before xs ys : List Step) → AreFinal before xs → AreFinal (before ++ xs) ys → AreFinal before (xs ++ ys)
  final_join before [] ys a b = subst (λ (l : List Step). AreFinal l ys) (append-nil before) b
  final_join before (Judged i b ∷ xs) ys a c = (a.0, final_join (before ++ Judged i b ∷ []) xs ys a.1 (subst (λ (l : List Step). AreFinal l ys) (sym (append_assoc before (Judged i b ∷ []) xs)) c))
  final_join before (Started i ∷ xs) ys a c = final_join (before ++ Started i ∷ []) xs ys a (subst (λ (l : List Step). AreFinal l ys) (sym (append_assoc before (Started i ∷ []) xs)) c)
  final_join before (Ended i w ∷ xs) ys a c = final_join (before ++ Ended i w ∷ []) xs ys a (subst (λ (l : List Step). AreFinal l ys) (sym (append_assoc before (Ended i w ∷ []) xs)) c)

  over_phases : (before : List Step) (phases : List Phase) (later : List Step) → steps ≡ before ++ (steps_of phases ++ later) → ArePhasesFrom B.dyndep texts (task_of asked store) store before phases
      → ArePhasesTurned asked.graph.edges store before phases → ArePhasesJudged tells own asked store before phases old now → AreFinal before (steps_of phases)
  over_phases before [] later is lawful turn judged = tt
  over_phases before (phase ∷ phases) later is lawful turn judged =
      final_join before phase.steps (steps_of phases)
      (over_steps phase.edges (rest_has_grown B.dyndep texts asked.declared (task_of asked store) store before (phase ∷ phases) lawful) before phase.steps (steps_of phases ++ later) here turn.0 judged.0)
      (over_phases (before ++ phase.steps) phases later (here ∙ sym (append_assoc before phase.steps (steps_of phases ++ later))) lawful.3 turn.1 judged.1)
    where
      here : steps ≡ before ++ (phase.steps ++ (steps_of phases ++ later))
      here = is ∙ ap (λ (l : List Step). before ++ l) (append_assoc phase.steps (steps_of phases) later)

  taken_in_final : (before some : List Step) → AreTakenIn before some → AreFinal before some
  taken_in_final before [] taken = tt
  taken_in_final before (Judged i b ∷ some) taken = absurd taken
  taken_in_final before (Started i ∷ some) taken = absurd taken
  taken_in_final before (Ended i w ∷ some) taken = taken_in_final (before ++ Ended i w ∷ []) some taken.1

  module _ (phases_judged : ArePhasesJudged tells own asked store [] build.earlier old now) (last_judged : AreJudgedOver tells own asked store asked.graph.edges (steps_of build.earlier) build.last old now) where
    all_final : AreFinal [] (steps_of build.earlier ++ (build.last ++ build.taken_in))
    all_final =
        final_join [] (steps_of build.earlier) (build.last ++ build.taken_in) (over_phases [] build.earlier (build.last ++ build.taken_in) build.whole build.phases turned.0 phases_judged)
        (final_join (steps_of build.earlier) build.last build.taken_in
        (over_steps asked.graph.edges (grown_same asked.graph.edges) (steps_of build.earlier) build.last build.taken_in build.whole turned.1 last_judged)
        (taken_in_final (steps_of build.earlier ++ build.last) build.taken_in build.rest))

    final_at : (before some xs ys : List Step) (i : ℕ) (b : Bool) → AreFinal before some → some ≡ xs ++ Judged i b ∷ ys → IsFinal (before ++ xs) i b
    final_at before [] [] ys i b a is = cc
    final_at before [] (x ∷ xs) ys i b a is = cc
    final_at before (Judged j c ∷ some) [] ys i b a is =
        let same : j ≡ i = cc in
        let also : c ≡ b = cc in
        subst (λ (l : List Step). IsFinal l i b) (sym (append-nil before))
        (subst (λ (n : ℕ). IsFinal before n b) same
        (subst (λ (d : Bool). IsFinal before j d) also a.0))
    final_at before (Started j ∷ some) [] ys i b a is = cc
    final_at before (Ended j w ∷ some) [] ys i b a is = cc
    final_at before (s ∷ some) (x ∷ xs) ys i b a is =
        let head : s ≡ x = cc in
        let tail : some ≡ xs ++ Judged i b ∷ ys = cc in
        subst (λ (y : Step). IsFinal (before ++ y ∷ xs) i b) head
        (subst (λ (l : List Step). IsFinal l i b) (append_assoc before (s ∷ []) xs) (final_at (before ++ s ∷ []) some xs ys i b (on s a) tail))
      where
        on : (t : Step) → AreFinal before (t ∷ some) → AreFinal (before ++ t ∷ []) some
        on (Judged j c) a = a.1
        on (Started j) a = a
        on (Ended j w) a = a

    pub verdict_now : (before after : List Step) (i : ℕ) (b : Bool) → steps ≡ before ++ Judged i b ∷ after → IsFinal before i b
    verdict_now before after i b splits = final_at [] (steps_of build.earlier ++ (build.last ++ build.taken_in)) before after i b all_final (sym build.whole ∙ splits)

pub verdicts_with_loads : VerdictsWithLoads
verdicts_with_loads tells B own texts asked store steps met old now tell idle once others build rest phases last files apart known taken_in = record {
  verdicts = verdict_now tells B own texts asked store steps old now tell idle once others build rest files apart known phases last;
  ended = taken_in;
}
