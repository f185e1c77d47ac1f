-- What a run carries goes on through each thing that it does: one lemma for each.
use Rattle.std.proofs.Common.{◌≡◌, ◌≢◌, ◌⊎◌, inl, inr, ℕ, Bool, true, false, IsTrue, List, [], ◌∷◌, ◌++◌, Option, Some, None, refl, sym, ◌∙◌, ap, subst, append_assoc}
use Rattle.std.proofs.lemmas.List.{append-nil}
use Rattle.std.proofs.lemmas.Bool.{false≢true, true≢false, false_from_ne_true}
use Rattle.model.specs.declared.act.Act.{Act}
use Rattle.model.specs.declared.event.Event.{Event}
use Rattle.model.specs.declared.event.Event.TheVariants.{Start, Finish}
use Rattle.model.specs.declared.event.Moment.{Moment}
use Rattle.model.specs.declared.event.Moment.TheVariants.{Happened}
use Rattle.model.specs.declared.graph.Edge.{Edge}
use Rattle.model.specs.World.{World, view_of, runs_from, runs, IsRunning, IsIdle, events_in}
use Rattle.model.specs.Calls.{OthersWrote, Adds, OnlyLooks, Ticks, TicksOrNot, WritesOrNot, Starts, StartsOrNot, Finishes}
use Rattle.model.specs.Graph.{has_number, edge_at, IsCommand, IsMadeOnce}
use Rattle.model.specs.Outcome.{Behaviour, depfile_in, is_accepted}
use Rattle.model.specs.Records.{Store, LogFormat, OwnFiles, store_in, recorded_inputs}
use Rattle.model.specs.OutOfDate.{ReadsNoFree, IsStaleByOutputs, IsVerdict}
use Rattle.model.specs.Schedule.{Step, Judged, Started, Ended, IsLawfulStep, IsEndOf, NoneMayBeJudged, NoneMayStart, clean_in, started_in, out_of_date_in, ended_in, well_in, running_in}
use Rattle.model.specs.Phases.{steps_of, Phase, NoLoadIsDue}
use Rattle.model.specs.Premises.{FilesAreKept, RecordedApart, EndedAt, InputsAreKnown, LiesIn}
use Rattle.model.specs.SingleBuild.{AreCleanByOutputs, AreJudgedAt, ArePhasesJudgedAt, WasTakenIn, NamesOther, Asked, task_of, IsJudged, IsFrame, EndRightly, EndAsRead, IsReadBehind}
use Rattle.model.specs.Kept.{StartedUnder, KeepsRecords, store_at}
use Rattle.theory.specs.Run.{starts_in, IsRun, IsRunOrRest}
use Rattle.theory.proofs.Lists.{has_number-is}
use Rattle.theory.proofs.Steps.{running_parts, clean-append, in_either}
use Rattle.theory.proofs.Orderly.{IsKept, kept_orderly, orderly_step}
use Rattle.theory.proofs.Events.{runs_from-append, runs_started, runs_now, no_starts}
use Rattle.theory.proofs.Moments.{events_in-append, no_events}
use Rattle.theory.proofs.Looks.{kept_before}
use Rattle.theory.proofs.Starting.{OthersRun, ready_nothing, ready_quiet, start_ready}
use Rattle.theory.proofs.Runs.{run_begins, run_judged, run_looks, run_starts, run_takes_in, rest_begins, rest_looks, rest_finishes}
use Rattle.theory.proofs.Exit.{frame}
use Rattle.theory.specs.Logged.{IsLoggedAt}
use Rattle.theory.specs.Builds.{IsRunOf}
use Rattle.theory.specs.Writes.{GrewAt, WritesAt}
use Rattle.theory.specs.Alone.{IsNoFileOf, AreLeftAlone}
use Rattle.theory.specs.Ledger.{IsPhased, IsRefused, IsBeside, IsCarried, IsCutOff, IsReadyToStart}
use Rattle.theory.proofs.AtMoments.{verdicts_at_moments}
use Rattle.theory.proofs.Alone.{runs_idle, alone_nothing, alone_looks, alone_adds, alone_at, own_apart, response_apart, depfile_apart}
use Rattle.theory.proofs.LoggedCalls.{entry_logged, looks_logged, start_logged, rest_logged}
use Rattle.theory.proofs.Growing.{logged_hand, logged_judged, logged_as_failed, logged_as_well}
use Rattle.theory.proofs.AsRead.{read_nothing, read_on, read_other, read_ended}
use Rattle.theory.proofs.JudgedAtExit.{taken_nothing, taken_on, taken_other, taken_ended}
use Rattle.theory.proofs.PhasesGoOn.{phased_entry, phased_on, phased_step, phased_taken_in, over_now}
use Rattle.theory.proofs.Turned.{verdicts_with_loads}
use Rattle.theory.proofs.Once.{taken_in_started}
use Rattle.theory.proofs.Recorded.{records_are_kept}
use Rattle.theory.proofs.Ticking.{ticked_nothing, ticked_quiet, ticked_starts}
use Rattle.theory.proofs.Writing.{no_events_at, run_at, run_wrote, logged_at, writes_at, ticks_grew}

-- ---- how the history grew in a call

-- it grew, and just these events are among the new moments
pub record GrewBy (es : List Event) (old new : List Moment) : Type 0 where
  pub more : List Moment
  pub grows : new ≡ old ++ more
  pub happened : events_in more ≡ es

pub grew_at : (path : List ℕ) (running : ℕ → Type 0) (old new : List Moment) → GrewAt path running old new → GrewBy [] old new
grew_at path running old new grew = record { more = grew.more; grows = grew.grows; happened = no_events_at path running grew.more grew.all }

pub grew_looking : (own : OwnFiles) (edges : List Edge) (running : ℕ → Type 0) (old new : List Moment) → OthersWrote running old new → GrewBy [] old new
grew_looking own edges running old new wrote = record { more = wrote.more; grows = wrote.grows; happened = no_events own edges running wrote.more wrote.all }

pub grew_adding : (own : OwnFiles) (edges : List Edge) (before after : ℕ → Type 0) (event : Event) (old new : List Moment) → Adds before after (Happened event) old new → GrewBy (event ∷ []) old new
grew_adding own edges before after event old new adds = record {
  more = adds.earlier ++ Happened event ∷ adds.later;
  grows = adds.grows;
  happened = events_in-append adds.earlier (Happened event ∷ adds.later)
      ∙ (ap (λ (l : List Event). l ++ event ∷ events_in adds.later) (no_events own edges before adds.earlier adds.all_earlier)
      ∙ ap (λ (l : List Event). event ∷ l) (no_events own edges after adds.later adds.all_later));
}

-- which end is among them
abbrev EndsOf : List Event → List Step → Type 0
EndsOf es steps = (xs ys : List Event) (i : ℕ) → es ≡ xs ++ Finish i true ∷ ys → has_number (ended_in steps) i ≡ false

no_ends : (steps : List Step) → EndsOf [] steps
no_ends steps [] ys i is = cc
no_ends steps (x ∷ xs) ys i is = cc

start_no_end : (steps : List Step) (j stamp : ℕ) (act : Act) → EndsOf (Start j act stamp ∷ []) steps
start_no_end steps j stamp act [] ys i is = cc
start_no_end steps j stamp act (x ∷ xs) ys i is =
    let tail : [] ≡ xs ++ Finish i true ∷ ys = cc in
    no_ends steps xs ys i tail

one_end_of : (steps : List Step) (j : ℕ) (ok : Bool) → has_number (ended_in steps) j ≡ false → EndsOf (Finish j ok ∷ []) steps
one_end_of steps j ok fresh [] ys i is =
    let same : j ≡ i = cc in
    subst (λ (n : ℕ). has_number (ended_in steps) n ≡ false) same fresh
one_end_of steps j ok fresh (x ∷ xs) ys i is =
    let tail : [] ≡ xs ++ Finish i true ∷ ys = cc in
    no_ends steps xs ys i tail

-- ---- which edges were judged clean

-- a step that is no clean judgement
clean_other : (steps : List Step) (step : Step) (k : ℕ) → clean_in (step ∷ []) ≡ [] → has_number (clean_in (steps ++ step ∷ [])) k ≡ true → has_number (clean_in steps) k ≡ true
clean_other steps step k none h =
    subst (λ (l : List ℕ). has_number l k ≡ true) (clean-append steps (step ∷ []) ∙ (ap (λ (l : List ℕ). clean_in steps ++ l) none ∙ append-nil (clean_in steps))) h

-- a judgement, which is out of date where the edge is by what it makes
clean_push : (edges : List Edge) (store : Store) (old : List Moment) (steps : List Step) (i : ℕ) (b : Bool) → (IsStaleByOutputs edges store old i → b ≡ true)
    → AreCleanByOutputs edges store steps old → AreCleanByOutputs edges store (steps ++ Judged i b ∷ []) old
clean_push edges store old steps i b right clean k h stale = elim (in_either clean_in clean-append steps (Judged i b ∷ []) k h) [
  | inl before ↦ clean k before stale
  | inr here ↦ by_verdict b right here
]
  where
    by_verdict : (c : Bool) → (IsStaleByOutputs edges store old i → c ≡ true) → has_number (clean_in (Judged i c ∷ [])) k ≡ true → ⊥
    by_verdict true right here = false≢true here
    by_verdict false right here = false≢true (right (subst (λ (n : ℕ). IsStaleByOutputs edges store old n) (sym (has_number-is i k here)) stale))

-- ---- phases

-- those of a run that goes on, or that a refused load has ended
record ArePhases (tells : Bool) (B : Behaviour) (own : OwnFiles) (asked : Asked) (store : Store) (phases : List Phase) (goes_on : Bool) (steps : List Step) (old now : World) : Type 0 where
  phased : IsPhased tells B own asked store phases steps old now
  goes : goes_on ≡ true → phased.build.taken_in ≡ []
  refused : goes_on ≡ false → IsRefused phased

module _ (tells : Bool) (B : Behaviour) (format : LogFormat) (own : OwnFiles) (asked : Asked) (store : Store) (old : World) where
  abbrev Beside : List Step → Option ℕ → Option ℕ → World → Type 0
  Beside steps met hand now = IsBeside tells B format own asked store steps met hand old now

  abbrev CutOff : List Phase → List Step → Option ℕ → World → Type 0
  CutOff phases steps met now = IsCutOff tells B format own asked store phases steps met old now

  abbrev Rest : List Step → World → Type 0
  Rest steps now = IsRunOrRest tells own (task_of asked store) steps old now

  abbrev Kept : World → Type 0
  Kept now = FilesAreKept own asked.graph.edges old.history now.history

  abbrev Logged : List Step → Option ℕ → World → Type 0
  Logged steps hand now = IsLoggedAt B format own asked.graph.edges steps hand store old now

  abbrev LeftAlone : World → Type 0
  LeftAlone now = AreLeftAlone asked.graph.edges old.history now.history

  -- ---- which commands run

  module _ (steps : List Step) (now : World) (idle : IsIdle old.events) (rest : Rest steps now) where
    kept : IsKept asked.graph.edges steps
    kept = kept_orderly asked.graph.edges steps rest.orderly

    pub running_of : (j : ℕ) → runs j now.events ≡ true → has_number (running_in steps) j ≡ true
    running_of j h = elim (runs_started j (runs j (old.events ++ rest.first)) rest.later split) [
      | inl before ↦ sym (runs_now (task_of asked store) steps old.events rest.first idle rest.orderly rest.of_steps j) ∙ before
      | inr since ↦ absurd (false≢true (ap (λ (l : List ℕ). has_number l j) (sym (no_starts (old.events ++ rest.first) rest.later rest.finishes)) ∙ since))
    ]
      where
        split : runs_from j (runs j (old.events ++ rest.first)) rest.later ≡ true
        split = sym (runs_from-append j false (old.events ++ rest.first) rest.later)
            ∙ (ap (λ (l : List Event). runs j l) (append_assoc old.events rest.first rest.later ∙ sym rest.grows) ∙ h)

    -- so by the history
    runs_told : (tell : IsTrue tells) (j : ℕ) → runs j (events_in (rest.history tell).more) ≡ true → runs j now.events ≡ true
    runs_told tell j h = ap (λ (l : List Event). runs j l) rest.grows
        ∙ (runs_idle j old.events (rest.first ++ rest.later) idle ∙ (ap (λ (l : List Event). runs j l) (sym (rest.history tell).happened) ∙ h))

    pub command_of : (j : ℕ) → runs j now.events ≡ true → IsCommand asked.graph.edges j
    command_of j h = kept.judged j (kept.out_of_date j (kept.started j (running_parts steps j (running_of j h)).0))

    pub stale_command : (i : ℕ) → has_number (out_of_date_in steps) i ≡ true → IsCommand asked.graph.edges i
    stale_command i stale = kept.judged i (kept.out_of_date i stale)

    pub others_run : (i : ℕ) → has_number (started_in steps) i ≡ false → OthersRun asked.graph.edges i (IsRunning now.events)
    others_run i unstarted job is = (
      command_of job is,
      λ same. false≢true (sym unstarted ∙ (ap (λ (n : ℕ). has_number (started_in steps) n) (sym same) ∙ (running_parts steps job (running_of job is)).0)),
    )

    -- one that runs has not ended
    pub unended : (j : ℕ) → runs j now.events ≡ true → has_number (ended_in steps) j ≡ false
    unended j h = (running_parts steps j (running_of j h)).1

    pub not_well : (j : ℕ) → has_number (ended_in steps) j ≡ false → has_number (well_in steps) j ≡ false
    not_well j fresh = false_from_ne_true (has_number (well_in steps) j) (λ well. false≢true (sym fresh ∙ kept.well j well))

  -- ---- a call without a start, in which no edge is judged or taken in

  module _ (steps : List Step) (now new : World) (rest : Rest steps now) (es : List Event) (grew : IsTrue tells → GrewBy es now.history new.history) where
    pub files_before : IsTrue tells → Kept new → Kept now
    files_before tell files = kept_before own asked.graph.edges old.history now.history new.history (grew tell).more (grew tell).grows files

    taken_in_on : (met : Option ℕ) → EndsOf es steps → (tell : IsTrue tells) → EndRightly B asked.graph.edges steps met old.history now.history → EndRightly B asked.graph.edges steps met old.history new.history
    taken_in_on met ends tell taken = taken_on B asked.graph.edges old.history steps met met (rest.history tell).more now.history (grew tell).more new.history (rest.history tell).grows (grew tell).grows (λ i h. h)
        (λ before after i splits. ends (events_in before) (events_in after) i (sym (grew tell).happened ∙ (ap events_in splits ∙ events_in-append before (Happened (Finish i true) ∷ after))))
        (λ i well. (kept_orderly asked.graph.edges steps rest.orderly).well i well) taken

    read_then : (met : Option ℕ) → EndsOf es steps → (tell : IsTrue tells) → EndAsRead B asked.graph.edges steps met old.history now.history → EndAsRead B asked.graph.edges steps met old.history new.history
    read_then met ends tell read = read_on B asked.graph.edges old.history steps met met (rest.history tell).more now.history (grew tell).more new.history (rest.history tell).grows (grew tell).grows (λ i h. h)
        (λ before after i splits. ends (events_in before) (events_in after) i (sym (grew tell).happened ∙ (ap events_in splits ∙ events_in-append before (Happened (Finish i true) ∷ after))))
        (λ i well. (kept_orderly asked.graph.edges steps rest.orderly).well i well) read

    pub beside_on : (met hand next : Option ℕ) → starts_in es ≡ [] → EndsOf es steps → (IsTrue tells → Kept new → Logged steps hand now → Logged steps next new) → (IsTrue tells → Kept new → LeftAlone now → LeftAlone new)
        → Beside steps met hand now → Beside steps met next new
    beside_on met hand next none ends logs alone beside = record {
      idle = beside.idle;
      ready = λ tell. ready_quiet own asked.graph.edges old.history now.history (rest.history tell).more (grew tell).more new.history (rest.history tell).grows (grew tell).grows (ap starts_in (grew tell).happened ∙ none) (beside.ready tell);
      ticked = λ tell. ticked_quiet old.history now.history (rest.history tell).more (grew tell).more new.history (rest.history tell).grows (grew tell).grows (ap starts_in (grew tell).happened ∙ none) (beside.ticked tell);
      clean = λ tell files. beside.clean tell (files_before tell files);
      taken_in = λ tell files. taken_in_on met ends tell (beside.taken_in tell (files_before tell files));
      read = λ tell. read_then met ends tell (beside.read tell);
      logged = λ tell files. logs tell files (beside.logged tell (files_before tell files));
      alone = λ tell files. alone tell files (beside.alone tell (files_before tell files));
    }

  -- a call that only looks
  pub beside_looks : (steps : List Step) (met hand : Option ℕ) (now new : World) → Rest steps now → OnlyLooks tells now new → Beside steps met hand now → Beside steps met hand new
  beside_looks steps met hand now new rest looks beside =
      beside_on steps now new rest [] grew met hand hand refl (no_ends steps)
      (λ tell files logged. looks_logged B format own asked.graph.edges store old now new (rest.history tell).more (rest.history tell).grows files (command_of steps now beside.idle rest) steps hand tells tell looks logged)
      (λ tell files. alone_looks asked.graph.edges old.history now.history (rest.history tell).more new.history (rest.history tell).grows (IsRunning now.events) (looks.history tell))
      beside
    where
      grew : IsTrue tells → GrewBy [] now.history new.history
      grew tell = grew_looking own asked.graph.edges (IsRunning now.events) now.history new.history (looks.history tell)

  -- a command ended, and is no step yet
  beside_finishes : (steps : List Step) (met hand : Option ℕ) (now new : World) (i : ℕ) (ok : Bool) → Rest steps now → Finishes tells i ok now new → Beside steps met hand now → Beside steps met hand new
  beside_finishes steps met hand now new i ok rest finish beside =
      beside_on steps now new rest (Finish i ok ∷ []) grew met hand hand refl (one_end_of steps i ok (unended steps now beside.idle rest i finish.ran))
      (λ tell files logged. rest_logged B format own asked.graph.edges store old now new (rest.history tell).more (rest.history tell).grows files (command_of steps now beside.idle rest) steps hand tells tell i ok finish
      (command_of steps new beside.idle (rest_finishes tells own (task_of asked store) old steps now new i ok rest finish)) logged)
      (λ tell files. alone_adds asked.graph.edges old.history now.history (rest.history tell).more new.history (rest.history tell).grows (IsRunning now.events) (IsRunning new.events) (Finish i ok) (finish.history tell))
      beside
    where
      grew : IsTrue tells → GrewBy (Finish i ok ∷ []) now.history new.history
      grew tell = grew_adding own asked.graph.edges (IsRunning now.events) (IsRunning new.events) (Finish i ok) now.history new.history (finish.history tell)

  -- what the depfile of a command said that ended by itself, as it was when it ended
  abbrev pub SaysAtEnd : ℕ → Bool → World → Type 0
  SaysAtEnd i well now = IsTrue tells → Kept now → (at : List Moment) → EndedAt i old.history now.history at → well ≡ is_accepted (depfile_in B (edge_at asked.graph.edges i).act (view_of at))

  -- and as it was when it was read
  abbrev pub ReadAtEnd : ℕ → Bool → World → Type 0
  ReadAtEnd i well now = IsTrue tells → (at : List Moment) → EndedAt i old.history now.history at → IsReadBehind B (edge_at asked.graph.edges i).act i at now.history well

  -- it becomes a step: what its depfile said was read, or the reading met a fault
  beside_ended : (steps : List Step) (i : ℕ) (w : Bool) (met next : Option ℕ) (now : World) → has_number (well_in steps) i ≡ false → (SaysAtEnd i w now × ReadAtEnd i w now) ⊎ ((w ≡ false) × (met ≡ Some i))
      → (IsTrue tells → Kept now → Logged steps None now → Logged (steps ++ Ended i w ∷ []) next now) → Beside steps None None now → Beside (steps ++ Ended i w ∷ []) met next now
  beside_ended steps i w met next now fresh read logs beside = record {
    idle = beside.idle;
    ready = beside.ready;
    ticked = beside.ticked;
    clean = λ tell files k h stale. beside.clean tell files k (clean_other steps (Ended i w) k refl h) stale;
    taken_in = λ tell files. taken_ended B asked.graph.edges old.history steps i w None met now.history fresh (λ k is. absurd (none_some k is))
        (λ at ended. elim read [ inl says ↦ inl (says.0 tell files at ended) | inr met_it ↦ inr met_it ]) (beside.taken_in tell files);
    read = λ tell. read_ended B asked.graph.edges old.history steps i w None met now.history fresh (λ k is. absurd (none_some k is))
        (λ at ended. elim read [ inl says ↦ inl (says.1 tell at ended) | inr met_it ↦ inr met_it ]) (beside.read tell);
    logged = λ tell files. logs tell files (beside.logged tell files);
    alone = beside.alone;
  }
    where
      none_some : (k : ℕ) → None ≡ Some k → ⊥
      none_some k is = cc

  -- ---- the entry

  -- a site on which nothing runs, and no step
  pub carried_entry : asked.graph.edges ≡ asked.declared → ((file : List ℕ) → NamesOther asked.graph.edges file → ⊥) → store ≡ store_in format own (view_of old.history) → IsIdle old.events → IsCarried tells B format own asked store [] true [] None old old
  carried_entry same others found idle = record {
    run = run_begins tells own (task_of asked store) old;
    phased = phased_entry tells B own asked store old old same others;
    goes = λ on. refl;
    refused = λ off. absurd (true≢false off);
    beside = record {
      idle = idle;
      ready = λ tell. ready_nothing own asked.graph.edges old.history;
      ticked = λ tell. ticked_nothing old.history;
      clean = λ tell files k h stale. false≢true h;
      taken_in = λ tell files. taken_nothing B asked.graph.edges old.history None old.history;
      read = λ tell. read_nothing B asked.graph.edges old.history None old.history;
      logged = λ tell files. subst (λ (s : Store). IsLoggedAt B format own asked.graph.edges [] None s old old) (sym found) (entry_logged B format own asked.graph.edges old);
      alone = λ tell files. alone_nothing asked.graph.edges old.history;
    };
  }

  -- The logs were read, while nothing was judged: the same of any records that are those of the entry, where files are kept.
  pub carried_found : asked.graph.edges ≡ asked.declared → ((file : List ℕ) → NamesOther asked.graph.edges file → ⊥) → (other : Store) (hand : Option ℕ) (now : World) → (IsTrue tells → Kept now → other ≡ store) → IsCarried tells B format own asked store [] true [] hand old now
      → IsCarried tells B format own asked other [] true [] hand old now
  carried_found unloaded others other hand now same carried = record {
    phased = phased_entry tells B own asked other old now unloaded others;
    goes = λ on. refl;
    refused = λ off. absurd (true≢false off);
    run = record { orderly = tt; events = carried.run.events; grows = carried.run.grows; of_steps = carried.run.of_steps; history = carried.run.history };
    beside = record {
      idle = carried.beside.idle;
      ready = carried.beside.ready;
      ticked = carried.beside.ticked;
      clean = λ tell files k h stale. false≢true h;
      taken_in = carried.beside.taken_in;
      read = carried.beside.read;
      logged = λ tell files. subst (λ (s : Store). IsLoggedAt B format own asked.graph.edges [] hand s old now) (sym (same tell files)) (carried.beside.logged tell files);
      alone = carried.beside.alone;
    };
  }

  module _ (phases : List Phase) (goes_on : Bool) where
    abbrev Carried : List Step → Option ℕ → World → Type 0
    Carried steps hand now = IsCarried tells B format own asked store phases goes_on steps hand old now

    abbrev Phased : List Step → World → Type 0
    Phased steps now = IsPhased tells B own asked store phases steps old now

    -- ---- a run that goes on

    rest_of : (steps : List Step) (hand : Option ℕ) (now : World) → Carried steps hand now → Rest steps now
    rest_of steps hand now carried = rest_begins tells own (task_of asked store) old steps now carried.run

    pub carried_looks : (steps : List Step) (hand : Option ℕ) (now new : World) → OnlyLooks tells now new → Carried steps hand now → Carried steps hand new
    carried_looks steps hand now new looks carried = record {
      run = run_looks tells own (task_of asked store) old steps now new carried.run looks;
      phased = phased_on tells B own asked store old phases steps now new (λ tell. (looks.history tell).more) (λ tell. (looks.history tell).grows) carried.phased;
      goes = carried.goes;
      refused = carried.refused;
      beside = beside_looks steps None hand now new (rest_of steps hand now carried) looks carried.beside;
    }

    -- an edge was judged, rightly by the files of now
    pub carried_judged : (steps : List Step) (hand : Option ℕ) (now : World) (i : ℕ) (out_of_date : Bool) → goes_on ≡ true → IsLawfulStep (task_of asked store) steps (Judged i out_of_date) → NoLoadIsDue (task_of asked store) steps
        → (IsTrue tells → (files : Kept now) → RecordedApart own (recorded_inputs store asked.graph.edges) → ReadsNoFree files.free asked.graph.edges store now.history i → IsVerdict asked.graph.edges store (well_in steps) old.history now.history i out_of_date)
        → (IsTrue tells → Kept now → IsStaleByOutputs asked.graph.edges store old.history i → out_of_date ≡ true)
        → Carried steps hand now → Carried (steps ++ Judged i out_of_date ∷ []) hand now
    carried_judged steps hand now i b on next none right sound carried = record {
      run = run_judged tells own (task_of asked store) old steps now i b carried.run (orderly_step (task_of asked store) steps (Judged i b) next);
      phased = phased_step tells B own asked store old phases steps now carried.phased (Judged i b) (carried.goes on) next none
          (λ tell. over_now tells B own asked store old steps now i b carried.run carried.phased.loaded right);
      goes = λ h. refl;
      refused = λ off. absurd (true≢false (sym on ∙ off));
      beside = record {
        idle = carried.beside.idle;
        ready = carried.beside.ready;
        ticked = carried.beside.ticked;
        clean = λ tell files. clean_push asked.graph.edges store old.history steps i b (sound tell files) (carried.beside.clean tell files);
        taken_in = λ tell files. taken_other B asked.graph.edges old.history steps (Judged i b) None now.history refl refl (carried.beside.taken_in tell files);
        read = λ tell. read_other B asked.graph.edges old.history steps (Judged i b) None now.history refl refl (carried.beside.read tell);
        logged = λ tell files.
            let was = carried.beside.logged tell files in
            record { readable = was.readable; logged = logged_judged B asked.graph.edges store old steps hand (store_in format own (view_of now.history)) now i b was.logged };
        alone = carried.beside.alone;
      };
    }

    -- an edge is taken in hand, to be started
    pub carried_hand : (steps : List Step) (now : World) (i : ℕ) → Carried steps None now → Carried steps (Some i) now
    carried_hand steps now i carried = record {
      run = carried.run;
      phased = carried.phased;
      goes = carried.goes;
      refused = carried.refused;
      beside = record {
        idle = carried.beside.idle;
        ready = carried.beside.ready;
        ticked = carried.beside.ticked;
        clean = carried.beside.clean;
        taken_in = carried.beside.taken_in;
        read = carried.beside.read;
        logged = λ tell files.
            let was = carried.beside.logged tell files in
            record { readable = was.readable; logged = logged_hand B asked.graph.edges store old steps (store_in format own (view_of now.history)) now i was.logged };
        alone = carried.beside.alone;
      };
    }

    -- ---- the program writes at one path

    module _ (steps : List Step) (hand next : Option ℕ) (now new : World) (path : List ℕ) where
      at_path : IsRun tells own (task_of asked store) steps old new → new.events ≡ now.events → (IsTrue tells → GrewAt path (IsRunning now.events) now.history new.history)
          → (IsTrue tells → Kept new → Logged steps hand now → Logged steps next new)
          → (IsTrue tells → Kept new → (j : ℕ) → has_number (running_in steps) j ≡ true → IsCommand asked.graph.edges j → IsNoFileOf asked.graph.edges j path) → Carried steps hand now → Carried steps next new
      at_path run events grew logs apart carried = record {
        run = run;
        phased = phased_on tells B own asked store old phases steps now new (λ tell. (grew tell).more) (λ tell. (grew tell).grows) carried.phased;
        goes = carried.goes;
        refused = carried.refused;
        beside = beside_on steps now new rest [] (λ tell. grew_at path (IsRunning now.events) now.history new.history (grew tell)) None hand next refl (no_ends steps) logs alone carried.beside;
      }
        where
          rest : Rest steps now
          rest = rest_of steps hand now carried

          alone : IsTrue tells → Kept new → LeftAlone now → LeftAlone new
          alone tell files = alone_at asked.graph.edges old.history now.history (rest.history tell).more new.history (rest.history tell).grows path (IsRunning now.events) (grew tell)
              (λ j ran.
              let runs_now : runs j now.events ≡ true = runs_told steps now carried.beside.idle rest tell j ran in
              apart tell files j (running_of steps now carried.beside.idle rest j runs_now) (command_of steps now carried.beside.idle rest j runs_now))

      -- a file of its own is none of a command's
      no_command : own.files path ≡ true → IsTrue tells → Kept new → (j : ℕ) → has_number (running_in steps) j ≡ true → IsCommand asked.graph.edges j → IsNoFileOf asked.graph.edges j path
      no_command mine tell files j running command = own_apart own asked.graph.edges files.own_files j command path mine

      -- It is one of its own files, a log among them: what the logs tell is handed in.
      pub carried_log : own.files path ≡ true → WritesAt tells path now new → (IsTrue tells → Kept new → Logged steps hand now → Logged steps next new) → Carried steps hand now → Carried steps next new
      carried_log mine writes logs carried =
          at_path (run_at tells own (task_of asked store) path steps old now new (λ content. inl mine) writes.events writes.history carried.run) writes.events writes.history logs (no_command mine) carried

    module _ (steps : List Step) (hand : Option ℕ) (now new : World) (path : List ℕ) where
      -- where the path is no log
      apart_logged : new.events ≡ now.events → (IsTrue tells → GrewAt path (IsRunning now.events) now.history new.history) → (IsTrue tells → Kept new → (path ≢ own.build_log) × (path ≢ own.deps_log)) → Carried steps hand now
          → IsTrue tells → Kept new → Logged steps hand now → Logged steps hand new
      apart_logged events grew apart carried tell files logged =
          let told = carried.run.history tell in
          logged_at B format own asked.graph.edges store old now new told.more told.grows files (command_of steps now carried.beside.idle (rest_of steps hand now carried))
          path (apart tell files).0 (apart tell files).1 (grew tell) steps hand events logged

      -- one of its own files that is no log
      pub carried_own : own.files path ≡ true → path ≢ own.build_log → path ≢ own.deps_log → WritesAt tells path now new → Carried steps hand now → Carried steps hand new
      carried_own mine no_build_log no_deps_log writes carried =
          carried_log steps hand hand now new path mine writes (apart_logged writes.events writes.history (λ tell files. (no_build_log, no_deps_log)) carried) carried

      pub carried_ticks : own.files path ≡ true → path ≢ own.build_log → path ≢ own.deps_log → (stamp : ℕ) → Ticks tells path stamp now new → Carried steps hand now → Carried steps hand new
      carried_ticks mine no_build_log no_deps_log stamp ticks carried =
          at_path steps hand hand now new path (run_at tells own (task_of asked store) path steps old now new (λ content. inl mine) ticks.events grew carried.run) ticks.events grew
          (apart_logged ticks.events grew (λ tell files. (no_build_log, no_deps_log)) carried) (no_command steps hand hand now new path mine) carried
        where
          grew : IsTrue tells → GrewAt path (IsRunning now.events) now.history new.history
          grew = ticks_grew tells path stamp now new ticks

      pub carried_ticks_or_not : own.files path ≡ true → path ≢ own.build_log → path ≢ own.deps_log → TicksOrNot tells path now new → Carried steps hand now → Carried steps hand new
      carried_ticks_or_not mine no_build_log no_deps_log (inl looks) carried = carried_looks steps hand now new looks carried
      carried_ticks_or_not mine no_build_log no_deps_log (inr (stamp, ticks)) carried = carried_ticks mine no_build_log no_deps_log stamp ticks carried

    no_log : (path log : List ℕ) → LiesIn own path → own.files log ≡ true → path ≢ log
    no_log path log lies mine same = false≢true (sym lies.1 ∙ (ap own.files same ∙ mine))

    -- what runs is another edge's command
    runs_other : (steps : List Step) (i j : ℕ) → has_number (running_in steps) i ≡ false → has_number (running_in steps) j ≡ true → j ≢ i
    runs_other steps i j rests running same = false≢true (sym rests ∙ (ap (λ (n : ℕ). has_number (running_in steps) n) (sym same) ∙ running))

    -- the response file of an edge that was judged out of date is written, or removed, while its command does not run
    pub carried_response : (steps : List Step) (hand : Option ℕ) (now new : World) (i : ℕ) → has_number (out_of_date_in steps) i ≡ true → has_number (running_in steps) i ≡ false → WritesAt tells (edge_at asked.graph.edges i).act.response_path now new
        → Carried steps hand now → Carried steps hand new
    carried_response steps hand now new i stale rests writes carried =
        at_path steps hand hand now new path (run_at tells own (task_of asked store) path steps old now new (λ content. inr (inr (i, stale, refl))) writes.events writes.history carried.run) writes.events writes.history
        (apart_logged steps hand now new path writes.events writes.history (λ tell files.
        let lies = files.own_files.responses i command in
        (no_log path own.build_log lies files.own_files.build_log, no_log path own.deps_log lies files.own_files.deps_log)) carried)
        (λ tell files j running theirs. response_apart own asked.graph.edges files.own_files j theirs i command (runs_other steps i j rests running)) carried
      where
        path : List ℕ
        path = (edge_at asked.graph.edges i).act.response_path

        command : IsCommand asked.graph.edges i
        command = stale_command steps now carried.beside.idle (rest_of steps hand now carried) i stale

    -- its depfile is removed, while its command does not run
    pub carried_depfile : (steps : List Step) (hand : Option ℕ) (now new : World) (i : ℕ) → has_number (out_of_date_in steps) i ≡ true → has_number (running_in steps) i ≡ false → WritesOrNot tells (edge_at asked.graph.edges i).act.depfile None now new
        → Carried steps hand now → Carried steps hand new
    carried_depfile steps hand now new i stale rests (inl looks) carried = carried_looks steps hand now new looks carried
    carried_depfile steps hand now new i stale rests (inr writes) carried =
        at_path steps hand hand now new path run call.events call.history
        (apart_logged steps hand now new path call.events call.history (λ tell files.
        let lies = files.own_files.depfiles i command in
        (no_log path own.build_log lies files.own_files.build_log, no_log path own.deps_log lies files.own_files.deps_log)) carried)
        (λ tell files j running theirs. depfile_apart own asked.graph.edges files.own_files j theirs i command (runs_other steps i j rests running)) carried
      where
        path : List ℕ
        path = (edge_at asked.graph.edges i).act.depfile

        command : IsCommand asked.graph.edges i
        command = stale_command steps now carried.beside.idle (rest_of steps hand now carried) i stale

        call : WritesAt tells (edge_at asked.graph.edges i).act.depfile now new
        call = writes_at tells (edge_at asked.graph.edges i).act.depfile None now new writes

        run : IsRun tells own (task_of asked store) steps old new
        run = run_wrote tells own (task_of asked store) path steps old now new None (inr (inl (i, stale, refl, refl))) writes carried.run

    -- ---- a command is started

    -- one that is in hand and ready
    pub carried_starts : (steps : List Step) (now new : World) (i : ℕ) (act : Act) → goes_on ≡ true → IsLawfulStep (task_of asked store) steps (Started i) → NoLoadIsDue (task_of asked store) steps → act ≡ (edge_at asked.graph.edges i).act → IsReadyToStart tells format own asked.graph.edges i old now
        → Starts tells i act now new → Carried steps (Some i) now → Carried (steps ++ Started i ∷ []) None new
    carried_starts steps now new i act on next none is ready starts carried = record {
      run = run;
      phased = phased_step tells B own asked store old phases steps new (phased_on tells B own asked store old phases steps now new (λ tell. (grew tell).more) (λ tell. (grew tell).grows) carried.phased)
          (Started i) (carried.goes on) next none (λ tell k b is. absurd (no_judgement k b is));
      goes = λ h. refl;
      refused = λ off. absurd (true≢false (sym on ∙ off));
      beside = record {
        idle = idle;
        ready = λ tell. start_ready own asked.graph.edges tells tell old.history (rest.history tell).more now new (rest.history tell).grows i act (stale_command steps now idle rest i next.1.stale)
            (others_run steps now idle rest i next.1.once) is starts (λ named other. ready.depfile named other tell) (λ named. ready.response named tell) (carried.beside.ready tell);
        ticked = λ tell.
            let tick = ready.ticked tell in
            ticked_starts old.history own asked.graph.edges tells tell now new tick.so_far tick.was i act starts tick.tick (carried.beside.ticked tell);
        clean = λ tell files k h stale. carried.beside.clean tell (before tell files) k (clean_other steps (Started i) k refl h) stale;
        taken_in = λ tell files. taken_other B asked.graph.edges old.history steps (Started i) None new.history refl refl
            (taken_in_on steps now new rest (Start i act now.ticked ∷ []) grew None (start_no_end steps i now.ticked act) tell (carried.beside.taken_in tell (before tell files)));
        read = λ tell. read_other B asked.graph.edges old.history steps (Started i) None new.history refl refl
            (read_then steps now new rest (Start i act now.ticked ∷ []) grew None (start_no_end steps i now.ticked act) tell (carried.beside.read tell));
        logged = λ tell files. start_logged B format own asked.graph.edges store old now new (rest.history tell).more (rest.history tell).grows files (command_of steps now idle rest) steps tells tell i act starts
            (command_of (steps ++ Started i ∷ []) new idle (rest_begins tells own (task_of asked store) old (steps ++ Started i ∷ []) new run)) (ready.begun tell (before tell files)) not_well_yet (carried.beside.logged tell (before tell files));
        alone = λ tell files. alone_adds asked.graph.edges old.history now.history (rest.history tell).more new.history (rest.history tell).grows (IsRunning now.events) (IsRunning new.events) (Start i act now.ticked)
            (starts.history tell) (carried.beside.alone tell (before tell files));
      };
    }
      where
        idle : IsIdle old.events
        idle = carried.beside.idle

        rest : Rest steps now
        rest = rest_of steps (Some i) now carried

        run : IsRun tells own (task_of asked store) (steps ++ Started i ∷ []) old new
        run = run_starts tells own (task_of asked store) old steps now new i act carried.run (orderly_step (task_of asked store) steps (Started i) next) is starts

        grew : IsTrue tells → GrewBy (Start i act now.ticked ∷ []) now.history new.history
        grew tell = grew_adding own asked.graph.edges (IsRunning now.events) (IsRunning new.events) (Start i act now.ticked) now.history new.history (starts.history tell)

        before : IsTrue tells → Kept new → Kept now
        before tell files = files_before steps now new rest (Start i act now.ticked ∷ []) grew tell files

        no_judgement : (k : ℕ) (b : Bool) → Started i ≡ Judged k b → ⊥
        no_judgement k b is = cc

        not_well_yet : has_number (well_in steps) i ≡ true → ⊥
        not_well_yet well =
            let all = kept_orderly asked.graph.edges steps rest.orderly in
            false≢true (sym next.1.once ∙ all.ended i (all.well i well))

    -- its stamp is that of the last tick
    pub started_under : (steps : List Step) (hand : Option ℕ) (now new : World) (i : ℕ) (act : Act) → Starts tells i act now new → Carried steps hand now → StartedUnder i now.ticked old new
    started_under steps hand now new i act starts carried = record {
      act = act;
      before = carried.run.events;
      after = [];
      splits = starts.events ∙ (ap (λ (l : List Event). l ++ Start i act now.ticked ∷ []) carried.run.grows ∙ append_assoc old.events carried.run.events (Start i act now.ticked ∷ []));
    }

    -- a start that failed has started its command, which is in hand no more, or has not
    pub carried_starts_or_not : (steps : List Step) (now new : World) (i : ℕ) (act : Act) → goes_on ≡ true → IsLawfulStep (task_of asked store) steps (Started i) → NoLoadIsDue (task_of asked store) steps → act ≡ (edge_at asked.graph.edges i).act → IsReadyToStart tells format own asked.graph.edges i old now
        → StartsOrNot tells i act now new → Carried steps (Some i) now → Carried steps (Some i) new ⊎ Carried (steps ++ Started i ∷ []) None new
    carried_starts_or_not steps now new i act on next none is ready (inl looks) carried = inl (carried_looks steps (Some i) now new looks carried)
    carried_starts_or_not steps now new i act on next none is ready (inr starts) carried = inr (carried_starts steps now new i act on next none is ready starts carried)

    -- ---- a command is taken in

    -- it ended, and since then the site was only looked at: its depfile was read
    module _ (steps : List Step) (now mid new : World) (i : ℕ) (ok : Bool) (lawful : goes_on ≡ true → NoneMayBeJudged (task_of asked store) steps × NoneMayStart (task_of asked store) steps × NoLoadIsDue (task_of asked store) steps)
        (finish : Finishes tells i ok now mid) (looks : OnlyLooks tells mid new) (carried : Carried steps None now) where
      rest : Rest steps now
      rest = rest_of steps None now carried

      run_taken : (w : Bool) → IsEndOf (edge_at asked.graph.edges i) w ok → IsRun tells own (task_of asked store) (steps ++ Ended i w ∷ []) old new
      run_taken w is = run_looks tells own (task_of asked store) old (steps ++ Ended i w ∷ []) mid new
          (run_takes_in tells own (task_of asked store) old steps now mid i w ok carried.beside.idle carried.run is finish) looks

      ended_yet : Beside steps None None new
      ended_yet = beside_looks steps None None mid new (rest_finishes tells own (task_of asked store) old steps now mid i ok rest finish) looks
          (beside_finishes steps None None now mid i ok rest finish carried.beside)

      runs_yet : has_number (running_in steps) i ≡ true
      runs_yet = running_of steps now carried.beside.idle rest i finish.ran

      grew_ending : IsTrue tells → GrewBy (Finish i ok ∷ []) now.history mid.history
      grew_ending tell = grew_adding own asked.graph.edges (IsRunning now.events) (IsRunning mid.events) (Finish i ok) now.history mid.history (finish.history tell)

      abbrev phased_then : Phased steps new
      phased_then = phased_on tells B own asked store old phases steps mid new (λ tell. (looks.history tell).more) (λ tell. (looks.history tell).grows)
          (phased_on tells B own asked store old phases steps now mid (λ tell. (grew_ending tell).more) (λ tell. (grew_ending tell).grows) carried.phased)

      fresh : has_number (well_in steps) i ≡ false
      fresh = not_well steps now carried.beside.idle rest i (unended steps now carried.beside.idle rest i finish.ran)

      as_failed : IsTrue tells → Kept new → Logged steps None new → Logged (steps ++ Ended i false ∷ []) None new
      as_failed tell files was = record { readable = was.readable; logged = logged_as_failed B asked.graph.edges store old steps (store_in format own (view_of new.history)) new i was.logged }

      -- It ended well, and is in hand until it is recorded.
      ended_phases : (w : Bool) (b : Bool) → goes_on ≡ b → ArePhases tells B own asked store phases goes_on (steps ++ Ended i w ∷ []) old new
      ended_phases w true on = record {
        phased = phased_step tells B own asked store old phases steps new phased_then (Ended i w) (carried.goes on) (runs_yet, (lawful on).0, (lawful on).1) (lawful on).2 (λ tell k b is. absurd (no_judgement k b is));
        goes = λ h. refl;
        refused = λ off. absurd (true≢false (sym on ∙ off));
      }
        where
          no_judgement : (k : ℕ) (b : Bool) → Ended i w ≡ Judged k b → ⊥
          no_judgement k b is = cc
      ended_phases w false off = record {
        phased = phased_taken_in tells B own asked store old phases steps new phased_then i w runs_yet (carried.refused off);
        goes = λ on. absurd (true≢false (sym on ∙ off));
        refused = λ h. carried.refused off;
      }

      pub carried_well : ok ≡ true → SaysAtEnd i true new × ReadAtEnd i true new → Carried (steps ++ Ended i true ∷ []) (Some i) new
      carried_well went says = record {
        run = run_taken true ((λ h. went), (λ none. sym went));
        phased = these.phased;
        goes = these.goes;
        refused = these.refused;
        beside = beside_ended steps i true None (Some i) new fresh (inl says)
            (λ tell files was. record { readable = was.readable; logged = logged_as_well B asked.graph.edges store old steps (store_in format own (view_of new.history)) new i was.logged }) ended_yet;
      }
        where
          these : ArePhases tells B own asked store phases goes_on (steps ++ Ended i true ∷ []) old new
          these = ended_phases true goes_on refl

      -- It failed, or its depfile is refused.
      pub carried_failed : ((edge_at asked.graph.edges i).act.depfile ≡ [] → ok ≡ false) → SaysAtEnd i false new × ReadAtEnd i false new → Carried (steps ++ Ended i false ∷ []) None new
      carried_failed went says = record {
        run = run_taken false ((λ h. absurd (false≢true h)), (λ none. sym (went none)));
        phased = these.phased;
        goes = these.goes;
        refused = these.refused;
        beside = beside_ended steps i false None None new fresh (inl says) as_failed ended_yet;
      }
        where
          these : ArePhases tells B own asked store phases goes_on (steps ++ Ended i false ∷ []) old new
          these = ended_phases false goes_on refl

      -- The reading of its depfile met a fault.
      pub cut_in_reading : (edge_at asked.graph.edges i).act.depfile ≢ [] → CutOff phases (steps ++ Ended i false ∷ []) (Some i) new
      cut_in_reading named = record {
        phased = (ended_phases false goes_on refl).phased;
        run = rest_begins tells own (task_of asked store) old (steps ++ Ended i false ∷ []) new run;
        beside = beside_ended steps i false (Some i) (Some i) new fresh (inr (refl, refl)) (λ tell files was.
            let failed = as_failed tell files was in
            record { readable = failed.readable; logged = logged_hand B asked.graph.edges store old (steps ++ Ended i false ∷ []) (store_in format own (view_of new.history)) new i failed.logged }) ended_yet;
      }
        where
          run : IsRun tells own (task_of asked store) (steps ++ Ended i false ∷ []) old new
          run = run_taken false ((λ h. absurd (false≢true h)), (λ none. absurd (named none)))

    -- ---- after a fault, and at the exit

    -- the run has ended, or a fault cuts it off
    pub cut_off : (steps : List Step) (hand : Option ℕ) (now : World) → Carried steps hand now → CutOff phases steps hand now
    cut_off steps hand now carried = record {
      phased = carried.phased;
      run = rest_of steps hand now carried;
      beside = record {
        idle = carried.beside.idle;
        ready = carried.beside.ready;
        ticked = carried.beside.ticked;
        clean = carried.beside.clean;
        taken_in = λ tell files.
            let taken = carried.beside.taken_in tell files in
            record { well = taken.well; depfiles = λ i at ended has unmet. taken.depfiles i at ended has (λ is. absurd (nothing i is)) };
        read = λ tell.
            let read = carried.beside.read tell in
            record { well = read.well; depfiles = λ i at ended has unmet. read.depfiles i at ended has (λ is. absurd (nothing i is)) };
        logged = carried.beside.logged;
        alone = carried.beside.alone;
      };
    }
      where
        nothing : (i : ℕ) → None ≡ Some i → ⊥
        nothing i is = cc

  -- a wait that was refused, and each call that only looks
  pub cut_looks : (phases : List Phase) (steps : List Step) (met : Option ℕ) (now new : World) → OnlyLooks tells now new → CutOff phases steps met now → CutOff phases steps met new
  cut_looks phases steps met now new looks cut = record {
    phased = phased_on tells B own asked store old phases steps now new (λ tell. (looks.history tell).more) (λ tell. (looks.history tell).grows) cut.phased;
    run = rest_looks tells own (task_of asked store) old steps now new cut.run looks;
    beside = beside_looks steps met met now new cut.run looks cut.beside;
  }

  -- a command that ran is taken in
  pub cut_finishes : (phases : List Phase) (steps : List Step) (met : Option ℕ) (now new : World) (i : ℕ) (ok : Bool) → Finishes tells i ok now new → CutOff phases steps met now → CutOff phases steps met new
  cut_finishes phases steps met now new i ok finish cut = record {
    phased = phased_on tells B own asked store old phases steps now new (λ tell. (ends tell).more) (λ tell. (ends tell).grows) cut.phased;
    run = rest_finishes tells own (task_of asked store) old steps now new i ok cut.run finish;
    beside = beside_finishes steps met met now new i ok cut.run finish cut.beside;
  }
    where
      ends : IsTrue tells → GrewBy (Finish i ok ∷ []) now.history new.history
      ends tell = grew_adding own asked.graph.edges (IsRunning now.events) (IsRunning new.events) (Finish i ok) now.history new.history (finish.history tell)

  module _ (phases : List Phase) (steps : List Step) (met : Option ℕ) (now : World) (cut : CutOff phases steps met now) where
    pub run_of : IsMadeOnce asked.graph.edges ⊎ OnlyLooks tells old now → IsRunOf tells B format own asked store steps met old now
    run_of once = record { idle = cut.beside.idle; run = cut.run; made_once = once; logged = cut.beside.logged; ticked = cut.beside.ticked }

    pub judged_of : IsMadeOnce asked.graph.edges → ((file : List ℕ) → NamesOther asked.declared file → ⊥) → IsTrue tells → (files : Kept now) → RecordedApart own (recorded_inputs store asked.graph.edges)
        → InputsAreKnown asked.declared asked.graph.edges (recorded_inputs store asked.graph.edges) → IsJudged B files.free asked store steps met old.history now.history
    judged_of once others tell files apart known =
        verdicts_with_loads tells B own cut.phased.texts asked store steps met old now tell cut.beside.idle once others cut.phased.build cut.run (cut.phased.before tell) (cut.phased.last tell) files apart known
        (cut.beside.taken_in tell files)

    -- each verdict at its moment
    pub judged_at_of : IsTrue tells → (files : Kept now) → RecordedApart own (recorded_inputs store asked.graph.edges)
        → ArePhasesJudgedAt files.free store [] cut.phased.build.earlier old.history now.history
        × AreJudgedAt files.free asked.graph.edges store (steps_of cut.phased.build.earlier) cut.phased.build.last old.history now.history
    judged_at_of tell files apart =
        verdicts_at_moments tells B own cut.phased.texts asked store steps old now tell cut.beside.idle cut.phased.build (cut.phased.before tell) (cut.phased.last tell) files apart

    pub frame_of : IsMadeOnce asked.graph.edges → IsTrue tells → IsFrame own asked.graph.edges steps old.history now.history
    frame_of once tell = frame tells own (task_of asked store) steps old now cut.beside.idle cut.run tell once (cut.beside.ready tell)

    pub records_of : IsMadeOnce asked.graph.edges → IsTrue tells → Kept now → KeepsRecords B asked store (store_at format own now) steps met old now
    records_of once tell files = records_are_kept tells B format own asked store steps met old now tell cut.beside.idle cut.run once (cut.beside.logged tell files).logged

    -- the edge whose start or taking in met the fault was taken in by a step, if at all
    pub met_by_step : (i : ℕ) → (has_number (started_in steps) i ≡ false) ⊎ (has_number (ended_in steps) i ≡ true) → WasTakenIn i old now → has_number (ended_in steps) i ≡ true
    met_by_step i (inl unstarted) taken = absurd (false≢true (sym unstarted ∙ taken_in_started tells own (task_of asked store) steps old now cut.beside.idle cut.run i taken))
    met_by_step i (inr ended) taken = ended
