-- What a run has come to, in the words of one build.
use Rattle.std.proofs.Common.{◌≡◌, ◌≢◌, ◌⊎◌, inl, inr, ℕ, ◌==◌, cond, Bool, true, false, IsTrue, List, [], ◌∷◌, ◌++◌, refl, sym, ◌∙◌, ap, subst, None}
use Rattle.std.proofs.lemmas.Bool.{false≢true, or_left, eq-eqb, false_from_ne_true}
use Rattle.model.specs.declared.act.Act.{Act}
use Rattle.model.specs.declared.graph.Edge.{Edge}
use Rattle.model.specs.declared.event.Event.{Event}
use Rattle.model.specs.declared.event.Event.TheVariants.{Start, Finish}
use Rattle.model.specs.declared.event.Moment.{Moment}
use Rattle.model.specs.declared.event.Moment.TheVariants.{Happened}
use Rattle.model.specs.World.{World, View, view_of, runs, IsIdle, events_in}
use Rattle.model.specs.Graph.{has, has_number, edge_at, outputs, inputs, IsMadeOnce, IsCommand}
use Rattle.model.specs.Outcome.{Behaviour, depfile_in, is_accepted}
use Rattle.model.specs.Records.{Store, OwnFiles, recorded_inputs}
use Rattle.model.specs.OutOfDate.{IsVerdict}
use Rattle.model.specs.Schedule.{Task, Step, Judged, Started, Ended, clean_in, ended_in, well_in, running_in, done_in, IsSettled, MayBeJudged, NoneMayBeJudged, NoneMayStart, IsLawful, AreEventsOf, AreFinishes}
use Rattle.model.specs.Premises.{Matters, Premises, EndedAt}
use Rattle.model.specs.SingleBuild.{Asked, Answer, is_fault, task_of, InCone, IsScheduled, HasEnded, IsJudged, IsFrame, IsCleanlyBuilt}
use Rattle.theory.specs.Order.{LeaveAsNow, AreReadFirst, no_records}
use Rattle.theory.specs.Run.{IsToldBy, IsRun, IsRunOrRest, AreStartsReady}
use Rattle.theory.proofs.Orderly.{kept_orderly}
use Rattle.theory.proofs.Lists.{same_rest, has-left, has_number-right}
use Rattle.theory.proofs.Steps.{lawful_parts, running_parts, in_right, clean-append}
use Rattle.theory.proofs.Events.{runs_push, runs_now}
use Rattle.theory.proofs.Moments.{events_in-append}
use Rattle.theory.proofs.Runs.{running_now}
use Rattle.theory.proofs.Exit.{clean_where_explained, frame}
use Rattle.model.specs.Phases.{NoLoadIsDue}
use Rattle.theory.proofs.Loads.{one_phase}
use Rattle.theory.proofs.Nothing.{verdict_of_nothing, reads_where_settled}

-- ---- the schedule

module _ (tells : Bool) (own : OwnFiles) (asked : Asked) (store : Store) (steps : List Step) (old now : World) where
  module _ (B : Behaviour) (texts : View) (same : asked.graph.edges ≡ asked.declared) (none : (i : ℕ) → (edge_at asked.graph.edges i).dyndep ≡ None) where
    abbrev pub scheduled : (answer : Answer) → IsLawful (task_of asked store) steps → (rest : IsRunOrRest tells own (task_of asked store) steps old now) → (is_fault answer ≡ false → rest.later ≡ [])
        → IsScheduled B texts asked store steps old now answer
    scheduled answer lawful rest whole = record {
      lawful = one_phase B.dyndep texts asked.declared (task_of asked store) store steps same none lawful;
      first = rest.first;
      later = rest.later;
      grows = rest.grows;
      of_steps = rest.of_steps;
      finishes = rest.finishes;
      whole = whole;
      went_on = λ on. refl;
    }

  -- a run in which no command runs leaves the site idle
  pub idle_at_end : IsIdle old.events → IsRun tells own (task_of asked store) steps old now → running_in steps ≡ [] → IsIdle now.events
  idle_at_end idle run none job = running_now tells own (task_of asked store) old steps now idle run job ∙ ap (λ (l : List ℕ). has_number l job) none

  pub has_ended : IsIdle old.events → IsRun tells own (task_of asked store) steps old now → running_in steps ≡ [] → NoneMayBeJudged (task_of asked store) steps → NoneMayStart (task_of asked store) steps → NoLoadIsDue (task_of asked store) steps → HasEnded asked store steps now
  has_ended idle run none unjudged unstarted loaded = record {
    idle = idle_at_end idle run none;
    judged = unjudged;
    started = unstarted;
    loaded = loaded;
  }

  -- ---- from nothing

  -- Where nothing was judged clean, and each edge of the cone is settled, the outputs of the cone are those of the clean build.
  pub clean_at_success : IsTrue tells → IsIdle old.events → IsRunOrRest tells own (task_of asked store) steps old now → IsMadeOnce asked.graph.edges → clean_in steps ≡ []
      → (B : Behaviour) → AreReadFirst asked.graph.edges (Matters B asked.graph.edges (recorded_inputs store asked.graph.edges) steps old.history now.history) steps
      → ((i : ℕ) → InCone asked store i → IsSettled asked.graph.edges (done_in steps) i)
      → (premises : Premises B own asked.declared asked.graph.edges (recorded_inputs store asked.graph.edges) steps old.history now.history)
      → LeaveAsNow B premises.files.quiet asked.graph.edges steps old.history now.history
      → IsCleanlyBuilt B premises.files.quiet asked store (view_of now.history)
  clean_at_success tell idle rest once none B first settled premises lefts i o is_quiet within command is_output =
      clean_where_explained tells own (task_of asked store) steps old now idle rest tell B asked.declared once premises lefts first
      (λ j p is_quiet clean is_out. absurd (false≢true (subst (λ (l : List ℕ). has_number l j ≡ true) none clean)))
      i o is_quiet command (settled i within) is_output

  pub frame_of_run : IsTrue tells → IsIdle old.events → IsRunOrRest tells own (task_of asked store) steps old now → IsMadeOnce asked.graph.edges
      → AreStartsReady own asked.graph.edges old.history now.history → IsFrame own asked.graph.edges steps old.history now.history
  frame_of_run tell idle rest once ready = frame tells own (task_of asked store) steps old now idle rest tell once ready

-- ---- verdicts without records

module _ (own : OwnFiles) (asked : Asked) (steps : List Step) (lawful : IsLawful (task_of asked no_records) steps) where
  judged_so : (before after : List Step) (i : ℕ) (out_of_date : Bool) → clean_in steps ≡ [] → steps ≡ before ++ Judged i out_of_date ∷ after → out_of_date ≡ true
  judged_so before after i true none splits = refl
  judged_so before after i false none splits =
      absurd (false≢true (ap (λ (l : List ℕ). has_number l i) (sym none) ∙ (ap (λ (l : List Step). has_number (clean_in l) i) splits
      ∙ in_right clean_in clean-append before (Judged i false ∷ after) i (or_left (i == i) (has_number (clean_in after) i) (eq-eqb i i refl)))))

  -- where every verdict was out of date, and each command has an output, the verdicts are right
  pub verdicts_of_nothing : clean_in steps ≡ [] → ((i : ℕ) → IsCommand asked.graph.edges i → outputs (edge_at asked.graph.edges i) ≢ []) → (old new : List Moment)
      → (before after : List Step) (i : ℕ) (out_of_date : Bool) → steps ≡ before ++ Judged i out_of_date ∷ after → IsVerdict asked.graph.edges no_records (well_in before) old new i out_of_date
  verdicts_of_nothing none some old new before after i out_of_date splits =
      subst (λ (b : Bool). IsVerdict asked.graph.edges no_records (well_in before) old new i b) (sym (judged_so before after i out_of_date none splits))
      (verdict_of_nothing asked.graph.edges (well_in before) old new i
      (reads_where_settled asked.graph.edges (view_of new) (done_in before) i (λ q j input is. turn.ready q (has-left (inputs (edge_at asked.graph.edges i)) (recorded_inputs no_records asked.graph.edges i) q input) j is))
      (some i turn.command))
    where
      turn : MayBeJudged (task_of asked no_records) before i
      turn = (lawful_parts (task_of asked no_records) [] before (Judged i out_of_date ∷ after) (subst (λ (l : List Step). IsLawful (task_of asked no_records) l) splits lawful)).1.0.0

-- ---- commands without depfiles

-- one of the finishes of these events is of the job, and went well
record FinishesIn (job : ℕ) (events : List Event) : Type 0 where
  before : List Event
  after : List Event
  splits : events ≡ before ++ Finish job true ∷ after

-- an event of two lists is of the first or of the second
either_finish : (job : ℕ) (xs ys before after : List Event) → xs ++ ys ≡ before ++ Finish job true ∷ after → FinishesIn job xs ⊎ FinishesIn job ys
either_finish job [] ys before after is = inr record { before = before; after = after; splits = is }
either_finish job (x ∷ xs) ys [] after is =
    let head : x ≡ Finish job true = cc in
    inl record { before = []; after = xs; splits = ap (λ (e : Event). e ∷ xs) head }
either_finish job (x ∷ xs) ys (b ∷ before) after is =
    let tail : xs ++ ys ≡ before ++ Finish job true ∷ after = cc in
    elim (either_finish job xs ys before after tail) [
      | inl first ↦ inl record { before = x ∷ first.before; after = first.after; splits = ap (λ (l : List Event). x ∷ l) first.splits }
      | inr second ↦ inr second
    ]

-- a command that ended well by itself, and whose act names no depfile, ended well
well_by_itself : (edges : List Edge) (steps : List Step) (es before after : List Event) (i : ℕ) → (edge_at edges i).act.depfile ≡ [] → AreEventsOf edges steps es → es ≡ before ++ Finish i true ∷ after
    → has_number (well_in steps) i ≡ true
well_by_itself edges [] [] [] after i none a is = cc
well_by_itself edges [] [] (b ∷ before) after i none a is = cc
well_by_itself edges [] (e ∷ es) before after i none a is = absurd a
well_by_itself edges (Judged j w ∷ steps) es before after i none a is = well_by_itself edges steps es before after i none a is
well_by_itself edges (Started j ∷ steps) [] before after i none a is = absurd a
well_by_itself edges (Started j ∷ steps) (Start job act stamp ∷ es) [] after i none a is = cc
well_by_itself edges (Started j ∷ steps) (Start job act stamp ∷ es) (b ∷ before) after i none a is =
    let tail : es ≡ before ++ Finish i true ∷ after = cc in
    well_by_itself edges steps es before after i none a.2 tail
well_by_itself edges (Started j ∷ steps) (Finish job ok ∷ es) before after i none a is = absurd a
well_by_itself edges (Ended j w ∷ steps) [] before after i none a is = absurd a
well_by_itself edges (Ended j w ∷ steps) (Start job act stamp ∷ es) before after i none a is = absurd a
well_by_itself edges (Ended j w ∷ steps) (Finish job ok ∷ es) [] after i none a is =
    let job_is : job ≡ i = cc in
    let ok_is : ok ≡ true = cc in
    let edge_is : j ≡ i = sym a.0 ∙ job_is in
    let well_is : w ≡ true = a.1.1 (ap (λ (n : ℕ). (edge_at edges n).act.depfile) edge_is ∙ none) ∙ ok_is in
    subst (λ (b : Bool). has_number (well_in (Ended j b ∷ steps)) i ≡ true) (sym well_is)
    (subst (λ (n : ℕ). has_number (j ∷ well_in steps) n ≡ true) edge_is (or_left (j == j) (has_number (well_in steps) j) (eq-eqb j j refl)))
well_by_itself edges (Ended j true ∷ steps) (Finish job ok ∷ es) (b ∷ before) after i none a is =
    let tail : es ≡ before ++ Finish i true ∷ after = cc in
    has_number-right (j ∷ []) (well_in steps) i (well_by_itself edges steps es before after i none a.2 tail)
well_by_itself edges (Ended j false ∷ steps) (Finish job ok ∷ es) (b ∷ before) after i none a is =
    let tail : es ≡ before ++ Finish i true ∷ after = cc in
    well_by_itself edges steps es before after i none a.2 tail

still_idle : (i job : ℕ) (ok : Bool) (events : List Event) → runs i events ≡ false → runs i (events ++ Finish job ok ∷ []) ≡ false
still_idle i job ok events idle = runs_push i events (Finish job ok) ∙ by_test (job == i) (runs i events) idle
  where
    by_test : (t b : Bool) → b ≡ false → cond t false b ≡ false
    by_test true b is = refl
    by_test false b is = is

-- a command that does not run is not taken in
not_taken_in : (so_far later before after : List Event) (i : ℕ) → AreFinishes so_far later → runs i so_far ≡ false → later ≡ before ++ Finish i true ∷ after → ⊥
not_taken_in so_far [] [] after i a idle is = cc
not_taken_in so_far [] (b ∷ before) after i a idle is = cc
not_taken_in so_far (Start job act stamp ∷ later) before after i a idle is = absurd a
not_taken_in so_far (Finish job ok ∷ later) [] after i a idle is =
    let job_is : job ≡ i = cc in
    false≢true (sym idle ∙ (ap (λ (n : ℕ). runs n so_far) (sym job_is) ∙ a.0))
not_taken_in so_far (Finish job ok ∷ later) (b ∷ before) after i a idle is =
    let tail : later ≡ before ++ Finish i true ∷ after = cc in
    not_taken_in (so_far ++ Finish job ok ∷ []) later before after i a.1 (still_idle i job ok so_far idle) tail

accepts_none : (B : Behaviour) (act : Act) (files : View) → act.depfile ≡ [] → is_accepted (depfile_in B act files) ≡ true
accepts_none B act files none = rw none refl

module _ (tells : Bool) (own : OwnFiles) (task : Task) (steps : List Step) (old now : World) (idle : IsIdle old.events) (rest : IsRunOrRest tells own task steps old now) (tell : IsTrue tells) where
  -- a finish in the history is one of the site's events
  finish_among : (i : ℕ) (at : List Moment) → EndedAt i old.history now.history at → FinishesIn i (rest.first ++ rest.later)
  finish_among i at ended = record {
    before = events_in ended.before;
    after = events_in ended.after;
    splits = sym told.happened ∙ (ap events_in same ∙ events_in-append ended.before (Happened (Finish i true) ∷ ended.after));
  }
    where
      told : IsToldBy own task.graph.edges steps old.events (rest.first ++ rest.later) old.history now.history
      told = rest.history tell

      same : told.more ≡ ended.before ++ Happened (Finish i true) ∷ ended.after
      same = same_rest old.history told.more (ended.before ++ Happened (Finish i true) ∷ ended.after) (sym told.grows ∙ ended.splits)

  -- an edge that ended, and whose act names no depfile, ended well just where its command did by itself
  pub depfiles_of_none : (B : Behaviour) (i : ℕ) (at : List Moment) → (edge_at task.graph.edges i).act.depfile ≡ [] → EndedAt i old.history now.history at → has_number (ended_in steps) i ≡ true
      → has_number (well_in steps) i ≡ is_accepted (depfile_in B (edge_at task.graph.edges i).act (view_of at))
  depfiles_of_none B i at none ended has = well ∙ sym (accepts_none B (edge_at task.graph.edges i).act (view_of at) none)
    where
      among : FinishesIn i (rest.first ++ rest.later)
      among = finish_among i at ended

      not_running : runs i (old.events ++ rest.first) ≡ false
      not_running =
          runs_now task steps old.events rest.first idle rest.orderly rest.of_steps i
          ∙ false_from_ne_true (has_number (running_in steps) i) (λ runs. false≢true (sym (running_parts steps i runs).1 ∙ has))

      well : has_number (well_in steps) i ≡ true
      well = elim (either_finish i rest.first rest.later among.before among.after among.splits) [
        | inl first ↦ well_by_itself task.graph.edges steps rest.first first.before first.after i none rest.of_steps first.splits
        | inr second ↦ absurd (not_taken_in (old.events ++ rest.first) rest.later second.before second.after i rest.finishes not_running second.splits)
      ]

-- ---- a build without records

module _ (tells : Bool) (own : OwnFiles) (asked : Asked) (steps : List Step) (old now : World) (idle : IsIdle old.events) (rest : IsRunOrRest tells own (task_of asked no_records) steps old now) (lawful : IsLawful (task_of asked no_records) steps) where
  -- where every verdict was out of date, each command has an output, and no act of a command that ended names a depfile
  pub judged_of_nothing : (B : Behaviour) (free : List ℕ → Bool) → IsTrue tells → clean_in steps ≡ [] → ((i : ℕ) → IsCommand asked.graph.edges i → outputs (edge_at asked.graph.edges i) ≢ [])
      → ((i : ℕ) → has_number (ended_in steps) i ≡ true → (edge_at asked.graph.edges i).act.depfile ≡ []) → IsJudged B free asked no_records steps None old.history now.history
  judged_of_nothing B free tell none some no_depfiles = record {
    verdicts = λ before after i b splits unread. verdicts_of_nothing own asked steps lawful none some old.history now.history before after i b splits;
    ended = record {
      well = λ i at ended well. accepts_none B (edge_at asked.graph.edges i).act (view_of at) (no_depfiles i ((kept_orderly asked.graph.edges steps rest.orderly).well i well));
      depfiles = λ i at ended has unmet. depfiles_of_none tells own (task_of asked no_records) steps old now idle rest tell B i at (no_depfiles i has) ended has;
    };
  }
