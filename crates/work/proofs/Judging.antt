-- An edge is judged, rightly by the files of now.
use Rattle.std.proofs.Common.{◌≡◌, inl, inr, ℕ, zero, suc, ◌<◌, ◌&&◌, not, Vec, Global, Bool, true, false, IsTrue, List, [], ◌∷◌, ◌++◌, length, Option, Some, None, is_some, bytes_eq, refl, sym, ◌∙◌, ap, subst, arith}
use Rattle.std.proofs.lemmas.List.{append-nil}
use Rattle.std.proofs.lemmas.Bool.{false≢true, false_from_ne_true}
use Rattle.std.specs.List.{AllByRecursion}
use Rattle.model.specs.declared.graph.BuildGraph.{BuildGraph}
use Rattle.model.specs.declared.graph.Edge.{Edge}
use Rattle.model.specs.declared.reason.Reason.{Reason}
use Rattle.model.specs.declared.record.Record.{Record}
use Rattle.model.specs.declared.record.DepsRecord.{DepsRecord}
use Rattle.model.specs.World.{World, file_at, stamp_of, IsRunning}
use Rattle.model.specs.Calls.{OnlyLooks}
use Rattle.model.specs.Graph.{has, has_number, edge_at, maker, outputs, IsCommand}
use Rattle.model.specs.Judgement.{is_same_number}
use Rattle.model.specs.Records.{recorded_inputs}
use Rattle.model.specs.OutOfDate.{input_facts, is_made_anew, Counted, ReadsNoFree, IsStaleByOutputs, IsVerdict}
use Rattle.model.specs.Schedule.{Step as Done, Judged, MayBeJudged, out_of_date_in, started_in, ended_in, well_in, failed_in, running_in}
use Rattle.model.specs.Premises.{FilesAreKept, RecordedApart, IsWithinEdge, IsNoEdit}
use Rattle.model.specs.SingleBuild.{task_of}
use Rattle.theory.specs.Run.{IsRunOrRest}
use Rattle.theory.proofs.Lists.{same_bytes, has_number-is}
use Rattle.theory.proofs.Files.{IsElsewhere}
use Rattle.theory.proofs.Runs.{rest_begins}
use Rattle.theory.proofs.Starting.{OthersRun, since, private_elsewhere}
use Rattle.theory.proofs.Orderly.{IsKept, kept_orderly}
use Rattle.theory.proofs.Steps.{running_is, started-append, ended-append, out_of_date-append, well-append, failed-append, in_either}
use Rattle.theory.proofs.Kept.{depfile_stays}
use Rattle.theory.proofs.Ledger.{others_run, carried_judged}
use Rattle.work.specs.declared.display.Display.{Display}
use Rattle.plan.specs.Flags as flags
use Rattle.paths.specs.Told.{text_at}
use Rattle.graph.specs.declared.graph.Graph.{Graph}
use Rattle.graph.specs.Links.{links_of}
use Rattle.graph.specs.Linked.{StandFor}
use Rattle.graph.specs.Told.{declared_by, recorded_by}
use Rattle.judge.specs.declared.looks.Looks.{Looks}
use Rattle.judge.specs.Looking.{HasLooked}
use Rattle.judge.specs.Seen.{look_at, look_of, is_asked, IfKept, AreSeenOf}
use Rattle.plan.specs.declared.plan.Plan.{Plan}
use Rattle.plan.specs.declared.step.Step.TheVariants.{Judge}
use Rattle.plan.specs.Planned.{TakesStep, IsNext}
use Rattle.records.specs.Laws.{LogStays}
use Rattle.records.specs.Known.{AreKnown}
use Rattle.judge.specs.Facts.{flag_at}
use Rattle.judge.specs.Judged.{IsAnswer, IsReasonBy, MayBeJudgedBy, MayBeStaleBy, AreUntouched, HasOldDepfile, KeepsDepfile, HasPathsOf}
use Rattle.work.specs.declared.state.Work.{Work}
use Rattle.work.specs.Course.{Course, goes_on, Suits, edges_of, is_quiet, AreAnew, AreSeenBefore, AreStarted, IsOn}
use Rattle.work.specs.Going.{IsSaid}
use Rattle.work.proofs.Onward.{taken_judged, since_goes, said_next}
use Rattle.work.proofs.Places.{phony_is}
use Rattle.work.proofs.Quiet.{files_then, all_kept, quiet_less}
use Rattle.work.proofs.Removed.{removed_steps}
use Rattle.work.proofs.Keeping.{Carried, grown, looks_carried, looks_leave, looks_quiet, looks_removed, logging_over, told_over, started_more, ended_command, still_anew, still_before}
use Rattle.work.proofs.Anew.{anew_over}
use Rattle.work.proofs.Finishing.{makes_it}
use Rattle.work.proofs.Noticed.{with_looks, before_kept}
use Rattle.work.proofs.Settled.{counted_unfailed, outputs_quiet, paths_quiet, outputs_untouched}

-- ---- steps

-- a judgement starts and ends nothing
pub running_judged : (steps : List Done) (i : ℕ) (b : Bool) (j : ℕ) → has_number (running_in (steps ++ Judged i b ∷ [])) j ≡ has_number (running_in steps) j
running_judged steps i b j =
    running_is (steps ++ Judged i b ∷ []) j
    ∙ (ap (λ (l : List ℕ). has_number l j && not (has_number (ended_in (steps ++ Judged i b ∷ [])) j)) (started-append steps (Judged i b ∷ []) ∙ append-nil (started_in steps))
    ∙ (ap (λ (l : List ℕ). has_number (started_in steps) j && not (has_number l j)) (ended-append steps (Judged i b ∷ []) ∙ append-nil (ended_in steps))
    ∙ sym (running_is steps j)))

pub well_judged : (steps : List Done) (i : ℕ) (b : Bool) → well_in (steps ++ Judged i b ∷ []) ≡ well_in steps
well_judged steps i b = well-append steps (Judged i b ∷ []) ∙ append-nil (well_in steps)

pub failed_judged : (steps : List Done) (i : ℕ) (b : Bool) → failed_in (steps ++ Judged i b ∷ []) ≡ failed_in steps
failed_judged steps i b = failed-append steps (Judged i b ∷ []) ∙ append-nil (failed_in steps)

-- the edge that was found to be out of date
judged_here : (e k : ℕ) (stale : Bool) → has_number (out_of_date_in (Judged (suc e) stale ∷ [])) (suc k) ≡ true → k ≡ e
judged_here e k true here =
    let same = has_number-is (suc e) (suc k) here in
    omega (arith, same)
judged_here e k false here = absurd (false≢true here)

stale_here : (e k : ℕ) (stale : Bool) → has_number (out_of_date_in (Judged (suc e) stale ∷ [])) (suc k) ≡ true → stale ≡ true
stale_here e k true here = refl
stale_here e k false here = absurd (false≢true here)

-- ---- flags where no command has ended well

no_flag : (p : ℕ) → flag_at [] p ≡ false
no_flag zero = refl
no_flag (suc p) = refl

not_anew : (es : List Edge) (same : Bool) (o : Option ℕ) → is_made_anew es [] same o ≡ false
not_anew es same None = refl
not_anew es same (Some j) = refl

module _ (tells : Bool) (course : Course) (graph : Graph) (stays : LogStays) (suits : Suits course graph) (state : Work) (now new : World) (e : ℕ)
    (on : IsOn tells course graph None state now) (goes : goes_on course ≡ true) (next : IsNext state.plan (Judge e)) (looks : OnlyLooks tells now new) where
  abbrev said : IsSaid course graph on.steps (Judge e)
  said = said_next course graph state.plan (Judge e) on.steps goes on.planned on.taken next

  abbrev pub edges : List Edge
  edges = edges_of course

  abbrev pub turn : MayBeJudged (task_of course.asked course.store) on.steps (suc e)
  turn = (said.lawful true).0

  same_edges : edges_of course ≡ (declared_by graph).edges
  same_edges = ap (λ (b : BuildGraph). b.edges) suits.same

  carried_new : Carried tells course graph on.steps None new
  carried_new = looks_carried tells course graph stays None state now new on looks

  rest : IsRunOrRest tells course.own (task_of course.asked course.store) on.steps course.entry new
  rest = rest_begins tells course.own (task_of course.asked course.store) course.entry on.steps new carried_new.run

  kept : IsKept edges on.steps
  kept = kept_orderly edges on.steps rest.orderly

  -- ---- it may be judged by what is known

  -- its command does not run
  others : OthersRun (edges_of course) (suc e) (IsRunning now.events)
  others = others_run tells course.behaviour course.format course.own course.asked course.store course.entry on.steps now on.carried.beside.idle
      (rest_begins tells course.own (task_of course.asked course.store) course.entry on.steps now on.carried.run) (suc e)
      (false_from_ne_true (has_number (started_in on.steps) (suc e)) (λ started. false≢true (sym turn.once ∙ kept.out_of_date (suc e) (kept.started (suc e) started))))

  abbrev depfile : List ℕ
  depfile = (edge_at (edges_of course) (suc e)).act.depfile

  -- so its depfile keeps its file
  keeps_depfile : FilesAreKept course.own (edges_of course) course.entry.history new.history → KeepsDepfile tells (edges_of course) now new (suc e)
  keeps_depfile files tell named =
      let call = looks.history tell in
      let more = grown tells course graph on.steps None now on.carried tell in
      all_kept (bytes_eq depfile) now.history call.more new.history call.grows (λ p is.
      subst (λ (q : List ℕ). AllByRecursion (IsElsewhere q) call.more) (same_bytes depfile p is)
      (private_elsewhere course.own (edges_of course) files.own_files files.free files.free_apart (suc e) turn.command depfile (record { named = named; is = inl refl }) (IsRunning now.events) others call.more call.all
      (since (IsWithinEdge files.free (edges_of course)) course.entry.history more.0 now.history call.more new.history more.1 call.grows files.commands)
      (since (IsNoEdit files.free) course.entry.history more.0 now.history call.more new.history more.1 call.grows files.edits)))

  module _ (tell : IsTrue tells) (files : FilesAreKept course.own (edges_of course) course.entry.history new.history) (apart : RecordedApart course.own (recorded_inputs course.store (edges_of course))) where
    abbrev FlagsOver : List Edge → Type 0
    FlagsOver es =
        (p : ℕ) → p < length graph.manifest.paths → Counted es course.store new.history (suc e) (text_at graph.manifest.paths p)
        → flag_at state.plan.changed.items p ≡ (input_facts es (well_in on.steps) course.entry.history new.history (text_at graph.manifest.paths p)).changed

    flagged : FlagsOver (edges_of course)
    flagged p lt counted =
        still_anew tells course graph stays None state now new on suits.once (looks_quiet tells course graph stays None state now new on looks) tell files p lt
        (counted_unfailed edges on.steps kept course.own files.own_files files.free files.free_apart suits.once course.asked course.store (suc e) turn.command turn.once apart (λ q j h made. turn.ready q h j made) new.history (text_at graph.manifest.paths p) counted)

    pub may_be_judged : ReadsNoFree files.free (edges_of course) course.store new.history (suc e)
        → MayBeJudgedBy graph on.told.records on.told.deps state.plan.changed.items course.store (well_in on.steps) course.entry.history new.history (suc e) (is_quiet files.free course.own (edges_of course) on.steps)
    may_be_judged bound = record {
      records = on.told.same.0;
      deps = on.told.same.1;
      recorded = subst (λ (es : List Edge). (p : List ℕ) → has (recorded_inputs course.store es (suc e)) p ≡ has (recorded_by graph (suc e)) p) same_edges (λ p. suits.recorded (suc e) p);
      untouched = subst (λ (es : List Edge). AreUntouched es course.entry.history new.history (suc e)) same_edges
          (outputs_untouched tells course.own (task_of course.asked course.store) on.steps course.entry new suits.idle rest tell files suits.once (suc e) turn.command turn.once);
      depfile = subst (λ (es : List Edge). HasOldDepfile es course.entry.history new.history (suc e)) same_edges
          (λ named. depfile_stays tells course.own (task_of course.asked course.store) on.steps course.entry new suits.idle rest tell suits.once files (suc e) turn.command named (λ out. false≢true (sym turn.once ∙ kept.out_of_date (suc e) out)));
      flagged = subst (λ (es : List Edge). FlagsOver es) same_edges flagged;
      paths = subst (λ (es : List Edge). HasPathsOf es course.store (suc e) (is_quiet files.free course.own (edges_of course) on.steps)) same_edges
          (paths_quiet edges on.steps kept course.own files.own_files files.free files.free_apart suits.once course.asked course.store (suc e) turn.command turn.once apart (λ q j h made. turn.ready q h j made) new.history bound);
    }

  abbrev HasMade : List Edge → (List ℕ → Bool) → Type 0
  HasMade es set = (p : List ℕ) → has (outputs (edge_at es (suc e))) p ≡ true → set p ≡ true

  may_be_stale : IsTrue tells → (files : FilesAreKept course.own (edges_of course) course.entry.history new.history)
      → MayBeStaleBy graph on.told.records on.told.deps course.store course.entry.history new.history (suc e) (is_quiet files.free course.own (edges_of course) on.steps)
  may_be_stale tell files = record {
    records = on.told.same.0;
    deps = on.told.same.1;
    untouched = subst (λ (es : List Edge). AreUntouched es course.entry.history new.history (suc e)) same_edges
        (outputs_untouched tells course.own (task_of course.asked course.store) on.steps course.entry new suits.idle rest tell files suits.once (suc e) turn.command turn.once);
    depfile = subst (λ (es : List Edge). HasOldDepfile es course.entry.history new.history (suc e)) same_edges
        (λ named. depfile_stays tells course.own (task_of course.asked course.store) on.steps course.entry new suits.idle rest tell suits.once files (suc e) turn.command named (λ out. false≢true (sym turn.once ∙ kept.out_of_date (suc e) out)));
    made = subst (λ (es : List Edge). HasMade es (is_quiet files.free course.own (edges_of course) on.steps)) same_edges
        (outputs_quiet edges on.steps kept course.own files.own_files files.free files.free_apart suits.once (suc e) turn.command turn.once);
  }

  -- ---- a verdict that is right

  -- it is so by the files now, and by those at the entry
  abbrev pub IsRight : Bool → Type 0
  IsRight stale =
      IsTrue tells → (files : FilesAreKept course.own (edges_of course) course.entry.history new.history) → RecordedApart course.own (recorded_inputs course.store (edges_of course))
      → ReadsNoFree files.free (edges_of course) course.store new.history (suc e) → IsVerdict (edges_of course) course.store (well_in on.steps) course.entry.history new.history (suc e) stale

  -- it is out of date where it is by what it makes, whatever it reads
  abbrev pub IsRightMade : Bool → Type 0
  IsRightMade stale = IsTrue tells → FilesAreKept course.own (edges_of course) course.entry.history new.history → IsStaleByOutputs (edges_of course) course.store course.entry.history (suc e) → stale ≡ true

  -- of its own outputs, where they are compared later, what is noted is what was there at the entry
  abbrev pub IsOwnSeen : Looks → Type 0
  IsOwnSeen after =
      IsTrue tells → FilesAreKept course.own (edges_of course) course.entry.history new.history → (edge_at (edges_of course) (suc e)).restat ≡ true → (p : ℕ) → has_number ((links_of graph).outputs e) p ≡ true
      → look_at after.seen.items p ≡ look_of (stamp_of (file_at course.entry.history (text_at graph.manifest.paths p)))

  module _ (after : Looks) (stale : Bool) (right : IsRight stale) (right_made : IsRightMade stale) (looked : HasLooked tells graph now new state.looks after) (own_seen : stale ≡ true → IsOwnSeen after) where
    abbrev pub more : List Done
    more = on.steps ++ Judged (suc e) stale ∷ []

    judged_carried : Carried tells course graph more None new
    judged_carried = carried_judged tells course.behaviour course.format course.own course.asked course.store course.entry course.phases (goes_on course) on.steps None new (suc e) stale said.goes (said.lawful stale) said.loads right right_made carried_new

    judged_seen : IsTrue tells → (files : FilesAreKept course.own (edges_of course) course.entry.history new.history) → AreSeenOf (is_quiet files.free course.own (edges_of course) more) graph.manifest.paths new.history after.seen.items
    judged_seen tell files p asked quiet_so =
        let quiet = looks_quiet tells course graph stays None state now new on looks tell files in
        looked.seen tell (is_quiet files.free course.own (edges_of course) on.steps) quiet.1 (on.seen tell (files_then course.own (edges_of course) course.entry now new quiet.0 files)) p asked
        (quiet_less files.free course.own (edges_of course) on.steps more (λ i runs. running_judged on.steps (suc e) stale i ∙ runs) (text_at graph.manifest.paths p) quiet_so)

    judged_anew : AreAnew tells course graph more state new
    judged_anew = anew_over tells course graph on.steps more on.steps state now new (looks_quiet tells course graph stays None state now new on looks) suits.once (ended_command tells course graph on.steps None now on.carried)
        (well_judged on.steps (suc e) stale) (failed_judged on.steps (suc e) stale) on.anew

    judged_before : AreSeenBefore tells course graph more (with_looks tells course graph state after) new
    judged_before tell files k due unended restat p made = elim (in_either out_of_date_in out_of_date-append on.steps (Judged (suc e) stale ∷ []) (suc k) due) [
      | inl before ↦
          before_kept tells course graph on.steps state new after looked.stays (still_before tells course graph stays None state now new on (looks_quiet tells course graph stays None state now new on looks))
          tell files k before (ap (λ (l : List ℕ). has_number l (suc k)) (sym (ended-append on.steps (Judged (suc e) stale ∷ []) ∙ append-nil (ended_in on.steps))) ∙ unended) restat p made
      | inr here ↦
          let same = judged_here e k stale here in
          own_seen (stale_here e k stale here) tell files (subst (λ (n : ℕ). (edge_at (edges_of course) (suc n)).restat ≡ true) same restat) p (subst (λ (n : ℕ). has_number ((links_of graph).outputs n) p ≡ true) same made)
    ]

    judged_started : AreStarted course more state new
    judged_started k runs = started_more (suc k) _ course.entry now new [] (looks.events ∙ sym (append-nil now.events)) (on.started k (sym (running_judged on.steps (suc e) stale (suc k)) ∙ runs))

    decided_on : (plan : Plan) (display : Display) → TakesStep graph state.plan plan (Judged (suc e) stale) → plan.changed ≡ state.plan.changed
        → IsOn tells course graph None (record { alloc = state.alloc; graph = state.graph; cone = state.cone; plan = plan; looks = after; records = state.records; display = display; tick = state.tick; due = state.due; starts = state.starts; failed = state.failed }) new
    decided_on plan display takes flags_same =
        let now_told = told_over tells course graph on.steps state now new (looks_quiet tells course graph stays None state now new on looks) on.told in
        record {
          steps = more;
          planned = takes (task_of course.asked course.store) on.steps on.planned on.taken (said.lawful stale);
          taken = taken_judged (task_of course.asked course.store) on.steps on.taken (suc e) stale (said.lawful stale);
          since = since_goes course.refused said.goes more;
          carried = judged_carried;
          logging = logging_over tells course graph stays on.steps more None None now new state.records.logs (looks_leave tells course graph now new looks) judged_carried on.logging;
          told = record { records = now_told.records; deps = now_told.deps; known = now_told.known; same = now_told.same };
          seen = judged_seen;
          anew = λ tell files p lt unfailed. ap (λ (c : Vec Bool Global). flags.has c.items p) flags_same ∙ judged_anew tell files p lt unfailed;
          before = judged_before;
          started = judged_started;
          removed = removed_steps tells course.own (edges_of course) on.steps more course.entry new None (well_judged on.steps (suc e) stale) (looks_removed tells course graph stays None state now new on looks);
          room = record { looks = looked.fits ∙ on.room.looks; starts = on.room.starts };
          cone = on.cone;
          ticking = on.ticking;
          noted = on.noted ∙ sym (failed_judged on.steps (suc e) stale);
        }

  -- ---- by what was found now

  module _ (after : Looks) (reason : Option Reason) (stale : Bool) (told : stale ≡ is_some reason) (looked : HasLooked tells graph now new state.looks after)
      (stand : StandFor (declared_by graph).edges graph.manifest.paths (links_of graph))
      (outputs_asked : (edge_at (edges_of course) (suc e)).restat ≡ true → (p : ℕ) → has_number ((links_of graph).outputs e) p ≡ true → is_asked (look_at state.looks.seen.items p) ≡ true)
      (answer : (rs : List Record) (ds : List DepsRecord) → AreKnown graph rs ds state.records → KeepsDepfile tells (declared_by graph).edges now new (suc e)
      → IfKept tells graph.manifest.paths now new state.looks.seen.items (IsAnswer graph rs ds state.plan.changed.items e reason)) where
    found_right : IsRight stale
    found_right tell files apart bound =
        let quiet = looks_quiet tells course graph stays None state now new on looks tell files in
        let keeps = subst (λ (es : List Edge). KeepsDepfile tells es now new (suc e)) same_edges (keeps_depfile files) in
        let by = (answer on.told.records on.told.deps on.told.known keeps tell (is_quiet files.free course.own (edges_of course) on.steps) quiet.1 (on.seen tell (files_then course.own (edges_of course) course.entry now new quiet.0 files))).0 course.store (well_in on.steps) course.entry.history
        (may_be_judged tell files apart bound) in
        let over = subst (λ (es : List Edge). IsReasonBy es course.store (well_in on.steps) course.entry.history new.history (suc e) reason) (sym same_edges) by in
        record { read = over.read; counted = over.counted; verdict = told ∙ ap (λ (r : Option Reason). is_some r) over.is }

    found_made : IsRightMade stale
    found_made tell files by_outputs =
        let quiet = looks_quiet tells course graph stays None state now new on looks tell files in
        let keeps = subst (λ (es : List Edge). KeepsDepfile tells es now new (suc e)) same_edges (keeps_depfile files) in
        let by = (answer on.told.records on.told.deps on.told.known keeps tell (is_quiet files.free course.own (edges_of course) on.steps) quiet.1 (on.seen tell (files_then course.own (edges_of course) course.entry now new quiet.0 files))).1 course.store course.entry.history
        (may_be_stale tell files) in
        told ∙ by (subst (λ (es : List Edge). IsStaleByOutputs es course.store course.entry.history (suc e)) same_edges by_outputs)

    -- of its own outputs that were asked for: nobody has touched them
    found_own : IsOwnSeen after
    found_own tell files restat p made =
        let quiet = looks_quiet tells course graph stays None state now new on looks tell files in
        let was = outputs_asked restat p made in
        let makes = makes_it (edges_of course) graph suits.once (subst (λ (es : List Edge). StandFor es graph.manifest.paths (links_of graph)) (sym same_edges) stand) e p made in
        looked.seen tell (is_quiet files.free course.own (edges_of course) on.steps) quiet.1 (on.seen tell (files_then course.own (edges_of course) course.entry now new quiet.0 files)) p (ap is_asked (looked.stays p was) ∙ was)
        (outputs_quiet edges on.steps kept course.own files.own_files files.free files.free_apart suits.once (suc e) turn.command turn.once (text_at graph.manifest.paths p) makes)
        ∙ ap look_of (outputs_untouched tells course.own (task_of course.asked course.store) on.steps course.entry new suits.idle rest tell files suits.once (suc e) turn.command turn.once (text_at graph.manifest.paths p) makes)

    pub judged_on : (plan : Plan) (display : Display) → TakesStep graph state.plan plan (Judged (suc e) stale) → plan.changed ≡ state.plan.changed
        → IsOn tells course graph None (record { alloc = state.alloc; graph = state.graph; cone = state.cone; plan = plan; looks = after; records = state.records; display = display; tick = state.tick; due = state.due; starts = state.starts; failed = state.failed }) new
    judged_on plan display takes flags_same = decided_on after stale found_right found_made looked (λ is. found_own) plan display takes flags_same

  -- ---- by what was known: no reason was found, as if no command had ended, and none has ended well

  module _ (calm : well_in on.steps ≡ []) (looked : HasLooked tells graph now new state.looks state.looks)
      (clean : IsTrue tells → (files : FilesAreKept course.own (edges_of course) course.entry.history new.history)
      → IsAnswer graph course.store.records course.store.deps [] e None (is_quiet files.free course.own (edges_of course) on.steps) new.history) where
    no_flags : (es : List Edge) (p : ℕ) → flag_at [] p ≡ (input_facts es (well_in on.steps) course.entry.history new.history (text_at graph.manifest.paths p)).changed
    no_flags es p =
        no_flag p
        ∙ sym (ap (λ (ran : List ℕ). (input_facts es ran course.entry.history new.history (text_at graph.manifest.paths p)).changed) calm
        ∙ not_anew es (is_same_number (stamp_of (file_at course.entry.history (text_at graph.manifest.paths p))) (stamp_of (file_at new.history (text_at graph.manifest.paths p)))) (maker es (text_at graph.manifest.paths p)))

    clean_right : IsRight false
    clean_right tell files apart bound =
        let may = may_be_judged tell files apart bound in
        let by = (clean tell files).0 course.store (well_in on.steps) course.entry.history (record {
          records = refl;
          deps = refl;
          recorded = may.recorded;
          untouched = may.untouched;
          depfile = may.depfile;
          flagged = λ p lt counted. no_flags (declared_by graph).edges p;
          paths = may.paths;
        }) in
        let over = subst (λ (es : List Edge). IsReasonBy es course.store (well_in on.steps) course.entry.history new.history (suc e) None) (sym same_edges) by in
        record { read = over.read; counted = over.counted; verdict = ap (λ (r : Option Reason). is_some r) over.is }

    clean_made : IsRightMade false
    clean_made tell files by_outputs =
        let may = may_be_stale tell files in
        (clean tell files).1 course.store course.entry.history (record { records = refl; deps = refl; untouched = may.untouched; depfile = may.depfile; made = may.made })
        (subst (λ (es : List Edge). IsStaleByOutputs es course.store course.entry.history (suc e)) same_edges by_outputs)

    pub clean_on : (plan : Plan) → TakesStep graph state.plan plan (Judged (suc e) false) → plan.changed ≡ state.plan.changed
        → IsOn tells course graph None (record { alloc = state.alloc; graph = state.graph; cone = state.cone; plan = plan; looks = state.looks; records = state.records; display = state.display; tick = state.tick; due = state.due; starts = state.starts; failed = state.failed }) new
    clean_on plan takes flags_same = decided_on state.looks false clean_right clean_made looked (λ stale. absurd (false≢true stale)) plan state.display takes flags_same

-- it is that of a command in numbers too
pub judged_command : (course : Course) (graph : Graph) → Suits course graph → (e : ℕ) → IsCommand (edges_of course) (suc e) → (links_of graph).phony e ≡ false
judged_command course graph suits e command = phony_is graph e (subst (λ (b : BuildGraph). IsCommand b.edges (suc e)) suits.same command)

-- the outputs were asked for, as the graph has them
pub asked_outputs : (course : Course) (graph : Graph) → Suits course graph → (e : ℕ) (looks : Looks)
    → ((edge_at (declared_by graph).edges (suc e)).restat ≡ true → (p : ℕ) → has_number ((links_of graph).outputs e) p ≡ true → is_asked (look_at looks.seen.items p) ≡ true)
    → (edge_at (edges_of course) (suc e)).restat ≡ true → (p : ℕ) → has_number ((links_of graph).outputs e) p ≡ true → is_asked (look_at looks.seen.items p) ≡ true
asked_outputs course graph suits e looks asked restat = asked (subst (λ (b : BuildGraph). (edge_at b.edges (suc e)).restat ≡ true) suits.same restat)
