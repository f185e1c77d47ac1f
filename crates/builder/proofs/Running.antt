-- A build that has run commands, dyndep files that it loads included.
use Rattle.std.proofs.Common.{◌≡◌, ◌≢◌, ◌⊎◌, inl, inr, ℕ, suc, Bool, false, IsTrue, List, [], ◌∷◌, ◌++◌, map, length, Option, Some, None, refl, sym, ◌∙◌, ap, subst, arith}
use Rattle.std.proofs.lemmas.Bool.{false≢true}
use Rattle.std.proofs.lemmas.List.{append-nil}
use Rattle.model.specs.declared.event.Event.{Event}
use Rattle.model.specs.declared.event.Moment.{Moment}
use Rattle.model.specs.declared.fault.SiteFault.{SiteFault}
use Rattle.model.specs.declared.fault.SiteFault.TheVariants.{Device, Stopped, Memory}
use Rattle.model.specs.World.{World, View, view_of, content_of, IsIdle}
use Rattle.model.specs.Graph.{edge_at, first_output, maker, targets_of, IsMadeOnce}
use Rattle.model.specs.Outcome.{Behaviour}
use Rattle.model.specs.Phases.{Phase, steps_of, IsLawfulBuild, NoLoadIsDue, NothingNeededIsFree, WasNothingMissing, WasNothingMissingIn}
use Rattle.model.specs.Premises.{FilesAreKept, RecordedApart}
use Rattle.model.specs.Records.{OwnFiles, Store, LogFormat, recorded_inputs}
use Rattle.model.specs.Schedule.{Task, Step as Done, IsSettled, NoneMayBeJudged, NoneMayStart, AreEventsOf, AreFinishes, started_in, well_in, failed_in, running_in, done_in}
use Rattle.model.specs.SingleBuild as answer
use Rattle.model.specs.SingleBuild.{AreHeldThen, AreJudgedAt, ArePhasesJudgedAt, Asked, Answer, is_fault, IsSuccess, WentOn, InCone, IsScheduled, IsInOrder, WasInOrder, HasEnded, IsAnswer, MetFault, PassesNoFault, NamesOther, AllNamed, HasNoCycle, SingleBuild, declared_graph, task_of}
use Rattle.theory.specs.Run.{IsRun, IsRunOrRest}
use Rattle.theory.specs.Seen.{IsSeen}
use Rattle.theory.proofs.Builds.{idle_at_end, has_ended}
use Rattle.theory.proofs.Counts.{started_length, ended_length}
use Rattle.theory.proofs.Loads.{declared_once}
use Rattle.theory.proofs.Looks.{logs_left, kept_before}
use Rattle.theory.proofs.Runs.{rest_begins}
use Rattle.theory.proofs.Turns.{settled_at_end}
use Rattle.graph.specs.declared.cone.Mark.{Mark}
use Rattle.graph.specs.Linked.{IsConeOf}
use Rattle.theory.specs.Ledger.{IsCutOff, LoadedThen}
use Rattle.theory.proofs.Carried.{settled_stays}
use Rattle.theory.proofs.Ledger.{run_of, judged_of, judged_at_of, frame_of, met_by_step}
use Rattle.theory.proofs.Over.{no_logs_are_faithful}
use Rattle.theory.proofs.PhasesGoOn.{no_text}
use Rattle.theory.proofs.LogLawsStated.{clean_with_loads}
use Rattle.work.specs.Going.{IsInHand}
use Rattle.work.specs.Removing.{AreRemoved}
use Rattle.work.specs.declared.report.Report.{Report}
use Rattle.work.specs.declared.report.Report.TheVariants.{Success, Failed, Fault}
use Rattle.work.specs.Loads.{RefusesFile}
use Rattle.builder.proofs.Looking.{Built, built_by, IsFoundAt}
use Rattle.builder.proofs.Values.{suc_has}

-- where nothing was missing when phases began, and the last one, nothing was when they and a last one that has steps began
in_phases : (own : OwnFiles) (task : Task) (store : Store) (old new : List Moment) (before : List Done) (phases : List Phase) (last : List Done) → WasNothingMissing own task store old new before phases → WasNothingMissingIn own task store old new before phases last
in_phases own task store old new before [] [] none = tt
in_phases own task store old new before [] (step ∷ last) none = none
in_phases own task store old new before (phase ∷ phases) last none = (none.0, in_phases own task store old new (before ++ phase.steps) phases last none.1)

module _ (tells : Bool) (B : Behaviour) (format : LogFormat) (own : OwnFiles) (asked : Asked) (store : Store) (entry now : World) (found : IsFoundAt tells format own store entry now) (idle : IsIdle entry.events)
    (phases : List Phase) (steps : List Done) (met : Option ℕ) (cut : IsCutOff tells B format own asked store phases steps met entry now)
    (once : IsMadeOnce asked.graph.edges) (others : (file : List ℕ) → NamesOther asked.declared file → ⊥) where
  abbrev Said : Answer → Report → Type 0
  Said said report = Built tells B format own asked entry now said report

  -- no command runs, unless a wait was refused or the site has stopped
  abbrev IsTakenIn : Type 0
  IsTakenIn = now.stopped ≡ false → now.wait_refused ≡ None → IsIdle now.events

  abbrev Kept : Type 0
  Kept = FilesAreKept own asked.graph.edges entry.history now.history

  -- what a loaded file held it holds still, if it is not free
  abbrev HoldStill : View → Type 0
  HoldStill texts =
      IsTrue tells → (files : Kept) → (file content : List ℕ) → files.free file ≡ false → texts file ≡ Some content → (maker asked.declared file ≡ None → maker asked.graph.edges file ≡ None)
      → view_of now.history file ≡ Some content

  -- and held it when it was loaded
  abbrev HeldThen : View → List Phase → List Done → Type 0
  HeldThen texts phases last = IsTrue tells → AreHeldThen B.dyndep texts (task_of asked store) store phases (steps_of phases ++ last) entry.history now.history

  -- each verdict was right at its moment
  abbrev RightThen : List Phase → List Done → Type 0
  RightThen phases last =
      IsTrue tells → (files : Kept) → RecordedApart own (recorded_inputs store asked.graph.edges)
      → ArePhasesJudgedAt files.free store [] phases entry.history now.history × AreJudgedAt files.free asked.graph.edges store (steps_of phases) last entry.history now.history

  pub holds_still : IsTrue tells → (files : Kept) → (file content : List ℕ) → files.free file ≡ false → LoadedThen tells own asked store file content steps entry now
      → (maker asked.declared file ≡ None → maker asked.graph.edges file ≡ None) → view_of now.history file ≡ Some content
  holds_still tell kept file content bound was same =
      ap content_of
      (settled_stays tells own asked store was.before was.later entry was.mid now was.more tell idle once (rest_begins tells own (task_of asked store) entry was.before was.mid was.run)
      (subst (λ (l : List Done). IsRunOrRest tells own (task_of asked store) l entry now) was.splits cut.run) was.grows kept file (kept.own_files.inputs was.input.0 file was.input.1) bound (was.settled same))
      ∙ was.holds (kept_before own asked.graph.edges entry.history was.mid.history now.history was.more was.grows kept) bound

  pub held : HoldStill cut.phased.texts
  held tell kept file content bound is same = holds_still tell kept file content bound (cut.phased.held tell file content is) same

  pub held_so : HeldThen cut.phased.texts cut.phased.build.earlier cut.phased.build.last
  held_so tell = (
    cut.phased.read_then tell,
    λ next load. absurd (no_text load.content (sym (cut.phased.unread load.is_next.due.edge load.file load.is_next.due.names) ∙ load.holds)),
  )

  pub right_so : RightThen cut.phased.build.earlier cut.phased.build.last
  right_so tell kept apart = judged_at_of tells B format own asked store entry phases steps met now cut tell kept apart

  -- ---- by these phases, and what the loaded files held

  module _ (texts : View) (build : IsLawfulBuild B.dyndep texts asked.declared (task_of asked store) store steps) (holds : HoldStill texts) (held_then : HeldThen texts build.earlier build.last)
      (right_then : RightThen build.earlier build.last) where
    -- the steps up to a refusal
    abbrev done : List Done
    done = steps_of build.earlier ++ build.last

    abbrev Answers : Answer → Type 0
    Answers said = IsAnswer tells B own texts asked store build.earlier done steps entry now said

    module _ (said : Answer) (report : Report) (refused : RefusesFile tells own asked store done entry now report) (met_fault : (i : ℕ) → met ≡ Some i → MetFault (task_of asked store) steps entry now said i)
        (first later : List Event) (grows : now.events ≡ entry.events ++ (first ++ later)) (of_steps : AreEventsOf asked.graph.edges steps first) (finishes : AreFinishes (entry.events ++ first) later) (whole : is_fault said ≡ false → later ≡ [])
        (went_on : WentOn said → build.taken_in ≡ []) (is : Answers said) (settled : IsSuccess said → (i : ℕ) → InCone asked store i → IsSettled asked.graph.edges (done_in steps) i)
        (ordered : (steps ≡ []) ⊎ WasInOrder tells own asked store build.earlier build.last entry now) (passes : PassesNoFault entry now said) (ended : is_fault said ≡ false → IsIdle now.events) (taken_in : IsTakenIn) where
      abbrev scheduled : IsScheduled B texts asked store steps entry now said
      scheduled = record { lawful = build; first = first; later = later; grows = grows; of_steps = of_steps; finishes = finishes; whole = whole; went_on = went_on }

      abbrev running : SingleBuild tells B format own asked entry now said
      running = record {
        store = store;
        logs = found;
        texts = texts;
        held = holds;
        steps = steps;
        schedule = scheduled;
        met = met;
        met_fault = met_fault;
        ended_then = cut.beside.read;
        ended = cut.beside.taken_in;
        judged = λ tell kept apart known. judged_of tells B format own asked store entry phases steps met now cut once others tell kept apart known;
        clean = cut.beside.clean;
        judged_then = right_then;
        held_then = held_then;
        answers = is;
        in_order = ordered;
        faults = passes;
        idle = ended;
        taken_in = taken_in;
        frame = λ tell. frame_of tells B format own asked store entry phases steps met now cut once tell;
        ticked = cut.beside.ticked;
        from_nothing = λ tell success nothing premises.
            clean_with_loads tells B format own texts asked store steps met entry now tell idle cut.run build
            (declared_once B.dyndep texts asked.declared (task_of asked store) store steps build once) once others
            (found tell (logs_left own asked.graph.edges entry.history now.history premises.files.kept)) (no_logs_are_faithful B format own asked.graph.edges entry nothing.build_log nothing.deps_log) premises (cut.beside.ticked tell)
            (judged_of tells B format own asked store entry phases steps met now cut once others tell premises.files.kept premises.files.recorded_apart premises.files.dyndep.inputs)
            (settled success);
      }

      pub built_running : (is_fault said ≡ false → AreRemoved tells own asked.graph.edges steps None entry now) → Said said report
      built_running removed = built_by tells B format own asked entry now said report running refused (run_of tells B format own asked store entry phases steps met now cut (inl once)) cut.beside.alone removed

    none_met : (i : ℕ) → None ≡ Some i → ⊥
    none_met i is = cc

    none_met_in : met ≡ None → (said : Answer) (i : ℕ) → met ≡ Some i → MetFault (task_of asked store) steps entry now said i
    none_met_in none said i is = absurd (none_met i (sym none ∙ is))

    -- no fault has cut it off
    module _ (none : met ≡ None) (run : IsRun tells own (task_of asked store) steps entry now) (over : running_in steps ≡ []) (removed : AreRemoved tells own asked.graph.edges steps None entry now)
        (ordered : WasInOrder tells own asked store build.earlier build.last entry now) where
      ended_so : now.events ≡ entry.events ++ (run.events ++ [])
      ended_so = run.grows ∙ ap (λ (l : List Event). entry.events ++ l) (sym (append-nil run.events))

      pub built_ended : (said : Answer) (report : Report) → RefusesFile tells own asked store done entry now report → (WentOn said → build.taken_in ≡ []) → Answers said
          → (IsSuccess said → (i : ℕ) → InCone asked store i → IsSettled asked.graph.edges (done_in steps) i) → PassesNoFault entry now said → Said said report
      built_ended said report refused went_on is settled passes =
          built_running said report refused (none_met_in none said) run.events [] ended_so run.of_steps tt (λ fine. refl) went_on is settled (inr ordered) passes
          (λ fine. idle_at_end tells own asked store steps entry now idle run over) (λ goes none. idle_at_end tells own asked store steps entry now idle run over) (λ fine. removed)

  -- ---- by the phases of its cut

  abbrev earlier : List Phase
  earlier = cut.phased.build.earlier

  abbrev last : List Done
  last = cut.phased.build.last

  met_so : ((i : ℕ) → met ≡ Some i → IsInHand (task_of asked store) steps i) → (fault : SiteFault) (i : ℕ) → met ≡ Some i → MetFault (task_of asked store) steps entry now (answer.Fault fault) i
  met_so in_hand fault i is =
      let hand = in_hand i is in
      record {
        fault = refl;
        under_way = hand.under_way;
        stale = hand.stale;
        taken_in = met_by_step tells B format own asked store entry phases steps met now cut i hand.taken_in;
      }

  -- a fault has cut it off
  pub built_cut : ((i : ℕ) → met ≡ Some i → IsInHand (task_of asked store) steps i) → (steps ≡ []) ⊎ WasInOrder tells own asked store earlier last entry now → IsTakenIn
      → (fault : SiteFault) → IsSeen entry now fault → PassesNoFault entry now (answer.Fault fault) → Said (answer.Fault fault) (Fault fault)
  built_cut in_hand ordered taken_in fault seen passes = by_seen fault seen passes
    where
      of_fault : (fault : SiteFault) → Answers cut.phased.texts cut.phased.build held held_so right_so (answer.Fault fault) → PassesNoFault entry now (answer.Fault fault) → Said (answer.Fault fault) (Fault fault)
      of_fault fault is passes =
          built_running cut.phased.texts cut.phased.build held held_so right_so (answer.Fault fault) (Fault fault) tt (met_so in_hand fault) cut.run.first cut.run.later cut.run.grows cut.run.of_steps cut.run.finishes (λ fine. absurd (false≢true (sym fine)))
          (λ on. absurd on) is (λ success. absurd success) ordered passes (λ fine. absurd (false≢true (sym fine))) taken_in (λ fine. absurd (false≢true (sym fine)))

      by_seen : (fault : SiteFault) → IsSeen entry now fault → PassesNoFault entry now (answer.Fault fault) → Said (answer.Fault fault) (Fault fault)
      by_seen Device seen passes = of_fault Device seen passes
      by_seen Stopped seen passes = of_fault Stopped seen passes
      by_seen Memory seen passes = of_fault Memory seen passes

  -- ---- it went on until nothing was left to do

  module _ (named : AllNamed asked) (acyclic : HasNoCycle asked store)
      (sources : IsTrue tells → (files : Kept) → NothingNeededIsFree files.free (task_of asked store) → WasNothingMissing own (task_of asked store) store entry.history now.history [] earlier) where
    in_order : IsInOrder tells own asked store earlier entry now
    in_order = record { made_once = once; dyndep = others; named = named; no_cycle = acyclic; sources = sources }

    -- whatever steps were taken then
    pub was_in_order : WasInOrder tells own asked store earlier last entry now
    was_in_order = record {
      made_once = once;
      dyndep = others;
      named = named;
      no_cycle = acyclic;
      sources = λ tell kept nothing. in_phases own (task_of asked store) store entry.history now.history [] earlier last (sources tell kept nothing);
    }

    module _ (none : met ≡ None) (run : IsRun tells own (task_of asked store) steps entry now) (unjudged : NoneMayBeJudged (task_of asked store) steps) (unstarted : NoneMayStart (task_of asked store) steps)
        (over : running_in steps ≡ []) (unloaded : NoLoadIsDue (task_of asked store) steps) (whole : cut.phased.build.taken_in ≡ [])
        (removed : AreRemoved tells own asked.graph.edges steps None entry now) where
      ended : HasEnded asked store steps now
      ended = has_ended tells own asked store steps entry now idle run over unjudged unstarted unloaded

      of_end : (said : Answer) (report : Report) → RefusesFile tells own asked store (steps_of earlier ++ last) entry now report → Answers cut.phased.texts cut.phased.build held held_so right_so said
          → (IsSuccess said → (i : ℕ) → InCone asked store i → IsSettled asked.graph.edges (done_in steps) i) → PassesNoFault entry now said → Said said report
      of_end said report refused is settled passes = built_ended cut.phased.texts cut.phased.build held held_so right_so none run over removed was_in_order said report refused (λ on. whole) is settled passes

      -- some commands failed
      pub built_failed : (outputs : List (List ℕ)) → map (λ i. first_output (edge_at asked.graph.edges i)) (failed_in steps) ≡ outputs → failed_in steps ≢ [] → PassesNoFault entry now (answer.Failed outputs)
          → Said (answer.Failed outputs) (Failed outputs)
      built_failed outputs told some passes = of_end (answer.Failed outputs) (Failed outputs) tt (in_order, ended, told, some) (λ success. absurd success) passes

      -- none did, and each edge of the cone is settled
      module _ (order : List ℕ) (marks : List Mark) (listed : IsConeOf asked.graph.edges (recorded_inputs store asked.graph.edges) (targets_of (declared_graph asked) asked.targets) order marks) where
        in_cone : (i : ℕ) (n : ℕ) → suc n ≡ i → InCone asked store (suc n) → InCone asked store i
        in_cone i n is h = subst (λ (k : ℕ). InCone asked store k) is h

        all_settled : failed_in steps ≡ [] → (i : ℕ) → InCone asked store i → IsSettled asked.graph.edges (done_in steps) i
        all_settled fine i within =
            settled_at_end (task_of asked store) steps unjudged unstarted over fine (map suc order) listed.ordered
            (λ k within. let place = suc_has order k within in in_cone k place.0 place.1 (listed.within place.0 place.2))
            i (listed.all i within)

        all_well : failed_in steps ≡ [] → length (started_in steps) ≡ length (well_in steps)
        all_well fine =
            let a = started_length asked.graph.edges steps run.orderly in
            let b = ended_length steps in
            let c = ap length over in
            let d = ap length fine in
            omega (arith, a, b, c, d)

        pub built_well : (started : ℕ) → failed_in steps ≡ [] → started ≡ length (well_in steps) → PassesNoFault entry now (answer.Success started) → Said (answer.Success started) (Success started)
        built_well started fine count passes =
            of_end (answer.Success started) (Success started) tt (in_order, ended, all_settled fine, fine, all_well fine ∙ sym count) (λ success. all_settled fine) passes
