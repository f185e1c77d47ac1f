-- How a build ends that ran what was asked for, in the words of its contract.
use Rattle.std.specs.Prelude.{IfErr}
use Rattle.std.proofs.Common.{◌≡◌, ◌⊎◌, inl, inr, ℕ, suc, Bool, true, false, cond, IsTrue, List, [], ◌∷◌, ◌++◌, map, Option, Some, None, bytes_eq, Vec, Global, Result, Ok, Err, refl, sym, ◌∙◌, ap, subst, append_assoc}
use Rattle.std.proofs.lemmas.Bool.{cases_Bool, false≢true}
use Rattle.theory.proofs.Builds.{idle_at_end}
use Rattle.theory.proofs.Looks.{kept_before, edits_before}
use Rattle.theory.proofs.Settled.{settled_command}
use Rattle.model.specs.declared.event.Moment.{Moment}
use Rattle.model.specs.declared.fault.SiteFault.{SiteFault}
use Rattle.model.specs.declared.fault.SiteFault.TheVariants.{Device, Stopped, Memory}
use Rattle.model.specs.declared.graph.Edge.{Edge}
use Rattle.model.specs.World.{World, View, view_of, IsIdle}
use Rattle.model.specs.Graph.{Addition, edge_at, first_output, maker, IsMadeOnce, IsMadeTwice}
use Rattle.model.specs.Premises.{FilesAreKept, RecordedApart}
use Rattle.model.specs.Records.{Store, recorded_inputs}
use Rattle.model.specs.Schedule.{Task, Step as Done, failed_in, done_in}
use Rattle.model.specs.Phases.{IsPointAfter, Phase, steps_of, next_edges, IsNextLoad, IsLoad, ArePhasesFrom, IsLawfulBuild, AreAskedApart, NothingNeededIsFree, IfUnstarted, WasNothingMissing, WasNothingMissingIn, task_with}
use Rattle.model.specs.SingleBuild as answer
use Rattle.model.specs.SingleBuild.{HeldAt, IsRefusedLoadHeldAt, AreHeldThen, AreJudgedAt, ArePhasesJudgedAt, Asked, Answer, IsSuccess, IsAnswer, IsAsked, IsNamedMissing, IsShownCycle, WentOn, WasInOrder, PassesNoFault, NamesOther, asked_with, task_of}
use Rattle.theory.specs.Seen.{IsSeen}
use Rattle.theory.proofs.Lists.{same_bytes, same_some}
use Rattle.graph.specs.declared.cone.Cone.{Cone}
use Rattle.graph.specs.declared.graph.Graph.{Graph}
use Rattle.records.specs.declared.records.Records.{Records}
use Rattle.graph.specs.Told.{declared_by}
use Rattle.theory.specs.Ledger.{IsCutOff, LoadedThen}
use Rattle.theory.proofs.Ledger.{cut_off}
use Rattle.theory.proofs.PhasesGoOn.{HoldsAll, with_text, no_text, holds_all, holds_it, held_later, loads_with}
use Rattle.work.specs.declared.summary.Summary.{Summary}
use Rattle.work.specs.declared.summary.Summary.TheVariants.{Well, Failed as SomeFailed}
use Rattle.work.specs.Course.{Course}
use Rattle.work.specs.declared.cut.Cut.{Cut}
use Rattle.work.specs.declared.cut.Cut.TheVariants.{Waiting, Other}
use Rattle.work.specs.Cut.{fault_of, IsLeft}
use Rattle.work.specs.declared.report.Missing.{Missing as Lacking}
use Rattle.work.specs.declared.report.Refusal.{Refusal}
use Rattle.work.specs.declared.report.Refusal.TheVariants.{File, MadeTwice, NoDyndepInput, Occupied, NoDyndep, BadVersion, BadStatement, Unfit, UnknownTarget, Cycle, Missing}
use Rattle.work.specs.declared.report.Report.{Report}
use Rattle.work.specs.declared.report.Report.TheVariants.{Success, Failed, Refused, Fault}
use Rattle.work.specs.declared.stop.Stop.{Stop}
use Rattle.work.specs.declared.stop.Stop.TheVariants as stop
use Rattle.builder.specs.Build.{AreGraph, Says, Builds, missing_answer, asked_of}
use Rattle.work.specs.declared.state.Work.{Work}
use Rattle.builder.specs.Reported.{IsReportOf, IsReported}
use Rattle.work.specs.Standing.{BeginsAt, task_over, IsHeldLoad, IsLacking, IsMissingAfter, IfFault, HasDone, HasStopped, WasCut, HasEndedSo, stop_answer}
use Rattle.work.specs.Loads.{IsRefusedFile, RefusesFile}
use Rattle.builder.specs.declared.asked.Asked.{Asked as Request}
use Rattle.builder.specs.Reports.{HasRead, IsConeRecorded, SaysEnd, course_of}
use Rattle.work.specs.Ends.{first_output_of, IsMissingFor, report_of}
use Rattle.builder.proofs.Beginning.{found_later}
use Rattle.builder.proofs.Builds.{any_own, names_inputs, builds_over}
use Rattle.builder.proofs.Opening.{cause_since}
use Rattle.builder.proofs.Looking.{Built, IsFoundAt, passes_any, passes_after}
use Rattle.builder.proofs.Running.{holds_still, held, held_so, right_so, built_ended, built_cut, built_failed, built_well, was_in_order}
use Rattle.builder.proofs.Values.{map_suc}

-- ---- behind a fault

none_some : (count : ℕ) → None ≡ Some count → ⊥
none_some count is = cc

-- no command runs then, unless a wait was refused or the site has stopped
idle_left : (now : World) (cut : Cut) → IsLeft now cut → (fault_of cut ≡ Stopped → now.stopped ≡ true) → now.stopped ≡ false → now.wait_refused ≡ None → IsIdle now.events
idle_left now (Waiting fault) left stopped goes none = absurd (none_some left.noted.0 (sym none ∙ left.noted.1))
idle_left now (Other Device) left stopped goes none = left
idle_left now (Other Stopped) left stopped goes none = absurd (false≢true (sym goes ∙ stopped refl))
idle_left now (Other Memory) left stopped goes none = left

-- ---- other files that are held

module _ (reading : List ℕ → Option (List Addition)) (texts more : View) (holds : HoldsAll texts more) (task : Task) (store : Store) where
  pub load_with : (task : Task) (before : List Done) (next : List Edge) → IsLoad reading texts task before next → IsLoad reading more task before next
  load_with task before next load = record {
    file = load.file;
    is_next = load.is_next;
    content = load.content;
    holds = holds load.file load.content load.holds;
    additions = load.additions;
    read = load.read;
    grown = load.grown;
  }

  pub phases_with : (before : List Done) (phases : List Phase) → ArePhasesFrom reading texts task store before phases → ArePhasesFrom reading more task store before phases
  phases_with before [] lawful = tt
  phases_with before (phase ∷ phases) lawful = (
    lawful.0,
    load_with (task_with task store phase.edges) (before ++ phase.steps) (next_edges phases task.graph.edges) lawful.1,
    lawful.2,
    phases_with (before ++ phase.steps) phases lawful.3,
  )

  -- of phases it does not matter what else is held
  abbrev pub build_with : (declared : List Edge) (steps : List Done) → IsLawfulBuild reading texts declared task store steps → IsLawfulBuild reading more declared task store steps
  build_with declared steps build = record {
    earlier = build.earlier;
    last = build.last;
    taken_in = build.taken_in;
    whole = build.whole;
    begins = build.begins;
    phases = phases_with [] build.earlier build.phases;
    lawful = build.lawful;
    rest = build.rest;
    cause = build.cause;
  }

-- ---- since a refusal

-- a point of then is one of now
point_later : (before : List Done) (old there now at : List Moment) → (later : List Moment) × (now ≡ there ++ later) → IsPointAfter before old there at → IsPointAfter before old now at
point_later before old there now at more point = record {
  so_far = point.so_far;
  later = point.later ++ more.0;
  is = point.is;
  grows = more.1 ∙ (ap (λ (l : List Moment). l ++ more.0) point.grows ∙ append_assoc at point.later more.0);
  happened = point.happened;
  entry = point.entry;
  behind = point.behind;
}

-- ---- what it is reported

-- A build of the course has ended, with these edges, and is reported so.
pub record EndsSo (tells : Bool) (course : Course) (grown : List Edge) (now : World) (report : Report) : Type 0 where
  pub said : Answer
  pub says : (edges : List Edge) (given targets : List (List ℕ)) → Says edges given targets report said
  pub built : Built tells course.behaviour course.format course.own (asked_with course.asked grown) course.entry now said report

module _ (tells : Bool) (course : Course) (grown : List Edge) (now : World) (found : IsFoundAt tells course.format course.own course.store course.entry now) (idle : IsIdle course.entry.events)
    (others : (file : List ℕ) → NamesOther course.asked.declared file → ⊥) (named : answer.AllNamed course.asked) where
  abbrev EndsAs : Report → Type 0
  EndsAs report = EndsSo tells course grown now report

  -- ---- nothing was left to do

  module _ (graph : Graph) (cone : Cone) (passes : PassesNoFault course.entry now answer.Refused) where
    -- and no command runs
    idle_then : (summary : Summary) → HasDone tells course grown graph cone now summary → IsIdle now.events
    idle_then (Well started) done = idle_at_end tells course.own (asked_with course.asked grown) course.store done.ran.steps course.entry now idle done.ran.ends.1 (let over = done.ran.ends.2 in over.2)
    idle_then (SomeFailed failed) done = idle_at_end tells course.own (asked_with course.asked grown) course.store done.ran.steps course.entry now idle done.ran.ends.1 (let over = done.ran.ends.2 in over.2)

    module _ (summary : Summary) (done : HasDone tells course grown graph cone now summary) where
      abbrev asked_then : Asked
      asked_then = asked_with course.asked grown

      sources : IsTrue tells → (files : FilesAreKept course.own grown course.entry.history now.history) → NothingNeededIsFree files.free (task_of asked_then course.store)
          → WasNothingMissing course.own (task_of asked_then course.store) course.store course.entry.history now.history [] done.ran.cut.phased.build.earlier
      sources tell kept needed =
          subst (λ (ps : List Phase). WasNothingMissing course.own (task_of asked_then course.store) course.store course.entry.history now.history [] ps) (sym {A = List Phase} done.ran.cut.phased.so) (done.asked tell kept needed)

      in_order : WasInOrder tells course.own asked_then course.store done.ran.cut.phased.build.earlier done.ran.cut.phased.build.last course.entry now
      in_order = was_in_order tells course.behaviour course.format course.own asked_then course.store course.entry now found idle done.phases done.ran.steps done.ran.met done.ran.cut done.once others named done.acyclic sources

      -- but there was no memory to tell it
      done_untold : EndsAs (Fault Memory)
      done_untold = record {
        said = answer.Fault Memory;
        says = λ edges given targets. refl;
        built = built_cut tells course.behaviour course.format course.own asked_then course.store course.entry now found idle done.phases done.ran.steps done.ran.met done.ran.cut done.once others done.ran.in_hand (inr in_order)
            (λ goes none. idle_then summary done) Memory (inl (passes.refused refl)) (passes_any course.entry now passes (answer.Fault Memory));
      }

    done_well : (started : ℕ) → HasDone tells course grown graph cone now (Well started) → EndsAs (Success started)
    done_well started done =
        let run = done.ran.ends.1 in
        let over = done.ran.ends.2 in
        record {
          said = answer.Success started;
          says = λ edges given targets. refl;
          built = built_well tells course.behaviour course.format course.own (asked_with course.asked grown) course.store course.entry now found idle done.phases done.ran.steps done.ran.met done.ran.cut done.once others named done.acyclic
              (sources (Well started) done) done.ran.ends.0 run over.0 over.1 over.2 done.ran.ends.3 done.ran.goes done.ran.removed cone.order.items cone.marks.items done.listed started over.3 done.ran.ends.4
              (passes_any course.entry now passes (answer.Success started));
        }

    done_badly : (failed : Vec ℕ Global) → HasDone tells course grown graph cone now (SomeFailed failed) → EndsAs (Failed (map (first_output_of graph.manifest) failed.items))
    done_badly failed done =
        let run = done.ran.ends.1 in
        let over = done.ran.ends.2 in
        let outputs = map (first_output_of graph.manifest) failed.items in
        let told : map (λ i. first_output (edge_at grown i)) (failed_in done.ran.steps) ≡ outputs =
        ap (λ (l : List ℕ). map (λ i. first_output (edge_at grown i)) l) (sym done.ran.ends.4)
        ∙ (ap (λ (es : List Edge). map (λ i. first_output (edge_at es i)) (map suc failed.items)) (sym done.same) ∙ sym (map_suc (λ i. first_output (edge_at (declared_by graph).edges i)) failed.items)) in
        record {
          said = answer.Failed outputs;
          says = λ edges given targets. refl;
          built = built_failed tells course.behaviour course.format course.own (asked_with course.asked grown) course.store course.entry now found idle done.phases done.ran.steps done.ran.met done.ran.cut done.once others named
              done.acyclic (sources (SomeFailed failed) done) done.ran.ends.0 run over.0 over.1 over.2 done.ran.ends.3 done.ran.goes done.ran.removed outputs told over.3
              (passes_any course.entry now passes (answer.Failed outputs));
        }

    pub ends_done : (summary : Summary) → HasDone tells course grown graph cone now summary → (report : Report) → (report ≡ Fault Memory) ⊎ SaysEnd graph summary report → EndsAs report
    ends_done summary done report (inl is) = subst (λ (r : Report). EndsAs r) (sym {A = Report} is) (done_untold summary done)
    ends_done (Well started) done report (inr is) = subst (λ (r : Report). EndsAs r) (sym {A = Report} is) (done_well started done)
    ends_done (SomeFailed failed) done report (inr is) = subst (λ (r : Report). EndsAs r) (sym {A = Report} is) (done_badly failed done)

  -- ---- a fault has cut it off

  pub ends_cut : (fault : SiteFault) → WasCut tells course grown now fault → IsSeen course.entry now fault → PassesNoFault course.entry now (answer.Fault fault) → EndsAs (Fault fault)
  ends_cut fault cut seen passes = record {
    said = answer.Fault fault;
    says = λ edges given targets. refl;
    built = built_cut tells course.behaviour course.format course.own (asked_with course.asked grown) course.store course.entry now found idle cut.phases cut.ran.steps cut.ran.met cut.ran.cut cut.once others cut.ran.in_hand (inr ordered)
        (idle_left now cut.cut cut.left stops) fault seen passes;
  }
    where
      stops : fault_of cut.cut ≡ Stopped → now.stopped ≡ true
      stops is = subst (λ (f : SiteFault). IsSeen course.entry now f) (sym {A = SiteFault} cut.is ∙ is) seen

      ordered : WasInOrder tells course.own (asked_with course.asked grown) course.store cut.ran.cut.phased.build.earlier cut.ran.cut.phased.build.last course.entry now
      ordered = record {
        made_once = cut.once;
        dyndep = others;
        named = named;
        no_cycle = cut.acyclic;
        sources = λ tell kept needed.
            subst (λ (ps : List Phase). WasNothingMissingIn course.own (task_over course grown) course.store course.entry.history now.history [] ps cut.ran.cut.phased.build.last) (sym {A = List Phase} cut.ran.cut.phased.so)
            (cut.asked tell kept needed);
      }

  -- ---- a refusal has ended it

  module _ (refusal : Refusal) (stopped : HasStopped tells course grown now refusal) (passes : PassesNoFault course.entry now answer.Refused) where
    abbrev asked_now : Asked
    asked_now = asked_with course.asked grown

    abbrev task : Task
    task = task_of asked_now course.store

    abbrev steps : List Done
    steps = stopped.finished.on.steps

    abbrev build : IsLawfulBuild course.behaviour.dyndep stopped.phased.texts course.asked.declared task course.store steps
    build = stopped.phased.build

    abbrev cut : IsCutOff tells course.behaviour course.format course.own asked_now course.store stopped.phases steps None course.entry now
    cut =
        let off = cut_off tells course.behaviour course.format course.own asked_now course.store course.entry stopped.phases false steps None now stopped.finished.on.carried in
        record { phased = stopped.phased; run = off.run; beside = off.beside }

    -- files that are kept were so then
    abbrev kept_then : IsTrue tells → FilesAreKept course.own grown course.entry.history now.history → FilesAreKept course.own grown course.entry.history stopped.there.history
    kept_then tell kept = let more = stopped.after.history tell in kept_before course.own grown course.entry.history stopped.there.history now.history more.0 more.1 kept

    refused_now : (file : List ℕ) (Faulty : Option (List ℕ) → Type 0) → IsRefusedFile tells course.own asked_now course.store stopped.done course.entry stopped.there file Faulty
        → IsRefusedFile tells course.own asked_now course.store stopped.done course.entry now file Faulty
    refused_now file Faulty refused = record {
      next = refused.next;
      held = refused.held;
      faulty = refused.faulty;
      was = λ tell.
          let more = stopped.after.history tell in
          held_later file refused.held stopped.done course.entry.history stopped.there.history now.history more.0 more.1 (refused.was tell);
      is = λ tell kept bound.
          let was = refused.is tell (kept_then tell kept) bound in
          record { at = was.at; point = point_later stopped.done course.entry.history stopped.there.history now.history was.at (stopped.after.history tell) was.point; is = was.is };
    }

    -- the steps up to the refusal
    done_is : steps_of build.earlier ++ build.last ≡ stopped.done
    done_is = ap (λ (ps : List Phase). steps_of ps ++ build.last) stopped.phased.so ∙ stopped.up_to

    ordered : WasInOrder tells course.own asked_now course.store build.earlier build.last course.entry now
    ordered = record {
      made_once = stopped.once;
      dyndep = others;
      named = named;
      no_cycle = stopped.acyclic;
      sources = λ tell kept needed.
          subst (λ (ps : List Phase). WasNothingMissingIn course.own task course.store course.entry.history now.history [] ps build.last) (sym {A = List Phase} stopped.phased.so) (stopped.asked tell kept needed);
    }

    abbrev Kept : Type 0
    Kept = FilesAreKept course.own grown course.entry.history now.history

    abbrev HoldStill : View → Type 0
    HoldStill texts =
        IsTrue tells → (files : Kept) → (file content : List ℕ) → files.free file ≡ false → texts file ≡ Some content → (maker course.asked.declared file ≡ None → maker grown file ≡ None)
        → view_of now.history file ≡ Some content

    abbrev HeldThen : View → List Phase → List Done → Type 0
    HeldThen texts phases last = IsTrue tells → AreHeldThen course.behaviour.dyndep texts task course.store phases (steps_of phases ++ last) course.entry.history now.history

    abbrev RightThen : List Phase → List Done → Type 0
    RightThen phases last =
        IsTrue tells → (files : Kept) → RecordedApart course.own (recorded_inputs course.store grown)
        → ArePhasesJudgedAt files.free course.store [] phases course.entry.history now.history × AreJudgedAt files.free grown course.store (steps_of phases) last course.entry.history now.history

    held_still : HoldStill stopped.phased.texts
    held_still = held tells course.behaviour course.format course.own asked_now course.store course.entry now found idle stopped.phases steps None cut stopped.once others

    held_then : HeldThen stopped.phased.texts build.earlier build.last
    held_then = held_so tells course.behaviour course.format course.own asked_now course.store course.entry now found idle stopped.phases steps None cut stopped.once others

    right_then : RightThen build.earlier build.last
    right_then = right_so tells course.behaviour course.format course.own asked_now course.store course.entry now found idle stopped.phases steps None cut stopped.once others

    -- these are what loaded files held, the refused one included where it was read
    module _ (texts : View) (build : IsLawfulBuild course.behaviour.dyndep texts course.asked.declared task course.store steps) (holds : HoldStill texts) (held_by : HeldThen texts build.earlier build.last) (right : RightThen build.earlier build.last)
        (ordered : WasInOrder tells course.own asked_now course.store build.earlier build.last course.entry now) where
      stopped_with : (said : Answer) → RefusesFile tells course.own asked_now course.store (steps_of build.earlier ++ build.last) course.entry now (Refused refusal) → (IsSuccess said → ⊥) → (WentOn said → ⊥)
          → IsAnswer tells course.behaviour course.own texts asked_now course.store build.earlier (steps_of build.earlier ++ build.last) steps course.entry now said
          → Built tells course.behaviour course.format course.own asked_now course.entry now said (Refused refusal)
      stopped_with said refused failed ended is =
          built_ended tells course.behaviour course.format course.own asked_now course.store course.entry now found idle stopped.phases steps None cut stopped.once others texts build holds held_by right
          refl stopped.finished.on.carried.run stopped.finished.none stopped.finished.on.removed ordered said (Refused refusal) refused (λ on. absurd (ended on)) is (λ success. absurd (failed success))
          (passes_any course.entry now passes said)

    -- a dyndep file is refused
    stopped_unread : RefusesFile tells course.own asked_now course.store stopped.done course.entry now (Refused refusal) → (file : List ℕ) → IsNextLoad task stopped.done file
        → Built tells course.behaviour course.format course.own asked_now course.entry now answer.Refused (Refused refusal)
    stopped_unread refused file next =
        stopped_with stopped.phased.texts build held_still held_then right_then ordered answer.Refused
        (subst (λ (l : List Done). RefusesFile tells course.own asked_now course.store l course.entry now (Refused refusal)) (sym done_is) refused) (λ h. h) (λ h. h)
        (stopped.untouched, inr (file, subst (λ (l : List Done). IsNextLoad task l file) (sym done_is) next))

    abbrev Lacks : List ℕ → Option (List ℕ) → List Done → Type 0
    Lacks path needed done =
        IsTrue tells → (files : Kept) → NothingNeededIsFree files.free task → AreAskedApart course.own task done → IsMissingAfter course grown done now path needed

    abbrev AtEntry : List ℕ → Option (List ℕ) → List Done → Type 0
    AtEntry path needed done = IfUnstarted tells task done course.entry.history now.history (IsMissingFor grown course.store done task.targets course.entry.history path needed)

    -- a source is missing where a phase begins
    stopped_lacking : RefusesFile tells course.own asked_now course.store (steps_of build.earlier ++ build.last) course.entry now (Refused refusal) → (missing : Lacking) → IsLacking tells course grown stopped.phases stopped.done stopped.there missing
        → Built tells course.behaviour course.format course.own asked_now course.entry now (missing_answer missing.path missing.needed_by) (Refused refusal)
    stopped_lacking refused missing lacks =
        by_needed missing.needed_by lacks.needed (subst (λ (l : List Done). AtEntry missing.path missing.needed_by l) (sym done_is) entry_now)
        (lacks_now missing.needed_by (λ tell kept needed apart. lacks.is tell (kept_then tell kept) needed apart))
      where
        asked_at : IsAsked task build.earlier (steps_of build.earlier ++ build.last)
        asked_at =
            subst (λ (l : List Done). IsAsked task build.earlier l) (sym done_is)
            (subst (λ (ps : List Phase). IsAsked task ps stopped.done) (sym {A = List Phase} stopped.phased.so) lacks.asked)

        entry_now : AtEntry missing.path missing.needed_by stopped.done
        entry_now tell none free edits needed apart =
            let more = stopped.after.history tell in
            lacks.at_entry tell none free (edits_before free course.entry.history stopped.there.history now.history more.0 more.1 edits) needed apart

        lacks_now : (needed : Option (List ℕ))
            → (IsTrue tells → (files : Kept) → NothingNeededIsFree files.free task → AreAskedApart course.own task stopped.done → IsMissingAfter course grown stopped.done stopped.there missing.path needed) → Lacks missing.path needed stopped.done
        lacks_now None is tell kept needed apart =
            let was = is tell kept needed apart in
            (was.0, point_later stopped.done course.entry.history stopped.there.history now.history was.0 (stopped.after.history tell) was.1, was.2)
        lacks_now (Some output) is tell kept needed apart =
            let was = is tell kept needed apart in
            let at = was.2 in
            (was.0, was.1, (at.0, point_later stopped.done course.entry.history stopped.there.history now.history at.0 (stopped.after.history tell) at.1, at.2))

        lacks_then : (needed : Option (List ℕ)) → Lacks missing.path needed stopped.done → Lacks missing.path needed (steps_of build.earlier ++ build.last)
        lacks_then needed is = subst (λ (l : List Done). Lacks missing.path needed l) (sym done_is) is

        by_needed : (needed : Option (List ℕ)) → IsNamedMissing grown course.store task.targets missing.path needed → AtEntry missing.path needed (steps_of build.earlier ++ build.last) → Lacks missing.path needed stopped.done → Built tells course.behaviour course.format course.own asked_now course.entry now (missing_answer missing.path needed) (Refused refusal)
        by_needed None named_so at_entry is =
            stopped_with stopped.phased.texts build held_still held_then right_then ordered (answer.MissingTarget missing.path) refused (λ h. h) (λ h. h)
            (stopped.untouched, named, stopped.acyclic, asked_at, named_so, at_entry, λ tell kept nothing apart. lacks_then None is tell kept nothing apart)
        by_needed (Some output) named_so at_entry is =
            stopped_with stopped.phased.texts build held_still held_then right_then ordered (answer.MissingInput missing.path output) refused (λ h. h) (λ h. h)
            (stopped.untouched, named, stopped.acyclic, asked_at, named_so, at_entry, λ tell kept nothing apart. lacks_then (Some output) is tell kept nothing apart)

    -- a dyndep file was read, and what it adds makes no build
    module _ (next : List Edge) (load : IsHeldLoad tells course grown stopped.done stopped.there next) where
      abbrev texts : View
      texts = with_text load.file load.content stopped.phased.texts

      more : HoldsAll stopped.phased.texts texts
      more = holds_all stopped.phased.texts load.file load.content (stopped.phased.unread load.is_next.due.edge load.file load.is_next.due.names)

      abbrev build_read : IsLawfulBuild course.behaviour.dyndep texts course.asked.declared task course.store steps
      build_read = build_with course.behaviour.dyndep stopped.phased.texts texts more task course.store course.asked.declared steps build

      -- what makes it was settled
      loaded_then : IsTrue tells → LoadedThen tells course.own asked_now course.store load.file load.content steps course.entry now
      loaded_then tell =
          let due = load.is_next.due in
          let since = stopped.finished.on.since in
          let more = stopped.after.history tell in
          record {
            before = stopped.done;
            later = since.0;
            splits = since.1;
            mid = stopped.there;
            run = stopped.run;
            more = more.0;
            grows = more.1;
            holds = load.holds tell;
            input = (due.edge, stopped.phased.inputs due.edge load.file due.names);
            settled = λ same j makes command. settled_command grown (done_in stopped.done) j command (due.settled j makes);
          }

      loaded_as : (p content : List ℕ) → bytes_eq load.file p ≡ true → Some load.content ≡ Some content → IsTrue tells → LoadedThen tells course.own asked_now course.store p content steps course.entry now
      loaded_as p content here told tell =
          subst (λ (q : List ℕ). LoadedThen tells course.own asked_now course.store q content steps course.entry now) (same_bytes load.file p here)
          (subst (λ (c : List ℕ). LoadedThen tells course.own asked_now course.store load.file c steps course.entry now) (same_some load.content content told) (loaded_then tell))

      -- and it held then what it is read as
      held_now : (p content : List ℕ) → bytes_eq load.file p ≡ true → Some load.content ≡ Some content → IsTrue tells → HeldAt p (Some content) (steps_of build.earlier ++ build.last) course.entry.history now.history
      held_now p content here told tell =
          let more = stopped.after.history tell in
          subst (λ (l : List Done). HeldAt p (Some content) l course.entry.history now.history) (sym done_is)
          (subst (λ (q : List ℕ). HeldAt q (Some content) stopped.done course.entry.history now.history) (same_bytes load.file p here)
          (subst (λ (c : Option (List ℕ)). HeldAt load.file c stopped.done course.entry.history now.history) told
          (held_later load.file (Some load.content) stopped.done course.entry.history stopped.there.history now.history more.0 more.1 (load.held tell))))

      refused_then : IsTrue tells → IsRefusedLoadHeldAt course.behaviour.dyndep texts task (steps_of build.earlier ++ build.last) course.entry.history now.history
      refused_then tell other again = elim (cases_Bool (bytes_eq load.file again.file)) [
        | inl here ↦ held_now again.file again.content here (sym (ap (λ (b : Bool). cond b (Some load.content) (stopped.phased.texts again.file)) here) ∙ again.holds) tell
        | inr apart ↦
            let held : stopped.phased.texts again.file ≡ Some again.content = sym (ap (λ (b : Bool). cond b (Some load.content) (stopped.phased.texts again.file)) apart) ∙ again.holds in
            absurd (no_text again.content (sym (stopped.phased.unread again.is_next.due.edge again.file again.is_next.due.names) ∙ held))
      ]

      read_then : HeldThen texts build_read.earlier build_read.last
      read_then tell = (loads_with stopped.phased.texts texts more task course.store [] build.earlier course.entry.history now.history (held_then tell).0, refused_then tell)

      held_read : HoldStill texts
      held_read tell kept p content bound is same = elim (cases_Bool (bytes_eq load.file p)) [
        | inl here ↦
            let told : Some load.content ≡ Some content = sym (ap (λ (b : Bool). cond b (Some load.content) (stopped.phased.texts p)) here) ∙ is in
            holds_still tells course.behaviour course.format course.own asked_now course.store course.entry now found idle stopped.phases steps None cut stopped.once others tell kept p content bound (loaded_as p content here told tell) same
        | inr other ↦ held_still tell kept p content bound (sym (ap (λ (b : Bool). cond b (Some load.content) (stopped.phased.texts p)) other) ∙ is) same
      ]

      is_load : IsLoad course.behaviour.dyndep texts task (steps_of build_read.earlier ++ build_read.last) next
      is_load = record {
        file = load.file;
        is_next = subst (λ (l : List Done). IsNextLoad task l load.file) (sym done_is) load.is_next;
        content = load.content;
        holds = holds_it stopped.phased.texts load.file load.content;
        additions = load.additions;
        read = load.read;
        grown = load.grown;
      }

      stopped_twice : RefusesFile tells course.own asked_now course.store (steps_of build.earlier ++ build.last) course.entry now (Refused refusal) → (path : List ℕ) → IsMadeTwice next path
          → Built tells course.behaviour course.format course.own asked_now course.entry now (answer.MadeTwice path) (Refused refusal)
      stopped_twice refused path twice =
          stopped_with texts build_read held_read read_then right_then ordered (answer.MadeTwice path) refused (λ h. h) (λ h. h)
          (stopped.untouched, (asked_with asked_now next, inr (next, refl, is_load), twice))

      stopped_round : RefusesFile tells course.own asked_now course.store (steps_of build.earlier ++ build.last) course.entry now (Refused refusal) → (paths : List (List ℕ)) → IsShownCycle (asked_with course.asked next) course.store paths
          → Built tells course.behaviour course.format course.own asked_now course.entry now (answer.Cyclic paths) (Refused refusal)
      stopped_round refused paths cycle =
          stopped_with texts build_read held_read read_then right_then ordered (answer.Cyclic paths) refused (λ h. h) (λ h. h)
          (stopped.untouched, named, (asked_with asked_now next, inr (next, refl, is_load), cycle))

  ends_refused : (refusal : Refusal) → HasStopped tells course grown now refusal → PassesNoFault course.entry now answer.Refused → EndsAs (Refused refusal)
  ends_refused (File fault) stopped passes = absurd stopped.cause
  ends_refused (NoDyndepInput path) stopped passes = absurd stopped.cause
  ends_refused (Occupied occupied) stopped passes = absurd stopped.cause
  ends_refused (UnknownTarget target) stopped passes = absurd stopped.cause
  ends_refused (MadeTwice path) stopped passes = record {
    said = answer.MadeTwice path;
    says = λ edges given targets. refl;
    built = stopped_twice (MadeTwice path) stopped passes stopped.cause.0 stopped.cause.1 tt path stopped.cause.2;
  }
  ends_refused (Cycle paths) stopped passes = record {
    said = answer.Cyclic paths;
    says = λ edges given targets. refl;
    built = stopped_round (Cycle paths) stopped passes stopped.cause.0 stopped.cause.1 tt paths stopped.cause.3;
  }
  ends_refused (Missing missing) stopped passes = record {
    said = missing_answer missing.path missing.needed_by;
    says = λ edges given targets. refl;
    built = stopped_lacking (Missing missing) stopped passes stopped.cause.named missing stopped.cause;
  }
  ends_refused (NoDyndep file) stopped passes = record {
    said = answer.Refused;
    says = λ edges given targets. refl;
    built = stopped_unread (NoDyndep file) stopped passes (refused_now (NoDyndep file) stopped passes file _ stopped.cause) file stopped.cause.next;
  }
  ends_refused (BadVersion file) stopped passes = record {
    said = answer.Refused;
    says = λ edges given targets. refl;
    built = stopped_unread (BadVersion file) stopped passes (refused_now (BadVersion file) stopped passes file _ stopped.cause) file stopped.cause.next;
  }
  ends_refused (BadStatement file) stopped passes = record {
    said = answer.Refused;
    says = λ edges given targets. refl;
    built = stopped_unread (BadStatement file) stopped passes (refused_now (BadStatement file) stopped passes file _ stopped.cause) file stopped.cause.next;
  }
  ends_refused (Unfit unfit) stopped passes = record {
    said = answer.Refused;
    says = λ edges given targets. refl;
    built = stopped_unread (Unfit unfit) stopped passes (refused_now (Unfit unfit) stopped passes unfit.file _ stopped.cause) unfit.file stopped.cause.next;
  }

  -- a refusal or a fault
  pub ends_stopped : (graph : Graph) (cone : Cone) (stop : Stop) → HasEndedSo tells course grown graph cone now (Err stop) → IfFault stop (IsSeen course.entry now) → PassesNoFault course.entry now (stop_answer (Err stop)) → EndsAs (report_of stop)
  ends_stopped graph cone (stop.Refused refusal) ended seen passes = ends_refused refusal ended passes
  ends_stopped graph cone (stop.Fault fault) ended seen passes = ends_cut fault ended seen passes

-- however it ended, the history grew since the entry
pub ended_grows : (tells : Bool) (course : Course) (grown : List Edge) (graph : Graph) (cone : Cone) (now : World) (result : Result Summary Stop) → HasEndedSo tells course grown graph cone now result → IsTrue tells → (later : List Moment) × (now.history ≡ course.entry.history ++ later)
ended_grows tells course grown graph cone now (Ok summary) done tell = let told = done.ran.cut.run.history tell in (told.more, told.grows)
ended_grows tells course grown graph cone now (Err (stop.Refused refusal)) stopped tell = let told = stopped.finished.on.carried.run.history tell in (told.more, told.grows)
ended_grows tells course grown graph cone now (Err (stop.Fault fault)) cut tell = let told = cut.ran.cut.run.history tell in (told.more, told.grows)

-- however it ended, the edges are a graph, with what was loaded
pub ended_graph : (tells : Bool) (course : Course) (grown : List Edge) (graph : Graph) (cone : Cone) (now : World) (result : Result Summary Stop) → HasEndedSo tells course grown graph cone now result → AreGraph grown
ended_graph tells course grown graph cone now (Ok summary) done = record { once = done.once; inputs = names_inputs grown done.ran.cut.phased.inputs }
ended_graph tells course grown graph cone now (Err (stop.Refused refusal)) stopped = record { once = stopped.once; inputs = names_inputs grown stopped.phased.inputs }
ended_graph tells course grown graph cone now (Err (stop.Fault fault)) cut = record { once = cut.once; inputs = names_inputs grown cut.ran.cut.phased.inputs }

-- ---- of what was asked for

-- The run of what was asked for has ended: on the course by which was read, and on one that begins anew there.
module _ (tells : Bool) (graph : Graph) (request : Request) (records : Records) (course : Course) (old : World) (has : HasRead tells graph request records course old)
    (once : IsMadeOnce (declared_by graph).edges) (others : (file : List ℕ) → NamesOther (declared_by graph).edges file → ⊥) (cone : Cone) (coned : IsConeRecorded graph request.targets cone) (grown : List Edge) (after : Graph) (last : Cone) (exit : World) where
  abbrev The : Asked
  The = asked_of (declared_by graph) request.folder request.limits request.targets

  abbrev this : Course
  this = course_of course.behaviour course.format course.own The course.store course.entry

  abbrev here : Course
  here = course_of course.behaviour course.format (any_own request.folder) The course.store old

  abbrev BuildsAs : Report → Type 0
  BuildsAs report = Builds tells course.behaviour course.format course.own (declared_by graph) request.folder request.limits request.given.now request.targets grown course.entry exit report

  module _ (result : Result Summary Stop) (anew : HasEndedSo tells here grown after last exit result) (passes : PassesNoFault old exit (stop_answer result)) where
    found : IsFoundAt tells course.format course.own course.store course.entry exit
    found = found_later tells graph request records course old has exit (ended_grows tells here grown after last exit result anew)

    builds_so : (report : Report) → EndsSo tells this grown exit report → BuildsAs report
    builds_so report ends =
        builds_over tells course.behaviour course.format course.own (declared_by graph) request.folder request.limits request.given.now request.targets course.store course.entry exit found has.idle (record { once = once; inputs = others }) grown
        (ended_graph tells here grown after last exit result anew) report ends.said
        (ends.says (declared_by graph).edges request.given.now request.targets) ends.built

    named : answer.AllNamed The
    named = (coned course.store has.in_use).named

    passes_all : PassesNoFault course.entry exit (stop_answer result)
    passes_all = passes_after tells course.entry old exit (stop_answer result) has.looked passes

  -- nothing was left to do
  pub builds_done : (summary : Summary) → HasEndedSo tells this grown after last exit (Ok summary) → HasEndedSo tells here grown after last exit (Ok summary) → PassesNoFault old exit answer.Refused
      → (report : Report) → (report ≡ Fault Memory) ⊎ SaysEnd after summary report → BuildsAs report
  builds_done summary ended anew passes report says =
      builds_so (Ok summary) anew passes report
      (ends_done tells this grown exit (found (Ok summary) anew passes) has.idle others (named (Ok summary) anew passes) after last (passes_all (Ok summary) anew passes) summary ended report says)

  -- a refusal or a fault
  pub builds_stopped : (stop : Stop) → HasEndedSo tells this grown after last exit (Err stop) → HasEndedSo tells here grown after last exit (Err stop) → PassesNoFault old exit (stop_answer (Err stop)) → IfFault stop (IsSeen old exit)
      → (report : Report) → report ≡ report_of stop → BuildsAs report
  builds_stopped stop ended anew passes seen report is =
      subst (λ (r : Report). BuildsAs r) (sym {A = Report} is)
      (builds_so (Err stop) anew passes (report_of stop)
      (ends_stopped tells this grown exit (found (Err stop) anew passes) has.idle others (named (Err stop) anew passes) after last stop ended
      (cause_since course.entry old exit stop has.looked.unrefused.failures seen) (passes_all (Err stop) anew passes)))

  -- however it ended
  builds_said : (result : Result Summary Stop) → HasEndedSo tells this grown after last exit result → HasEndedSo tells here grown after last exit result → PassesNoFault old exit (stop_answer result)
      → IfErr result (λ stopped. IfFault stopped (IsSeen old exit)) → (report : Report) → IsReportOf after result report → BuildsAs report
  builds_said (Ok summary) ended anew passes seen report is = builds_done summary ended anew passes report is
  builds_said (Err stopped) ended anew passes seen report is = builds_stopped stopped ended anew passes seen report is

-- a run that began so was reported
pub builds_reported : (tells : Bool) (graph : Graph) (request : Request) (records : Records) (course : Course) (old : World) → HasRead tells graph request records course old
    → IsMadeOnce (declared_by graph).edges → ((file : List ℕ) → NamesOther (declared_by graph).edges file → ⊥) → (cone : Cone) → IsConeRecorded graph request.targets cone → (state : Work) (after : Graph) (last : Work) (exit : World) (report : Report)
    → (told : IsReported tells graph state old after last exit report)
    → BeginsAt tells (course_of course.behaviour course.format course.own (asked_of (declared_by graph) request.folder request.limits request.targets) course.store course.entry) (declared_by graph).edges [] graph state old
    → BeginsAt tells (course_of course.behaviour course.format (any_own request.folder) (asked_of (declared_by graph) request.folder request.limits request.targets) course.store old) (declared_by graph).edges [] graph state old
    → Builds tells course.behaviour course.format course.own (declared_by graph) request.folder request.limits request.given.now request.targets told.grown course.entry exit report
builds_reported tells graph request records course old has once others cone coned state after last exit report told this here =
    builds_said tells graph request records course old has once others cone coned told.grown after last.cone exit told.said
    (told.ended (course_of course.behaviour course.format course.own (asked_of (declared_by graph) request.folder request.limits request.targets) course.store course.entry) (declared_by graph).edges [] this)
    (told.ended (course_of course.behaviour course.format (any_own request.folder) (asked_of (declared_by graph) request.folder request.limits request.targets) course.store old) (declared_by graph).edges [] here)
    told.faults told.seen report told.is
