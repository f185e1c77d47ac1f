-- What a run keeps goes on over the calls of its site: one lemma for each part, and one for each kind of call.
use Rattle.std.proofs.Common.{◌≡◌, ◌≢◌, inl, ℕ, suc, ◌≤◌, ◌<◌, Bool, true, false, IsTrue, List, [], ◌∷◌, ◌++◌, length, Option, Some, None, refl, sym, ◌∙◌, ap, subst, append_assoc, arith}
use Rattle.std.proofs.lemmas.List.{append-nil, length-append}
use Rattle.std.proofs.lemmas.Bool.{false≢true}
use Rattle.model.specs.declared.event.Event.{Event}
use Rattle.model.specs.declared.event.Event.TheVariants.{Start}
use Rattle.model.specs.declared.event.Moment.{Moment}
use Rattle.model.specs.declared.graph.Deps.TheVariants.{Unset}
use Rattle.model.specs.declared.record.Record.{Record}
use Rattle.model.specs.declared.record.DepsRecord.{DepsRecord}
use Rattle.model.specs.World.{World, File, file_at, stamp_of, runs}
use Rattle.model.specs.Calls.{OnlyLooks, Ticks, WritesOrNot}
use Rattle.model.specs.Graph.{has_number, edge_at, IsCommand, IsMadeOnce}
use Rattle.model.specs.Records.{OwnFiles, in_force, deps_in_force}
use Rattle.model.specs.Schedule.{Step as Done, started_in, ended_in, out_of_date_in, running_in, well_in}
use Rattle.model.specs.SingleBuild.{task_of}
use Rattle.model.specs.Kept.{StartedUnder}
use Rattle.theory.specs.Run.{IsRunOrRest}
use Rattle.theory.proofs.Lists.{same_some}
use Rattle.theory.proofs.Runs.{rest_begins}
use Rattle.theory.proofs.Orderly.{IsKept, kept_orderly}
use Rattle.theory.proofs.Steps.{running_parts}
use Rattle.log_text.specs.declared.done.Done.{Done as Line}
use Rattle.log_text.specs.Kept.{Table}
use Rattle.log_text.specs.BuildLog.{Keeps, makings}
use Rattle.log_text.specs.declared.deps.Deps.{Deps}
use Rattle.log_text.specs.DepsLog.{Keeps as KeepsDeps, tolds}
use Rattle.theory.specs.Writes.{WritesAt}
use Rattle.theory.specs.Ledger.{IsCarried, IsCutOff}
use Rattle.theory.proofs.Ledger.{command_of, running_of, stale_command, carried_looks, carried_ticks, carried_response, carried_depfile, carried_log, carried_hand, cut_off}
use Rattle.theory.proofs.Writing.{looks_at, writes_or_not_at, ticks_grew}
use Rattle.graph.specs.declared.graph.Graph.{Graph}
use Rattle.paths.specs.Told.{text_at}
use Rattle.judge.specs.declared.looks.Look.{Look}
use Rattle.judge.specs.Seen.{look_of, AreKept, AreSeenOf}
use Rattle.plan.specs.declared.plan.Plan.{Plan}
use Rattle.plan.specs.Planned.{IsPlanned, AreTaken}
use Rattle.records.specs.declared.records.Records.{Records}
use Rattle.records.specs.declared.logs.Logs.{Logs}
use Rattle.records.specs.Held.{ArePlaces}
use Rattle.records.specs.Known.{AreKnown}
use Rattle.records.specs.Logging.{AreSameLogs, IsLogging, IsLoggedStill}
use Rattle.records.specs.Laws.{LeavesTheLogs, LogStays}
use Rattle.work.specs.declared.state.Work.{Work}
use Rattle.work.specs.Course.{Course, goes_on, IsSince, edges_of, is_quiet, IsSeenStill, AreAnew, AreSeenBefore, AreTold, AreStarted, IsOn}
use Rattle.work.specs.Removing.{AreRemoved}
use Rattle.work.specs.Going.{IsInHand, IsCut}
use Rattle.work.proofs.Quiet.{KeepsQuiet, files_then, RunBy, quiet_own, quiet_response, quiet_depfile, quiet_looks}
use Rattle.work.proofs.Anew.{anew_over, before_over}
use Rattle.work.proofs.Removed.{WellRest, removed_looks, removed_own, removed_depfile, removed_response, removed_hand}

-- ---- the parts

-- what was seen of paths that keep their files is so afterwards
pub seen_kept : (set : List ℕ → Bool) (paths : List (List ℕ)) (seen : List Look) (old new more : List Moment) → new ≡ old ++ more → AreKept set old new → AreSeenOf set paths old seen → AreSeenOf set paths new seen
seen_kept set paths seen old new more grows kept are p asked is =
    are p asked is ∙ ap (λ (f : Option File). look_of (stamp_of f)) (sym same)
  where
    same : file_at new (text_at paths p) ≡ file_at old (text_at paths p)
    same = ap (λ (l : List Moment). file_at l (text_at paths p)) grows ∙ kept (text_at paths p) is more [] (grows ∙ ap (λ (l : List Moment). old ++ l) (sym (append-nil more)))

-- a start of this build stays one
pub started_more : (i stamp : ℕ) (old now new : World) (more : List Event) → new.events ≡ now.events ++ more → StartedUnder i stamp old now → StartedUnder i stamp old new
started_more i stamp old now new more grows started = record {
  act = started.act;
  before = started.before;
  after = started.after ++ more;
  splits = grows
      ∙ (ap (λ (l : List Event). l ++ more) started.splits
      ∙ (append_assoc old.events (started.before ++ Start i started.act stamp ∷ started.after) more
      ∙ ap (λ (l : List Event). old.events ++ l) (append_assoc started.before (Start i started.act stamp ∷ started.after) more)));
}

-- a path that is longer than those of both logs is neither
abbrev neither : OwnFiles → List ℕ
neither own = 0 ∷ (own.build_log ++ own.deps_log)

longer_than_both : (own : OwnFiles) → (length own.build_log < length (neither own)) × (length own.deps_log < length (neither own))
longer_than_both own = let sum = length-append own.build_log own.deps_log in (omega (arith, sum), omega (arith, sum))

not_build : (own : OwnFiles) → neither own ≢ own.build_log
not_build own same = omega (arith, (longer_than_both own).0, ap length same)

not_deps : (own : OwnFiles) → neither own ≢ own.deps_log
not_deps own same = omega (arith, (longer_than_both own).1, ap length same)

module _ (tells : Bool) (course : Course) (graph : Graph) where
  abbrev pub Carried : List Done → Option ℕ → World → Type 0
  Carried steps hand now = IsCarried tells course.behaviour course.format course.own course.asked course.store course.phases (goes_on course) steps hand course.entry now

  abbrev pub Logging : List Done → Option ℕ → World → Logs → Type 0
  Logging steps hand now logs = IsLogging tells course.behaviour course.format course.own (edges_of course) steps hand course.store course.entry now logs

  abbrev pub Quietly : List Done → World → World → Type 0
  Quietly steps now new = KeepsQuiet tells course.own (edges_of course) steps course.entry now new

  abbrev pub Leaves : World → World → Type 0
  Leaves now new = LeavesTheLogs tells course.own (edges_of course) course.entry now new

  -- a call that only looks
  pub looks_leave : (now new : World) → OnlyLooks tells now new → Leaves now new
  looks_leave now new looks = inl (record { events = looks.events; path = neither course.own; other = λ tell kept. (not_build course.own, not_deps course.own); history = (looks_at tells (neither course.own) now new looks).history })

  rest_of : (steps : List Done) (hand : Option ℕ) (now : World) → Carried steps hand now → IsRunOrRest tells course.own (task_of course.asked course.store) steps course.entry now
  rest_of steps hand now carried = rest_begins tells course.own (task_of course.asked course.store) course.entry steps now carried.run

  module _ (steps : List Done) (hand : Option ℕ) (now : World) (carried : Carried steps hand now) where
    -- what runs are commands
    pub commands_run : (job : ℕ) → runs job now.events ≡ true → IsCommand (edges_of course) job
    commands_run = command_of tells course.behaviour course.format course.own course.asked course.store course.entry steps now carried.beside.idle (rest_of steps hand now carried)

    pub run_by : RunBy (edges_of course) steps now
    run_by job is = (
      commands_run job is,
      running_of tells course.behaviour course.format course.own course.asked course.store course.entry steps now carried.beside.idle (rest_of steps hand now carried) job is,
    )

    pub stale_is_command : (i : ℕ) → has_number (out_of_date_in steps) i ≡ true → IsCommand (edges_of course) i
    stale_is_command = stale_command tells course.behaviour course.format course.own course.asked course.store course.entry steps now carried.beside.idle (rest_of steps hand now carried)

    pub well_ended : (i : ℕ) → has_number (well_in steps) i ≡ true → has_number (ended_in steps) i ≡ true
    well_ended i well = (kept_orderly (edges_of course) steps carried.run.orderly).well i well

    -- one that was not started did not end well
    pub not_well_yet : (i : ℕ) → has_number (started_in steps) i ≡ false → has_number (well_in steps) i ≡ true → ⊥
    not_well_yet i unstarted well = false≢true (sym unstarted ∙ (kept_orderly (edges_of course) steps carried.run.orderly).ended i (well_ended i well))

    -- an edge that ended well is that of a command, which does not run
    pub well_rest : WellRest (edges_of course) steps now
    well_rest i well = (
      stale_is_command i (kept.started i (kept.ended i (kept.well i well))),
      λ job runs. ((run_by job runs).0, λ same. false≢true (sym (running_parts steps job (run_by job runs).1).1 ∙ (ap (λ (n : ℕ). has_number (ended_in steps) n) same ∙ kept.well i well))),
    )
      where
        kept : IsKept (edges_of course) steps
        kept = kept_orderly (edges_of course) steps carried.run.orderly

    -- a command that ended well has ended
    pub ended_command : (i : ℕ) → has_number (well_in steps) i ≡ true → (has_number (ended_in steps) i ≡ true) × IsCommand (edges_of course) i
    ended_command i well = (well_ended i well, (well_rest i well).0)

    pub grown : IsTrue tells → (so_far : List Moment) × (now.history ≡ course.entry.history ++ so_far)
    grown tell = let told = carried.run.history tell in (told.more, told.grows)

  -- of the logs, with other steps and another edge in hand
  abbrev pub logging_with : (steps many : List Done) (hand next : Option ℕ) (now : World) (logs : Logs) → Carried many next now → Logging steps hand now logs → Logging many next now logs
  logging_with steps many hand next now logs carried logging = record {
    build_log = logging.build_log;
    deps_log = logging.deps_log;
    apart = logging.apart;
    reads = logging.reads;
    commands = logging.commands;
    grows = logging.grows;
    build_held = logging.build_held;
    deps_held = logging.deps_held;
    logged = carried.beside.logged;
  }

  -- over a call that leaves the logs
  pub logging_over : LogStays → (steps many : List Done) (hand next : Option ℕ) (now new : World) (logs : Logs) → Leaves now new → Carried many next new → Logging steps hand now logs → Logging many next new logs
  logging_over stays steps many hand next now new logs leaves carried logging =
      stays tells course.behaviour course.format course.own (edges_of course) steps many hand next course.store course.entry now new logs leaves (commands_run many next new carried) carried.beside.logged logging

  -- over a call that keeps quiet paths
  pub told_over : (steps : List Done) (state : Work) (now new : World) → Quietly steps now new → AreTold tells course graph state now → AreTold tells course graph state new
  told_over steps state now new quiet told = record { records = told.records; deps = told.deps; known = told.known; same = told.same }

  pub seen_over : (steps : List Done) (state : Work) (now new : World) → Quietly steps now new → IsSeenStill tells course graph steps state now → IsSeenStill tells course graph steps state new
  seen_over steps state now new quiet seen tell kept =
      let call = quiet tell kept in
      seen_kept (is_quiet kept.free course.own (edges_of course) steps) graph.manifest.paths state.looks.seen.items now.history new.history call.0.0 call.0.1 call.1 (seen tell (files_then course.own (edges_of course) course.entry now new call.0 kept))

  pub started_over : (steps : List Done) (state : Work) (now new : World) → new.events ≡ now.events → AreStarted course steps state now → AreStarted course steps state new
  started_over steps state now new same started e runs = started_more (suc e) _ course.entry now new [] (same ∙ sym (append-nil now.events)) (started e runs)

  -- ---- calls that start and take in nothing, over which the state stays

  module _ (stays : LogStays) (hand : Option ℕ) (state : Work) (now new : World) (on : IsOn tells course graph hand state now) where
    abbrev pub Removed : Type 0
    Removed = AreRemoved tells course.own (edges_of course) on.steps hand course.entry new

    rest : WellRest (edges_of course) on.steps now
    rest = well_rest on.steps hand now on.carried

    -- what was made anew, and what was seen of outputs before
    pub still_anew : IsMadeOnce (edges_of course) → Quietly on.steps now new → AreAnew tells course graph on.steps state new
    still_anew once quiet = anew_over tells course graph on.steps on.steps on.steps state now new quiet once (ended_command on.steps hand now on.carried) refl refl on.anew

    pub still_before : Quietly on.steps now new → AreSeenBefore tells course graph on.steps state new
    still_before quiet = before_over tells course graph on.steps on.steps on.steps state now new quiet (λ e stale unended. (stale, unended)) on.before

    abbrev pub on_over : IsMadeOnce (edges_of course) → Carried on.steps hand new → Leaves now new → Quietly on.steps now new → new.events ≡ now.events → Removed → IsOn tells course graph hand state new
    on_over once carried leaves quiet events removed = record {
      steps = on.steps;
      planned = on.planned;
      taken = on.taken;
      since = on.since;
      carried = carried;
      logging = logging_over stays on.steps on.steps hand hand now new state.records.logs leaves carried on.logging;
      told = told_over on.steps state now new quiet on.told;
      seen = seen_over on.steps state now new quiet on.seen;
      anew = still_anew once quiet;
      before = still_before quiet;
      started = started_over on.steps state now new events on.started;
      removed = removed;
      room = on.room;
      cone = on.cone;
      ticking = on.ticking;
      noted = on.noted;
    }

    -- a call that only looks
    pub looks_quiet : OnlyLooks tells now new → Quietly on.steps now new
    looks_quiet looks = quiet_looks tells course.own (edges_of course) on.steps course.entry now new (grown on.steps hand now on.carried) (run_by on.steps hand now on.carried) looks

    pub looks_carried : OnlyLooks tells now new → Carried on.steps hand new
    looks_carried looks = carried_looks tells course.behaviour course.format course.own course.asked course.store course.entry course.phases (goes_on course) on.steps hand now new looks on.carried

    pub looks_removed : OnlyLooks tells now new → Removed
    looks_removed looks = removed_looks tells course.own (edges_of course) on.steps course.entry now new (grown on.steps hand now on.carried) rest hand on.removed looks

    abbrev pub on_looks : IsMadeOnce (edges_of course) → OnlyLooks tells now new → IsOn tells course graph hand state new
    on_looks once looks = on_over once (looks_carried looks) (looks_leave now new looks) (looks_quiet looks) looks.events (looks_removed looks)

    -- a tick
    pub ticks_carried : (stamp : ℕ) → Ticks tells state.tick stamp now new → Carried on.steps hand new
    ticks_carried stamp ticks =
        carried_ticks tells course.behaviour course.format course.own course.asked course.store course.entry course.phases (goes_on course) on.steps hand now new state.tick on.ticking.owned on.ticking.no_build_log on.ticking.no_deps_log stamp ticks on.carried

    pub ticks_quiet : (stamp : ℕ) → Ticks tells state.tick stamp now new → Quietly on.steps now new
    ticks_quiet stamp ticks =
        quiet_own tells course.own (edges_of course) on.steps course.entry now new (grown on.steps hand now on.carried) (run_by on.steps hand now on.carried) state.tick on.ticking.owned (ticks_grew tells state.tick stamp now new ticks)

    pub ticks_leave : (stamp : ℕ) → Ticks tells state.tick stamp now new → Leaves now new
    ticks_leave stamp ticks = inl (record { events = ticks.events; path = state.tick; other = λ tell kept. (on.ticking.no_build_log, on.ticking.no_deps_log); history = ticks_grew tells state.tick stamp now new ticks })

    pub ticks_removed : (stamp : ℕ) → Ticks tells state.tick stamp now new → Removed
    ticks_removed stamp ticks =
        removed_own tells course.own (edges_of course) on.steps course.entry now new (grown on.steps hand now on.carried) rest hand on.removed state.tick on.ticking.owned (ticks_grew tells state.tick stamp now new ticks)

    abbrev pub on_ticks : IsMadeOnce (edges_of course) → (stamp : ℕ) → Ticks tells state.tick stamp now new → IsOn tells course graph hand state new
    on_ticks once stamp ticks = on_over once (ticks_carried stamp ticks) (ticks_leave stamp ticks) (ticks_quiet stamp ticks) ticks.events (ticks_removed stamp ticks)

    -- the response file of the edge in hand, which was judged out of date and whose command does not run, is written, or removed
    module _ (i : ℕ) (stale : has_number (out_of_date_in on.steps) i ≡ true) (rests : has_number (running_in on.steps) i ≡ false) (writes : WritesAt tells (edge_at (edges_of course) i).act.response_path now new) where
      command : IsCommand (edges_of course) i
      command = stale_is_command on.steps hand now on.carried i stale

      pub response_carried : Carried on.steps hand new
      response_carried = carried_response tells course.behaviour course.format course.own course.asked course.store course.entry course.phases (goes_on course) on.steps hand now new i stale rests writes on.carried

      pub response_quiet : Quietly on.steps now new
      response_quiet = quiet_response tells course.own (edges_of course) on.steps course.entry now new (grown on.steps hand now on.carried) (run_by on.steps hand now on.carried) i command writes.history

      pub response_leaves : Leaves now new
      response_leaves = inl (record {
        events = writes.events;
        path = (edge_at (edges_of course) i).act.response_path;
        other = λ tell kept. (
          λ same. false≢true (sym (kept.own_files.responses i command).1 ∙ (ap course.own.files same ∙ kept.own_files.build_log)),
          λ same. false≢true (sym (kept.own_files.responses i command).1 ∙ (ap course.own.files same ∙ kept.own_files.deps_log)),
        );
        history = writes.history;
      })

      pub response_removed : hand ≡ Some i → Removed
      response_removed held = removed_response tells course.own (edges_of course) on.steps course.entry now new (grown on.steps hand now on.carried) rest hand on.removed i held command writes.history

      abbrev pub on_response : IsMadeOnce (edges_of course) → hand ≡ Some i → IsOn tells course graph hand state new
      on_response once held = on_over once response_carried response_leaves response_quiet writes.events (response_removed held)

    -- the depfile of such an edge is removed, or not
    module _ (i : ℕ) (stale : has_number (out_of_date_in on.steps) i ≡ true) (rests : has_number (running_in on.steps) i ≡ false) (removes : WritesOrNot tells (edge_at (edges_of course) i).act.depfile None now new) where
      reads : IsCommand (edges_of course) i
      reads = stale_is_command on.steps hand now on.carried i stale

      pub depfile_at : WritesAt tells (edge_at (edges_of course) i).act.depfile now new
      depfile_at = writes_or_not_at tells (edge_at (edges_of course) i).act.depfile None now new removes

      pub depfile_carried : Carried on.steps hand new
      depfile_carried = carried_depfile tells course.behaviour course.format course.own course.asked course.store course.entry course.phases (goes_on course) on.steps hand now new i stale rests removes on.carried

      pub depfile_quiet : Quietly on.steps now new
      depfile_quiet = quiet_depfile tells course.own (edges_of course) on.steps course.entry now new (grown on.steps hand now on.carried) (run_by on.steps hand now on.carried) i reads depfile_at.history

      pub depfile_leaves : Leaves now new
      depfile_leaves = inl (record {
        events = depfile_at.events;
        path = (edge_at (edges_of course) i).act.depfile;
        other = λ tell kept. (
          λ same. false≢true (sym (kept.own_files.depfiles i reads).1 ∙ (ap course.own.files same ∙ kept.own_files.build_log)),
          λ same. false≢true (sym (kept.own_files.depfiles i reads).1 ∙ (ap course.own.files same ∙ kept.own_files.deps_log)),
        );
        history = depfile_at.history;
      })

      -- one that is to stay is left alone behind a good end
      abbrev pub Spares : Type 0
      Spares = has_number (well_in on.steps) i ≡ true → (edge_at (edges_of course) i).deps ≡ Unset → new ≡ now

      pub depfile_removed : hand ≡ Some i → Spares → Removed
      depfile_removed held spares = removed_depfile tells course.own (edges_of course) on.steps course.entry now new (grown on.steps hand now on.carried) rest hand on.removed i held reads spares depfile_at.history

      abbrev pub on_depfile : IsMadeOnce (edges_of course) → hand ≡ Some i → Spares → IsOn tells course graph hand state new
      on_depfile once held spares = on_over once depfile_carried depfile_leaves depfile_quiet depfile_at.events (depfile_removed held spares)

  -- ---- an edge is taken in hand

  pub hand_carried : (steps : List Done) (now : World) (i : ℕ) → Carried steps None now → Carried steps (Some i) now
  hand_carried steps now i carried = carried_hand tells course.behaviour course.format course.own course.asked course.store course.entry course.phases (goes_on course) steps now i carried

  abbrev pub on_hand : (state : Work) (now : World) (i : ℕ) → IsOn tells course graph None state now → IsOn tells course graph (Some i) state now
  on_hand state now i on = record {
    steps = on.steps;
    planned = on.planned;
    taken = on.taken;
    since = on.since;
    carried = hand_carried on.steps now i on.carried;
    logging = logging_with on.steps on.steps None (Some i) now state.records.logs (hand_carried on.steps now i on.carried) on.logging;
    told = on.told;
    seen = on.seen;
    anew = on.anew;
    before = on.before;
    started = on.started;
    removed = removed_hand tells course.own (edges_of course) on.steps course.entry now (Some i) on.removed;
    room = on.room;
    cone = on.cone;
    ticking = on.ticking;
    noted = on.noted;
  }

  -- ---- a record is put behind the log

  -- the state with other records
  abbrev pub with_records : Work → Records → Work
  with_records state records =
      record { alloc = state.alloc; graph = state.graph; cone = state.cone; plan = state.plan; looks = state.looks; records = records; display = state.display; tick = state.tick; due = state.due; starts = state.starts; failed = state.failed }

  -- what is known stays where only what may be done with the files changed
  pub known_by : (rs : List Record) (ds : List DepsRecord) (old new : Records) → AreSameLogs old.logs new.logs → new.places.items ≡ old.places.items → new.deps_places.items ≡ old.deps_places.items
      → AreKnown graph rs ds old → AreKnown graph rs ds new
  known_by rs ds old new same places deps_places known = record {
    paths = known.paths;
    more = known.more;
    grown = known.grown;
    outputs = known.outputs;
    known = record {
      keeps = subst (λ (log : Table Line). Keeps rs log) (sym same.build_log.log) known.known.keeps;
      fits = subst (λ (l : List (Option ℕ)). length l ≤ length known.paths) (sym places) known.known.fits;
      made = subst (λ (l : List (Option ℕ)). ArePlaces makings in_force rs known.paths l) (sym places) known.known.made;
    };
    told = record {
      keeps = subst (λ (log : Table Deps). KeepsDeps ds log) (sym same.deps_log.log) known.told.keeps;
      fits = subst (λ (l : List (Option ℕ)). length l ≤ length known.paths) (sym deps_places) known.told.fits;
      told = subst (λ (l : List (Option ℕ)). ArePlaces tolds deps_in_force ds known.paths l) (sym deps_places) known.told.told;
    };
  }

  pub told_by : (state : Work) (now : World) (records : Records) → AreSameLogs state.records.logs records.logs → records.places.items ≡ state.records.places.items
      → records.deps_places.items ≡ state.records.deps_places.items → AreTold tells course graph state now → AreTold tells course graph (with_records state records) now
  told_by state now records same places deps_places told =
      record { records = told.records; deps = told.deps; known = known_by told.records told.deps state.records records same places deps_places told.known; same = told.same }

  -- a log, which is one of the program's own files, was written
  module _ (hand next : Option ℕ) (state : Work) (now new : World) (on : IsOn tells course graph hand state now) (path : List ℕ) (owned : course.own.files path ≡ true) (writes : WritesAt tells path now new) where
    -- response files are as they were
    pub log_removed : AreRemoved tells course.own (edges_of course) on.steps hand course.entry new
    log_removed =
        removed_own tells course.own (edges_of course) on.steps course.entry now new (grown on.steps hand now on.carried) (well_rest on.steps hand now on.carried) hand on.removed path owned writes.history

    -- whether it stands there or not
    pub log_carried : IsLoggedStill tells course.behaviour course.format course.own (edges_of course) on.steps next course.store course.entry new → Carried on.steps next new
    log_carried logged =
        carried_log tells course.behaviour course.format course.own course.asked course.store course.entry course.phases (goes_on course) on.steps hand next now new path owned writes (λ tell kept was. logged tell kept) on.carried

    pub log_quiet : Quietly on.steps now new
    log_quiet = quiet_own tells course.own (edges_of course) on.steps course.entry now new (grown on.steps hand now on.carried) (run_by on.steps hand now on.carried) path owned writes.history

    pub log_anew : IsMadeOnce (edges_of course) → AreAnew tells course graph on.steps state new
    log_anew once = anew_over tells course graph on.steps on.steps on.steps state now new log_quiet once (ended_command on.steps hand now on.carried) refl refl on.anew

    abbrev pub on_log : IsMadeOnce (edges_of course) → (records : Records) → AreSameLogs state.records.logs records.logs → records.places.items ≡ state.records.places.items → records.deps_places.items ≡ state.records.deps_places.items
        → Logging on.steps next new records.logs → hand ≡ next → IsOn tells course graph next (with_records state records) new
    on_log once records same places deps_places logging held = record {
      steps = on.steps;
      planned = on.planned;
      taken = on.taken;
      since = on.since;
      carried = log_carried logging.logged;
      logging = logging;
      told = told_by state new records same places deps_places (told_over on.steps state now new log_quiet on.told);
      seen = seen_over on.steps state now new log_quiet on.seen;
      anew = log_anew once;
      before = before_over tells course graph on.steps on.steps on.steps state now new log_quiet (λ e stale unended. (stale, unended)) on.before;
      started = started_over on.steps state now new writes.events on.started;
      removed = subst (λ (h : Option ℕ). AreRemoved tells course.own (edges_of course) on.steps h course.entry new) held log_removed;
      room = record { looks = on.room.looks; starts = on.room.starts };
      cone = on.cone;
      ticking = on.ticking;
      noted = on.noted;
    }

  -- the path of the build log, and that of the deps log
  pub build_log_writes : (steps : List Done) (hand : Option ℕ) (now mid new : World) (logs : Logs) → Logging steps hand now logs → WritesAt tells logs.build_log.path mid new → WritesAt tells course.own.build_log mid new
  build_log_writes steps hand now mid new logs logging writes = subst (λ (path : List ℕ). WritesAt tells path mid new) logging.build_log writes

  pub deps_log_writes : (steps : List Done) (hand : Option ℕ) (now mid new : World) (logs : Logs) → Logging steps hand now logs → WritesAt tells logs.deps_log.path mid new → WritesAt tells course.own.deps_log mid new
  deps_log_writes steps hand now mid new logs logging writes = subst (λ (path : List ℕ). WritesAt tells path mid new) logging.deps_log writes

  -- ---- where a fault cuts a run off

  abbrev pub Cut : Plan → World → Type 0
  Cut plan new = IsCut tells course graph plan new

  cut_of : (steps : List Done) (hand : Option ℕ) (new : World) → Carried steps hand new → IsCutOff tells course.behaviour course.format course.own course.asked course.store course.phases steps hand course.entry new
  cut_of steps hand new carried = cut_off tells course.behaviour course.format course.own course.asked course.store course.entry course.phases (goes_on course) steps hand new carried

  -- with no edge in hand
  pub cut_free : (plan : Plan) (new : World) (steps : List Done) → IsPlanned (task_of course.asked course.store) graph plan steps → AreTaken (task_of course.asked course.store) steps → IsSince course.refused steps → Carried steps None new → Cut plan new
  cut_free plan new steps planned taken since carried = record { steps = steps; met = None; planned = planned; taken = taken; since = since; run = carried.run; cut = cut_of steps None new carried; in_hand = λ i is. nothing i is }
    where
      nothing : (i : ℕ) → None ≡ Some i → IsInHand (task_of course.asked course.store) steps i
      nothing i is = cc

  -- with the edge in hand whose start or taking in met it
  pub cut_met : (plan : Plan) (new : World) (steps : List Done) (i : ℕ) → IsInHand (task_of course.asked course.store) steps i → IsPlanned (task_of course.asked course.store) graph plan steps → AreTaken (task_of course.asked course.store) steps → IsSince course.refused steps → Carried steps (Some i) new → Cut plan new
  cut_met plan new steps i at planned taken since carried =
      record { steps = steps; met = Some i; planned = planned; taken = taken; since = since; run = carried.run; cut = cut_of steps (Some i) new carried; in_hand = λ k is. subst (λ (n : ℕ). IsInHand (task_of course.asked course.store) steps n) (same_some i k is) at }
