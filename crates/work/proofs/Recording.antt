-- The end of a command that went well is put into the log; its depfile, where that is not to stay, and its response file are
-- removed.
use Rattle.std.proofs.lemmas.List.{append-nil}
use Rattle.std.proofs.Common.{◌≡◌, ◌≢◌, inl, inr, ℕ, suc, ◌<◌, Bool, true, false, List, [], ◌∷◌, ◌++◌, length, Option, Some, None, refl, sym, ◌∙◌, ap, subst, arith}
use Rattle.model.specs.declared.graph.BuildGraph.{BuildGraph}
use Rattle.model.specs.declared.graph.Deps.{Deps}
use Rattle.model.specs.declared.graph.Deps.TheVariants.{Unset, Gcc}
use Rattle.model.specs.declared.act.Act.{Act}
use Rattle.model.specs.declared.event.Event.TheVariants.{Finish}
use Rattle.model.specs.declared.event.Moment.{Moment}
use Rattle.model.specs.declared.event.Moment.TheVariants.{Happened}
use Rattle.model.specs.World.{World, view_of, IsRunning}
use Rattle.model.specs.Calls.{Writes, WritesOrNot}
use Rattle.model.specs.Graph.{has_number, edge_at, outputs, IsCommand, IsMadeOnce}
use Rattle.model.specs.Outcome.{Behaviour, depfile_in, listed}
use Rattle.model.specs.Records.{LogFormat, OwnFiles, Store, ListsOnce}
use Rattle.model.specs.Premises.{EndedAt}
use Rattle.model.specs.Schedule.{Task, Step as Done, Ended, started_in, ended_in, running_in, out_of_date_in}
use Rattle.model.specs.SingleBuild.{task_of}
use Rattle.theory.proofs.Lists.{has_number-one}
use Rattle.theory.proofs.Looks.{kept_before}
use Rattle.theory.proofs.Orderly.{IsKept, kept_orderly}
use Rattle.theory.proofs.Steps.{ended-append, in_right}
use Rattle.theory.proofs.Starting.{OthersRun}
use Rattle.theory.specs.Ledger.{HoldsStill}
use Rattle.theory.specs.Writes.{WritesAt}
use Rattle.theory.proofs.Alone.{rests_ended}
use Rattle.theory.proofs.Growing.{longer}
use Rattle.theory.proofs.Ledger.{carried_depfile, carried_response}
use Rattle.graph.specs.declared.graph.Graph.{Graph}
use Rattle.graph.specs.Told.{declared_by}
use Rattle.records.specs.declared.records.Records.{Records}
use Rattle.records.specs.Logging.{AreSameLogs, IsLogging, IsLoggedStill, IsReported, MayReport, EndedWell}
use Rattle.records.specs.Laws.{LogStays}
use Rattle.work.specs.Shown.{Showing}
use Rattle.work.specs.declared.reported.Told.{Told}
use Rattle.work.specs.declared.reported.Told.TheVariants.{Nothing, Inputs, Refused}
use Rattle.work.specs.declared.state.Work.{Work}
use Rattle.work.specs.Course.{Course, goes_on, Suits, edges_of, IsOn}
use Rattle.work.specs.Going.{IsCut, IsInHand}
use Rattle.work.specs.Starting.{IsTakenIn, MayBeDone}
use Rattle.work.specs.Telling.{HasTold, WentWell}
use Rattle.work.proofs.Keeping.{Carried, Logging, with_records, on_log, log_carried, build_log_writes, deps_log_writes, logging_with, logging_over, hand_carried, grown, well_rest, started_more, depfile_leaves, on_depfile, response_leaves, on_response, cut_free, cut_met}
use Rattle.work.proofs.Removed.{is_removed, removed_last}
use Rattle.work.proofs.Running.{cone_within}

-- ---- the display shows something

abbrev pub with_display : Work → Showing → Work
with_display state display =
    record { alloc = state.alloc; graph = state.graph; cone = state.cone; plan = state.plan; looks = state.looks; records = state.records; display = display; tick = state.tick; due = state.due; starts = state.starts; failed = state.failed }

abbrev pub on_shown : (tells : Bool) (course : Course) (graph : Graph) (hand : Option ℕ) (state : Work) (display : Showing) (now : World) → IsOn tells course graph hand state now → IsOn tells course graph hand (with_display state display) now
on_shown tells course graph hand state display now on = record {
  steps = on.steps;
  planned = on.planned;
  taken = on.taken;
  since = on.since;
  carried = on.carried;
  logging = on.logging;
  told = record { records = on.told.records; deps = on.told.deps; known = on.told.known; same = on.told.same };
  seen = on.seen;
  anew = on.anew;
  before = on.before;
  started = on.started;
  removed = on.removed;
  room = record { looks = on.room.looks; starts = on.room.starts };
  cone = on.cone;
  ticking = on.ticking;
  noted = on.noted;
}

-- ---- a command that ended well, by the last of the steps

-- the history grew, and the moment of its end is the same
ended_more : (i : ℕ) (old now new more at : List Moment) → new ≡ now ++ more → EndedAt i old now at → EndedAt i old new at
ended_more i old now new more at grows ended =
    record { before = ended.before; after = ended.after ++ more; is = ended.is; splits = longer old ended.before (Happened (Finish i true)) ended.after more now new grows ended.splits }

module _ (tells : Bool) (course : Course) (graph : Graph) (suits : Suits course graph) (state : Work) (now : World) (e : ℕ) (on : IsOn tells course graph (Some (suc e)) state now) (before : List Done) (last : on.steps ≡ before ++ Ended (suc e) true ∷ []) where
  abbrev task : Task
  task = task_of course.asked course.store

  kept : IsKept (edges_of course) on.steps
  kept = kept_orderly (edges_of course) on.steps on.carried.run.orderly

  ended : has_number (ended_in on.steps) (suc e) ≡ true
  ended = ap (λ (l : List Done). has_number (ended_in l) (suc e)) last ∙ in_right ended_in ended-append before (Ended (suc e) true ∷ []) (suc e) (has_number-one (suc e))

  pub started_here : has_number (started_in on.steps) (suc e) ≡ true
  started_here = kept.ended (suc e) ended

  pub stale : has_number (out_of_date_in on.steps) (suc e) ≡ true
  stale = kept.started (suc e) started_here

  pub command_here : IsCommand (edges_of course) (suc e)
  command_here = kept.judged (suc e) (kept.out_of_date (suc e) stale)

  pub in_hand : IsInHand task on.steps (suc e)
  in_hand = record { under_way = inl (before, true, last); stale = stale; taken_in = inr ended }

  pub within_here : e < length graph.manifest.lines
  within_here = cone_within task graph state.plan on.steps on.planned e (on.taken.within (suc e) (kept.out_of_date (suc e) stale))

  -- a fault behind a call that wrote one of the logs, or before one
  pub cut_in_hand : IsCut tells course graph state.plan now
  cut_in_hand = cut_met tells course graph state.plan now on.steps (suc e) in_hand on.planned on.taken on.since on.carried

  -- the logs over the edges that the graph declares
  pub logging_declared : IsLogging tells course.behaviour course.format course.own (declared_by graph).edges on.steps (Some (suc e)) course.store course.entry now state.records.logs
  logging_declared = subst (λ (g : BuildGraph). IsLogging tells course.behaviour course.format course.own g.edges on.steps (Some (suc e)) course.store course.entry now state.records.logs) suits.same on.logging

  pub cut_logging : (path : List ℕ) → course.own.files path ≡ true → (new : World) → WritesAt tells path now new
      → IsLoggedStill tells course.behaviour course.format course.own (declared_by graph).edges on.steps (Some (suc e)) course.store course.entry new → IsCut tells course graph state.plan new
  cut_logging path owned new writes logged = cut_met tells course graph state.plan new on.steps (suc e) in_hand on.planned on.taken on.since
      (log_carried tells course graph (Some (suc e)) (Some (suc e)) state now new on path owned writes
      (subst (λ (g : BuildGraph). IsLoggedStill tells course.behaviour course.format course.own g.edges on.steps (Some (suc e)) course.store course.entry new) (sym suits.same) logged))

-- ---- a command that was taken in, and ended well

module _ (tells : Bool) (course : Course) (graph : Graph) (suits : Suits course graph) (state : Work) (now : World) (e stamp : ℕ) (ok : Bool) (went : ok ≡ true) (told : Told) (any : IsTakenIn tells course graph (suc e) stamp ok told state now) where
  abbrev pub taken : IsTakenIn tells course graph (suc e) stamp true told state now
  taken = subst (λ (b : Bool). IsTakenIn tells course graph (suc e) stamp b told state now) went any

  -- the stamp that is noted for it
  pub taken_under : (start : ℕ) → start ≡ stamp → IsTakenIn tells course graph (suc e) start true told state now
  taken_under start is = subst (λ (n : ℕ). IsTakenIn tells course graph (suc e) n true told state now) (sym is) taken

  command_taken : IsCommand (edges_of course) (suc e)
  command_taken = command_here tells course graph suits state now e taken.on taken.before taken.last

  -- ---- what may be asked of the log

  pub taken_command : IsCommand (declared_by graph).edges (suc e)
  taken_command = subst (λ (g : BuildGraph). IsCommand g.edges (suc e)) suits.same command_taken

  pub taken_some : outputs (edge_at (declared_by graph).edges (suc e)) ≢ []
  taken_some = subst (λ (g : BuildGraph). outputs (edge_at g.edges (suc e)) ≢ []) suits.same (suits.some (suc e) command_taken)

  pub taken_once : IsMadeOnce (declared_by graph).edges
  taken_once = subst (λ (g : BuildGraph). IsMadeOnce g.edges) suits.same suits.once

  pub taken_within : e < length graph.manifest.lines
  taken_within = within_here tells course graph suits state now e taken.on taken.before taken.last

  pub taken_stamped : e < length state.starts.items
  taken_stamped = let lt = taken_within in let fits = taken.on.room.starts in omega (arith, lt, fits)

-- ---- what it told is reported

module _ (tells : Bool) (course : Course) (graph : Graph) (suits : Suits course graph) (state : Work) (now : World) (e stamp : ℕ) (told : Told) (taken : IsTakenIn tells course graph (suc e) stamp true told state now) where
  abbrev i : ℕ
  i = suc e

  abbrev went : WentWell tells course taken.on.steps i stamp told now
  went = taken.well refl

  -- before it was
  pub cut_telling : IsCut tells course graph state.plan now
  cut_telling = cut_in_hand tells course graph suits state now e taken.on taken.before taken.last

  -- a command without a depfile told nothing
  pub tells_nothing : ((paths : List (List ℕ)) → told ≡ Inputs paths → ⊥) → MayBeDone tells course graph i stamp state now
  tells_nothing other = record {
    on = taken.on;
    before = taken.before;
    last = taken.last;
    well = record { well = went.well; started = went.started; ended = went.ended; told = λ named. absurd (named (unnamed told other went.told)) };
  }
    where
      unnamed : (told : Told) → ((paths : List (List ℕ)) → told ≡ Inputs paths → ⊥) → HasTold tells course i told now → (edge_at (edges_of course) i).act.depfile ≡ []
      unnamed Nothing other so = so
      unnamed (Inputs paths) other so = absurd (other paths refl)
      unnamed (Refused fault) other so = absurd so

  module _ (paths : List (List ℕ)) (is : told ≡ Inputs paths) where
    has_paths : HasTold tells course i (Inputs paths) now
    has_paths = subst (λ (t : Told). HasTold tells course i t now) is went.told

    pub may_report : MayReport tells course.format course.own (declared_by graph).edges taken.on.steps i stamp course.entry now
    may_report = subst (λ (g : BuildGraph). MayReport tells course.format course.own g.edges taken.on.steps i stamp course.entry now) suits.same
        (record { depfile = has_paths.0; started = started_here tells course graph suits state now e taken.on taken.before taken.last; under = went.started; none = went.none })

    module _ (new : World) (writes : WritesAt tells state.records.logs.deps_log.path now new) where
      log_writes : WritesAt tells course.own.deps_log now new
      log_writes = deps_log_writes tells course graph taken.on.steps (Some i) now now new state.records.logs taken.on.logging writes

      pub cut_reporting : ((B : Behaviour) (format : LogFormat) (own : OwnFiles) (steps : List Done) (entry : Store) (first : World) → MayReport tells format own (declared_by graph).edges steps i stamp first now
          → IsLogging tells B format own (declared_by graph).edges steps (Some i) entry first now state.records.logs → IsLoggedStill tells B format own (declared_by graph).edges steps (Some i) entry first new)
          → IsCut tells course graph state.plan new
      cut_reporting err = cut_logging tells course graph suits state now e taken.on taken.before taken.last course.own.deps_log suits.deps_owned new log_writes
          (err course.behaviour course.format course.own taken.on.steps course.store course.entry may_report (logging_declared tells course graph suits state now e taken.on taken.before taken.last))

      pub reported : (records : Records) → AreSameLogs state.records.logs records.logs → records.places.items ≡ state.records.places.items → records.deps_places.items ≡ state.records.deps_places.items
          → (texts : List (List ℕ)) → texts ≡ paths
          → ((B : Behaviour) (format : LogFormat) (own : OwnFiles) (steps : List Done) (entry : Store) (first : World) → MayReport tells format own (declared_by graph).edges steps i stamp first now
          → IsLogging tells B format own (declared_by graph).edges steps (Some i) entry first now state.records.logs
          → IsLogging tells B format own (declared_by graph).edges steps (Some i) entry first new records.logs × IsReported tells format own (declared_by graph).edges i stamp texts first new)
          → MayBeDone tells course graph i stamp (with_records tells course graph state records) new
      reported records same places deps_places texts texts_are ok =
          let both = ok course.behaviour course.format course.own taken.on.steps course.store course.entry may_report (logging_declared tells course graph suits state now e taken.on taken.before taken.last) in
          let there = subst (λ (g : BuildGraph). IsReported tells course.format course.own g.edges i stamp texts course.entry new) (sym suits.same) both.1 in
          record {
            on = on_log tells course graph (Some i) (Some i) state now new taken.on course.own.deps_log suits.deps_owned log_writes suits.once records same places deps_places
                (subst (λ (g : BuildGraph). IsLogging tells course.behaviour course.format course.own g.edges taken.on.steps (Some i) course.store course.entry new records.logs) (sym suits.same) both.0) refl;
            before = taken.before;
            last = taken.last;
            well = record {
              well = went.well;
              started = started_more i stamp course.entry now new [] (writes.events ∙ sym (append-nil now.events)) went.started;
              ended = λ tell. let grew = writes.history tell in ((went.ended tell).0, ended_more i course.entry.history now.history new.history grew.more (went.ended tell).0 grew.grows (went.ended tell).1);
              told = λ named tell files o makes.
                  let grew = writes.history tell in (
                    record { start = stamp; paths = texts },
                    there tell files o makes,
                    refl,
                    subst (λ (ps : List (List ℕ)). ListsOnce ps (listed (depfile_in course.behaviour (edge_at (edges_of course) i).act (view_of (went.ended tell).0)))) (sym texts_are)
                        (has_paths.1 tell (kept_before course.own (edges_of course) course.entry.history now.history new.history grew.more grew.grows files) (went.ended tell).0 (went.ended tell).1),
                  );
            };
          }

-- ---- that it is done is recorded

module _ (tells : Bool) (course : Course) (graph : Graph) (suits : Suits course graph) (state : Work) (now : World) (e stamp : ℕ) (done : MayBeDone tells course graph (suc e) stamp state now)
    (mid : World) (writes : WritesAt tells state.records.logs.build_log.path now mid) (start : ℕ) (start_is : start ≡ stamp) where
  abbrev job : ℕ
  job = suc e

  abbrev steps : List Done
  steps = done.on.steps

  pub done_writes : WritesAt tells course.own.build_log now mid
  done_writes = build_log_writes tells course graph steps (Some job) now now mid state.records.logs done.on.logging writes

  ended_well : EndedWell tells course.behaviour course.format course.own (declared_by graph).edges steps job start course.entry now
  ended_well = subst (λ (g : BuildGraph). EndedWell tells course.behaviour course.format course.own g.edges steps job start course.entry now) suits.same
      (subst (λ (n : ℕ). EndedWell tells course.behaviour course.format course.own (edges_of course) steps job n course.entry now) (sym start_is) done.well)

  logging_told : IsLogging tells course.behaviour course.format course.own (declared_by graph).edges steps (Some job) course.store course.entry now state.records.logs
  logging_told = logging_declared tells course graph suits state now e done.on done.before done.last

  pub stale_here : has_number (out_of_date_in steps) job ≡ true
  stale_here = stale tells course graph suits state now e done.on done.before done.last

  -- it may stand there or not
  pub cut_recording : ((B : Behaviour) (format : LogFormat) (own : OwnFiles) (steps : List Done) (entry : Store) (first : World) → EndedWell tells B format own (declared_by graph).edges steps job start first now
      → IsLogging tells B format own (declared_by graph).edges steps (Some job) entry first now state.records.logs → IsLoggedStill tells B format own (declared_by graph).edges steps (Some job) entry first mid)
      → IsCut tells course graph state.plan mid
  cut_recording err = cut_logging tells course graph suits state now e done.on done.before done.last course.own.build_log suits.log_owned mid done_writes
      (err course.behaviour course.format course.own steps course.store course.entry ended_well logging_told)

  -- it stands there
  module _ (records : Records) (same : AreSameLogs state.records.logs records.logs) (places : records.places.items ≡ state.records.places.items) (deps_places : records.deps_places.items ≡ state.records.deps_places.items)
      (all : (B : Behaviour) (format : LogFormat) (own : OwnFiles) (steps : List Done) (entry : Store) (first : World) → EndedWell tells B format own (declared_by graph).edges steps job start first now
      → IsLogging tells B format own (declared_by graph).edges steps (Some job) entry first now state.records.logs → IsLogging tells B format own (declared_by graph).edges steps None entry first mid records.logs)
      (stays : LogStays) (act : Act) (act_is : act ≡ (edge_at (declared_by graph).edges job).act) (deps : Deps) (deps_is : deps ≡ (edge_at (declared_by graph).edges job).deps)
      (gone : World) (clears : WritesOrNot tells act.depfile None mid gone) (spares : deps ≢ Gcc → gone ≡ mid) where
    abbrev After : Work
    After = with_records tells course graph state records

    pub logging_then : Logging tells course graph steps None mid records.logs
    logging_then = subst (λ (g : BuildGraph). IsLogging tells course.behaviour course.format course.own g.edges steps None course.store course.entry mid records.logs) (sym suits.same)
        (all course.behaviour course.format course.own steps course.store course.entry ended_well logging_told)

    pub carried_then : Carried tells course graph steps None mid
    carried_then = log_carried tells course graph (Some job) None state now mid done.on course.own.build_log suits.log_owned done_writes logging_then.logged

    pub act_here : act ≡ (edge_at (edges_of course) job).act
    act_here = act_is ∙ ap (λ (g : BuildGraph). (edge_at g.edges job).act) (sym suits.same)

    pub deps_here : deps ≡ (edge_at (edges_of course) job).deps
    deps_here = deps_is ∙ ap (λ (g : BuildGraph). (edge_at g.edges job).deps) (sym suits.same)

    pub clears_it : WritesOrNot tells (edge_at (edges_of course) job).act.depfile None mid gone
    clears_it = subst (λ (a : Act). WritesOrNot tells a.depfile None mid gone) act_here clears

    -- without `deps` its depfile stays
    pub spares_it : (edge_at (edges_of course) job).deps ≡ Unset → gone ≡ mid
    spares_it unset = spares (λ gcc. unset_no_gcc (sym unset ∙ (sym deps_here ∙ gcc)))
      where
        unset_no_gcc : Unset ≡ Gcc → ⊥
        unset_no_gcc is = cc

    -- its command has ended
    pub rests : has_number (running_in steps) job ≡ false
    rests = rests_ended steps job (ended tells course graph suits state now e done.on done.before done.last)

    -- it is in hand until its response file is removed
    abbrev recorded : IsOn tells course graph (Some job) After mid
    recorded = on_log tells course graph (Some job) (Some job) state now mid done.on course.own.build_log suits.log_owned done_writes suits.once records same places deps_places
        (logging_with tells course graph steps steps None (Some job) mid records.logs (hand_carried tells course graph steps mid job carried_then) logging_then) refl

    abbrev cleared : IsOn tells course graph (Some job) After gone
    cleared = on_depfile tells course graph stays (Some job) After mid gone recorded job stale_here rests clears_it suits.once refl (λ well. spares_it)

    pub carried_gone : Carried tells course graph steps None gone
    carried_gone = carried_depfile tells course.behaviour course.format course.own course.asked course.store course.entry course.phases (goes_on course) steps None mid gone job stale_here rests clears_it carried_then

    pub logging_gone : Logging tells course graph steps None gone records.logs
    logging_gone = logging_over tells course graph stays steps steps None None mid gone records.logs (depfile_leaves tells course graph stays (Some job) After mid gone recorded job stale_here rests clears_it) carried_gone logging_then

    -- its depfile could not be removed
    pub cut_clearing : IsCut tells course graph state.plan gone
    cut_clearing = cut_free tells course graph state.plan gone steps done.on.planned done.on.taken done.on.since carried_gone

    module _ (new : World) (removes : WritesAt tells act.response_path gone new) where
      pub removes_it : WritesAt tells (edge_at (edges_of course) job).act.response_path gone new
      removes_it = subst (λ (a : Act). WritesAt tells a.response_path gone new) act_here removes

      abbrev held : IsOn tells course graph (Some job) After new
      held = on_response tells course graph stays (Some job) After gone new cleared job stale_here rests removes_it suits.once refl

      pub carried_new : Carried tells course graph steps None new
      carried_new = carried_response tells course.behaviour course.format course.own course.asked course.store course.entry course.phases (goes_on course) steps None gone new job stale_here rests removes_it carried_gone

      -- with `deps = gcc` its depfile is gone
      pub depfile_gone : (deps ≡ Gcc → act.depfile ≢ [] → Writes tells act.depfile None mid gone) → (edge_at (edges_of course) job).deps ≡ Gcc → (edge_at (edges_of course) job).act.depfile ≢ []
          → HoldsStill tells course.own (edges_of course) (edge_at (edges_of course) job).act.depfile None course.entry gone
      depfile_gone removes_depfile gcc named = is_removed tells course.own (edges_of course) course.entry mid gone (grown tells course graph steps None mid carried_then) job own_rest.0 own_rest.1
          (edge_at (edges_of course) job).act.depfile (record { named = named; is = inl refl })
          (subst (λ (a : Act). a.depfile ≢ [] → Writes tells a.depfile None mid gone) act_here (removes_depfile (deps_here ∙ gcc)) named)
        where
          own_rest : IsCommand (edges_of course) job × OthersRun (edges_of course) job (IsRunning mid.events)
          own_rest = well_rest tells course graph steps None mid carried_then job done.well.well

      abbrev pub removed : (deps ≡ Gcc → act.depfile ≢ [] → Writes tells act.depfile None mid gone) → (act.response_path ≢ [] → Writes tells act.response_path None gone new) → IsOn tells course graph None After new
      removed removes_depfile writes_it = record {
        steps = steps;
        planned = done.on.planned;
        taken = done.on.taken;
        since = done.on.since;
        carried = carried_new;
        logging = logging_over tells course graph stays steps steps None None gone new records.logs (response_leaves tells course graph stays (Some job) After gone new cleared job stale_here rests removes_it) carried_new logging_gone;
        told = held.told;
        seen = held.seen;
        anew = held.anew;
        before = held.before;
        started = held.started;
        removed = removed_last tells course.own (edges_of course) steps course.entry gone new (grown tells course graph steps None gone carried_gone) (well_rest tells course graph steps None gone carried_gone)
            (Some job) cleared.removed job refl (command_here tells course graph suits state now e done.on done.before done.last) (depfile_gone removes_depfile)
            (subst (λ (a : Act). a.response_path ≢ [] → Writes tells a.response_path None gone new) act_here writes_it) removes_it.history;
        room = held.room;
        cone = held.cone;
        ticking = held.ticking;
        noted = held.noted;
      }

      pub cut_removing : IsCut tells course graph state.plan new
      cut_removing = cut_free tells course graph state.plan new steps done.on.planned done.on.taken done.on.since carried_new
