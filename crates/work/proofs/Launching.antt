-- The command of an edge in hand is started.
use Rattle.std.proofs.Common.{◌≡◌, ◌≢◌, ◌⊎◌, inl, inr, ℕ, suc, ◌&&◌, not, Vec, Global, Bool, true, false, IsTrue, List, [], ◌∷◌, ◌++◌, length, get_or, slice_set, Option, Some, None, refl, sym, ◌∙◌, ap, subst}
use Rattle.std.proofs.lemmas.List.{append-nil, length-set, get_or-set_other}
use Rattle.std.proofs.lemmas.Bool.{false≢true}
use Rattle.model.specs.declared.act.Act.{Act}
use Rattle.model.specs.declared.event.Event.TheVariants.{Start, Finish}
use Rattle.model.specs.World.{World, IsRunning}
use Rattle.model.specs.Calls.{Starts, Ticks, Writes, WritesOrNot}
use Rattle.model.specs.Graph.{has_number, edge_at, IsCommand, IsMadeOnce}
use Rattle.model.specs.Premises.{OwnFilesApart, LiesIn}
use Rattle.model.specs.Schedule.{Step as Done, Started, IsLawfulStep, started_in, ended_in, out_of_date_in, running_in, well_in, failed_in}
use Rattle.model.specs.Phases.{NoLoadIsDue}
use Rattle.model.specs.SingleBuild.{task_of}
use Rattle.model.specs.Kept.{StartedUnder}
use Rattle.theory.proofs.Orderly.{IsKept, kept_orderly}
use Rattle.theory.proofs.Steps.{running_is, running_parts, started-append, ended-append, out_of_date-append, well-append, failed-append, in_left, in_either}
use Rattle.theory.proofs.Lists.{has_number-is}
use Rattle.theory.specs.Writes.{GrewAt, WritesAt}
use Rattle.theory.specs.Ledger.{HasNoRecord, HoldsStill, IsReadyToStart}
use Rattle.theory.proofs.Starting.{IsPrivate}
use Rattle.theory.proofs.Alone.{rests_unstarted}
use Rattle.theory.proofs.Readying.{tick_given, holds_written, holds_over_own, depfile_over_response, no_record_apart}
use Rattle.theory.proofs.Writing.{ticks_grew}
use Rattle.theory.proofs.Ledger.{carried_starts, started_under}
use Rattle.graph.specs.declared.graph.Graph.{Graph}
use Rattle.paths.specs.Told.{text_at}
use Rattle.plan.specs.Flags as flags
use Rattle.plan.specs.declared.plan.Plan.{Plan}
use Rattle.plan.specs.Planned.{IsPlanned, AreTaken, TakesStep}
use Rattle.records.specs.Laws.{LogStays}
use Rattle.work.specs.declared.state.Work.{Work}
use Rattle.work.specs.Course.{Course, goes_on, Suits, edges_of, AreAnew, AreSeenBefore, AreStarted, IsSeenStill, IsOn}
use Rattle.work.specs.Removing.{AreRemoved}
use Rattle.work.proofs.Quiet.{RunBy, quiet_adds, quiet_less, running_started}
use Rattle.work.proofs.Onward.{taken_started, since_goes}
use Rattle.work.proofs.Keeping.{Carried, Quietly, run_by, grown, well_rest, ended_command, not_well_yet, stale_is_command, response_carried, depfile_at, on_depfile, logging_over, told_over, seen_over, started_more}
use Rattle.work.proofs.Anew.{anew_over, before_over}
use Rattle.work.proofs.Removed.{stay_adds, removed_adds}

-- ---- steps

-- a start ends nothing
pub well_started : (steps : List Done) (i : ℕ) → well_in (steps ++ Started i ∷ []) ≡ well_in steps
well_started steps i = well-append steps (Started i ∷ []) ∙ append-nil (well_in steps)

pub failed_started : (steps : List Done) (i : ℕ) → failed_in (steps ++ Started i ∷ []) ≡ failed_in steps
failed_started steps i = failed-append steps (Started i ∷ []) ∙ append-nil (failed_in steps)

pub ended_started : (steps : List Done) (i : ℕ) → ended_in (steps ++ Started i ∷ []) ≡ ended_in steps
ended_started steps i = ended-append steps (Started i ∷ []) ∙ append-nil (ended_in steps)

pub stale_started : (steps : List Done) (i : ℕ) → out_of_date_in (steps ++ Started i ∷ []) ≡ out_of_date_in steps
stale_started steps i = out_of_date-append steps (Started i ∷ []) ∙ append-nil (out_of_date_in steps)

-- what runs after a start is that command, or ran before
pub started_or_ran : (steps : List Done) (i j : ℕ) → has_number (running_in (steps ++ Started i ∷ [])) j ≡ true → (i ≡ j) ⊎ (has_number (running_in steps) j ≡ true)
started_or_ran steps i j runs = elim (in_either started_in started-append steps (Started i ∷ []) j parts.0) [
  | inl before ↦ inr (running_is steps j ∙ both (has_number (started_in steps) j) (has_number (ended_in steps) j) before (ap (λ (l : List ℕ). has_number l j) (sym (append-nil (ended_in steps)) ∙ sym (ended-append steps (Started i ∷ []))) ∙ parts.1))
  | inr here ↦ inl (has_number-is i j here)
]
  where
    parts : (has_number (started_in (steps ++ Started i ∷ [])) j ≡ true) × (has_number (ended_in (steps ++ Started i ∷ [])) j ≡ false)
    parts = running_parts (steps ++ Started i ∷ []) j runs

    both : (s e : Bool) → s ≡ true → e ≡ false → (s && not e) ≡ true
    both true false started unended = refl
    both true true started ended = absurd (false≢true (sym ended))
    both false e none unended = absurd (false≢true none)

module _ (tells : Bool) (course : Course) (graph : Graph) where
  -- ---- the stamp of the start is noted

  -- the state with other stamps, and with another plan
  abbrev pub with_starts : Work → Vec ℕ Global → Work
  with_starts state starts =
      record { alloc = state.alloc; graph = state.graph; cone = state.cone; plan = state.plan; looks = state.looks; records = state.records; display = state.display; tick = state.tick; due = state.due; starts = starts; failed = state.failed }

  abbrev pub with_plan : Work → Plan → Work
  with_plan state plan =
      record { alloc = state.alloc; graph = state.graph; cone = state.cone; plan = plan; looks = state.looks; records = state.records; display = state.display; tick = state.tick; due = state.due; starts = state.starts; failed = state.failed }

  module _ (hand : Option ℕ) (state : Work) (now : World) (e stamp : ℕ) (starts : Vec ℕ Global) (is : starts.items ≡ slice_set state.starts.items e stamp) (on : IsOn tells course graph hand state now) (unstarted : has_number (started_in on.steps) (suc e) ≡ false) where
    pub stamped_started : AreStarted course on.steps (with_starts state starts) now
    stamped_started k runs = subst (λ (n : ℕ). StartedUnder (suc k) n course.entry now) (sym same) (on.started k runs)
      where
        other : k ≢ e
        other here = false≢true (sym unstarted ∙ (ap (λ (n : ℕ). has_number (started_in on.steps) (suc n)) (sym here) ∙ (running_parts on.steps (suc k) runs).0))

        same : get_or starts.items k 0 ≡ get_or state.starts.items k 0
        same = ap (λ (l : List ℕ). get_or l k 0) is ∙ get_or-set_other state.starts.items e k stamp 0 other

    abbrev pub on_stamped : IsOn tells course graph hand (with_starts state starts) now
    on_stamped = record {
      steps = on.steps;
      planned = on.planned;
      taken = on.taken;
      since = on.since;
      carried = on.carried;
      logging = on.logging;
      told = record { records = on.told.records; deps = on.told.deps; known = on.told.known; same = on.told.same };
      seen = on.seen;
      anew = on.anew;
      before = on.before;
      started = stamped_started;
      removed = on.removed;
      room = record { looks = on.room.looks; starts = ap length is ∙ (length-set state.starts.items e stamp ∙ on.room.starts) };
      cone = on.cone;
      ticking = on.ticking;
      noted = on.noted;
    }

  -- ---- the start

  module _ (stays : LogStays) (state : Work) (now new : World) (e : ℕ) (act : Act) (plan : Plan) (on : IsOn tells course graph (Some (suc e)) state now) (next : IsLawfulStep (task_of course.asked course.store) on.steps (Started (suc e)))
      (goes : goes_on course ≡ true) (unloaded : NoLoadIsDue (task_of course.asked course.store) on.steps) (is : act ≡ (edge_at (edges_of course) (suc e)).act) (ready : IsReadyToStart tells course.format course.own (edges_of course) (suc e) course.entry now) (starts : Starts tells (suc e) act now new) (once : IsMadeOnce (edges_of course)) where
    abbrev pub more : List Done
    more = on.steps ++ Started (suc e) ∷ []

    pub start_carried : Carried tells course graph more None new
    start_carried = carried_starts tells course.behaviour course.format course.own course.asked course.store course.entry course.phases (goes_on course) on.steps now new (suc e) act goes next unloaded is ready starts on.carried

    pub start_quiet : Quietly tells course graph more now new
    start_quiet = quiet_adds tells course.own (edges_of course) more course.entry now new (grown tells course graph on.steps (Some (suc e)) now on.carried) ran (run_by tells course graph more None new start_carried) (Start (suc e) act now.ticked) starts.history
      where
        ran : RunBy (edges_of course) more now
        ran job runs =
            let by = run_by tells course graph on.steps (Some (suc e)) now on.carried job runs in
            (by.0, running_started on.steps (suc e) job by.1)

    pub start_seen : IsSeenStill tells course graph more state new
    start_seen = seen_over tells course graph more state now new start_quiet
        (λ tell kept p asked quiet. on.seen tell kept p asked (quiet_less kept.free course.own (edges_of course) on.steps more (λ i. running_started on.steps (suc e) i) (text_at graph.manifest.paths p) quiet))

    pub start_started : get_or state.starts.items e 0 ≡ now.ticked → AreStarted course more state new
    start_started stamped k runs = elim (started_or_ran on.steps (suc e) (suc k) runs) [
      | inl here ↦
          let same : e ≡ k = cc in
          subst (λ (n : ℕ). StartedUnder (suc n) (get_or state.starts.items n 0) course.entry new) same
          (subst (λ (n : ℕ). StartedUnder (suc e) n course.entry new) (sym stamped) under)
      | inr before ↦ started_more (suc k) (get_or state.starts.items k 0) course.entry now new (Start (suc e) act now.ticked ∷ []) starts.events (on.started k before)
    ]
      where
        under : StartedUnder (suc e) now.ticked course.entry new
        under = started_under tells course.behaviour course.format course.own course.asked course.store course.entry course.phases (goes_on course) on.steps (Some (suc e)) now new (suc e) act starts on.carried

    pub start_anew : AreAnew tells course graph more state new
    start_anew = anew_over tells course graph on.steps more more state now new start_quiet once (λ j well.
        let was = ended_command tells course graph on.steps (Some (suc e)) now on.carried j well in
        (in_left ended_in ended-append on.steps (Started (suc e) ∷ []) j was.0, was.1))
        (well_started on.steps (suc e)) (failed_started on.steps (suc e)) on.anew

    pub start_before : AreSeenBefore tells course graph more state new
    start_before = before_over tells course graph on.steps more more state now new start_quiet
        (λ j stale unended. (ap (λ (l : List ℕ). has_number l j) (sym (stale_started on.steps (suc e))) ∙ stale, ap (λ (l : List ℕ). has_number l j) (sym (ended_started on.steps (suc e))) ∙ unended)) on.before

    pub start_removed : AreRemoved tells course.own (edges_of course) more None course.entry new
    start_removed = removed_adds tells course.own (edges_of course) on.steps course.entry now new (grown tells course graph on.steps (Some (suc e)) now on.carried) (well_rest tells course graph on.steps (Some (suc e)) now on.carried)
        (Some (suc e)) on.removed more None (well_rest tells course graph more None new start_carried) (Start (suc e) act now.ticked) starts.history before
        (λ i well unset named two. stay_adds tells course.own (edges_of course) on.steps course.entry now new (grown tells course graph on.steps (Some (suc e)) now on.carried) (well_rest tells course graph on.steps (Some (suc e)) now on.carried)
        (Some (suc e)) on.removed more None (well_rest tells course graph more None new start_carried) (Start (suc e) act now.ticked) starts.history i (was i well) well (no_finish i) unset named two)
      where
        was : (i : ℕ) → has_number (well_in more) i ≡ true → has_number (well_in on.steps) i ≡ true
        was i well = ap (λ (l : List ℕ). has_number l i) (sym (well_started on.steps (suc e))) ∙ well

        no_finish : (i : ℕ) → Start (suc e) act now.ticked ≡ Finish i true → ⊥
        no_finish i is = cc

        kept : IsKept (edges_of course) on.steps
        kept = kept_orderly (edges_of course) on.steps on.carried.run.orderly

        before : (i : ℕ) → has_number (well_in more) i ≡ true → (None ≡ Some i → ⊥) → (has_number (well_in on.steps) i ≡ true) × (Some (suc e) ≡ Some i → ⊥)
        before i well free = (
          was i well,
          λ same.
              let here : suc e ≡ i = cc in
              false≢true (sym next.1.once ∙ (ap (λ (n : ℕ). has_number (started_in on.steps) n) here ∙ kept.ended i (kept.well i (was i well)))),
        )

    pub start_planned : TakesStep graph state.plan plan (Started (suc e)) → IsPlanned (task_of course.asked course.store) graph plan more
    start_planned takes = takes (task_of course.asked course.store) on.steps on.planned on.taken next

    pub start_taken : AreTaken (task_of course.asked course.store) more
    start_taken = taken_started (task_of course.asked course.store) on.steps on.taken (suc e) next

    abbrev pub on_starts : TakesStep graph state.plan plan (Started (suc e)) → plan.changed ≡ state.plan.changed → get_or state.starts.items e 0 ≡ now.ticked → IsOn tells course graph None (with_plan state plan) new
    on_starts takes flags_same stamped = record {
      steps = more;
      planned = start_planned takes;
      taken = start_taken;
      since = since_goes course.refused goes more;
      carried = start_carried;
      logging = logging_over tells course graph stays on.steps more (Some (suc e)) None now new state.records.logs (inr (inl (suc e, act, starts))) start_carried on.logging;
      told =
          let told = told_over tells course graph more state now new start_quiet on.told in
          record { records = told.records; deps = told.deps; known = told.known; same = told.same };
      seen = start_seen;
      anew = λ tell kept p lt unfailed. ap (λ (c : Vec Bool Global). flags.has c.items p) flags_same ∙ start_anew tell kept p lt unfailed;
      before = start_before;
      started = start_started stamped;
      removed = start_removed;
      room = record { looks = on.room.looks; starts = on.room.starts };
      cone = on.cone;
      ticking = on.ticking;
      noted = on.noted ∙ sym (failed_started on.steps (suc e));
    }

  -- ---- all is made ready

  -- its old depfile was removed, its response file was written, and then a tick came
  module _ (stays : LogStays) (suits : Suits course graph) (state : Work) (now gone mid new : World) (i stamp : ℕ) (on : IsOn tells course graph (Some i) state now) (next : IsLawfulStep (task_of course.asked course.store) on.steps (Started i))
      (begun : HasNoRecord tells course.format course.own (edges_of course) i course.entry now) (act : Act) (is : act ≡ (edge_at (edges_of course) i).act)
      (removes : WritesOrNot tells act.depfile None now gone) (removed : act.depfile ≢ [] → Writes tells act.depfile None now gone)
      (at : WritesAt tells act.response_path gone mid) (written : act.response_path ≢ [] → Writes tells act.response_path (Some act.response_content) gone mid) (ticks : Ticks tells state.tick stamp mid new) where
    abbrev depfile : List ℕ
    depfile = (edge_at (edges_of course) i).act.depfile

    abbrev response : List ℕ
    response = (edge_at (edges_of course) i).act.response_path

    depfile_removes : WritesOrNot tells depfile None now gone
    depfile_removes = subst (λ (a : Act). WritesOrNot tells a.depfile None now gone) is removes

    depfile_gone : depfile ≢ [] → Writes tells depfile None now gone
    depfile_gone = subst (λ (a : Act). a.depfile ≢ [] → Writes tells a.depfile None now gone) is removed

    response_at : WritesAt tells response gone mid
    response_at = subst (λ (a : Act). WritesAt tells a.response_path gone mid) is at

    response_written : response ≢ [] → Writes tells response (Some (edge_at (edges_of course) i).act.response_content) gone mid
    response_written = subst (λ (a : Act). a.response_path ≢ [] → Writes tells a.response_path (Some a.response_content) gone mid) is written

    -- its command does not run yet
    rests : has_number (running_in on.steps) i ≡ false
    rests = rests_unstarted on.steps i next.1.once

    abbrev on_gone : IsOn tells course graph (Some i) state gone
    on_gone = on_depfile tells course graph stays (Some i) state now gone on i next.1.stale rests depfile_removes suits.once refl (λ well. absurd (not_well_yet tells course graph on.steps (Some i) now on.carried i next.1.once well))

    carried_mid : Carried tells course graph on.steps (Some i) mid
    carried_mid = response_carried tells course graph stays (Some i) state gone mid on_gone i next.1.stale rests response_at

    tick_grew : IsTrue tells → GrewAt state.tick (IsRunning mid.events) mid.history new.history
    tick_grew = ticks_grew tells state.tick stamp mid new ticks

    -- what one of its two files holds behind the tick
    holds_ticked : (q : List ℕ) → IsPrivate (edges_of course) i q → (held : Option (List ℕ)) → HoldsStill tells course.own (edges_of course) q held course.entry mid → HoldsStill tells course.own (edges_of course) q held course.entry new
    holds_ticked q private held =
        holds_over_own tells course.behaviour course.format course.own course.asked course.store course.entry course.phases (goes_on course) on.steps (Some i) mid new carried_mid i next.1.stale next.1.once q private held state.tick on.ticking.owned tick_grew

    depfile_holds : depfile ≢ [] → depfile ≢ response → HoldsStill tells course.own (edges_of course) depfile None course.entry mid
    depfile_holds named other =
        depfile_over_response tells course.behaviour course.format course.own course.asked course.store course.entry course.phases (goes_on course) on.steps (Some i) gone mid on_gone.carried i next.1.stale next.1.once named other None response_at
        (holds_written tells course.behaviour course.format course.own course.asked course.store course.entry course.phases (goes_on course) on.steps (Some i) now gone on.carried i next.1.stale next.1.once depfile
        (record { named = named; is = inl refl }) None (depfile_gone named))

    pub ready_to_start : IsReadyToStart tells course.format course.own (edges_of course) i course.entry new
    ready_to_start = record {
      ticked = tick_given tells course.behaviour course.format course.own course.asked course.store course.entry course.phases (goes_on course) on.steps (Some i) mid new carried_mid state.tick stamp ticks;
      depfile = λ named other. holds_ticked depfile (record { named = named; is = inl refl }) None (depfile_holds named other);
      response = λ named. holds_ticked response (record { named = named; is = inr refl }) (Some (edge_at (edges_of course) i).act.response_content)
          (holds_written tells course.behaviour course.format course.own course.asked course.store course.entry course.phases (goes_on course) on.steps (Some i) gone mid on_gone.carried i next.1.stale next.1.once response
          (record { named = named; is = inr refl }) (Some (edge_at (edges_of course) i).act.response_content) (response_written named));
      begun = no_record_apart tells course.behaviour course.format course.own course.asked course.store course.entry course.phases (goes_on course) on.steps (Some i) mid new carried_mid i next.1.stale next.1.once state.tick
          (λ files. (on.ticking.no_build_log, on.ticking.no_deps_log)) tick_grew (begun_over gone mid on_gone.carried response response_at (λ files. files.responses i command)
          (begun_over now gone on.carried depfile (depfile_at tells course graph stays (Some i) state now gone on i next.1.stale rests depfile_removes) (λ files. files.depfiles i command) begun));
    }
      where
        command : IsCommand (edges_of course) i
        command = stale_is_command tells course graph on.steps (Some i) now on.carried i next.1.stale

        -- over a write at one of the two
        begun_over : (old last : World) → Carried tells course graph on.steps (Some i) old → (path : List ℕ) → WritesAt tells path old last → (OwnFilesApart course.own (edges_of course) → LiesIn course.own path)
            → HasNoRecord tells course.format course.own (edges_of course) i course.entry old → HasNoRecord tells course.format course.own (edges_of course) i course.entry last
        begun_over old last carried path writes lies = no_record_apart tells course.behaviour course.format course.own course.asked course.store course.entry course.phases (goes_on course) on.steps (Some i) old last carried i next.1.stale next.1.once path
            (λ files. (other course.own.build_log files.own_files files.own_files.build_log, other course.own.deps_log files.own_files files.own_files.deps_log)) writes.history
          where
            other : (log : List ℕ) → OwnFilesApart course.own (edges_of course) → course.own.files log ≡ true → path ≢ log
            other log files mine same = false≢true (sym (lies files).1 ∙ (ap course.own.files same ∙ mine))
