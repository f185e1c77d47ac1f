-- What a start comes to: what the site shows of it, and where a fault leaves the run.
use Rattle.std.proofs.Common.{◌≡◌, ◌≢◌, inl, inr, ℕ, suc, ◌<◌, ltb, Vec, Global, Bool, true, false, List, [], ◌∷◌, ◌++◌, length, get_or, slice_set, OnOk, OnErr, Some, None, Result, Ok, Err, refl, sym, ◌∙◌, ap, subst, arith, append_assoc}
use Rattle.std.proofs.lemmas.List.{get_or-set_same, length-set, length_push, with_items_is}
use Rattle.std.specs.Vec.{with_items}
use Rattle.std.proofs.lemmas.Bool.Decides.{Decides-ltb}
use Rattle.model.specs.declared.act.Act.{Act}
use Rattle.model.specs.declared.event.Event.{Event}
use Rattle.model.specs.declared.event.Event.TheVariants.{Start}
use Rattle.model.specs.declared.graph.BuildGraph.{BuildGraph}
use Rattle.model.specs.World.{World, runs}
use Rattle.model.specs.Calls.{OnlyLooks, Ticks, TicksOrNot, Starts, StartsOrNot, Writes, WritesOrNot}
use Rattle.model.specs.Graph.{has_number, edge_at, IsCommand}
use Rattle.model.specs.Schedule.{Step as Done, Started, running_in}
use Rattle.model.specs.SingleBuild.{task_of}
use Rattle.theory.proofs.Runs.{not_running}
use Rattle.theory.specs.Writes.{WritesAt}
use Rattle.theory.specs.Ledger.{IsReadyToStart}
use Rattle.theory.proofs.Alone.{rests_unstarted}
use Rattle.theory.proofs.Ledger.{carried_ticks_or_not}
use Rattle.graph.specs.declared.graph.Graph.{Graph}
use Rattle.graph.specs.Told.{declared_by}
use Rattle.plan.specs.declared.plan.Plan.{Plan}
use Rattle.plan.specs.Planned.{TakesStep}
use Rattle.records.specs.Laws.{LogStays}
use Rattle.work.specs.declared.state.Work.{Work}
use Rattle.work.specs.Course.{Course, goes_on, Suits, edges_of, IsOn}
use Rattle.work.specs.Going.{IsInHand, IsCut}
use Rattle.work.specs.Starting.{IsBegun}
use Rattle.work.proofs.Places.{within}
use Rattle.work.proofs.Keeping.{not_well_yet, stale_is_command, looks_carried, on_depfile, on_response, on_ticks, cut_free, cut_met}
use Rattle.work.proofs.Onward.{since_goes}
use Rattle.work.proofs.Launching.{with_starts, with_plan, on_stamped, on_starts, start_carried, start_planned, start_taken, ready_to_start}

pub err_then : {T E : Type 0} {P Q : Type 0} (r : Result T E) → OnErr r P → (P → Q) → OnErr r Q
err_then (Ok x) p f = tt
err_then (Err e) p f = f p

-- one entry of a list was set
pub one_set : (v : Vec ℕ Global) (ws : List ℕ) (e stamp : ℕ) → ws ≡ slice_set v.items e stamp → (with_items v ws).items ≡ slice_set v.items e stamp
one_set v ws e stamp is = with_items_is v ws (ap length is ∙ (length-set v.items e stamp ∙ sym v.ok.0)) ∙ is

-- ---- what the site shows of a start

-- as many events as before show that nothing was started
pub unshown : (known now : List Event) → now ≡ known → ltb (length known) (length now) ≡ false
unshown known now same = by_test (ltb (length known) (length now)) (Decides-ltb (length known) (length now)).0
  where
    by_test : (b : Bool) → (b ≡ true → length known < length now) → b ≡ false
    by_test false h = refl
    by_test true h = absurd (omega (arith, h refl, ap length same))

pub shown : (known now : List Event) (e : Event) → now ≡ known ++ e ∷ [] → ltb (length known) (length now) ≡ true
shown known now e more = (Decides-ltb (length known) (length now)).1 (omega (arith, ap length more, length_push known e))

-- what the site shows of its events after a call, by those since the last restart
module _ (old new : World) (known now : List Event) (known_is : known ≡ old.earlier ++ old.events) (now_is : now ≡ new.earlier ++ new.events) (same : new.earlier ≡ old.earlier) where
  pub none_more : new.events ≡ old.events → now ≡ known
  none_more is = now_is ∙ (ap (λ (l : List Event). l ++ new.events) same ∙ (ap (λ (l : List Event). old.earlier ++ l) is ∙ sym known_is))

  pub one_more_event : (e : Event) → new.events ≡ old.events ++ e ∷ [] → now ≡ known ++ e ∷ []
  one_more_event e is =
      now_is
      ∙ (ap (λ (l : List Event). l ++ new.events) same
      ∙ (ap (λ (l : List Event). old.earlier ++ l) is
      ∙ (sym (append_assoc old.earlier old.events (e ∷ [])) ∙ ap (λ (l : List Event). l ++ e ∷ []) (sym known_is))))

-- a start that is told is one that was made
pub start_told : {E : Type 0} (r : Result (Unit {0}) E) (tells : Bool) (job : ℕ) (act : Act) (old new : World) (known now : List Event) → known ≡ old.earlier ++ old.events → now ≡ new.earlier ++ new.events → new.earlier ≡ old.earlier
    → OnOk r (Starts tells job act old new) → OnOk r (ltb (length known) (length now) ≡ true)
start_told (Ok x) tells job act old new known now known_is now_is same ok = shown known now (Start job act old.ticked) (one_more_event old new known now known_is now_is same (Start job act old.ticked) ok.events)
start_told (Err e) tells job act old new known now known_is now_is same ok = tt

-- ---- the file of ticks, by the path that was passed

pub ticks_at : (tells : Bool) (stamp : ℕ) (old new : World) (path tick : List ℕ) → path ≡ tick → Ticks tells path stamp old new → Ticks tells tick stamp old new
ticks_at tells stamp old new path tick is ticks = subst (λ (p : List ℕ). Ticks tells p stamp old new) is ticks

pub ticks_or_not_at : (tells : Bool) (old new : World) (path tick : List ℕ) → path ≡ tick → TicksOrNot tells path old new → TicksOrNot tells tick old new
ticks_or_not_at tells old new path tick is ticks = subst (λ (p : List ℕ). TicksOrNot tells p old new) is ticks

-- ---- an edge that is begun

module _ (tells : Bool) (course : Course) (graph : Graph) (stays : LogStays) (suits : Suits course graph) (state : Work) (now gone : World) (e : ℕ) (act : Act)
    (said : act ≡ (edge_at (declared_by graph).edges (suc e)).act) (begun : IsBegun tells course graph (suc e) state now) (removes : WritesOrNot tells act.depfile None now gone) where
  abbrev On : World → Type 0
  On world = IsOn tells course graph (Some (suc e)) state world

  abbrev pub steps : List Done
  steps = begun.on.steps

  is : act ≡ (edge_at (edges_of course) (suc e)).act
  is = said ∙ ap (λ (b : BuildGraph). (edge_at b.edges (suc e)).act) (sym suits.same)

  in_hand : IsInHand (task_of course.asked course.store) steps (suc e)
  in_hand = record { under_way = inr (begun.next.0, begun.next.1); stale = begun.next.1.stale; taken_in = inl begun.next.1.once }

  depfile_removes : WritesOrNot tells (edge_at (edges_of course) (suc e)).act.depfile None now gone
  depfile_removes = subst (λ (a : Act). WritesOrNot tells a.depfile None now gone) is removes

  -- its command does not run yet
  rests : has_number (running_in steps) (suc e) ≡ false
  rests = rests_unstarted steps (suc e) begun.next.1.once

  abbrev on_gone : On gone
  on_gone = on_depfile tells course graph stays (Some (suc e)) state now gone begun.on (suc e) begun.next.1.stale rests depfile_removes suits.once refl
      (λ well. absurd (not_well_yet tells course graph steps (Some (suc e)) now begun.on.carried (suc e) begun.next.1.once well))

  -- its old depfile could not be removed
  pub cut_clearing : IsCut tells course graph state.plan gone
  cut_clearing = cut_met tells course graph state.plan gone steps (suc e) in_hand begun.on.planned begun.on.taken begun.on.since on_gone.carried

  module _ (mid : World) (at : WritesAt tells act.response_path gone mid) where
    response_at : WritesAt tells (edge_at (edges_of course) (suc e)).act.response_path gone mid
    response_at = subst (λ (a : Act). WritesAt tells a.response_path gone mid) is at

    abbrev on_mid : On mid
    on_mid = on_response tells course graph stays (Some (suc e)) state gone mid on_gone (suc e) begun.next.1.stale rests response_at suits.once refl

    -- its response file could not be written
    pub cut_writing : IsCut tells course graph state.plan mid
    cut_writing = cut_met tells course graph state.plan mid steps (suc e) in_hand begun.on.planned begun.on.taken begun.on.since on_mid.carried

    -- no stamp was given
    pub cut_ticking : (new : World) → TicksOrNot tells state.tick mid new → IsCut tells course graph state.plan new
    cut_ticking new ticks = cut_met tells course graph state.plan new steps (suc e) in_hand begun.on.planned begun.on.taken begun.on.since
        (carried_ticks_or_not tells course.behaviour course.format course.own course.asked course.store course.entry course.phases (goes_on course) steps (Some (suc e)) mid new state.tick on_mid.ticking.owned on_mid.ticking.no_build_log on_mid.ticking.no_deps_log ticks on_mid.carried)

    module _ (new : World) (stamp : ℕ) (ticks : Ticks tells state.tick stamp mid new) where
      abbrev on_new : On new
      on_new = on_ticks tells course graph stays (Some (suc e)) state mid new on_mid suits.once stamp ticks

      within_starts : e < length state.starts.items
      within_starts =
          let command = stale_is_command tells course graph steps (Some (suc e)) now begun.on.carried (suc e) begun.next.1.stale in
          let lt = within graph e (subst (λ (b : BuildGraph). IsCommand b.edges (suc e)) suits.same command) in
          omega (arith, lt, begun.on.room.starts)

      -- its command does not run
      pub starts_idle : runs (suc e) new.events ≡ false
      starts_idle = not_running tells course.own (task_of course.asked course.store) course.entry steps new (suc e) begun.on.carried.beside.idle on_new.carried.run begun.next.1.once

      module _ (last : World) (job : ℕ) (is_job : job ≡ suc e) (starts : Vec ℕ Global) (is_starts : starts.items ≡ slice_set state.starts.items e stamp) (plan : Plan)
          (removed : act.depfile ≢ [] → Writes tells act.depfile None now gone) (written : act.response_path ≢ [] → Writes tells act.response_path (Some act.response_content) gone mid) where
        abbrev stamped : Work
        stamped = with_starts tells course graph state starts

        abbrev on_last : IsOn tells course graph (Some (suc e)) stamped new
        on_last = on_stamped tells course graph (Some (suc e)) state new e stamp starts is_starts on_new begun.next.1.once

        ready : IsReadyToStart tells course.format course.own (edges_of course) (suc e) course.entry new
        ready = ready_to_start tells course graph stays suits state now gone mid new (suc e) stamp begun.on begun.next begun.begun act is removes removed at written ticks

        given : get_or starts.items e 0 ≡ new.ticked
        given = ap (λ (l : List ℕ). get_or l e 0) is_starts ∙ (get_or-set_same state.starts.items e stamp 0 within_starts ∙ sym ticks.ticked)

        of_job : Starts tells job act new last → Starts tells (suc e) act new last
        of_job made = subst (λ (n : ℕ). Starts tells n act new last) is_job made

        pub launched : TakesStep graph state.plan plan (Started (suc e)) → plan.changed ≡ state.plan.changed → Starts tells job act new last → IsOn tells course graph None (with_plan tells course graph stamped plan) last
        launched takes same made = on_starts tells course graph stays stamped new last e act plan on_last begun.next begun.goes begun.unloaded is ready (of_job made) suits.once takes same given

        -- the start met a fault
        pub cut_starting : TakesStep graph state.plan plan (Started (suc e)) → Starts tells job act new last → IsCut tells course graph plan last
        cut_starting takes made =
            cut_free tells course graph plan last (steps ++ Started (suc e) ∷ []) (start_planned tells course graph stays stamped new last e act plan on_last begun.next begun.goes begun.unloaded is ready (of_job made) suits.once takes)
            (start_taken tells course graph stays stamped new last e act plan on_last begun.next begun.goes begun.unloaded is ready (of_job made) suits.once)
            (since_goes course.refused begun.goes (steps ++ Started (suc e) ∷ []))
            (start_carried tells course graph stays stamped new last e act plan on_last begun.next begun.goes begun.unloaded is ready (of_job made) suits.once)

        pub cut_unstarted : plan ≡ state.plan → OnlyLooks tells new last → IsCut tells course graph plan last
        cut_unstarted same looks =
            subst (λ (p : Plan). IsCut tells course graph p last) (sym same)
            (cut_met tells course graph state.plan last steps (suc e) in_hand begun.on.planned begun.on.taken begun.on.since (looks_carried tells course graph stays (Some (suc e)) state new last on_new looks))

        -- as the events show it
        module _ (known seen : List Event) (known_is : known ≡ new.earlier ++ new.events) (seen_is : seen ≡ last.earlier ++ last.events) (same : last.earlier ≡ new.earlier)
            (still : ltb (length known) (length seen) ≡ false → plan ≡ state.plan)
            (takes : ltb (length known) (length seen) ≡ true → (graph : Graph) → TakesStep graph state.plan plan (Started (suc e))) (flags_same : plan.changed ≡ state.plan.changed) where
          told_so : Starts tells job act new last → ltb (length known) (length seen) ≡ true
          told_so made = shown known seen (Start job act new.ticked) (one_more_event new last known seen known_is seen_is same (Start job act new.ticked) made.events)

          pub launch_on : Starts tells job act new last → IsOn tells course graph None (with_plan tells course graph stamped plan) last
          launch_on made = launched (takes (told_so made) graph) flags_same made

          pub launch_cut : StartsOrNot tells job act new last → IsCut tells course graph plan last
          launch_cut (inl looks) = cut_unstarted (still (unshown known seen (none_more new last known seen known_is seen_is same looks.events))) looks
          launch_cut (inr made) = cut_starting (takes (told_so made) graph) made
