-- The command of a running edge is taken in, and its end is noted.
use Rattle.std.proofs.Common.{◌≡◌, ◌≢◌, inl, inr, ℕ, zero, suc, ◌<◌, ◌==◌, ◌&&◌, not, Bool, true, false, IsTrue, List, [], ◌∷◌, ◌++◌, map, length, get_or, bytes_eq, Option, Some, None, refl, sym, ◌∙◌, ap, subst, arith, append_assoc}
use Rattle.std.proofs.lemmas.List.{append-nil, map-append, length_push}
use Rattle.std.proofs.lemmas.Bool.{false≢true, cases_Bool, or_cases, or_left, or_right, and_from, and_right, not_from_false, false_from_ne_true, eqb-true, eq-eqb}
use Rattle.model.specs.declared.act.Act.{Act}
use Rattle.model.specs.declared.event.Event.{Event}
use Rattle.model.specs.declared.event.Event.TheVariants.{Finish}
use Rattle.model.specs.declared.event.Moment.{Moment}
use Rattle.model.specs.declared.event.Moment.TheVariants.{Happened}
use Rattle.model.specs.declared.graph.BuildGraph.{BuildGraph}
use Rattle.model.specs.declared.graph.Edge.{Edge}
use Rattle.model.specs.World.{World, file_at, stamp_of, view_of, IsRunning}
use Rattle.model.specs.Calls.{IsByOthers, AllByOthers, OnlyLooks, Finishes}
use Rattle.model.specs.Judgement.{is_same_number}
use Rattle.model.specs.OutOfDate.{is_made_anew, input_facts}
use Rattle.model.specs.Premises.{FilesAreKept}
use Rattle.model.specs.Graph.{has, has_number, edge_at, outputs, maker, later_number, IsCommand, IsMadeOnce}
use Rattle.model.specs.Schedule.{Task, Step as Done, Ended, started_in, ended_in, running_in, well_in, failed_in, out_of_date_in}
use Rattle.model.specs.SingleBuild.{task_of}
use Rattle.model.specs.Kept.{StartedUnder}
use Rattle.theory.specs.Run.{IsRunOrRest}
use Rattle.theory.proofs.Lists.{all_append, bytes_same, same_some, has_number-is, has_number-one, has_number-push_other}
use Rattle.theory.proofs.Makers.{maker_has, maker_is}
use Rattle.theory.proofs.SiteCalls.{looks_none, looks_then}
use Rattle.theory.proofs.Orderly.{IsKept, kept_orderly}
use Rattle.theory.proofs.Steps.{running_is, running_parts, started-append, ended-append, well-append, failed-append, out_of_date-append, in_left, in_right, in_either}
use Rattle.theory.proofs.Runs.{run_looks, run_takes_in}
use Rattle.theory.specs.Ledger.{IsCutOff}
use Rattle.theory.proofs.Ledger.{SaysAtEnd, ReadAtEnd, command_of, running_of, carried_well, carried_failed, cut_in_reading, cut_off, cut_looks, cut_finishes}
use Rattle.theory.proofs.TakenIn.{ended_here, depfile_since}
use Rattle.plan.specs.Flags as flags
use Rattle.paths.specs.Told.{text_at}
use Rattle.graph.specs.declared.cone.Cone.{Cone}
use Rattle.graph.specs.declared.graph.Graph.{Graph}
use Rattle.graph.specs.Links.{links_of}
use Rattle.graph.specs.Linked.{StandFor}
use Rattle.graph.specs.Told.{declared_by}
use Rattle.judge.specs.declared.looks.Look.{Look}
use Rattle.judge.specs.Seen.{look_at, look_of, is_asked, AreSeenOf}
use Rattle.work.proofs.Seeing.{asked_stamp}
use Rattle.plan.specs.declared.plan.Plan.{Plan}
use Rattle.plan.specs.declared.step.Standing.TheVariants.{Running}
use Rattle.plan.specs.Standing.{standing_at}
use Rattle.plan.specs.Planned.{IsPlanned, AreTaken, TakesStep}
use Rattle.records.specs.declared.records.Records.{Records}
use Rattle.records.specs.Known.{AreKnown}
use Rattle.records.specs.Logging.{NoneInForce}
use Rattle.records.specs.Laws.{LogStays, NoneWhileRunning}
use Rattle.work.specs.declared.reported.Told.{Told}
use Rattle.work.specs.declared.state.Work.{Work}
use Rattle.work.specs.Course.{Course, IsOwnTick, HasCone, goes_on, Suits, IsSince, edges_of, is_quiet, IsSeenStill, AreAnew, AreSeenBefore, AreTold, HasRoom, IsOn}
use Rattle.work.specs.Going.{MayTakeIn, IsCut, IsInHand, HasEnded, failed_after}
use Rattle.work.specs.Removing.{DepfilesStay, AreRemoved}
use Rattle.work.specs.Restat.{is_same_look, IsFlagged}
use Rattle.work.specs.Starting.{in_hand_after, IsTakenIn}
use Rattle.work.specs.Telling.{WasRead, IsEnding, ended_well}
use Rattle.work.proofs.Onward.{taken_ended, since_ended}
use Rattle.work.proofs.Depfiles.{OneAnswer, went_well, said_by, read_by, unnamed_end, has_told, was_read_before}
use Rattle.work.proofs.Quiet.{files_then, RunBy, quiet_parts, quiet_from, quiet_adds, quiet_looks}
use Rattle.work.proofs.Anew.{as_new, file_still, made_quiet}
use Rattle.work.proofs.Noticed.{differs_as}
use Rattle.work.proofs.Removed.{WellRest, StaysSinceEnd, stay_adds, removed_adds}
use Rattle.work.proofs.Keeping.{Carried, Logging, Quietly, run_by, grown, well_rest, looks_leave, logging_with, told_over, seen_over, started_more, well_ended as well_before, cut_free, cut_met}
use Rattle.work.proofs.Running.{IsRunningEdge, running_edge}

-- ---- steps

-- what runs after an end ran before
ran_before : (steps : List Done) (i j : ℕ) (ok : Bool) → has_number (running_in (steps ++ Ended i ok ∷ [])) j ≡ true → has_number (running_in steps) j ≡ true
ran_before steps i j ok runs = running_is steps j ∙ and_from (has_number (started_in steps) j) (not (has_number (ended_in steps) j)) started (not_from_false (has_number (ended_in steps) j) unended)
  where
    parts : (has_number (started_in (steps ++ Ended i ok ∷ [])) j ≡ true) × (has_number (ended_in (steps ++ Ended i ok ∷ [])) j ≡ false)
    parts = running_parts (steps ++ Ended i ok ∷ []) j runs

    started : has_number (started_in steps) j ≡ true
    started = ap (λ (l : List ℕ). has_number l j) (sym (started-append steps (Ended i ok ∷ []) ∙ append-nil (started_in steps))) ∙ parts.0

    unended : has_number (ended_in steps) j ≡ false
    unended = false_from_ne_true (has_number (ended_in steps) j) (λ h. false≢true (sym parts.1 ∙ in_left ended_in ended-append steps (Ended i ok ∷ []) j h))

-- and any other goes on
runs_on : (steps : List Done) (i j : ℕ) (ok : Bool) → (i ≡ j → ⊥) → has_number (running_in steps) j ≡ true → has_number (running_in (steps ++ Ended i ok ∷ [])) j ≡ true
runs_on steps i j ok other runs =
    let parts = running_parts steps j runs in
    running_is (steps ++ Ended i ok ∷ []) j
    ∙ and_from (has_number (started_in (steps ++ Ended i ok ∷ [])) j) (not (has_number (ended_in (steps ++ Ended i ok ∷ [])) j))
    (in_left started_in started-append steps (Ended i ok ∷ []) j parts.0)
    (not_from_false (has_number (ended_in (steps ++ Ended i ok ∷ [])) j) (ap (λ (l : List ℕ). has_number l j) (ended-append steps (Ended i ok ∷ [])) ∙ (has_number-push_other (ended_in steps) i j other ∙ parts.1)))

-- other edges ended well as before
well_others : (steps : List Done) (i j : ℕ) (ok : Bool) → (i ≡ j → ⊥) → has_number (well_in (steps ++ Ended i ok ∷ [])) j ≡ has_number (well_in steps) j
well_others steps i j true other = ap (λ (l : List ℕ). has_number l j) (well-append steps (Ended i true ∷ [])) ∙ has_number-push_other (well_in steps) i j other
well_others steps i j false other = ap (λ (l : List ℕ). has_number l j) (well-append steps (Ended i false ∷ []) ∙ append-nil (well_in steps))

-- one that did not fail ended well
well_unless : (steps : List Done) (i : ℕ) (ok : Bool) → has_number (failed_in (steps ++ Ended i ok ∷ [])) i ≡ false → has_number (well_in (steps ++ Ended i ok ∷ [])) i ≡ true
well_unless steps i true none = in_right well_in well-append steps (Ended i true ∷ []) i (has_number-one i)
well_unless steps i false none = absurd (false≢true (sym none ∙ in_right failed_in failed-append steps (Ended i false ∷ []) i (has_number-one i)))

-- one that is not in hand ended well before
ended_before : (steps : List Done) (i j : ℕ) (ok : Bool) → has_number (well_in (steps ++ Ended i ok ∷ [])) j ≡ true → (in_hand_after i ok ≡ Some j → ⊥) → has_number (well_in steps) j ≡ true
ended_before steps i j true well free = elim (in_either well_in well-append steps (Ended i true ∷ []) j well) [
  | inl before ↦ before
  | inr here ↦ absurd (free (ap (λ (n : ℕ). Some n) (has_number-is i j here)))
]
ended_before steps i j false well free = ap (λ (l : List ℕ). has_number l j) (sym (well-append steps (Ended i false ∷ []) ∙ append-nil (well_in steps))) ∙ well

well_ended : (steps : List Done) (i : ℕ) (ok : Bool) → ok ≡ true → has_number (well_in (steps ++ Ended i ok ∷ [])) i ≡ true
well_ended steps i true went = in_right well_in well-append steps (Ended i true ∷ []) i (has_number-one i)
well_ended steps i false went = absurd (false≢true went)

noted_after : (failed : List ℕ) (steps : List Done) (e : ℕ) (ok : Bool) → map suc failed ≡ failed_in steps → map suc (failed_after failed e ok) ≡ failed_in (steps ++ Ended (suc e) ok ∷ [])
noted_after failed steps e true noted = noted ∙ sym (failed-append steps (Ended (suc e) true ∷ []) ∙ append-nil (failed_in steps))
noted_after failed steps e false noted = map-append suc failed (e ∷ []) ∙ (ap (λ (l : List ℕ). l ++ suc e ∷ []) noted ∙ sym (failed-append steps (Ended (suc e) false ∷ [])))

-- one that ended well now did so by its command
well_by_end : (steps : List Done) (i : ℕ) (ok : Bool) → has_number (well_in (steps ++ Ended i ok ∷ [])) i ≡ true → (has_number (well_in steps) i ≡ true → ⊥) → ok ≡ true
well_by_end steps i true well fresh = refl
well_by_end steps i false well fresh = absurd (fresh (ap (λ (l : List ℕ). has_number l i) (sym (well-append steps (Ended i false ∷ []) ∙ append-nil (well_in steps))) ∙ well))

-- a command that has ended, and looks after that
finishes_looks : (tells : Bool) (job : ℕ) (ok : Bool) (now was mid : World) → Finishes tells job ok now was → OnlyLooks tells was mid → Finishes tells job ok now mid
finishes_looks tells job ok now was mid first looks = record {
  ran = first.ran;
  events = looks.events ∙ first.events;
  ticked = looks.ticked ∙ first.ticked;
  at_start = looks.at_start ∙ first.at_start;
  history = λ tell.
      let ended = first.history tell in
      let seen = looks.history tell in
      record {
        earlier = ended.earlier;
        later = ended.later ++ seen.more;
        grows = seen.grows ∙ (ap (λ (l : List Moment). l ++ seen.more) ended.grows
            ∙ (append_assoc now.history (ended.earlier ++ Happened (Finish job ok) ∷ ended.later) seen.more
            ∙ ap (λ (l : List Moment). now.history ++ l) (append_assoc ended.earlier (Happened (Finish job ok) ∷ ended.later) seen.more)));
        all_earlier = ended.all_earlier;
        all_later = subst (λ (l : List Event). AllByOthers (IsRunning l) (ended.later ++ seen.more)) (sym looks.events) (all_append (IsByOthers (IsRunning was.events)) ended.later seen.more ended.all_later seen.all);
      };
}

-- ---- outputs by number

has_text : (paths : List (List ℕ)) (xs : List ℕ) (p : ℕ) → has_number xs p ≡ true → has (map (text_at paths) xs) (text_at paths p) ≡ true
has_text paths [] p there = absurd (false≢true there)
has_text paths (x ∷ xs) p there = elim (or_cases (x == p) (has_number xs p) there) [
  | inl here ↦ or_left _ (has (map (text_at paths) xs) (text_at paths p)) (subst (λ (n : ℕ). bytes_eq (text_at paths x) (text_at paths n) ≡ true) (eqb-true x p here) (bytes_same (text_at paths x)))
  | inr later ↦ or_right _ (has (map (text_at paths) xs) (text_at paths p)) (has_text paths xs p later)
]

later_is : (m : Option ℕ) (e : ℕ) → later_number m ≡ Some (suc e) → m ≡ Some e
later_is None e is = cc
later_is (Some k) e is =
    let same : k ≡ e = cc in
    ap (λ (n : ℕ). Some n) same

-- a path that was asked for has a look
asked_within : (seen : List Look) (p : ℕ) → is_asked (look_at seen p) ≡ true → p < length seen
asked_within [] p asked = absurd (false≢true asked)
asked_within (look ∷ seen) zero asked = omega arith
asked_within (look ∷ seen) (suc p) asked = let lt = asked_within seen p asked in omega (arith, lt)

module _ (edges : List Edge) (graph : Graph) (once : IsMadeOnce edges) (stand : StandFor edges graph.manifest.paths (links_of graph)) (e p : ℕ) where
  -- a path of the graph that the edge makes is one of its outputs by number
  made_by : p < length graph.manifest.paths → has (outputs (edge_at edges (suc e))) (text_at graph.manifest.paths p) ≡ true → has_number ((links_of graph).outputs e) p ≡ true
  made_by lt makes = graph.making.made p e (later_is ((links_of graph).maker p) e (sym (stand.makers p lt) ∙ maker_is edges (text_at graph.manifest.paths p) (suc e) once makes))

  pub makes_it : has_number ((links_of graph).outputs e) p ≡ true → has (outputs (edge_at edges (suc e))) (text_at graph.manifest.paths p) ≡ true
  makes_it made = ap (λ (l : List (List ℕ)). has l (text_at graph.manifest.paths p)) (sym (stand.outputs_are e)) ∙ has_text graph.manifest.paths ((links_of graph).outputs e) p made

  makers_failed : has_number ((links_of graph).outputs e) p ≡ true → maker edges (text_at graph.manifest.paths p) ≡ Some (suc e)
  makers_failed made = maker_is edges (text_at graph.manifest.paths p) (suc e) once (makes_it made)

-- ---- an edge that is in hand where it ended well

module _ (tells : Bool) (course : Course) (graph : Graph) where
  pub cut_hand : (plan : Plan) (new : World) (steps : List Done) (i : ℕ) (ok : Bool) → IsInHand (task_of course.asked course.store) steps i → IsPlanned (task_of course.asked course.store) graph plan steps → AreTaken (task_of course.asked course.store) steps → IsSince course.refused steps → Carried tells course graph steps (in_hand_after i ok) new
      → IsCut tells course graph plan new
  cut_hand plan new steps i true at planned taken since carried = cut_met tells course graph plan new steps i at planned taken since carried
  cut_hand plan new steps i false at planned taken since carried = cut_free tells course graph plan new steps planned taken since carried

-- ---- a command is taken in

module _ (tells : Bool) (course : Course) (graph : Graph) (suits : Suits course graph) (state : Work) (now mid new : World) (e : ℕ) (ok : Bool) (on : IsOn tells course graph None state now)
    (turn : MayTakeIn course on.steps) (finish : Finishes tells (suc e) ok now mid) (looks : OnlyLooks tells mid new) where
  abbrev task : Task
  task = task_of course.asked course.store

  edge : IsRunningEdge course graph state.plan on.steps (suc e)
  edge = running_edge tells course graph None state now on (suc e) finish.ran

  abbrev After : Bool → List Done
  After well = on.steps ++ Ended (suc e) well ∷ []

  in_hand : (well : Bool) → IsInHand task (After well) (suc e)
  in_hand well = record {
    under_way = inl (on.steps, well, refl);
    stale = in_left out_of_date_in out_of_date-append on.steps (Ended (suc e) well ∷ []) (suc e) edge.stale;
    taken_in = inr (in_right ended_in ended-append on.steps (Ended (suc e) well ∷ []) (suc e) (has_number-one (suc e)));
  }

  end_planned : (well : Bool) (plan : Plan) → TakesStep graph state.plan plan (Ended (suc e) well) → IsPlanned task graph plan (After well)
  end_planned well plan takes = takes task on.steps on.planned on.taken edge.running

  end_tells : (well : Bool) → AreTaken task (After well)
  end_tells well = taken_ended task on.steps on.taken (suc e) well edge.running

  end_since : (well : Bool) → IsSince course.refused (After well)
  end_since well = since_ended course.refused on.steps (suc e) well edge.running on.since

  -- a fault kept what it told
  pub end_unread : (edge_at (edges_of course) (suc e)).act.depfile ≢ [] → (plan : Plan) → TakesStep graph state.plan plan (Ended (suc e) false) → IsCut tells course graph plan new
  end_unread named plan takes = record {
    steps = After false;
    met = Some (suc e);
    planned = end_planned false plan takes;
    taken = end_tells false;
    since = end_since false;
    run = run_looks tells course.own task course.entry (After false) mid new
        (run_takes_in tells course.own task course.entry on.steps now mid (suc e) false ok on.carried.beside.idle on.carried.run ((λ well. absurd (false≢true well)), (λ none. absurd (named none))) finish) looks;
    cut = cut_in_reading tells course.behaviour course.format course.own course.asked course.store course.entry course.phases (goes_on course) on.steps now mid new (suc e) ok turn.lawful finish looks on.carried named;
    in_hand = λ i is. subst (λ (n : ℕ). IsInHand task (After false) n) (same_some (suc e) i is) (in_hand false);
  }

  -- ---- the calls, while it is no step yet

  cut_mid : IsCutOff tells course.behaviour course.format course.own course.asked course.store course.phases on.steps None course.entry mid
  cut_mid = cut_finishes tells course.behaviour course.format course.own course.asked course.store course.entry course.phases on.steps None now mid (suc e) ok finish
      (cut_off tells course.behaviour course.format course.own course.asked course.store course.entry course.phases (goes_on course) on.steps None now on.carried)

  cut_new : IsCutOff tells course.behaviour course.format course.own course.asked course.store course.phases on.steps None course.entry new
  cut_new = cut_looks tells course.behaviour course.format course.own course.asked course.store course.entry course.phases on.steps None mid new looks cut_mid

  by_rest : (world : World) → IsRunOrRest tells course.own task on.steps course.entry world → RunBy (edges_of course) on.steps world
  by_rest world rest job is = (
    command_of tells course.behaviour course.format course.own course.asked course.store course.entry on.steps world on.carried.beside.idle rest job is,
    running_of tells course.behaviour course.format course.own course.asked course.store course.entry on.steps world on.carried.beside.idle rest job is,
  )

  end_quiet : Quietly tells course graph on.steps now mid
  end_quiet = quiet_adds tells course.own (edges_of course) on.steps course.entry now mid (grown tells course graph on.steps None now on.carried) (run_by tells course graph on.steps None now on.carried) (by_rest mid cut_mid.run) (Finish (suc e) ok) finish.history

  rest_logging : LogStays → Logging tells course graph on.steps None new state.records.logs
  rest_logging stays =
      stays tells course.behaviour course.format course.own (edges_of course) on.steps on.steps None None course.store course.entry mid new state.records.logs (looks_leave tells course graph mid new looks)
      (λ job is. (by_rest new cut_new.run job is).0) cut_new.beside.logged
      (stays tells course.behaviour course.format course.own (edges_of course) on.steps on.steps None None course.store course.entry now mid state.records.logs (inr (inr (suc e, ok, finish)))
      (λ job is. (by_rest mid cut_mid.run job is).0) cut_mid.beside.logged on.logging)

  -- while it ran, no record of its outputs was in force
  none_in_force : LogStays → NoneWhileRunning → NoneInForce tells course.format course.own (edges_of course) (suc e) course.entry new
  none_in_force stays none =
      none tells course.behaviour course.format course.own (edges_of course) on.steps None course.store course.entry new state.records.logs (suc e) suits.once
      (running_parts on.steps (suc e) edge.running).0 (false_from_ne_true (has_number (well_in on.steps) (suc e)) (λ well. false≢true (sym (running_parts on.steps (suc e) edge.running).1 ∙ kept.well (suc e) well)))
      (rest_logging stays)
    where
      kept : IsKept (edges_of course) on.steps
      kept = kept_orderly (edges_of course) on.steps on.carried.run.orderly

  -- ---- what it told

  module _ (one : OneAnswer) (told : Told) (read : WasRead tells (edge_at (edges_of course) (suc e)).act ok mid new told) where
    abbrev well : Bool
    well = ended_well ok told

    abbrev pub more : List Done
    more = After well

    end_carried : Carried tells course graph more (in_hand_after (suc e) well) new
    end_carried = by_end (ended_well ok told) refl
      where
        by_end : (b : Bool) → ended_well ok told ≡ b → Carried tells course graph (After b) (in_hand_after (suc e) b) new
        by_end true went =
            carried_well tells course.behaviour course.format course.own course.asked course.store course.entry course.phases (goes_on course) on.steps now mid new (suc e) ok turn.lawful finish looks on.carried (went_well ok told went) (
              subst (λ (w : Bool). SaysAtEnd tells course.behaviour course.format course.own course.asked course.store course.entry (suc e) w new) went (said_by tells course graph suits one state now mid new (suc e) ok on finish looks told read),
              subst (λ (w : Bool). ReadAtEnd tells course.behaviour course.format course.own course.asked course.store course.entry (suc e) w new) went (read_by tells course graph suits one state now mid new (suc e) ok on finish looks told read),
            )
        by_end false failed =
            carried_failed tells course.behaviour course.format course.own course.asked course.store course.entry course.phases (goes_on course) on.steps now mid new (suc e) ok turn.lawful finish looks on.carried
            (λ none. unnamed_end tells course graph suits one state now mid new (suc e) ok on finish looks told read none failed) (
              subst (λ (w : Bool). SaysAtEnd tells course.behaviour course.format course.own course.asked course.store course.entry (suc e) w new) failed (said_by tells course graph suits one state now mid new (suc e) ok on finish looks told read),
              subst (λ (w : Bool). ReadAtEnd tells course.behaviour course.format course.own course.asked course.store course.entry (suc e) w new) failed (read_by tells course graph suits one state now mid new (suc e) ok on finish looks told read),
            )

    -- where noting it met a fault
    pub end_cut : (plan : Plan) → TakesStep graph state.plan plan (Ended (suc e) well) → IsCut tells course graph plan new
    end_cut plan takes = cut_hand tells course graph plan new more (suc e) well (in_hand well) (end_planned well plan takes) (end_tells well) (end_since well) end_carried

    -- its files are removed when that is recorded
    end_removed : AreRemoved tells course.own (edges_of course) more (in_hand_after (suc e) well) course.entry new
    end_removed = removed_adds tells course.own (edges_of course) on.steps course.entry now new (grown tells course graph on.steps None now on.carried) (well_rest tells course graph on.steps None now on.carried)
        None on.removed more (in_hand_after (suc e) well) rest_new (Finish (suc e) ok) ends.history (λ i is free. (ended_before on.steps (suc e) i well is free, nothing i)) end_stay
      where
        nothing : (i : ℕ) → None ≡ Some i → ⊥
        nothing i is = cc

        ends : Finishes tells (suc e) ok now new
        ends = finishes_looks tells (suc e) ok now mid new finish looks

        rest_new : WellRest (edges_of course) more new
        rest_new = well_rest tells course graph more (in_hand_after (suc e) well) new end_carried

        -- its depfile is as it was when its command ended
        own_stay : has_number (well_in more) (suc e) ≡ true → (edge_at (edges_of course) (suc e)).act.depfile ≢ [] → StaysSinceEnd tells course.own (edges_of course) course.entry (suc e) new
        own_stay is named at ended tell files =
            let seen = looks.history tell in
            ap (λ (h : List Moment). view_of h (edge_at (edges_of course) (suc e)).act.depfile) seen.grows
            ∙ depfile_since tells course.behaviour course.format course.own course.asked course.store course.entry course.phases (goes_on course) on.steps now mid new (suc e) ok finish looks on.carried
            (went_well ok told (well_by_end on.steps (suc e) well is not_before)) named tell files seen.more [] at (seen.grows ∙ ap (λ (l : List Moment). mid.history ++ l) (sym (append-nil seen.more))) ended
          where
            not_before : has_number (well_in on.steps) (suc e) ≡ true → ⊥
            not_before came = false≢true (sym (running_parts on.steps (suc e) edge.running).1 ∙ well_before tells course graph on.steps None now on.carried (suc e) came)

        end_stay : DepfilesStay tells course.own (edges_of course) more course.entry new
        end_stay i is unset named two = elim (cases_Bool (suc e == i)) [
          | inl here ↦
              let one : suc e ≡ i = eqb-true (suc e) i here in
              subst (λ (n : ℕ). StaysSinceEnd tells course.own (edges_of course) course.entry n new) one
              (own_stay (subst (λ (n : ℕ). has_number (well_in more) n ≡ true) (sym one) is) (subst (λ (n : ℕ). (edge_at (edges_of course) n).act.depfile ≢ []) (sym one) named))
          | inr apart ↦ stay_adds tells course.own (edges_of course) on.steps course.entry now new (grown tells course graph on.steps None now on.carried) (well_rest tells course graph on.steps None now on.carried)
              None on.removed more (in_hand_after (suc e) well) rest_new (Finish (suc e) ok) ends.history i
              (sym (well_others on.steps (suc e) i well (other i apart)) ∙ is) is (λ same. other i apart (same_job i same)) unset named two
        ]
          where
            other : (i : ℕ) → (suc e == i) ≡ false → suc e ≡ i → ⊥
            other i apart one = false≢true (sym apart ∙ eq-eqb (suc e) i one)

            same_job : (i : ℕ) → Finish (suc e) ok ≡ Finish i true → suc e ≡ i
            same_job i same = cc

-- ---- its end is noted

module _ (tells : Bool) (course : Course) (graph : Graph) (suits : Suits course graph) (state : Work) (now mid was new : World) (e : ℕ) (ok : Bool) (on : IsOn tells course graph None state now)
    (turn : MayTakeIn course on.steps) (finish : Finishes tells (suc e) ok now mid) (looks : OnlyLooks tells mid was) (one : OneAnswer) (told : Told)
    (read : WasRead tells (edge_at (edges_of course) (suc e)).act ok mid was told) (stand : StandFor (declared_by graph).edges graph.manifest.paths (links_of graph)) (after : Work)
    (noted_so : HasEnded tells graph e (ended_well ok told) was new state after) where
  abbrev is_well : Bool
  is_well = ended_well ok told

  abbrev so_far : List Done
  so_far = on.steps ++ Ended (suc e) is_well ∷ []

  edge_here : IsRunningEdge course graph state.plan on.steps (suc e)
  edge_here = running_edge tells course graph None state now on (suc e) finish.ran

  looked : OnlyLooks tells mid new
  looked = looks_then tells mid was new looks noted_so.looked.looks

  read_new : WasRead tells (edge_at (edges_of course) (suc e)).act ok mid new told
  read_new = was_read_before tells (edge_at (edges_of course) (suc e)).act ok mid was new told noted_so.looked.looks read

  carried_was : Carried tells course graph so_far (in_hand_after (suc e) is_well) was
  carried_was = end_carried tells course graph suits state now mid was e ok on turn finish looks one told read

  carried_new : Carried tells course graph so_far (in_hand_after (suc e) is_well) new
  carried_new = end_carried tells course graph suits state now mid new e ok on turn finish looked one told read_new

  -- paths that were quiet before it ended, over its end and what was looked at
  over_looks : (last : World) → OnlyLooks tells mid last → Quietly tells course graph on.steps now last
  over_looks last since = end_quiet tells course graph suits state now last last e ok on turn (finishes_looks tells (suc e) ok now mid last finish since) (looks_none tells last)

  over_end : Quietly tells course graph on.steps now new
  over_end = over_looks new looked

  stand_here : StandFor (edges_of course) graph.manifest.paths (links_of graph)
  stand_here = subst (λ (g : BuildGraph). StandFor g.edges graph.manifest.paths (links_of graph)) (sym suits.same) stand

  noted_told : AreTold tells course graph after new
  noted_told =
      let told = told_over tells course graph on.steps state now new over_end on.told in
      record { records = told.records; deps = told.deps; known = subst (λ (r : Records). AreKnown graph told.records told.deps r) (sym {A = Records} noted_so.beside.records) told.known; same = told.same }

  -- ---- what was seen

  -- what was not forgotten, when it had ended
  forgot_seen : IsTrue tells → (files : FilesAreKept course.own (edges_of course) course.entry.history was.history)
      → AreSeenOf (is_quiet files.free course.own (edges_of course) so_far) graph.manifest.paths was.history noted_so.between.seen.items
  forgot_seen tell kept p asked quiet = by_output (has_number ((links_of graph).outputs e) p) refl
    where
      by_output : (b : Bool) → has_number ((links_of graph).outputs e) p ≡ b → look_at noted_so.between.seen.items p ≡ look_of (stamp_of (file_at was.history (text_at graph.manifest.paths p)))
      by_output true made = absurd (false≢true (sym (ap is_asked (noted_so.forgets.forgotten p made)) ∙ asked))
      by_output false other =
          noted_so.forgets.others p other
          ∙ seen_over tells course graph on.steps state now was (over_looks was looks) on.seen tell kept p asked_then still
        where
          asked_then : is_asked (look_at state.looks.seen.items p) ≡ true
          asked_then = ap is_asked (sym (noted_so.forgets.others p other)) ∙ asked

          within : p < length graph.manifest.paths
          within = let lt = asked_within state.looks.seen.items p asked_then in let same = on.room.looks in omega (arith, lt, same)

          still : is_quiet kept.free course.own (edges_of course) on.steps (text_at graph.manifest.paths p) ≡ true
          still =
              let parts = quiet_parts kept.free course.own (edges_of course) so_far (text_at graph.manifest.paths p) quiet in
              quiet_from kept.free course.own (edges_of course) on.steps (text_at graph.manifest.paths p) (record {
                bound = parts.bound;
                foreign = parts.foreign;
                private = parts.private;
                rests = λ i runs makes. elim (cases_Bool (suc e == i)) [
                  | inl here ↦ false≢true (sym other ∙ made_by (edges_of course) graph suits.once stand_here e p within (subst (λ (n : ℕ). has (outputs (edge_at (edges_of course) n)) (text_at graph.manifest.paths p) ≡ true) (sym (eqb-true (suc e) i here)) makes))
                  | inr apart ↦ parts.rests i (runs_on on.steps (suc e) i is_well (λ same. false≢true (sym apart ∙ eq-eqb (suc e) i same)) runs) makes
                ];
              })

  noted_seen : IsSeenStill tells course graph so_far after new
  noted_seen tell kept =
      let quiet = quiet_looks tells course.own (edges_of course) so_far course.entry was new (grown tells course graph so_far (in_hand_after (suc e) is_well) was carried_was)
      (run_by tells course graph so_far (in_hand_after (suc e) is_well) was carried_was) noted_so.looked.looks tell kept in
      noted_so.looked.seen tell (is_quiet kept.free course.own (edges_of course) so_far) quiet.1 (forgot_seen tell (files_then course.own (edges_of course) course.entry was new quiet.0 kept))

  -- ---- what was made anew

  module _ (tell : IsTrue tells) (kept : FilesAreKept course.own (edges_of course) course.entry.history new.history) (p : ℕ) where
    abbrev text : List ℕ
    text = text_at graph.manifest.paths p

    abbrev was_same : Bool
    was_same = is_same_number (stamp_of (file_at course.entry.history text)) (stamp_of (file_at new.history text))

    -- an output of the edge
    module _ (made : has_number ((links_of graph).outputs e) p ≡ true) (came_well : has_number (well_in so_far) (suc e) ≡ true) where
      maker_here : maker (edges_of course) text ≡ Some (suc e)
      maker_here = makers_failed (edges_of course) graph suits.once stand_here e p made

      same_restat : (edge_at (edges_of course) (suc e)).restat ≡ (edge_at (declared_by graph).edges (suc e)).restat
      same_restat = ap (λ (g : BuildGraph). (edge_at g.edges (suc e)).restat) suits.same

      -- its stamps are compared
      compared : is_well ≡ true → (edge_at (edges_of course) (suc e)).restat ≡ true → is_asked (look_at after.looks.seen.items p) ≡ true
          → not (is_same_look (look_at state.looks.seen.items p) (look_at after.looks.seen.items p)) ≡ not was_same
      compared went restat asked =
          ap (λ (b : Look). not (is_same_look b (look_at after.looks.seen.items p))) (on.before tell (files_then course.own (edges_of course) course.entry now new (over_end tell kept).0 kept) e edge_here.stale (running_parts on.steps (suc e) edge_here.running).1 restat p made)
          ∙ (ap (λ (a : Look). not (is_same_look (look_of (stamp_of (file_at course.entry.history text))) a))
          (noted_seen tell kept p asked (made_quiet course.own (edges_of course) kept.own_files kept.free kept.free_apart suits.once so_far (suc e) text maker_here edge_here.command (in_right ended_in ended-append on.steps (Ended (suc e) is_well ∷ []) (suc e) (has_number-one (suc e)))))
          ∙ differs_as (stamp_of (file_at course.entry.history text)) (stamp_of (file_at new.history text)))

      by_restat : (b : Bool) → (edge_at (edges_of course) (suc e)).restat ≡ b → flags.has after.plan.changed.items p ≡ not (b && was_same)
      by_restat true restat =
          let went = well_by_end on.steps (suc e) is_well came_well (λ h. false≢true (sym (running_parts on.steps (suc e) edge_here.running).1 ∙ well_before tells course graph on.steps None now on.carried (suc e) h)) in
          let flagged = subst (λ (b : Bool). IsFlagged b (look_at state.looks.seen.items p) (look_at after.looks.seen.items p) (flags.has after.plan.changed.items p))
          (ap (λ (b : Bool). b && (edge_at (declared_by graph).edges (suc e)).restat) went ∙ (sym same_restat ∙ restat)) (noted_so.changed p made) in
          flagged.1 ∙ compared went restat flagged.0
      by_restat false restat = subst (λ (b : Bool). IsFlagged b (look_at state.looks.seen.items p) (look_at after.looks.seen.items p) (flags.has after.plan.changed.items p))
          (and_right is_well (edge_at (declared_by graph).edges (suc e)).restat (sym same_restat ∙ restat)) (noted_so.changed p made)

      anew_here : flags.has after.plan.changed.items p ≡ (input_facts (edges_of course) (well_in so_far) course.entry.history new.history text).changed
      anew_here =
          by_restat (edge_at (edges_of course) (suc e)).restat refl
          ∙ (ap (λ (b : Bool). b && not ((edge_at (edges_of course) (suc e)).restat && was_same)) (sym came_well)
          ∙ ap (is_made_anew (edges_of course) (well_in so_far) was_same) (sym maker_here))

    -- any other path
    anew_there : p < length graph.manifest.paths → ((j : ℕ) → maker (edges_of course) text ≡ Some j → has_number (failed_in so_far) j ≡ false) → has_number ((links_of graph).outputs e) p ≡ false
        → flags.has after.plan.changed.items p ≡ (input_facts (edges_of course) (well_in so_far) course.entry.history new.history text).changed
    anew_there lt unfailed other =
        let call = over_end tell kept in
        noted_so.unchanged p other
        ∙ (on.anew tell (files_then course.own (edges_of course) course.entry now new call.0 kept) p lt (λ j is. false_from_ne_true (has_number (failed_in on.steps) j) (λ h. false≢true (sym (unfailed j is) ∙ in_left failed_in failed-append on.steps (Ended (suc e) is_well ∷ []) j h)))
        ∙ as_new (edges_of course) (well_in on.steps) (well_in so_far) course.entry.history now.history new.history text
        (λ j is. well_others on.steps (suc e) j is_well (λ same. false≢true (sym other ∙ made_by (edges_of course) graph suits.once stand_here e p lt (maker_has (edges_of course) text (suc e) (is ∙ ap (λ (n : ℕ). Some n) (sym same))))))
        (λ j is ran. file_still (is_quiet kept.free course.own (edges_of course) on.steps) now.history new.history call.0.0 text call.0.1 call.1
        (made_quiet course.own (edges_of course) kept.own_files kept.free kept.free_apart suits.once on.steps j text is (well_rest tells course graph on.steps None now on.carried j ran).0 (well_before tells course graph on.steps None now on.carried j ran))))

  noted_anew : AreAnew tells course graph so_far after new
  noted_anew tell kept p lt unfailed = by_output (has_number ((links_of graph).outputs e) p) refl
    where
      by_output : (b : Bool) → has_number ((links_of graph).outputs e) p ≡ b
          → flags.has after.plan.changed.items p ≡ (input_facts (edges_of course) (well_in so_far) course.entry.history new.history (text_at graph.manifest.paths p)).changed
      by_output true made = anew_here tell kept p made (well_unless on.steps (suc e) is_well (unfailed (suc e) (makers_failed (edges_of course) graph suits.once stand_here e p made)))
      by_output false other = anew_there tell kept p lt unfailed other

  -- outputs of another edge are not those that were forgotten
  not_here : (k p : ℕ) → has_number (ended_in so_far) (suc k) ≡ false → has_number ((links_of graph).outputs k) p ≡ true → has_number ((links_of graph).outputs e) p ≡ false
  not_here k p unended made = false_from_ne_true (has_number ((links_of graph).outputs e) p) (λ here.
      let same = same_some (suc k) (suc e) (sym (makers_failed (edges_of course) graph suits.once stand_here k p made) ∙ makers_failed (edges_of course) graph suits.once stand_here e p here) in
      false≢true (sym unended ∙ in_right ended_in ended-append on.steps (Ended (suc e) is_well ∷ []) (suc k) (ap (λ (n : ℕ). has_number (suc e ∷ []) n) same ∙ has_number-one (suc e))))

  noted_before : AreSeenBefore tells course graph so_far after new
  noted_before tell kept k stale unended restat p made =
      let was_seen = on.before tell (files_then course.own (edges_of course) course.entry now new (over_end tell kept).0 kept) k
      (ap (λ (l : List ℕ). has_number l (suc k)) (sym (out_of_date-append on.steps (Ended (suc e) is_well ∷ []) ∙ append-nil (out_of_date_in on.steps))) ∙ stale)
      (false_from_ne_true (has_number (ended_in on.steps) (suc k)) (λ h. false≢true (sym unended ∙ in_left ended_in ended-append on.steps (Ended (suc e) is_well ∷ []) (suc k) h))) restat p made in
      let between = noted_so.forgets.others p (not_here k p unended made) ∙ was_seen in
      noted_so.looked.stays p (ap is_asked between ∙ asked_stamp (stamp_of (file_at course.entry.history (text_at graph.manifest.paths p)))) ∙ between

  -- ---- the rest

  stamp_kept : (k : ℕ) → has_number (running_in on.steps) (suc k) ≡ true → StartedUnder (suc k) (get_or after.starts.items k 0) course.entry new
  stamp_kept k runs = subst (λ (l : List ℕ). StartedUnder (suc k) (get_or l k 0) course.entry new) (sym noted_so.beside.starts)
      (started_more (suc k) (get_or state.starts.items k 0) course.entry now new (Finish (suc e) ok ∷ []) (looked.events ∙ finish.events) (on.started k runs))

  noted_room : HasRoom graph after
  noted_room = record { looks = noted_so.looked.fits ∙ (noted_so.forgets.fits ∙ on.room.looks); starts = ap length noted_so.beside.starts ∙ on.room.starts }

  module _ (stays : LogStays) (none : NoneWhileRunning) (takes : TakesStep graph state.plan after.plan (Ended (suc e) is_well)) (noted : after.failed.items ≡ failed_after state.failed.items e is_well) where
    noted_logging : Logging tells course graph so_far (in_hand_after (suc e) is_well) new after.records.logs
    noted_logging = subst (λ (r : Records). Logging tells course graph so_far (in_hand_after (suc e) is_well) new r.logs) (sym {A = Records} noted_so.beside.records)
        (logging_with tells course graph on.steps so_far None (in_hand_after (suc e) is_well) new state.records.logs carried_new (rest_logging tells course graph suits state now mid new e ok on turn finish looked stays))

    abbrev on_ended : IsOn tells course graph (in_hand_after (suc e) is_well) after new
    on_ended = record {
      steps = so_far;
      planned = end_planned tells course graph suits state now mid new e ok on turn finish looked is_well after.plan takes;
      taken = end_tells tells course graph suits state now mid new e ok on turn finish looked is_well;
      since = end_since tells course graph suits state now mid new e ok on turn finish looked is_well;
      carried = carried_new;
      logging = noted_logging;
      told = noted_told;
      seen = noted_seen;
      anew = noted_anew;
      before = noted_before;
      started = λ k runs. stamp_kept k (ran_before on.steps (suc e) (suc k) is_well runs);
      removed = end_removed tells course graph suits state now mid new e ok on turn finish looked one told read_new;
      room = noted_room;
      cone = subst (λ (k : Cone). HasCone course.asked course.store graph k) (sym {A = Cone} noted_so.beside.cone) on.cone;
      ticking = subst (λ (t : List ℕ). IsOwnTick course.own t) (sym {A = List ℕ} noted_so.beside.tick) on.ticking;
      noted = ap (map suc) noted ∙ noted_after state.failed.items on.steps e is_well on.noted;
    }

    -- it was noted, and where it ended well that may be recorded
    pub end_taken_in : IsTakenIn tells course graph (suc e) (get_or after.starts.items e 0) is_well told after new
    end_taken_in = record {
      on = on_ended;
      before = on.steps;
      last = refl;
      well = λ went. record {
        well = well_ended on.steps (suc e) is_well went;
        started = stamp_kept e edge_here.running;
        ended = λ tell. (_, ended_here tells course.behaviour course.format course.own course.asked course.store course.entry course.phases (goes_on course) on.steps now mid new (suc e) ok finish looked on.carried tell (went_well ok told went));
        none = none_in_force tells course graph suits state now mid new e ok on turn finish looked stays none;
        told = has_told tells course graph suits one state now mid new (suc e) ok on finish looked told read_new went;
      };
    }

-- ---- its depfile was read

-- where no failure was noted it ended well
pub not_failed : (failed : List ℕ) (e : ℕ) (well : Bool) → failed ≡ failed_after failed e well → well ≡ true
not_failed failed e true same = refl
not_failed failed e false same = absurd (longer_by_one failed e same)
  where
    longer_by_one : (failed : List ℕ) (e : ℕ) → failed ≡ failed ++ e ∷ [] → ⊥
    longer_by_one failed e same = let more = length_push failed e in omega (arith, more, ap length same)

pub ending_of : (tells : Bool) (course : Course) (graph : Graph) → Suits course graph → (state : Work) (now mid new : World) (job e : ℕ) (ok : Bool) (told : Told) (act : Act) → job ≡ suc e
    → (on : IsOn tells course graph None state now) → MayTakeIn course on.steps → Finishes tells job ok now mid → OnlyLooks tells mid new
    → act ≡ (edge_at (declared_by graph).edges (suc e)).act → WasRead tells act ok mid new told → IsEnding tells course graph (suc e) ok told state new
ending_of tells course graph suits state now mid new job e ok told act is on turn finish looks act_is read = record {
  before = now;
  mid = mid;
  on = on;
  may = turn;
  finishes = subst (λ (n : ℕ). Finishes tells n ok now mid) is finish;
  looks = looks;
  read = subst (λ (a : Act). WasRead tells a ok mid new told) (act_is ∙ ap (λ (g : BuildGraph). (edge_at g.edges (suc e)).act) (sym suits.same)) read;
}

module _ (tells : Bool) (course : Course) (graph : Graph) (suits : Suits course graph) (state : Work) (now : World) (e : ℕ) (ok well : Bool) (told : Told) (is : well ≡ ended_well ok told) (one : OneAnswer) (ending : IsEnding tells course graph (suc e) ok told state now) where
  pub ending_stands : standing_at state.plan.standings.items e ≡ Running
  ending_stands =
      let runs = running_edge tells course graph None state ending.before ending.on (suc e) ending.finishes.ran in
      let same : e ≡ runs.edge = omega (arith, runs.is) in
      ap (standing_at state.plan.standings.items) same ∙ runs.stands

  -- what the edge is, in the graph that is declared
  pub ending_command : IsCommand (declared_by graph).edges (suc e)
  ending_command = subst (λ (g : BuildGraph). IsCommand g.edges (suc e)) suits.same (running_edge tells course graph None state ending.before ending.on (suc e) ending.finishes.ran).command

  -- where noting it met a fault
  pub ending_cut : (new : World) → OnlyLooks tells now new → (plan : Plan) → TakesStep graph state.plan plan (Ended (suc e) well) → IsCut tells course graph plan new
  ending_cut new looks plan takes =
      end_cut tells course graph suits state ending.before ending.mid new e ok ending.on ending.may ending.finishes (looks_then tells ending.mid now new ending.looks looks) one told
      (was_read_before tells (edge_at (edges_of course) (suc e)).act ok ending.mid now new told looks ending.read) plan (subst (λ (b : Bool). TakesStep graph state.plan plan (Ended (suc e) b)) is takes)

  pub ending_taken : StandFor (declared_by graph).edges graph.manifest.paths (links_of graph) → (new : World) (after : Work) → HasEnded tells graph e well now new state after → LogStays → NoneWhileRunning
      → TakesStep graph state.plan after.plan (Ended (suc e) well) → after.failed.items ≡ failed_after state.failed.items e well → IsTakenIn tells course graph (suc e) (get_or after.starts.items e 0) well told after new
  ending_taken stand new after noted_so stays none takes noted =
      subst (λ (b : Bool). IsTakenIn tells course graph (suc e) (get_or after.starts.items e 0) b told after new) (sym is)
      (end_taken_in tells course graph suits state ending.before ending.mid now new e ok ending.on ending.may ending.finishes ending.looks one told ending.read stand after
      (subst (λ (b : Bool). HasEnded tells graph e b now new state after) is noted_so) stays none
      (subst (λ (b : Bool). TakesStep graph state.plan after.plan (Ended (suc e) b)) is takes) (subst (λ (b : Bool). after.failed.items ≡ failed_after state.failed.items e b) is noted))
