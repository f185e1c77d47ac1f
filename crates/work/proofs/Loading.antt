-- A build stands before the load of a dyndep file: what the file that was read held, and how the build goes on behind the load, is
-- refused, or is cut off.
use Rattle.std.proofs.Common.{◌≡◌, ◌⊎◌, inl, inr, ℕ, zero, suc, ◌<◌, not, cond, Bool, true, false, IsTrue, List, [], ◌∷◌, ◌++◌, map, length, get_or, bytes_eq, Option, Some, None, is_some, Result, Ok, Err, refl, sym, ◌∙◌, ap, subst, append_assoc, arith}
use Rattle.std.specs.List.{All}
use Rattle.std.specs.Option.{option_map}
use Rattle.std.proofs.lemmas.Bool.{false≢true, false_from_ne_true}
use Rattle.std.proofs.lemmas.List.{append-nil, length-append}
use Rattle.model.specs.declared.event.Moment.{Moment}
use Rattle.model.specs.declared.graph.BuildGraph.{BuildGraph}
use Rattle.model.specs.declared.graph.Edge.{Edge}
use Rattle.model.specs.declared.record.Record.{Record}
use Rattle.model.specs.declared.record.DepsRecord.{DepsRecord}
use Rattle.model.specs.World.{World, file_at, content_of, stamp_of, view_of}
use Rattle.model.specs.Calls.{OnlyLooks, Sees}
use Rattle.model.specs.Graph.{has, has_number, edge_at, outputs, inputs, Addition, IsCommand, IsMadeOnce}
use Rattle.model.specs.Kept.{StartedUnder}
use Rattle.model.specs.Phases.{Phase, steps_of, IsGrownBy, IsPointAfter, IsInOrderAt, NothingNeededIsFree, WasNothingMissing, WasNothingMissingIn}
use Rattle.model.specs.Premises.{FilesAreKept}
use Rattle.model.specs.Reading.{IsInCone, IsCycle}
use Rattle.model.specs.Records.{OwnFiles, Store, recorded_of, recorded_inputs}
use Rattle.model.specs.Schedule.{Task, Step as Done, started_in, running_in}
use Rattle.model.specs.SingleBuild.{HeldAt, HasNoCycle, asked_with, task_of}
use Rattle.theory.specs.Run.{IsRunOrRest}
use Rattle.theory.proofs.SiteCalls.{looks_then}
use Rattle.theory.proofs.Growth.{HasGrown, grown_by}
use Rattle.theory.proofs.Lists.{has-left, has-right, has-cases, same_bytes, bytes_same, same_rest}
use Rattle.theory.proofs.Looks.{kept_before, edits_before}
use Rattle.theory.proofs.Makers.{maker_is}
use Rattle.theory.proofs.Orderly.{IsKept, kept_orderly}
use Rattle.theory.proofs.Runs.{rest_begins}
use Rattle.theory.specs.Ledger.{IsPhased, IsCutOff}
use Rattle.theory.proofs.AtMoments.{held_seen}
use Rattle.theory.proofs.Ledger.{cut_off}
use Rattle.theory.proofs.PhasesGoOn.{steps_of-append, so_far}
use Rattle.theory.proofs.Turned.{kept_then}
use Rattle.dyndep.specs.declared.addition.Addition.{Addition as Statement}
use Rattle.dyndep.specs.declared.fault.DynFault.{DynFault}
use Rattle.dyndep.specs.declared.fault.DynFault.TheVariants as said
use Rattle.dyndep.specs.Dyndep.{IsRead, accepted}
use Rattle.work.proofs.Points.{IsSpared, points_alike}
use Rattle.plan.specs.Flags as flags
use Rattle.paths.specs.Told.{text_at, texts_at}
use Rattle.graph.specs.declared.cone.Cone.{Cone}
use Rattle.graph.specs.Cone.{mark_at, is_listed}
use Rattle.graph.specs.declared.graph.Graph.{Graph}
use Rattle.graph.specs.Extended.{addition_of}
use Rattle.graph.specs.Linked.{StandFor, IsConeOf}
use Rattle.graph.specs.Links.{links_of}
use Rattle.graph.specs.Told.{declared_by}
use Rattle.judge.specs.declared.looks.Look.{Look}
use Rattle.judge.specs.Seen.{look_at, look_of, is_asked, AreKept, AreSeenOf}
use Rattle.plan.specs.declared.plan.Plan.{Plan}
use Rattle.plan.specs.Planned.{IsDeclaredTask, IsTaskOf, IsPlanned}
use Rattle.plan.specs.Standing.{standing_at, is_outside}
use Rattle.plan.specs.Staying.{AreInside}
use Rattle.records.specs.declared.logs.Logs.{Logs}
use Rattle.records.specs.Known.{AreKnown}
use Rattle.records.specs.Laws.{LogStays}
use Rattle.records.specs.Logging.{IsLogging}
use Rattle.work.specs.declared.state.Work.{Work}
use Rattle.work.specs.Course.{Course, IsOwnTick, HasCone, edges_of, goes_on, IsOn, is_quiet}
use Rattle.work.specs.Going.{IsInHand}
use Rattle.work.proofs.Keeping.{seen_kept, looks_quiet, on_looks}
use Rattle.work.proofs.Loaded.{HasMore, HasRoomFor, loaded_course, on_loaded, suits_loaded}
use Rattle.work.proofs.Quiet.{quiet_from}
use Rattle.work.proofs.Settled.{settled_rests}
use Rattle.work.specs.declared.report.Refusal.{Refusal}
use Rattle.work.specs.declared.report.Refusal.TheVariants.{File as BuildFile, MadeTwice, NoDyndepInput, Occupied, NoDyndep, BadVersion, BadStatement, Unfit, UnknownTarget, Cycle, Missing}
use Rattle.work.specs.Standing.{grown_course, task_over, is_bound, IsUnstarted, StandsAt, HasAsked, BeginsAt, IsLoadNext, IsHeldLoad, IsRefusedBy, HasBegun, IsStopped, IsCutThere, files_left}
use Rattle.work.specs.Joined.{WasHeld, IsUnread, IsUnfitBy, IsCircleBy, IsUnjoined, MayJoin, HasJoinedFile, GoesOnWith, HasRoomIn, StayKnown, IsAsBefore}
use Rattle.work.specs.Loads.{HeldThen, IsRefusedFile, IsSaying, IsUnfitFor}
use Rattle.judge.specs.UnderWay.{IsUnderWay}
use Rattle.work.proofs.Asking.{known as store_known}
use Rattle.work.proofs.Callers.{under_way}
use Rattle.work.proofs.Fewer.{fewer_left}
use Rattle.work.proofs.FileJoins.{none_unloaded, text_front, texts_front, same_graph}
use Rattle.work.proofs.KnownClean.{listed_suc}
use Rattle.work.proofs.LoadPoints.{point_now, asked_later, asked_load}
use Rattle.work.proofs.Telling.{none_of_phony}
use Rattle.work.proofs.Unedited.{bound_kept}

-- ---- histories

-- a phase of which no step was taken
pub fresh_of : (tells : Bool) (course : Course) (steps : List Done) (now : World) (phases : List Phase) (edges : List Edge) (last : List Done)
    → (phased : IsPhased tells course.behaviour course.own course.asked course.store (phases ++ record { edges = edges; steps = last } ∷ []) steps course.entry now) → steps ≡ steps_of phases ++ last → phased.build.last ≡ []
fresh_of tells course steps now phases edges last phased is = no_first phased.build.last phased.build.taken_in (same_rest steps (phased.build.last ++ phased.build.taken_in) [] (sym whole ∙ sym (append-nil steps)))
  where
    no_first : (xs ys : List Done) → xs ++ ys ≡ [] → xs ≡ []
    no_first [] ys is = refl
    no_first (x ∷ xs) ys is = cc

    before : steps_of phased.build.earlier ≡ steps
    before = ap steps_of phased.so ∙ (steps_of-append phases (record { edges = edges; steps = last } ∷ []) ∙ (ap (λ (l : List Done). steps_of phases ++ l) (append-nil last) ∙ sym is))

    whole : steps ≡ steps ++ (phased.build.last ++ phased.build.taken_in)
    whole = phased.build.whole ∙ ap (λ (l : List Done). l ++ (phased.build.last ++ phased.build.taken_in)) before

-- what was asked in each phase was asked in those that have steps
pub asked_in : (own : OwnFiles) (task : Task) (store : Store) (old new : List Moment) (before : List Done) (phases : List Phase) (last : List Done) → WasNothingMissing own task store old new before phases → WasNothingMissingIn own task store old new before phases last
asked_in own task store old new before [] [] was = tt
asked_in own task store old new before [] (step ∷ last) was = was
asked_in own task store old new before (phase ∷ phases) last was = (was.0, asked_in own task store old new (before ++ phase.steps) phases last was.1)

some_in : (xs : List ℕ) (n : ℕ) → has_number xs n ≡ true → 0 < length xs
some_in [] n there = absurd (false≢true there)
some_in (x ∷ xs) n there = omega arith

asked_below : (seen : List Look) (p : ℕ) → is_asked (look_at seen p) ≡ true → p < length seen
asked_below [] p asked = absurd (false≢true asked)
asked_below (look ∷ seen) zero asked = omega arith
asked_below (look ∷ seen) (suc p) asked = let lt = asked_below seen p asked in omega (arith, lt)

-- ---- a build that stands before a load

module _ (tells : Bool) (course : Course) (edges : List Edge) (phases : List Phase) (graph : Graph) (state : Work) (now : World) (stands : StandsAt tells course edges phases graph state now) (file : ℕ)
    (next_load : IsLoadNext course edges graph state stands.on.steps file) where
  abbrev here : Course
  here = grown_course course edges phases

  abbrev path : List ℕ
  path = text_at graph.manifest.paths file

  abbrev steps : List Done
  steps = stands.on.steps

  kept : IsKept edges steps
  kept = kept_orderly edges steps stands.on.carried.run.orderly

  pub may_join : MayJoin (asked_with course.asked edges) course.store graph state file
  may_join = record {
    same = stands.suits.same;
    recorded = stands.suits.recorded;
    known = subst (λ (l : List Record). AreKnown graph l course.store.deps state.records) (sym {A = List Record} stands.on.told.same.0)
        (subst (λ (l : List DepsRecord). AreKnown graph stands.on.told.records l state.records) (sym {A = List DepsRecord} stands.on.told.same.1) stands.on.told.known);
    over = stands.on.planned.over;
    some = some_in state.plan.loads.items file next_load.wanted;
    within = next_load.known;
    seen = stands.on.room.looks;
    targets = stands.on.cone.within;
    numbers = stands.on.cone.numbers;
    listed = subst (λ (b : BuildGraph). IsConeOf b.edges (recorded_inputs course.store b.edges) (texts_at graph.manifest.paths state.cone.targets.items) state.cone.order.items state.cone.marks.items) stands.suits.same
        (subst (λ (ts : List (List ℕ)). IsConeOf edges (recorded_inputs course.store edges) ts state.cone.order.items state.cone.marks.items) (sym {A = List (List ℕ)} stands.on.cone.numbers) stands.on.cone.listed);
  }

  -- just the edges of the cone stand in it
  pub stand_inside : AreInside state.cone.marks.items state.plan.standings.items
  stand_inside e = by (is_outside (standing_at state.plan.standings.items e)) refl
    where
      by : (b : Bool) → is_outside (standing_at state.plan.standings.items e) ≡ b → is_listed (mark_at state.cone.marks.items e) ≡ not b
      by true is = stands.on.cone.listed.marked e ∙ false_from_ne_true (has_number state.cone.order.items e) (λ there. false≢true (sym (stands.on.planned.inside e (stands.on.cone.listed.within e there)) ∙ is))
      by false is = stands.on.cone.listed.marked e ∙ listed_suc state.cone.order.items e (stands.on.cone.listed.all (suc e) (stands.on.planned.within e is))

  -- ---- over calls that only look

  module _ (stays : LogStays) (new : World) (looks : OnlyLooks tells now new) where
    abbrev on_new : IsOn tells here graph None state new
    on_new = on_looks tells here graph stays None state now new stands.on stands.suits.once looks

    rest : IsRunOrRest tells course.own (task_over course edges) steps course.entry new
    rest = rest_begins tells course.own (task_over course edges) course.entry steps new on_new.carried.run

    pub unstarted_new : started_in steps ≡ [] → IsUnstarted tells course graph state new
    unstarted_new none = record {
      looks = looks_then tells course.entry now new was.looks looks;
      seen = λ tell free edits.
          let call = looks.history tell in
          seen_kept (is_bound free) graph.manifest.paths state.looks.seen.items now.history new.history call.more call.grows (bound_kept tells course.own course.entry now new stands.suits.idle was.looks looks tell free edits)
          (was.seen tell free (edits_before free course.entry.history now.history new.history call.more call.grows edits));
    }
      where
        was : IsUnstarted tells course graph state now
        was = stands.unstarted none

    -- it stands there with records that are kept in another way
    module _ (after : Work) (same : IsAsBefore state after) (known : StayKnown graph graph state.records after.records) where
      abbrev on_after : IsOn tells here graph None after new
      on_after = record {
        steps = steps;
        planned = subst (λ (p : Plan). IsPlanned (task_of here.asked here.store) graph p steps) (sym {A = Plan} same.plan) on_new.planned;
        taken = on_new.taken;
        since = on_new.since;
        carried = on_new.carried;
        logging = subst (λ (l : Logs). IsLogging tells here.behaviour here.format here.own (edges_of here) steps None here.store here.entry new l) (sym {A = Logs} same.logs) on_new.logging;
        told = record { records = on_new.told.records; deps = on_new.told.deps; known = known on_new.told.records on_new.told.deps on_new.told.known; same = on_new.told.same };
        seen = λ tell files p asked quiet.
            ap (λ (l : List Look). look_at l p) same.looks ∙ on_new.seen tell files p (ap (λ (l : List Look). is_asked (look_at l p)) (sym {A = List Look} same.looks) ∙ asked) quiet;
        anew = λ tell files p lt unfailed. ap (λ (l : Plan). flags.has l.changed.items p) same.plan ∙ on_new.anew tell files p lt unfailed;
        before = λ tell files e stale unended restat p made. ap (λ (l : List Look). look_at l p) same.looks ∙ on_new.before tell files e stale unended restat p made;
        started = λ e runs. subst (λ (l : List ℕ). StartedUnder (suc e) (get_or l e 0) here.entry new) (sym {A = List ℕ} same.starts) (on_new.started e runs);
        removed = on_new.removed;
        room = record { looks = ap (λ (l : List Look). length l) same.looks ∙ on_new.room.looks; starts = ap (λ (l : List ℕ). length l) same.starts ∙ on_new.room.starts };
        cone = subst (λ (k : Cone). HasCone here.asked here.store graph k) (sym {A = Cone} same.cone) on_new.cone;
        ticking = subst (λ (t : List ℕ). IsOwnTick here.own t) (sym {A = List ℕ} same.tick) on_new.ticking;
        noted = ap (map suc) same.failed ∙ on_new.noted;
      }

      abbrev pub stands_after : StandsAt tells course edges phases graph after new
      stands_after = record {
        goes = stands.goes;
        dyndeps = stands.dyndeps;
        others = stands.others;
        suits = stands.suits;
        on = on_after;
        acyclic = stands.acyclic;
        unstarted = λ none.
            let was = unstarted_new none in
            record { looks = was.looks; seen = λ tell free edits. subst (λ (l : List Look). AreSeenOf (is_bound free) graph.manifest.paths new.history l) (sym {A = List Look} same.looks) (was.seen tell free edits) };
      }

      -- the load is refused there
      pub stopped_there : (refusal : Refusal) → IsRefusedBy tells course edges phases steps new refusal → IsStopped tells course edges phases graph after new refusal
      stopped_there refusal cause = record { stands = stands_after; cause = cause }

    -- ---- what the file held

    -- at a moment when just the steps so far were done
    seen_then : (held : Option (List ℕ)) → (tell : IsTrue tells) → Sees (λ history. view_of history path) held now.history new.history → HeldAt path held steps course.entry.history new.history
    seen_then held tell sees = held_seen tells course.own (task_over course edges) steps course.entry now new path held stands.on.carried.run looks tell sees

    module _ (tell : IsTrue tells) (files : FilesAreKept course.own edges course.entry.history new.history) (bound : files.free path ≡ false) where
      outside : course.own.set path ≡ false
      outside = files.own_files.inputs next_load.next.due.edge path (stands.on.carried.phased.inputs next_load.next.due.edge path next_load.next.due.names)

      foreign : course.own.files path ≡ false
      foreign = false_from_ne_true (course.own.files path) (λ mine. false≢true (sym outside ∙ files.own_files.within path mine))

      private : (i : ℕ) → IsCommand edges i → (path ≡ (edge_at edges i).act.depfile) ⊎ (path ≡ (edge_at edges i).act.response_path) → ⊥
      private i command (inl is) = false≢true (sym outside ∙ (ap course.own.set is ∙ (files.own_files.depfiles i command).0))
      private i command (inr is) = false≢true (sym outside ∙ (ap course.own.set is ∙ (files.own_files.responses i command).0))

      -- who makes it is settled, and runs no more
      rests : (i : ℕ) → has_number (running_in steps) i ≡ true → has (outputs (edge_at edges i)) path ≡ true → ⊥
      rests i runs made = settled_rests edges steps kept i (next_load.next.due.settled i (maker_is edges path i stands.suits.once made)) runs

      quiet : is_quiet files.free course.own edges steps path ≡ true
      quiet = quiet_from files.free course.own edges steps path (record { bound = bound; foreign = foreign; private = private; rests = rests })

      still : AreKept (is_quiet files.free course.own edges steps) now.history new.history
      still = (looks_quiet tells here graph stays None state now new stands.on looks tell files).1

      -- it holds that still
      pub holds_still : (held : Option (List ℕ)) → Sees (λ history. view_of history path) held now.history new.history → view_of new.history path ≡ held
      holds_still held sees =
          ap content_of (ap (λ (h : List Moment). file_at h path) sees.grows ∙ (still path quiet (sees.earlier ++ sees.later) [] whole
          ∙ sym (still path quiet sees.earlier sees.later sees.grows))) ∙ sym sees.is
        where
          whole : new.history ≡ now.history ++ ((sees.earlier ++ sees.later) ++ [])
          whole = sees.grows ∙ ap (λ (l : List Moment). now.history ++ l) (sym (append-nil (sees.earlier ++ sees.later)))

      spared : (p : List ℕ) → bytes_eq path p ≡ true → IsSpared files.free course.own edges steps p
      spared p is = subst (λ (q : List ℕ). IsSpared files.free course.own edges steps q) (same_bytes path p is)
          (record { bound = bound; foreign = foreign; private = λ j stale. private j (kept.judged j (kept.out_of_date j stale)); rests = rests })

      -- and held it right behind the last start or finish
      pub held_then : (held : Option (List ℕ)) → Sees (λ history. view_of history path) held now.history new.history → HeldThen steps path course.entry.history new.history held
      held_then held sees = record {
        at = point.0;
        point = point.1;
        is = ap content_of (alike path (bytes_same path)) ∙ holds_still held sees;
      }
        where
          point : (at : List Moment) × IsPointAfter steps course.entry.history new.history at
          point = point_now tells course.own (task_over course edges) steps course.entry new on_new.carried.run tell

          alike : (p : List ℕ) → bytes_eq path p ≡ true → file_at point.0 p ≡ file_at new.history p
          alike = (points_alike tells course.own (task_over course edges) steps course.entry new on_new.carried.beside.idle on_new.carried.run tell files (λ p. bytes_eq path p) spared point.0 point.1).paths

    -- ---- why it is refused

    -- the file ends the build by what it held
    refused_file : (Faulty : Option (List ℕ) → Type 0) → (read : WasHeld tells path Faulty now new) → IsRefusedFile tells course.own (asked_with course.asked edges) course.store steps course.entry new path Faulty
    refused_file Faulty read = record {
      next = next_load.next;
      held = read.held;
      faulty = read.so;
      was = λ tell. seen_then read.held tell (read.seen tell);
      is = λ tell files bound. held_then tell files bound read.held (read.seen tell);
    }

    pub unread_cause : (refusal : Refusal) → IsUnread tells path now new refusal → IsRefusedBy tells course edges phases steps new refusal
    unread_cause (BuildFile fault) is = absurd is
    unread_cause (MadeTwice other) is = absurd is
    unread_cause (NoDyndepInput other) is = absurd is
    unread_cause (Occupied occupied) is = absurd is
    unread_cause (NoDyndep other) is = subst (λ (p : List ℕ). IsRefusedFile tells course.own (asked_with course.asked edges) course.store steps course.entry new p (λ held. held ≡ None)) (sym {A = List ℕ} is.0) (refused_file (λ held. held ≡ None) is.1)
    unread_cause (BadVersion other) is =
        subst (λ (p : List ℕ). IsRefusedFile tells course.own (asked_with course.asked edges) course.store steps course.entry new p (IsSaying (Err said.BadVersion))) (sym {A = List ℕ} is.0) (refused_file (IsSaying (Err said.BadVersion)) is.1)
    unread_cause (BadStatement other) is =
        subst (λ (p : List ℕ). IsRefusedFile tells course.own (asked_with course.asked edges) course.store steps course.entry new p (IsSaying (Err said.BadStatement))) (sym {A = List ℕ} is.0)
        (refused_file (IsSaying (Err said.BadStatement)) is.1)
    unread_cause (Unfit unfit) is = absurd is
    unread_cause (UnknownTarget target) is = absurd is
    unread_cause (Cycle paths) is = absurd is
    unread_cause (Missing missing) is = absurd is

    -- ---- a file that was read

    module _ (one : (bytes : List ℕ) (a b : Result (List Statement) DynFault) → IsRead bytes a → IsRead bytes b → a ≡ b) (statements : List Statement) (read : WasHeld tells path (IsSaying (Ok statements)) now new) where
      abbrev additions : List Addition
      additions = map addition_of statements

      abbrev content : List ℕ
      content = read.so.0

      reads : course.behaviour.dyndep content ≡ Some additions
      reads =
          let told = stands.dyndeps content in
          told.2 ∙ ap (λ (o : Result (List Statement) DynFault). option_map (map addition_of) (accepted o)) (one content told.0 (Ok statements) told.1 read.so.2)

      holds : IsTrue tells → (files : FilesAreKept course.own edges course.entry.history new.history) → files.free path ≡ false → view_of new.history path ≡ Some content
      holds tell files bound = holds_still tell files bound read.held (read.seen tell) ∙ read.so.1

      held_here : IsTrue tells → HeldAt path (Some content) steps course.entry.history new.history
      held_here tell = subst (λ (h : Option (List ℕ)). HeldAt path h steps course.entry.history new.history) read.so.1 (seen_then read.held tell (read.seen tell))

      held_load : (next : List Edge) → IsGrownBy path additions edges next → IsHeldLoad tells course edges steps new next
      held_load next grown = record { file = path; is_next = next_load.next; content = content; additions = additions; read = reads; grown = grown; holds = holds; held = held_here }

      unfit_cause : (refusal : Refusal) → IsUnfitBy edges path additions refusal → IsRefusedBy tells course edges phases steps new refusal
      unfit_cause (BuildFile fault) is = absurd is
      unfit_cause (MadeTwice other) is = (is.next, held_load is.next is.grown, is.twice)
      unfit_cause (NoDyndepInput other) is = absurd is
      unfit_cause (Occupied occupied) is = absurd is
      unfit_cause (NoDyndep other) is = absurd is
      unfit_cause (BadVersion other) is = absurd is
      unfit_cause (BadStatement other) is = absurd is
      unfit_cause (Unfit unfit) is =
          subst (λ (p : List ℕ). IsRefusedFile tells course.own (asked_with course.asked edges) course.store steps course.entry new p (IsUnfitFor edges p unfit.output)) (sym {A = List ℕ} is.0)
          (refused_file (IsUnfitFor edges path unfit.output) (record { held = read.held; so = (statements, read.so, is.1); seen = read.seen }))
      unfit_cause (UnknownTarget target) is = absurd is
      unfit_cause (Cycle paths) is = absurd is
      unfit_cause (Missing missing) is = absurd is

      circle_cause : (refusal : Refusal) → IsCircleBy (asked_with course.asked edges) course.store path additions refusal → IsRefusedBy tells course edges phases steps new refusal
      circle_cause (BuildFile fault) is = absurd is.circle
      circle_cause (MadeTwice other) is = absurd is.circle
      circle_cause (NoDyndepInput other) is = absurd is.circle
      circle_cause (Occupied occupied) is = absurd is.circle
      circle_cause (NoDyndep other) is = absurd is.circle
      circle_cause (BadVersion other) is = absurd is.circle
      circle_cause (BadStatement other) is = absurd is.circle
      circle_cause (Unfit unfit) is = absurd is.circle
      circle_cause (UnknownTarget target) is = absurd is.circle
      circle_cause (Cycle paths) is = (is.next, held_load is.next is.grown, is.once, is.circle)
      circle_cause (Missing missing) is = absurd is.circle

      pub unjoined_cause : (refusal : Refusal) → IsUnjoined (asked_with course.asked edges) course.store path additions refusal → IsRefusedBy tells course edges phases steps new refusal
      unjoined_cause refusal (inl unfit) = unfit_cause refusal unfit
      unjoined_cause refusal (inr circle) = circle_cause refusal circle

      -- ---- what it says has joined

      module _ (grown : Graph) (after : Work) (gone : GoesOnWith course.store graph grown state.cone.targets.items after.cone state.plan after.plan path additions)
          (stand : StandFor (declared_by graph).edges graph.manifest.paths (links_of graph)) (stand_grown : StandFor (declared_by grown).edges grown.manifest.paths (links_of grown))
          (is_task : (task : Task) → IsDeclaredTask task grown → IsTaskOf task grown) where
        abbrev next : List Edge
        next = (declared_by grown).edges

        abbrev joined : HasJoinedFile course.store graph grown path additions
        joined = gone.joined

        gains : HasMore graph grown path additions
        gains = record {
          edges = subst (λ (b : BuildGraph). IsGrownBy path additions (declared_by graph).edges b.edges) (sym {A = BuildGraph} joined.more.declared) joined.has.grown;
          once = subst (λ (b : BuildGraph). IsMadeOnce b.edges) (sym {A = BuildGraph} joined.more.declared) joined.has.once;
          pools = ap (λ (b : BuildGraph). b.pools) joined.more.declared ∙ joined.has.pools;
          defaults = ap (λ (b : BuildGraph). b.defaults) joined.more.declared ∙ joined.has.defaults;
          builddir = ap (λ (b : BuildGraph). b.builddir) joined.more.declared ∙ joined.has.builddir;
          lines = ap length joined.more.lines ∙ joined.has.lines;
          added = joined.has.added ++ joined.more.more;
          paths = joined.more.paths ∙ (ap (λ (l : List (List ℕ)). l ++ joined.more.more) joined.has.paths ∙ append_assoc graph.manifest.paths joined.has.added joined.more.more);
        }

        same_edges : edges ≡ (declared_by graph).edges
        same_edges = ap (λ (b : BuildGraph). b.edges) stands.suits.same

        grown_here : IsGrownBy path additions edges next
        grown_here = subst (λ (es : List Edge). IsGrownBy path additions es next) (sym same_edges) gains.edges

        more : HasGrown edges next
        more = grown_by path additions edges next grown_here

        -- files that are kept over the edges of now were kept over those before, before the load
        abbrev before : IsTrue tells → FilesAreKept course.own next course.entry.history new.history → FilesAreKept course.own edges course.entry.history new.history
        before tell files = kept_then tells course.own (task_over course edges) next more steps course.entry new tell on_new.carried.beside.idle rest
            (λ i started. stands.on.carried.phased.loaded i (kept.out_of_date i (kept.started i started))) files

        -- ---- the task

        abbrev last : List Done
        last = on_new.carried.phased.build.last

        abbrev ended : Phase
        ended = record { edges = edges; steps = last }

        abbrev later : Course
        later = loaded_course here next last

        targets_are : texts_at grown.manifest.paths state.cone.targets.items ≡ (task_over course next).targets
        targets_are = ap (λ (l : List (List ℕ)). texts_at l state.cone.targets.items) gains.paths ∙ (texts_front graph.manifest.paths gains.added state.cone.targets.items stands.on.cone.within ∙ stands.on.cone.numbers)

        is_cone : IsConeOf next (recorded_inputs course.store next) (task_over course next).targets after.cone.order.items after.cone.marks.items
        is_cone = subst (λ (l : List (List ℕ)). IsConeOf next (recorded_inputs course.store next) l after.cone.order.items after.cone.marks.items) targets_are gone.cone_of.listed

        within_then : All (λ p. p < length grown.manifest.paths) state.cone.targets.items
        within_then k d lt =
            let low = stands.on.cone.within k d lt in
            let sum = ap length gains.paths ∙ length-append graph.manifest.paths gains.added in
            omega (arith, low, sum)

        coned : HasCone later.asked later.store grown after.cone
        coned = record {
          listed = is_cone;
          within = subst (λ (l : List ℕ). All (λ p. p < length grown.manifest.paths) l) (sym {A = List ℕ} gone.cone_of.numbers) within_then;
          numbers = ap (texts_at grown.manifest.paths) gone.cone_of.numbers ∙ targets_are;
        }

        acyclic : HasNoCycle (asked_with course.asked next) course.store
        acyclic = subst (λ (l : List (List ℕ)). (i : ℕ) → IsInCone next (recorded_inputs course.store next) l i → IsCycle next (recorded_inputs course.store next) i → ⊥) targets_are gone.cone_of.acyclic

        order : IsInOrderAt course.store (task_of later.asked course.store)
        order = record { once = gains.once; acyclic = acyclic }

        stated : IsTaskOf (task_of later.asked later.store) grown
        stated = is_task (task_of later.asked later.store) (record {
          declared = same_graph (declared_by grown) course.asked.graph.pools course.asked.graph.defaults course.asked.graph.builddir
              (ap (λ (b : BuildGraph). b.pools) stands.suits.same ∙ sym gains.pools) (ap (λ (b : BuildGraph). b.defaults) stands.suits.same ∙ sym gains.defaults) (ap (λ (b : BuildGraph). b.builddir) stands.suits.same ∙ sym gains.builddir);
          recorded = joined.recorded;
          bare = none_of_phony grown course.store joined.recorded;
        })

        split : steps ≡ steps_of phases ++ last
        split = so_far tells course.behaviour course.own here.asked course.store course.entry phases steps new on_new.carried.phased (on_new.carried.goes stands.goes)
            ∙ ap (λ (l : List Phase). steps_of l ++ last) on_new.carried.phased.so

        recorded_more : (i : ℕ) (p : List ℕ) → has (recorded_inputs course.store edges i) p ≡ true → has (recorded_inputs course.store next i) p ≡ true
        recorded_more i p there = by_dyndep (edge_at edges i).dyndep refl
          where
            by_dyndep : (d : Option (List ℕ)) → (edge_at edges i).dyndep ≡ d → has (recorded_inputs course.store next i) p ≡ true
            by_dyndep None is = ap (λ (x : Edge). has (cond x.phony [] (cond (is_some x.dyndep) [] (recorded_of course.store x))) p) (more.same i is) ∙ there
            by_dyndep (Some f) is = absurd (none_unloaded (edge_at edges i).phony (edge_at edges i).dyndep f (recorded_of course.store (edge_at edges i)) p is there)

        -- what was needed is needed still
        needed_before : (free : List ℕ → Bool) → NothingNeededIsFree free (task_over course next) → NothingNeededIsFree free (task_over course edges)
        needed_before free needed = (
          λ i p h. elim (has-cases (inputs (edge_at edges i)) (recorded_inputs course.store edges i) p h) [
            | inl input ↦ needed.0 i p (has-left (inputs (edge_at next i)) (recorded_inputs course.store next i) p (more.inputs i p input))
            | inr recorded ↦ needed.0 i p (has-right (inputs (edge_at next i)) (recorded_inputs course.store next i) p (recorded_more i p recorded))
          ],
          needed.1,
          λ i p h. needed.2 i p (more.outputs i p h),
        )

        -- nothing was missing when the phases began
        asked_then : HasAsked tells course edges phases now → (tell : IsTrue tells) → (files : FilesAreKept course.own next course.entry.history new.history) → NothingNeededIsFree files.free (task_over course next)
            → WasNothingMissingIn course.own (task_over course next) course.store course.entry.history new.history [] (phases ++ ended ∷ []) []
        asked_then was tell files needed =
            let call = looks.history tell in
            let so_far = before tell files in
            asked_load course.own course.asked course.store edges next course.entry.history new.history [] phases last
            (asked_later tells course.own (task_over course edges) steps course.entry now stands.on.carried.run tell call.more new.history call.grows phases last split (task_over course edges) course.store
            (was tell (kept_before course.own edges course.entry.history now.history new.history call.more call.grows so_far) (needed_before files.free needed)))

        -- what was done so far is that of a build over the edges as they are now
        module _ (room : HasRoomIn grown state after) (known : StayKnown graph grown state.records after.records) (logs : after.records.logs ≡ state.records.logs) where
          abbrev on_there : IsOn tells later grown None after new
          on_there = on_loaded tells here graph grown path additions gains stands.suits stands.goes state after new on_new
              (record { fits = room.fits; looks = room.looks; logs = logs; known = known; changed = room.changed; tick = room.tick; starts = room.starts; failed = room.failed })
              stand stand_grown content next_load.next reads order holds held_here gone.planned stated coned

          pub under_grown : IsUnderWay grown after.records after.cone after.plan course.store (task_over course next).targets steps
          under_grown =
              under_way grown after.records after.cone after.plan course.store
              (record { known = known course.store.records course.store.deps (store_known tells course edges phases graph state now stands).known; in_use = joined.recorded })
              (task_over course next).targets (task_over course next) refl refl refl steps on_there.planned on_there.taken is_cone coned.numbers

        -- ---- the run goes on

        module _ (was : HasAsked tells course edges phases now) (room : HasRoomIn grown state after) (known : StayKnown graph grown state.records after.records) (logs : after.records.logs ≡ state.records.logs) where
          has_room : HasRoomFor graph grown state after
          has_room = record { fits = room.fits; looks = room.looks; logs = logs; known = known; changed = room.changed; tick = room.tick; starts = room.starts; failed = room.failed }

          abbrev on_then : IsOn tells later grown None after new
          on_then = on_loaded tells here graph grown path additions gains stands.suits stands.goes state after new on_new has_room stand stand_grown content next_load.next reads order holds held_here gone.planned stated coned

          unstarted_then : started_in steps ≡ [] → IsUnstarted tells course grown after new
          unstarted_then none = record { looks = so.looks; seen = λ tell free edits p asked bound. seen_there free p asked bound (so.seen tell free edits) }
            where
              so : IsUnstarted tells course graph state new
              so = unstarted_new none

              seen_there : (free : List ℕ → Bool) (p : ℕ) → is_asked (look_at after.looks.seen.items p) ≡ true → is_bound free (text_at grown.manifest.paths p) ≡ true → AreSeenOf (is_bound free) graph.manifest.paths new.history state.looks.seen.items
                  → look_at after.looks.seen.items p ≡ look_of (stamp_of (file_at new.history (text_at grown.manifest.paths p)))
              seen_there free p asked bound seen = room.looks p ∙ (seen p asked_before (ap (is_bound free) (sym text) ∙ bound) ∙ ap (λ (t : List ℕ). look_of (stamp_of (file_at new.history t))) (sym text))
                where
                  asked_before : is_asked (look_at state.looks.seen.items p) ≡ true
                  asked_before = ap is_asked (sym (room.looks p)) ∙ asked

                  text : text_at grown.manifest.paths p ≡ text_at graph.manifest.paths p
                  text = ap (λ (l : List (List ℕ)). text_at l p) gains.paths
                      ∙ text_front graph.manifest.paths gains.added p (let lt = asked_below state.looks.seen.items p asked_before in let size = stands.on.room.looks in omega (arith, lt, size))

          -- a phase begins
          pub begun : BeginsAt tells course next (phases ++ ended ∷ []) grown after new
          begun = record {
            stands = record {
              goes = stands.goes;
              dyndeps = stands.dyndeps;
              others = stands.others;
              suits = suits_loaded tells here graph grown path additions gains stands.suits stands.goes state after new on_new has_room stand stand_grown joined.recorded;
              on = on_then;
              acyclic = acyclic;
              unstarted = unstarted_then;
            };
            fresh = fresh_of tells later steps new phases edges last on_then.carried.phased split;
            asked = asked_then was;
          }

          -- the file was loaded
          pub has_begun : HasBegun tells course phases grown after new
          has_begun = (next, ended, begun)

    -- ---- a fault

    -- it is cut off where it stood
    pub cut_here : (after : Work) → after.plan ≡ state.plan → HasAsked tells course edges phases now → IsCutThere tells course edges after new
    cut_here after same was = record {
      phases = phases;
      graph = graph;
      cut = record {
        steps = steps;
        met = None;
        planned = subst (λ (p : Plan). IsPlanned (task_of here.asked here.store) graph p steps) (sym {A = Plan} same) on_new.planned;
        taken = on_new.taken;
        since = on_new.since;
        run = on_new.carried.run;
        cut = cut_now;
        in_hand = λ i is. nothing i is;
      };
      once = stands.suits.once;
      acyclic = stands.acyclic;
      asked = λ tell files needed.
          let call = looks.history tell in
          let so_far = kept_before course.own edges course.entry.history now.history new.history call.more call.grows files in
          asked_in course.own (task_over course edges) course.store course.entry.history new.history [] phases cut_now.phased.build.last
          (asked_later tells course.own (task_over course edges) steps course.entry now stands.on.carried.run tell call.more new.history call.grows phases on_new.carried.phased.build.last split_here (task_over course edges) course.store (was tell so_far needed));
    }
      where
        cut_now : IsCutOff tells course.behaviour course.format course.own here.asked course.store phases steps None course.entry new
        cut_now = cut_off tells course.behaviour course.format course.own here.asked course.store course.entry phases (goes_on here) steps None new on_new.carried

        nothing : (i : ℕ) → None ≡ Some i → IsInHand (task_of here.asked here.store) steps i
        nothing i is = cc

        split_here : steps ≡ steps_of phases ++ on_new.carried.phased.build.last
        split_here = so_far tells course.behaviour course.own here.asked course.store course.entry phases steps new on_new.carried.phased (on_new.carried.goes stands.goes)
            ∙ ap (λ (l : List Phase). steps_of l ++ on_new.carried.phased.build.last) on_new.carried.phased.so

  -- fewer edges name a file behind the load
  pub fewer_by : (grown : Graph) (additions : List Addition) → HasJoinedFile course.store graph grown path additions → files_left (declared_by grown).edges < files_left (declared_by graph).edges
  fewer_by grown additions joined =
      fewer_left path additions (declared_by graph).edges (declared_by grown).edges (subst (λ (b : BuildGraph). IsGrownBy path additions (declared_by graph).edges b.edges) (sym {A = BuildGraph} joined.more.declared) joined.has.grown)
      next_load.next.due.edge (subst (λ (b : BuildGraph). (edge_at b.edges next_load.next.due.edge).dyndep ≡ Some path) stands.suits.same next_load.next.due.names)
