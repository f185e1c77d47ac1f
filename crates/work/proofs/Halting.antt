-- Where a run of a graph halts: before a load, at its end, or where it is stopped.
use Rattle.std.proofs.Common.{◌≡◌, ℕ, Bool, true, List, [], ◌∷◌, ◌++◌, ◌==◌, ◌+◌, length, Vec, Global, Some, None, Ok, Err, refl, sym, ◌∙◌, ap, subst, length-append, arith}
use Rattle.std.proofs.lemmas.List.{append-nil}
use Rattle.std.proofs.lemmas.Bool.{false≢true, or_left, eq-eqb}
use Rattle.model.specs.declared.event.Event.{Event}
use Rattle.model.specs.declared.graph.BuildGraph.{BuildGraph}
use Rattle.model.specs.declared.graph.Edge.{Edge}
use Rattle.model.specs.World.{World, IsIdle}
use Rattle.model.specs.Graph.{has_number}
use Rattle.model.specs.Phases.{Phase}
use Rattle.model.specs.Schedule.{Task, Step as Done, AreEventsOf, started_in, ended_in}
use Rattle.theory.specs.Run.{IsRun}
use Rattle.theory.proofs.SiteCalls.{looks_then}
use Rattle.theory.proofs.Events.{as_many}
use Rattle.theory.proofs.Lists.{same_rest}
use Rattle.theory.proofs.Looks.{edits_before}
use Rattle.theory.proofs.Orderly.{kept_orderly}
use Rattle.theory.specs.Ledger.{IsPhased, IsCutOff}
use Rattle.theory.proofs.Ledger.{cut_off}
use Rattle.theory.proofs.PhasesGoOn.{phased_on}
use Rattle.graph.specs.declared.graph.Graph.{Graph}
use Rattle.judge.specs.declared.looks.Looks.{Looks}
use Rattle.judge.specs.Looking.{HasLooked}
use Rattle.plan.specs.declared.plan.Plan.{Plan}
use Rattle.plan.specs.Planned.{IsPlanned}
use Rattle.records.specs.Laws.{LogStays}
use Rattle.work.specs.Shown.{Showing}
use Rattle.work.specs.declared.cut.Cut.{Cut}
use Rattle.work.specs.declared.state.Work.{Work}
use Rattle.work.specs.declared.summary.Summary.{Summary}
use Rattle.work.specs.After.{ComesAfter, LooksUnlessMore}
use Rattle.work.specs.Course.{Course, HasCone, goes_on, IsOn}
use Rattle.work.specs.Cut.{fault_of, IsLeft}
use Rattle.work.specs.Going.{IsAtLoad, IsInHand}
use Rattle.work.specs.Ran.{HasRun}
use Rattle.work.proofs.After.{after_looks, none_between}
use Rattle.work.proofs.Noticed.{with_looks, on_looked}
use Rattle.work.specs.Standing.{grown_course, task_over, is_bound, IsUnstarted, StandsAt, HasAsked, HadAsked, IsAtNextLoad, IsCutThere, HasDone, WasCut}
use Rattle.work.proofs.Asking.{asked_on, asked_in}
use Rattle.work.proofs.Unedited.{bound_kept}

-- ---- before the first start

nothing_by : {X : Type 0} (xs : List X) → length xs ≡ 0 → xs ≡ []
nothing_by [] is = refl
nothing_by {X} (x ∷ xs) is = let long : length (x ∷ xs) ≡ 0 = is in absurd (omega (arith, long))

-- where nothing was started, nothing happened
none_happened : (edges : List Edge) (steps : List Done) (events : List Event) → ((j : ℕ) → has_number (ended_in steps) j ≡ true → has_number (started_in steps) j ≡ true) → AreEventsOf edges steps events → started_in steps ≡ [] → events ≡ []
none_happened edges steps events within of_steps none = nothing_by events (as_many edges steps events of_steps ∙ none_in (started_in steps) (ended_in steps) none within)
  where
    none_in : (started ended : List ℕ) → started ≡ [] → ((j : ℕ) → has_number ended j ≡ true → has_number started j ≡ true) → length (started ++ ended) ≡ 0
    none_in [] [] is all = refl
    none_in [] (j ∷ ended) is all = absurd (false≢true (all j (here j ended)))
      where
        here : (j : ℕ) (ended : List ℕ) → has_number (j ∷ ended) j ≡ true
        here j ended = or_left (j == j) (has_number ended j) (eq-eqb j j refl)
    none_in (i ∷ started) ended is all = cc

-- where nothing happened, nothing was started
none_started : (edges : List Edge) (steps : List Done) (events : List Event) → AreEventsOf edges steps events → events ≡ [] → started_in steps ≡ []
none_started edges steps events of_steps none =
    nothing_by (started_in steps)
    (less (length (started_in steps)) (length (ended_in steps)) (sym (length-append (started_in steps) (ended_in steps)) ∙ (sym (as_many edges steps events of_steps) ∙ ap (λ (l : List Event). length l) none)))
  where
    less : (n m : ℕ) → n + m ≡ 0 → n ≡ 0
    less n m is = omega (arith, is)

-- What was seen before the first start is still so behind a call that only looks where nothing happens in it.
module _ (tells : Bool) (course : Course) (task : Task) (graph : Graph) (first second : Work) (before after : List Done) (now new : World) (run : IsRun tells course.own task before course.entry now) (later : IsRun tells course.own task after course.entry new)
    (grows : ComesAfter tells now new) (looked : LooksUnlessMore tells graph now new first.looks second.looks) (was : started_in before ≡ [] → IsUnstarted tells course graph first now) (idle : IsIdle course.entry.events) where
  pub still_unstarted : started_in after ≡ [] → IsUnstarted tells course graph second new
  still_unstarted none = record {
    looks = looks_then tells course.entry now new untouched.looks call.looks;
    seen = λ tell free edits.
        let more = grows.history tell in
        call.seen tell (is_bound free) (bound_kept tells course.own course.entry now new idle untouched.looks call.looks tell free edits)
        (untouched.seen tell free (edits_before free course.entry.history now.history new.history more.0 more.1 edits));
  }
    where
      new_is : new.events ≡ course.entry.events
      new_is =
          later.grows
          ∙ (ap (λ (l : List Event). course.entry.events ++ l) (none_happened task.graph.edges after later.events (λ j h. (kept_orderly task.graph.edges after later.orderly).ended j h) later.of_steps none) ∙ append-nil course.entry.events)

      now_is : now.events ≡ course.entry.events
      now_is = none_between course.entry.events now.events new.events run.events grows.events.0 run.grows grows.events.1 new_is

      none_before : started_in before ≡ []
      none_before = none_started task.graph.edges before run.events run.of_steps (same_rest course.entry.events run.events [] (sym run.grows ∙ (now_is ∙ sym (append-nil course.entry.events))))

      untouched : IsUnstarted tells course graph first now
      untouched = was none_before

      call : HasLooked tells graph now new first.looks second.looks
      call = looked (new_is ∙ sym now_is)

-- ---- it stands where it stood

module _ (tells : Bool) (course : Course) (edges : List Edge) (phases : List Phase) (graph : Graph) (state : Work) (now : World) (stands : StandsAt tells course edges phases graph state now) where
  abbrev here : Course
  here = grown_course course edges phases

  -- over a call of a run that goes on
  abbrev pub stands_on : (after : Work) (new : World) → ComesAfter tells now new → LooksUnlessMore tells graph now new state.looks after.looks → IsOn tells here graph None after new → StandsAt tells course edges phases graph after new
  stands_on after new grows looked on = record {
    goes = stands.goes;
    dyndeps = stands.dyndeps;
    others = stands.others;
    suits = stands.suits;
    on = on;
    acyclic = stands.acyclic;
    unstarted = λ none. still_unstarted tells course (task_over course edges) graph state after stands.on.steps on.steps now new stands.on.carried.run on.carried.run grows looked stands.unstarted stands.suits.idle none;
  }

  -- ---- before a load

  pub load_at : (after : Work) (file : ℕ) (new : World) → ComesAfter tells now new → LooksUnlessMore tells graph now new state.looks after.looks → HasAsked tells course edges phases now → IsAtLoad tells here graph after file new
      → IsAtNextLoad tells course edges phases graph after file new
  load_at after file new grows looked asked at = record {
    stands = stands_on after new grows looked at.on;
    next = record { next = at.next; wanted = at.wanted; known = at.known };
    asked = asked_on tells course edges phases stands.on.steps now stands.on.carried.run stands.on.carried.phased new grows asked;
  }

  -- ---- at its end

  pub done_at : (after : Work) (summary : Summary) (new : World) → ComesAfter tells now new → HasAsked tells course edges phases now → (HasRun tells here new (Ok summary) × HasCone here.asked here.store graph after.cone)
      → HasDone tells course edges graph after.cone new summary
  done_at after summary new grows asked ran = record {
    phases = phases;
    ran = ran.0;
    asked = asked_on tells course edges phases stands.on.steps now stands.on.carried.run stands.on.carried.phased new grows asked;
    same = sym (ap (λ (b : BuildGraph). b.edges) stands.suits.same);
    once = stands.suits.once;
    acyclic = stands.acyclic;
    listed = ran.1.listed;
  }

  pub cut_at : (cut : Cut) (new : World) → IsLeft new cut → ComesAfter tells now new → HasAsked tells course edges phases now → HasRun tells here new (Err cut) → WasCut tells course edges new (fault_of cut)
  cut_at cut new left grows asked ran = record {
    phases = phases;
    cut = cut;
    is = refl;
    left = left;
    ran = ran;
    once = stands.suits.once;
    acyclic = stands.acyclic;
    asked = asked_in tells course edges phases stands.on.steps now stands.on.carried.run stands.on.carried.phased ran.cut.phased.build.last new (asked_on tells course edges phases stands.on.steps now stands.on.carried.run stands.on.carried.phased new grows asked);
  }

  -- ---- over a call that only looks

  module _ (stays : LogStays) (new : World) (after : Looks) (looked : HasLooked tells graph now new state.looks after) where
    abbrev base : IsOn tells here graph None (with_looks tells here graph state after) new
    base = on_looked tells here graph stays stands.suits state now new after looked stands.on

    -- the same phases, of the world now
    abbrev same_phases : IsPhased tells here.behaviour here.own here.asked here.store phases stands.on.steps here.entry new
    same_phases = phased_on tells here.behaviour here.own here.asked here.store here.entry phases stands.on.steps now new (λ tell. (looked.looks.history tell).more) (λ tell. (looked.looks.history tell).grows) stands.on.carried.phased

    -- with what is shown, and what is due
    abbrev pub with_sources : Showing → Vec Bool Global → Work
    with_sources display due =
        record { alloc = state.alloc; graph = state.graph; cone = state.cone; plan = state.plan; looks = after; records = state.records; display = display; tick = state.tick; due = due; starts = state.starts; failed = state.failed }

    abbrev pub on_sources : (display : Showing) (due : Vec Bool Global) → IsOn tells here graph None (with_sources display due) new
    on_sources display due = record {
      steps = stands.on.steps;
      planned = base.planned;
      taken = base.taken;
      since = base.since;
      carried = record { run = base.carried.run; phased = same_phases; goes = λ goes. stands.on.carried.goes goes; refused = λ ends. stands.on.carried.refused ends; beside = base.carried.beside };
      logging = base.logging;
      told = record { records = base.told.records; deps = base.told.deps; known = base.told.known; same = base.told.same };
      seen = base.seen;
      anew = base.anew;
      before = base.before;
      started = base.started;
      removed = base.removed;
      room = record { looks = base.room.looks; starts = base.room.starts };
      cone = base.cone;
      ticking = base.ticking;
      noted = base.noted;
    }

    abbrev pub stands_looked : (display : Showing) (due : Vec Bool Global) → StandsAt tells course edges phases graph (with_sources display due) new
    stands_looked display due = stands_on (with_sources display due) new (after_looks tells now new looked.looks) (λ same. looked) (on_sources display due)

    -- a fault cuts it off
    pub cut_looked : (state_after : Work) → state_after.plan ≡ state.plan → HadAsked tells course edges phases stands.on.carried.phased.build.last new → IsCutThere tells course edges state_after new
    cut_looked state_after same asked = record {
      phases = phases;
      graph = graph;
      cut = record {
        steps = stands.on.steps;
        met = None;
        planned = subst (λ (p : Plan). IsPlanned (task_over course edges) graph p stands.on.steps) (sym {A = Plan} same) stands.on.planned;
        taken = stands.on.taken;
        since = stands.on.since;
        run = base.carried.run;
        cut = record { phased = same_phases; run = cut.run; beside = cut.beside };
        in_hand = λ i is. none i is;
      };
      once = stands.suits.once;
      acyclic = stands.acyclic;
      asked = asked;
    }
      where
        none : (i : ℕ) → None ≡ Some i → IsInHand (task_over course edges) stands.on.steps i
        none i is = cc

        cut : IsCutOff tells here.behaviour here.format here.own here.asked here.store phases stands.on.steps None here.entry new
        cut = cut_off tells here.behaviour here.format here.own here.asked here.store here.entry phases (goes_on here) stands.on.steps None new base.carried
