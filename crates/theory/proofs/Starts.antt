-- When a command was started, and under which stamp.
use Rattle.std.proofs.Common.{◌≡◌, inl, inr, ℕ, ◌+◌, ◌==◌, ◌||◌, Bool, true, IsTrue, List, [], ◌∷◌, ◌++◌, length, Option, refl, sym, ◌∙◌, ap, subst, append_assoc}
use Rattle.std.proofs.lemmas.List.{append-nil}
use native.Mathlib.Omega.{arith}
use Rattle.std.proofs.lemmas.Bool.{false≢true, or_cases, cases_Bool, eqb-true, eq-eqb, or_left}
use Rattle.model.specs.declared.act.Act.{Act}
use Rattle.model.specs.declared.event.Event.{Event}
use Rattle.model.specs.declared.event.Event.TheVariants.{Start, Finish}
use Rattle.model.specs.declared.event.Moment.{Moment}
use Rattle.model.specs.declared.event.Moment.TheVariants.{Wrote, Happened}
use Rattle.model.specs.declared.event.Writer.{Writer}
use Rattle.model.specs.World.{World, IsIdle, events_in}
use Rattle.model.specs.Graph.{has_number}
use Rattle.model.specs.Records.{OwnFiles}
use Rattle.model.specs.Schedule.{Task, Step, Judged, Started, Ended, started_in, out_of_date_in, AreEventsOf}
use Rattle.model.specs.Kept.{StartedUnder}
use Rattle.model.specs.Premises.{IsTickedAt, StartsAreTicked}
use Rattle.theory.specs.Order.{IsOrderly}
use Rattle.theory.specs.Run.{starts_in, AreOfRun, IsToldBy, IsRunOrRest}
use Rattle.theory.proofs.Lists.{same_rest, has_number-right}
use Rattle.theory.proofs.Events.{HasStep, step_behind, IsCutBehind, cut_behind, starts-append, starts_of_all}
use Rattle.theory.proofs.Exit.{take_events, drop_events, taken_dropped, taken_events, cut_run}
use Rattle.theory.proofs.Moments.{IsMomentOf, moment_of, of_run_parts, events_in-append}
use Rattle.theory.proofs.Orderly.{orderly_parts}
use Rattle.theory.specs.Logged.{WasStamped}
use Rattle.theory.proofs.Once.{one_stamp}

-- since then this stamp was given, and then the command of edge i was started under it
pub record StampedStart (i stamp : ℕ) (old new : List Moment) : Type 0 where
  pub before : List Moment
  pub by : Writer
  pub path : List ℕ
  pub content : Option (List ℕ)
  pub between : List Moment
  pub act : Act
  pub after : List Moment
  pub splits : new ≡ old ++ (before ++ Wrote by path content stamp ∷ (between ++ Happened (Start i act stamp) ∷ after))

-- the command of edge i was started under this stamp
pub record StartsAt (i stamp : ℕ) (old new : List Moment) : Type 0 where
  pub before : List Moment
  pub act : Act
  pub after : List Moment
  pub splits : new ≡ old ++ (before ++ Happened (Start i act stamp) ∷ after)

-- The command of edge i was started under a stamp that was given after the edge was judged out of date: `mid` is the site, and
-- `done` are the steps, at some point between.
pub record TickedAfter (tells : Bool) (own : OwnFiles) (task : Task) (steps : List Step) (i stamp : ℕ) (old now : World) : Type 0 where
  pub mid : World
  pub done : List Step
  pub later : List Step
  pub run : IsRunOrRest tells own task done old mid
  pub splits : steps ≡ done ++ later
  pub judged : has_number (out_of_date_in done) i ≡ true
  pub stamped : StampedStart i stamp mid.history now.history

start_step : (steps : List Step) (i : ℕ) → has_number (started_in steps) i ≡ true → HasStep steps (Started i)
start_step [] i h = absurd (false≢true h)
start_step (Judged j b ∷ steps) i h = step_behind (Judged j b) steps (Started i) (start_step steps i h)
start_step (Started j ∷ steps) i h = elim (cases_Bool (j == i)) [
  | inl same ↦ record { before = []; after = steps; splits = ap (λ (n : ℕ). Started n ∷ steps) (eqb-true j i same) }
  | inr other ↦ step_behind (Started j) steps (Started i) (start_step steps i (sym (ap (λ (b : Bool). b || has_number (started_in steps) i) other) ∙ h))
]
start_step (Ended j w ∷ steps) i h = step_behind (Ended j w) steps (Started i) (start_step steps i h)

record IsStartIn (i : ℕ) (es : List Event) : Type 0 where
  before : List Event
  act : Act
  stamp : ℕ
  after : List Event
  splits : es ≡ before ++ Start i act stamp ∷ after

start_in : (es : List Event) (i : ℕ) → has_number (starts_in es) i ≡ true → IsStartIn i es
start_in [] i h = absurd (false≢true h)
start_in (Start j act stamp ∷ es) i h = elim (or_cases (j == i) (has_number (starts_in es) i) h) [
  | inl same ↦ record { before = []; act = act; stamp = stamp; after = es; splits = ap (λ (n : ℕ). Start n act stamp ∷ es) (eqb-true j i same) }
  | inr later ↦
      let rest = start_in es i later in
      record { before = Start j act stamp ∷ rest.before; act = rest.act; stamp = rest.stamp; after = rest.after; splits = ap (λ (l : List Event). Start j act stamp ∷ l) rest.splits }
]
start_in (Finish j ok ∷ es) i h =
    let rest = start_in es i h in
    record { before = Finish j ok ∷ rest.before; act = rest.act; stamp = rest.stamp; after = rest.after; splits = ap (λ (l : List Event). Finish j ok ∷ l) rest.splits }

module _ (tells : Bool) (own : OwnFiles) (task : Task) (steps : List Step) (old now : World) (rest : IsRunOrRest tells own task steps old now) where
  -- a step that starts a command is a start of the site
  pub started_under : (i : ℕ) → has_number (started_in steps) i ≡ true → (stamp : ℕ) × StartedUnder i stamp old now
  started_under i h =
      let start = start_in (rest.first ++ rest.later) i (ap (λ (l : List ℕ). has_number l i) (starts_of_all task.graph.edges steps rest.first (old.events ++ rest.first) rest.later rest.of_steps rest.finishes) ∙ h) in
      (start.stamp, record { act = start.act; before = start.before; after = start.after; splits = rest.grows ∙ ap (λ (l : List Event). old.events ++ l) start.splits })

  -- what was started is among the steps
  pub was_started : (i stamp : ℕ) → StartedUnder i stamp old now → has_number (started_in steps) i ≡ true
  was_started i stamp started =
      ap (λ (l : List ℕ). has_number l i) (sym starts_are ∙ (ap starts_in same ∙ starts-append started.before (Start i started.act stamp ∷ started.after)))
      ∙ has_number-right (starts_in started.before) (i ∷ starts_in started.after) i (or_left (i == i) (has_number (starts_in started.after) i) (eq-eqb i i refl))
    where
      same : rest.first ++ rest.later ≡ started.before ++ Start i started.act stamp ∷ started.after
      same = same_rest old.events (rest.first ++ rest.later) (started.before ++ Start i started.act stamp ∷ started.after) (sym rest.grows ∙ started.splits)

      starts_are : starts_in (rest.first ++ rest.later) ≡ started_in steps
      starts_are =
          starts_of_all task.graph.edges steps rest.first (old.events ++ rest.first) rest.later rest.of_steps rest.finishes

module _ (tells : Bool) (own : OwnFiles) (task : Task) (steps : List Step) (old now : World) (rest : IsRunOrRest tells own task steps old now) (tell : IsTrue tells) where
  told : IsToldBy own task.graph.edges steps old.events (rest.first ++ rest.later) old.history now.history
  told = rest.history tell

  -- the moment of a start
  start_moment : (i stamp : ℕ) → (started : StartedUnder i stamp old now) → IsMomentOf started.before (Start i started.act stamp) started.after told.more
  start_moment i stamp started = moment_of started.before (Start i started.act stamp) started.after told.more
      (told.happened ∙ same_rest old.events (rest.first ++ rest.later) (started.before ++ Start i started.act stamp ∷ started.after) (sym rest.grows ∙ started.splits))

  pub start_at : (i stamp : ℕ) → (started : StartedUnder i stamp old now) → StartsAt i stamp old.history now.history
  start_at i stamp started =
      let moment = start_moment i stamp started in
      record { before = moment.earlier; act = started.act; after = moment.later; splits = told.grows ∙ ap (λ (l : List Moment). old.history ++ l) moment.splits }

  module _ (ticks : StartsAreTicked old.history now.history) (i stamp : ℕ) (started : StartedUnder i stamp old now) where
    moment : IsMomentOf started.before (Start i started.act stamp) started.after told.more
    moment = start_moment i stamp started

    grows : now.history ≡ old.history ++ (moment.earlier ++ Happened (Start i started.act stamp) ∷ moment.later)
    grows = told.grows ∙ ap (λ (l : List Moment). old.history ++ l) moment.splits

    tick : IsTickedAt stamp moment.earlier
    tick = ticks moment.earlier moment.later i stamp started.act grows

    whole : moment.earlier ++ Happened (Start i started.act stamp) ∷ moment.later ≡ tick.earlier ++ Wrote tick.by tick.path tick.content stamp ∷ (tick.between ++ Happened (Start i started.act stamp) ∷ moment.later)
    whole = ap (λ (l : List Moment). l ++ Happened (Start i started.act stamp) ∷ moment.later) tick.splits
        ∙ append_assoc tick.earlier (Wrote tick.by tick.path tick.content stamp ∷ tick.between) (Happened (Start i started.act stamp) ∷ moment.later)

    -- its stamp was given in this build
    pub was_stamped : WasStamped stamp old.history now.history
    was_stamped = record {
      before = tick.earlier;
      by = tick.by;
      path = tick.path;
      content = tick.content;
      between = tick.between;
      job = i;
      act = started.act;
      after = moment.later;
      splits = grows ∙ ap (λ (l : List Moment). old.history ++ l) whole;
    }

  -- it was given after the edge was judged
  module _ (idle : IsIdle old.events) (ticks : StartsAreTicked old.history now.history) (i stamp : ℕ) (started : StartedUnder i stamp old now) where
    step : HasStep steps (Started i)
    step = start_step steps i (was_started tells own task steps old now rest i stamp started)

    lawful : IsOrderly task.graph.edges (step.before ++ Started i ∷ step.after)
    lawful = subst (λ (l : List Step). IsOrderly task.graph.edges l) step.splits rest.orderly

    cut : IsCutBehind task.graph.edges step.before (Started i ∷ step.after) rest.first
    cut = cut_behind task.graph.edges step.before (Started i ∷ step.after) rest.first (subst (λ (l : List Step). AreEventsOf task.graph.edges l rest.first) step.splits rest.of_steps)

    first_start : (after : List Event) → AreEventsOf task.graph.edges (Started i ∷ step.after) after → (act : Act) × (s : ℕ) × (es : List Event) × (after ≡ Start i act s ∷ es)
    first_start [] a = absurd a
    first_start (Start job act s ∷ es) a = (act, s, es, ap (λ (n : ℕ). Start n act s ∷ es) a.0)
    first_start (Finish job ok ∷ es) a = absurd a

    -- the start of that step is the one
    this : (act : Act) × (es : List Event) × (now.events ≡ old.events ++ (cut.before ++ Start i act stamp ∷ es))
    this = by_first (first_start cut.after cut.second)
      where
        by_first : (act : Act) × (s : ℕ) × (es : List Event) × (cut.after ≡ Start i act s ∷ es) → (act : Act) × (es : List Event) × (now.events ≡ old.events ++ (cut.before ++ Start i act stamp ∷ es))
        by_first (act, s, es, is) = (act, es ++ rest.later, subst (λ (t : ℕ). now.events ≡ old.events ++ (cut.before ++ Start i act t ∷ (es ++ rest.later))) same splits)
          where
            splits : now.events ≡ old.events ++ (cut.before ++ Start i act s ∷ (es ++ rest.later))
            splits =
                rest.grows ∙ ap (λ (l : List Event). old.events ++ l)
                (ap (λ (l : List Event). l ++ rest.later) (cut.splits ∙ ap (λ (l : List Event). cut.before ++ l) is) ∙ append_assoc cut.before (Start i act s ∷ es) rest.later)

            same : s ≡ stamp
            same = one_stamp tells own task steps old now idle rest i s stamp (record { act = act; before = cut.before; after = es ++ rest.later; splits = splits }) started

    at : IsMomentOf cut.before (Start i this.0 stamp) this.1 told.more
    at = start_moment i stamp (record { act = this.0; before = cut.before; after = this.1; splits = this.2 })

    at_grows : now.history ≡ old.history ++ (at.earlier ++ Happened (Start i this.0 stamp) ∷ at.later)
    at_grows = told.grows ∙ ap (λ (l : List Moment). old.history ++ l) at.splits

    given : IsTickedAt stamp at.earlier
    given = ticks at.earlier at.later i stamp this.0 at_grows

    split_at : at.earlier ++ Happened (Start i this.0 stamp) ∷ at.later ≡ given.earlier ++ Wrote given.by given.path given.content stamp ∷ (given.between ++ Happened (Start i this.0 stamp) ∷ at.later)
    split_at = ap (λ (l : List Moment). l ++ Happened (Start i this.0 stamp) ∷ at.later) given.splits
        ∙ append_assoc given.earlier (Wrote given.by given.path given.content stamp ∷ given.between) (Happened (Start i this.0 stamp) ∷ at.later)

    events_are : events_in given.earlier ≡ cut.before ++ []
    events_are =
        sym (append-nil (events_in given.earlier))
        ∙ (ap (λ (l : List Event). events_in given.earlier ++ l) (sym given.quiet)
        ∙ (sym (events_in-append given.earlier (Wrote given.by given.path given.content stamp ∷ given.between))
        ∙ (ap events_in (sym given.splits) ∙ (at.events_before ∙ sym (append-nil cut.before)))))

    abbrev mid : World
    mid = record old { history = old.history ++ take_events (length cut.before) given.earlier; events = old.events ++ cut.before }

    from_zero : (n : ℕ) → 0 + n ≡ n
    from_zero n = omega arith

    earlier_of_run : AreOfRun own task.graph.edges (step.before ++ Started i ∷ step.after) old.events [] given.earlier
    earlier_of_run = (of_run_parts own task.graph.edges (step.before ++ Started i ∷ step.after) old.events [] given.earlier (Wrote given.by given.path given.content stamp ∷ (given.between ++ Happened (Start i this.0 stamp) ∷ at.later))
        (subst (λ (l : List Moment). AreOfRun own task.graph.edges (step.before ++ Started i ∷ step.after) old.events [] l) (at.splits ∙ split_at)
        (subst (λ (l : List Step). AreOfRun own task.graph.edges l old.events [] told.more) step.splits told.all))).0

    by_then : IsRunOrRest tells own task step.before old mid
    by_then = record {
      orderly = (orderly_parts task.graph.edges [] step.before (Started i ∷ step.after) lawful).0;
      first = cut.before;
      later = [];
      grows = ap (λ (l : List Event). old.events ++ l) (sym (append-nil cut.before));
      of_steps = cut.first;
      finishes = tt;
      history = λ told_too. record {
        more = take_events (length cut.before) given.earlier;
        grows = refl;
        happened = taken_events cut.before [] given.earlier events_are ∙ sym (append-nil cut.before);
        all = cut_run own task.graph.edges step.before (Started i ∷ step.after) old.events cut.before cut.first [] (length cut.before) given.earlier (from_zero (length cut.before)) earlier_of_run;
      };
    }

    pub ticked_after : TickedAfter tells own task steps i stamp old now
    ticked_after = record {
      mid = mid;
      done = step.before;
      later = Started i ∷ step.after;
      run = by_then;
      splits = step.splits;
      judged = (orderly_parts task.graph.edges [] step.before (Started i ∷ step.after) lawful).1.0.0;
      stamped = record {
        before = drop_events (length cut.before) given.earlier;
        by = given.by;
        path = given.path;
        content = given.content;
        between = given.between;
        act = this.0;
        after = at.later;
        splits = at_grows ∙ (ap (λ (l : List Moment). old.history ++ l) (split_at
            ∙ (ap (λ (l : List Moment). l ++ Wrote given.by given.path given.content stamp ∷ (given.between ++ Happened (Start i this.0 stamp) ∷ at.later)) (sym (taken_dropped (length cut.before) given.earlier))
            ∙ append_assoc (take_events (length cut.before) given.earlier) (drop_events (length cut.before) given.earlier) (Wrote given.by given.path given.content stamp ∷ (given.between ++ Happened (Start i this.0 stamp) ∷ at.later))))
            ∙ sym (append_assoc old.history (take_events (length cut.before) given.earlier) (drop_events (length cut.before) given.earlier ++ Wrote given.by given.path given.content stamp ∷ (given.between ++ Happened (Start i this.0 stamp) ∷ at.later))));
      };
    }
