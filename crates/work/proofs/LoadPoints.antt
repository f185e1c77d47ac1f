-- Points of a run right behind its last event: there is one, and what was asked at it is so of a longer history, and over more edges.
use Rattle.std.proofs.Common.{◌≡◌, ℕ, suc, ◌≤◌, ◌<◌, Bool, true, IsTrue, List, [], ◌∷◌, ◌++◌, length, refl, sym, ◌∙◌, ap, subst, append_assoc, arith}
use Rattle.std.proofs.lemmas.List.{append-nil, length-append}
use Rattle.std.proofs.lemmas.Bool.{false≢true, eq-eqb, or_left}
use Rattle.model.specs.declared.event.Event.{Event}
use Rattle.model.specs.declared.event.Moment.{Moment}
use Rattle.model.specs.declared.event.Moment.TheVariants.{Wrote, Happened}
use Rattle.model.specs.declared.graph.Edge.{Edge}
use Rattle.model.specs.World.{World, events_in}
use Rattle.model.specs.Graph.{has_number}
use Rattle.model.specs.Phases.{Phase, steps_of, happened_in, EndsInEvent, IsPointAfter, IsNothingMissing, WasNothingMissing, WasNothingMissingIn, task_with}
use Rattle.model.specs.Records.{OwnFiles, Store}
use Rattle.model.specs.Schedule.{Task, Step, started_in, ended_in}
use Rattle.model.specs.SingleBuild.{Asked, asked_with, task_of}
use Rattle.theory.specs.Run.{IsToldBy, IsRun}
use Rattle.theory.proofs.Events.{as_many}
use Rattle.theory.proofs.Exit.{take_events, drop_events, taken_dropped, taken_events, taken_behind}
use Rattle.theory.proofs.Lists.{same_rest}
use Rattle.theory.proofs.Orderly.{IsKept, kept_orderly}
use Rattle.theory.proofs.Steps.{started-append, ended-append}

happened_is : (ms : List Moment) → happened_in ms ≡ length (events_in ms)
happened_is [] = refl
happened_is (Wrote by path content stamp ∷ ms) = happened_is ms
happened_is (Happened event ∷ ms) = ap suc (happened_is ms)

-- how many starts and finishes there are in these steps
abbrev pub events_of : List Step → ℕ
events_of steps = length (started_in steps ++ ended_in steps)

none_of : (steps : List Step) → ((j : ℕ) → has_number (ended_in steps) j ≡ true → has_number (started_in steps) j ≡ true) → started_in steps ≡ [] → events_of steps ≡ 0
none_of steps all none = by_lists (started_in steps) (ended_in steps) none all
  where
    by_lists : (started ended : List ℕ) → started ≡ [] → ((j : ℕ) → has_number ended j ≡ true → has_number started j ≡ true) → length (started ++ ended) ≡ 0
    by_lists [] [] none all = refl
    by_lists [] (j ∷ ended) none all = absurd (false≢true (all j (or_left _ (has_number ended j) (eq-eqb j j refl))))
    by_lists (i ∷ started) ended none all = cc

-- ---- a point of now

-- where just these steps were done there is a point
pub point_now : (tells : Bool) (own : OwnFiles) (task : Task) (steps : List Step) (old now : World) → IsRun tells own task steps old now → IsTrue tells → (at : List Moment) × IsPointAfter steps old.history now.history at
point_now tells own task steps old now run tell = (
  old.history ++ so_far,
  record { so_far = so_far; later = drop_events (length run.events) told.more; is = refl; grows = grows; happened = happened; entry = entry; behind = taken_behind run.events [] told.more all },
)
  where
    told : IsToldBy own task.graph.edges steps old.events run.events old.history now.history
    told = run.history tell

    so_far : List Moment
    so_far = take_events (length run.events) told.more

    all : events_in told.more ≡ run.events ++ []
    all = told.happened ∙ sym (append-nil run.events)

    many : length run.events ≡ events_of steps
    many = as_many task.graph.edges steps run.events run.of_steps

    grows : now.history ≡ (old.history ++ so_far) ++ drop_events (length run.events) told.more
    grows =
        told.grows ∙ (ap (λ (l : List Moment). old.history ++ l) (sym (taken_dropped (length run.events) told.more))
        ∙ sym (append_assoc old.history so_far (drop_events (length run.events) told.more)))

    happened : happened_in so_far ≡ events_of steps
    happened = happened_is so_far ∙ (ap (λ (l : List Event). length l) (taken_events run.events [] told.more all) ∙ many)

    kept : IsKept task.graph.edges steps
    kept = kept_orderly task.graph.edges steps run.orderly

    nothing_taken : (n : ℕ) → n ≡ 0 → (ms : List Moment) → old.history ++ take_events n ms ≡ old.history
    nothing_taken n is ms = ap (λ (k : ℕ). old.history ++ take_events k ms) is ∙ append-nil old.history

    entry : started_in steps ≡ [] → old.history ++ so_far ≡ old.history
    entry none = nothing_taken (length run.events) (many ∙ none_of steps (λ j h. kept.ended j h) none) told.more

-- ---- a longer history

some_happened : (m : Moment) (ms : List Moment) → EndsInEvent (m ∷ ms) → 0 < happened_in (m ∷ ms)
some_happened (Happened event) ms ends = let some : happened_in (Happened event ∷ ms) ≡ suc (happened_in ms) = refl in omega (arith, some)
some_happened (Wrote by path content stamp) [] ends = absurd (ends.0 refl)
some_happened (Wrote by path content stamp) (m ∷ ms) ends = some_happened m ms ends.1

-- moments that end in an event of the first ones stand in front of them
front_of : (so_far told later more : List Moment) → told ++ more ≡ so_far ++ later → EndsInEvent so_far → happened_in so_far ≤ happened_in told → (rest : List Moment) × (told ≡ so_far ++ rest)
front_of [] told later more is ends few = (told, refl)
front_of (m ∷ so_far) [] later more is ends few = let some = some_happened m so_far ends in let none : happened_in [] ≡ 0 = refl in absurd (omega (arith, some, few, none))
front_of (Wrote by path content stamp ∷ so_far) (Happened event ∷ told) later more is ends few = cc
front_of (Happened event ∷ so_far) (Wrote by path content stamp ∷ told) later more is ends few = cc
front_of (Wrote by path content stamp ∷ so_far) (Wrote other place held at ∷ told) later more is ends few =
    let head : Wrote other place held at ≡ Wrote by path content stamp = cc in
    let tail : told ++ more ≡ so_far ++ later = cc in
    let rest = front_of so_far told later more tail ends.1 few in
    (rest.0, ap (λ (m : Moment). m ∷ told) head ∙ ap (λ (l : List Moment). Wrote by path content stamp ∷ l) rest.1)
front_of (Happened event ∷ so_far) (Happened other ∷ told) later more is ends few =
    let head : Happened other ≡ Happened event = cc in
    let tail : told ++ more ≡ so_far ++ later = cc in
    let one : happened_in (Happened event ∷ so_far) ≡ suc (happened_in so_far) = refl in
    let two : happened_in (Happened other ∷ told) ≡ suc (happened_in told) = refl in
    let rest = front_of so_far told later more tail ends (omega (arith, few, one, two)) in
    (rest.0, ap (λ (m : Moment). m ∷ told) head ∙ ap (λ (l : List Moment). Happened event ∷ l) rest.1)

-- a point behind no more events than the history had by then is one of the shorter history
pub point_before : (before : List Step) (old now more new told at : List Moment) → now ≡ old ++ told → new ≡ now ++ more → events_of before ≤ happened_in told → IsPointAfter before old new at → IsPointAfter before old now at
point_before before old now more new told at was grows few point = record {
  so_far = point.so_far;
  later = front.0;
  is = point.is;
  grows = was ∙ (ap (λ (l : List Moment). old ++ l) front.1 ∙ (sym (append_assoc old point.so_far front.0) ∙ ap (λ (l : List Moment). l ++ front.0) (sym point.is)));
  happened = point.happened;
  entry = point.entry;
  behind = point.behind;
}
  where
    same : told ++ more ≡ point.so_far ++ point.later
    same = same_rest old (told ++ more) (point.so_far ++ point.later)
        (sym (append_assoc old told more) ∙ (ap (λ (l : List Moment). l ++ more) (sym was) ∙ (sym grows ∙ (point.grows ∙ (ap (λ (l : List Moment). l ++ point.later) point.is ∙ append_assoc old point.so_far point.later)))))

    front : (rest : List Moment) × (told ≡ point.so_far ++ rest)
    front = front_of point.so_far told point.later more same point.behind (subst (λ (n : ℕ). n ≤ happened_in told) (sym point.happened) few)

-- ---- what was asked

fewer_events : (before steps : List Step) → events_of before ≤ events_of (before ++ steps)
fewer_events before steps =
    let first = length-append (started_in before) (ended_in before) in
    let whole = length-append (started_in (before ++ steps)) (ended_in (before ++ steps)) in
    let started = ap length (started-append before steps) ∙ length-append (started_in before) (started_in steps) in
    let ended = ap length (ended-append before steps) ∙ length-append (ended_in before) (ended_in steps) in
    omega (arith, first, whole, started, ended)

module _ (own : OwnFiles) (old now more new told : List Moment) (was : now ≡ old ++ told) (grows : new ≡ now ++ more) where
  nothing_still : (task : Task) (store : Store) (before : List Step) → events_of before ≤ happened_in told → IsNothingMissing own task store before old now → IsNothingMissing own task store before old new
  nothing_still task store before few nothing sources apart at point = nothing sources apart at (point_before before old now more new told at was grows few point)

  few_of : (before steps : List Step) → events_of (before ++ steps) ≤ happened_in told → events_of before ≤ happened_in told
  few_of before steps few = let less = fewer_events before steps in omega (arith, less, few)

  was_still : (task : Task) (store : Store) (before : List Step) (phases : List Phase) → events_of (before ++ steps_of phases) ≤ happened_in told → WasNothingMissing own task store old now before phases → WasNothingMissing own task store old new before phases
  was_still task store before [] few was = nothing_still task store before (few_of before [] few) was
  was_still task store before (phase ∷ phases) few was = (
    nothing_still (task_with task store phase.edges) store before (few_of before (phase.steps ++ steps_of phases) few) was.0,
    was_still task store (before ++ phase.steps) phases (subst (λ (l : List Step). events_of l ≤ happened_in told) (sym (append_assoc before phase.steps (steps_of phases))) few) was.1,
  )

  was_still_in : (task : Task) (store : Store) (before : List Step) (phases : List Phase) (last : List Step) → events_of (before ++ steps_of phases) ≤ happened_in told
      → WasNothingMissingIn own task store old now before phases last → WasNothingMissingIn own task store old new before phases last
  was_still_in task store before [] [] few was = tt
  was_still_in task store before [] (step ∷ last) few was = nothing_still task store before (few_of before [] few) was
  was_still_in task store before (phase ∷ phases) last few was = (
    nothing_still (task_with task store phase.edges) store before (few_of before (phase.steps ++ steps_of phases) few) was.0,
    was_still_in task store (before ++ phase.steps) phases last (subst (λ (l : List Step). events_of l ≤ happened_in told) (sym (append_assoc before phase.steps (steps_of phases))) few) was.1,
  )

-- What was so when phases began, of a run of their steps, is so where the site went on.
module _ (tells : Bool) (own : OwnFiles) (of : Task) (steps : List Step) (old now : World) (run : IsRun tells own of steps old now) (tell : IsTrue tells) (more new : List Moment) (grows : new ≡ now.history ++ more) (phases : List Phase) (rest : List Step)
    (split : steps ≡ steps_of phases ++ rest) where
  told : IsToldBy own of.graph.edges steps old.events run.events old.history now.history
  told = run.history tell

  few : events_of ([] ++ steps_of phases) ≤ happened_in told.more
  few =
      let less = fewer_events (steps_of phases) rest in
      let whole = ap events_of split in
      let many = as_many of.graph.edges steps run.events run.of_steps in
      let all = happened_is told.more ∙ ap (λ (l : List Event). length l) told.happened in
      omega (arith, less, whole, many, all)

  pub asked_later : (task : Task) (store : Store) → WasNothingMissing own task store old.history now.history [] phases → WasNothingMissing own task store old.history new [] phases
  asked_later task store was = was_still own old.history now.history more new told.more told.grows grows task store [] phases few was

  pub had_asked_later : (task : Task) (store : Store) (last : List Step) → WasNothingMissingIn own task store old.history now.history [] phases last → WasNothingMissingIn own task store old.history new [] phases last
  had_asked_later task store last was = was_still_in own old.history now.history more new told.more told.grows grows task store [] phases last few was

-- ---- over the edges that a load gives

-- nothing was missing when the phase began that a load has ended
pub asked_load : (own : OwnFiles) (asked : Asked) (store : Store) (edges next : List Edge) (old new : List Moment) (before : List Step) (phases : List Phase) (last : List Step)
    → WasNothingMissing own (task_of (asked_with asked edges) store) store old new before phases
    → WasNothingMissingIn own (task_of (asked_with asked next) store) store old new before (phases ++ record { edges = edges; steps = last } ∷ []) []
asked_load own asked store edges next old new before [] last was = (was, tt)
asked_load own asked store edges next old new before (phase ∷ phases) last was = (was.0, asked_load own asked store edges next old new (before ++ phase.steps) phases last was.1)
