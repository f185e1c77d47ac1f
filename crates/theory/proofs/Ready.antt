-- What is ready at starts, and that only commands out of date are started.
use Rattle.std.proofs.Common.{◌≡◌, ◌⊎◌, inl, inr, ℕ, ◌==◌, ◌||◌, Bool, true, false, IsTrue, List, [], ◌∷◌, ◌++◌, sym, ◌∙◌, ap, subst, append_assoc}
use Rattle.std.proofs.lemmas.Bool.{false≢true, cases_Bool, eqb-true, eq-eqb, or_left}
use Rattle.model.specs.declared.act.Act.{Act}
use Rattle.model.specs.declared.graph.Edge.{Edge}
use Rattle.model.specs.declared.event.Event.{Event}
use Rattle.model.specs.declared.event.Event.TheVariants.{Start, Finish}
use Rattle.model.specs.declared.event.Moment.{Moment}
use Rattle.model.specs.declared.event.Moment.TheVariants.{Happened}
use Rattle.model.specs.World.{World, events_in}
use Rattle.model.specs.Graph.{has_number, edge_at}
use Rattle.model.specs.Records.{Store, OwnFiles}
use Rattle.model.specs.OutOfDate.{ReadsNoFree, IsVerdict}
use Rattle.model.specs.Schedule.{Task, Step, Judged, Started, Ended, out_of_date_in, started_in, well_in, AreEventsOf, AreFinishes}
use Rattle.model.specs.SingleBuild.{StartsOnlyStale}
use Rattle.theory.specs.Order.{IsOrderly}
use Rattle.theory.specs.Run.{IsToldBy, IsRunOrRest, AreStartsReady}
use Rattle.theory.proofs.Lists.{same_rest, has_number-right}
use Rattle.theory.proofs.Events.{HasStep, step_behind}
use Rattle.theory.proofs.Moments.{events_in-append}
use Rattle.theory.proofs.Orderly.{orderly_parts}

-- ---- verdicts and starts

-- an edge that is out of date was judged so by some step
pub out_of_date_step : (steps : List Step) (i : ℕ) → has_number (out_of_date_in steps) i ≡ true → HasStep steps (Judged i true)
out_of_date_step [] i h = absurd (false≢true h)
out_of_date_step (Judged j true ∷ steps) i h = elim (cases_Bool (j == i)) [
  | inl same ↦ record { before = []; after = steps; splits = ap (λ (n : ℕ). Judged n true ∷ steps) (eqb-true j i same) }
  | inr other ↦ step_behind (Judged j true) steps (Judged i true) (out_of_date_step steps i (sym (ap (λ (b : Bool). b || has_number (out_of_date_in steps) i) other) ∙ h))
]
out_of_date_step (Judged j false ∷ steps) i h = step_behind (Judged j false) steps (Judged i true) (out_of_date_step steps i h)
out_of_date_step (Started j ∷ steps) i h = step_behind (Started j) steps (Judged i true) (out_of_date_step steps i h)
out_of_date_step (Ended j w ∷ steps) i h = step_behind (Ended j w) steps (Judged i true) (out_of_date_step steps i h)

pub stale_starts : (free : List ℕ → Bool) (edges : List Edge) (store : Store) (steps : List Step) (old new : List Moment) → IsOrderly edges steps
    → ((before after : List Step) (i : ℕ) (out_of_date : Bool) → steps ≡ before ++ Judged i out_of_date ∷ after → ReadsNoFree free edges store new i → IsVerdict edges store (well_in before) old new i out_of_date)
    → StartsOnlyStale free edges store steps old new
stale_starts free edges store steps old new lawful verdicts before after i splits =
    (judged.before, judged.after, judged.splits, verdicts judged.before (judged.after ++ Started i ∷ after) i true (splits ∙ whole))
  where
    stale : has_number (out_of_date_in before) i ≡ true
    stale = (orderly_parts edges [] before (Started i ∷ after) (subst (λ (l : List Step). IsOrderly edges l) splits lawful)).1.0.0

    judged : HasStep before (Judged i true)
    judged = out_of_date_step before i stale

    joined : (xs ys zs ws : List Step) (s : Step) → xs ≡ ys ++ s ∷ zs → xs ++ ws ≡ ys ++ s ∷ (zs ++ ws)
    joined xs ys zs ws s is = ap (λ (l : List Step). l ++ ws) is ∙ append_assoc ys (s ∷ zs) ws

    whole : before ++ Started i ∷ after ≡ judged.before ++ Judged i true ∷ (judged.after ++ Started i ∷ after)
    whole = joined before judged.before judged.after (Started i ∷ after) (Judged i true) judged.splits

-- ---- commands that need nothing made ready

-- the start is of an edge that was started, with its act
record IsStartOf (edges : List Edge) (steps : List Step) (i : ℕ) (act : Act) : Type 0 where
  started : has_number (started_in steps) i ≡ true
  act_is : act ≡ (edge_at edges i).act

start_of_steps : (edges : List Edge) (steps : List Step) (es before after : List Event) (i stamp : ℕ) (act : Act) → AreEventsOf edges steps es → es ≡ before ++ Start i act stamp ∷ after → IsStartOf edges steps i act
start_of_steps edges [] [] [] after i stamp act a is = cc
start_of_steps edges [] [] (b ∷ before) after i stamp act a is = cc
start_of_steps edges [] (e ∷ es) before after i stamp act a is = absurd a
start_of_steps edges (Judged j w ∷ steps) es before after i stamp act a is =
    let rest = start_of_steps edges steps es before after i stamp act a is in
    record { started = rest.started; act_is = rest.act_is }
start_of_steps edges (Started j ∷ steps) [] before after i stamp act a is = absurd a
start_of_steps edges (Started j ∷ steps) (Start job other stamp2 ∷ es) [] after i stamp act a is =
    let job_is : job ≡ i = cc in
    let act_is : other ≡ act = cc in
    let same : j ≡ i = sym a.0 ∙ job_is in
    record { started = or_left (j == i) (has_number (started_in steps) i) (eq-eqb j i same); act_is = sym act_is ∙ (a.1 ∙ ap (λ (n : ℕ). (edge_at edges n).act) same) }
start_of_steps edges (Started j ∷ steps) (Start job other stamp2 ∷ es) (b ∷ before) after i stamp act a is =
    let tail : es ≡ before ++ Start i act stamp ∷ after = cc in
    let rest = start_of_steps edges steps es before after i stamp act a.2 tail in
    record { started = has_number-right (j ∷ []) (started_in steps) i rest.started; act_is = rest.act_is }
start_of_steps edges (Started j ∷ steps) (Finish job ok ∷ es) before after i stamp act a is = absurd a
start_of_steps edges (Ended j w ∷ steps) [] before after i stamp act a is = absurd a
start_of_steps edges (Ended j w ∷ steps) (Start job other stamp2 ∷ es) before after i stamp act a is = absurd a
start_of_steps edges (Ended j w ∷ steps) (Finish job ok ∷ es) [] after i stamp act a is = cc
start_of_steps edges (Ended j w ∷ steps) (Finish job ok ∷ es) (b ∷ before) after i stamp act a is =
    let tail : es ≡ before ++ Start i act stamp ∷ after = cc in
    let rest = start_of_steps edges steps es before after i stamp act a.2 tail in
    record { started = rest.started; act_is = rest.act_is }

-- a start is of the steps, or of what was taken in after them, and there is none among that
start_among : (edges : List Edge) (steps : List Step) (first later before after : List Event) (so_far : List Event) (i stamp : ℕ) (act : Act) → AreEventsOf edges steps first → AreFinishes so_far later
    → first ++ later ≡ before ++ Start i act stamp ∷ after → IsStartOf edges steps i act
start_among edges steps first later before after so_far i stamp act of_steps finishes is = by_place (either_start first later before after is)
  where
    either_start : (xs ys before after : List Event) → xs ++ ys ≡ before ++ Start i act stamp ∷ after
        → ((b : List Event) × (c : List Event) × (xs ≡ b ++ Start i act stamp ∷ c)) ⊎ ((b : List Event) × (c : List Event) × (ys ≡ b ++ Start i act stamp ∷ c))
    either_start [] ys before after is = inr (before, after, is)
    either_start (x ∷ xs) ys [] after is =
        let head : x ≡ Start i act stamp = cc in
        inl ([], xs, ap (λ (e : Event). e ∷ xs) head)
    either_start (x ∷ xs) ys (b ∷ before) after is =
        let tail : xs ++ ys ≡ before ++ Start i act stamp ∷ after = cc in
        elim (either_start xs ys before after tail) [
          | inl (c, d, splits) ↦ inl (x ∷ c, d, ap (λ (l : List Event). x ∷ l) splits)
          | inr second ↦ inr second
        ]

    no_start : (so_far later before after : List Event) → AreFinishes so_far later → later ≡ before ++ Start i act stamp ∷ after → ⊥
    no_start so_far [] [] after a is = cc
    no_start so_far [] (b ∷ before) after a is = cc
    no_start so_far (Start job other s ∷ later) before after a is = a
    no_start so_far (Finish job ok ∷ later) [] after a is = cc
    no_start so_far (Finish job ok ∷ later) (b ∷ before) after a is =
        let tail : later ≡ before ++ Start i act stamp ∷ after = cc in
        no_start (so_far ++ Finish job ok ∷ []) later before after a.1 tail

    by_place : ((b : List Event) × (c : List Event) × (first ≡ b ++ Start i act stamp ∷ c)) ⊎ ((b : List Event) × (c : List Event) × (later ≡ b ++ Start i act stamp ∷ c)) → IsStartOf edges steps i act
    by_place (inl (b, c, splits)) = start_of_steps edges steps first b c i stamp act of_steps splits
    by_place (inr (b, c, splits)) = absurd (no_start so_far later b c finishes splits)

pub ready_of_none : (tells : Bool) (own : OwnFiles) (task : Task) (steps : List Step) (old now : World) → IsRunOrRest tells own task steps old now → IsTrue tells
    → ((i : ℕ) → has_number (started_in steps) i ≡ true → ((edge_at task.graph.edges i).act.depfile ≡ []) × ((edge_at task.graph.edges i).act.response_path ≡ []))
    → AreStartsReady own task.graph.edges old.history now.history
ready_of_none tells own task steps old now rest tell none files i stamp act before after splits = record {
  depfile = λ named. absurd (named (ap (λ (a : Act). a.depfile) start.act_is ∙ (none i start.started).0));
  response = λ named. absurd (named (ap (λ (a : Act). a.response_path) start.act_is ∙ (none i start.started).1));
}
  where
    told : IsToldBy own task.graph.edges steps old.events (rest.first ++ rest.later) old.history now.history
    told = rest.history tell

    same : told.more ≡ before ++ Happened (Start i act stamp) ∷ after
    same = same_rest old.history told.more (before ++ Happened (Start i act stamp) ∷ after) (sym told.grows ∙ splits)

    start : IsStartOf task.graph.edges steps i act
    start = start_among task.graph.edges steps rest.first rest.later (events_in before) (events_in after) (old.events ++ rest.first) i stamp act rest.of_steps rest.finishes
        (sym told.happened ∙ (ap events_in same ∙ events_in-append before (Happened (Start i act stamp) ∷ after)))
