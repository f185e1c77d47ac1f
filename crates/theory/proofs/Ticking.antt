-- Each call keeps that starts are ticked.
use Rattle.std.proofs.Common.{◌≡◌, ℕ, Bool, IsTrue, List, [], ◌∷◌, ◌++◌, Some, sym, ◌∙◌, ap, subst, append_assoc}
use Rattle.std.proofs.lemmas.List.{append-nil}
use Rattle.model.specs.declared.act.Act.{Act}
use Rattle.model.specs.declared.event.Event.{Event}
use Rattle.model.specs.declared.event.Event.TheVariants.{Start}
use Rattle.model.specs.declared.event.Moment.{Moment}
use Rattle.model.specs.declared.event.Moment.TheVariants.{Wrote, Happened}
use Rattle.model.specs.declared.event.Writer.TheVariants.{Program}
use Rattle.model.specs.declared.graph.Edge.{Edge}
use Rattle.model.specs.Records.{OwnFiles}
use Rattle.model.specs.World.{World, file_at, IsRunning, events_in}
use Rattle.model.specs.Calls.{Adds, Ticks, Touches, Starts, content_or_empty}
use Rattle.model.specs.Premises.{IsTickedAt, StartsAreTicked}
use Rattle.theory.specs.Run.{starts_in}
use Rattle.theory.proofs.Lists.{same_rest}
use Rattle.theory.proofs.Moments.{events_in-append, no_events}
use Rattle.theory.proofs.Starting.{EachStart, each_nothing, each_quiet, each_started}

abbrev TickedAt : List Moment → ℕ → ℕ → Act → Type 0
TickedAt before i stamp act = IsTickedAt stamp before

-- ---- a tick, and calls after it

-- since the tick nothing was started or ended
pub tick_on : (stamp : ℕ) (so_far ms : List Moment) → events_in ms ≡ [] → IsTickedAt stamp so_far → IsTickedAt stamp (so_far ++ ms)
tick_on stamp so_far ms none tick = record {
  earlier = tick.earlier;
  by = tick.by;
  path = tick.path;
  content = tick.content;
  between = tick.between ++ ms;
  splits = ap (λ (l : List Moment). l ++ ms) tick.splits ∙ append_assoc tick.earlier (Wrote tick.by tick.path tick.content stamp ∷ tick.between) ms;
  quiet = events_in-append tick.between ms ∙ (ap (λ (l : List Event). l ++ events_in ms) tick.quiet ∙ none);
}

-- what a tick writes after this history
abbrev touch_of : List ℕ → ℕ → List Moment → Moment
touch_of path stamp history = Wrote Program path (Some (content_or_empty (file_at history path))) stamp

-- a tick: `so_far` are the moments since the entry
pub tick_now : (own : OwnFiles) (edges : List Edge) (tells : Bool) → IsTrue tells → (path : List ℕ) (stamp : ℕ) (now new : World) (so_far : List Moment) → (ticks : Ticks tells path stamp now new)
    → (ms : List Moment) × (new.history ≡ now.history ++ ms) × IsTickedAt new.ticked (so_far ++ ms)
tick_now own edges tells tell path stamp now new so_far ticks = (
  touch.earlier ++ touch_of path stamp (now.history ++ touch.earlier) ∷ touch.later,
  touch.grows,
  subst (λ (s : ℕ). IsTickedAt s (so_far ++ (touch.earlier ++ touch_of path stamp (now.history ++ touch.earlier) ∷ touch.later))) (sym ticks.ticked) (record {
    earlier = so_far ++ touch.earlier;
    by = Program;
    path = path;
    content = Some (content_or_empty (file_at (now.history ++ touch.earlier) path));
    between = touch.later;
    splits = sym (append_assoc so_far touch.earlier (touch_of path stamp (now.history ++ touch.earlier) ∷ touch.later));
    quiet = no_events own edges (IsRunning now.events) touch.later touch.all_later;
  }),
)
  where
    touch : Touches (IsRunning now.events) path stamp now.history new.history
    touch = ticks.history tell

-- ---- starts

module _ (old : List Moment) where
  pub ticked_nothing : StartsAreTicked old old
  ticked_nothing before after i stamp act is =
      each_nothing TickedAt before after i stamp act (same_rest old [] (before ++ Happened (Start i act stamp) ∷ after) (append-nil old ∙ is))

  each_ticked : (now so_far : List Moment) → now ≡ old ++ so_far → StartsAreTicked old now → EachStart TickedAt so_far
  each_ticked now so_far was ticked before after i stamp act is = ticked before after i stamp act (was ∙ ap (λ (l : List Moment). old ++ l) is)

  ticked_each : (new more : List Moment) → new ≡ old ++ more → EachStart TickedAt more → StartsAreTicked old new
  ticked_each new more is each before after i stamp act splits =
      each before after i stamp act (same_rest old more (before ++ Happened (Start i act stamp) ∷ after) (sym is ∙ splits))

  -- a call in which no command is started
  pub ticked_quiet : (now so_far ms new : List Moment) → now ≡ old ++ so_far → new ≡ now ++ ms → starts_in (events_in ms) ≡ [] → StartsAreTicked old now → StartsAreTicked old new
  ticked_quiet now so_far ms new was grows none ticked =
      ticked_each new (so_far ++ ms) (grows ∙ (ap (λ (l : List Moment). l ++ ms) was ∙ append_assoc old so_far ms)) (each_quiet TickedAt so_far ms none (each_ticked now so_far was ticked))

  -- a command is started under the stamp of the last tick, and nothing was started or ended since then
  pub ticked_starts : (own : OwnFiles) (edges : List Edge) (tells : Bool) → IsTrue tells → (now new : World) (so_far : List Moment) → now.history ≡ old ++ so_far → (i : ℕ) (act : Act) → Starts tells i act now new
      → IsTickedAt now.ticked so_far → StartsAreTicked old now.history → StartsAreTicked old new.history
  ticked_starts own edges tells tell now new so_far was i act starts tick ticked =
      ticked_each new.history (so_far ++ (adds.earlier ++ Happened (Start i act now.ticked) ∷ adds.later))
      (adds.grows ∙ (ap (λ (l : List Moment). l ++ (adds.earlier ++ Happened (Start i act now.ticked) ∷ adds.later)) was ∙ append_assoc old so_far (adds.earlier ++ Happened (Start i act now.ticked) ∷ adds.later)))
      (each_started TickedAt so_far adds.earlier adds.later i now.ticked act (ap starts_in none) (ap starts_in (no_events own edges (IsRunning new.events) adds.later adds.all_later))
      (tick_on now.ticked so_far adds.earlier none tick) (each_ticked now.history so_far was ticked))
    where
      adds : Adds (IsRunning now.events) (IsRunning new.events) (Happened (Start i act now.ticked)) now.history new.history
      adds = starts.history tell

      none : events_in adds.earlier ≡ []
      none = no_events own edges (IsRunning now.events) adds.earlier adds.all_earlier
