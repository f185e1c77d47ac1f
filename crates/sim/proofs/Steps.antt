-- One call of the site in memory.
use Rattle.std.proofs.Common.{◌≡◌, ℕ, ◌+◌, true, List, [], ◌∷◌, ◌++◌, Option, Some, sym, ◌∙◌, ap}
use Rattle.std.proofs.lemmas.List.{append-nil}
use Rattle.model.specs.declared.event.Moment.{Moment}
use Rattle.model.specs.declared.event.Moment.TheVariants.{Wrote}
use Rattle.model.specs.declared.event.Writer.TheVariants.{Program}
use Rattle.model.specs.World.{World, file_at, latest}
use Rattle.model.specs.Calls.{Sees, Ticks, Writes, Appends, content_or_empty}
use Rattle.sim.specs.World.{wrote, ticked, appended}

pub sees_now : {A : Type 0} (f : List Moment → A) (seen : A) (h k : List Moment) → k ≡ h → seen ≡ f h → Sees f seen h k
sees_now f seen h k same is = record { earlier = []; later = []; grows = same ∙ sym (append-nil h); is = is ∙ ap f (sym (append-nil h)) }

pub ticks_now : (path : List ℕ) (stamp : ℕ) (old new : World) → stamp ≡ latest old.history + 1 → new ≡ ticked path old → Ticks true path stamp old new
ticks_now path stamp old new next is = record {
  events = ap (λ (w : World). w.events) is;
  ticked = ap (λ (w : World). w.ticked) is ∙ sym next;
  at_start = ap (λ (w : World). w.failures_at_start) is;
  history = λ _. record {
    earlier = [];
    later = [];
    grows = ap (λ (w : World). w.history) is ∙ (λ i. old.history ++ Wrote Program path (Some (content_or_empty (file_at (sym (append-nil old.history) i) path))) (sym next i) ∷ []);
    all_earlier = tt;
    all_later = tt;
  };
}

pub writes_now : (path : List ℕ) (content : Option (List ℕ)) (old new : World) → new ≡ wrote Program path content old → Writes true path content old new
writes_now path content old new is = record {
  events = ap (λ (w : World). w.events) is;
  ticked = ap (λ (w : World). w.ticked) is;
  at_start = ap (λ (w : World). w.failures_at_start) is;
  history = λ _. (latest old.history + 1, record { earlier = []; later = []; grows = ap (λ (w : World). w.history) is; all_earlier = tt; all_later = tt });
}

pub appends_now : (path bytes : List ℕ) (old new : World) → new ≡ appended path bytes old → Appends true path bytes old new
appends_now path bytes old new is = record {
  events = ap (λ (w : World). w.events) is;
  ticked = ap (λ (w : World). w.ticked) is;
  at_start = ap (λ (w : World). w.failures_at_start) is;
  history = λ _. record {
    stamp = latest old.history + 1;
    earlier = [];
    later = [];
    grows = ap (λ (w : World). w.history) is ∙ (λ i. old.history ++ Wrote Program path (Some (content_or_empty (file_at (sym (append-nil old.history) i) path) ++ bytes)) (latest old.history + 1) ∷ []);
    all_earlier = tt;
    all_later = tt;
  };
}
