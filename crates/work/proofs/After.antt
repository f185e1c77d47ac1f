-- The world after calls of a run is that of before, and more.
use Rattle.std.proofs.Common.{◌≡◌, Bool, IsTrue, List, [], ◌∷◌, ◌++◌, ℕ, Option, Some, Result, Ok, Err, OnOk, OnErr, inl, inr, refl, sym, ◌∙◌, ap, append_assoc}
use Rattle.std.proofs.lemmas.List.{append-nil}
use Rattle.model.specs.declared.act.Act.{Act}
use Rattle.model.specs.declared.event.Event.{Event}
use Rattle.model.specs.declared.event.Event.TheVariants.{Start, Finish}
use Rattle.model.specs.declared.event.Moment.{Moment}
use Rattle.model.specs.declared.event.Moment.TheVariants.{Wrote, Happened}
use Rattle.model.specs.declared.event.Writer.TheVariants.{Program}
use Rattle.model.specs.World.{World, file_at}
use Rattle.model.specs.Calls.{OnlyLooks, Ticks, TicksOrNot, WritesOrNot, Starts, StartsOrNot, Finishes, content_or_empty}
use Rattle.theory.proofs.Lists.{same_rest}
use Rattle.graph.specs.declared.graph.Graph.{Graph}
use Rattle.theory.specs.Writes.{WritesAt}
use Rattle.theory.proofs.Writing.{writes_or_not_at}
use Rattle.judge.specs.declared.looks.Looks.{Looks}
use Rattle.judge.specs.Looking.{LooksFollow}
use Rattle.work.specs.After.{ComesAfter, LooksUnlessMore}

-- no list is itself and more
no_more : {X : Type 0} (xs : List X) (y : X) (ys : List X) → xs ≡ xs ++ y ∷ ys → ⊥
no_more {X} xs y ys is = some (same_rest xs [] (y ∷ ys) (append-nil xs ∙ is))
  where
    some : [] ≡ y ∷ ys → ⊥
    some none = cc

nothing_first : {X : Type 0} (xs ys : List X) → xs ++ ys ≡ [] → xs ≡ []
nothing_first [] ys is = refl
nothing_first (x ∷ xs) ys is = cc

-- what more there was in two steps is none where there is none in both
pub none_between : {X : Type 0} (old mid new xs ys : List X) → mid ≡ old ++ xs → new ≡ mid ++ ys → new ≡ old → mid ≡ old
none_between {X} old mid new xs ys one two same =
    one ∙ (ap (λ (l : List X). old ++ l) (nothing_first xs ys (same_rest old (xs ++ ys) [] (sym whole ∙ sym (append-nil old)))) ∙ append-nil old)
  where
    whole : old ≡ old ++ (xs ++ ys)
    whole = sym same ∙ (two ∙ (ap (λ (l : List X). l ++ ys) one ∙ append_assoc old xs ys))

module _ (tells : Bool) where
  still : (a b : World) → b.events ≡ a.events → (IsTrue tells → (more : List Moment) × (b.history ≡ a.history ++ more)) → ComesAfter tells a b
  still a b same history = record { events = ([], same ∙ sym (append-nil a.events)); history = history }

  pub after_same : (w : World) → ComesAfter tells w w
  after_same w = record { events = ([], sym (append-nil w.events)); history = λ tell. ([], sym (append-nil w.history)) }

  pub after_then : (a b c : World) → ComesAfter tells a b → ComesAfter tells b c → ComesAfter tells a c
  after_then a b c first second = record {
    events = (first.events.0 ++ second.events.0, second.events.1 ∙ (ap (λ (l : List Event). l ++ second.events.0) first.events.1 ∙ append_assoc a.events first.events.0 second.events.0));
    history = λ tell.
        let one = first.history tell in
        let two = second.history tell in
        (one.0 ++ two.0, two.1 ∙ (ap (λ (l : List Moment). l ++ two.0) one.1 ∙ append_assoc a.history one.0 two.0));
  }

  pub after_looks : (a b : World) → OnlyLooks tells a b → ComesAfter tells a b
  after_looks a b looks = still a b looks.events (λ tell.
      let call = looks.history tell in
      (call.more, call.grows))

  pub after_writes : (path : List ℕ) (a b : World) → WritesAt tells path a b → ComesAfter tells a b
  after_writes path a b writes = still a b writes.events (λ tell.
      let call = writes.history tell in
      (call.more, call.grows))

  pub after_removal : (path : List ℕ) (content : Option (List ℕ)) (a b : World) → WritesOrNot tells path content a b → ComesAfter tells a b
  after_removal path content a b writes = after_writes path a b (writes_or_not_at tells path content a b writes)

  pub after_tick : (path : List ℕ) (stamp : ℕ) (a b : World) → Ticks tells path stamp a b → ComesAfter tells a b
  after_tick path stamp a b ticks = still a b ticks.events (λ tell.
      let call = ticks.history tell in
      (call.earlier ++ Wrote Program path (Some (content_or_empty (file_at (a.history ++ call.earlier) path))) stamp ∷ call.later, call.grows))

  pub after_tick_or_not : (path : List ℕ) (a b : World) → TicksOrNot tells path a b → ComesAfter tells a b
  after_tick_or_not path a b (inl looks) = after_looks a b looks
  after_tick_or_not path a b (inr (stamp, ticks)) = after_tick path stamp a b ticks

  pub after_start : (job : ℕ) (act : Act) (a b : World) → Starts tells job act a b → ComesAfter tells a b
  after_start job act a b starts = record {
    events = (Start job act a.ticked ∷ [], starts.events);
    history = λ tell.
        let call = starts.history tell in
        (call.earlier ++ Happened (Start job act a.ticked) ∷ call.later, call.grows);
  }

  pub after_start_or_not : (job : ℕ) (act : Act) (a b : World) → StartsOrNot tells job act a b → ComesAfter tells a b
  after_start_or_not job act a b (inl looks) = after_looks a b looks
  after_start_or_not job act a b (inr starts) = after_start job act a b starts

  pub after_finish : (job : ℕ) (ok : Bool) (a b : World) → Finishes tells job ok a b → ComesAfter tells a b
  after_finish job ok a b finishes = record {
    events = (Finish job ok ∷ [], finishes.events);
    history = λ tell.
        let call = finishes.history tell in
        (call.earlier ++ Happened (Finish job ok) ∷ call.later, call.grows);
  }

  -- ---- where nothing happened

  -- a start or a finish is one more
  pub one_started : (job : ℕ) (act : Act) (a b : World) → Starts tells job act a b → b.events ≡ a.events → ⊥
  one_started job act a b starts same = no_more a.events (Start job act a.ticked) [] (sym same ∙ starts.events)

  pub one_ended : (job : ℕ) (ok : Bool) (a b : World) → Finishes tells job ok a b → b.events ≡ a.events → ⊥
  one_ended job ok a b finishes same = no_more a.events (Finish job ok) [] (sym same ∙ finishes.events)

  -- where nothing happened from the first world to the last, nothing did up to the one between
  pub none_first : (a b c : World) → ComesAfter tells a b → ComesAfter tells b c → c.events ≡ a.events → b.events ≡ a.events
  none_first a b c first second same = none_between a.events b.events c.events first.events.0 second.events.0 first.events.1 second.events.1 same

  pub looks_then_looks : (graph : Graph) (a b c : World) → LooksFollow tells a b c → (one two three : Looks) → ComesAfter tells a b → ComesAfter tells b c → LooksUnlessMore tells graph a b one two → LooksUnlessMore tells graph b c two three
      → LooksUnlessMore tells graph a c one three
  looks_then_looks graph a b c law one two three first second looked later same =
      let none = none_first a b c first second same in
      law.looked graph one two three (looked none) (later (same ∙ sym none))

  -- where something happened behind it, something happened
  pub some_after : (a b c : World) → ComesAfter tells a b → (c.events ≡ b.events → ⊥) → ComesAfter tells b c → c.events ≡ a.events → ⊥
  some_after a b c first some second same = some (same ∙ sym (none_first a b c first second same))

-- however the start of a command went
pub after_start_result : {E : Type 0} (tells : Bool) (r : Result (Unit {0}) E) (job : ℕ) (act : Act) (a b : World) → OnOk r (Starts tells job act a b) → OnErr r (StartsOrNot tells job act a b) → ComesAfter tells a b
after_start_result tells (Ok done) job act a b starts err = after_start tells job act a b starts
after_start_result tells (Err fault) job act a b starts err = after_start_or_not tells job act a b err
