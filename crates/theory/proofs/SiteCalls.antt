-- What calls of a site leave, one after another.
use Rattle.std.proofs.Common.{◌≡◌, Bool, false, true, List, [], ◌∷◌, ◌++◌, Some, inl, inr, Result, Ok, Err, IfErr, refl, sym, ◌∙◌, ap, subst, arith, append_assoc}
use Rattle.std.specs.List.{AllByRecursion}
use Rattle.std.proofs.lemmas.List.{append-nil}
use Rattle.std.proofs.lemmas.Bool.{false≢true}
use Rattle.model.specs.declared.fault.SiteFault.{SiteFault}
use Rattle.model.specs.declared.fault.SiteFault.TheVariants.{Device, Stopped, Memory}
use Rattle.model.specs.declared.event.Event.{Event}
use Rattle.model.specs.declared.event.Moment.{Moment}
use Rattle.model.specs.World.{World, IsRunning}
use Rattle.model.specs.Calls.{IsByOthers, OthersWrote, OnlyLooks, HasCause}
use Rattle.theory.specs.Seen.{IsSeen, Unrefused}

all_append : (P : Moment → Type 0) (xs ys : List Moment) → AllByRecursion P xs → AllByRecursion P ys → AllByRecursion P (xs ++ ys)
all_append P [] ys a b = b
all_append P (x ∷ xs) ys a b = (a.0, all_append P xs ys a.1 b)

pub looks_none : (tells : Bool) (w : World) → OnlyLooks tells w w
looks_none tells w = record { events = refl; ticked = refl; at_start = refl; history = λ told. record { more = []; grows = sym (append-nil w.history); all = tt } }

pub looks_then : (tells : Bool) (a b c : World) → OnlyLooks tells a b → OnlyLooks tells b c → OnlyLooks tells a c
looks_then tells a b c first second =
    record {
      events = second.events ∙ first.events;
      ticked = second.ticked ∙ first.ticked;
      at_start = second.at_start ∙ first.at_start;
      history = λ told.
          let f = first.history told in
          let s : OthersWrote (IsRunning a.events) b.history c.history = subst (λ (l : List Event). OthersWrote (IsRunning l) b.history c.history) first.events (second.history told) in
          record {
            more = f.more ++ s.more;
            grows = s.grows ∙ (ap (λ (l : List Moment). l ++ s.more) f.grows ∙ append_assoc a.history f.more s.more);
            all = all_append (IsByOthers (IsRunning a.events)) f.more s.more f.all s.all;
          };
    }

not_refused : {T : Type 0} (r : Result T SiteFault) → r ≡ Err Memory → r ≡ Err Device → ⊥
not_refused r wants refused = cc

pub seen_of : {T : Type 0} (old new : World) (r : Result T SiteFault) → HasCause old new r → IfErr r (IsSeen old new)
seen_of old new (Ok x) cause = tt
seen_of old new (Err Device) cause = cause.device refl
seen_of old new (Err Stopped) cause = cause.stopped
seen_of old new (Err Memory) cause = inl (cause.others (not_refused (Err Memory) refl))

pub seen_since : (a b c : World) (fault : SiteFault) → b.failures ≡ a.failures → IsSeen b c fault → IsSeen a c fault
seen_since a b c Device same h = omega (arith, same, h)
seen_since a b c Stopped same h = h
seen_since a b c Memory same (inl h) = inl (h ∙ same)
seen_since a b c Memory same (inr h) = inr (h ∙ ap Some same)

-- ---- calls of which none was refused

pub unrefused_none : (w : World) → w.stopped ≡ false → Unrefused w w
unrefused_none w runs = record { failures = refl; began = runs; goes_on = runs; earlier = refl }

no_error : {T : Type 0} (x : T) (fault : SiteFault) → Ok x ≡ Err fault → ⊥
no_error x fault is = cc

-- a call that answered: the site had not stopped
pub unrefused_call : {T : Type 0} (a b : World) (x : T) → HasCause a b (Ok x) → Unrefused a b
unrefused_call a b x cause = record { failures = cause.others (no_error x Device); began = by_test a.stopped refl; goes_on = cause.stopped; earlier = cause.earlier }
  where
    by_test : (t : Bool) → a.stopped ≡ t → a.stopped ≡ false
    by_test false is = is
    by_test true is = absurd (no_error x Stopped (cause.after_stop is).0)

pub unrefused_then : (a b c : World) → Unrefused a b → Unrefused b c → Unrefused a c
unrefused_then a b c first second = record { failures = second.failures ∙ first.failures; began = first.began; goes_on = second.goes_on; earlier = second.earlier ∙ first.earlier }

-- one more call, which may be refused
pub cause_then : {T : Type 0} (a b c : World) (r : Result T SiteFault) → Unrefused a b → HasCause b c r → HasCause a c r
cause_then a b c r first cause = record {
  grows = omega (arith, cause.grows, first.failures);
  device = λ refused. let more = cause.device refused in omega (arith, more, first.failures);
  others = λ other. cause.others other ∙ first.failures;
  stopped = cause.stopped;
  after_stop = λ stopped. absurd (false≢true (sym first.began ∙ stopped));
  earlier = cause.earlier ∙ first.earlier;
}
