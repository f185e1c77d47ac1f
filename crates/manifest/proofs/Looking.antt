-- What calls of a site see and leave, one after another.
use Rattle.std.proofs.Common.{◌≡◌, ℕ, Bool, IsTrue, List, [], ◌∷◌, ◌++◌, Option, Result, Ok, Err, IsErrAnd, refl, sym, ◌∙◌, ap, subst, arith, append_assoc}
use Rattle.std.specs.List.{AllByRecursion}
use Rattle.std.proofs.lemmas.List.{append-nil}
use Rattle.model.specs.declared.fault.SiteFault.{SiteFault}
use Rattle.model.specs.declared.event.Event.{Event}
use Rattle.model.specs.declared.event.Moment.{Moment}
use Rattle.model.specs.World.{World, IsRunning, content_of, file_at}
use Rattle.model.specs.Calls.{IsByOthers, OthersWrote, OnlyLooks}
use Rattle.manifest.specs.declared.fault.ReadError.{ReadError}
use Rattle.manifest.specs.Answer.{held, site_part}
use Rattle.manifest.specs.Seen.{Covers, IsCaused}

-- ---- what calls leave

all_append : (P : Moment → Type 0) (xs ys : List Moment) → AllByRecursion P xs → AllByRecursion P ys → AllByRecursion P (xs ++ ys)
all_append P [] ys a b = b
all_append P (x ∷ xs) ys a b = (a.0, all_append P xs ys a.1 b)

pub looks_none : (tells : Bool) (w : World) → OnlyLooks tells w w
looks_none tells w = record { events = refl; ticked = refl; at_start = refl; history = λ told. record { more = []; grows = sym (append-nil w.history); all = tt } }

pub looks_then : (tells : Bool) (a b c : World) → OnlyLooks tells a b → OnlyLooks tells b c → OnlyLooks tells a c
looks_then tells a b c first second =
    record {
      events = second.events ∙ first.events;
      ticked = second.ticked ∙ first.ticked;
      at_start = second.at_start ∙ first.at_start;
      history = λ told.
          let f = first.history told in
          let s : OthersWrote (IsRunning a.events) b.history c.history = subst (λ (l : List Event). OthersWrote (IsRunning l) b.history c.history) first.events (second.history told) in
          record {
            more = f.more ++ s.more;
            grows = s.grows ∙ (ap (λ (l : List Moment). l ++ s.more) f.grows ∙ append_assoc a.history f.more s.more);
            all = all_append (IsByOthers (IsRunning a.events)) f.more s.more f.all s.all;
          };
    }

-- ---- causes of faults

abbrev pub fine : Result (Unit {0}) SiteFault
fine = Ok tt

abbrev pub failed : ReadError → Result (Unit {0}) ReadError
failed error = Err error

fine_is_no_fault : (fault : SiteFault) → fine ≡ Err fault → ⊥
fine_is_no_fault fault is = cc

-- no call between the two failed
abbrev pub NoneFailed : World → World → Type 0
NoneFailed old new = IsCaused old new fine

pub none_failed : (w : World) → NoneFailed w w
none_failed w = record { grows = omega arith; device = λ is. absurd (fine_is_no_fault _ is); others = λ no. refl; stopped = λ going. going; earlier = refl }

pub caused_then : {T : Type 0} (a b c : World) (r : Result T SiteFault) → NoneFailed a b → IsCaused b c r → IsCaused a c r
caused_then a b c r none cause =
    let same = none.others (fine_is_no_fault _) in
    record {
      grows = omega (arith, same, cause.grows);
      device = λ is. let more = cause.device is in omega (arith, same, more);
      others = λ no. cause.others no ∙ same;
      stopped = λ going. cause.stopped (none.stopped going);
      earlier = cause.earlier ∙ none.earlier;
    }

-- a fault that is passed on
pub caused_on : {T : Type 0} (a b c : World) (error : ReadError) (r : Result T ReadError)
    → NoneFailed a b → IsCaused b c (site_part (failed error)) → IsErrAnd r (λ (e : ReadError). e ≡ error) → IsCaused a c (site_part r)
caused_on a b c error (Ok value) none cause is = absurd is
caused_on a b c error (Err other) none cause is =
    caused_then a b c (site_part (failed other)) none
    (subst (λ (e : ReadError). IsCaused b c (site_part (failed e))) (sym is) cause)

-- ---- what was seen

later_too : (name : List ℕ) (content : Option (List ℕ)) (a b c more : List Moment) → c ≡ b ++ more → held a b name content → held a c name content
later_too name content a b c more grows sees =
    record {
      earlier = sees.earlier;
      later = sees.later ++ more;
      grows = grows ∙ (ap (λ (l : List Moment). l ++ more) sees.grows ∙ (append_assoc a (sees.earlier ++ sees.later) more ∙ ap (λ (l : List Moment). a ++ l) (append_assoc sees.earlier sees.later more)));
      is = sees.is;
    }

earlier_too : (name : List ℕ) (content : Option (List ℕ)) (a b c more : List Moment) → b ≡ a ++ more → held b c name content → held a c name content
earlier_too name content a b c more grows sees =
    let joined : b ++ sees.earlier ≡ a ++ (more ++ sees.earlier) = ap (λ (l : List Moment). l ++ sees.earlier) grows ∙ append_assoc a more sees.earlier in
    record {
      earlier = more ++ sees.earlier;
      later = sees.later;
      grows = sees.grows ∙ (ap (λ (l : List Moment). l ++ (sees.earlier ++ sees.later)) grows ∙ (append_assoc a more (sees.earlier ++ sees.later) ∙ ap (λ (l : List Moment). a ++ l) (sym (append_assoc more sees.earlier sees.later))));
      is = subst (λ (l : List Moment). content ≡ content_of (file_at l name)) joined sees.is;
    }

module _ (tells : Bool) (entry exit a b c : World) (told : IsTrue tells) where
  -- what lies before a call
  pub covers_before : OnlyLooks tells b c → Covers entry exit a c → Covers entry exit a b
  covers_before looks covered = λ name content sees. covered name content (later_too name content a.history b.history c.history (looks.history told).more (looks.history told).grows sees)

  -- what lies behind a call
  pub covers_after : OnlyLooks tells a b → Covers entry exit a c → Covers entry exit b c
  covers_after looks covered = λ name content sees. covered name content (earlier_too name content a.history b.history c.history (looks.history told).more (looks.history told).grows sees)

-- what a file of this name held was seen
pub covers_name : (entry exit old new : World) (name asked : List ℕ) (content answer : Option (List ℕ)) → asked ≡ name → answer ≡ content → Covers entry exit old new
    → held old.history new.history asked answer → held entry.history exit.history name content
covers_name entry exit old new name asked content answer same is covered sees =
    covered name content (subst (λ (n : List ℕ). held old.history new.history n content) same (subst (λ (a : Option (List ℕ)). held old.history new.history asked a) is sees))
