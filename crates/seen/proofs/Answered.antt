-- Calls that are made besides, one after another.
use Rattle.std.proofs.Common.{◌≡◌, ◌⊎◌, ℕ, List, [], ◌∷◌, ◌++◌, append_assoc, Some, Bool, false, true, inl, inr, Result, Ok, Err, refl, sym, ◌∙◌, ap, subst, arith}
use Rattle.std.specs.Prelude.{IsErrAnd, OnOk, OnErr}
use Rattle.std.proofs.lemmas.Bool.{false≢true}
use Rattle.model.specs.declared.fault.SiteFault.{SiteFault}
use Rattle.model.specs.declared.fault.SiteFault.TheVariants.{Device, Stopped, Memory}
use Rattle.model.specs.World.{World, IsRunning, file_at}
use Rattle.theory.proofs.Lists.{all_append}
use Rattle.model.specs.declared.event.Event.{Event}
use Rattle.model.specs.declared.event.Moment.{Moment}
use Rattle.model.specs.declared.event.Moment.TheVariants.{Wrote}
use Rattle.model.specs.declared.event.Writer.TheVariants.{Program}
use Rattle.model.specs.Calls.{Appends, AppendsOrNot, Extends, HasCause, IsByOthers, KeepsWait, OnlyLooks, OthersWrote, content_or_empty, is_stop}
use Rattle.theory.specs.Seen.{Unrefused}
use Rattle.theory.proofs.SiteCalls.{looks_none, looks_then, unrefused_call, unrefused_none, unrefused_then, cause_then}
use Rattle.seen.specs.Asking.{Asks, Refuses, WasAnswered, fault_of}

-- no call was made
pub asks_none : {T : Type 0} (tells : Bool) (w : World) (x : T) → Asks tells w w (Ok x)
asks_none tells w x = record { looks = looks_none tells w; waits = refl; ok = inl refl; err = tt }

-- one call was made
pub asks_call : {T : Type 0} (tells : Bool) (a b : World) (r : Result T SiteFault) → OnlyLooks tells a b → HasCause a b r → KeepsWait a b → Asks tells a b r
asks_call tells a b (Ok x) looks cause waits = record { looks = looks; waits = waits; ok = inr (unrefused_call a b x cause); err = tt }
asks_call tells a b (Err fault) looks cause waits = record { looks = looks; waits = waits; ok = tt; err = cause }

answered_then : (a b c : World) → WasAnswered a b → WasAnswered b c → WasAnswered a c
answered_then a b c (inl same) second = subst (λ (w : World). WasAnswered w c) same second
answered_then a b c (inr first) (inl same) = inr (subst (Unrefused a) (sym same) first)
answered_then a b c (inr first) (inr second) = inr (unrefused_then a b c first second)

-- one more call, where those before were answered
pub cause_behind : {T : Type 0} (a b c : World) (r : Result T SiteFault) → WasAnswered a b → HasCause b c r → HasCause a c r
cause_behind a b c r (inl same) cause = subst (λ (w : World). HasCause w c r) same cause
cause_behind a b c r (inr first) cause = cause_then a b c r first cause

waits_then : (a b c : World) → KeepsWait a b → KeepsWait b c → KeepsWait a c
waits_then a b c first second = second ∙ first

pub asks_then : {T U : Type 0} (tells : Bool) (a b c : World) (x : T) (r : Result U SiteFault) → Asks tells a b (Ok x) → Asks tells b c r → Asks tells a c r
asks_then tells a b c x (Ok y) first second = record {
  looks = looks_then tells a b c first.looks second.looks;
  waits = waits_then a b c first.waits second.waits;
  ok = answered_then a b c first.ok second.ok;
  err = tt;
}
asks_then tells a b c x (Err fault) first second = record {
  looks = looks_then tells a b c first.looks second.looks;
  waits = waits_then a b c first.waits second.waits;
  ok = tt;
  err = cause_behind a b c (Err fault) first.ok second.err;
}

not_refused : {T : Type 0} (r : Result T SiteFault) → r ≡ Err Memory → r ≡ Err Device → ⊥
not_refused r wants refused = cc

-- there was no memory, where calls before were answered
pub lacks_memory : {T : Type 0} (a b : World) → Unrefused a b → HasCause {T = T} a b (Err Memory)
lacks_memory {T} a b first = record {
  grows = omega (arith, first.failures);
  device = λ refused. absurd (not_refused {T = T} (Err Memory) refl refused);
  others = λ other. first.failures;
  stopped = first.goes_on;
  after_stop = λ stopped. absurd (false≢true (sym first.began ∙ stopped));
  earlier = first.earlier;
}

-- no memory, where the site runs and no call was made
pub asks_no_memory : {T : Type 0} (tells : Bool) (w : World) → w.stopped ≡ false → Asks {T = T} tells w w (Err Memory)
asks_no_memory tells w runs = record { looks = looks_none tells w; waits = refl; ok = tt; err = lacks_memory w w (unrefused_none w runs) }

-- no memory, behind calls that were answered
pub lacks_behind : {T U : Type 0} (tells : Bool) (a b : World) (x : T) → Asks tells a b (Ok x) → Unrefused a b → Asks {T = U} tells a b (Err Memory)
lacks_behind tells a b x first answered = record { looks = first.looks; waits = first.waits; ok = tt; err = lacks_memory a b answered }

err_same : {T U : Type 0} (f f' : SiteFault) → ◌≡◌ {A = Result T SiteFault} (Err f) (Err f') → ◌≡◌ {A = Result U SiteFault} (Err f) (Err f')
err_same {T = T} {U = U} f f' is = ap (λ (x : SiteFault). Err x) (by is)
  where
    by : ◌≡◌ {A = Result T SiteFault} (Err f) (Err f') → f ≡ f'
    by e = cc

stop_same : (T U : Type 0) (f : SiteFault) → is_stop {T = T} (Err f) ≡ is_stop {T = U} (Err f)
stop_same T U Device = refl
stop_same T U Stopped = refl
stop_same T U Memory = refl

-- a fault is one of any call
pub cause_of : {T U : Type 0} (a b : World) (fault : SiteFault) → HasCause {T = T} a b (Err fault) → HasCause {T = U} a b (Err fault)
cause_of {T = T} {U = U} a b fault cause = record {
  grows = cause.grows;
  device = λ is. cause.device (err_same {T = U} {U = T} fault Device is);
  others = λ other. cause.others (λ is. other (err_same {T = T} {U = U} fault Device is));
  stopped = cause.stopped ∙ stop_same T U fault;
  after_stop = λ stopped. (err_same {T = T} {U = U} fault Stopped (cause.after_stop stopped).0, (cause.after_stop stopped).1);
  earlier = cause.earlier;
}

-- the fault of a call, or want of memory where it gave none
pub cause_by : {T U : Type 0} (a b : World) (r : Result T SiteFault) → HasCause a b r → HasCause {T = U} a b (Err (fault_of r))
cause_by {T = T} {U = U} a b (Ok v) cause = lacks_memory {T = U} a b (unrefused_call a b v cause)
cause_by {T = T} {U = U} a b (Err fault) cause = cause_of {T = T} {U = U} a b fault cause

-- what is refused so asks so
pub refused_asks : {T : Type 0} (tells : Bool) (a b : World) (fault : SiteFault) → Refuses tells a b fault → Asks {T = T} tells a b (Err fault)
refused_asks {T = T} tells a b fault refused = record { looks = refused.looks; waits = refused.waits; ok = tt; err = cause_of {T = Unit {0}} {U = T} a b fault refused.cause }

-- ---- one call more, where those before were answered

err_is : {U : Type 0} (r : Result U SiteFault) (fault : SiteFault) → IsErrAnd r (λ f. f ≡ fault) → r ≡ Err fault
err_is (Ok v) fault is = absurd is
err_is (Err f) fault is = ap (λ (x : SiteFault). Err x) is

pub asks_more : {T V U : Type 0} (tells : Bool) (a b c : World) (x : T) (y : V) (z : U) → Asks tells a b (Ok x) → OnlyLooks tells b c → HasCause b c (Ok y) → KeepsWait b c → Asks tells a c (Ok z)
asks_more tells a b c x y z first looks cause waits = record {
  looks = looks_then tells a b c first.looks looks;
  waits = waits_then a b c first.waits waits;
  ok = answered_then a b c first.ok (inr (unrefused_call b c y cause));
  err = tt;
}

pub asks_fail : {T V U : Type 0} (tells : Bool) (a b c : World) (x : T) (fault : SiteFault) (r : Result U SiteFault) → Asks tells a b (Ok x) → OnlyLooks tells b c → HasCause {T = V} b c (Err fault) → KeepsWait b c
    → IsErrAnd r (λ f. f ≡ fault) → Asks tells a c r
asks_fail {V = V} {U = U} tells a b c x fault r first looks cause waits is =
    subst (λ (it : Result U SiteFault). Asks tells a c it) (sym (err_is r _ is)) (record {
      looks = looks_then tells a b c first.looks looks;
      waits = waits_then a b c first.waits waits;
      ok = tt;
      err = cause_behind a b c (Err fault) first.ok (cause_of {T = V} {U = U} b c fault cause);
    })

pub asks_no_room : {T V U : Type 0} (tells : Bool) (a b c : World) (x : T) (y : V) (r : Result U SiteFault) → Asks tells a b (Ok x) → OnlyLooks tells b c → HasCause b c (Ok y) → KeepsWait b c → IsErrAnd r (λ f. f ≡ Memory) → Asks tells a c r
asks_no_room {U = U} tells a b c x y r first looks cause waits is =
    subst (λ (it : Result U SiteFault). Asks tells a c it) (sym (err_is r _ is)) (record {
      looks = looks_then tells a b c first.looks looks;
      waits = waits_then a b c first.waits waits;
      ok = tt;
      err = cause_behind a b c (Err Memory) first.ok (lacks_memory {T = U} b c (unrefused_call b c y cause));
    })

pub asks_both : {T V U : Type 0} (tells : Bool) (a b c : World) (x : T) (y : V) (z : U) → Asks tells a b (Ok x) → Asks tells b c (Ok y) → Asks tells a c (Ok z)
asks_both tells a b c x y z first second = record { looks = looks_then tells a b c first.looks second.looks; waits = waits_then a b c first.waits second.waits; ok = answered_then a b c first.ok second.ok; err = tt }

pub asks_fault : {T V U : Type 0} (tells : Bool) (a b c : World) (x : T) (fault : SiteFault) (r : Result U SiteFault) → Asks tells a b (Ok x) → Asks {T = V} tells b c (Err fault) → IsErrAnd r (λ f. f ≡ fault) → Asks tells a c r
asks_fault {V = V} {U = U} tells a b c x fault r first second is =
    subst (λ (it : Result U SiteFault). Asks tells a c it) (sym (err_is r _ is)) (record {
      looks = looks_then tells a b c first.looks second.looks;
      waits = waits_then a b c first.waits second.waits;
      ok = tt;
      err = cause_behind a b c (Err fault) first.ok (cause_of {T = V} {U = U} b c fault second.err);
    })

-- ---- what is put behind a file once it was asked for other things

abbrev extends_after : (running : ℕ → Type 0) (p bytes : List ℕ) (a b c : List Moment) → OthersWrote running a b → Extends running p bytes b c → Extends running p bytes a c
extends_after running p bytes a b c first does = record {
  stamp = does.stamp;
  earlier = first.more ++ does.earlier;
  later = does.later;
  grows = does.grows ∙ (λ i. first.grows i ++ (does.earlier ++ Wrote Program p (Some (content_or_empty (file_at (first.grows i ++ does.earlier) p) ++ bytes)) does.stamp ∷ does.later))
      ∙ (ap (λ (h : List Moment). (a ++ first.more) ++ (does.earlier ++ Wrote Program p (Some (content_or_empty (file_at h p) ++ bytes)) does.stamp ∷ does.later)) (append_assoc a first.more does.earlier)
      ∙ (append_assoc a first.more (does.earlier ++ Wrote Program p (Some (content_or_empty (file_at (a ++ (first.more ++ does.earlier)) p) ++ bytes)) does.stamp ∷ does.later)
      ∙ ap (λ (l : List Moment). a ++ l) (sym (append_assoc first.more does.earlier (Wrote Program p (Some (content_or_empty (file_at (a ++ (first.more ++ does.earlier)) p) ++ bytes)) does.stamp ∷ does.later)))));
  all_earlier = all_append (IsByOthers running) first.more does.earlier first.all does.all_earlier;
  all_later = does.all_later;
}

pub appends_after : (tells : Bool) (p bytes : List ℕ) (a b c : World) → OnlyLooks tells a b → Appends tells p bytes b c → Appends tells p bytes a c
appends_after tells p bytes a b c looks does = record {
  events = does.events ∙ looks.events;
  ticked = does.ticked ∙ looks.ticked;
  at_start = does.at_start ∙ looks.at_start;
  history = λ told. extends_after (IsRunning a.events) p bytes a.history b.history c.history (looks.history told)
      (subst (λ (es : List Event). Extends (IsRunning es) p bytes b.history c.history) looks.events (does.history told));
}

pub appends_ok_after : {T : Type 0} (tells : Bool) (p bytes : List ℕ) (a b c : World) (r : Result T SiteFault) → OnlyLooks tells a b → OnOk r (Appends tells p bytes b c) → OnOk r (Appends tells p bytes a c)
appends_ok_after tells p bytes a b c (Ok v) looks does = appends_after tells p bytes a b c looks does
appends_ok_after tells p bytes a b c (Err fault) looks does = tt

pub appends_err_after : {T : Type 0} (tells : Bool) (p bytes : List ℕ) (a b c : World) (r : Result T SiteFault) → OnlyLooks tells a b → OnErr r (AppendsOrNot tells p bytes b c) → OnErr r (AppendsOrNot tells p bytes a c)
appends_err_after tells p bytes a b c (Ok v) looks does = tt
appends_err_after tells p bytes a b c (Err fault) looks (inl more) = inl (looks_then tells a b c looks more)
appends_err_after tells p bytes a b c (Err fault) looks (inr does) = inr (does.0, does.1, does.2, appends_after tells p does.0 a b c looks does.3)
