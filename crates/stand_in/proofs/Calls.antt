-- Calls that only look, one after another.
use Rattle.std.proofs.Common.{◌≡◌, ℕ, Bool, true, false, Option, None, Some, Result, Ok, Err, IfErr, IfOk, OnOk, IsSome, IsErrAnd, refl, sym, ap, ◌∙◌, subst, arith}
use Rattle.std.specs.Result.{IsErrOf}
use Rattle.std.proofs.lemmas.Bool.{false≢true, true≢false}
use Rattle.model.specs.declared.fault.SiteFault.{SiteFault}
use Rattle.model.specs.declared.fault.SiteFault.TheVariants.{Device, Memory, Stopped}
use Rattle.model.specs.Calls.{HasCause, OnlyLooks}
use Rattle.model.specs.World.{World}
use Rattle.theory.specs.Seen.{Looked, Unrefused}
use Rattle.theory.proofs.SiteCalls.{unrefused_call}
use Rattle.theory.proofs.Looks.{looks_nothing, looks_then}
use Rattle.stand_in.specs.Moves.{AsksWell, FailedAt, OnlyAsks}
use Rattle.stand_in.proofs.Stages.{looked_nothing, looked_then}

-- ---- causes

-- the cause of a fault, whatever a call would have answered
pub cause_of : {T : Type 0} (old new : World) (fault : SiteFault) → HasCause {T = T} old new (Err fault) → HasCause {T = Unit {0}} old new (Err fault)
cause_of old new Device cause = record { grows = cause.grows; device = λ is. cause.device refl; others = λ other. absurd (other refl); stopped = cause.stopped; after_stop = λ stopped. absurd (device_stopped (cause.after_stop stopped).0); earlier = cause.earlier }
  where
    device_stopped : {T : Type 0} → IsErrOf {T = T} (Err Device) Stopped → ⊥
    device_stopped is = cc
cause_of old new Stopped cause = record { grows = cause.grows; device = λ is. absurd (stopped_device is); others = λ other. cause.others (λ is. stopped_device is); stopped = cause.stopped; after_stop = λ stopped. (refl, (cause.after_stop stopped).1); earlier = cause.earlier }
  where
    stopped_device : {T : Type 0} → IsErrOf {T = T} (Err Stopped) Device → ⊥
    stopped_device is = cc
cause_of old new Memory cause = record { grows = cause.grows; device = λ is. absurd (memory_device is); others = λ other. cause.others (λ is. memory_device is); stopped = cause.stopped; after_stop = λ stopped. absurd (memory_stopped (cause.after_stop stopped).0); earlier = cause.earlier }
  where
    memory_device : {T : Type 0} → IsErrOf {T = T} (Err Memory) Device → ⊥
    memory_device is = cc

    memory_stopped : {T : Type 0} → IsErrOf {T = T} (Err Memory) Stopped → ⊥
    memory_stopped is = cc

not_device : {T : Type 0} → IsErrOf {T = T} (Err Memory) Device → ⊥
not_device is = cc

-- there was no memory, and no call
memory_cause : (w : World) → w.stopped ≡ false → HasCause {T = Unit {0}} w w (Err Memory)
memory_cause w runs = record { grows = omega arith; device = λ is. absurd (not_device is); others = λ other. refl; stopped = runs; after_stop = λ stopped. absurd (false≢true (sym runs ∙ stopped)); earlier = refl }

module _ (tells : Bool) where
  pub failed_call : {T : Type 0} (old new : World) (fault : SiteFault) → OnlyLooks tells old new → HasCause {T = T} old new (Err fault) → FailedAt tells old new fault
  failed_call old new fault looks cause = record { mid = old; before = looks_nothing tells old; looks = looks; cause = cause_of old new fault cause }

  pub failed_memory : (old new : World) → OnlyLooks tells old new → new.stopped ≡ false → FailedAt tells old new Memory
  failed_memory old new looks runs = record { mid = new; before = looks; looks = looks_nothing tells new; cause = memory_cause new runs }

  pub failed_then : (old mid new : World) (fault : SiteFault) → OnlyLooks tells old mid → FailedAt tells mid new fault → FailedAt tells old new fault
  failed_then old mid new fault looks failed = record { mid = failed.mid; before = looks_then tells old mid failed.mid looks failed.before; looks = failed.looks; cause = failed.cause }

  -- ---- one call

  pub asks_call : {T : Type 0} (Says : T → Type 0) (old new : World) (r : Result T SiteFault) → OnlyLooks tells old new → HasCause old new r → OnlyAsks tells Says old new r
  asks_call Says old new (Ok value) looks cause = (looks, λ runs. (cause.stopped, λ says. record { looks = looks; unrefused = unrefused_call old new value cause }))
  asks_call Says old new (Err fault) looks cause = (looks, λ runs. failed_call old new fault looks cause)

  -- a call that the device refused, and an answer which says that
  pub asks_refused : {A T : Type 0} (Says : T → Type 0) (old new : World) (value : T) → OnlyLooks tells old new → HasCause {T = A} old new (Err Device) → (Says value → ⊥) → OnlyAsks tells Says old new (Ok value)
  asks_refused Says old new value looks cause unsaid = (looks, λ runs. (cause.stopped, λ says. absurd (unsaid says)))

  pub asks_nothing : {T : Type 0} (Says : T → Type 0) (w : World) (value : T) → OnlyAsks tells Says w w (Ok value)
  asks_nothing Says w value = (looks_nothing tells w, λ runs. (runs, λ says. looked_nothing tells w runs))

  -- ---- one after another

  pub asks_then : {A B : Type 0} (First : A → Type 0) (Says : B → Type 0) (old mid new : World) (value : A) (r : Result B SiteFault)
      → OnlyAsks tells First old mid (Ok value) → OnlyAsks tells Says mid new r → IfOk r (λ (told : B). Says told → First value) → OnlyAsks tells Says old new r
  asks_then First Says old mid new value (Ok told) first second so = (
    looks_then tells old mid new first.0 second.0,
    λ runs. ((second.1 (first.1 runs).0).0, λ says. looked_then tells old mid new ((first.1 runs).1 (so says)) ((second.1 (first.1 runs).0).1 says)),
  )
  asks_then First Says old mid new value (Err fault) first second so =
      (looks_then tells old mid new first.0 second.0, λ runs. failed_then old mid new fault first.0 (second.1 (first.1 runs).0))

  -- an answer that says no more than the one before
  pub asks_so : {A B : Type 0} (First : A → Type 0) (Says : B → Type 0) (old new : World) (value : A) (told : B) → OnlyAsks tells First old new (Ok value) → (Says told → First value) → OnlyAsks tells Says old new (Ok told)
  asks_so First Says old new value told first so = (first.0, λ runs. ((first.1 runs).0, λ says. (first.1 runs).1 (so says)))

  -- a fault that is passed on
  pub asks_err : {A B : Type 0} (First : A → Type 0) (Says : B → Type 0) (old new : World) (fault : SiteFault) (r : Result B SiteFault) → OnlyAsks tells First old new (Err fault) → IsErrAnd r (λ (told : SiteFault). told ≡ fault) → OnlyAsks tells Says old new r
  asks_err First Says old new fault (Ok told) failed passed = absurd passed
  asks_err First Says old new fault (Err told) failed passed = (failed.0, λ runs. subst (λ (f : SiteFault). FailedAt tells old new f) (sym passed) (failed.1 runs))

  -- one of a call behind others
  pub asks_then_err : {A B C : Type 0} (First : A → Type 0) (Second : B → Type 0) (Says : C → Type 0) (old mid new : World) (value : A) (fault : SiteFault) (r : Result C SiteFault)
      → OnlyAsks tells First old mid (Ok value) → OnlyAsks tells Second mid new (Err fault) → IsErrAnd r (λ (told : SiteFault). told ≡ fault) → OnlyAsks tells Says old new r
  asks_then_err First Second Says old mid new value fault r first second passed =
      asks_err Second Says old new fault r (looks_then tells old mid new first.0 second.0, λ runs. failed_then old mid new fault first.0 (second.1 (first.1 runs).0)) passed

  -- there was no memory behind calls
  pub asks_memory : {A B : Type 0} (First : A → Type 0) (Says : B → Type 0) (old new : World) (value : A) (r : Result B SiteFault) → OnlyAsks tells First old new (Ok value) → IsErrAnd r (λ (told : SiteFault). told ≡ Memory) → OnlyAsks tells Says old new r
  asks_memory First Says old new value (Ok told) first passed = absurd passed
  asks_memory First Says old new value (Err told) first passed = (first.0, λ runs. subst (λ (f : SiteFault). FailedAt tells old new f) (sym passed) (failed_memory old new first.0 (first.1 runs).0))

  -- ---- calls of which none was refused so far

  abbrev pub StillAsks : World → World → Type 0
  StillAsks old now = AsksWell {T = Unit {0}} tells old now (Ok tt)

  pub still_nothing : (w : World) → StillAsks w w
  still_nothing w = asks_nothing (λ (told : Unit {0}). Unit {0}) w tt

  -- one more call, and its answer
  pub still_ask : {T : Type 0} (Says : T → Type 0) (old mid new : World) (r : Result T SiteFault) → StillAsks old mid → OnlyAsks tells Says mid new r → OnlyAsks tells Says old new r
  still_ask Says old mid new (Ok value) first second = (
    looks_then tells old mid new first.0 second.0,
    λ runs. ((second.1 (first.1 runs).0).0, λ says. looked_then tells old mid new ((first.1 runs).1 tt) ((second.1 (first.1 runs).0).1 says)),
  )
  still_ask Says old mid new (Err fault) first second = (looks_then tells old mid new first.0 second.0, λ runs. failed_then old mid new fault first.0 (second.1 (first.1 runs).0))

  -- one more call that was not refused
  pub still_then : {T : Type 0} (Says : T → Type 0) (old mid new : World) (value : T) → StillAsks old mid → OnlyAsks tells Says mid new (Ok value) → Says value → StillAsks old new
  still_then Says old mid new value first second says = asks_so Says (λ (told : Unit {0}). Unit {0}) old new value tt (still_ask Says old mid new (Ok value) first second) (λ any. says)

  pub still_says : {T : Type 0} (Says : T → Type 0) (old new : World) (value : T) → StillAsks old new → OnlyAsks tells Says old new (Ok value)
  still_says Says old new value still = asks_so (λ (told : Unit {0}). Unit {0}) Says old new tt value still (λ says. tt)

  -- an answer that says nothing of what was refused
  pub still_unsaid : {A T : Type 0} (First : A → Type 0) (Says : T → Type 0) (old mid new : World) (value : A) (told : T) → StillAsks old mid → OnlyAsks tells First mid new (Ok value) → (Says told → ⊥) → OnlyAsks tells Says old new (Ok told)
  still_unsaid First Says old mid new value told first second unsaid =
      (looks_then tells old mid new first.0 second.0, λ runs. ((second.1 (first.1 runs).0).0, λ says. absurd (unsaid says)))

  pub still_err : {A B : Type 0} (First : A → Type 0) (Says : B → Type 0) (old mid new : World) (fault : SiteFault) (r : Result B SiteFault) → StillAsks old mid → OnlyAsks tells First mid new (Err fault) → IsErrAnd r (λ (told : SiteFault). told ≡ fault)
      → OnlyAsks tells Says old new r
  still_err First Says old mid new fault r first second passed = asks_err First Says old new fault r (still_ask First old mid new (Err fault) first second) passed

  pub still_memory : {B : Type 0} (Says : B → Type 0) (old new : World) (r : Result B SiteFault) → StillAsks old new → IsErrAnd r (λ (told : SiteFault). told ≡ Memory) → OnlyAsks tells Says old new r
  still_memory Says old new r still passed = asks_memory (λ (told : Unit {0}). Unit {0}) Says old new tt r still passed

  -- ---- whether a generator ran

  abbrev pub Ran : World → World → Bool → Type 0
  Ran old now ran = OnlyAsks {T = Bool} tells (λ b. b ≡ false) old now (Ok ran)

  -- one is up to date
  pub ran_none : (old mid new : World) (ran : Bool) (later : Bool) → Ran old mid ran → OnlyAsks tells (λ (l : Bool). l ≡ false) mid new (Ok later) → later ≡ false → Ran old new ran
  ran_none old mid new ran later first second is =
      asks_then (λ (b : Bool). b ≡ false) (λ (b : Bool). b ≡ false) old mid new ran (Ok ran) first (asks_so (λ (l : Bool). l ≡ false) (λ (b : Bool). b ≡ false) mid new later ran second (λ none. is)) (λ none. none)

  -- one was asked of, and what comes of it says nothing of what was refused
  pub ran_on : {A T : Type 0} (First : A → Type 0) (Says : T → Type 0) (old mid new : World) (ran : Bool) (value : A) (told : T) → Ran old mid ran → OnlyAsks tells First mid new (Ok value) → (Says told → ⊥) → OnlyAsks tells Says old new (Ok told)
  ran_on First Says old mid new ran value told first second unsaid =
      (looks_then tells old mid new first.0 second.0, λ runs. ((second.1 (first.1 runs).0).0, λ says. absurd (unsaid says)))

  pub ran_err : {A T : Type 0} (First : A → Type 0) (Says : T → Type 0) (old mid new : World) (ran : Bool) (fault : SiteFault) (r : Result T SiteFault) → Ran old mid ran → OnlyAsks tells First mid new (Err fault) → IsErrAnd r (λ (told : SiteFault). told ≡ fault)
      → OnlyAsks tells Says old new r
  ran_err First Says old mid new ran fault r first second passed = asks_then_err (λ (b : Bool). b ≡ false) First Says old mid new ran fault r first second passed

  -- two calls one after another, of which the second alone is let go
  pub on_then : {A B : Type 0} (First : A → Type 0) (Second : B → Type 0) (old mid new : World) (value : A) (told : B) → OnlyAsks tells First old mid (Ok value) → OnlyAsks tells Second mid new (Ok told) → OnlyLooks tells old new × (old.stopped ≡ false → new.stopped ≡ false)
  on_then First Second old mid new value told first second = (looks_then tells old mid new first.0 second.0, λ runs. (second.1 (first.1 runs).0).0)

  -- ---- one call more

  -- a call that answered
  pub still_call : {T : Type 0} (old new : World) (value : T) → OnlyLooks tells old new → HasCause old new (Ok value) → StillAsks old new
  still_call old new value looks cause = (looks, λ runs. (cause.stopped, λ says. record { looks = looks; unrefused = unrefused_call old new value cause }))

  -- there was no memory for what comes behind it
  pub still_fails : {T : Type 0} (Says : T → Type 0) (old new : World) → StillAsks old new → OnlyAsks tells Says old new (Err Memory)
  still_fails Says old new still = (still.0, λ runs. failed_memory old new still.0 (still.1 runs).0)

  -- it changed nothing that contracts see
  pub still_same : (old new : World) → new ≡ old → StillAsks old new
  still_same old new same = subst (λ (w : World). StillAsks old w) (sym same) (still_nothing old)

  -- a fault of a call is the fault that is told
  pub asks_passed : {A B : Type 0} (Says : B → Type 0) (old new : World) (fault : SiteFault) → OnlyLooks tells old new → HasCause {T = A} old new (Err fault) → OnlyAsks tells Says old new (Err fault)
  asks_passed Says old new fault looks cause = (looks, λ runs. failed_call old new fault looks cause)

  -- one was asked of, and one ran
  pub ran_two : {A B T : Type 0} (First : A → Type 0) (Says : T → Type 0) (old mid next new : World) (ran : Bool) (later : A) (ok : B) (told : T)
      → Ran old mid ran → OnlyAsks tells First mid next (Ok later) → AsksWell tells next new (Ok ok) → (Says told → ⊥) → OnlyAsks tells Says old new (Ok told)
  ran_two First Says old mid next new ran later ok told first second third unsaid = (
    looks_then tells old next new (looks_then tells old mid next first.0 second.0) third.0,
    λ runs. ((third.1 (second.1 (first.1 runs).0).0).0, λ says. absurd (unsaid says)),
  )

  pub ran_two_err : {A T : Type 0} (B : Type 0) (First : A → Type 0) (Says : T → Type 0) (old mid next new : World) (ran : Bool) (later : A) (fault : SiteFault) (r : Result T SiteFault)
      → Ran old mid ran → OnlyAsks tells First mid next (Ok later) → AsksWell {T = B} tells next new (Err fault) → IsErrAnd r (λ (told : SiteFault). told ≡ fault) → OnlyAsks tells Says old new r
  ran_two_err B First Says old mid next new ran later fault r first second third passed =
      asks_err (λ (any : B). Unit {0}) Says old new fault r (
        looks_then tells old next new (looks_then tells old mid next first.0 second.0) third.0,
        λ runs. failed_then old next new fault (looks_then tells old mid next first.0 second.0) (third.1 (second.1 (first.1 runs).0).0),
      ) passed
