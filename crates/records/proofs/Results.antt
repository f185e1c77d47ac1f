-- What holds of a result where it is an error.
use Rattle.std.proofs.Common.{◌≡◌, Result, Ok, Err, OnErr, sym, subst}
use Rattle.std.specs.Result.{IsErrAnd, IsErrOf}
use Rattle.model.specs.declared.fault.SiteFault.{SiteFault}
use Rattle.model.specs.declared.fault.SiteFault.TheVariants.{Device, Stopped, Memory}
use Rattle.model.specs.World.{World}
use Rattle.model.specs.Calls.{HasCause}

pub on_err : {T E : Type 0} {P : Type 0} (r : Result T E) → P → OnErr r P
on_err (Ok x) p = tt
on_err (Err e) p = p

no_device : {T : Type 0} → IsErrOf {T = T} (Err Memory) Device → ⊥
no_device is = cc

not_ok : {U : Type 0} (x : U) (f : SiteFault) → IsErrOf (Ok x) f → ⊥
not_ok x f is = cc

-- behind a call that was not refused no memory was found
pub cause_of_memory : {T U : Type 0} (old new : World) (x : U) → HasCause old new (Ok x) → (r : Result T SiteFault) → IsErrAnd r (λ fault. fault ≡ Memory) → HasCause old new r
cause_of_memory old new x cause (Ok y) is = absurd is
cause_of_memory {T} old new x cause (Err f) is = subst (λ (g : SiteFault). HasCause {T = T} old new (Err g)) (sym {A = SiteFault} is) record {
  grows = cause.grows;
  device = λ refused. absurd (no_device {T = T} refused);
  others = λ other. cause.others (not_ok x Device);
  stopped = cause.stopped;
  after_stop = λ stopped. absurd (not_ok x Stopped (cause.after_stop stopped).0);
  earlier = cause.earlier;
}
