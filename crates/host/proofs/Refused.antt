-- What a refused call leaves.
use Rattle.std.proofs.Common.{◌≡◌, Bool, Result, Ok, Err, OnErr, IsErr, refl, ap, subst}
use Rattle.std.specs.Result.{is_err}
use Rattle.std.proofs.lemmas.Bool.{false≢true}
use Rattle.model.specs.World.{World}
use Rattle.model.specs.Calls.{OnlyLooks}

-- what holds of every error holds of one
held : {S F : Type 0} (P : Type 0) (done : Result S F) → IsErr done → OnErr done P → P
held P (Ok value) failed so = let never : ⊥ = false≢true failed in absurd never
held P (Err reason) failed so = so

-- what holds where the call was refused below
pub refused : {T S E F : Type 0} (P : Type 0) (result : Result T E) (done : Result S F) → (IsErr result → IsErr done) → OnErr done P → OnErr result P
refused P (Ok value) done below so = tt
refused P (Err fault) done below so = held P done (below refl) so

pub refused_with : {T S E F : Type 0} (P : Type 0) (result : Result T E) (done : Result S F) (fault : E) → result ≡ Err fault → (IsErr result → IsErr done) → OnErr done P → P
refused_with P result done fault is below so = held P done (below (ap is_err is)) so

pub on_err : {T E P Q : Type 0} (result : Result T E) → (P → Q) → OnErr result P → OnErr result Q
on_err (Ok value) follows so = tt
on_err (Err fault) follows so = follows so

pub at_err : {T E Q : Type 0} (result : Result T E) → Q → OnErr result Q
at_err (Ok value) so = tt
at_err (Err fault) so = so

-- a call only looks where what was done before it changed nothing
pub looks_from : (tells : Bool) (old mid new : World) → mid ≡ old → OnlyLooks tells mid new → OnlyLooks tells old new
looks_from tells old mid new same looks = subst (λ (world : World). OnlyLooks tells world new) same looks

-- a call only looks where what was refused before it changed nothing, and it was refused for that
pub looks_at_refusal : {T S E F : Type 0} (tells : Bool) (old mid new : World) (result : Result T E) (done : Result S F) (fault : E) → result ≡ Err fault → (IsErr result → IsErr done) → OnErr done (mid ≡ old)
    → OnlyLooks tells mid new → OnlyLooks tells old new
looks_at_refusal tells old mid new result done fault is below same looks = refused_with (OnlyLooks tells old new) result done fault is below (on_err done (λ s. looks_from tells old mid new s looks) same)
