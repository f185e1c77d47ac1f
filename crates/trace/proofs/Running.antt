-- The processes that run.
use Rattle.std.proofs.Common.{◌≡◌, ℕ, ◌+◌, ◌<◌, true, false, List, [], ◌∷◌, ◌++◌, length, get_or, take, drop, refl, sym, ap, ◌∙◌, arith, add-one}
use Prim.Native.Nat.{zero, suc}
use Rattle.std.specs.Prelude.{bytes_eq}
use Rattle.trace.specs.declared.processes.Known.{Known}
use Rattle.trace.specs.Processes.{without}

-- what stands at a place is the first of what is left there
front_at : (ks : List Known) (i : ℕ) (x : Known) → i < length ks → x ≡ get_or ks i x → drop i ks ≡ x ∷ drop (suc i) ks
front_at [] i x within is = absurd (omega arith)
front_at (k ∷ ks) zero x within is = ap (λ (y : Known). y ∷ ks) (sym is)
front_at (k ∷ ks) (suc i) x within is = front_at ks i x (omega arith) is

pub front : (ks : List Known) (i : ℕ) (x : Known) → i < length ks → x ≡ get_or ks i x → drop i ks ≡ x ∷ drop (i + 1) ks
front ks i x within is = rw add-one (front_at ks i x within is)

passed_at : (number : List ℕ) (ks : List Known) (i : ℕ) (x : Known) → i < length ks → x ≡ get_or ks i x → bytes_eq x.number number ≡ false
    → take i ks ++ without number (drop i ks) ≡ take (suc i) ks ++ without number (drop (suc i) ks)
passed_at number [] i x within is other = absurd (omega arith)
passed_at number (k ∷ ks) zero x within is other =
    let h : bytes_eq k.number number ≡ false = ap (λ (y : Known). bytes_eq y.number number) (sym is) ∙ other in
    rw h refl
passed_at number (k ∷ ks) (suc i) x within is other = ap (λ (l : List Known). k ∷ l) (passed_at number ks i x (omega arith) is other)

-- a process with another number stays
pub passed : (number : List ℕ) (ks : List Known) (i : ℕ) (x : Known) → i < length ks → x ≡ get_or ks i x → bytes_eq x.number number ≡ false
    → take i ks ++ without number (drop i ks) ≡ take (i + 1) ks ++ without number (drop (i + 1) ks)
passed number ks i x within is other = rw add-one (passed_at number ks i x within is other)

-- the one with this number goes
pub gone : (number : List ℕ) (ks : List Known) (i : ℕ) (x : Known) → i < length ks → x ≡ get_or ks i x → bytes_eq x.number number ≡ true
    → without number (drop i ks) ≡ drop (i + 1) ks
gone number ks i x within is same = ap (without number) (front ks i x within is) ∙ rw same refl
