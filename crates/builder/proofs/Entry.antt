-- What is found of sources before anything was judged.
use Rattle.std.proofs.Common.{◌≡◌, ℕ, zero, suc, false, List, length, refl, ◌∙◌, ap, replicate}
use Rattle.judge.specs.declared.looks.Looks.{Looks}
use Rattle.judge.specs.declared.looks.Look.{Look}
use Rattle.judge.specs.declared.looks.Look.TheVariants.{Unasked}
use Rattle.judge.specs.Seen.{look_at, is_asked}

-- nothing was asked for
abbrev pub AreUnasked : Looks → Type 0
AreUnasked looks = (p : ℕ) → is_asked (look_at looks.seen.items p) ≡ false

pub none_asked : (n : ℕ) (looks : Looks) → looks.seen.items ≡ replicate n Unasked → AreUnasked looks
none_asked n looks is p = ap (λ (l : List Look). is_asked (look_at l p)) is ∙ ap is_asked (unasked n p)
  where
    unasked : (n p : ℕ) → look_at (replicate n Unasked) p ≡ Unasked
    unasked zero p = refl
    unasked (suc n) zero = refl
    unasked (suc n) (suc p) = unasked n p

pub all_there : (n : ℕ) (looks : Looks) → looks.seen.items ≡ replicate n Unasked → length looks.seen.items ≡ n
all_there n looks is = ap length is ∙ as_many n
  where
    as_many : (n : ℕ) → length (replicate n Unasked) ≡ n
    as_many zero = refl
    as_many (suc n) = ap suc (as_many n)
