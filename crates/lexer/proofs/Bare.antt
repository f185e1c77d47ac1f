-- Whether all bytes pass a test, 16 at a time.
use Rattle.std.proofs.Common.{◌≡◌, ◌⊎◌, inl, inr, ℕ, ◌+◌, ◌*◌, ◌<◌, ◌≤◌, Bool, true, false, not, cond, ◌&&◌, List, [], ◌∷◌, ◌++◌, map, length, drop, refl, sym, ap, ◌∙◌, arith}
use Rattle.std.specs.List.{list_all}
use Rattle.std.proofs.lemmas.Bool.{cases_Bool}
use Rattle.std.proofs.lemmas.List.Folds.{list_all-append}
use Rattle.std.proofs.lemmas.Simd.{chunk-drop}
use lib.Lanes.{chunk, mask_l}

module _ (passes : ℕ → Bool) where
  abbrev fails : ℕ → Bool
  fails b = not (passes b)

  first_passes : (t : Bool) (m : ℕ) → cond (not t) 1 0 + 2 * m ≡ 0 → (t ≡ true) × (m ≡ 0)
  first_passes true m none = (refl, omega (arith, none))
  first_passes false m none = absurd (omega (arith, none))

  none_set : (t : Bool) (m : ℕ) → t ≡ true → m ≡ 0 → cond (not t) 1 0 + 2 * m ≡ 0
  none_set true m is none = omega (arith, none)
  none_set false m is none = cc

  both : (a b : Bool) → (a && b) ≡ true → (a ≡ true) × (b ≡ true)
  both true b is = (refl, is)
  both false b is = cc

  all_pass : (bytes : List ℕ) → mask_l (map fails bytes) ≡ 0 → list_all passes bytes ≡ true
  all_pass [] none = refl
  all_pass (b ∷ bytes) none =
      let parts = first_passes (passes b) (mask_l (map fails bytes)) none in
      ap (λ (t : Bool). t && list_all passes bytes) parts.0 ∙ all_pass bytes parts.1

  none_fails : (bytes : List ℕ) → list_all passes bytes ≡ true → mask_l (map fails bytes) ≡ 0
  none_fails [] all = refl
  none_fails (b ∷ bytes) all =
      let parts = both (passes b) (list_all passes bytes) all in
      none_set (passes b) (mask_l (map fails bytes)) parts.0 (none_fails bytes parts.1)

  parted : (bytes : List ℕ) (i n : ℕ) → list_all passes (drop i bytes) ≡ (list_all passes (chunk i n bytes) && list_all passes (drop (i + n) bytes))
  parted bytes i n = ap (list_all passes) (chunk-drop i n bytes) ∙ list_all-append passes (chunk i n bytes) (drop (i + n) bytes)

  pub passes_through : (bytes : List ℕ) (i n : ℕ) → mask_l (map fails (chunk i n bytes)) ≡ 0 → list_all passes (drop i bytes) ≡ list_all passes (drop (i + n) bytes)
  passes_through bytes i n none = parted bytes i n ∙ ap (λ (t : Bool). t && list_all passes (drop (i + n) bytes)) (all_pass (chunk i n bytes) none)

  pub fails_within : (bytes : List ℕ) (i n : ℕ) → 0 < mask_l (map fails (chunk i n bytes)) → list_all passes (drop i bytes) ≡ false
  fails_within bytes i n some = parted bytes i n ∙ ap (λ (t : Bool). t && list_all passes (drop (i + n) bytes)) (by (cases_Bool (list_all passes (chunk i n bytes))))
    where
      by : (list_all passes (chunk i n bytes) ≡ true) ⊎ (list_all passes (chunk i n bytes) ≡ false) → list_all passes (chunk i n bytes) ≡ false
      by (inl all) = let none = none_fails (chunk i n bytes) all in absurd (omega (arith, none, some))
      by (inr not_all) = not_all
