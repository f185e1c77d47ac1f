-- Bytes that are looked at 16 at a time.
use Rattle.std.proofs.Common.{◌≡◌, ℕ, ◌+◌, ◌*◌, ◌%◌, ◌^◌, ◌<◌, ◌≤◌, Bool, true, false, not, cond, eqb, leb, List, [], ◌∷◌, map, length, drop, Fits, w8, refl, sym, ap, ap₂, ◌∙◌, arith}
use Rattle.std.specs.List.{prefix_len}
use Rattle.std.proofs.lemmas.Bool.{agree_below, agree_below_at, eq-eqb, ne_eqb}
use Rattle.std.proofs.lemmas.List.{length-map}
use Rattle.std.proofs.lemmas.List.Folds.{prefix_len-append}
use Rattle.std.proofs.lemmas.Simd.{map-map, mask_l-mod, chunk-drop, length-chunk, leading_from_mask_l, trailing_mask_l}
use lib.Lanes.{chunk, mask_l, top, Each1}
use lib.Count.{count_trailing_zeros}

-- `simd_ge`, whose sides are changed
abbrev pub at_most : ℕ → ℕ → ℕ
at_most a b = cond (leb a b) 255 0

-- ---- a mask that is computed lane by lane tells of each byte what the test tells of it, since it does so of each of the 256

tests_same : (test : ℕ → Bool) (f : ℕ → ℕ) (v : List ℕ) → agree_below (λ x. top 7 (f x)) test 256 ≡ true → Each1 (Fits w8) v → map (λ x. top 7 (f x)) v ≡ map test v
tests_same test f [] agree fits = refl
tests_same test f (x ∷ v) agree fits = ap₂ (λ b bs. b ∷ bs) (agree_below_at (λ y. top 7 (f y)) test 256 x agree fits.0.fits) (tests_same test f v agree fits.1)

pub mask_is : (test : ℕ → Bool) (f : ℕ → ℕ) (v z : List ℕ) → (length v ≡ 16) × Each1 (Fits w8) v → z ≡ map f v → agree_below (λ x. top 7 (f x)) test 256 ≡ true
    → mask_l (map (top 7) z) % 2 ^ 64 ≡ mask_l (map test v)
mask_is test f v z fits lanes agree =
    ap (λ bits. mask_l bits % 2 ^ 64) (ap (map (top 7)) lanes ∙ map-map (top 7) f v ∙ tests_same test f v agree fits.1) ∙ mask_l-mod (map test v) 64 (omega (arith, length-map v test, fits.0))

-- ---- from the mask of those that fail to the run of those that pass

module _ (passes : ℕ → Bool) where
  abbrev fails : ℕ → Bool
  fails b = not (passes b)

  same_len : (bytes : List ℕ) → prefix_len passes bytes ≡ prefix_len (λ b. not (fails b)) bytes
  same_len [] = refl
  same_len (b ∷ bytes) = ap₂ (λ (t : Bool) (n : ℕ). cond t (1 + n) 0) (twice (passes b)) (same_len bytes)
    where
      twice : (t : Bool) → t ≡ not (not t)
      twice true = refl
      twice false = refl

  whole_cons : (t : Bool) (n l m : ℕ) → 1 + l ≤ cond t (1 + n) 0 → (l ≤ n → m ≡ 0) → cond (not t) 1 0 + 2 * m ≡ 0
  whole_cons true n l m whole rest = let none = rest (omega arith) in omega (arith, none)
  whole_cons false n l m whole rest = absurd (omega (arith, whole))

  none_fails : (bytes : List ℕ) → length bytes ≤ prefix_len passes bytes → mask_l (map fails bytes) ≡ 0
  none_fails [] whole = refl
  none_fails (b ∷ bytes) whole = whole_cons (passes b) (prefix_len passes bytes) (length bytes) (mask_l (map fails bytes)) (omega (arith, whole)) (none_fails bytes)

  abbrev len_from : Bool → List ℕ → List ℕ → ℕ
  len_from all front back = cond all (length front + prefix_len passes back) (prefix_len passes front)

  parted : (bytes : List ℕ) (i n : ℕ) → prefix_len passes (drop i bytes) ≡ len_from (eqb (prefix_len passes (chunk i n bytes)) (length (chunk i n bytes))) (chunk i n bytes) (drop (i + n) bytes)
  parted bytes i n = ap (prefix_len passes) (chunk-drop i n bytes) ∙ prefix_len-append passes (chunk i n bytes) (drop (i + n) bytes)

  pub goes_through : (bytes : List ℕ) (i n : ℕ) → i + n ≤ length bytes → mask_l (map fails (chunk i n bytes)) ≡ 0 → prefix_len passes (drop i bytes) ≡ n + prefix_len passes (drop (i + n) bytes)
  goes_through bytes i n room none =
      let front = chunk i n bytes in
      parted bytes i n ∙ ap (λ (t : Bool). len_from t front (drop (i + n) bytes)) (eq-eqb _ _ (same_len front ∙ leading_from_mask_l fails front none))
      ∙ ap (λ (k : ℕ). k + prefix_len passes (drop (i + n) bytes)) (length-chunk i n bytes room)

  pub ends_within : (bytes : List ℕ) (i n : ℕ) → i + n ≤ length bytes → n ≤ 64 → 0 < mask_l (map fails (chunk i n bytes)) → prefix_len passes (drop i bytes) ≡ count_trailing_zeros 64 (mask_l (map fails (chunk i n bytes)))
  ends_within bytes i n room few some =
      let front = chunk i n bytes in
      parted bytes i n
      ∙ ap (λ (t : Bool). len_from t front (drop (i + n) bytes)) (ne_eqb _ _ (λ (whole : prefix_len passes front ≡ length front). omega (arith, some, none_fails front (omega (arith, whole)))))
      ∙ same_len front ∙ sym (trailing_mask_l fails 64 front (omega (arith, length-chunk i n bytes room)) some)
