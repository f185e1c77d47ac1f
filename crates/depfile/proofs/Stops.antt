-- From the mask of one load to the place where a run of plain characters ends.
use Rattle.std.proofs.Common.{◌≡◌, ℕ, ◌+◌, ◌%◌, ◌^◌, ◌<◌, ◌≤◌, Bool, true, false, not, List, [], ◌∷◌, map, length, get_or, Fits, w8, refl, sym, ap, ap₂, ◌∙◌, arith, inl, inr}
use Prim.Native.Nat.{suc}
use lib.Count.{count_trailing_zeros}
use lib.Lanes.{chunk, mask_l, top, Each1}
use Rattle.std.specs.List.{prefix_len}
use Rattle.std.proofs.lemmas.Bool.{agree_below, agree_below_at, cases_lt, not-false, not-true}
use Rattle.std.proofs.lemmas.List.{length-map}
use Rattle.std.proofs.lemmas.Simd.{map-map, mask_l-mod, length-chunk, get_or-chunk, trailing_mask_l, none_from_empty_mask, run_in_chunk_le, run_in_chunk_fails, run_in_chunk_stops}
use Rattle.depfile.specs.declared.characters.Class.TheVariants as class
use Rattle.depfile.specs.Pieces.{is_of}
use Rattle.depfile.specs.Runs.{IsRunEnd, is_stop}

each_lane : (f : ℕ → ℕ) (test : ℕ → Bool) (v : List ℕ) → Each1 (Fits w8) v → agree_below (λ b. top 7 (f b)) test 256 ≡ true → map (λ b. top 7 (f b)) v ≡ map test v
each_lane f test [] fits same = refl
each_lane f test (b ∷ v) fits same = ap₂ (λ (t : Bool) (ts : List Bool). t ∷ ts) (agree_below_at (λ x. top 7 (f x)) test 256 b same fits.0.fits) (each_lane f test v fits.1 same)

-- what is computed lane by lane marks the bytes that pass a test, if it does so for each of the 256 bytes
pub mask_of_lanes : (f : ℕ → ℕ) (test : ℕ → Bool) (v z : List ℕ) → length v ≡ 16 → Each1 (Fits w8) v → z ≡ map f v → agree_below (λ b. top 7 (f b)) test 256 ≡ true → mask_l (map (top 7) z) % 2 ^ 64 ≡ mask_l (map test v)
mask_of_lanes f test v z long fits is same =
    ap (λ lanes. mask_l lanes % 2 ^ 64) (ap (map (top 7)) is ∙ map-map (top 7) f v ∙ each_lane f test v fits same)
    ∙ mask_l-mod (map test v) 64 (omega (arith, length-map v test, long))

none_marked : (test : ℕ → Bool) (v : List ℕ) → ((k : ℕ) → k < length v → test (get_or v k 0) ≡ false) → mask_l (map test v) ≡ 0
none_marked test [] fails = refl
none_marked test (b ∷ v) fails =
    let rest = none_marked test v (λ k lt. fails (suc k) (omega arith)) in
    rw (fails 0 (omega arith)) (omega (arith, rest))

-- all bytes before this place are plain
abbrev pub ArePlain : List ℕ → ℕ → Type 0
ArePlain bytes end = (k : ℕ) → k < end → is_of class.Plain (get_or bytes k 0) ≡ true

plain_on : (bytes : List ℕ) (at end : ℕ) → ArePlain bytes at → ((k : ℕ) → at ≤ k → k < end → is_stop (get_or bytes k 0) ≡ false) → ArePlain bytes end
plain_on bytes at end before on k lt =
    elim (cases_lt k at) [ inl early ↦ before k early | inr late ↦ not-false _ (on k late lt) ]

-- no bit is set: the run goes on behind the load
pub plain_past : (bytes : List ℕ) (at mask : ℕ) → at + 16 ≤ length bytes → ArePlain bytes at → mask ≡ mask_l (map is_stop (chunk at 16 bytes)) → mask ≡ 0 → ArePlain bytes (at + 16)
plain_past bytes at mask room before is none =
    plain_on bytes at (at + 16) before (none_from_empty_mask is_stop bytes at 16 0 room (sym is ∙ none))

-- the lowest bit that is set: the run ends there
pub plain_stops : (bytes : List ℕ) (at mask : ℕ) → at + 16 ≤ length bytes → ArePlain bytes at → mask ≡ mask_l (map is_stop (chunk at 16 bytes)) → 0 < mask → IsRunEnd class.Plain bytes 0 (at + count_trailing_zeros 64 mask)
plain_stops bytes at mask room before is some =
    let v = chunk at 16 bytes in
    let r = count_trailing_zeros 64 mask in
    let long = length-chunk at 16 bytes room in
    let counted : r ≡ prefix_len (λ b. not (is_stop b)) v = ap (count_trailing_zeros 64) is ∙ trailing_mask_l is_stop 64 v (omega (arith, long)) (omega (arith, is)) in
    let within = run_in_chunk_le is_stop bytes at 16 r 0 room counted in
    let passed = run_in_chunk_fails is_stop bytes at 16 r 0 room counted in
    elim (cases_lt r 16) [
      | inl inside ↦ (
        omega arith,
        omega (arith, inside),
        λ k _ lt. plain_on bytes at (at + r) before passed k lt,
        λ _. not-true _ (run_in_chunk_stops is_stop bytes at 16 r 0 room counted inside),
      )
      | inr whole ↦
          let all = none_marked is_stop v (λ k lt. ap is_stop (get_or-chunk at 16 bytes k 0 (omega (arith, long))) ∙ passed (at + k) (omega arith) (omega (arith, long))) in
          absurd (omega (arith, is, all))
    ]
