-- Where a run of characters ends, and that a text may be cut there.
use Rattle.std.proofs.Common.{◌≡◌, ℕ, ◌<◌, ◌≤◌, Bool, true, false, List, [], ◌∷◌, length, take, drop, get_or, arith, add-one, ap, refl, None, ◌==◌, ◌++◌, ◌-◌, ◌+◌, ◌∙◌, length-append, subst, inl, inr}
use Prim.Native.Nat.{zero, suc}
use Rattle.std.specs.Str.{IsUtf8, IsCharBoundary}
use Rattle.std.specs.List.{AllByRecursion}
use Rattle.std.proofs.lemmas.Bool.Decides.{nat_tests}
use Rattle.std.proofs.lemmas.Str.{IsCharBoundary-start, IsCharBoundary-after_ascii, IsCharBoundary-before_ascii, IsCharBoundary-at_seam, IsCharBoundary-end}
use Rattle.depfile.specs.declared.characters.Class.{Class}
use Rattle.depfile.specs.declared.characters.Class.TheVariants.{Plain, Backslash}
use Rattle.std.proofs.lemmas.Bool.{cases_lt}
use Rattle.depfile.specs.Runs.{IsRunEnd}
use Rattle.depfile.specs.Pieces.{is_of, run_of, behind_run, behind}

abbrev pub AllPass : (ℕ → Bool) → List ℕ → Type 0
AllPass test = AllByRecursion (λ b. test b ≡ true)

plain_ends_ascii : (b : ℕ) → is_of Plain b ≡ false → b < 128
plain_ends_ascii b e = grind (arith, nat_tests)

backslash_is_ascii : (b : ℕ) → is_of Backslash b ≡ true → b < 128
backslash_is_ascii b e = grind (arith, nat_tests)

-- the last of a run
last_passes : (test : ℕ → Bool) (bytes : List ℕ) (j : ℕ) → j < length bytes → AllPass test (take (suc j) bytes) → test (get_or bytes j 0) ≡ true
last_passes test [] j lt all = absurd (omega arith)
last_passes test (b ∷ bytes) zero lt all = all.0
last_passes test (b ∷ bytes) (suc j) lt all = last_passes test bytes j (omega arith) all.1

pub cut_behind_ascii : (test : ℕ → Bool) (bytes : List ℕ) (i : ℕ) → ((b : ℕ) → test b ≡ true → b < 128) → IsUtf8 bytes → i ≤ length bytes → AllPass test (take i bytes) → IsCharBoundary bytes i
cut_behind_ascii test bytes zero ascii utf8 le all = IsCharBoundary-start bytes utf8
cut_behind_ascii test bytes (suc j) ascii utf8 le all = rw (← add-one) (IsCharBoundary-after_ascii bytes j utf8 (omega arith) (ascii (get_or bytes j 0) (last_passes test bytes j (omega arith) all)))

pub cut_behind_run : (class : Class) (bytes : List ℕ) (i : ℕ) → IsUtf8 bytes → i < length bytes → AllPass (is_of class) (take i bytes) → is_of class (get_or bytes i 0) ≡ false → IsCharBoundary bytes i
cut_behind_run Plain bytes i utf8 lt all e = IsCharBoundary-before_ascii bytes i lt (plain_ends_ascii (get_or bytes i 0) e)
cut_behind_run Backslash bytes i utf8 lt all e = cut_behind_ascii (is_of Backslash) bytes i backslash_is_ascii utf8 (omega arith) all

-- up to the place where it stops, that is the run
pub run_at : (class : Class) (bytes : List ℕ) (i : ℕ) → AllPass (is_of class) (take i bytes) → (i < length bytes → is_of class (get_or bytes i 0) ≡ false) → (run_of class bytes ≡ take i bytes) × (behind_run class bytes ≡ drop i bytes)
run_at class [] zero all ends = (refl, refl)
run_at class [] (suc i) all ends = (refl, refl)
run_at class (b ∷ bytes) zero all ends = let e = ends (omega arith) in (rw e refl, rw e refl)
run_at class (b ∷ bytes) (suc i) all ends =
    let more = run_at class bytes i all.1 (λ lt. ends (omega arith)) in (
      rw all.0 (ap (λ (xs : List ℕ). b ∷ xs) more.0),
      rw all.0 more.1,
    )

all_from_places : (test : ℕ → Bool) (bytes : List ℕ) (i : ℕ) → i ≤ length bytes → ((k : ℕ) → k < i → test (get_or bytes k 0) ≡ true) → AllPass test (take i bytes)
all_from_places test [] zero le at = tt
all_from_places test [] (suc i) le at = absurd (omega arith)
all_from_places test (b ∷ bytes) zero le at = tt
all_from_places test (b ∷ bytes) (suc i) le at = (at 0 (omega arith), all_from_places test bytes i (omega arith) (λ k lt. at (suc k) (omega arith)))

-- the place where a run ends parts it from what stands behind it
pub parted_at : (class : Class) (bytes : List ℕ) (end : ℕ) → IsRunEnd class bytes 0 end → (run_of class bytes ≡ take end bytes) × (behind_run class bytes ≡ drop end bytes)
parted_at class bytes end is = run_at class bytes end (all_from_places (is_of class) bytes end is.1 (λ k lt. is.2 k (omega arith) lt)) is.3

pub cut_at_end : (class : Class) (bytes : List ℕ) (end : ℕ) → IsUtf8 bytes → IsRunEnd class bytes 0 end → IsCharBoundary bytes end
cut_at_end class bytes end utf8 is =
    elim (cases_lt end (length bytes)) [
      | inl lt ↦ cut_behind_run class bytes end utf8 lt (all_from_places (is_of class) bytes end is.1 (λ k below. is.2 k (omega arith) below)) (is.3 lt)
      | inr past ↦ let whole : length bytes ≡ end = omega (arith, is.1) in subst (IsCharBoundary bytes) whole (IsCharBoundary-end bytes)
    ]

-- the run is of its class, and what stands behind it does not begin so
pub run_passes : (class : Class) (bytes : List ℕ) → AllPass (is_of class) (run_of class bytes)
run_passes class [] = tt
run_passes class (b ∷ bytes) = by (is_of class b) refl (run_passes class bytes)
  where
    by : (is : Bool) → is_of class b ≡ is → AllPass (is_of class) (run_of class bytes) → AllPass (is_of class) (run_of class (b ∷ bytes))
    by true e more = rw e (e, more)
    by false e more = rw e tt

pub run_ends : (bytes : List ℕ) → behind 92 (behind_run Backslash bytes) ≡ None
run_ends [] = refl
run_ends (b ∷ bytes) = by (b == 92) refl (run_ends bytes)
  where
    by : (is : Bool) → (b == 92) ≡ is → behind 92 (behind_run Backslash bytes) ≡ None → behind 92 (behind_run Backslash (b ∷ bytes)) ≡ None
    by true e more = rw e more
    by false e more = rw e (rw e refl)

-- a text may be cut where another begins
pub cut_at_rest : (text taken rest : List ℕ) → text ≡ taken ++ rest → IsUtf8 rest → IsCharBoundary text (length text - length rest)
cut_at_rest text taken rest is utf8 =
    let counted : length text ≡ length taken + length rest = ap length is ∙ length-append taken rest in
    let less : length taken ≡ length text - length rest = omega arith in
    subst (IsCharBoundary text) less (IsCharBoundary-at_seam text taken rest is utf8)
