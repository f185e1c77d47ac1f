-- Where a run of characters ends, and that a text may be cut there.
use Rattle.std.proofs.Common.{◌≡◌, ℕ, ◌+◌, ◌<◌, ◌≤◌, Bool, true, false, cond, List, [], ◌∷◌, length, take, drop, get_or, arith, add-one, ap, refl, subst, inl, inr}
use Prim.Native.Nat.{zero, suc}
use Rattle.std.specs.Str.{IsUtf8, IsCharBoundary}
use Rattle.std.proofs.lemmas.Bool.{cases_lt}
use Rattle.std.proofs.lemmas.Bool.Decides.{nat_tests}
use Rattle.std.proofs.lemmas.List.Sums.{prefix_len-le-length, prefix_len_passes, prefix_len_stops}
use Rattle.std.proofs.lemmas.Str.{IsCharBoundary-start, IsCharBoundary-end, IsCharBoundary-after_ascii, IsCharBoundary-before_ascii}
use Rattle.lexer.specs.declared.characters.Class.{Class}
use Rattle.lexer.specs.declared.characters.Class.TheVariants.{Space, Name, BareName, Path, Value, Comment}
use Rattle.std.specs.List.{prefix_len}
use Rattle.lexer.specs.Characters.{is_name, is_of, run_of, behind_run}

name_is_ascii : (b : ℕ) → is_name b ≡ true → b < 128
name_is_ascii b e = grind (arith, nat_tests)

value_ends_ascii : (b : ℕ) → is_of Value b ≡ false → b < 128
value_ends_ascii b e = grind (arith, nat_tests)

comment_ends_ascii : (b : ℕ) → is_of Comment b ≡ false → b < 128
comment_ends_ascii b e = grind (arith, nat_tests)

space_is_ascii : (b : ℕ) → is_of Space b ≡ true → b < 128
space_is_ascii b e = grind (arith, nat_tests)

bare_is_ascii : (b : ℕ) → is_of BareName b ≡ true → b < 128
bare_is_ascii b e = grind (arith, nat_tests)

path_ends_ascii : (b : ℕ) → is_of Path b ≡ false → b < 128
path_ends_ascii b e = grind (arith, nat_tests)

-- behind characters that pass, which are all ASCII
cut_behind_ascii : (test : ℕ → Bool) (bytes : List ℕ) (i : ℕ) → ((b : ℕ) → test b ≡ true → b < 128) → IsUtf8 bytes → i ≤ prefix_len test bytes → IsCharBoundary bytes i
cut_behind_ascii test bytes zero ascii utf8 within = IsCharBoundary-start bytes utf8
cut_behind_ascii test bytes (suc j) ascii utf8 within =
    rw (← add-one) (IsCharBoundary-after_ascii bytes j utf8 (omega (arith, within, prefix_len-le-length test bytes)) (ascii (get_or bytes j 0) (prefix_len_passes test bytes j 0 (omega (arith, within)))))

-- before a character that does not pass, which is ASCII
cut_before_ascii : (test : ℕ → Bool) (bytes : List ℕ) → ((b : ℕ) → test b ≡ false → b < 128) → IsCharBoundary bytes (prefix_len test bytes)
cut_before_ascii test bytes ascii =
    elim (cases_lt (prefix_len test bytes) (length bytes)) [
      | inl short ↦ IsCharBoundary-before_ascii bytes (prefix_len test bytes) short (ascii (get_or bytes (prefix_len test bytes) 0) (prefix_len_stops test bytes 0 short))
      | inr all ↦
          let whole : length bytes ≡ prefix_len test bytes = omega (arith, all, prefix_len-le-length test bytes) in
          subst (IsCharBoundary bytes) whole (IsCharBoundary-end bytes)
    ]

pub cut_behind_run : (class : Class) (bytes : List ℕ) → IsUtf8 bytes → IsCharBoundary bytes (prefix_len (is_of class) bytes)
cut_behind_run Space bytes utf8 = cut_behind_ascii (is_of Space) bytes (prefix_len (is_of Space) bytes) space_is_ascii utf8 (omega arith)
cut_behind_run Name bytes utf8 = cut_behind_ascii (is_of Name) bytes (prefix_len (is_of Name) bytes) name_is_ascii utf8 (omega arith)
cut_behind_run BareName bytes utf8 = cut_behind_ascii (is_of BareName) bytes (prefix_len (is_of BareName) bytes) bare_is_ascii utf8 (omega arith)
cut_behind_run Path bytes utf8 = cut_before_ascii (is_of Path) bytes path_ends_ascii
cut_behind_run Value bytes utf8 = cut_before_ascii (is_of Value) bytes value_ends_ascii
cut_behind_run Comment bytes utf8 = cut_before_ascii (is_of Comment) bytes comment_ends_ascii

-- so many bytes are the run
abbrev IsCut : Class → List ℕ → ℕ → Type 0
IsCut class bytes n = (run_of class bytes ≡ take n bytes) × (behind_run class bytes ≡ drop n bytes)

one_more : (class : Class) (b : ℕ) (bytes : List ℕ) (n : ℕ) → IsCut class bytes n → IsCut class (b ∷ bytes) (cond (is_of class b) (1 + n) 0)
one_more class b bytes n rest = by (is_of class b) refl
  where
    by : (t : Bool) → is_of class b ≡ t → IsCut class (b ∷ bytes) (cond t (1 + n) 0)
    by true is =
        let longer : suc n ≡ 1 + n = omega arith in
        subst (IsCut class (b ∷ bytes)) longer (rw is (ap (λ (xs : List ℕ). b ∷ xs) rest.0), rw is rest.1)
    by false is = (rw is refl, rw is refl)

pub run_is : (class : Class) (bytes : List ℕ) → IsCut class bytes (prefix_len (is_of class) bytes)
run_is class [] = (refl, refl)
run_is class (b ∷ bytes) = one_more class b bytes (prefix_len (is_of class) bytes) (run_is class bytes)
