-- The folder of the program's own files, and their paths.
use Rattle.std.proofs.Common.{◌≡◌, ◌≢◌, ℕ, ◌==◌, cond, Bool, true, false, List, [], ◌∷◌, ◌++◌, get_or, refl, ap, arith}
use Rattle.std.proofs.lemmas.Bool.{eqb-true}
use Rattle.model.specs.Records.{file_in, build_log_name, deps_log_name, tick_name}
use Rattle.theory.proofs.Lists.{same_rest}

-- in a folder that is neither the working folder nor the root, a slash stands between the two
pub file_below : (folder name : List ℕ) → (folder ≡ [] → ⊥) → (folder ≡ 47 ∷ [] → ⊥) → file_in folder name ≡ folder ++ 47 ∷ name
file_below [] name some unrooted = absurd (some refl)
file_below (c ∷ []) name some unrooted = by_test (c == 47) refl
  where
    by_test : (b : Bool) → c == 47 ≡ b → cond b (47 ∷ name) (c ∷ 47 ∷ name) ≡ c ∷ 47 ∷ name
    by_test true is = absurd (unrooted (ap (λ (d : ℕ). d ∷ []) (eqb-true c 47 is)))
    by_test false other = refl
file_below (c ∷ d ∷ folder) name some unrooted = refl

-- files of different names in one folder are different
pub same_name : (folder first second : List ℕ) → file_in folder first ≡ file_in folder second → first ≡ second
same_name [] first second is = is
same_name (c ∷ []) first second is = by_test (c == 47) is
  where
    by_test : (b : Bool) → cond b (47 ∷ first) (c ∷ 47 ∷ first) ≡ cond b (47 ∷ second) (c ∷ 47 ∷ second) → first ≡ second
    by_test true is = same_rest (47 ∷ []) first second is
    by_test false is = same_rest (c ∷ 47 ∷ []) first second is
same_name (c ∷ d ∷ folder) first second is = same_rest (47 ∷ []) first second (same_rest (c ∷ d ∷ folder) (47 ∷ first) (47 ∷ second) is)

-- the byte in which the names of the program's own files differ
abbrev fifth : List ℕ → ℕ
fifth text = get_or text 4 0

pub logs_apart : (folder : List ℕ) → file_in folder build_log_name ≢ file_in folder deps_log_name
logs_apart folder is = let same : 108 ≡ 100 = ap fifth (same_name folder build_log_name deps_log_name is) in omega (arith, same)

pub tick_is_no_build_log : (folder : List ℕ) → file_in folder tick_name ≢ file_in folder build_log_name
tick_is_no_build_log folder is = let same : 116 ≡ 108 = ap fifth (same_name folder tick_name build_log_name is) in omega (arith, same)

pub tick_is_no_deps_log : (folder : List ℕ) → file_in folder tick_name ≢ file_in folder deps_log_name
tick_is_no_deps_log folder is = let same : 116 ≡ 100 = ap fifth (same_name folder tick_name deps_log_name is) in omega (arith, same)
