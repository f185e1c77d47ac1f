-- The paths of files in a folder.
use Rattle.std.proofs.Common.{◌≡◌, ℕ, ◌==◌, cond, Bool, true, false, List, [], ◌∷◌, ◌++◌, Result, Ok, Err, refl, ap}
use Rattle.std.specs.Prelude.{IfOk}
use Rattle.std.proofs.lemmas.Bool.{eqb-true}
use Rattle.model.specs.Records.{file_in}

-- in a folder that is neither the working folder nor the root, a slash stands between the two
pub file_below : (folder name : List ℕ) → (folder ≡ [] → ⊥) → (folder ≡ 47 ∷ [] → ⊥) → file_in folder name ≡ folder ++ 47 ∷ name
file_below [] name some unrooted = absurd (some refl)
file_below (c ∷ []) name some unrooted = by_test (c == 47) refl
  where
    by_test : (b : Bool) → c == 47 ≡ b → cond b (47 ∷ name) (c ∷ 47 ∷ name) ≡ c ∷ 47 ∷ name
    by_test true is = absurd (unrooted (ap (λ (d : ℕ). d ∷ []) (eqb-true c 47 is)))
    by_test false other = refl
file_below (c ∷ d ∷ folder) name some unrooted = refl

-- what follows of a value that a call gave
pub if_ok_then : {T E : Type 0} {P Q : T → Type 0} (r : Result T E) → IfOk r P → ((x : T) → P x → Q x) → IfOk r Q
if_ok_then (Ok x) p f = f x p
if_ok_then (Err e) p f = tt
