-- Lists of paths and of moments.
use Rattle.std.proofs.Common.{◌≡◌, inl, inr, ℕ, true, List, [], ◌∷◌, ◌++◌, Some, None, refl, subst, bytes_eq}
use Rattle.std.specs.List.{AllByRecursion}
use Rattle.std.proofs.lemmas.Bool.{or_cases, or_left, or_right, false≢true}
use Rattle.std.proofs.lemmas.Slice.Eq.{bytes_eq-Decides}
use Rattle.model.specs.Graph.{has}

pub same_bytes : (p q : List ℕ) → bytes_eq p q ≡ true → p ≡ q
same_bytes p q is = (bytes_eq-Decides p q).0 is

pub bytes_same : (p : List ℕ) → bytes_eq p p ≡ true
bytes_same p = (bytes_eq-Decides p p).1 refl

-- what holds of each of these paths holds of one of them
pub all_has : (P : List ℕ → Type 0) (ps : List (List ℕ)) (p : List ℕ) → AllByRecursion P ps → has ps p ≡ true → P p
all_has P [] p all h = absurd (false≢true h)
all_has P (q ∷ ps) p all h = elim (or_cases (bytes_eq q p) (has ps p) h) [
  | inl here ↦ subst P (same_bytes q p here) all.0
  | inr there ↦ all_has P ps p all.1 there
]

pub all_from_has : (P : List ℕ → Type 0) (ps : List (List ℕ)) → ((p : List ℕ) → has ps p ≡ true → P p) → AllByRecursion P ps
all_from_has P [] each = tt
all_from_has P (q ∷ ps) each = (each q (or_left (bytes_eq q q) (has ps q) (bytes_same q)), all_from_has P ps (λ p h. each p (or_right (bytes_eq q p) (has ps p) h)))

pub none_some : {A : Type 0} (x : A) → None ≡ Some x → ⊥
none_some x e = cc

-- a list is no longer than itself
pub no_more : {A : Type 0} (xs ys zs : List A) (x : A) → xs ≡ xs ++ (ys ++ x ∷ zs) → ⊥
no_more [] [] zs x is = cc
no_more [] (y ∷ ys) zs x is = cc
no_more (w ∷ xs) ys zs x is = no_more xs ys zs x cc
