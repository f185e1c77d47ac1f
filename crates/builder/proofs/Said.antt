-- Lists of what is said, one for each.
use Rattle.std.proofs.Common.{List, [], ◌∷◌, ◌++◌}
use Rattle.std.specs.List.{AllZip}

-- one more of each
pub one_more : {A B : Type 0} (R : A → B → Type 0) (xs : List A) (ys : List B) (x : A) (y : B) → AllZip R xs ys → R x y → AllZip R (xs ++ x ∷ []) (ys ++ y ∷ [])
one_more R [] [] x y all one = (one, tt)
one_more R [] (b ∷ ys) x y all one = absurd all
one_more R (a ∷ xs) [] x y all one = absurd all
one_more R (a ∷ xs) (b ∷ ys) x y all one = (all.0, one_more R xs ys x y all.1 one)
