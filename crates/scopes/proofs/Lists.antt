-- What holds of each item holds with one more item.
use Rattle.std.proofs.Common.{◌≡◌, ℕ, zero, suc, List, [], ◌∷◌, ◌++◌, Option, None, Some, length, take, slice_get, ap, arith}
use Rattle.std.specs.Option.{MatchOption}
use Rattle.std.specs.List.{AllZip}

pub AllZip-push : {X Y : Type 0} (R : X → Y → Type 0) (xs : List X) (ys : List Y) (x : X) (y : Y) → AllZip R xs ys → R x y → AllZip R (xs ++ x ∷ []) (ys ++ y ∷ [])
AllZip-push R [] [] x y all more = (more, tt)
AllZip-push R [] (b ∷ ys) x y all more = absurd all
AllZip-push R (a ∷ xs) [] x y all more = absurd all
AllZip-push R (a ∷ xs) (b ∷ ys) x y all more = (all.0, AllZip-push R xs ys x y all.1 more)

pub match_weaker : {X P P' : Type 0} {Q Q' : X → Type 0} (o : Option X) → MatchOption o P Q → (P → P') → ((x : X) → Q x → Q' x) → MatchOption o P' Q'
match_weaker None h none some = none h
match_weaker (Some x) h none some = some x h

pub front_last : {X : Type 0} (xs : List X) (x : X) (n : ℕ) → length xs ≡ suc n → slice_get xs n ≡ Some x → xs ≡ take n xs ++ x ∷ []
front_last [] x n long is = absurd (omega (arith, long))
front_last {X} (y ∷ []) x zero long is = ap (λ (h : X). h ∷ []) (let e : Some y ≡ Some x = is in cc)
front_last (y ∷ []) x (suc n) long is = absurd (omega (arith, long))
front_last (y ∷ z ∷ ys) x zero long is = absurd (omega (arith, long))
front_last {X} (y ∷ z ∷ ys) x (suc n) long is = ap (λ (l : List X). y ∷ l) (front_last (z ∷ ys) x n (omega (arith, long)) is)
