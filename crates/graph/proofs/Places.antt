-- Places in lists.
use Rattle.std.proofs.Common.{◌≡◌, ◌⊎◌, inl, inr, ℕ, zero, suc, ◌<◌, List, [], ◌∷◌, ◌++◌, Option, Some, None, map, length, slice_get, get_or, refl, sym, ◌∙◌, ap, arith}

module _ {X : Type 0} where
  pub at_split : (front : List X) (x : X) (rest : List X) → slice_get (front ++ x ∷ rest) (length front) ≡ Some x
  at_split [] x rest = refl
  at_split (y ∷ front) x rest = at_split front x rest

  -- what stands at a place parts the list
  pub record IsAt (xs : List X) (j : ℕ) (x : X) : Type 0 where
    pub front : List X
    pub rest : List X
    pub splits : xs ≡ front ++ x ∷ rest
    pub place : length front ≡ j

  pub split_of : (xs : List X) (j : ℕ) (x : X) → slice_get xs j ≡ Some x → IsAt xs j x
  split_of [] zero x is = cc
  split_of [] (suc j) x is = cc
  split_of (y ∷ xs) zero x is = let same : y ≡ x = cc in record { front = []; rest = xs; splits = ap (λ (z : X). z ∷ xs) same; place = refl }
  split_of (y ∷ xs) (suc j) x is =
      let rest = split_of xs j x is in
      record { front = y ∷ rest.front; rest = rest.rest; splits = ap (λ (l : List X). y ∷ l) rest.splits; place = ap suc rest.place }

  pub get_within : (xs : List X) (j : ℕ) (x : X) → slice_get xs j ≡ Some x → j < length xs
  get_within [] zero x is = cc
  get_within [] (suc j) x is = cc
  get_within (y ∷ xs) zero x is = omega arith
  get_within (y ∷ xs) (suc j) x is = let rest = get_within xs j x is in omega (arith, rest)

  pub get_there : (xs : List X) (j : ℕ) (d : X) → j < length xs → slice_get xs j ≡ Some (get_or xs j d)
  get_there [] j d lt = absurd (omega (arith, lt))
  get_there (x ∷ xs) zero d lt = refl
  get_there (x ∷ xs) (suc j) d lt = get_there xs j d (omega (arith, lt))

module _ {X Y : Type 0} (f : X → Y) where
  pub get_map : (xs : List X) (j : ℕ) (x : X) → slice_get xs j ≡ Some x → slice_get (map f xs) j ≡ Some (f x)
  get_map [] zero x is = cc
  get_map [] (suc j) x is = cc
  get_map (y ∷ xs) zero x is = let same : y ≡ x = cc in ap (λ (z : X). Some (f z)) same
  get_map (y ∷ xs) (suc j) x is = get_map xs j x is

  pub map_get : (xs : List X) (j : ℕ) (y : Y) → slice_get (map f xs) j ≡ Some y → (x : X) × (slice_get xs j ≡ Some x) × (f x ≡ y)
  map_get [] zero y is = cc
  map_get [] (suc j) y is = cc
  map_get (x ∷ xs) zero y is = (x, refl, cc)
  map_get (x ∷ xs) (suc j) y is = map_get xs j y is
