-- The places of pools, and their depths.
use Rattle.std.proofs.Common.{◌≡◌, ℕ, zero, suc, ◌<◌, ◌==◌, cond, Bool, true, false, List, [], ◌∷◌, ◌++◌, Option, Some, None, map, length, get_or, bytes_eq, refl, sym, ◌∙◌, ap, subst, arith}
use Rattle.std.proofs.lemmas.Bool.{false≢true, eq-eqb, eqb-true}
use Rattle.std.proofs.lemmas.List.{length-map}
use Rattle.model.specs.declared.graph.Pool.{Pool}
use Rattle.model.specs.Graph.{console, declared_depth, depth_of, later_number}
use Rattle.theory.proofs.Lists.{same_bytes}
use Rattle.plan.specs.Pools.{limited, place_of, depths_of}

none_some : {X : Type 0} (g : ℕ) → None ≡ Some g → X
none_some g e = cc

some_none : {X : Type 0} (g : ℕ) → Some g ≡ None → X
some_none g e = cc

some_is : (g h : ℕ) → Some g ≡ Some h → g ≡ h
some_is g h e = cc

at_front : (xs : List ℕ) (y i : ℕ) → i < length xs → get_or (xs ++ y ∷ []) i 0 ≡ get_or xs i 0
at_front [] y i lt = absurd (omega (arith, lt))
at_front (x ∷ xs) y zero lt = refl
at_front (x ∷ xs) y (suc i) lt = at_front xs y i (omega (arith, lt))

at_end : (xs : List ℕ) (y : ℕ) → get_or (xs ++ y ∷ []) (length xs) 0 ≡ y
at_end [] y = refl
at_end (x ∷ xs) y = at_end xs y

abbrev depth : Pool → ℕ
depth pool = pool.depth

abbrev choice : Bool → Bool → Option ℕ → Option ℕ
choice named free rest = cond named (cond free None (Some 0)) (later_number rest)

later_is : (o : Option ℕ) (g : ℕ) → later_number o ≡ Some g → (k : ℕ) × (o ≡ Some k) × (g ≡ suc k)
later_is None g e = none_some g e
later_is (Some k) g e = (k, refl, sym (some_is (suc k) g e))

later_none : (o : Option ℕ) → later_number o ≡ None → o ≡ None
later_none None e = refl
later_none (Some k) e = some_none (suc k) e

-- the first pool with the name stands at the place that is found, and has a limit
abbrev IsLimit : List Pool → List ℕ → ℕ → Type 0
IsLimit pools name g = (g < length pools) × (get_or (map depth pools) g 0 ≡ declared_depth pools name) × (declared_depth pools name ≡ 0 → ⊥)

one_limit : (p : Pool) (pools : List Pool) (name : List ℕ) (g : ℕ) → ((k : ℕ) → limited pools name ≡ Some k → IsLimit pools name k) → (named free : Bool) → bytes_eq p.name name ≡ named → (p.depth == 0) ≡ free
    → choice named free (limited pools name) ≡ Some g → IsLimit (p ∷ pools) name g
one_limit p pools name g more true true n f is = none_some g is
one_limit p pools name g more true false n f is =
    let here : zero ≡ g = some_is 0 g is in
    let declared : declared_depth (p ∷ pools) name ≡ p.depth = ap (λ (b : Bool). cond b p.depth (declared_depth pools name)) n in
    subst (λ (k : ℕ). IsLimit (p ∷ pools) name k) here (omega arith, sym declared, λ z. false≢true (sym f ∙ eq-eqb p.depth 0 (sym declared ∙ z)))
one_limit p pools name g more false free n f is =
    let later = later_is (limited pools name) g is in
    let rest = more later.0 later.1 in
    let declared : declared_depth (p ∷ pools) name ≡ declared_depth pools name = ap (λ (b : Bool). cond b p.depth (declared_depth pools name)) n in
    subst (λ (k : ℕ). IsLimit (p ∷ pools) name k) (sym later.2) (omega (arith, rest.0), rest.1 ∙ sym declared, λ z. rest.2 (sym declared ∙ z))

limited_is : (pools : List Pool) (name : List ℕ) (g : ℕ) → limited pools name ≡ Some g → IsLimit pools name g
limited_is [] name g is = none_some g is
limited_is (p ∷ pools) name g is = one_limit p pools name g (λ k found. limited_is pools name k found) (bytes_eq p.name name) (p.depth == 0) refl refl is

one_free : (p : Pool) (pools : List Pool) (name : List ℕ) → (limited pools name ≡ None → declared_depth pools name ≡ 0) → (named free : Bool) → bytes_eq p.name name ≡ named → (p.depth == 0) ≡ free
    → choice named free (limited pools name) ≡ None → declared_depth (p ∷ pools) name ≡ 0
one_free p pools name more true true n f is = ap (λ (b : Bool). cond b p.depth (declared_depth pools name)) n ∙ eqb-true p.depth 0 f
one_free p pools name more true false n f is = some_none 0 is
one_free p pools name more false free n f is = ap (λ (b : Bool). cond b p.depth (declared_depth pools name)) n ∙ more (later_none (limited pools name) is)

limited_free : (pools : List Pool) (name : List ℕ) → limited pools name ≡ None → declared_depth pools name ≡ 0
limited_free [] name is = refl
limited_free (p ∷ pools) name is = one_free p pools name (λ rest. limited_free pools name rest) (bytes_eq p.name name) (p.depth == 0) refl refl is

-- two names with one place are one
one_name : (p : Pool) (pools : List Pool) (a b : List ℕ) (g : ℕ) → ((k : ℕ) → limited pools a ≡ Some k → limited pools b ≡ Some k → a ≡ b) → (m n f : Bool) → bytes_eq p.name a ≡ m → bytes_eq p.name b ≡ n
    → choice m f (limited pools a) ≡ Some g → choice n f (limited pools b) ≡ Some g → a ≡ b
one_name p pools a b g more true true f x y is at = sym (same_bytes p.name a x) ∙ same_bytes p.name b y
one_name p pools a b g more true false true x y is at = none_some g is
one_name p pools a b g more true false false x y is at = let later = later_is (limited pools b) g at in absurd (omega (arith, some_is 0 g is, later.2))
one_name p pools a b g more false true true x y is at = none_some g at
one_name p pools a b g more false true false x y is at = let later = later_is (limited pools a) g is in absurd (omega (arith, some_is 0 g at, later.2))
one_name p pools a b g more false false f x y is at =
    let one = later_is (limited pools a) g is in
    let two = later_is (limited pools b) g at in
    more one.0 one.1 (two.1 ∙ ap (λ (k : ℕ). Some k) (omega (arith, one.2, two.2)))

limited_name : (pools : List Pool) (a b : List ℕ) (g : ℕ) → limited pools a ≡ Some g → limited pools b ≡ Some g → a ≡ b
limited_name [] a b g is at = none_some g is
limited_name (p ∷ pools) a b g is at = one_name p pools a b g (λ k x y. limited_name pools a b k x y) (bytes_eq p.name a) (bytes_eq p.name b) (p.depth == 0) refl refl is at

-- ---- with the one for the terminal

module _ (pools : List Pool) where
  abbrev place : Bool → List ℕ → Option ℕ
  place at_terminal name = cond at_terminal (Some (length pools)) (limited pools name)

  abbrev deep : Bool → List ℕ → ℕ
  deep at_terminal name = cond at_terminal 1 (declared_depth pools name)

  pub place_free : (name : List ℕ) → place_of pools name ≡ None → depth_of pools name ≡ 0
  place_free name is = by (bytes_eq name console) refl is
    where
      by : (b : Bool) → bytes_eq name console ≡ b → place b name ≡ None → depth_of pools name ≡ 0
      by true e none = some_none (length pools) none
      by false e none = ap (λ (b : Bool). deep b name) e ∙ limited_free pools name none

  pub place_depth : (name : List ℕ) (g : ℕ) → place_of pools name ≡ Some g → (get_or (depths_of pools) g 0 ≡ depth_of pools name) × (depth_of pools name ≡ 0 → ⊥)
  place_depth name g is = by (bytes_eq name console) refl is
    where
      by : (b : Bool) → bytes_eq name console ≡ b → place b name ≡ Some g → (get_or (depths_of pools) g 0 ≡ depth_of pools name) × (depth_of pools name ≡ 0 → ⊥)
      by true e found =
          let declared : depth_of pools name ≡ 1 = ap (λ (b : Bool). deep b name) e in (
            ap (λ (k : ℕ). get_or (depths_of pools) k 0) (sym (some_is (length pools) g found) ∙ sym (length-map pools depth)) ∙ (at_end (map depth pools) 1 ∙ sym declared),
            λ z. absurd (omega (arith, declared, z)),
          )
      by false e found =
          let limit = limited_is pools name g found in
          let declared : depth_of pools name ≡ declared_depth pools name = ap (λ (b : Bool). deep b name) e in
          (at_front (map depth pools) 1 g (omega (arith, limit.0, length-map pools depth)) ∙ (limit.1 ∙ sym declared), λ z. limit.2 (sym declared ∙ z))

  pub place_name : (a b : List ℕ) (g : ℕ) → place_of pools a ≡ Some g → place_of pools b ≡ Some g → a ≡ b
  place_name a b g is at = by (bytes_eq a console) (bytes_eq b console) refl refl is at
    where
      by : (m n : Bool) → bytes_eq a console ≡ m → bytes_eq b console ≡ n → place m a ≡ Some g → place n b ≡ Some g → a ≡ b
      by true true x y is at = same_bytes a console x ∙ sym (same_bytes b console y)
      by true false x y is at = absurd (omega (arith, some_is (length pools) g is, (limited_is pools b g at).0))
      by false true x y is at = absurd (omega (arith, some_is (length pools) g at, (limited_is pools a g is).0))
      by false false x y is at = limited_name pools a b g is at
