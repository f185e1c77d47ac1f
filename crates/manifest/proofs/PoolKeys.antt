-- The pools that were declared, by their names.
use Rattle.std.proofs.Common.{◌≡◌, ℕ, Bool, true, false, List, [], ◌∷◌, ◌++◌, ◌||◌, map, String, Global, string_bytes, bytes_eq, Option, Some, None, refl, ap, ◌∙◌}
use Rattle.std.specs.Prelude.{is_some}
use Rattle.std.specs.Map.{lookup}
use Rattle.std.specs.String.{string_eq}
use Rattle.std.proofs.lemmas.List.{map-append}
use Rattle.model.specs.Graph.{console}
use Rattle.model.specs.declared.graph.Pool.{Pool}
use Rattle.manifest.specs.States.{is_pool}
use Rattle.manifest.specs.Held.{ArePools, pool_of}
use Rattle.manifest.proofs.BuildKeys.{turned}

-- the key that is found is the pool's name
found : (entries : List (String Global × ℕ)) (name : List ℕ) → is_some (lookup (λ (key : String Global). bytes_eq name (string_bytes key)) entries) ≡ is_pool (map pool_of entries) name
found [] name = refl
found (entry ∷ entries) name = by (found entries name) (bytes_eq name (string_bytes entry.0)) refl
  where
    by : is_some (lookup (λ (key : String Global). bytes_eq name (string_bytes key)) entries) ≡ is_pool (map pool_of entries) name
        → (b : Bool) → bytes_eq name (string_bytes entry.0) ≡ b
        → is_some (lookup (λ (key : String Global). bytes_eq name (string_bytes key)) (entry ∷ entries)) ≡ is_pool (map pool_of (entry ∷ entries)) name
    by more true is = let back : bytes_eq (string_bytes entry.0) name ≡ true = turned (string_bytes entry.0) name ∙ is in rw (is, back) refl
    by more false is = let back : bytes_eq (string_bytes entry.0) name ≡ false = turned (string_bytes entry.0) name ∙ is in rw (is, back) more

pub pool_found : (entries : List (String Global × ℕ)) (pools : List Pool) (name : List ℕ) → ArePools entries pools
    → is_some (lookup (λ (key : String Global). bytes_eq name (string_bytes key)) entries) ≡ is_pool pools name
pool_found entries pools name are = found entries name ∙ ap (λ (those : List Pool). is_pool those name) are

-- no pool of this name is declared
pub pool_absent : (entries : List (String Global × ℕ)) (pools : List Pool) (name : List ℕ) (key : String Global) → ArePools entries pools → string_bytes key ≡ name
    → (bytes_eq name console || is_pool pools name) ≡ false → lookup (string_eq key) entries ≡ None
pool_absent entries pools name key are same free =
    let none : is_pool pools name ≡ false = second _ _ free in
    let missing : is_some (lookup (λ (k : String Global). bytes_eq (string_bytes key) (string_bytes k)) entries) ≡ false
    = pool_found entries pools (string_bytes key) are ∙ (ap (is_pool pools) same ∙ none) in
    nothing _ missing
  where
    second : (a b : Bool) → (a || b) ≡ false → b ≡ false
    second true b is = cc
    second false b is = is

    nothing : {T : Type 0} (o : Option T) → is_some o ≡ false → o ≡ None
    nothing None is = refl
    nothing (Some x) is = cc

-- one pool more
pub pools_more : (entries after : List (String Global × ℕ)) (pools : List Pool) (name : List ℕ) (key : String Global) (depth : ℕ)
    → ArePools entries pools → string_bytes key ≡ name → after ≡ entries ++ (key, depth) ∷ [] → ArePools after (pools ++ record { name = name; depth = depth } ∷ [])
pools_more entries after pools name key depth are same grown =
    ap (map pool_of) grown ∙ (map-append pool_of entries ((key, depth) ∷ [])
    ∙ (ap (λ (front : List Pool). front ++ record { name = string_bytes key; depth = depth } ∷ []) are
    ∙ ap (λ (text : List ℕ). pools ++ record { name = text; depth = depth } ∷ []) same))
