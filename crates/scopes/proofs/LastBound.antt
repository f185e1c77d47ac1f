-- Bindings of which the last one stands.
use Rattle.std.proofs.Common.{◌≡◌, ◌++◌, ◌∷◌, [], ◌∙◌, ℕ, Bool, true, false, cond, List, Option, None, Some, refl, sym, ap}
use Rattle.std.proofs.lemmas.Bool.{true≢false}
use Rattle.std.specs.Option.{is_some, option_map, option_flatten}
use Rattle.std.specs.Str.{bytes_eq}
use Rattle.scopes.specs.Block.{last_value, bound_value}
use Rattle.scopes.specs.Moves.{or_else}
use Rattle.scopes.specs.declared.block.Bound.{Bound}

or_else_cond : (same : Bool) (value : List ℕ) (before behind : Option (List ℕ)) → or_else (cond same (Some value) before) behind ≡ cond same (Some value) (or_else before behind)
or_else_cond true value before behind = refl
or_else_cond false value before behind = refl

-- one more is bound
pub last_push : (before all : List Bound) (bound : Bound) (name : List ℕ) → all ≡ before ++ bound ∷ [] → last_value all name ≡ cond (bytes_eq bound.name name) (Some bound.value) (last_value before name)
last_push before all bound name push = ap (λ (list : List Bound). last_value list name) push ∙ pushed before
  where
    pushed : (before : List Bound) → last_value (before ++ bound ∷ []) name ≡ cond (bytes_eq bound.name name) (Some bound.value) (last_value before name)
    pushed [] = refl
    pushed (first ∷ before) = ap (λ (found : Option (List ℕ)). or_else found (bound_value first name)) (pushed before) ∙ or_else_cond (bytes_eq bound.name name) bound.value (last_value before name) (bound_value first name)

-- the last of them has the name
pub last_found : (before all : List Bound) (bound : Bound) (name : List ℕ) → all ≡ before ++ bound ∷ [] → bytes_eq bound.name name ≡ true → last_value all name ≡ Some bound.value
last_found before all bound name push same = last_push before all bound name push ∙ ap (λ (b : Bool). cond b (Some bound.value) (last_value before name)) same

-- the last of them has another one
pub last_passed : (before all : List Bound) (bound : Bound) (name : List ℕ) → all ≡ before ++ bound ∷ [] → bytes_eq bound.name name ≡ false → last_value all name ≡ last_value before name
last_passed before all bound name push other = last_push before all bound name push ∙ ap (λ (b : Bool). cond b (Some bound.value) (last_value before name)) other

-- one more is bound in the table
pub behind_bound : {X : Type 0} (found : X → Option (List ℕ)) (last : Option (List ℕ)) (same : Bool) (value : List ℕ) (others : Option X) (old new : X)
    → others ≡ Some old → found new ≡ cond same (Some value) (found old)
    → or_else (option_flatten (option_map found (Some new))) last ≡ cond same (Some value) (or_else (option_flatten (option_map found others)) last)
behind_bound found last same value others old new is told =
    ap (λ (f : Option (List ℕ)). or_else f last) told
    ∙ or_else_cond same value (found old) last
    ∙ ap (λ (o : Option _). cond same (Some value) (or_else (option_flatten (option_map found o)) last)) (sym is)

-- one more is bound among the few, and there is no table
pub few_bound : {X : Type 0} (found : X → Option (List ℕ)) (first : Option (List ℕ)) (before all : List Bound) (bound : Bound) (name : List ℕ) (others : Option X)
    → is_some others ≡ false → all ≡ before ++ bound ∷ []
    → or_else (option_flatten (option_map found others)) (or_else (last_value all name) first)
    ≡ cond (bytes_eq bound.name name) (Some bound.value) (or_else (option_flatten (option_map found others)) (or_else (last_value before name) first))
few_bound found first before all bound name None none push =
    ap (λ (f : Option (List ℕ)). or_else f first) (last_push before all bound name push) ∙ or_else_cond (bytes_eq bound.name name) bound.value (last_value before name) first
few_bound found first before all bound name (Some others) none push = absurd (true≢false none)
