-- Values and paths where they stand (manual: "Evaluation and scoping").
use Rattle.std.specs.Prelude.{ℕ, ◌||◌, Bool, true, false, if◌then◌else◌, List, [], ◌∷◌, length, nat_lt, Option, None, Some, unwrap_or, bytes_eq}
use Rattle.std.specs.List.{AllZip, flat_map}
use Rattle.lexer.specs.Path.{IsCanonical}
use Rattle.lexer.specs.Said.{Fragment, Fragments}
use Rattle.lexer.specs.Said.Fragment.{literal, expansion}
use Rattle.scopes.specs.Texts.{largest_value}
use Rattle.scopes.specs.Moves.{Move, or_else, value_at}

abbrev pub fragment_text : (List ℕ → List ℕ) → Fragment → List ℕ
fragment_text value (literal text) = text
fragment_text value (expansion name) = value name

-- the text, where each name stands for this value
abbrev pub text_of : (List ℕ → List ℕ) → Fragments → List ℕ
text_of value fragments = flat_map (fragment_text value) fragments

-- ---- what a block binds, the latest first

pub record Bound : Type 0 where
  pub name : List ℕ
  pub value : List ℕ

abbrev pub bound : List Bound → List ℕ → Option (List ℕ)
bound [] name = None
bound (binding ∷ earlier) name = if bytes_eq binding.name name then Some binding.value else bound earlier name

-- what a name stands for: what the block binds, failing that its value at this place, failing that nothing
abbrev pub value_here : List Bound → List Move → List ℕ → List ℕ
value_here block past name = unwrap_or (or_else (bound block name) (value_at past name)) []

-- the text where no block is seen
abbrev pub text_at : List Move → Fragments → List ℕ
text_at past fragments = text_of (value_here [] past) fragments

-- ---- sizes

abbrev pub is_large : List ℕ → Bool
is_large text = nat_lt largest_value (length text)

abbrev pub is_empty : List ℕ → Bool
is_empty [] = true
is_empty (b ∷ bytes) = false

-- ---- paths

-- some of these, expanded, is so
abbrev pub some_text : (List ℕ → Bool) → (List ℕ → List ℕ) → List Fragments → Bool
some_text is value [] = false
some_text is value (path ∷ paths) = is (text_of value path) || some_text is value paths

-- the canonical paths of these, in their order
abbrev pub ArePaths : (List ℕ → List ℕ) → List Fragments → List (List ℕ) → Type 0
ArePaths value texts paths = AllZip (λ text path. IsCanonical (text_of value text) path) texts paths
