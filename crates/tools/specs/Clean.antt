-- What `-t clean` removes.
use Rattle.std.specs.Prelude.{◌≡◌, ◌≢◌, ◌<◌, ℕ, Bool, true, false, List, [], ◌↔◌, ◌⊎◌, Some, map, length, slice_get}
use Rattle.std.specs.Map.Iter.{deref}
use Rattle.model.specs.Graph.{has}
use Rattle.graph.specs.Links.{links_of}
use Rattle.paths.specs.Told.{text_at, texts_at}
use Rattle.tools.specs.declared.declared.Declared.{Declared}
use Rattle.tools.specs.declared.cleaning.Cleaning.{Cleaning}
use Rattle.tools.specs.declared.cleaning.Cleaning.TheVariants.{All, Targets, Rules}
use Rattle.tools.specs.Above.{IsNamedAbove}
use Rattle.tools.specs.Files.{own_files, rule_of, runs_generator}

-- what this edge makes is asked for: by all, by a path, or by its rule
abbrev pub IsAsked : Declared → Cleaning → ℕ → ℕ → Type 0
IsAsked declared All e p = Unit {0}
IsAsked declared (Targets paths) e p = IsNamedAbove declared.graph paths.now p
IsAsked declared (Rules rules) e p = has (map deref rules.now) (rule_of declared e) ≡ true

-- a command makes the path, what it makes is asked for, and it may be removed
pub record IsCleanedOutput (declared : Declared) (cleaning : Cleaning) (generated : Bool) (text : List ℕ) : Type 0 where
  pub path : ℕ
  pub edge : ℕ
  pub made : (links_of declared.graph).maker path ≡ Some edge
  pub command : (links_of declared.graph).phony edge ≡ false
  pub asked : IsAsked declared cleaning edge path
  pub free : generated ≡ false → runs_generator declared edge ≡ false
  pub some : text ≢ []
  pub file : (text ≡ text_at declared.graph.manifest.paths path) ⊎ (has (own_files declared edge) text ≡ true)

-- ---- edge by edge

abbrev pub IsOwnFileOf : Declared → ℕ → List ℕ → Type 0
IsOwnFileOf declared e text = (text ≢ []) × (has (own_files declared e) text ≡ true)

abbrev pub IsPathOf : Declared → List ℕ → List ℕ → Type 0
IsPathOf declared numbers text = (text ≢ []) × (has (texts_at declared.graph.manifest.paths numbers) text ≡ true)

-- the edge makes the path, or it is its depfile or response file; no line is without outputs
pub record IsFileOf (declared : Declared) (e : ℕ) (text : List ℕ) : Type 0 where
  pub makes : (links_of declared.graph).outputs e ≢ []
  pub some : text ≢ []
  pub file : (has (texts_at declared.graph.manifest.paths ((links_of declared.graph).outputs e)) text ≡ true) ⊎ (has (own_files declared e) text ≡ true)

-- what the edge makes may be removed
pub record IsFree (declared : Declared) (generated : Bool) (e : ℕ) : Type 0 where
  pub command : (links_of declared.graph).phony e ≡ false
  pub free : generated ≡ false → runs_generator declared e ≡ false

-- the path is one of the edge's that may be removed
pub record MayClean (declared : Declared) (generated : Bool) (e : ℕ) (text : List ℕ) : Type 0 where
  pub free : IsFree declared generated e
  pub file : IsFileOf declared e text

-- of some edge
abbrev pub IsAnyRule : Declared → Bool → List ℕ → Type 0
IsAnyRule declared generated text = (e : ℕ) × (e < length declared.graph.manifest.lines) × MayClean declared generated e text

-- of an edge of these rules
abbrev pub MayCleanOfRule : Declared → List (List ℕ) → Bool → ℕ → List ℕ → Type 0
MayCleanOfRule declared rules generated e text = (has rules (rule_of declared e) ≡ true) × MayClean declared generated e text

abbrev pub IsCleanedRule : Declared → List (List ℕ) → Bool → List ℕ → Type 0
IsCleanedRule declared rules generated text = (e : ℕ) × (e < length declared.graph.manifest.lines) × MayCleanOfRule declared rules generated e text

-- the path is this one, or a depfile or response file of the edge that makes it, and may be removed
pub record MayCleanPath (declared : Declared) (generated : Bool) (p : ℕ) (text : List ℕ) : Type 0 where
  pub edge : ℕ
  pub made : (links_of declared.graph).maker p ≡ Some edge
  pub free : IsFree declared generated edge
  pub some : text ≢ []
  pub file : (text ≡ text_at declared.graph.manifest.paths p) ⊎ (has (own_files declared edge) text ≡ true)

-- of one of these paths, or of an input above them
abbrev pub IsCleanedTarget : Declared → List ℕ → Bool → List ℕ → Type 0
IsCleanedTarget declared targets generated text = (p : ℕ) × IsNamedAbove declared.graph targets p × MayCleanPath declared generated p text

-- there are the old ones and just these
abbrev pub AddsJust : (old new : List (List ℕ)) → (List ℕ → Type 0) → Type 0
AddsJust old new added = (text : List ℕ) → has new text ≡ true ↔ ((has old text ≡ true) ⊎ added text)

-- the text at a place, unless it is this one
abbrev pub IsOtherAt : List (List ℕ) → List ℕ → ℕ → List ℕ → Type 0
IsOtherAt paths left_out k text = (slice_get paths k ≡ Some text) × (text ≢ left_out)

-- there are the old ones but for this one
abbrev pub LacksJust : (old new : List (List ℕ)) → List ℕ → Type 0
LacksJust old new left_out = (text : List ℕ) → has new text ≡ true ↔ ((text ≢ left_out) × (has old text ≡ true))

-- just these, but for the file that was read
abbrev pub AreCleaned : Declared → Cleaning → Bool → List ℕ → List (List ℕ) → Type 0
AreCleaned declared cleaning generated file paths = (text : List ℕ) → has paths text ≡ true ↔ ((text ≢ file) × IsCleanedOutput declared cleaning generated text)
