-- Items that are read one after another from the front of a text.
use Rattle.std.specs.Prelude.{◌≡◌, ℕ, List, ◌++◌}
use Rattle.std.specs.List.{flat_map, AllByRecursion}

-- `whole` is these items, spelled one behind the other, and then `rest`; and any other way to spell
-- `whole` by items begins with these
pub record IsFront {X : Type 0} (spell : X → List ℕ) (Fits : X → Type 0) (whole : List ℕ) (items : List X) (rest : List ℕ) : Type 0 where
  pub spelled : whole ≡ flat_map spell items ++ rest
  pub fit : AllByRecursion Fits items
  pub only : (all : List X) → AllByRecursion Fits all → whole ≡ flat_map spell all → (more : List X) × (all ≡ items ++ more) × (rest ≡ flat_map spell more) × AllByRecursion Fits more

-- this item stands in front of `rest`, `after` is left behind it, and no other item stands there
pub record IsNext {X : Type 0} (spell : X → List ℕ) (Fits : X → Type 0) (rest : List ℕ) (item : X) (after : List ℕ) : Type 0 where
  pub spelled : rest ≡ spell item ++ after
  pub fits : Fits item
  pub only : (other : X) (others : List ℕ) → Fits other → rest ≡ spell other ++ others → (item ≡ other) × (after ≡ others)

-- no item stands in front of `rest`
abbrev pub HasNoNext : {X : Type 0} → (X → List ℕ) → (X → Type 0) → List ℕ → Type 0
HasNoNext {X} spell Fits rest = (item : X) (after : List ℕ) → Fits item → rest ≡ spell item ++ after → ⊥
