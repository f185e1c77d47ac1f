-- Bytes without a mark.
use Rattle.std.specs.Prelude.{◌≢◌, ℕ, List}
use Rattle.std.specs.List.{AllByRecursion}

-- none of the bytes is the mark
abbrev pub Lacks : ℕ → List ℕ → Type 0
Lacks mark = AllByRecursion (λ byte. byte ≢ mark)
