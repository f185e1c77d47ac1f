-- Which processes have which numbers, as far as a trace has come.
use Rattle.std.specs.Prelude.{ℕ, List, [], ◌∷◌, Option, Some, None, bytes_eq, if◌then◌else◌}
use Rattle.shares.specs.declared.numbers.Numbered.{Numbered}

-- the place of the process that has this number
abbrev pub place_of : List ℕ → List Numbered → Option ℕ
place_of number [] = None
place_of number (one ∷ numbers) = if bytes_eq one.number number then Some one.place else place_of number numbers

abbrev pub without : List ℕ → List Numbered → List Numbered
without number [] = []
without number (one ∷ numbers) = if bytes_eq one.number number then numbers else one ∷ without number numbers
