-- Outputs that nothing needs.
use Rattle.std.specs.Prelude.{◌≡◌, ℕ, Bool, not, false, List, filter, get_or}
use Rattle.std.specs.List.{flat_map}
use Rattle.model.specs.Graph.{has_number}
use Rattle.paths.specs.Lists.{line_outputs, line_inputs}
use Rattle.graph.specs.declared.graph.Graph.{Graph}

-- the numbers that have no mark
abbrev pub free_of : List Bool → List ℕ → List ℕ
free_of marks numbers = filter (λ p. not (get_or marks p false)) numbers

-- just these have a mark
abbrev pub AreMarked : List Bool → List ℕ → Type 0
AreMarked marks numbers = (p : ℕ) → get_or marks p false ≡ has_number numbers p

-- what all edges name as inputs, in reading order
abbrev pub input_numbers : Graph → List ℕ
input_numbers graph = flat_map line_inputs graph.manifest.lines

-- what all edges make, in reading order
abbrev pub output_numbers : Graph → List ℕ
output_numbers graph = flat_map line_outputs graph.manifest.lines
