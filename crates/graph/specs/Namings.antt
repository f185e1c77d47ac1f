-- How lines name each path, and the lowest edge whose depfile or response file is occupied, by numbers.
use Rattle.std.specs.Prelude.{◌≡◌, ◌≢◌, ◌⊎◌, ℕ, suc, ◌==◌, ◌<◌, Bool, true, false, not, if◌then◌else◌, List, ◌++◌, length, get_or, Option, None, Some, MatchOption}
use Rattle.model.specs.Graph.{has_number, edge_at, first_output}
use Rattle.paths.specs.declared.line.Line.{Line}
use Rattle.paths.specs.declared.manifest.Manifest.{Manifest}
use Rattle.paths.specs.Lists.{line_at, line_outputs, line_inputs}
use Rattle.paths.specs.Told.{graph_of}
use Rattle.graph.specs.declared.fault.GraphFault.{GraphFault}
use Rattle.graph.specs.declared.fault.GraphFault.TheVariants.{Occupied}
use Rattle.graph.specs.declared.fault.Occupied.{Occupied as OccupiedPath}
use Rattle.graph.specs.declared.fault.SideFile.{SideFile}
use Rattle.graph.specs.declared.fault.SideFile.TheVariants.{Depfile, Response}
use Rattle.graph.specs.declared.side_files.FileOf.{FileOf}
use Rattle.graph.specs.declared.side_files.Naming.{Naming}
use Rattle.graph.specs.declared.side_files.Naming.TheVariants.{Nobody, Maker, More}
use Rattle.graph.specs.Occupying.{side_file, IsOccupied, IsSideOccupied, AreFreeUpTo}

-- what the line names beside its outputs
abbrev pub line_beside : Line → List ℕ
line_beside line = line_inputs line ++ line.validations

abbrev pub line_makes : List Line → ℕ → ℕ → Bool
line_makes lines e p = has_number (line_outputs (line_at lines e)) p

abbrev pub line_uses : List Line → ℕ → ℕ → Bool
line_uses lines e p = has_number (line_beside (line_at lines e)) p

-- a line names the path, and not only as an output of this one
pub record IsNumberBeside (lines : List Line) (own p : ℕ) : Type 0 where
  pub line : ℕ
  pub names : (line_uses lines line p ≡ true) ⊎ ((line ≢ own) × (line_makes lines line p ≡ true))

-- ---- how the first so many lines name a path

abbrev pub IsNaming : List Line → ℕ → ℕ → Naming → Type 0
IsNaming lines count p Nobody = (e : ℕ) → e < count → (line_makes lines e p ≡ false) × (line_uses lines e p ≡ false)
IsNaming lines count p (Maker m) =
    (line_makes lines m p ≡ true) × ((e : ℕ) → e < count → (line_makes lines e p ≡ true → e ≡ m) × (line_uses lines e p ≡ false))
IsNaming lines count p More = (own : ℕ) → IsNumberBeside lines own p

abbrev pub naming_in : List Naming → ℕ → Naming
naming_in namings p = get_or namings p Nobody

-- so they name each path
abbrev pub AreNamingsBelow : List Line → List Naming → ℕ → Type 0
AreNamingsBelow lines namings count = (p : ℕ) → IsNaming lines count p (naming_in namings p)

pub record AreNamings (manifest : Manifest) (namings : List Naming) : Type 0 where
  pub fits : length namings ≡ length manifest.paths
  pub is : AreNamingsBelow manifest.lines namings (length manifest.lines)

-- how a path is named that this line makes, too
abbrev pub made_too : ℕ → Naming → Naming
made_too edge Nobody = Maker edge
made_too edge (Maker m) = if m == edge then Maker m else More
made_too edge More = More

-- a line names the path, and not only as an output of this one
abbrev pub is_beside : ℕ → Naming → Bool
is_beside edge Nobody = false
is_beside edge (Maker m) = not (m == edge)
is_beside edge More = true

-- the namings of these paths are changed in this way, and no others
abbrev pub AreNoted : (Naming → Naming) → List ℕ → List Naming → List Naming → Type 0
AreNoted change paths old new =
    (p : ℕ) → naming_in new p ≡ (if has_number paths p then change (naming_in old p) else naming_in old p)

-- ---- the lowest edge

-- the file of the edge that counts as e in the code
abbrev pub declared_file : Manifest → ℕ → SideFile → List ℕ
declared_file manifest e file = side_file (edge_at (graph_of manifest).edges (suc e)) file

-- this file is occupied
abbrev pub IsFileOccupied : List ℕ → Manifest → ℕ → SideFile → Type 0
IsFileOccupied start manifest e file = IsSideOccupied start (graph_of manifest).edges (suc e) file

-- this file is occupied, and none of an edge before it is; the depfile of an edge comes before its response file
pub record IsLowestFile (start : List ℕ) (manifest : Manifest) (at : FileOf) : Type 0 where
  pub within : at.edge < length manifest.lines
  pub is : IsFileOccupied start manifest at.edge at.file
  pub free : AreFreeUpTo start (graph_of manifest).edges at.edge
  pub first : at.file ≡ Response → IsFileOccupied start manifest at.edge Depfile → ⊥

-- no file of an edge is occupied
abbrev pub AllAreFree : List ℕ → Manifest → Type 0
AllAreFree start manifest = AreFreeUpTo start (graph_of manifest).edges (length manifest.lines)

-- the lowest is found, where there is one
abbrev pub FindsLowest : List ℕ → Manifest → Option FileOf → Type 0
FindsLowest start manifest found = MatchOption found (AllAreFree start manifest) (IsLowestFile start manifest)

-- the path is occupied for no edge
abbrev pub IsFreePath : List ℕ → Manifest → List ℕ → Type 0
IsFreePath start manifest p = (i : ℕ) → IsOccupied start (graph_of manifest).edges i p → ⊥

-- how many edges are looked at for other faults: those up to the one whose file is occupied, else all
abbrev pub stop_at : Manifest → Option FileOf → ℕ
stop_at manifest None = length manifest.lines
stop_at manifest (Some at) = suc at.edge

-- what is told of this file
abbrev pub told_of : Manifest → FileOf → OccupiedPath
told_of manifest at = record {
  path = declared_file manifest at.edge at.file;
  file = at.file;
  output = first_output (edge_at (graph_of manifest).edges (suc at.edge));
}

-- the fault tells of this file
abbrev pub IsFaultAt : Manifest → FileOf → GraphFault → Type 0
IsFaultAt manifest at fault = fault ≡ Occupied (told_of manifest at)
