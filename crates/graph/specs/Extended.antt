-- What a graph becomes by a dyndep file, and why one is refused.
use Rattle.std.specs.Prelude.{◌≡◌, ◌⊎◌, ℕ, ◌<◌, ◌++◌, ◌∷◌, true, false, List, length, map, get_or, Option, Some}
use Rattle.std.specs.List.{AllByRecursion}
use Rattle.model.specs.declared.graph.Edge.{Edge}
use Rattle.model.specs.Graph.{has, edge_at, outputs, first_output, all_outputs, Addition, IsMadeOnce, IsMadeTwice}
use Rattle.model.specs.Phases.{IsGrownBy}
use Rattle.dyndep.specs.declared.addition.Addition.{Addition as Statement}
use Rattle.paths.specs.Commands.{no_action}
use Rattle.graph.specs.declared.fault.ExtendFault.{ExtendFault}
use Rattle.graph.specs.declared.fault.ExtendFault.TheVariants.{Memory, Unfit, MadeTwice}
use Rattle.graph.specs.declared.graph.Graph.{Graph}
use Rattle.graph.specs.Held.{dyndep_of}
use Rattle.graph.specs.Linked.{IsFirstRepeated}
use Rattle.graph.specs.Told.{declared_by, recorded_by, path_text}

-- a statement in the words of builds
abbrev pub addition_of : Statement → Addition
addition_of statement = record { output = statement.output; outputs = statement.outputs; inputs = statement.inputs; restat = statement.restat }

-- the dyndep file that the edge names, which is not loaded
abbrev pub dyndep_at : Graph → ℕ → Option ℕ
dyndep_at graph e = dyndep_of (get_or graph.manifest.actions e no_action)

-- what names a file is an edge, and the file a path
abbrev pub FilesStand : Type 0
FilesStand = (graph : Graph) (e file : ℕ) → dyndep_at graph e ≡ Some file → (e < length graph.manifest.lines) × (file < length graph.manifest.paths)

-- ---- a file that is loaded

-- The edges that name the file have what its statements say, and name it no more; nothing else is changed, and paths keep their numbers.
pub record HasLoaded (old new : Graph) (file : List ℕ) (additions : List Addition) : Type 0 where
  pub grown : IsGrownBy file additions (declared_by old).edges (declared_by new).edges
  pub once : IsMadeOnce (declared_by new).edges
  pub pools : new.manifest.pools ≡ old.manifest.pools
  pub defaults : (declared_by new).defaults ≡ (declared_by old).defaults
  pub builddir : new.manifest.builddir ≡ old.manifest.builddir
  pub lines : length new.manifest.lines ≡ length old.manifest.lines
  pub added : List (List ℕ)
  pub paths : new.manifest.paths ≡ old.manifest.paths ++ added
  pub named : new.manifest.named ≡ old.manifest.named
  pub numbers : new.recorded ≡ old.recorded
  pub recorded : (i : ℕ) → recorded_by new i ≡ recorded_by old i

-- ---- a file that is refused

-- the edge names the file, and no statement is of it
pub record LacksStatement (file : List ℕ) (additions : List Addition) (e : Edge) : Type 0 where
  pub names : e.dyndep ≡ Some file
  pub none : AllByRecursion (λ a. has (outputs e) a.output ≡ false) additions

-- the lowest such edge
pub record IsFirstLacking (edges : List Edge) (file : List ℕ) (additions : List Addition) (i : ℕ) : Type 0 where
  pub lacks : LacksStatement file additions (edge_at edges i)
  pub lowest : (k : ℕ) → k < i → LacksStatement file additions (edge_at edges k) → ⊥

-- the output is one of an edge that names the file
pub record IsOfNamer (edges : List Edge) (file : List ℕ) (output : List ℕ) : Type 0 where
  pub edge : ℕ
  pub names : (edge_at edges edge).dyndep ≡ Some file
  pub makes : has (outputs (edge_at edges edge)) output ≡ true

-- the output is of an edge of which a statement stands before
pub record IsSecond (edges : List Edge) (before : List Addition) (output : List ℕ) : Type 0 where
  pub edge : ℕ
  pub makes : has (outputs (edge_at edges edge)) output ≡ true
  pub front : List Addition
  pub other : Addition
  pub rest : List Addition
  pub splits : before ≡ front ++ other ∷ rest
  pub earlier : has (outputs (edge_at edges edge)) other.output ≡ true

-- a statement of this output, behind these, is of no edge that names the file, or of one that has a statement
abbrev pub IsUnfitting : List Edge → List ℕ → List Addition → List ℕ → Type 0
IsUnfitting edges file before output = (IsOfNamer edges file output → ⊥) ⊎ IsSecond edges before output

-- the first such statement is of this output
pub record IsFirstUnfitting (edges : List Edge) (file : List ℕ) (additions : List Addition) (output : List ℕ) : Type 0 where
  pub before : List Addition
  pub addition : Addition
  pub after : List Addition
  pub splits : additions ≡ before ++ addition ∷ after
  pub is : addition.output ≡ output
  pub unfitting : IsUnfitting edges file before output
  pub earlier : (front : List Addition) (a : Addition) (rest : List Addition) → before ≡ front ++ a ∷ rest → IsUnfitting edges file front a.output → ⊥

-- the file does not fit this output: the first one of the lowest edge without a statement, else that of the first statement that fits no edge (which goes first is this project's own)
abbrev pub IsUnfit : List Edge → List ℕ → List Addition → List ℕ → Type 0
IsUnfit edges file additions output =
    ((i : ℕ) × IsFirstLacking edges file additions i × (output ≡ first_output (edge_at edges i)))
    ⊎ (((i : ℕ) → LacksStatement file additions (edge_at edges i) → ⊥) × IsFirstUnfitting edges file additions output)

-- the file fits, and this is the first output that is made before it, in reading order, by the edges as they would be
pub record IsRemadeBy (edges : List Edge) (file : List ℕ) (additions : List Addition) (p : List ℕ) : Type 0 where
  pub next : List Edge
  pub grown : IsGrownBy file additions edges next
  pub twice : IsMadeTwice next p
  pub first : IsFirstRepeated (all_outputs next) p

-- why a graph does not take the file; want of memory is shown by tests alone
abbrev pub IsRefusedLoad : Graph → List ℕ → List Addition → ExtendFault → Type 0
IsRefusedLoad graph file additions Memory = Unit {0}
IsRefusedLoad graph file additions (Unfit output) = IsUnfit (declared_by graph).edges file additions output
IsRefusedLoad graph file additions (MadeTwice p) = IsRemadeBy (declared_by graph).edges file additions p

-- ---- the same of the file with this number, whose statements these are

abbrev pub HasTaken : Graph → Graph → ℕ → List Statement → Type 0
HasTaken old new file told = HasLoaded old new (path_text old file) (map addition_of told)

abbrev pub HasRefused : Graph → ℕ → List Statement → ExtendFault → Type 0
HasRefused graph file told fault = IsRefusedLoad graph (path_text graph file) (map addition_of told) fault
