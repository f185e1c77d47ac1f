-- Which paths are looked at while commands run, and at which points what is found is so.
use Rattle.std.specs.Prelude.{◌≡◌, ℕ, Bool, true, false, IfOk, List, None, Some, Result}
use Rattle.model.specs.declared.event.Moment.{Moment}
use Rattle.model.specs.declared.graph.Edge.{Edge}
use Rattle.model.specs.World.{World, file_at}
use Rattle.model.specs.Graph.{has, has_number, edge_at, maker, outputs, inputs, IsCommand}
use Rattle.model.specs.Records.{Store, recorded_inputs}
use Rattle.model.specs.Schedule.{Step, judged_in, out_of_date_in}
use Rattle.graph.specs.declared.graph.Graph.{Graph}
use Rattle.graph.specs.Told.{declared_by}
use Rattle.judge.specs.declared.looks.Looks.{Looks}
use Rattle.judge.specs.Seen.{IfKept}
use Rattle.judge.specs.Judged.{KeepsDepfile, HasOldDepfile}

-- no edge that was judged out of date makes the path
abbrev pub IsUnmade : List Edge → List Step → List ℕ → Type 0
IsUnmade edges before p = (j : ℕ) → maker edges p ≡ Some j → has_number (out_of_date_in before) j ≡ false

-- The set has each path that may be looked at: the outputs of edges that were not judged out of date, the inputs and recorded
-- inputs that no edge judged out of date makes, and the sources among the targets.
pub record HasPathsFor (edges : List Edge) (store : Store) (targets : List (List ℕ)) (before : List Step) (set : List ℕ → Bool) : Type 0 where
  pub made : (i : ℕ) (p : List ℕ) → has_number (out_of_date_in before) i ≡ false → has (outputs (edge_at edges i)) p ≡ true → set p ≡ true
  pub named : (i : ℕ) (p : List ℕ) → has (inputs (edge_at edges i)) p ≡ true → IsUnmade edges before p → set p ≡ true
  pub recorded : (i : ℕ) (p : List ℕ) → has (recorded_inputs store edges i) p ≡ true → IsUnmade edges before p → set p ≡ true
  pub requested : (p : List ℕ) → has targets p ≡ true → maker edges p ≡ None → set p ≡ true

-- the depfile of each command that was not judged, where it names one, keeps its file between these worlds
abbrev pub KeepsDepfiles : Bool → List Edge → List Step → World → World → Type 0
KeepsDepfiles tells edges before old new = (i : ℕ) → IsCommand edges i → has_number (judged_in before) i ≡ false → KeepsDepfile tells edges old new i

-- these files are those of now at the paths of the set
abbrev pub AreSameOf : (List ℕ → Bool) → List Moment → List Moment → Type 0
AreSameOf set now files = (p : List ℕ) → set p ≡ true → file_at files p ≡ file_at now p

-- and so is the depfile of each command that was not judged, where it names one
pub record AreAlike (edges : List Edge) (before : List Step) (set : List ℕ → Bool) (now files : List Moment) : Type 0 where
  pub paths : AreSameOf set now files
  pub depfiles : (i : ℕ) → IsCommand edges i → has_number (judged_in before) i ≡ false → HasOldDepfile edges now files i

-- So it is of all files that are, at the paths of a set, those after a call, for each set of paths that keep their files in it.
abbrev pub IfStill : Bool → Graph → World → World → Looks → ((List ℕ → Bool) → List Moment → Type 0) → Type 0
IfStill tells graph old new seen So = IfKept tells graph.manifest.paths old new seen.seen.items (λ set now. (files : List Moment) → AreSameOf set now files → So set files)

-- So it is after these steps, at each point whose files are those after a call at all paths that may be looked at, where these keep
-- their files in it.
abbrev pub IfQuiet : Bool → Graph → Store → List (List ℕ) → List Step → World → World → Looks → (List Moment → Type 0) → Type 0
IfQuiet tells graph store targets before old new seen So =
    KeepsDepfiles tells (declared_by graph).edges before old new
    → IfKept tells graph.manifest.paths old new seen.seen.items (λ set now.
    HasPathsFor (declared_by graph).edges store targets before set → (files : List Moment) → AreAlike (declared_by graph).edges before set now files → So files)

-- IfStill, of a site: `world` tells its world, which a call found as `old` and left as `new`
abbrev pub IfStillAt : {S : Type 0} → Bool → (S → World) → S → S → Graph → Looks → ((List ℕ → Bool) → List Moment → Type 0) → Type 0
IfStillAt tells world old new graph seen So = IfStill tells graph (world old) (world new) seen So

-- so it is of what is answered, where something is
abbrev pub StillFinds : {S X E : Type 0} → Bool → (S → World) → S → S → Graph → Looks → Result X E → (X → (List ℕ → Bool) → List Moment → Type 0) → Type 0
StillFinds tells world old new graph seen result So = IfOk result (λ found. IfStillAt tells world old new graph seen (So found))

-- what is said of the records that are known, of the targets and of the steps so far
abbrev pub OfSteps : (Store → List (List ℕ) → List Step → Type 0) → Type 0
OfSteps P = (store : Store) (targets : List (List ℕ)) (before : List Step) → P store targets before

-- IfQuiet, of a site
abbrev pub IfQuietAt : {S : Type 0} → Bool → (S → World) → S → S → Graph → Store → List (List ℕ) → List Step → Looks → (List Moment → Type 0) → Type 0
IfQuietAt tells world old new graph store targets before seen So = IfQuiet tells graph store targets before (world old) (world new) seen So
