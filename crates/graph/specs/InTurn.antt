-- What edges become by the statements that are chosen for them, one edge after the other.
use Rattle.std.specs.Prelude.{◌≡◌, ℕ, ◌<◌, Bool, true, All, map, length, List, [], ◌∷◌, slice_set, Option, Some, None, MatchOption}
use Rattle.model.specs.Graph.{has_number, Addition}
use Rattle.dyndep.specs.declared.addition.Addition.{Addition as Statement}
use Rattle.paths.specs.declared.line.Line.{Line}
use Rattle.paths.specs.declared.manifest.Action.{Action}
use Rattle.paths.specs.declared.manifest.Manifest.{Manifest}
use Rattle.paths.specs.Grown.{with_grown}
use Rattle.paths.specs.Lists.{line_at, line_outputs}
use Rattle.paths.specs.Shrunk.{with_shrunk}
use Rattle.graph.specs.declared.choice.Choice.{Choice}
use Rattle.graph.specs.declared.graph.Graph.{Graph}
use Rattle.graph.specs.declared.loaded.Gain.{Gain}
use Rattle.graph.specs.Chosen.{chosen_edges, choice_in, AreRising, IsWithin}
use Rattle.graph.specs.Extended.{addition_of}
use Rattle.graph.specs.Held.{maker_in, more_lists, pushed, StandOnce}
use Rattle.graph.specs.Making.{HaveClaimed}
use Rattle.graph.specs.Statements.{gain_at, action_at, action_with, AreChosen, IsGiven, NoneLacks, IsLowestLacking, IsLoadedManifest}

-- the lines, one of which has what its edge gains by the statement
abbrev pub lines_with : List Gain → List Line → ℕ → Option ℕ → List Line
lines_with gains lines e None = lines
lines_with gains lines e (Some k) = with_grown lines e (gain_at gains k).outputs (gain_at gains k).inputs

abbrev pub lines_given : List Gain → List Line → List Choice → List Line
lines_given gains lines [] = lines
lines_given gains lines (c ∷ cs) = lines_given gains (lines_with gains lines c.edge c.statement) cs

-- the lines, one of which loses what its edge gained
abbrev pub lines_without : List Gain → List Line → ℕ → Option ℕ → List Line
lines_without gains lines e None = lines
lines_without gains lines e (Some k) = with_shrunk lines e (length (gain_at gains k).outputs) (length (gain_at gains k).inputs)

abbrev pub lines_taken : List Gain → List Line → List Choice → List Line
lines_taken gains lines [] = lines
lines_taken gains lines (c ∷ cs) = lines_taken gains (lines_without gains lines c.edge c.statement) cs

-- these lines are those of before, with what edges of the graph gained
pub record AreGivenTo (gains : List Gain) (chosen : List Choice) (before now : List Line) : Type 0 where
  pub rising : AreRising (chosen_edges chosen)
  pub within : All (IsWithin (length before) (length gains)) chosen
  pub are : now ≡ lines_given gains before chosen

-- what edges do by their statements
abbrev pub actions_given : List Addition → List Action → List Choice → List Action
actions_given additions actions [] = actions
actions_given additions actions (c ∷ cs) = actions_given additions (slice_set actions c.edge (action_with additions (action_at actions c.edge) c.statement)) cs

-- the lists of paths, of which those of inputs that its edge gains have it behind the others
abbrev pub users_with : List Gain → List (List ℕ) → ℕ → Option ℕ → List (List ℕ)
users_with gains users e None = users
users_with gains users e (Some k) = pushed users (gain_at gains k).inputs e

abbrev pub users_given : List Gain → List (List ℕ) → List Choice → List (List ℕ)
users_given gains users [] = users
users_given gains users (c ∷ cs) = users_given gains (users_with gains users c.edge c.statement) cs

-- the inputs that statements add are below this
abbrev pub AreInputsBelow : ℕ → List Gain → Type 0
AreInputsBelow count gains = (k p : ℕ) → has_number (gain_at gains k).inputs p ≡ true → p < count

-- ---- makers

-- each output of these lines has its edge as its maker, which makes it once
pub record AreMakersIn (lines : List Line) (makers : List (Option ℕ)) : Type 0 where
  pub made : (p e : ℕ) → maker_in makers p ≡ Some e → has_number (line_outputs (line_at lines e)) p ≡ true
  pub all : (p e : ℕ) → has_number (line_outputs (line_at lines e)) p ≡ true → maker_in makers p ≡ Some e
  pub once : (e : ℕ) → StandOnce (line_outputs (line_at lines e))

-- what the edge gains by the statement had no maker, and has it as its maker
abbrev pub ClaimsWith : List Gain → List (Option ℕ) → List (Option ℕ) → ℕ → Option ℕ → Type 0
ClaimsWith gains old new e None = new ≡ old
ClaimsWith gains old new e (Some k) = HaveClaimed old new (gain_at gains k).outputs e

-- the outputs that statements add are below this
abbrev pub AreOutputsBelow : ℕ → List Gain → Type 0
AreOutputsBelow count gains = (k p : ℕ) → has_number (gain_at gains k).outputs p ≡ true → p < count

-- the lines are those of before with what edges gained, and these were the makers
pub record AreGrownFrom (gains : List Gain) (chosen : List Choice) (makers : List (Option ℕ)) (lines : List Line) : Type 0 where
  pub before : List Line
  pub makers_are : AreMakersIn before makers
  pub within : All (IsWithin (length before) (length gains)) chosen
  pub are : lines ≡ lines_given gains before chosen

-- The edges that gain outputs have them as their maker, whatever the lines were whose makers these were.
abbrev pub ClaimsGains : List Gain → List Choice → List (Option ℕ) → List (Option ℕ) → Type 0
ClaimsGains gains chosen old new = (before : List Line) → All (IsWithin (length before) (length gains)) chosen → AreMakersIn before old → AreMakersIn (lines_given gains before chosen) new

-- the lists of so many paths as the manifest has, to which the edges that gain inputs were put
abbrev pub AreUsersGiven : List Gain → Manifest → List (List ℕ) → List Choice → List (List ℕ) → Type 0
AreUsersGiven gains manifest users chosen new = new ≡ users_given gains (more_lists users (length manifest.paths)) chosen

-- the manifest has what the statements say that were chosen
abbrev pub IsLoadedBy : Manifest → Manifest → List Statement → List Choice → Type 0
IsLoadedBy old new told chosen = IsLoadedManifest old new (map addition_of told) (choice_in chosen)

-- each edge that names the file has its statement, and each statement its edge
abbrev pub AreChosenBy : Graph → ℕ → List Statement → List Choice → Type 0
AreChosenBy graph file told chosen = AreChosen graph file (map addition_of told) (choice_in chosen)

-- they are edges of the graph, with places of these statements
abbrev pub AreWithinGraph : Graph → List Statement → List Choice → Type 0
AreWithinGraph graph told chosen = All (IsWithin (length graph.manifest.lines) (length told)) chosen

-- the statement of this place is given to its edge, or not
abbrev pub IsGivenTo : Bool → Option ℕ → ℕ → List Choice → List Choice → Type 0
IsGivenTo given owner place old new = IsGiven given owner place (choice_in old) (choice_in new)

-- the lowest edge that names the file and has no statement, if there is one
abbrev pub IsFirstLeft : Graph → ℕ → List Choice → Option ℕ → Type 0
IsFirstLeft graph file chosen first = MatchOption first (NoneLacks graph file (choice_in chosen)) (IsLowestLacking graph file (choice_in chosen))
