-- What the program leaves alone while a command runs. The premise on what commands leave supposes nothing of the program, so the
-- program itself has to keep to this: one that removed a depfile before its command has ended would break that premise.
use Rattle.std.specs.Prelude.{◌≡◌, ℕ, true, List, ◌∷◌, ◌++◌, Option}
use Rattle.model.specs.declared.event.Moment.{Moment}
use Rattle.model.specs.declared.event.Moment.TheVariants.{Wrote}
use Rattle.model.specs.declared.event.Writer.TheVariants.{Program}
use Rattle.model.specs.declared.graph.Edge.{Edge}
use Rattle.model.specs.World.{runs, events_in}
use Rattle.model.specs.Graph.{edge_at}
use Rattle.model.specs.Premises.{SharesNone}

-- the path is neither the depfile nor the response file of edge i
abbrev pub IsNoFileOf : List Edge → ℕ → List ℕ → Type 0
IsNoFileOf edges i path = SharesNone (edge_at edges i).act.depfile path × SharesNone (edge_at edges i).act.response_path path

-- The program leaves the depfile and the response file of each command alone while it runs: it neither writes nor removes them. No
-- command ran at first.
abbrev pub AreLeftAlone : List Edge → List Moment → List Moment → Type 0
AreLeftAlone edges old new =
    (before after : List Moment) (path : List ℕ) (content : Option (List ℕ)) (stamp : ℕ) → new ≡ old ++ (before ++ Wrote Program path content stamp ∷ after)
    → (i : ℕ) → runs i (events_in before) ≡ true → IsNoFileOf edges i path
