-- What edges gain by the statements that are chosen for them, and lose again.
use Rattle.std.specs.Prelude.{◌≡◌, ℕ, ◌+◌, ◌≤◌, true, false, List, [], ◌∷◌, ◌++◌, length, Option, None}
use Rattle.model.specs.Graph.{has_number}
use Rattle.graph.specs.declared.choice.Choice.{Choice}
use Rattle.graph.specs.declared.loaded.Gain.{Gain}
use Rattle.graph.specs.Fronts.{FrontsStay}
use Rattle.graph.specs.Held.{list_at, times, maker_in}
use Rattle.graph.specs.Statements.{gain_of}

-- how often edges gain the path as an input
abbrev pub gained_times : List Gain → List Choice → ℕ → ℕ
gained_times gains [] p = 0
gained_times gains (c ∷ cs) p = times (gain_of gains c.statement).inputs p + gained_times gains cs p

-- each list stands in front of the new one, which has a number more for each time that an edge gained the path
pub record HaveGrown (gains : List Gain) (chosen : List Choice) (old new : List (List ℕ)) : Type 0 where
  pub fronts : FrontsStay old new
  pub long : (p : ℕ) → length (list_at new p) ≡ length (list_at old p) + gained_times gains chosen p

-- the outputs that edges gain
abbrev pub gained_outputs : List Gain → List Choice → List ℕ
gained_outputs gains [] = []
gained_outputs gains (c ∷ cs) = (gain_of gains c.statement).outputs ++ gained_outputs gains cs

-- these paths had no maker, and of others nothing is changed
pub record HaveGained (paths : List ℕ) (old new : List (Option ℕ)) : Type 0 where
  pub longer : length old ≤ length new
  pub fresh : (p : ℕ) → has_number paths p ≡ true → maker_in old p ≡ None
  pub others : (p : ℕ) → has_number paths p ≡ false → maker_in new p ≡ maker_in old p

-- so it is of what edges gain
abbrev pub HaveGainedBy : List Gain → List Choice → List (Option ℕ) → List (Option ℕ) → Type 0
HaveGainedBy gains chosen old new = HaveGained (gained_outputs gains chosen) old new

-- these paths have no maker any more, and of others nothing is changed
pub record AreFreed (paths : List ℕ) (old new : List (Option ℕ)) : Type 0 where
  pub fits : length new ≡ length old
  pub gone : (p : ℕ) → has_number paths p ≡ true → maker_in new p ≡ None
  pub others : (p : ℕ) → has_number paths p ≡ false → maker_in new p ≡ maker_in old p
