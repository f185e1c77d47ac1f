-- Which paths stand in a set, told by the last round in which each was put in.
use Rattle.std.specs.Prelude.{◌≡◌, ◌<◌, ◌≤◌, ◌==◌, ℕ, List, get_or}
use Rattle.model.specs.Graph.{has_number}
use Rattle.graph.specs.Held.{StandOnce}

-- a path stands in the set, once, where its round is the present one; none has a later one
pub record AreOfRound (paths rounds : List ℕ) (round : ℕ) : Type 0 where
  pub some : 0 < round
  pub past : (p : ℕ) → get_or rounds p 0 ≤ round
  pub held : (p : ℕ) → has_number paths p ≡ (get_or rounds p 0 == round)
  pub once : StandOnce paths
