use Rattle.std.proofs.Common.{◌≡◌, ℕ, ◌<◌, List, ◌++◌, length}
use Rattle.std.specs.List.{AllByRecursion}
use Rattle.graph.specs.Fronts.{AreCut}
use Rattle.graph.specs.Held.{pushed, times}
use Rattle.graph.proofs.users.Users.pop_all.Given as goal

abbrev pub invariant-loop-last : goal.invariant-loop-last
invariant-loop-last l = record {
  fits : length l.self ≡ length l.fn.self;
  within : AllByRecursion (λ p. p < length l.fn.self) l.left;
  behind : (done : List ℕ) × (l.fn.paths ≡ l.left ++ done) × AreCut (times done) l.fn.self l.self;
  popped : (users : List (List ℕ)) (edge : ℕ) → l.fn.self ≡ pushed users l.fn.paths edge → l.self ≡ pushed users l.left edge;
}

abbrev pub decreases-loop-last : goal.decreases-loop-last
decreases-loop-last l = length l.left
