-- What is settled.
use Rattle.std.proofs.Common.{◌≡◌, ℕ, true, List, sym, ◌∙◌}
use Rattle.std.proofs.lemmas.Bool.{true≢false}
use Rattle.model.specs.declared.graph.Edge.{Edge}
use Rattle.model.specs.Graph.{has_number, IsCommand}
use Rattle.model.specs.Schedule.{IsSettled, Done, Alias}

-- what is settled stays so where more is done
pub settled_more : (edges : List Edge) (few many : List ℕ) → ((j : ℕ) → has_number few j ≡ true → has_number many j ≡ true) → (i : ℕ) → IsSettled edges few i → IsSettled edges many i
settled_more edges few many more i (Done _ command done) = Done i command (more i done)
settled_more edges few many more i (Alias _ phony below) = Alias i phony (λ p j h is. settled_more edges few many more j (below p j h is))

pub settled_command : (edges : List Edge) (done : List ℕ) (i : ℕ) → IsCommand edges i → IsSettled edges done i → has_number done i ≡ true
settled_command edges done i command (Done _ _ is) = is
settled_command edges done i command (Alias _ phony below) = absurd (true≢false (sym phony ∙ command))
