-- Where edges stand in an order.
use Rattle.std.specs.Prelude.{◌≡◌, ℕ, ◌<◌, true, List, length, get_or}
use Rattle.model.specs.Graph.{has_number}

-- the place at which the edge stands
abbrev pub place_in : List ℕ → ℕ → ℕ
place_in places e = get_or places e 0

-- each edge of the order stands at its place
abbrev pub ArePlaces : List ℕ → List ℕ → Type 0
ArePlaces order places = (e : ℕ) → has_number order e ≡ true → (place_in places e < length order) × (get_or order (place_in places e) 0 ≡ e)
