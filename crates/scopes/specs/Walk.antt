-- A walk along the names of a rule's texts.
use Rattle.std.specs.Prelude.{◌≡◌, ℕ, ◌+◌, ◌*◌, ◌||◌, not, Bool, true, List, [], ◌∷◌, reverse, length, if◌then◌else◌, Option, IsSome, String, string_bytes}
use Rattle.std.specs.declared.alloc.Global.{Global}
use Rattle.scopes.specs.declared.template.Template.{Template}
use Rattle.scopes.specs.declared.order.Walk.{Walk}
use Rattle.scopes.specs.Use.{opened, has, Names, IsOnTheWay, IsOrder}

module _ (opens : List ℕ → Option Template) where
  -- each of these, the last first, is named by the one behind it
  abbrev pub IsNamedInTurn : List (List ℕ) → Type 0
  IsNamedInTurn [] = Unit {0}
  IsNamedInTurn (name ∷ []) = Unit {0}
  IsNamedInTurn (name ∷ by ∷ others) = Names opens by name × IsNamedInTurn (by ∷ others)

  pub record IsWalkAt (asked : List ℕ) (stack order : List (List ℕ)) : Type 0 where
    pub in_turn : IsNamedInTurn (reverse stack)
    pub opened : (name : List ℕ) → has stack name ≡ true → IsSome (opens name)
    pub stacked : (name : List ℕ) → has stack name ≡ true → IsOnTheWay opens asked name
    pub listed : (name : List ℕ) → has order name ≡ true → IsOnTheWay opens asked name
    pub ordered : IsOrder opens [] order
    pub begun : IsSome (opens asked) → (has stack asked || has order asked) ≡ true

-- the walk stands between two steps
abbrev pub IsWalk : Walk → Type 0
IsWalk walk = IsWalkAt (opened walk.at.now) walk.asked.now walk.stack.items walk.order.items

abbrev pub is_unseen : List (List ℕ) → List (List ℕ) → List ℕ → Bool
is_unseen stack order name = not (has stack name || has order name)

-- how many names of the rule's texts pass the test
abbrev pub count_names : (List ℕ → Bool) → List (String Global × Template) → ℕ
count_names test [] = 0
count_names test (e ∷ es) = (if test (string_bytes e.0) then 1 else 0) + count_names test es

-- what the walk has still to do
abbrev pub work : Walk → ℕ
work walk = 2 * count_names (is_unseen walk.stack.items walk.order.items) walk.at.now.rule.now.variables.entries + length walk.stack.items
