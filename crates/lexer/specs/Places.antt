-- Places in a text, and the lines in which they are.
use Rattle.std.specs.Prelude.{◌≡◌, ℕ, ◌+◌, List, ◌++◌, ◌==◌, count_by, Option, option_map}
use Rattle.lexer.specs.declared.cursor.Cursor.{Cursor}
use Rattle.lexer.specs.declared.fault.Fault.{Fault}
use Rattle.lexer.specs.declared.stop.Stop.{Stop}
use Rattle.lexer.specs.declared.stop.Stop.TheVariants.{Memory, Found}
use Rattle.lexer.specs.Grammar.{Outcome}
use Rattle.lexer.specs.Grammar.Outcome.{Reached, Broken}

abbrev pub line_feeds : List ℕ → ℕ
line_feeds = count_by (λ b. b == 10)

-- `after` is reached from `before` by reading on, and each line feed on the way begins a line
pub record IsBehind (before after : Cursor) : Type 0 where
  pub taken : List ℕ
  pub spelled : before.rest.now ≡ taken ++ after.rest.now
  pub line_is : after.line ≡ before.line + line_feeds taken

-- a grammar reads this value from one place up to the other
abbrev pub Reaches : {X : Type 0} → (List ℕ → Outcome X → Type 0) → Cursor → X → Cursor → Type 0
Reaches One before value after = One before.rest.now (Reached value after.rest.now)

-- from here a grammar finds the fault, in the line of the place where it is stuck
pub record IsStuck {X : Type 0} (One : List ℕ → Outcome X → Type 0) (before : Cursor) (fault : Fault) : Type 0 where
  pub taken : List ℕ
  pub rest : List ℕ
  pub spelled : before.rest.now ≡ taken ++ rest
  pub reads : One before.rest.now (Broken fault.kind rest)
  pub line_is : fault.line ≡ before.line + line_feeds taken

-- what a refused reading answers
abbrev pub Breaks : {X : Type 0} → (List ℕ → Outcome X → Type 0) → Cursor → Stop → Type 0
Breaks One before Memory = Unit {0}
Breaks One before (Found fault) = IsStuck One before fault

abbrev pub rest_of : Option Cursor → Option (List ℕ)
rest_of = option_map (λ place. place.rest.now)
