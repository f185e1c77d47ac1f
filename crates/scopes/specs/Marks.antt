-- Sets of keys of names, by which it is told at a glance that a name is bound nowhere.
use Rattle.std.specs.Prelude.{◌≡◌, ℕ, ◌+◌, ◌*◌, ◌%◌, List, [], ◌∷◌, length, slice_get, Option, Some, IsSome}
use Rattle.std.specs.Int.{bit_at}
use Rattle.scopes.specs.declared.marks.Marks.{Marks}
use Rattle.scopes.specs.declared.all_scopes.Scopes.{Scopes}
use Rattle.scopes.specs.declared.usage.Use.{Use}
use Rattle.scopes.specs.Block.{block_value}
use Rattle.scopes.specs.Rule.{template_of}
use Rattle.scopes.specs.Moves.{value_at_end}
use Rattle.scopes.specs.Scopes.{Always}

-- a name has one of 64 keys, by its length and its first byte
abbrev pub key : List ℕ → ℕ
key [] = 0
key (byte ∷ bytes) = (length (byte ∷ bytes) % 64 + 23 * byte) % 64

abbrev pub IsMarked : Marks → List ℕ → Type 0
IsMarked marks name = bit_at marks.keys (key name) ≡ 1

-- each name that stands for something is marked
abbrev pub AreMarked : {V : Type 0} → (List ℕ → Option V) → Marks → Type 0
AreMarked names marks = (name : List ℕ) → IsSome (names name) → IsMarked marks name

-- what is marked in the one is marked in the other
abbrev pub AreAmong : Marks → Marks → Type 0
AreAmong old new = (k : ℕ) → bit_at old.keys k ≡ 1 → bit_at new.keys k ≡ 1

-- each name is marked that the scope with this number, or one around it, binds, whatever was done to the scopes
abbrev pub IsOfScope : Scopes → ℕ → Marks → Type 0
IsOfScope scopes scope marks = Always scopes (λ past. AreMarked (value_at_end past scope) marks)

-- so it is of each scope
abbrev pub AreOfScopes : Scopes → List Marks → Type 0
AreOfScopes scopes all = (scope : ℕ) (marks : Marks) → slice_get all scope ≡ Some marks → IsOfScope scopes scope marks

-- each name is marked that is bound where the rule is used: in the block, in the rule, or in the scope
pub record IsOfUse (scopes : Scopes) (at : Use) (marks : Marks) : Type 0 where
  pub block : AreMarked (block_value at.block.now) marks
  pub rule : AreMarked (template_of at.rule.now) marks
  pub scope : IsOfScope scopes at.scope marks
