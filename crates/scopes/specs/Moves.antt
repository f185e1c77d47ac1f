-- What was done to scopes, the latest first, and what a name then says: one looks backwards (manual: "Evaluation and
-- scoping"). An included file's statements stand where it is included.
use Rattle.std.specs.Prelude.{◌<◌, ℕ, zero, suc, ◌==◌, Bool, false, if◌then◌else◌, List, [], ◌∷◌, drop, length, Option, None, Some, bytes_eq}
use Rattle.scopes.specs.declared.template.Rule.{Rule}

pub data Move : Type 0 where
  Bind : List ℕ → List ℕ → Move
  DeclareRule : List ℕ → Rule → Move
  Enter : Move
  Leave : Move

-- what a move says of a name: its value as a variable, and its rule
abbrev pub variable : List ℕ → Move → Option (List ℕ)
variable name (Bind bound value) = if bytes_eq bound name then Some value else None
variable name (DeclareRule declared rule) = None
variable name Enter = None
variable name Leave = None

abbrev pub rule_named : List ℕ → Move → Option Rule
rule_named name (Bind bound value) = None
rule_named name (DeclareRule declared rule) = if bytes_eq declared name then Some rule else None
rule_named name Enter = None
rule_named name Leave = None

module _ {V : Type 0} where
  abbrev pub or_else : Option V → Option V → Option V
  or_else None other = other
  or_else (Some value) other = Some value

  -- The last move that says something, in the scope that is open now; failing that, in the scope in which it was entered,
  -- before it was. So many scopes that were left again are to be passed over first.
  abbrev pub last_said : (Move → Option V) → ℕ → List Move → Option V
  last_said says left [] = None
  last_said says left (Leave ∷ past) = last_said says (suc left) past
  last_said says zero (Enter ∷ past) = last_said says zero past
  last_said says (suc left) (Enter ∷ past) = last_said says left past
  last_said says zero (Bind name value ∷ past) = or_else (says (Bind name value)) (last_said says zero past)
  last_said says (suc left) (Bind name value ∷ past) = last_said says (suc left) past
  last_said says zero (DeclareRule name rule ∷ past) = or_else (says (DeclareRule name rule)) (last_said says zero past)
  last_said says (suc left) (DeclareRule name rule ∷ past) = last_said says (suc left) past

-- the value of a variable at this place, and the rule of this name
abbrev pub value_at : List Move → List ℕ → Option (List ℕ)
value_at past name = last_said (variable name) zero past

abbrev pub rule_at : List Move → List ℕ → Option Rule
rule_at past name = last_said (rule_named name) zero past

-- ---- at the end

-- scopes have numbers in the order in which they are entered; the outermost has 0
abbrev pub entered : List Move → ℕ
entered [] = 0
entered (Enter ∷ past) = suc (entered past)
entered (Leave ∷ past) = entered past
entered (Bind name value ∷ past) = entered past
entered (DeclareRule name rule ∷ past) = entered past

-- the open scopes, the innermost first
abbrev pub open_scopes : List Move → List ℕ
open_scopes [] = 0 ∷ []
open_scopes (Enter ∷ past) = suc (entered past) ∷ open_scopes past
open_scopes (Leave ∷ past) = drop 1 (open_scopes past)
open_scopes (Bind name value ∷ past) = open_scopes past
open_scopes (DeclareRule name rule ∷ past) = open_scopes past

-- a scope and those that were open where it was entered
abbrev pub scopes_from : List Move → ℕ → List ℕ
scopes_from [] s = s ∷ []
scopes_from (Enter ∷ past) s = if s == suc (entered past) then s ∷ open_scopes past else scopes_from past s
scopes_from (Leave ∷ past) s = scopes_from past s
scopes_from (Bind name value ∷ past) s = scopes_from past s
scopes_from (DeclareRule name rule ∷ past) s = scopes_from past s

-- whether s is the first of these
abbrev pub begins_with : ℕ → List ℕ → Bool
begins_with s [] = false
begins_with s (t ∷ ts) = s == t

module _ {V : Type 0} where
  -- the last move in scope s that says something
  abbrev pub last_in : (Move → Option V) → List Move → ℕ → Option V
  last_in says [] s = None
  last_in says (Bind name value ∷ past) s = if begins_with s (open_scopes past) then or_else (says (Bind name value)) (last_in says past s) else last_in says past s
  last_in says (DeclareRule name rule ∷ past) s = if begins_with s (open_scopes past) then or_else (says (DeclareRule name rule)) (last_in says past s) else last_in says past s
  last_in says (Enter ∷ past) s = last_in says past s
  last_in says (Leave ∷ past) s = last_in says past s

  -- the first of these scopes in which something is said, each at its last place
  abbrev pub first_in : (Move → Option V) → List Move → List ℕ → Option V
  first_in says past [] = None
  first_in says past (s ∷ ss) = or_else (last_in says past s) (first_in says past ss)

-- the value of a variable in scope s, this scope and those around it taken at their last places
abbrev pub value_at_end : List Move → ℕ → List ℕ → Option (List ℕ)
value_at_end past s name = first_in (variable name) past (scopes_from past s)

abbrev pub rule_at_end : List Move → ℕ → List ℕ → Option Rule
rule_at_end past s name = first_in (rule_named name) past (scopes_from past s)

-- no scope is left that was not entered
abbrev pub IsLawful : List Move → Type 0
IsLawful [] = Unit {0}
IsLawful (Leave ∷ past) = (1 < length (open_scopes past)) × IsLawful past
IsLawful (Enter ∷ past) = IsLawful past
IsLawful (Bind name value ∷ past) = IsLawful past
IsLawful (DeclareRule name rule ∷ past) = IsLawful past
