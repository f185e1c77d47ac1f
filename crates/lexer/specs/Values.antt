-- Spaces, values and paths (manual: "Lexical syntax").
use Rattle.std.specs.Prelude.{◌≡◌, ℕ, Bool, not, List, Option, None, Some}
use Rattle.std.specs.List.{flat_map}
use Rattle.std.specs.Option.{option_to_list}
use Rattle.lexer.specs.declared.characters.Class.{Class}
use Rattle.lexer.specs.declared.characters.Class.TheVariants as class
use Rattle.lexer.specs.Characters.{behind_run}
use Rattle.lexer.specs.Grammar.{Grammar, Is, Give, Then, Many}
use Rattle.lexer.specs.Grammar.Outcome.{Reached, Broken}
use Rattle.lexer.specs.Said.{Fragment, Fragments}
use Rattle.lexer.specs.Tokens.{join, piece, ends, begins_path}

-- spaces, of which there may be none, and joins between them
pub data AreBlanks : List ℕ → List ℕ → Type 0 where
  last : {bytes rest : List ℕ} → behind_run class.Space bytes ≡ rest → join rest ≡ None → AreBlanks bytes rest
  more : {bytes next rest : List ℕ} → join (behind_run class.Space bytes) ≡ Some next → AreBlanks next rest → AreBlanks bytes rest

abbrev pub Blanks : Grammar (Unit {0})
Blanks bytes (Reached value rest) = AreBlanks bytes rest
Blanks bytes (Broken kind rest) = ⊥

-- what the pieces stand for: joins stand for nothing
abbrev pub joined : List (Option Fragment) → Fragments
joined = flat_map option_to_list

-- a value goes as far as characters of values and escapes do, and so does a path with its own
abbrev pub Pieces : Class → Grammar Fragments
Pieces class = Then (Many (Is (piece class)) (ends class)) (λ all. Give (joined all))

abbrev pub OfValue : Grammar Fragments
OfValue = Pieces class.Value

abbrev pub OfPath : Grammar Fragments
OfPath = Pieces class.Path

abbrev pub PathAndBlanks : Grammar Fragments
PathAndBlanks = Then OfPath (λ path. Then Blanks (λ _. Give path))

abbrev pub ends_paths : List ℕ → Bool
ends_paths bytes = not (begins_path bytes)

-- all paths that stand one behind another, of which there may be none
abbrev pub Paths : Grammar (List Fragments)
Paths = Then Blanks (λ _. Many PathAndBlanks ends_paths)
