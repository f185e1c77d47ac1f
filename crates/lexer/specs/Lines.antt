-- The lines of a build file, and the blocks that they make (manual: "Lexical syntax").
use Rattle.std.specs.Prelude.{◌≡◌, ◌≢◌, ℕ, ◌+◌, ◌<◌, ◌≤◌, Bool, true, false, List, [], ◌∷◌, ◌++◌, ◌⊎◌, ◌==◌, ◌||◌, Option, None, Some, option_map, length}
use Rattle.std.specs.List.{flat_map}
use Rattle.std.specs.Option.{option_to_list}
use Rattle.lexer.specs.declared.characters.Class.TheVariants as class
use Rattle.lexer.specs.declared.fault.Fault.{Fault}
use Rattle.lexer.specs.declared.fault.FaultKind.TheVariants.{TooLarge, Unexpected}
use Rattle.lexer.specs.declared.cursor.TheConstants.{LIMIT}
use Rattle.lexer.specs.declared.stop.Stop.{Stop}
use Rattle.lexer.specs.declared.stop.Stop.TheVariants.{Memory, Found}
use Rattle.lexer.specs.Characters.{behind_run}
use Rattle.lexer.specs.Grammar.{Outcome, Grammar, Is, Give, Then, Either, AreInRow}
use Rattle.lexer.specs.Grammar.Outcome.{Reached, Broken}
use Rattle.lexer.specs.Places.{line_feeds}
use Rattle.lexer.specs.Said.{Form, Said}
use Rattle.lexer.specs.Said.Form.{binding, block_binding, rule, build, pool, defaults, includes, subninja}
use Rattle.lexer.specs.Tokens.{line_end}
use Rattle.lexer.specs.Values.{Blanks}
use Rattle.lexer.specs.Statements.{OfStatement, OfBlock}

abbrev pub begins_with_space : List ℕ → Bool
begins_with_space [] = false
begins_with_space (b ∷ bytes) = b == 32

-- a line that goes on so, behind its blanks, is blank or a comment
abbrev pub says_nothing : List ℕ → Bool
says_nothing [] = true
says_nothing (b ∷ bytes) = b == 10 || b == 13 || b == 35

abbrev pub comment : List ℕ → Outcome (Unit {0})
comment bytes = Reached tt (behind_run class.Comment bytes)

abbrev pub Nothing : Grammar (Option Form)
Nothing = Then (Is comment) (λ _. Then (Is line_end) (λ _. Give None))

abbrev pub Something : Grammar Form → Grammar (Option Form)
Something One = Then One (λ form. Give (Some form))

-- a line of a block where no block is open
abbrev pub outside : List ℕ → Outcome (Option Form)
outside bytes = Broken Unexpected bytes

-- what a line says behind its blanks, where `inside` says whether it may belong to a block
abbrev pub Content : Bool → Bool → Grammar (Option Form)
Content inside indented bytes =
    Either (says_nothing bytes) Nothing (Either indented (Either inside (Something OfBlock) (Is outside)) (Something OfStatement)) bytes

-- a line that begins with a space belongs to a block, unless it says nothing
abbrev pub OfLine : Bool → Grammar (Option Form)
OfLine inside bytes = Then Blanks (λ _. Content inside (begins_with_space bytes)) bytes

-- a statement behind which lines of a block may stand
abbrev pub opens : Form → Bool
opens (binding name value) = false
opens (block_binding name value) = true
opens (rule name) = true
opens (build line) = true
opens (pool name) = true
opens (defaults paths) = false
opens (includes path) = false
opens (subninja path) = false

-- blank lines and comments do not end a block
abbrev pub inside_behind : Bool → Option Form → Bool
inside_behind inside None = inside
inside_behind inside (Some form) = opens form

-- ---- the whole text

-- the beginning of a line: its number, whether a block is open, and the text from there on
pub record Place : Type 0 where
  pub number : ℕ
  pub inside : Bool
  pub text : List ℕ

abbrev pub first_place : List ℕ → Place
first_place text = record { number = 1; inside = false; text = text }

-- the line there, and the place of the next one
pub record IsLine (said : Option Said) (before after : Place) : Type 0 where
  pub taken : List ℕ
  pub form : Option Form
  pub begins : before.text ≢ []
  pub spelled : before.text ≡ taken ++ after.text
  pub reads : OfLine before.inside before.text (Reached form after.text)
  pub said_is : said ≡ option_map (λ x. record { number = before.number; form = x }) form
  pub number_is : after.number ≡ before.number + line_feeds taken
  pub inside_is : after.inside ≡ inside_behind before.inside form

-- the line there has a fault, in the line of the place where it is stuck
pub record IsFaulty (fault : Fault) (place : Place) : Type 0 where
  pub taken : List ℕ
  pub rest : List ℕ
  pub begins : place.text ≢ []
  pub spelled : place.text ≡ taken ++ rest
  pub reads : OfLine place.inside place.text (Broken fault.kind rest)
  pub line_is : fault.line ≡ place.number + line_feeds taken

abbrev pub IsStop : Option Fault → Place → Type 0
IsStop None place = place.text ≡ []
IsStop (Some fault) place = IsFaulty fault place

-- the statements up to the end of the text or the first fault
pub record AreLines (text : List ℕ) (said : List Said) (fault : Option Fault) : Type 0 where
  pub all : List (Option Said)
  pub stop : Place
  pub row : AreInRow IsLine all (first_place text) stop
  pub stops : IsStop fault stop
  pub said_is : said ≡ flat_map option_to_list all

abbrev pub too_large : Option Fault
too_large = Some (record { line = 1; kind = TooLarge })

-- what a text says: one past the limit is not read
abbrev pub IsRead : List ℕ → List Said → Option Fault → Type 0
IsRead text said fault = (length text ≤ LIMIT × AreLines text said fault) ⊎ (LIMIT < length text × (said ≡ []) × (fault ≡ too_large))

-- what stands when no more is read
abbrev pub StopsReading : List ℕ → List Said → Stop → Type 0
StopsReading text said Memory = Unit {0}
StopsReading text said (Found fault) = AreLines text said (Some fault)
