-- What a line says, by its kind.
use Rattle.std.proofs.Common.{◌≡◌, ◌≢◌, ℕ, Bool, true, false, List, [], ◌∷◌, length, refl, subst, Option, Some}
use Rattle.std.specs.Prelude.{◌==◌}
use Rattle.lexer.specs.declared.cursor.Cursor.{Cursor}
use Rattle.lexer.specs.declared.stop.Stop.{Stop}
use Rattle.lexer.specs.Grammar.{Outcome, Give}
use Rattle.lexer.specs.Grammar.Outcome.{Reached}
use Rattle.lexer.specs.Grammar.Then.{goes_on}
use Rattle.lexer.specs.Places.{Breaks}
use Rattle.lexer.specs.Said.{Form}
use Rattle.lexer.specs.Values.{AreBlanks}
use Rattle.lexer.specs.Statements.{OfStatement, OfBlock}
use Rattle.lexer.specs.Lines.{begins_with_space, says_nothing, Nothing, Something, Content, OfLine}
use Rattle.lexer.proofs.Choices.{either_first, either_second}
use Rattle.lexer.proofs.Reading.{breaks_first}

pub content_nothing : (inside indented : Bool) (bytes : List ℕ) (outcome : Outcome (Option Form)) → says_nothing bytes ≡ true → Nothing bytes outcome → Content inside indented bytes outcome
content_nothing inside indented bytes outcome nothing reads = either_first (says_nothing bytes) _ _ bytes outcome nothing reads

pub content_statement : (inside indented : Bool) (bytes : List ℕ) (outcome : Outcome (Option Form)) → says_nothing bytes ≡ false → indented ≡ false → Something OfStatement bytes outcome → Content inside indented bytes outcome
content_statement inside indented bytes outcome something outer reads =
    either_second (says_nothing bytes) _ _ bytes outcome something (either_second indented _ _ bytes outcome outer reads)

pub content_block : (inside indented : Bool) (bytes : List ℕ) (outcome : Outcome (Option Form)) → says_nothing bytes ≡ false → indented ≡ true → inside ≡ true → Something OfBlock bytes outcome → Content inside indented bytes outcome
content_block inside indented bytes outcome something inner open_block reads =
    either_second (says_nothing bytes) _ _ bytes outcome something (either_first indented _ _ bytes outcome inner (either_first inside _ _ bytes outcome open_block reads))

pub some_form : (One : List ℕ → Outcome Form → Type 0) (bytes rest : List ℕ) (form : Form) → One bytes (Reached form rest) → Something One bytes (Reached (Some form) rest)
some_form One bytes rest form reads = goes_on {value = form} reads refl

pub breaks_some : (One : List ℕ → Outcome Form → Type 0) (a : Cursor) (stop : Stop) → Breaks One a stop → Breaks (Something One) a stop
breaks_some One a stop stops = breaks_first One (λ form. Give (Some form)) a stop stops

pub line_reads : (inside indented : Bool) (bytes rest : List ℕ) (outcome : Outcome (Option Form)) → AreBlanks bytes rest → indented ≡ begins_with_space bytes → Content inside indented rest outcome → OfLine inside bytes outcome
line_reads inside indented bytes rest outcome blanks same reads = goes_on {value = tt} blanks (subst (λ (i : Bool). Content inside i rest outcome) same reads)

-- something stands here
pub begins_there : (bytes : List ℕ) → (length bytes == 0) ≡ false → bytes ≢ []
begins_there [] e = absurd (cc)
begins_there (b ∷ bytes) e = λ same. cc
