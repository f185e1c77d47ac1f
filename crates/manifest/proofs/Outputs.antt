-- A build line that was read has an output.
use Rattle.std.proofs.Common.{◌≡◌, ◌≢◌, ℕ, Bool, true, false, List, [], ◌∷◌, ◌++◌, inl, inr, Option, Some, None, sym, subst}
use Rattle.std.specs.Prelude.{option_map}
use Rattle.std.specs.List.{flat_map}
use Rattle.std.specs.Option.{option_to_list}
use Rattle.lexer.specs.declared.fault.Fault.{Fault}
use Rattle.lexer.specs.declared.forms.Keyword.{Keyword}
use Rattle.lexer.specs.declared.forms.Keyword.TheVariants as keyword
use Rattle.lexer.specs.declared.tokens.Mark.TheVariants.{Bar}
use Rattle.lexer.specs.Grammar.{Outcome, Is, Give, Then, Either, AreInRow}
use Rattle.lexer.specs.Grammar.Outcome.{Reached}
use Rattle.lexer.specs.Grammar.Then.{goes_on}
use Rattle.lexer.specs.Lines.{Place, first_place, IsLine, IsRead, OfLine, Content, Nothing, Something, comment, outside, says_nothing, begins_with_space}
use Rattle.lexer.specs.Said.{Fragments, Form, Said}
use Rattle.lexer.specs.Said.Form.{build}
use Rattle.lexer.specs.Statements.{Bound, NameAlone, PathAlone, DefaultPaths, Marked, Outputs, OfRule, Inputs, build_form, BuildPaths, BehindWord, OfStatement, OfBlock, some_of, keyword_of}
use Rattle.lexer.specs.Tokens.{line_end, word_end, name}
use Rattle.lexer.specs.Values.{Blanks, Paths}
use Rattle.manifest.specs.Held.{HasOutput}
use Rattle.manifest.specs.Made.{FormHasOutput, HaveOutputs}

-- ---- what holds of each value that a grammar reaches

abbrev Leads : {X : Type 0} → (X → Type 0) → (List ℕ → Outcome X → Type 0) → Type 0
Leads {X = X} P One = (bytes : List ℕ) (value : X) (rest : List ℕ) → One bytes (Reached value rest) → P value

give_leads : {X : Type 0} (P : X → Type 0) (given : X) → P given → Leads P (Give given)
give_leads P given holds bytes value rest e = let same : value ≡ given = cc in subst P (sym same) holds

then_leads : {X Y : Type 0} (Q : X → Type 0) (P : Y → Type 0) (First : List ℕ → Outcome X → Type 0) (Next : X → List ℕ → Outcome Y → Type 0)
    → Leads Q First → ((x : X) → Q x → Leads P (Next x)) → Leads P (Then First Next)
then_leads Q P First Next one next bytes value rest (goes_on {value = x} {next = behind} first more) = next x (one bytes x behind first) behind value rest more

-- nothing is said of the first
then_next : {X Y : Type 0} (P : Y → Type 0) (First : List ℕ → Outcome X → Type 0) (Next : X → List ℕ → Outcome Y → Type 0)
    → ((x : X) → Leads P (Next x)) → Leads P (Then First Next)
then_next P First Next next = then_leads (λ _. Unit {0}) P First Next (λ _ _ _ _. tt) (λ x _. next x)

either_leads : {X : Type 0} (P : X → Type 0) (test : Bool) (First Second : List ℕ → Outcome X → Type 0) → Leads P First → Leads P Second → Leads P (Either test First Second)
either_leads P true First Second one two = one
either_leads P false First Second one two = two

-- ---- build lines

some_leads : (paths : List Fragments) → Leads (λ _. paths ≢ []) (Is (some_of paths))
some_leads [] bytes value rest e = absurd (cc)
some_leads (path ∷ paths) bytes value rest e = λ none. cc

abbrev IsSome : List Fragments × List Fragments → Type 0
IsSome outputs = outputs.0 ++ outputs.1 ≢ []

outputs_some : Leads IsSome Outputs
outputs_some =
    then_next IsSome Paths _ (λ explicit. then_next IsSome (Marked Bar) _ (λ implicit.
    then_leads (λ _. explicit ++ implicit ≢ []) IsSome (Is (some_of (explicit ++ implicit))) _ (some_leads (explicit ++ implicit)) (λ _ some. give_leads IsSome (explicit, implicit) some)))

build_output : Leads HasOutput BuildPaths
build_output =
    then_next HasOutput (Is word_end) _ (λ _. then_leads IsSome HasOutput Outputs _ outputs_some (λ outputs some. then_next HasOutput OfRule _ (λ rule_name.
    then_next HasOutput Inputs _ (λ inputs. then_next HasOutput (Is line_end) _ (λ _. give_leads HasOutput (build_form outputs rule_name inputs) some)))))

behind_output : (word_kind : Keyword) (word : List ℕ) → Leads FormHasOutput (BehindWord word_kind word)
behind_output keyword.Rule word = then_next FormHasOutput NameAlone _ (λ named. give_leads FormHasOutput _ tt)
behind_output keyword.Build word = then_leads HasOutput FormHasOutput BuildPaths _ build_output (λ line some. give_leads FormHasOutput (build line) some)
behind_output keyword.Pool word = then_next FormHasOutput NameAlone _ (λ named. give_leads FormHasOutput _ tt)
behind_output keyword.Default word = then_next FormHasOutput DefaultPaths _ (λ paths. give_leads FormHasOutput _ tt)
behind_output keyword.Include word = then_next FormHasOutput PathAlone _ (λ path. give_leads FormHasOutput _ tt)
behind_output keyword.Subninja word = then_next FormHasOutput PathAlone _ (λ path. give_leads FormHasOutput _ tt)
behind_output keyword.Other word = then_next FormHasOutput Bound _ (λ value. give_leads FormHasOutput _ tt)

-- ---- lines

abbrev OptionHasOutput : Option Form → Type 0
OptionHasOutput None = Unit {0}
OptionHasOutput (Some form) = FormHasOutput form

something_output : (One : List ℕ → Outcome Form → Type 0) → Leads FormHasOutput One → Leads OptionHasOutput (Something One)
something_output One leads = then_leads FormHasOutput OptionHasOutput One _ leads (λ form holds. give_leads OptionHasOutput (Some form) holds)

nothing_output : Leads OptionHasOutput Nothing
nothing_output = then_next OptionHasOutput (Is comment) _ (λ _. then_next OptionHasOutput (Is line_end) _ (λ _. give_leads OptionHasOutput None tt))

outside_output : Leads OptionHasOutput (Is outside)
outside_output bytes value rest e = absurd (cc)

block_output : Leads FormHasOutput OfBlock
block_output = then_next FormHasOutput (Is name) _ (λ word. then_next FormHasOutput Bound _ (λ value. give_leads FormHasOutput _ tt))

statement_output : Leads FormHasOutput OfStatement
statement_output = then_next FormHasOutput (Is name) _ (λ word. behind_output (keyword_of word) word)

content_output : (inside indented : Bool) → Leads OptionHasOutput (Content inside indented)
content_output inside indented bytes =
    either_leads OptionHasOutput (says_nothing bytes) Nothing _ nothing_output
    (either_leads OptionHasOutput indented _ _ (either_leads OptionHasOutput inside _ _ (something_output OfBlock block_output) outside_output) (something_output OfStatement statement_output))
    bytes

line_output : (inside : Bool) → Leads OptionHasOutput (OfLine inside)
line_output inside bytes = then_next OptionHasOutput Blanks _ (λ _. content_output inside (begins_with_space bytes)) bytes

said_output : (said : Said) (number : ℕ) (form : Option Form) → Some said ≡ option_map (λ (x : Form). record { number = number; form = x }) form → OptionHasOutput form → FormHasOutput said.form
said_output said number None e holds = absurd (cc)
said_output said number (Some form) e holds = let same : said ≡ record { number = number; form = form } = cc in subst (λ (s : Said). FormHasOutput s.form) (sym same) holds

row_output : (all : List (Option Said)) (before after : Place) → AreInRow IsLine all before after → HaveOutputs (flat_map option_to_list all)
row_output [] before after row = tt
row_output (None ∷ all) before after row = row_output all row.0 after row.2
row_output (Some said ∷ all) before after row =
    let line = row.1 in
    (said_output said before.number line.form line.said_is (line_output before.inside before.text line.form row.0.text line.reads), row_output all row.0 after row.2)

-- the statements of a text that was read
pub have_outputs : (text : List ℕ) (said : List Said) (fault : Option Fault) → IsRead text said fault → HaveOutputs said
have_outputs text said fault (inl read) = let lines = read.1 in subst HaveOutputs (sym lines.said_is) (row_output lines.all (first_place text) lines.stop lines.row)
have_outputs text said fault (inr none) = subst HaveOutputs (sym none.1) tt
