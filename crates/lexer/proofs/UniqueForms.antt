-- Statements have at most one reading.
use Rattle.std.proofs.Common.{ℕ, List, [], ◌++◌, Option, Some, None}
use Rattle.lexer.specs.declared.forms.Keyword.{Keyword}
use Rattle.lexer.specs.declared.forms.Keyword.TheVariants as keyword
use Rattle.lexer.specs.declared.tokens.Mark.{Mark}
use Rattle.lexer.specs.declared.tokens.Mark.TheVariants.{Bar, DoubleBar, BarAt}
use Rattle.lexer.specs.Grammar.{Outcome, Is, Give, Then, IsUnique}
use Rattle.lexer.specs.Said.Form.{binding, block_binding, rule, build, pool, defaults, includes, subninja}
use Rattle.lexer.specs.Tokens.{newline, one, line_end, name, begins_path, word_end, mark, is_mark}
use Rattle.lexer.specs.Values.{Blanks, OfValue, OfPath, Paths}
use Rattle.lexer.specs.Statements.{LineRest, Bound, NameAlone, missing_path, SomePath, PathAlone, some_of, DefaultPaths, MarkedBy, Marked, Outputs, OfRule, Inputs, build_form, BuildPaths, keyword_of, BehindWord, OfStatement, OfBlock}
use Rattle.lexer.proofs.Reading.{is_unique, give_unique, then_unique, either_unique}
use Rattle.lexer.proofs.Unique.{blanks_unique, value_unique, path_unique, paths_unique}

-- what is computed, and then the rest
pub is_then : {X Y : Type 0} (reading : List ℕ → Outcome X) (Next : X → List ℕ → Outcome Y → Type 0) → ((x : X) → IsUnique (Next x)) → IsUnique (Then (Is reading) Next)
is_then reading Next next = then_unique (Is reading) Next (is_unique reading) next

-- blanks, and then the rest
blanks_then : {Y : Type 0} (Next : Unit {0} → List ℕ → Outcome Y → Type 0) → ((x : Unit {0}) → IsUnique (Next x)) → IsUnique (Then Blanks Next)
blanks_then Next next = then_unique Blanks Next blanks_unique next

-- the line's end, and what is given there
end_gives : {X : Type 0} (value : X) → IsUnique (Then (Is line_end) (λ _. Give value))
end_gives value = is_then line_end (λ _. Give value) (λ _. give_unique value)

-- what a reading is made into
then_gives : {X Y : Type 0} (First : List ℕ → Outcome X → Type 0) (made : X → Y) → IsUnique First → IsUnique (Then First (λ value. Give (made value)))
then_gives First made one = then_unique First (λ value. Give (made value)) one (λ value. give_unique (made value))

line_rest_unique : IsUnique LineRest
line_rest_unique = blanks_then (λ _. Is line_end) (λ _. is_unique line_end)

bound_unique : IsUnique Bound
bound_unique =
    blanks_then _ (λ _. is_then (one 61) _ (λ _. blanks_then _ (λ _. then_unique OfValue _ value_unique (λ value. end_gives value))))

name_alone_unique : IsUnique NameAlone
name_alone_unique = blanks_then _ (λ _. is_then name _ (λ word. then_unique LineRest _ line_rest_unique (λ _. give_unique word)))

some_path_unique : IsUnique SomePath
some_path_unique bytes a b first second =
    either_unique (begins_path bytes) OfPath (Is (λ place. missing_path place (newline place))) path_unique (is_unique (λ place. missing_path place (newline place))) bytes a b first second

path_alone_unique : IsUnique PathAlone
path_alone_unique =
    is_then word_end _ (λ _. blanks_then _ (λ _. then_unique SomePath _ some_path_unique (λ path. then_unique LineRest _ line_rest_unique (λ _. give_unique path))))

default_paths_unique : IsUnique DefaultPaths
default_paths_unique =
    is_then word_end _ (λ _. then_unique Paths _ paths_unique (λ paths. is_then (some_of paths) _ (λ _. end_gives paths)))

marked_by_unique : (wanted : Mark) (found : Option (Mark × List ℕ)) → IsUnique (MarkedBy wanted found)
marked_by_unique wanted None bytes a b first second = give_unique [] bytes a b first second
marked_by_unique wanted (Some found) bytes a b first second =
    either_unique (is_mark wanted found.0) (λ _. Paths found.1) (Give []) (λ _. paths_unique found.1) (give_unique []) bytes a b first second

marked_unique : (wanted : Mark) → IsUnique (Marked wanted)
marked_unique wanted bytes = marked_by_unique wanted (mark bytes) bytes

outputs_unique : IsUnique Outputs
outputs_unique =
    then_unique Paths _ paths_unique (λ explicit. then_unique (Marked Bar) _ (marked_unique Bar) (λ implicit. is_then (some_of (explicit ++ implicit)) _ (λ _. give_unique (explicit, implicit))))

of_rule_unique : IsUnique OfRule
of_rule_unique = is_then (one 58) _ (λ _. blanks_then _ (λ _. is_then name _ (λ word. is_then word_end _ (λ _. give_unique word))))

inputs_unique : IsUnique Inputs
inputs_unique =
    then_unique Paths _ paths_unique (λ explicit.
    then_unique (Marked Bar) _ (marked_unique Bar) (λ implicit.
    then_unique (Marked DoubleBar) _ (marked_unique DoubleBar) (λ order_only.
    then_unique (Marked BarAt) _ (marked_unique BarAt) (λ validations.
    give_unique (record { explicit = explicit; implicit = implicit; order_only = order_only; validations = validations })))))

build_paths_unique : IsUnique BuildPaths
build_paths_unique =
    is_then word_end _ (λ _. then_unique Outputs _ outputs_unique (λ outputs. then_unique OfRule _ of_rule_unique (λ rule_name. then_unique Inputs _ inputs_unique (λ inputs. end_gives (build_form outputs rule_name inputs)))))

behind_word_unique : (begun : Keyword) (word : List ℕ) → IsUnique (BehindWord begun word)
behind_word_unique keyword.Rule word = then_gives NameAlone rule name_alone_unique
behind_word_unique keyword.Build word = then_gives BuildPaths build build_paths_unique
behind_word_unique keyword.Pool word = then_gives NameAlone pool name_alone_unique
behind_word_unique keyword.Default word = then_gives DefaultPaths defaults default_paths_unique
behind_word_unique keyword.Include word = then_gives PathAlone includes path_alone_unique
behind_word_unique keyword.Subninja word = then_gives PathAlone subninja path_alone_unique
behind_word_unique keyword.Other word = then_gives Bound (binding word) bound_unique

pub of_statement_unique : IsUnique OfStatement
of_statement_unique = is_then name _ (λ word. behind_word_unique (keyword_of word) word)

pub of_block_unique : IsUnique OfBlock
of_block_unique = is_then name _ (λ word. then_gives Bound (block_binding word) bound_unique)
