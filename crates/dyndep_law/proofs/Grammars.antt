-- Under the grammar of lines each text says something, and each line takes something of it.
use Rattle.std.proofs.Common.{◌≡◌, ℕ, zero, suc, ◌<◌, ◌≤◌, Bool, true, false, not, List, [], ◌∷◌, ◌++◌, length, Option, Some, None, refl, sym, ◌∙◌, ap, arith}
use Rattle.std.specs.Prelude.{◌&&◌}
use Rattle.lexer.specs.declared.characters.Class.{Class}
use Rattle.lexer.specs.declared.characters.Class.TheVariants as class
use Rattle.lexer.specs.declared.tokens.Mark.{Mark}
use Rattle.lexer.specs.declared.tokens.Mark.TheVariants.{Bar, DoubleBar, BarAt}
use Rattle.lexer.specs.declared.forms.Keyword.{Keyword}
use Rattle.lexer.specs.declared.forms.Keyword.TheVariants as keyword
use Rattle.lexer.specs.Characters.{behind_run}
use Rattle.lexer.specs.Grammar.{Outcome, Is, Give, Then, Either, Many}
use Rattle.lexer.specs.Grammar.Outcome.{Reached}
use Rattle.lexer.specs.Said.{Fragments, Form}
use Rattle.lexer.specs.Said.Form.{binding, block_binding, rule, build, pool, defaults, includes, subninja}
use Rattle.lexer.specs.Tokens.{newline, join, piece, ends, one, line_end, name, begins_path, word_end, mark, is_mark}
use Rattle.lexer.specs.Values.{AreBlanks, Blanks, joined, Pieces, OfValue, OfPath, PathAndBlanks, ends_paths, Paths}
use Rattle.lexer.specs.Values.AreBlanks.{last, more}
use Rattle.lexer.specs.Statements.{LineRest, Bound, NameAlone, missing_path, SomePath, PathAlone, some_of, DefaultPaths, Marked, Outputs, OfRule, InputsForm, Inputs, build_form, BuildPaths, keyword_of, BehindWord, OfStatement, OfBlock}
use Rattle.lexer.specs.Lines.{begins_with_space, says_nothing, comment, Nothing, Something, outside, Content, OfLine}
use Rattle.dyndep_law.proofs.Answered.{Ends, ends_itself, ends_both, no_longer, Answer, Takes, Total, answers_more, takes_total, is_answered, give_total, then_up_to, then_answered, then_total, then_takes, either_total, bound, many_answered, many_total}
use Rattle.dyndep_law.proofs.Fronts.{behind_run_ends, join_behind, Fits, fits_answered, one_takes, line_end_fits, line_end_total, name_takes, word_end_total, piece_takes, mark_ends}

-- ---- blanks

record BlanksEnd (bytes : List ℕ) : Type 0 where
  rest : List ℕ
  are : AreBlanks bytes rest
  behind : Ends bytes rest

blanks_up_to : (fuel : ℕ) (bytes : List ℕ) → length bytes < fuel → BlanksEnd bytes
blanks_up_to zero bytes lt = absurd (omega (arith, lt))
blanks_up_to (suc fuel) bytes lt =
    by (join (behind_run class.Space bytes)) refl (λ next less. blanks_up_to fuel next (omega (arith, lt, less)))
  where
    by : (found : Option (List ℕ)) → join (behind_run class.Space bytes) ≡ found → ((next : List ℕ) → length next < length bytes → BlanksEnd next) → BlanksEnd bytes
    by None is others = record { rest = behind_run class.Space bytes; are = last refl is; behind = behind_run_ends class.Space bytes }
    by (Some next) is others =
        let here = behind_run_ends class.Space bytes in
        let joined = join_behind (behind_run class.Space bytes) next is in
        let within = no_longer here in
        let less = joined.shorter in
        let rest = others next (omega (arith, within, less)) in
        record { rest = rest.rest; are = more is rest.are; behind = ends_both here (ends_both joined.ends rest.behind) }

pub blanks_total : Total Blanks
blanks_total bytes =
    let found = blanks_up_to (suc (length bytes)) bytes (omega arith) in
    let within = no_longer found.behind in
    record { outcome = Reached tt found.rest; reads = found.are; ends = found.behind; under = omega (arith, within) }

-- ---- values and paths

-- a value or a path, which takes something where it does not end at once
pieces_answered : (of : Class) (bytes : List ℕ) → Answer (Pieces of) (bound (ends of bytes) bytes) bytes
pieces_answered of bytes =
    then_answered (Many (Is (piece of)) (ends of)) (λ all. Give (joined all)) (bound (ends of bytes) bytes) bytes
    (many_answered (Is (piece of)) (ends of) (λ text goes. piece_takes of text) bytes)
    (λ all. give_total (joined all))

pieces_total : (of : Class) → Total (Pieces of)
pieces_total of =
    then_total (Many (Is (piece of)) (ends of)) (λ all. Give (joined all))
    (many_total (Is (piece of)) (ends of) (λ text goes. piece_takes of text))
    (λ all. give_total (joined all))

first_of_both : (a b : Bool) → not (not a && b) ≡ false → a ≡ false
first_of_both true b is = let clash : true ≡ false = is in absurd (cc)
first_of_both false b is = refl

path_takes : (bytes : List ℕ) → ends_paths bytes ≡ false → Answer PathAndBlanks (length bytes) bytes
path_takes bytes begins = by (ends class.Path bytes) refl (pieces_answered class.Path bytes)
  where
    by : (is : Bool) → ends class.Path bytes ≡ is → Answer OfPath (bound (ends class.Path bytes) bytes) bytes → Answer PathAndBlanks (length bytes) bytes
    by true is path = absurd (let goes : ends class.Path bytes ≡ false = first_of_both (ends class.Path bytes) _ begins in let clash : true ≡ false = sym is ∙ goes in cc)
    by false is path =
        then_answered OfPath (λ value. Then Blanks (λ _. Give value)) (length bytes) bytes
        (record { outcome = path.outcome; reads = path.reads; ends = path.ends; under = rw (← ap (λ (b : Bool). bound b bytes) is) path.under })
        (λ value. then_total Blanks (λ _. Give value) blanks_total (λ _. give_total value))

paths_total : Total Paths
paths_total = then_total Blanks (λ _. Many PathAndBlanks ends_paths) blanks_total (λ _. many_total PathAndBlanks ends_paths path_takes)

-- ---- parts of statements

-- behind this part stands the end of the line, and then this is what it says
ends_line : {X : Type 0} (value : X) → Total (Then (Is line_end) (λ _. Give value))
ends_line value = then_total (Is line_end) (λ _. Give value) line_end_total (λ _. give_total value)

line_rest_total : Total LineRest
line_rest_total = then_total Blanks (λ _. Is line_end) blanks_total (λ _. line_end_total)

bound_total : Total Bound
bound_total =
    then_total Blanks (λ _. Then (Is (one 61)) (λ _. Then Blanks (λ _. Then OfValue (λ value. Then (Is line_end) (λ _. Give value))))) blanks_total (λ _.
    then_total (Is (one 61)) (λ _. Then Blanks (λ _. Then OfValue (λ value. Then (Is line_end) (λ _. Give value)))) (takes_total (Is (one 61)) (one_takes 61)) (λ _.
    then_total Blanks (λ _. Then OfValue (λ value. Then (Is line_end) (λ _. Give value))) blanks_total (λ _.
    then_total OfValue (λ value. Then (Is line_end) (λ _. Give value)) (pieces_total class.Value) (λ value. ends_line value))))

name_total : Total (Is name)
name_total = takes_total (Is name) name_takes

name_alone_total : Total NameAlone
name_alone_total =
    then_total Blanks (λ _. Then (Is name) (λ word. Then LineRest (λ _. Give word))) blanks_total (λ _.
    then_total (Is name) (λ word. Then LineRest (λ _. Give word)) name_total (λ word.
    then_total LineRest (λ _. Give word) line_rest_total (λ _. give_total word)))

missing_answered : (bytes : List ℕ) (found : Option (List ℕ)) → Fits (suc (length bytes)) bytes (missing_path bytes found)
missing_answered [] found = record { ends = ends_itself []; under = tt }
missing_answered (b ∷ bytes) (Some rest) = record { ends = ends_itself (b ∷ bytes); under = tt }
missing_answered (b ∷ bytes) None = record { ends = ends_itself (b ∷ bytes); under = tt }

some_path_total : Total SomePath
some_path_total = either_total begins_path OfPath (Is (λ place. missing_path place (newline place))) (pieces_total class.Path)
    (λ bytes. fits_answered (λ place. missing_path place (newline place)) (suc (length bytes)) bytes (missing_answered bytes (newline bytes)))

path_alone_total : Total PathAlone
path_alone_total =
    then_total (Is word_end) (λ _. Then Blanks (λ _. Then SomePath (λ path. Then LineRest (λ _. Give path)))) word_end_total (λ _.
    then_total Blanks (λ _. Then SomePath (λ path. Then LineRest (λ _. Give path))) blanks_total (λ _.
    then_total SomePath (λ path. Then LineRest (λ _. Give path)) some_path_total (λ path.
    then_total LineRest (λ _. Give path) line_rest_total (λ _. give_total path))))

some_of_total : (paths : List Fragments) → Total (Is (some_of paths))
some_of_total paths bytes = fits_answered (some_of paths) (suc (length bytes)) bytes (by paths)
  where
    by : (all : List Fragments) → Fits (suc (length bytes)) bytes (some_of all bytes)
    by [] = record { ends = ends_itself bytes; under = tt }
    by (path ∷ all) = record { ends = ends_itself bytes; under = omega arith }

default_paths_total : Total DefaultPaths
default_paths_total =
    then_total (Is word_end) (λ _. Then Paths (λ paths. Then (Is (some_of paths)) (λ _. Then (Is line_end) (λ _. Give paths)))) word_end_total (λ _.
    then_total Paths (λ paths. Then (Is (some_of paths)) (λ _. Then (Is line_end) (λ _. Give paths))) paths_total (λ paths.
    then_total (Is (some_of paths)) (λ _. Then (Is line_end) (λ _. Give paths)) (some_of_total paths) (λ _. ends_line paths)))

-- ---- `build` lines

marked_total : (wanted : Mark) → Total (Marked wanted)
marked_total wanted bytes = by (mark bytes) refl
  where
    by_mark : (found : Mark × List ℕ) → Ends bytes found.1 → (is : Bool) → is_mark wanted found.0 ≡ is → Answer (λ (text : List ℕ). Either (is_mark wanted found.0) (λ (_ : List ℕ). Paths found.1) (Give []) bytes) (suc (length bytes)) bytes
    by_mark found behind true is =
        let within = no_longer behind in
        let all = answers_more Paths (suc (length found.1)) (suc (length bytes)) found.1 (omega (arith, within)) (paths_total found.1) in
        record { outcome = all.outcome; reads = rw is all.reads; ends = ends_both behind all.ends; under = all.under }
    by_mark found behind false is = record { outcome = Reached [] bytes; reads = rw is refl; ends = ends_itself bytes; under = omega arith }

    by : (found : Option (Mark × List ℕ)) → mark bytes ≡ found → Answer (Marked wanted) (suc (length bytes)) bytes
    by None is = record { outcome = Reached [] bytes; reads = rw is refl; ends = ends_itself bytes; under = omega arith }
    by (Some found) is =
        let one = by_mark found (mark_ends bytes found is) (is_mark wanted found.0) refl in
        record { outcome = one.outcome; reads = rw is one.reads; ends = one.ends; under = one.under }

outputs_total : Total Outputs
outputs_total =
    then_total Paths (λ explicit. Then (Marked Bar) (λ implicit. Then (Is (some_of (explicit ++ implicit))) (λ _. Give (explicit, implicit)))) paths_total (λ explicit.
    then_total (Marked Bar) (λ implicit. Then (Is (some_of (explicit ++ implicit))) (λ _. Give (explicit, implicit))) (marked_total Bar) (λ implicit.
    then_total (Is (some_of (explicit ++ implicit))) (λ _. Give (explicit, implicit)) (some_of_total (explicit ++ implicit)) (λ _. give_total (explicit, implicit))))

of_rule_total : Total OfRule
of_rule_total =
    then_total (Is (one 58)) (λ _. Then Blanks (λ _. Then (Is name) (λ word. Then (Is word_end) (λ _. Give word)))) (takes_total (Is (one 58)) (one_takes 58)) (λ _.
    then_total Blanks (λ _. Then (Is name) (λ word. Then (Is word_end) (λ _. Give word))) blanks_total (λ _.
    then_total (Is name) (λ word. Then (Is word_end) (λ _. Give word)) name_total (λ word.
    then_total (Is word_end) (λ _. Give word) word_end_total (λ _. give_total word))))

abbrev inputs_of : List Fragments → List Fragments → List Fragments → List Fragments → InputsForm
inputs_of explicit implicit order_only validations = record { explicit = explicit; implicit = implicit; order_only = order_only; validations = validations }

inputs_total : Total Inputs
inputs_total =
    then_total Paths (λ explicit. Then (Marked Bar) (λ implicit. Then (Marked DoubleBar) (λ order_only. Then (Marked BarAt) (λ validations. Give (inputs_of explicit implicit order_only validations))))) paths_total (λ explicit.
    then_total (Marked Bar) (λ implicit. Then (Marked DoubleBar) (λ order_only. Then (Marked BarAt) (λ validations. Give (inputs_of explicit implicit order_only validations)))) (marked_total Bar) (λ implicit.
    then_total (Marked DoubleBar) (λ order_only. Then (Marked BarAt) (λ validations. Give (inputs_of explicit implicit order_only validations))) (marked_total DoubleBar) (λ order_only.
    then_total (Marked BarAt) (λ validations. Give (inputs_of explicit implicit order_only validations)) (marked_total BarAt) (λ validations. give_total (inputs_of explicit implicit order_only validations)))))

build_paths_total : Total BuildPaths
build_paths_total =
    then_total (Is word_end) (λ _. Then Outputs (λ outputs. Then OfRule (λ word. Then Inputs (λ inputs. Then (Is line_end) (λ _. Give (build_form outputs word inputs)))))) word_end_total (λ _.
    then_total Outputs (λ outputs. Then OfRule (λ word. Then Inputs (λ inputs. Then (Is line_end) (λ _. Give (build_form outputs word inputs))))) outputs_total (λ outputs.
    then_total OfRule (λ word. Then Inputs (λ inputs. Then (Is line_end) (λ _. Give (build_form outputs word inputs)))) of_rule_total (λ word.
    then_total Inputs (λ inputs. Then (Is line_end) (λ _. Give (build_form outputs word inputs))) inputs_total (λ inputs. ends_line (build_form outputs word inputs)))))

-- ---- statements

behind_word_total : (key : Keyword) (word : List ℕ) → Total (BehindWord key word)
behind_word_total keyword.Rule word = then_total NameAlone (λ named. Give (rule named)) name_alone_total (λ named. give_total (rule named))
behind_word_total keyword.Build word = then_total BuildPaths (λ line. Give (build line)) build_paths_total (λ line. give_total (build line))
behind_word_total keyword.Pool word = then_total NameAlone (λ named. Give (pool named)) name_alone_total (λ named. give_total (pool named))
behind_word_total keyword.Default word = then_total DefaultPaths (λ paths. Give (defaults paths)) default_paths_total (λ paths. give_total (defaults paths))
behind_word_total keyword.Include word = then_total PathAlone (λ path. Give (includes path)) path_alone_total (λ path. give_total (includes path))
behind_word_total keyword.Subninja word = then_total PathAlone (λ path. Give (subninja path)) path_alone_total (λ path. give_total (subninja path))
behind_word_total keyword.Other word = then_total Bound (λ value. Give (binding word value)) bound_total (λ value. give_total (binding word value))

statement_takes : Takes OfStatement
statement_takes = then_takes (Is name) (λ word. BehindWord (keyword_of word) word) name_takes (λ word. behind_word_total (keyword_of word) word)

block_takes : Takes OfBlock
block_takes = then_takes (Is name) (λ word. Then Bound (λ value. Give (block_binding word value))) name_takes (λ word.
    then_total Bound (λ value. Give (block_binding word value)) bound_total (λ value. give_total (block_binding word value)))

-- ---- lines

something_answered : (One : List ℕ → Outcome Form → Type 0) → Takes One → (n : ℕ) (bytes : List ℕ) → length bytes ≤ n → Answer (Something One) n bytes
something_answered One takes n bytes within =
    then_answered One (λ form. Give (Some form)) n bytes (answers_more One (length bytes) n bytes within (takes bytes)) (λ form. give_total (Some form))

-- a comment, or nothing, and the end of the line
nothing_answered : (n : ℕ) (bytes : List ℕ) → length bytes ≤ n → 0 < n → Answer Nothing n bytes
nothing_answered n bytes within some =
    then_up_to (Is comment) (λ _. Then (Is line_end) (λ _. Give None)) (suc n) n bytes
    (let behind = behind_run_ends class.Comment bytes in let less = no_longer behind in is_answered comment (suc n) bytes behind (omega (arith, within, less)))
    (λ _ next lt. then_answered (Is line_end) (λ _. Give None) n next (fits_answered line_end n next (line_end_fits n next lt some)) (λ _. give_total None))

content_answered : (inside indented : Bool) (n : ℕ) (bytes : List ℕ) → length bytes ≤ n → 0 < n → Answer (Content inside indented) n bytes
content_answered inside indented n bytes within some = by (says_nothing bytes) refl inside indented
  where
    by : (is : Bool) → says_nothing bytes ≡ is → (within_block begins : Bool) → Answer (Content within_block begins) n bytes
    by true is within_block begins = let one = nothing_answered n bytes within some in record { outcome = one.outcome; reads = rw is one.reads; ends = one.ends; under = one.under }
    by false is true true = let one = something_answered OfBlock block_takes n bytes within in record { outcome = one.outcome; reads = rw is one.reads; ends = one.ends; under = one.under }
    by false is false true = record { outcome = outside bytes; reads = rw is refl; ends = ends_itself bytes; under = tt }
    by false is within_block false = let one = something_answered OfStatement statement_takes n bytes within in record { outcome = one.outcome; reads = rw is one.reads; ends = one.ends; under = one.under }

-- a line that begins takes something
pub line_answered : (inside : Bool) (bytes : List ℕ) → 0 < length bytes → Answer (OfLine inside) (length bytes) bytes
line_answered inside bytes some =
    let found = then_up_to Blanks (λ _. Content inside (begins_with_space bytes)) (suc (length bytes)) (length bytes) bytes (blanks_total bytes)
    (λ _ next lt. content_answered inside (begins_with_space bytes) (length bytes) next (omega (arith, lt)) some) in
    record { outcome = found.outcome; reads = found.reads; ends = found.ends; under = found.under }
