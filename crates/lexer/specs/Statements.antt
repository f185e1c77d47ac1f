-- What a statement's line says (manual: "Variables", "Rules", "Build statements", "Build outputs", "Build dependencies",
-- "Validations", "Default target statements", "Pools", "Evaluation and scoping").
use Rattle.std.specs.Prelude.{ℕ, List, [], ◌∷◌, ◌++◌, Option, None, Some, codes, bytes_eq, cond}
use Rattle.lexer.specs.declared.build_lines.InputPaths.{InputPaths}
use Rattle.lexer.specs.declared.fault.FaultKind.TheVariants.{EmptyPath}
use Rattle.lexer.specs.declared.tokens.Mark.{Mark}
use Rattle.lexer.specs.declared.tokens.Mark.TheVariants.{Bar, DoubleBar, BarAt}
use Rattle.lexer.specs.declared.forms.Keyword.{Keyword}
use Rattle.lexer.specs.declared.forms.Keyword.TheVariants as keyword
use Rattle.lexer.specs.Grammar.{Outcome, Grammar, Is, Give, Then, Either}
use Rattle.lexer.specs.Grammar.Outcome.{Reached, Broken}
use Rattle.lexer.specs.Said.{Fragments, Form, BuildForm, paths_of}
use Rattle.lexer.specs.Said.Form.{binding, block_binding, rule, build, pool, defaults, includes, subninja}
use Rattle.lexer.specs.Tokens.{newline, unexpected, one, line_end, name, begins_path, word_end, mark, is_mark}
use Rattle.lexer.specs.Values.{Blanks, OfValue, OfPath, Paths}

-- blanks, and the end of the line
abbrev pub LineRest : Grammar (Unit {0})
LineRest = Then Blanks (λ _. Is line_end)

-- an equals sign and a value, which goes up to the line's end; blanks round the sign are dropped
abbrev pub Bound : Grammar Fragments
Bound = Then Blanks (λ _. Then (Is (one 61)) (λ _. Then Blanks (λ _. Then OfValue (λ value. Then (Is line_end) (λ _. Give value)))))

-- a name and no more
abbrev pub NameAlone : Grammar (List ℕ)
NameAlone = Then Blanks (λ _. Then (Is name) (λ word. Then LineRest (λ _. Give word)))

-- ---- paths

-- a path must stand here, where the line's end is an empty one
abbrev pub missing_path : List ℕ → Option (List ℕ) → Outcome Fragments
missing_path [] newline = Broken EmptyPath []
missing_path (b ∷ bytes) (Some rest) = Broken EmptyPath (b ∷ bytes)
missing_path (b ∷ bytes) None = unexpected (b ∷ bytes)

abbrev pub SomePath : Grammar Fragments
SomePath bytes = Either (begins_path bytes) OfPath (Is (λ place. missing_path place (newline place))) bytes

-- one path and no more
abbrev pub PathAlone : Grammar Fragments
PathAlone = Then (Is word_end) (λ _. Then Blanks (λ _. Then SomePath (λ path. Then LineRest (λ _. Give path))))

-- at least one path must have been there
abbrev pub some_of : List Fragments → List ℕ → Outcome (Unit {0})
some_of [] bytes = unexpected bytes
some_of (path ∷ paths) bytes = Reached tt bytes

abbrev pub DefaultPaths : Grammar (List Fragments)
DefaultPaths = Then (Is word_end) (λ _. Then Paths (λ paths. Then (Is (some_of paths)) (λ _. Then (Is line_end) (λ _. Give paths))))

-- ---- `build` lines

-- the paths behind this mark, or none where it is not there
abbrev pub MarkedBy : Mark → Option (Mark × List ℕ) → Grammar (List Fragments)
MarkedBy wanted None bytes = Give [] bytes
MarkedBy wanted (Some found) bytes = Either (is_mark wanted found.0) (λ _. Paths found.1) (Give []) bytes

abbrev pub Marked : Mark → Grammar (List Fragments)
Marked wanted bytes = MarkedBy wanted (mark bytes) bytes

-- explicit outputs and implicit ones, of which there is at least one
abbrev pub Outputs : Grammar (List Fragments × List Fragments)
Outputs = Then Paths (λ explicit. Then (Marked Bar) (λ implicit. Then (Is (some_of (explicit ++ implicit))) (λ _. Give (explicit, implicit))))

-- a colon and the rule's name
abbrev pub OfRule : Grammar (List ℕ)
OfRule = Then (Is (one 58)) (λ _. Then Blanks (λ _. Then (Is name) (λ word. Then (Is word_end) (λ _. Give word))))

pub record InputsForm : Type 0 where
  pub explicit : List Fragments
  pub implicit : List Fragments
  pub order_only : List Fragments
  pub validations : List Fragments

abbrev pub inputs_form : List Fragments → List Fragments → List Fragments → List Fragments → InputsForm
inputs_form explicit implicit order_only validations =
    record { explicit = explicit; implicit = implicit; order_only = order_only; validations = validations }

-- what the lists say
abbrev pub inputs_of : InputPaths → InputsForm
inputs_of inputs =
    inputs_form (paths_of inputs.explicit) (paths_of inputs.implicit) (paths_of inputs.order_only) (paths_of inputs.validations)

-- explicit, implicit and order-only inputs and validations, in this order
abbrev pub Inputs : Grammar InputsForm
Inputs = Then Paths (λ explicit. Then (Marked Bar) (λ implicit. Then (Marked DoubleBar) (λ order_only. Then (Marked BarAt) (λ validations. Give (record { explicit = explicit; implicit = implicit; order_only = order_only; validations = validations })))))

abbrev pub build_form : List Fragments × List Fragments → List ℕ → InputsForm → BuildForm
build_form outputs rule_name inputs = record {
  explicit_outputs = outputs.0;
  implicit_outputs = outputs.1;
  rule = rule_name;
  explicit_inputs = inputs.explicit;
  implicit_inputs = inputs.implicit;
  order_only_inputs = inputs.order_only;
  validations = inputs.validations;
}

abbrev pub BuildPaths : Grammar BuildForm
BuildPaths = Then (Is word_end) (λ _. Then Outputs (λ outputs. Then OfRule (λ rule_name. Then Inputs (λ inputs. Then (Is line_end) (λ _. Give (build_form outputs rule_name inputs))))))

-- ---- statements

-- the words that begin a statement; every other word is bound
abbrev pub keyword_of : List ℕ → Keyword
keyword_of word =
    cond (bytes_eq word (codes "rule")) keyword.Rule (
    cond (bytes_eq word (codes "build")) keyword.Build (
    cond (bytes_eq word (codes "pool")) keyword.Pool (
    cond (bytes_eq word (codes "default")) keyword.Default (
    cond (bytes_eq word (codes "include")) keyword.Include (
    cond (bytes_eq word (codes "subninja")) keyword.Subninja keyword.Other)))))

abbrev pub BehindWord : Keyword → List ℕ → Grammar Form
BehindWord keyword.Rule word = Then NameAlone (λ named. Give (rule named))
BehindWord keyword.Build word = Then BuildPaths (λ line. Give (build line))
BehindWord keyword.Pool word = Then NameAlone (λ named. Give (pool named))
BehindWord keyword.Default word = Then DefaultPaths (λ paths. Give (defaults paths))
BehindWord keyword.Include word = Then PathAlone (λ path. Give (includes path))
BehindWord keyword.Subninja word = Then PathAlone (λ path. Give (subninja path))
BehindWord keyword.Other word = Then Bound (λ value. Give (binding word value))

-- a statement at the beginning of its line
abbrev pub OfStatement : Grammar Form
OfStatement = Then (Is name) (λ word. BehindWord (keyword_of word) word)

-- a line of a block
abbrev pub OfBlock : Grammar Form
OfBlock = Then (Is name) (λ word. Then Bound (λ value. Give (block_binding word value)))
