-- What the lines of a build file say, as plain data, without the places of the text that it was read from.
use Rattle.std.specs.Prelude.{ℕ, List, map}
use Rattle.lexer.specs.declared.statement.Piece.{Piece}
use Rattle.lexer.specs.declared.statement.Piece.TheVariants.{Text, Name}
use Rattle.lexer.specs.declared.statement.Value.{Value}
use Rattle.lexer.specs.declared.statement.Line.{Line}
use Rattle.lexer.specs.declared.statement.BuildLine.{BuildLine}
use Rattle.lexer.specs.declared.statement.Statement.{Statement}
use Rattle.lexer.specs.declared.statement.Statement.TheVariants.{Binding, BlockBinding, Rule, Build, Pool, Default, Include, Subninja}

-- characters, or a name that stands for a value
pub data Fragment : Type 0 where
  literal : List ℕ → Fragment
  expansion : List ℕ → Fragment

-- a value or a path, unexpanded
abbrev pub Fragments : Type 0
Fragments = List Fragment

pub record BuildForm : Type 0 where
  pub explicit_outputs : List Fragments
  pub implicit_outputs : List Fragments
  pub rule : List ℕ
  pub explicit_inputs : List Fragments
  pub implicit_inputs : List Fragments
  pub order_only_inputs : List Fragments
  pub validations : List Fragments

pub data Form : Type 0 where
  binding : List ℕ → Fragments → Form
  block_binding : List ℕ → Fragments → Form
  rule : List ℕ → Form
  build : BuildForm → Form
  pool : List ℕ → Form
  defaults : List Fragments → Form
  includes : Fragments → Form
  subninja : Fragments → Form

-- a statement, and the number of the line in which it begins
pub record Said : Type 0 where
  pub number : ℕ
  pub form : Form

-- ---- what the crate's types say

abbrev pub fragment_of : Piece → Fragment
fragment_of (Text text) = literal text.now
fragment_of (Name name) = expansion name.now

abbrev pub fragments_of : Value → Fragments
fragments_of value = map fragment_of value.pieces

abbrev pub paths_of : List Value → List Fragments
paths_of = map fragments_of

abbrev pub build_of : BuildLine → BuildForm
build_of line = record {
  explicit_outputs = paths_of line.explicit_outputs;
  implicit_outputs = paths_of line.implicit_outputs;
  rule = line.rule.now;
  explicit_inputs = paths_of line.explicit_inputs;
  implicit_inputs = paths_of line.implicit_inputs;
  order_only_inputs = paths_of line.order_only_inputs;
  validations = paths_of line.validations;
}

abbrev pub form_of : Statement → Form
form_of (Binding name value) = binding name.now (fragments_of value)
form_of (BlockBinding name value) = block_binding name.now (fragments_of value)
form_of (Rule name) = rule name.now
form_of (Build line) = build (build_of line)
form_of (Pool name) = pool name.now
form_of (Default paths) = defaults (paths_of paths)
form_of (Include path) = includes (fragments_of path)
form_of (Subninja path) = subninja (fragments_of path)

abbrev pub said_of : Line → Said
said_of line = record { number = line.number; form = form_of line.statement }
