-- Build lines have outputs.
use Rattle.std.specs.Prelude.{List}
use Rattle.std.specs.List.{AllByRecursion}
use Rattle.lexer.specs.Said.{Form, Said}
use Rattle.lexer.specs.Said.Form.{binding, block_binding, rule, build, pool, defaults, includes, subninja}
use Rattle.manifest.specs.Held.{HasOutput}

abbrev pub FormHasOutput : Form → Type 0
FormHasOutput (binding name value) = Unit {0}
FormHasOutput (block_binding name value) = Unit {0}
FormHasOutput (rule name) = Unit {0}
FormHasOutput (build form) = HasOutput form
FormHasOutput (pool name) = Unit {0}
FormHasOutput (defaults paths) = Unit {0}
FormHasOutput (includes path) = Unit {0}
FormHasOutput (subninja path) = Unit {0}

abbrev pub HaveOutputs : List Said → Type 0
HaveOutputs said = AllByRecursion (λ (line : Said). FormHasOutput line.form) said
