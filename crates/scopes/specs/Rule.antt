-- What a rule binds, as a function of names.
use Rattle.std.specs.Prelude.{ℕ, List, Option}
use Rattle.indexmap.specs.IndexMap.{get_by_text}
use Rattle.scopes.specs.declared.template.Rule.{Rule}
use Rattle.scopes.specs.declared.template.Template.{Template}

abbrev pub template_of : Rule → List ℕ → Option Template
template_of rule name = get_by_text rule.variables name
