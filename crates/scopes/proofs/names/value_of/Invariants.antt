use Rattle.std.proofs.Common.{◌≡◌}
use Rattle.std.specs.Map.{lookup}
use Rattle.indexmap.specs.IndexMap.{get_by_text}
use Rattle.scopes.proofs.Few.{is_named}
use Rattle.scopes.proofs.names.value_of.Given as goal

abbrev pub invariant-loop-other : goal.invariant-loop-other
invariant-loop-other g l = lookup (is_named l.name) l.other-iterator ≡ get_by_text l.values l.name
