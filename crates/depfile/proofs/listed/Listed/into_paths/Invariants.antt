use Rattle.std.proofs.Common.{◌≡◌, ◌++◌, map}
use Rattle.std.specs.Cow.{cow_str_bytes}
use Rattle.depfile.proofs.listed.Listed.into_paths.Given as goal

abbrev pub invariant-loop-path : goal.invariant-loop-path
invariant-loop-path l = l.list.items ++ map cow_str_bytes l.path-iterator ≡ l.fn.self
