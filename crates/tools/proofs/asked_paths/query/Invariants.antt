use Rattle.std.proofs.Common.{◌≡◌, take, string_bytes}
use Rattle.std.specs.List.{flat_map}
use Rattle.tools.specs.Answers.{lines, query_lines}
use Rattle.tools.proofs.asked_paths.query.Given as goal

abbrev pub invariant-loop-path : goal.invariant-loop-path
invariant-loop-path l = string_bytes l.told ≡ lines (flat_map (query_lines l.declared) (take l.path-index l.paths))
