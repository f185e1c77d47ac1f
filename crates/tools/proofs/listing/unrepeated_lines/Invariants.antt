use Rattle.std.proofs.Common.{◌≡◌, ◌++◌, None, drop, map, string_bytes}
use Rattle.std.specs.Map.Iter.{deref}
use Rattle.std.specs.Option.{option_map}
use Rattle.tools.specs.Answers.{lines}
use Rattle.tools.specs.Showing.{unrepeated}
use Rattle.tools.proofs.listing.unrepeated_lines.Given as goal

abbrev pub invariant-loop-text : goal.invariant-loop-text
invariant-loop-text l = string_bytes l.told ++ lines (unrepeated (option_map deref l.last) (drop l.text-index (map deref l.texts))) ≡ lines (unrepeated None (map deref l.texts))
