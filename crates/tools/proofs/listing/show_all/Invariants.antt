use Rattle.std.proofs.Common.{◌≡◌, ◌≤◌, ◌++◌, length, string_bytes}
use Rattle.std.specs.List.{flat_map}
use Rattle.tools.specs.Answers.{lines, tree}
use Rattle.tools.specs.Showing.{left_lines, to_show}
use Rattle.tools.proofs.listing.show_all.Given as goal

abbrev pub invariant-levels : goal.invariant-levels
invariant-levels l = record {
  same : string_bytes l.told ++ lines (left_lines l.declared l.depth l.levels.items) ≡ lines (flat_map (tree l.declared l.depth 0) l.paths);
  fits : length l.levels.items ≤ l.depth;
}

abbrev pub decreases-levels : goal.decreases-levels
decreases-levels l = to_show l.declared l.depth l.levels.items
