use Rattle.std.proofs.Common.{◌≡◌, drop}
use Rattle.std.specs.List.{list_any}
use Rattle.graph.specs.Links.{links_of}
use Rattle.judge.specs.Dues.{is_made_due}
use Rattle.judge.proofs.commands.are_made_due.Given as goal

abbrev pub invariant-loop-path : goal.invariant-loop-path
invariant-loop-path l = list_any (is_made_due (links_of l.graph) l.due) l.paths ≡ list_any (is_made_due (links_of l.graph) l.due) (drop l.path-index l.paths)
