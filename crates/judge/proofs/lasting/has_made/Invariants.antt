use Rattle.std.proofs.Common.{◌≡◌, drop}
use Rattle.graph.specs.Links.{links_of}
use Rattle.judge.specs.Lasting.{any_made}
use Rattle.judge.proofs.lasting.has_made.Given as goal

abbrev pub invariant-loop-path : goal.invariant-loop-path
invariant-loop-path l = any_made (links_of l.graph) l.paths ≡ any_made (links_of l.graph) (drop l.path-index l.paths)
