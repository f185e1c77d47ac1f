use Rattle.std.proofs.Common.{◌≡◌, drop}
use Rattle.graph.specs.Links.{links_of}
use Rattle.graph.specs.Alias.{any_alias}
use Rattle.graph.proofs.graph.Graph.reads_alias.Given as goal

abbrev pub invariant-loop-path : goal.invariant-loop-path
invariant-loop-path l = any_alias (links_of l.self) ((links_of l.self).regular l.fn.edge) ≡ any_alias (links_of l.self) (drop l.path-index ((links_of l.self).regular l.fn.edge))
