use Rattle.std.proofs.Common.{◌≡◌, nat_eq, take}
use Rattle.indexmap.specs.IndexSet.{insert_all}
use Rattle.graph.specs.Links.{links_of}
use Rattle.graph.specs.Alias.{aliases_of}
use Rattle.graph.proofs.graph.Graph.add_aliases.Given as goal

abbrev pub invariant-loop-path : goal.invariant-loop-path
invariant-loop-path l = l.edges.keys ≡ insert_all nat_eq l.initial.edges.keys (aliases_of (links_of l.self) (take l.path-index ((links_of l.self).regular l.fn.edge)))
