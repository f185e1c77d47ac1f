use Rattle.std.proofs.Common.{◌≡◌, drop}
use Rattle.graph.specs.Links.{links_of}
use Rattle.judge.specs.Lasting.{read_made}
use Rattle.judge.proofs.lasting.reads_made.Given as goal

abbrev pub invariant-loop-edge : goal.invariant-loop-edge
invariant-loop-edge l = read_made (links_of l.graph) l.edges ≡ read_made (links_of l.graph) (drop l.edge-index l.edges)
