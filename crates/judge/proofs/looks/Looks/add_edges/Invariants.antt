use Rattle.std.proofs.Common.{take, false, ◌≡◌}
use Rattle.std.specs.List.{flat_map}
use Rattle.graph.specs.Links.{links_of}
use Rattle.judge.specs.Facts.{HasTaken}
use Rattle.theory.specs.Seen.{Unrefused}
use Rattle.judge.specs.Looking.{HasLooked}
use Rattle.judge.proofs.looks.Looks.add_edges.Given as goal

abbrev pub invariant-loop-edge : goal.invariant-loop-edge
invariant-loop-edge g l = record {
  sums : l.self.sums ≡ l.fn.self.sums;
  looked : HasLooked g.S.Texts.tells l.graph (g.S.Texts.world l.fn.site) (g.S.Texts.world l.site) l.fn.self l.self;
  unrefused : Unrefused (g.S.Texts.world l.fn.site) (g.S.Texts.world l.site);
  taken : HasTaken l.graph l.changed false l.self.seen.items (flat_map (links_of l.graph).regular (take l.edge-index l.edges)) l.fn.inputs l.inputs;
}
