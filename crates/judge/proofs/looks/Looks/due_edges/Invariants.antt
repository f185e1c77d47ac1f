use Rattle.std.proofs.Common.{◌≡◌, [], length, take}
use Rattle.theory.specs.Seen.{Unrefused}
use Rattle.graph.specs.Links.{links_of}
use Rattle.judge.specs.Answers.{KnowsRight}
use Rattle.judge.specs.Looking.{HasLooked}
use Rattle.judge.specs.Summed.{AreSums}
use Rattle.judge.specs.Dues.{AreListed, AreFoundClean}
use Rattle.judge.specs.Ruled.{ComeAfterMakers, EachRuledFound}
use Rattle.judge.proofs.looks.Looks.due_edges.Given as goal

abbrev pub invariant-loop-edge : goal.invariant-loop-edge
invariant-loop-edge g l = record {
  looked : HasLooked g.S.Texts.tells l.graph (g.S.Texts.world l.fn.site) (g.S.Texts.world l.site) l.fn.self l.self;
  unrefused : Unrefused (g.S.Texts.world l.fn.site) (g.S.Texts.world l.site);
  summed : AreSums l.graph [] l.self.seen.items l.self.sums;
  known : KnowsRight l.graph l.records l.self;
  dues : l.self.sums.answers.dues ≡ l.fn.self.sums.answers.dues;
  fits : length l.due.items ≡ length l.graph.manifest.lines;
  listed : AreListed l.cone.order.items l.due.items;
  ruled : ComeAfterMakers (links_of l.graph) l.order → EachRuledFound g.S.Texts.tells l.graph l.records l.plan (g.S.Texts.world l.fn.site) (g.S.Texts.world l.site) l.self.seen.items l.due.items (take l.edge-index l.order);
  clean : AreFoundClean g.S.Texts.tells l.graph l.records l.plan (g.S.Texts.world l.fn.site) (g.S.Texts.world l.site) l.fn.self (take l.edge-index l.order) l.due.items;
}
