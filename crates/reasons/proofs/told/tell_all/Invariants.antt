use Rattle.std.proofs.Common.{◌≡◌, [], map, filter, take, length}
use Rattle.theory.specs.Seen.{Unrefused}
use Rattle.judge.specs.Looking.{HasLooked}
use Rattle.judge.specs.Dues.{due_at}
use Rattle.judge.specs.Summed.{AreSums}
use Rattle.reasons.specs.Why.{AreWhy, edge_in}
use Rattle.reasons.proofs.told.tell_all.Given as goal

abbrev pub invariant-loop-edge : goal.invariant-loop-edge
invariant-loop-edge g l = record {
  looked : HasLooked g.S.Texts.tells l.graph (g.S.Texts.world l.fn.site) (g.S.Texts.world l.site) l.fn.looks l.looks;
  unrefused : Unrefused (g.S.Texts.world l.fn.site) (g.S.Texts.world l.site);
  summed : AreSums l.graph [] l.looks.seen.items l.looks.sums;
  fits : length l.firm.items ≡ length l.graph.manifest.lines;
  listed : map edge_in l.told.items ≡ filter (due_at l.flags) (take l.edge-index l.order);
  all : AreWhy g.S.Texts.tells l.graph l.records l.flags (g.S.Texts.world l.fn.site) (g.S.Texts.world l.site) l.fn.looks l.looks l.told.items;
}
