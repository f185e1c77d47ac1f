use Rattle.std.proofs.Common.{◌≡◌, take}
use Rattle.std.specs.List.{flat_map}
use Rattle.theory.specs.Seen.{Unrefused}
use Rattle.graph.specs.Links.{links_of}
use Rattle.judge.specs.Looking.{HasLooked}
use Rattle.reasons.specs.Why.{HaveAsked}
use Rattle.reasons.proofs.asked.ask_regular.Given as goal

abbrev pub invariant-loop-edge : goal.invariant-loop-edge
invariant-loop-edge g l = record {
  sums : l.looks.sums ≡ l.fn.looks.sums;
  looked : HasLooked g.S.Texts.tells l.graph (g.S.Texts.world l.fn.site) (g.S.Texts.world l.site) l.fn.looks l.looks;
  unrefused : Unrefused (g.S.Texts.world l.fn.site) (g.S.Texts.world l.site);
  asked : HaveAsked l.looks.seen.items (flat_map (links_of l.graph).regular (take l.edge-index l.edges));
}
