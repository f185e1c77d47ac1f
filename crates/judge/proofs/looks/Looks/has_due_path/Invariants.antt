use Rattle.std.proofs.Common.{◌≡◌, take}
use Rattle.theory.specs.Seen.{Unrefused}
use Rattle.graph.specs.Links.{links_of}
use Rattle.judge.specs.Looking.{HasLooked}
use Rattle.judge.specs.Ruled.{is_due_seen, WasSourceAsked, NoneAsked}
use Rattle.judge.proofs.looks.Looks.has_due_path.Given as goal

abbrev pub invariant-loop-path : goal.invariant-loop-path
invariant-loop-path g l = record {
  sums : l.self.sums ≡ l.fn.self.sums;
  looked : HasLooked g.S.Texts.tells l.graph (g.S.Texts.world l.fn.site) (g.S.Texts.world l.site) l.fn.self l.self;
  unrefused : Unrefused (g.S.Texts.world l.fn.site) (g.S.Texts.world l.site);
  none : NoneAsked (WasSourceAsked (links_of l.graph) l.self.seen.items) (is_due_seen (links_of l.graph) l.self.seen.items l.due) (take l.path-index l.paths);
}
