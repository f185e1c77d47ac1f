use Rattle.std.proofs.Common.{◌≡◌, take}
use Rattle.theory.specs.Seen.{Unrefused}
use Rattle.judge.specs.Looking.{HasLooked}
use Rattle.judge.specs.Ruled.{is_absent_seen, WasAsked, NoneAsked}
use Rattle.judge.proofs.looks.Looks.has_absent.Given as goal

abbrev pub invariant-loop-path : goal.invariant-loop-path
invariant-loop-path g l = record {
  sums : l.self.sums ≡ l.fn.self.sums;
  looked : HasLooked g.S.Texts.tells l.graph (g.S.Texts.world l.fn.site) (g.S.Texts.world l.site) l.fn.self l.self;
  unrefused : Unrefused (g.S.Texts.world l.fn.site) (g.S.Texts.world l.site);
  none : NoneAsked (WasAsked l.self.seen.items) (is_absent_seen l.self.seen.items) (take l.path-index l.paths);
}
