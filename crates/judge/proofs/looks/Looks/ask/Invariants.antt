use Rattle.std.proofs.Common.{◌≡◌, ℕ, true, take}
use Rattle.model.specs.Graph.{has_number}
use Rattle.theory.specs.Seen.{Unrefused}
use Rattle.judge.specs.Looking.{HasLooked}
use Rattle.judge.specs.Seen.{look_at, is_asked}
use Rattle.judge.proofs.looks.Looks.ask.Given as goal

abbrev pub invariant-loop-path : goal.invariant-loop-path
invariant-loop-path g l = record {
  sums : l.self.sums ≡ l.fn.self.sums;
  looked : HasLooked g.S.Texts.tells l.graph (g.S.Texts.world l.fn.site) (g.S.Texts.world l.site) l.fn.self l.self;
  unrefused : Unrefused (g.S.Texts.world l.fn.site) (g.S.Texts.world l.site);
  asked : (p : ℕ) → has_number (take l.path-index l.paths) p ≡ true → is_asked (look_at l.self.seen.items p) ≡ true;
}
