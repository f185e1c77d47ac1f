use Rattle.std.proofs.Common.{take, false, ◌≡◌}
use Rattle.judge.specs.Facts.{HasTaken}
use Rattle.theory.specs.Seen.{Unrefused}
use Rattle.judge.specs.Looking.{HasLooked}
use Rattle.judge.proofs.looks.Looks.add_paths.Given as goal

abbrev pub invariant-loop-path : goal.invariant-loop-path
invariant-loop-path g l = record {
  sums : l.self.sums ≡ l.fn.self.sums;
  looked : HasLooked g.S.Texts.tells l.graph (g.S.Texts.world l.fn.site) (g.S.Texts.world l.site) l.fn.self l.self;
  unrefused : Unrefused (g.S.Texts.world l.fn.site) (g.S.Texts.world l.site);
  taken : HasTaken l.graph l.changed false l.self.seen.items (take l.path-index l.paths) l.fn.inputs l.taken;
}
