use Rattle.std.proofs.Common.{◌≡◌, take}
use Rattle.judge.specs.Lasting.{AreMarked}
use Rattle.judge.specs.Summed.{AreSums, HasJoined}
use Rattle.theory.specs.Seen.{Unrefused}
use Rattle.judge.specs.Looking.{HasLooked}
use Rattle.judge.proofs.looks.Looks.add_aliases.Given as goal

abbrev pub invariant-loop-path : goal.invariant-loop-path
invariant-loop-path g l = record {
  looked : HasLooked g.S.Texts.tells l.graph (g.S.Texts.world l.fn.site) (g.S.Texts.world l.site) l.fn.self l.self;
  unrefused : Unrefused (g.S.Texts.world l.fn.site) (g.S.Texts.world l.site);
  answers : l.self.sums.answers ≡ l.fn.self.sums.answers;
  summed : AreSums l.graph l.changed l.self.seen.items l.self.sums;
  marked : AreMarked l.graph l.changed l.fn.self.seen.items l.fn.self.sums → AreMarked l.graph l.changed l.self.seen.items l.self.sums;
  joined : HasJoined l.graph l.changed l.self.seen.items (take l.path-index l.paths) l.fn.inputs l.inputs;
}
