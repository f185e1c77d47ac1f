use Rattle.std.proofs.Common.{◌≡◌, take}
use Rattle.theory.specs.Seen.{Unrefused}
use Rattle.model.specs.OutOfDate.{NoneIsMissing}
use Rattle.paths.specs.Told.{texts_at}
use Rattle.graph.specs.Told.{declared_by}
use Rattle.judge.specs.KeptDues.{AreSourcesSeen}
use Rattle.judge.specs.Looking.{HasLooked}
use Rattle.judge.specs.Quiet.{IfStill}
use Rattle.judge.specs.Dues.{AreSourcesIn}
use Rattle.judge.proofs.looks.Looks.first_missing.Given as goal

abbrev pub invariant-loop-path : goal.invariant-loop-path
invariant-loop-path g l = record {
  sums : l.self.sums ≡ l.fn.self.sums;
  looked : HasLooked g.S.Texts.tells l.graph (g.S.Texts.world l.fn.site) (g.S.Texts.world l.site) l.fn.self l.self;
  unrefused : Unrefused (g.S.Texts.world l.fn.site) (g.S.Texts.world l.site);
  none : IfStill g.S.Texts.tells l.graph (g.S.Texts.world l.fn.site) (g.S.Texts.world l.site) l.fn.self (λ set files. AreSourcesIn set l.graph l.paths → NoneIsMissing (declared_by l.graph).edges files (texts_at l.graph.manifest.paths (take l.path-index l.paths)));
  there : AreSourcesSeen l.graph l.self.seen.items (take l.path-index l.paths);
}
