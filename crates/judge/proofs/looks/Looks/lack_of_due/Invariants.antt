use Rattle.std.proofs.Common.{◌≡◌, ◌<◌, ℕ, true}
use Rattle.theory.specs.Seen.{Unrefused}
use Rattle.graph.specs.Links.{links_of}
use Rattle.graph.specs.Told.{declared_by}
use Rattle.judge.specs.KeptDues.{AreSourcesSeen}
use Rattle.judge.specs.Looking.{HasLooked}
use Rattle.judge.specs.Quiet.{IfStill}
use Rattle.judge.specs.Lacks.{NoneBelow}
use Rattle.judge.specs.Dues.{due_at, HasAllSources}
use Rattle.judge.proofs.looks.Looks.lack_of_due.Given as goal

abbrev pub invariant-loop-place : goal.invariant-loop-place
invariant-loop-place g l = record {
  sums : l.self.sums ≡ l.fn.self.sums;
  looked : HasLooked g.S.Texts.tells l.graph (g.S.Texts.world l.fn.site) (g.S.Texts.world l.site) l.fn.self l.self;
  unrefused : Unrefused (g.S.Texts.world l.fn.site) (g.S.Texts.world l.site);
  none : IfStill g.S.Texts.tells l.graph (g.S.Texts.world l.fn.site) (g.S.Texts.world l.site) l.fn.self (λ set files. HasAllSources set l.graph → NoneBelow (declared_by l.graph).edges l.due files l.place);
  there : (e : ℕ) → e < l.place → due_at l.due e ≡ true → AreSourcesSeen l.graph l.self.seen.items ((links_of l.graph).inputs e);
}
