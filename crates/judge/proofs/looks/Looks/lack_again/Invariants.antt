use Rattle.theory.specs.Seen.{Unrefused}
use Rattle.judge.specs.KeptDues.{KeepsFlags, LacksNoneOf}
use Rattle.judge.specs.Looking.{HasLooked}
use Rattle.judge.proofs.RuledAgain.{left_from}
use Rattle.judge.proofs.looks.Looks.lack_again.Given as goal

abbrev pub invariant-loop-place : goal.invariant-loop-place
invariant-loop-place g l = record {
  looked : HasLooked g.S.Texts.tells l.graph (g.S.Texts.world l.fn.site) (g.S.Texts.world l.site) l.fn.self l.self;
  unrefused : Unrefused (g.S.Texts.world l.fn.site) (g.S.Texts.world l.site);
  answers : KeepsFlags l.fn.self.sums.answers l.self.sums.answers;
  lacks : LacksNoneOf l.graph l.self.seen.items l.self.sums.answers.dues;
}

abbrev pub decreases-loop-place : goal.decreases-loop-place
decreases-loop-place g l = left_from l.self.sums.answers.dues.fresh
