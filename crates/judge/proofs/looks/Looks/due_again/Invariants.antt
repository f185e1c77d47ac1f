use Rattle.std.proofs.Common.{[]}
use Rattle.theory.specs.Seen.{Unrefused}
use Rattle.judge.specs.Answers.{KnowsRight}
use Rattle.judge.specs.KeptDues.{LacksNoneBut}
use Rattle.judge.specs.Looking.{HasLooked}
use Rattle.judge.specs.Summed.{AreSums}
use Rattle.judge.proofs.RuledAgain.{IsAgainAt, left_from}
use Rattle.judge.proofs.looks.Looks.due_again.Given as goal

abbrev pub invariant-loop-place : goal.invariant-loop-place
invariant-loop-place g l = record {
  looked : HasLooked g.S.Texts.tells l.graph (g.S.Texts.world l.fn.site) (g.S.Texts.world l.site) l.fn.self l.self;
  unrefused : Unrefused (g.S.Texts.world l.fn.site) (g.S.Texts.world l.site);
  summed : AreSums l.graph [] l.self.seen.items l.self.sums;
  known : KnowsRight l.graph l.records l.self;
  again : IsAgainAt g.S.Texts.tells l.graph l.records l.cone l.plan (g.S.Texts.world l.fn.site) (g.S.Texts.world l.site) l.self.seen.items l.self.sums.answers.dues;
  lacks : LacksNoneBut l.graph l.cone l.self.seen.items l.self.sums.answers.dues;
}

abbrev pub decreases-loop-place : goal.decreases-loop-place
decreases-loop-place g l = left_from l.self.sums.answers.dues.todo
