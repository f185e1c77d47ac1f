use Rattle.std.proofs.Common.{◌≡◌}
use Rattle.plan.specs.Planned.{IsPlanOver}
use Rattle.work.specs.Answered.{StaysKept}
use Rattle.work.specs.Clean.{StaysKnowing}
use Rattle.work.specs.Going.{work_left}
use Rattle.work.proofs.KnownClean.{StayUnjudged}
use Rattle.work.proofs.state.Work.judge_clean.Given as goal

abbrev pub invariant-loop-edge : goal.invariant-loop-edge
invariant-loop-edge l = record {
  over : IsPlanOver l.self.graph l.self.plan;
  graph : l.self.graph ≡ l.fn.self.graph;
  looks : l.self.looks ≡ l.fn.self.looks;
  records : l.self.records ≡ l.fn.self.records;
  due : l.self.due ≡ l.fn.self.due;
  kept : StaysKept l.fn.self l.self;
  fresh : StayUnjudged l.fn.self.plan l.self.plan;
  on : StaysKnowing l.fn.self.graph l.fn.self l.self;
}

abbrev pub decreases-loop-edge : goal.decreases-loop-edge
decreases-loop-edge l = work_left l.self.plan.standings.items
