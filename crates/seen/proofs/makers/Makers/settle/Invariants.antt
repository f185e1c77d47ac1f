use Rattle.std.proofs.Common.{◌≡◌, ◌≤◌, length}
use Rattle.indexmap.specs.IndexMap.{spare}
use Rattle.seen.specs.Makers.{MakesSame}
use Rattle.seen.proofs.makers.Makers.settle.Given as goal

-- each path is made by the same edge, and there is room for what is listed
abbrev pub invariant-loop-text : goal.invariant-loop-text
invariant-loop-text l = record {
  same : MakesSame l.fn.self l.self;
  room : length l.self.listed.items ≤ spare l.self.table;
  jobs : l.self.jobs ≡ l.fn.self.jobs;
}

abbrev pub decreases-loop-text : goal.decreases-loop-text
decreases-loop-text l = length l.self.listed.items
