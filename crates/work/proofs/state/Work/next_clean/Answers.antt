use Rattle.work.proofs.KnownClean.{offered_within}
use Rattle.work.proofs.state.Work.next_clean.Goals as goal

pub is_known_clean-requires : goal.is_known_clean-requires
is_known_clean-requires c = offered_within c.args.self.now.graph c.args.self.now.plan c.requires c.in-Judge.edge c.in-Judge.ensures.offered

pub returns-then-is_known_clean : goal.returns-then-is_known_clean
returns-then-is_known_clean c = record {
  next = record { offered = c.in-Judge.ensures.offered; lawful = c.in-Judge.ensures.lawful; loads = c.in-Judge.ensures.loads };
  was = c.is_known_clean.ensures c.if-is_known_clean.true;
}
