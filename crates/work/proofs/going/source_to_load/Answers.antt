use Rattle.work.proofs.Stopping.{source_said}
use Rattle.work.proofs.going.source_to_load.Goals as goal

pub returns-in-Load : goal.returns-in-Load
returns-in-Load c = source_said c.args.graph.now c.args.plan.now c.in-Load.file c.source.result (record { offered = c.in-Load.ensures.offered; lawful = c.in-Load.ensures.lawful; loads = c.in-Load.ensures.loads }) c.source.ensures

pub returns-in-Judge : goal.returns-in-Judge
returns-in-Judge c task steps planned taken file due source = c.in-Judge.ensures.loads task c.args.graph.now steps planned taken file due

pub returns-in-Start : goal.returns-in-Start
returns-in-Start c task steps planned taken file due source = c.in-Start.ensures.loads task c.args.graph.now steps planned taken file due

pub returns-in-Wait : goal.returns-in-Wait
returns-in-Wait c task steps planned taken file due source = c.in-Wait.ensures.loads task c.args.graph.now steps planned taken file due

pub returns-in-Ended : goal.returns-in-Ended
returns-in-Ended c task steps planned taken file due source = c.in-Ended.ensures.loads task c.args.graph.now steps planned taken file due
