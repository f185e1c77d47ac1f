use Rattle.std.proofs.Common.{true}
use Rattle.graph.specs.Links.{links_of}
use Rattle.work.proofs.Comparing.{flags_compared}
use Rattle.work.proofs.Noting.{flags_kept}
use Rattle.work.proofs.WorkLeft.{finished_less}
use Rattle.work.proofs.state.Work.note_compared.Goals as goal

pub returns-in-Ok-clause-nearer : goal.returns-in-Ok-clause-nearer
returns-in-Ok-clause-nearer g c = finished_less c.args.self.now.plan.standings.items c.finished.new.self.standings.items c.args.edge true c.requires.running c.finished.ensures.stands

pub returns-in-Ok-clause-changed : goal.returns-in-Ok-clause-changed
returns-in-Ok-clause-changed g c =
    flags_compared c.args.self.now.plan.changed.items c.finished.new.self.changed.items c.as_slice.result.now c.in-Ok.changed.items ((links_of c.args.self.now.graph).outputs c.args.edge)
    c.args.self.now.looks.seen.items c.changes.new.looks.seen.items c.finished.ensures.flags c.as_slice.ensures.value c.in-Ok.ensures.changes

pub returns-in-Ok-clause-unchanged : goal.returns-in-Ok-clause-unchanged
returns-in-Ok-clause-unchanged g c = flags_kept c.args.self.now.plan.changed.items c.finished.new.self.changed.items ((links_of c.args.self.now.graph).outputs c.args.edge) _ c.finished.ensures.flags

pub returns-in-Err-clause-nearer : goal.returns-in-Err-clause-nearer
returns-in-Err-clause-nearer g c = finished_less c.args.self.now.plan.standings.items c.finished-in-Err.new.self.standings.items c.args.edge true c.requires.running c.finished-in-Err.ensures.stands
