use Rattle.host.proofs.Listed.{asked}
use Rattle.host.proofs.waiting.ask_at.Goals as goal

pub returns-clause-jobs : goal.returns-clause-jobs
returns-clause-jobs c = asked c.args.place c.has_ended.new.self c.index_mut.result.now c.args.commands.now.items c.has_ended.ensures.job c.index_mut.ensures.value
