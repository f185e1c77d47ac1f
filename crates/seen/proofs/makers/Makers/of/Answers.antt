use Rattle.seen.proofs.Making.{jobs_of_listed}
use Rattle.seen.proofs.makers.Makers.of.Goals as goal

pub returns-clause-jobs : goal.returns-clause-jobs
returns-clause-jobs c = λ p job is. jobs_of_listed (record { table = c.new.result; listed = c.loop-place.listed; jobs = c.in_ok-jobs.jobs }) c.new.ensures.empty c.loop-place.invariant.below p job is
