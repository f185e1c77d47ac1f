use Rattle.std.proofs.lemmas.Result.{err_from_is_err_and}
use Rattle.dyndep.proofs.Parts.{binds_more, restat_more, never_binds, refused}
use Rattle.dyndep.proofs.statements.restat_of.Goals as goal

pub returns-in_err-restat-clause-fault : goal.returns-in_err-restat-clause-fault
returns-in_err-restat-clause-fault c =
    let p = err_from_is_err_and c.from_residual.result c.from_residual.ensures.1 in
    rw (p.1, p.2) (refused c.in_err-restat.field-0.0 c.in_err-restat.ensures.fault (λ other. never_binds c.args.block.now c.loop-line.line-index c.line-item.result c.loop-line-test.true c.line-item.is other))

pub loop-line-preserved : goal.loop-line-preserved
loop-line-preserved c = record {
  binds = binds_more c.args.block.now c.loop-line.line-index c.line-item.result c.in_ok-restat.restat c.loop-line-test.true c.line-item.is c.loop-line.invariant.binds c.in_ok-restat.ensures.restat;
  restat_is = restat_more c.args.block.now c.loop-line.line-index c.line-item.result c.in_ok-restat.restat c.loop-line-test.true c.line-item.is c.in_ok-restat.ensures.restat;
}
