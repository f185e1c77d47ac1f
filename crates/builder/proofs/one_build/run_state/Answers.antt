use Rattle.std.proofs.Common.{inl, inr, Ok, Err}
use Rattle.graph.specs.Told.{declared_by}
use Rattle.builder.proofs.Stages.{told_by}
use Rattle.builder.proofs.one_build.run_state.Goals as goal

pub returns-in_err-summary : goal.returns-in_err-summary
returns-in_err-summary g c = record {
  grown = (declared_by c.run_graph.new.self.graph).edges;
  said = Err c.in_err-summary.field-0.0;
  ended = c.in_err-summary.ensures.ended;
  faults = c.in_err-summary.ensures.faults;
  seen = c.in_err-summary.ensures.seen;
  is = told_by _ c.from_residual.result c.from_residual.ensures.1;
}

pub report-requires : goal.report-requires
report-requires g c = c.in_ok-summary.ensures.edges

-- there was no memory to tell it
pub returns-in_err-report : goal.returns-in_err-report
returns-in_err-report g c = record {
  grown = (declared_by c.run_graph.new.self.graph).edges;
  said = Ok c.in_ok-summary.summary;
  ended = c.in_ok-summary.ensures.ended;
  faults = c.in_ok-summary.ensures.faults;
  seen = tt;
  is = inl (told_by _ c.from_residual-in_err-report.result c.from_residual-in_err-report.ensures.1);
}

pub returns : goal.returns
returns g c = record {
  grown = (declared_by c.run_graph.new.self.graph).edges;
  said = Ok c.in_ok-summary.summary;
  ended = c.in_ok-summary.ensures.ended;
  faults = c.in_ok-summary.ensures.faults;
  seen = tt;
  is = inr c.in_ok-report.ensures;
}
