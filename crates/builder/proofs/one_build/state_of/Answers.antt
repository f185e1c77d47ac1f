use Rattle.std.proofs.Common.{sym, ◌∙◌, rules}
use Rattle.std.proofs.lemmas.Bool.{false≢true}
use Rattle.work.specs.declared.report.Report.{Report}
use Rattle.builder.specs.Reports.{SaysNoCone}
use Rattle.builder.proofs.Stages.{refused_by}
use Rattle.builder.proofs.one_build.state_of.Goals as goal

pub returns-in_err-fresh-clause-refused : goal.returns-in_err-fresh-clause-refused
returns-in_err-fresh-clause-refused c =
    refused_by (λ (r : Report). SaysNoCone c.args.graph c.args.asked.now.given.now c.args.asked.now.targets r) c.in_err-fresh.field-0.0 c.from_residual.result c.from_residual.ensures.1 c.in_err-fresh.ensures.refused

pub returns-clause-fresh : goal.returns-clause-fresh
returns-clause-fresh c = record {
  plan = c.in_ok-fresh.ensures.plan;
  looks = c.in_ok-fresh.ensures.looks;
  tick = c.in_ok-fresh.ensures.tick;
  failed = search rules;
  starts = c.in_ok-fresh.ensures.starts;
}

pub returns-clause-known : goal.returns-clause-known
returns-clause-known c = record {
  known = c.answers_follow.ensures.none c.args.graph c.args.records c.in_ok-fresh.fresh.looks.seen.items c.in_ok-fresh.fresh.looks.sums.answers c.in_ok-fresh.ensures.answers;
  kept = λ on. absurd (false≢true (sym c.in_ok-fresh.ensures.dues ∙ on));
}
