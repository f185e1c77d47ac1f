use Rattle.std.proofs.Common.{◌∙◌, sym, arith}
use Rattle.std.proofs.lemmas.Bool.{false≢true}
use Rattle.theory.proofs.Loads.{none_is_due}
use Rattle.plan_plain.proofs.Waiting.{none_named}
use Rattle.plan_plain.proofs.Deciding.{judge_lawful, none_judged, start_lawful, none_started, some_run, none_run, some_failed, none_failed}
use Rattle.plan_plain.proofs.plain.Plan.next.Goals as goal
use Rattle.plan_plain.proofs.plain.Plan.next.Goals.{then-has_room+in_default-first_to_start, else-has_room}

pub returns-in-Some-clause-lawful : goal.returns-in-Some-clause-lawful
returns-in-Some-clause-lawful c = λ task steps at lawful stale. judge_lawful c.standings_tell.ensures c.steps_name.ensures c.lists_count.ensures task c.args.graph.now c.args.self.now steps at lawful c.in-Some.edge c.in-Some.ensures stale

pub returns-in-Some-first_to_start-clause-lawful : goal.returns-in-Some-first_to_start-clause-lawful
returns-in-Some-first_to_start-clause-lawful c = λ task steps at lawful.
    start_lawful c.standings_tell.ensures c.steps_name.ensures c.lists_count.ensures task c.args.graph.now c.args.self.now steps at lawful c.in-Some-first_to_start.edge c.in_default.ensures (sym c.has_room.ensures ∙ c.if-has_room.true) c.in-Some-first_to_start.ensures

pub returns-then-running-gt0-clause-lawful : goal.returns-then-running-gt0-clause-lawful
returns-then-running-gt0-clause-lawful c = λ task steps at lawful. (
  none_judged c.standings_tell.ensures c.steps_name.ensures c.lists_count.ensures task c.args.graph.now c.args.self.now steps at lawful c.in_default.ensures,
  none_started c.standings_tell.ensures c.steps_name.ensures c.lists_count.ensures task c.args.graph.now c.args.self.now steps at lawful (elim c.if-has_room.branch [
    | then-has_room+in_default-first_to_start w ↦ λ limits. w.in_default-first_to_start.ensures
    | else-has_room w ↦ λ limits. absurd (false≢true (sym w.if-has_room.false ∙ (c.has_room.ensures ∙ limits)))
  ]),
  some_run c.standings_tell.ensures c.steps_name.ensures c.lists_count.ensures task c.args.graph.now c.args.self.now steps at lawful (omega (arith, c.running.ensures, c.if-running-gt0.true)),
)

pub returns-then-failed-gt0-clause-lawful : goal.returns-then-failed-gt0-clause-lawful
returns-then-failed-gt0-clause-lawful c = λ task steps at lawful. (
  none_judged c.standings_tell.ensures c.steps_name.ensures c.lists_count.ensures task c.args.graph.now c.args.self.now steps at lawful c.in_default.ensures,
  none_started c.standings_tell.ensures c.steps_name.ensures c.lists_count.ensures task c.args.graph.now c.args.self.now steps at lawful (elim c.if-has_room.branch [
    | then-has_room+in_default-first_to_start w ↦ λ limits. w.in_default-first_to_start.ensures
    | else-has_room w ↦ λ limits. absurd (false≢true (sym w.if-has_room.false ∙ (c.has_room.ensures ∙ limits)))
  ]),
  none_run c.standings_tell.ensures c.steps_name.ensures c.lists_count.ensures task c.args.graph.now c.args.self.now steps at lawful (omega (arith, c.running.ensures, c.if-running-gt0.false)),
  some_failed c.standings_tell.ensures c.steps_name.ensures c.lists_count.ensures task c.args.graph.now c.args.self.now steps at lawful (omega (arith, c.failed.ensures, c.if-failed-gt0.true)),
)

pub returns-clause-lawful : goal.returns-clause-lawful
returns-clause-lawful c = λ task steps at lawful. (
  none_judged c.standings_tell.ensures c.steps_name.ensures c.lists_count.ensures task c.args.graph.now c.args.self.now steps at lawful c.in_default.ensures,
  none_started c.standings_tell.ensures c.steps_name.ensures c.lists_count.ensures task c.args.graph.now c.args.self.now steps at lawful (elim c.if-has_room.branch [
    | then-has_room+in_default-first_to_start w ↦ λ limits. w.in_default-first_to_start.ensures
    | else-has_room w ↦ λ limits. absurd (false≢true (sym w.if-has_room.false ∙ (c.has_room.ensures ∙ limits)))
  ]),
  none_run c.standings_tell.ensures c.steps_name.ensures c.lists_count.ensures task c.args.graph.now c.args.self.now steps at lawful (omega (arith, c.running.ensures, c.if-running-gt0.false)),
  none_failed c.standings_tell.ensures c.steps_name.ensures c.lists_count.ensures task c.args.graph.now c.args.self.now steps at lawful (omega (arith, c.failed.ensures, c.if-failed-gt0.false)),
)

pub returns-in-Some-clause-loads : goal.returns-in-Some-clause-loads
returns-in-Some-clause-loads c = λ task steps at lawful. none_is_due task steps (none_named task c.args.graph.now at.stated at.over.plain)

pub returns-in-Some-first_to_start-clause-loads : goal.returns-in-Some-first_to_start-clause-loads
returns-in-Some-first_to_start-clause-loads c = λ task steps at lawful. none_is_due task steps (none_named task c.args.graph.now at.stated at.over.plain)

pub returns-then-running-gt0-clause-loads : goal.returns-then-running-gt0-clause-loads
returns-then-running-gt0-clause-loads c = λ task steps at lawful. none_is_due task steps (none_named task c.args.graph.now at.stated at.over.plain)

pub returns-then-failed-gt0-clause-loads : goal.returns-then-failed-gt0-clause-loads
returns-then-failed-gt0-clause-loads c = λ task steps at lawful. none_is_due task steps (none_named task c.args.graph.now at.stated at.over.plain)

pub returns-clause-loads : goal.returns-clause-loads
returns-clause-loads c = λ task steps at lawful. none_is_due task steps (none_named task c.args.graph.now at.stated at.over.plain)
