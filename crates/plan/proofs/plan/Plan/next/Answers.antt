use Rattle.std.proofs.Common.{◌∙◌, ℕ, suc, sym, subst, arith}
use Rattle.std.proofs.lemmas.Bool.{false≢true}
use Rattle.model.specs.Schedule.{IsLawfulStep, Judged, Started}
use Rattle.plan.proofs.Due.{first_listed, none_due, next_load}
use Rattle.plan.proofs.Judging.{judge_lawful, none_judged}
use Rattle.plan.proofs.Starting.{start_lawful, none_started, some_run, none_run, some_failed, none_failed}
use Rattle.plan.proofs.plan.Plan.next.Goals as goal
use Rattle.plan.proofs.plan.Plan.next.Goals.{then-has_room+in_default-first-2, else-has_room}

pub returns-in-Some-clause-offered : goal.returns-in-Some-clause-offered
returns-in-Some-clause-offered c = first_listed c.args.self.now.there.items c.args.self.now.loads.items c.in-Some.file c.in-Some.ensures

pub returns-in-Some-clause-loads : goal.returns-in-Some-clause-loads
returns-in-Some-clause-loads c = λ task graph steps at lawful. next_load task graph c.args.self.now steps at lawful c.in-Some.file c.in-Some.ensures

pub returns-in-Some-first-clause-loads : goal.returns-in-Some-first-clause-loads
returns-in-Some-first-clause-loads c = λ task graph steps at lawful. none_due task graph c.args.self.now steps at lawful c.in_default.ensures

pub returns-in-Some-first-2-clause-loads : goal.returns-in-Some-first-2-clause-loads
returns-in-Some-first-2-clause-loads c = λ task graph steps at lawful. none_due task graph c.args.self.now steps at lawful c.in_default.ensures

pub returns-then-self-gt0-clause-loads : goal.returns-then-self-gt0-clause-loads
returns-then-self-gt0-clause-loads c = λ task graph steps at lawful. none_due task graph c.args.self.now steps at lawful c.in_default.ensures

pub returns-then-self-gt0-2-clause-loads : goal.returns-then-self-gt0-2-clause-loads
returns-then-self-gt0-2-clause-loads c = λ task graph steps at lawful. none_due task graph c.args.self.now steps at lawful c.in_default.ensures

pub returns-clause-loads : goal.returns-clause-loads
returns-clause-loads c = λ task graph steps at lawful. none_due task graph c.args.self.now steps at lawful c.in_default.ensures

pub returns-in-Some-first-clause-lawful : goal.returns-in-Some-first-clause-lawful
returns-in-Some-first-clause-lawful c = λ task graph steps at lawful stale.
    subst (λ (e : ℕ). IsLawfulStep task steps (Judged (suc e) stale)) (sym c.at_below.ensures)
    (judge_lawful task graph c.args.self.now steps at lawful c.in-Some-first.place c.in-Some-first.ensures stale)

pub returns-in-Some-first-2-clause-lawful : goal.returns-in-Some-first-2-clause-lawful
returns-in-Some-first-2-clause-lawful c = λ task graph steps at lawful.
    subst (λ (e : ℕ). IsLawfulStep task steps (Started (suc e))) (sym c.at_below-in-Some-first-2.ensures)
    (start_lawful task graph c.args.self.now steps at lawful c.in-Some-first-2.place c.in_default-first.ensures (sym c.has_room.ensures ∙ c.if-has_room.true) c.in-Some-first-2.ensures)

pub returns-then-self-gt0-clause-lawful : goal.returns-then-self-gt0-clause-lawful
returns-then-self-gt0-clause-lawful c = λ task graph steps at lawful. (
  none_judged task graph c.args.self.now steps at lawful c.in_default-first.ensures,
  none_started task graph c.args.self.now steps at lawful (elim c.if-has_room.branch [
    | then-has_room+in_default-first-2 w ↦ λ limits. w.in_default-first-2.ensures
    | else-has_room w ↦ λ limits. absurd (false≢true (sym w.if-has_room.false ∙ (c.has_room.ensures ∙ limits)))
  ]),
  some_run task graph c.args.self.now steps at lawful (omega arith),
)

pub returns-then-self-gt0-2-clause-lawful : goal.returns-then-self-gt0-2-clause-lawful
returns-then-self-gt0-2-clause-lawful c = λ task graph steps at lawful. (
  none_judged task graph c.args.self.now steps at lawful c.in_default-first.ensures,
  none_started task graph c.args.self.now steps at lawful (elim c.if-has_room.branch [
    | then-has_room+in_default-first-2 w ↦ λ limits. w.in_default-first-2.ensures
    | else-has_room w ↦ λ limits. absurd (false≢true (sym w.if-has_room.false ∙ (c.has_room.ensures ∙ limits)))
  ]),
  none_run task graph c.args.self.now steps at lawful (omega arith),
  some_failed task graph c.args.self.now steps at lawful (omega arith),
)

pub returns-clause-lawful : goal.returns-clause-lawful
returns-clause-lawful c = λ task graph steps at lawful. (
  none_judged task graph c.args.self.now steps at lawful c.in_default-first.ensures,
  none_started task graph c.args.self.now steps at lawful (elim c.if-has_room.branch [
    | then-has_room+in_default-first-2 w ↦ λ limits. w.in_default-first-2.ensures
    | else-has_room w ↦ λ limits. absurd (false≢true (sym w.if-has_room.false ∙ (c.has_room.ensures ∙ limits)))
  ]),
  none_run task graph c.args.self.now steps at lawful (omega arith),
  none_failed task graph c.args.self.now steps at lawful (omega arith),
)
