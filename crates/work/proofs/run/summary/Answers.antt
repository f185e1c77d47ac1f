use Rattle.std.proofs.Common.{subst, sym, Ok}
use Rattle.model.specs.SingleBuild.{task_of}
use Rattle.plan.specs.declared.step.End.{End}
use Rattle.plan.specs.declared.plan.Plan.{Plan}
use Rattle.plan.specs.Planned.{IsPlanned}
use Rattle.work.specs.declared.summary.Summary.TheVariants.{Failed}
use Rattle.work.specs.Going.{IsOver}
use Rattle.work.specs.Ran.{HasRun, AreEdgesOf}
use Rattle.work.proofs.Ends.{ran_well, ran_failed}
use Rattle.work.proofs.run.summary.Goals as goal

pub returns-in-Well : goal.returns-in-Well
returns-in-Well c tells course graph state now plan failed ends =
    let over = subst (λ (end : End). IsOver tells course graph state end now) c.in-Well.is ends in (
      ran_well tells course graph now state c.well.result over
          (c.well.ensures.steps (task_of course.asked course.store) graph over.on.steps (subst (λ (p : Plan). IsPlanned (task_of course.asked course.store) graph p over.on.steps) (sym {A = Plan} plan) over.on.planned) over.on.taken),
      tt,
    )

pub returns-in-Failed : goal.returns-in-Failed
returns-in-Failed c tells course graph state now plan failed ends =
    let over = subst (λ (end : End). IsOver tells course graph state end now) c.in-Failed.is ends in
    subst (λ f. HasRun tells course now (Ok (Failed f)) × AreEdgesOf graph (Failed f)) (sym failed) (ran_failed tells course graph now state over)
