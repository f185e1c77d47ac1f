-- What a run has done at its end.
use Rattle.std.proofs.Common.{◌≡◌, ℕ, Bool, true, List, length, Option, None, Some, Ok, Err, refl, sym, subst}
use Rattle.model.specs.World.{World}
use Rattle.model.specs.Calls.{OnlyLooks}
use Rattle.model.specs.Schedule.{Task, Step as Done, well_in}
use Rattle.model.specs.SingleBuild.{task_of}
use Rattle.theory.specs.Ledger.{IsCutOff}
use Rattle.theory.proofs.Ledger.{cut_off, carried_looks}
use Rattle.graph.specs.declared.graph.Graph.{Graph}
use Rattle.plan.specs.declared.plan.Plan.{Plan}
use Rattle.plan.specs.declared.step.End.TheVariants as ending
use Rattle.plan.specs.declared.step.End.{End}
use Rattle.plan.specs.declared.step.Step.TheVariants.{Load, Ended as Over}
use Rattle.plan.specs.Planned.{IsNext}
use Rattle.work.specs.declared.cut.Cut.{Cut}
use Rattle.work.specs.declared.summary.Summary.TheVariants.{Well, Failed}
use Rattle.work.specs.declared.state.Work.{Work}
use Rattle.work.specs.Course.{Course, goes_on, IsOn}
use Rattle.work.specs.Going.{IsOver, IsAtLoad, IsCut, IsInHand}
use Rattle.work.specs.Ran.{HasRun, AreEdgesOf}
use Rattle.work.proofs.Keeping.{Carried, cut_free}
use Rattle.work.proofs.Onward.{said_next}
use Rattle.work.proofs.Running.{noted_within}

module _ (tells : Bool) (course : Course) (graph : Graph) (now : World) where
  nothing : (task : Task) (steps : List Done) (i : ℕ) → None ≡ Some i → IsInHand task steps i
  nothing task steps i is = cc

  -- it was not cut off
  abbrev whole : (steps : List Done) → Carried tells course graph steps None now → IsCutOff tells course.behaviour course.format course.own course.asked course.store course.phases steps None course.entry now
  whole steps carried =
      let cut = cut_off tells course.behaviour course.format course.own course.asked course.store course.entry course.phases (goes_on course) steps None now carried in
      record { phased = carried.phased; run = cut.run; beside = cut.beside }

  -- all went well
  pub ran_well : (state : Work) (started : ℕ) (over : IsOver tells course graph state ending.Well now) → started ≡ length (well_in over.on.steps) → HasRun tells course now (Ok (Well started))
  ran_well state started over many = record {
    steps = over.on.steps;
    met = None;
    cut = whole over.on.steps over.on.carried;
    in_hand = nothing (task_of course.asked course.store) over.on.steps;
    since = over.on.since;
    ends = (refl, over.on.carried.run, over.over.lawful, over.over.loads, many);
    goes = over.on.carried.goes over.over.goes;
    removed = over.on.removed;
  }

  -- some commands failed
  pub ran_failed : (state : Work) → IsOver tells course graph state ending.Failed now → HasRun tells course now (Ok (Failed state.failed)) × AreEdgesOf graph (Failed state.failed)
  ran_failed state over = (
    record {
      steps = over.on.steps;
      met = None;
      cut = whole over.on.steps over.on.carried;
      in_hand = nothing (task_of course.asked course.store) over.on.steps;
      since = over.on.since;
      ends = (refl, over.on.carried.run, over.over.lawful, over.over.loads, over.on.noted);
      goes = over.on.carried.goes over.over.goes;
      removed = over.on.removed;
    },
    noted_within tells course graph None state now over.on,
  )

  -- a load is next
  pub at_load : (state : Work) (file : ℕ) → IsNext state.plan (Load file) → IsOn tells course graph None state now → IsAtLoad tells course graph state file now
  at_load state file next on =
      let named = on.planned.over.loading.loads_are.named file next.offered in
      record {
        on = on;
        next = next.loads (task_of course.asked course.store) graph on.steps on.planned on.taken;
        wanted = next.offered;
        known = on.planned.stated.known named.edge file named.names;
      }

  -- nothing is left to do
  pub at_end : (state : Work) (end : End) → IsNext state.plan (Over end) → goes_on course ≡ true → IsOn tells course graph None state now → IsOver tells course graph state end now
  at_end state end next goes on = record { on = on; over = said_next course graph state.plan (Over end) on.steps goes on.planned on.taken next }

  -- a call that only looked met the fault
  pub cut_looking : (state : Work) (plan : Plan) (new : World) → plan ≡ state.plan → OnlyLooks tells now new → IsOn tells course graph None state now → IsCut tells course graph plan new
  cut_looking state plan new same looks on =
      subst (λ (p : Plan). IsCut tells course graph p new) (sym {A = Plan} same)
      (cut_free tells course graph state.plan new on.steps on.planned on.taken on.since (carried_looks tells course.behaviour course.format course.own course.asked course.store course.entry course.phases (goes_on course) on.steps None now new looks on.carried))

  -- a fault has cut it off, and since then commands were taken in
  pub ran_cut : (plan : Plan) (last : World) (cut : Cut) → IsCut tells course graph plan now
      → ((steps : List Done) (met : Option ℕ) → IsCutOff tells course.behaviour course.format course.own course.asked course.store course.phases steps met course.entry now
      → IsCutOff tells course.behaviour course.format course.own course.asked course.store course.phases steps met course.entry last)
      → HasRun tells course last (Err cut)
  ran_cut plan last cut at rest = record { steps = at.steps; met = at.met; cut = rest at.steps at.met at.cut; in_hand = at.in_hand; since = at.since; ends = tt; goes = tt; removed = tt }
