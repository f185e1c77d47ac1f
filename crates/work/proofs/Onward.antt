-- One step more: what was taken so far, and what was done since a load was refused.
use Rattle.std.proofs.Common.{◌≡◌, inl, inr, ℕ, ◌≤◌, ◌<◌, not, Bool, true, false, List, [], ◌∷◌, ◌++◌, length, Option, Some, None, is_some, refl, sym, ◌∙◌, ap, subst, arith, append_assoc}
use Rattle.std.proofs.lemmas.List.{append-nil}
use Rattle.std.proofs.lemmas.Bool.{false≢true}
use Rattle.model.specs.Graph.{has_number}
use Rattle.model.specs.Reading.{IsInCone}
use Rattle.model.specs.Schedule.{Task, Step as Done, Judged, Started, Ended, IsLawfulStep, judged_in, running_in}
use Rattle.model.specs.SingleBuild.{task_of}
use Rattle.model.specs.Phases.{AreTakenIn}
use Rattle.theory.proofs.Lists.{has_number-is}
use Rattle.theory.proofs.Orderly.{orderly_step, orderly_push}
use Rattle.theory.proofs.Steps.{judged-append, in_either}
use Rattle.graph.specs.declared.graph.Graph.{Graph}
use Rattle.plan.specs.declared.plan.Plan.{Plan}
use Rattle.plan.specs.declared.step.Step.{Step}
use Rattle.plan.specs.declared.step.Step.TheVariants.{Wait}
use Rattle.plan.specs.Planned.{IsPlanned, AreTaken, IsNext, IsCountIn}
use Rattle.work.specs.Course.{Course, goes_on, IsSince}
use Rattle.work.specs.Going.{IsSaid, MayTakeIn, MayWait}

-- ---- what was taken

module _ (task : Task) (steps : List Done) (taken : AreTaken task steps) where
  pub taken_judged : (i : ℕ) (stale : Bool) → IsLawfulStep task steps (Judged i stale) → AreTaken task (steps ++ Judged i stale ∷ [])
  taken_judged i stale next = record {
    orderly = orderly_push task.graph.edges steps (Judged i stale) taken.orderly (orderly_step task steps (Judged i stale) next);
    within = λ j judged. elim (in_either judged_in judged-append steps (Judged i stale ∷ []) j judged) [
      | inl before ↦ taken.within j before
      | inr here ↦ subst (λ (n : ℕ). IsInCone task.graph.edges task.recorded task.targets n) (has_number-is i j here) next.0.within
    ];
  }

  pub taken_started : (i : ℕ) → IsLawfulStep task steps (Started i) → AreTaken task (steps ++ Started i ∷ [])
  taken_started i next = record {
    orderly = orderly_push task.graph.edges steps (Started i) taken.orderly (orderly_step task steps (Started i) next);
    within = λ j judged. elim (in_either judged_in judged-append steps (Started i ∷ []) j judged) [
      | inl before ↦ taken.within j before
      | inr here ↦ absurd (false≢true here)
    ];
  }

  pub taken_ended : (i : ℕ) (well : Bool) → has_number (running_in steps) i ≡ true → AreTaken task (steps ++ Ended i well ∷ [])
  taken_ended i well runs = record {
    orderly = orderly_push task.graph.edges steps (Ended i well) taken.orderly runs;
    within = λ j judged. elim (in_either judged_in judged-append steps (Ended i well ∷ []) j judged) [
      | inl before ↦ taken.within j before
      | inr here ↦ absurd (false≢true here)
    ];
  }

-- ---- what was done since a load was refused

-- nothing is asked of a run that goes on
pub since_goes : (refused : Option (List Done)) → not (is_some refused) ≡ true → (steps : List Done) → IsSince refused steps
since_goes None goes steps = tt
since_goes (Some done) goes steps = absurd (false≢true goes)

ends_push : (before ended : List Done) (i : ℕ) (well : Bool) → AreTakenIn before ended → has_number (running_in (before ++ ended)) i ≡ true → AreTakenIn before (ended ++ Ended i well ∷ [])
ends_push before [] i well taken runs = (subst (λ (l : List Done). has_number (running_in l) i ≡ true) (append-nil before) runs, tt)
ends_push before (Judged j stale ∷ ended) i well taken runs = absurd taken
ends_push before (Started j ∷ ended) i well taken runs = absurd taken
ends_push before (Ended j ok ∷ ended) i well taken runs =
    (taken.0, ends_push (before ++ Ended j ok ∷ []) ended i well taken.1 (subst (λ (l : List Done). has_number (running_in l) i ≡ true) (sym (append_assoc before (Ended j ok ∷ []) ended)) runs))

pub since_ended : (refused : Option (List Done)) (steps : List Done) (i : ℕ) (well : Bool) → has_number (running_in steps) i ≡ true → IsSince refused steps → IsSince refused (steps ++ Ended i well ∷ [])
since_ended None steps i well runs since = tt
since_ended (Some done) steps i well runs since = (
  since.0 ++ Ended i well ∷ [],
  ap (λ (l : List Done). l ++ Ended i well ∷ []) since.1 ∙ append_assoc done since.0 (Ended i well ∷ []),
  ends_push done since.0 i well since.2 (subst (λ (l : List Done). has_number (running_in l) i ≡ true) since.1 runs),
)

-- ---- what the plan says next

pub said_next : (course : Course) (graph : Graph) (plan : Plan) (step : Step) (steps : List Done) → goes_on course ≡ true → IsPlanned (task_of course.asked course.store) graph plan steps → AreTaken (task_of course.asked course.store) steps
    → IsNext plan step → IsSaid course graph steps step
said_next course graph plan step steps goes planned taken next = record {
  goes = goes;
  lawful = next.lawful (task_of course.asked course.store) graph steps planned taken;
  loads = next.loads (task_of course.asked course.store) graph steps planned taken;
}

-- ---- a command may be taken in

-- by the plan, so by the steps
pub may_take : (course : Course) (graph : Graph) (plan : Plan) (steps : List Done) (goes : Bool) → goes_on course ≡ goes → IsPlanned (task_of course.asked course.store) graph plan steps → AreTaken (task_of course.asked course.store) steps
    → MayWait goes plan → MayTakeIn course steps
may_take course graph plan steps goes is planned taken may = record {
  runs = may.runs (task_of course.asked course.store) graph steps planned taken;
  lawful = λ on.
      let said = said_next course graph plan Wait steps on planned taken (may.waits (sym is ∙ on)) in
      (said.lawful.0, said.lawful.1, said.loads);
}

-- where it says to wait
pub may_wait : (plan : Plan) → IsNext plan Wait → MayWait true plan
may_wait plan next = record {
  runs = λ task graph steps planned taken. (next.lawful task graph steps planned taken).2;
  waits = λ goes. next;
}

-- behind a refused load while some run
pub may_finish : (plan : Plan) (count : ℕ) → IsCountIn plan running_in count → 0 < count → MayWait false plan
may_finish plan count many some = record {
  runs = λ task graph steps planned taken none.
      let same = many task graph steps planned taken in
      omega (arith, some, same, ap length none);
  waits = λ goes. absurd (false≢true goes);
}

-- until none does
pub none_runs : (steps : List Done) (count : ℕ) → count ≡ length (running_in steps) → count ≤ 0 → running_in steps ≡ []
none_runs steps count many none = by_list (running_in steps) many
  where
    by_list : (runs : List ℕ) → count ≡ length runs → runs ≡ []
    by_list [] is = refl
    by_list (x ∷ xs) is = absurd (omega (arith, is, none))
