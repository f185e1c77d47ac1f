-- A plan that was told of one more step.
use Rattle.std.proofs.Common.{◌≡◌, ℕ, suc, ◌<◌, Bool, true, false, List, [], ◌∷◌, ◌++◌, length, refl, sym, ◌∙◌, ap, subst}
use Rattle.std.proofs.Math.ListN.{set}
use Rattle.std.proofs.lemmas.Bool.{false≢true}
use Rattle.model.specs.Graph.{has_number, IsCommand}
use Rattle.model.specs.Schedule.{Task, Step, Judged, Started, Ended, running_in, done_in, Done, IsLawfulStep}
use Rattle.theory.proofs.Lists.{has_number-one}
use Rattle.theory.proofs.Orderly.{kept_orderly}
use Rattle.theory.proofs.Steps.{running_parts}
use Rattle.graph.specs.declared.graph.Graph.{Graph}
use Rattle.plan.specs.declared.step.Standing.{Standing}
use Rattle.plan.specs.declared.step.Standing.TheVariants.{Unjudged, Clean, OutOfDate, Running, Well, Failed}
use Rattle.plan.specs.declared.step.Verdict.{Verdict}
use Rattle.plan.specs.declared.step.Verdict.TheVariants as verdict
use Rattle.plan.specs.Standing.{standing_at, is_unjudged, is_out_of_date, is_running, is_alias, is_outside, is_phony}
use Rattle.plan.specs.Plan.{standing_by, standing_after, IsSettling}
use Rattle.plan.specs.Planned.{IsTaskOf, AreTaken, is_stale}
use Rattle.plan.specs.Steps.{StepsMove}
use Rattle.plan_plain.specs.declared.plain.Plan.{Plan}
use Rattle.plan_plain.specs.Planned.{IsPlanOver, IsPlanned, AreStood, IsSound, AreAliases}
use Rattle.plan_plain.proofs.Changing.{AliasesOnly, stands_within, settling}
use Rattle.plan_plain.proofs.Stood.{done_new, stood_next, stood_aliases, stood_after}

abbrev pub at_same : (standings : List Standing) (e edge : ℕ) → e ≡ edge → (s : Standing) → standing_at standings edge ≡ s → standing_at standings e ≡ s
at_same standings e edge same s is = ap (standing_at standings) same ∙ is

pub unjudged_within : (standings : List Standing) (e : ℕ) → standing_at standings e ≡ Unjudged → e < length standings
unjudged_within standings e is = stands_within is_unjudged standings e refl (ap is_unjudged is)

pub out_of_date_within : (standings : List Standing) (e : ℕ) → standing_at standings e ≡ OutOfDate → e < length standings
out_of_date_within standings e is = stands_within is_out_of_date standings e refl (ap is_out_of_date is)

pub running_within : (standings : List Standing) (e : ℕ) → standing_at standings e ≡ Running → e < length standings
running_within standings e is = stands_within is_running standings e refl (ap is_running is)

running_command : (task : Task) (steps : List Step) → AreTaken task steps → (i : ℕ) → has_number (running_in steps) i ≡ true → IsCommand task.graph.edges i
running_command task steps lawful i h =
    let kept = kept_orderly task.graph.edges steps lawful.orderly in
    kept.judged i (kept.out_of_date i (kept.started i (running_parts steps i h).0))

-- ---- one edge stands otherwise

module _ (move : StepsMove) (task : Task) (standings : List Standing) (steps : List Step) (lawful : AreTaken task steps) (stood : AreStood task standings steps) (e edge : ℕ) (same : e ≡ edge) where
  pub stood_judged : (v : Verdict) → standing_at standings e ≡ Unjudged → IsLawfulStep task steps (Judged (suc edge) (is_stale v)) → AreStood task (set standings e (standing_by v)) (steps ++ Judged (suc edge) (is_stale v) ∷ [])
  stood_judged verdict.Clean is next =
      let mine : IsLawfulStep task steps (Judged (suc e) false) = subst (λ (n : ℕ). IsLawfulStep task steps (Judged (suc n) false)) (sym same) next in
      subst (λ (n : ℕ). AreStood task (set standings e Clean) (steps ++ Judged (suc n) false ∷ [])) same
      (stood_next task standings steps stood move e Clean (unjudged_within standings e is) (Judged (suc e) false) refl (sym (ap is_outside is)) (sym (ap is_phony is))
      (sym (move.own task steps (Judged (suc e) false) lawful mine))
      (λ h. Done (suc e) mine.0.command (done_new steps (Judged (suc e) false) (suc e) (has_number-one (suc e)))))
  stood_judged verdict.OutOfDate is next =
      let mine : IsLawfulStep task steps (Judged (suc e) true) = subst (λ (n : ℕ). IsLawfulStep task steps (Judged (suc n) true)) (sym same) next in
      subst (λ (n : ℕ). AreStood task (set standings e OutOfDate) (steps ++ Judged (suc n) true ∷ [])) same
      (stood_next task standings steps stood move e OutOfDate (unjudged_within standings e is) (Judged (suc e) true) refl (sym (ap is_outside is)) (sym (ap is_phony is))
      (sym (move.own task steps (Judged (suc e) true) lawful mine))
      (λ h. absurd (false≢true h)))

  pub stood_started : standing_at standings e ≡ OutOfDate → IsLawfulStep task steps (Started (suc edge)) → AreStood task (set standings e Running) (steps ++ Started (suc edge) ∷ [])
  stood_started is next =
      let mine : IsLawfulStep task steps (Started (suc e)) = subst (λ (n : ℕ). IsLawfulStep task steps (Started (suc n))) (sym same) next in
      subst (λ (n : ℕ). AreStood task (set standings e Running) (steps ++ Started (suc n) ∷ [])) same
      (stood_next task standings steps stood move e Running (out_of_date_within standings e is) (Started (suc e)) refl (sym (ap is_outside is)) (sym (ap is_phony is))
      (sym (move.own task steps (Started (suc e)) lawful mine))
      (λ h. absurd (false≢true h)))

  pub stood_ended : (ok : Bool) → standing_at standings e ≡ Running → IsLawfulStep task steps (Ended (suc edge) ok) → AreStood task (set standings e (standing_after ok)) (steps ++ Ended (suc edge) ok ∷ [])
  stood_ended true is next =
      let mine : IsLawfulStep task steps (Ended (suc e) true) = subst (λ (n : ℕ). IsLawfulStep task steps (Ended (suc n) true)) (sym same) next in
      subst (λ (n : ℕ). AreStood task (set standings e Well) (steps ++ Ended (suc n) true ∷ [])) same
      (stood_next task standings steps stood move e Well (running_within standings e is) (Ended (suc e) true) refl (sym (ap is_outside is)) (sym (ap is_phony is))
      (sym (move.own task steps (Ended (suc e) true) lawful mine))
      (λ h. Done (suc e) (running_command task steps lawful (suc e) mine.0) (done_new steps (Ended (suc e) true) (suc e) (has_number-one (suc e)))))
  stood_ended false is next =
      let mine : IsLawfulStep task steps (Ended (suc e) false) = subst (λ (n : ℕ). IsLawfulStep task steps (Ended (suc n) false)) (sym same) next in
      subst (λ (n : ℕ). AreStood task (set standings e Failed) (steps ++ Ended (suc n) false ∷ [])) same
      (stood_next task standings steps stood move e Failed (running_within standings e is) (Ended (suc e) false) refl (sym (ap is_outside is)) (sym (ap is_phony is))
      (sym (move.own task steps (Ended (suc e) false) lawful mine))
      (λ h. absurd (false≢true h)))

-- ---- and then aliases are settled

pub planned_now : (task : Task) (graph : Graph) (new : Plan) (middle : List Standing) (steps : List Step) → IsTaskOf task graph → (new.jobs ≡ task.jobs) × (new.keep ≡ task.keep) → IsPlanOver graph new
    → AreStood task middle steps → AliasesOnly middle new.standings.items
    → (AreAliases task.graph.edges middle → IsSound task.graph.edges (done_in steps) middle → IsSound task.graph.edges (done_in steps) new.standings.items)
    → IsPlanned task graph new steps
planned_now task graph new middle steps stated limits over stood each sound = record {
  stated = stated;
  limits = limits;
  over = over;
  stood = stood_after task middle steps stood new.standings.items each (sound (stood_aliases task middle steps stood) stood.settled);
}

plain_by : (v : Verdict) → is_alias (standing_by v) ≡ false
plain_by verdict.Clean = refl
plain_by verdict.OutOfDate = refl

plain_after : (ok : Bool) → is_alias (standing_after ok) ≡ false
plain_after true = refl
plain_after false = refl

module _ (standings now : List Standing) (e edge : ℕ) (same : e ≡ edge) (lt : e < length standings) (s : Standing) (fits : length now ≡ length (set standings e s)) (each : AliasesOnly (set standings e s) now) where
  pub settling_judged : (v : Verdict) → s ≡ standing_by v → IsSettling standings now edge (standing_by v)
  settling_judged v is = subst (λ (t : Standing). IsSettling standings now edge t) is (settling standings e s lt edge same now (ap is_alias is ∙ plain_by v) fits each)

  pub settling_ended : (ok : Bool) → s ≡ standing_after ok → IsSettling standings now edge (standing_after ok)
  settling_ended ok is = subst (λ (t : Standing). IsSettling standings now edge t) is (settling standings e s lt edge same now (ap is_alias is ∙ plain_after ok) fits each)
