-- A running command ended.
use Rattle.std.proofs.Common.{◌≡◌, ℕ, suc, ◌+◌, ◌-◌, ◌<◌, filter, Bool, true, false, List, [], ◌∷◌, ◌++◌, Option, Some, length, get_or, refl, sym, ◌∙◌, ap, subst, arith}
use Rattle.std.proofs.Math.ListN.{set}
use Rattle.std.proofs.lemmas.Bool.{false≢true, eq-eqb}
use Rattle.model.specs.Graph.{has_number}
use Rattle.model.specs.Schedule.{Task, Step, Ended, running_in, Done}
use Rattle.theory.proofs.Lists.{has_number-one}
use Rattle.plan.specs.Turns.{Turns, group_at, runs_at, runs_in, set_runs, with_running}
use Rattle.graph.specs.declared.graph.Graph.{Graph}
use Rattle.plan.specs.declared.step.Standing.{Standing}
use Rattle.plan.specs.declared.step.Standing.TheVariants.{Running, Well, Failed}
use Rattle.plan.specs.Standing.{standing_at, is_running, is_failed, is_well, is_outside, is_phony}
use Rattle.plan.specs.Plan.{IsTallied, IsPooled}
use Rattle.plan.specs.Planned.{is_grouped, is_place, AreTaken}
use Rattle.plan.proofs.PlannedSteps.{stands_well, stands_failed, done_new, running_command}
use Rattle.plan.proofs.PlannedCounts.{stands_within}
use Rattle.plan.proofs.Runs.{one_if, runs_length, one_less_runs, running_ended}
use Rattle.plan.proofs.Stepping.{count_moves, tallied_next, pooled_next, IsHalf, half_next, same_groups}

module _ (standings : List Standing) (e edge : ℕ) (same : e ≡ edge) (running_now : standing_at standings edge ≡ Running) where
  pub stood : standing_at standings e ≡ Running
  stood = ap (standing_at standings) same ∙ running_now

  pub within : e < length standings
  within = stands_within is_running standings e refl (ap is_running stood)

  pub tallied_well : (running failed well : ℕ) → 0 < running → IsTallied standings running failed well → IsTallied (set standings e Well) (running - 1) failed (well + 1)
  tallied_well running failed well some tallied =
      let a : one_if (is_running (standing_at standings e)) ≡ 1 = ap (λ (s : Standing). one_if (is_running s)) stood in
      let b : one_if (is_failed (standing_at standings e)) ≡ 0 = ap (λ (s : Standing). one_if (is_failed s)) stood in
      let c : one_if (is_well (standing_at standings e)) ≡ 0 = ap (λ (s : Standing). one_if (is_well s)) stood in
      tallied_next standings e Well within running failed well (running - 1) failed (well + 1) tallied (omega (arith, a, some)) (omega (arith, b)) (omega (arith, c))

  pub tallied_failed : (running failed well : ℕ) → 0 < running → IsTallied standings running failed well → IsTallied (set standings e Failed) (running - 1) (failed + 1) well
  tallied_failed running failed well some tallied =
      let a : one_if (is_running (standing_at standings e)) ≡ 1 = ap (λ (s : Standing). one_if (is_running s)) stood in
      let b : one_if (is_failed (standing_at standings e)) ≡ 0 = ap (λ (s : Standing). one_if (is_failed s)) stood in
      let c : one_if (is_well (standing_at standings e)) ≡ 0 = ap (λ (s : Standing). one_if (is_well s)) stood in
      tallied_next standings e Failed within running failed well (running - 1) (failed + 1) well tallied (omega (arith, a, some)) (omega (arith, b)) (omega (arith, c))

  pub some_run : (running failed well : ℕ) → IsTallied standings running failed well → 0 < running
  some_run running failed well tallied =
      let m = count_moves standings e Well within is_running in
      let a : one_if (is_running (standing_at standings e)) ≡ 1 = ap (λ (s : Standing). one_if (is_running s)) stood in
      let t = tallied.runs in
      omega (arith, m, a, t)

  module _ (turns new : Turns) (is : new ≡ with_running turns e (runs_at turns e - 1)) where
    pub pooled_ended : (graph : Graph) (s : Standing) → is_outside s ≡ false → IsPooled graph standings turns → IsPooled graph (set standings e s) new
    pooled_ended graph s inside pooled =
        pooled_next standings e s within graph turns new (ap (λ (t : Turns). t.groups) is) (ap (λ (t : Turns). t.depths) is)
        (ap (λ (t : Turns). length t.running) is ∙ runs_length turns.running (group_at turns e) (runs_at turns e - 1)) (inside ∙ sym (ap is_outside stood)) pooled

    module _ (task : Task) (steps : List Step) (lawful : AreTaken task steps) (half : IsHalf task standings turns steps) (runs : has_number (running_in steps) (suc edge) ≡ true) where
      runs_here : has_number (running_in steps) (suc e) ≡ true
      runs_here = ap (λ (n : ℕ). has_number (running_in steps) (suc n)) same ∙ runs

      some_in : (w : Bool) (h : ℕ) → group_at turns e ≡ Some h → 0 < get_or turns.running h 0
      some_in w h at =
          let a = half.runs h in
          let b : length (filter (is_grouped turns h) (running_in steps)) ≡ one_if (is_place (group_at turns e) h) + length (filter (is_grouped turns h) (running_in (steps ++ Ended (suc e) w ∷ []))) = running_ended steps task lawful (is_grouped turns h) (suc e) w runs_here in
          let c : one_if (is_place (group_at turns e) h) ≡ 1 = ap (λ (o : Option ℕ). one_if (is_place o h)) at ∙ ap one_if (eq-eqb h h refl) in
          omega (arith, a, b, c)

      pub runs_ended : (w : Bool) (g : ℕ) → get_or new.running g 0 ≡ length (filter (is_grouped new g) (running_in (steps ++ Ended (suc e) w ∷ [])))
      runs_ended w g =
          let a : get_or new.running g 0 ≡ get_or (set_runs turns.running (group_at turns e) (runs_in turns.running (group_at turns e) - 1)) g 0 = ap (λ (t : Turns). get_or t.running g 0) is in
          let b = one_less_runs turns.running (group_at turns e) (some_in w) g in
          let c = half.runs g in
          let d : length (filter (is_grouped turns g) (running_in steps)) ≡ one_if (is_place (group_at turns e) g) + length (filter (is_grouped turns g) (running_in (steps ++ Ended (suc e) w ∷ []))) = running_ended steps task lawful (is_grouped turns g) (suc e) w runs_here in
          let h = same_groups turns new (ap (λ (t : Turns). t.groups) is) g (running_in (steps ++ Ended (suc e) w ∷ [])) in
          omega (arith, a, b, c, d, h)

      pub half_well : IsHalf task (set standings e Well) new (steps ++ Ended (suc edge) true ∷ [])
      half_well =
          subst (λ (n : ℕ). IsHalf task (set standings e Well) new (steps ++ Ended (suc n) true ∷ [])) same
          (half_next task standings turns steps half e Well within new (Ended (suc e) true) refl (sym (ap is_outside stood)) (sym (ap is_phony stood))
          (sym (stands_well task steps lawful (suc e)))
          (λ h. Done (suc e) (running_command task steps lawful (suc e) runs_here) (done_new steps (Ended (suc e) true) (suc e) (has_number-one (suc e))))
          (runs_ended true))

      pub half_failed : IsHalf task (set standings e Failed) new (steps ++ Ended (suc edge) false ∷ [])
      half_failed =
          subst (λ (n : ℕ). IsHalf task (set standings e Failed) new (steps ++ Ended (suc n) false ∷ [])) same
          (half_next task standings turns steps half e Failed within new (Ended (suc e) false) refl (sym (ap is_outside stood)) (sym (ap is_phony stood))
          (sym (stands_failed task steps lawful (suc e) runs_here))
          (λ h. absurd (false≢true h))
          (runs_ended false))
