-- A command that waited is started.
use Rattle.std.proofs.Common.{◌≡◌, ℕ, suc, ◌+◌, ◌<◌, filter, true, false, List, [], ◌∷◌, ◌++◌, Some, length, get_or, refl, sym, ◌∙◌, ap, subst, arith}
use Rattle.std.proofs.Math.ListN.{set}
use Rattle.std.proofs.lemmas.Bool.{false≢true, and_parts, ltb-true}
use Rattle.model.specs.Graph.{has_number}
use Rattle.model.specs.Schedule.{Task, Step, Started, started_in, running_in}
use Rattle.plan.specs.Flags.{has}
use Rattle.plan.specs.Turns.{Turns, group_at, room, may, runs_at, runs_in, set_runs, with_waiting, with_running}
use Rattle.graph.specs.declared.graph.Graph.{Graph}
use Rattle.plan.specs.declared.step.Standing.{Standing}
use Rattle.plan.specs.declared.step.Standing.TheVariants.{Outside, Unjudged, Clean, OutOfDate, Running, Well, Failed, Alias, Known}
use Rattle.plan.specs.Standing.{standing_at, is_out_of_date, is_running, is_failed, is_well, is_outside, is_phony}
use Rattle.plan.specs.Plan.{IsWaiting, IsTallied, IsPooled}
use Rattle.plan.specs.Planned.{is_grouped, is_place, AreTaken}
use Rattle.plan.proofs.PlannedSteps.{stands_started, not_ended}
use Rattle.plan.proofs.PlannedCounts.{stands_within}
use Rattle.plan.proofs.Runs.{one_if, at_least, filter_push, runs_length, one_more_runs, running_started}
use Rattle.plan.proofs.Stepping.{tallied_next, pooled_next, IsHalf, half_next, same_groups}

out_of_date_is : (s : Standing) → is_out_of_date s ≡ true → s ≡ OutOfDate
out_of_date_is Outside h = absurd (false≢true h)
out_of_date_is Unjudged h = absurd (false≢true h)
out_of_date_is Clean h = absurd (false≢true h)
out_of_date_is OutOfDate h = refl
out_of_date_is Running h = absurd (false≢true h)
out_of_date_is Well h = absurd (false≢true h)
out_of_date_is Failed h = absurd (false≢true h)
out_of_date_is Alias h = absurd (false≢true h)
out_of_date_is Known h = absurd (false≢true h)

module _ (standings : List Standing) (turns : Turns) (waits : IsWaiting standings turns) (e edge : ℕ) (same : e ≡ edge) (turn : may turns edge ≡ true) where
  parts : (has turns.waiting e ≡ true) × (room turns (group_at turns e) ≡ true)
  parts = and_parts (has turns.waiting e) (room turns (group_at turns e)) (ap (may turns) same ∙ turn)

  stale : is_out_of_date (standing_at standings e) ≡ true
  stale = sym (waits.waits e) ∙ parts.0

  pub stood : standing_at standings e ≡ OutOfDate
  stood = out_of_date_is (standing_at standings e) stale

  pub within : e < length standings
  within = stands_within is_out_of_date standings e refl stale

  pub tallied_started : (running failed well : ℕ) → IsTallied standings running failed well → IsTallied (set standings e Running) (running + 1) failed well
  tallied_started running failed well tallied =
      let a : one_if (is_running (standing_at standings e)) ≡ 0 = ap (λ (s : Standing). one_if (is_running s)) stood in
      let b : one_if (is_failed (standing_at standings e)) ≡ 0 = ap (λ (s : Standing). one_if (is_failed s)) stood in
      let c : one_if (is_well (standing_at standings e)) ≡ 0 = ap (λ (s : Standing). one_if (is_well s)) stood in
      tallied_next standings e Running within running failed well (running + 1) failed well tallied (omega (arith, a)) (omega (arith, b)) (omega (arith, c))

  module _ (new : Turns) (is : new ≡ with_running (with_waiting turns e false) e (suc (runs_at turns e))) where
    pub pooled_started : (graph : Graph) → IsPooled graph standings turns → IsPooled graph (set standings e Running) new
    pooled_started graph pooled =
        pooled_next standings e Running within graph turns new (ap (λ (t : Turns). t.groups) is) (ap (λ (t : Turns). t.depths) is)
        (ap (λ (t : Turns). length t.running) is ∙ runs_length turns.running (group_at turns e) (suc (runs_at turns e))) (sym (ap is_outside stood)) pooled

    in_pool : (graph : Graph) → IsPooled graph standings turns → (h : ℕ) → group_at turns e ≡ Some h → h < length turns.running
    in_pool graph pooled h at =
        let free = ltb-true (get_or turns.running h 0) (get_or turns.depths h 0) (sym (ap (room turns) at) ∙ parts.1) in
        let deep = at_least turns.depths h (omega (arith, free)) in
        omega (arith, deep, pooled.fits)

    pub half_started : (task : Task) (graph : Graph) (steps : List Step) → IsPooled graph standings turns → AreTaken task steps → has_number (started_in steps) (suc edge) ≡ false
        → IsHalf task standings turns steps → IsHalf task (set standings e Running) new (steps ++ Started (suc edge) ∷ [])
    half_started task graph steps pooled lawful fresh half =
        subst (λ (n : ℕ). IsHalf task (set standings e Running) new (steps ++ Started (suc n) ∷ [])) same
        (half_next task standings turns steps half e Running within new (Started (suc e)) refl (sym (ap is_outside stood)) (sym (ap is_phony stood))
        (sym (stands_started task steps lawful (suc e) first)) (λ h. absurd (false≢true h)) runs)
      where
        first : has_number (started_in steps) (suc e) ≡ false
        first = ap (λ (n : ℕ). has_number (started_in steps) (suc n)) same ∙ fresh

        runs : (g : ℕ) → get_or new.running g 0 ≡ length (filter (is_grouped new g) (running_in (steps ++ Started (suc e) ∷ [])))
        runs g =
            let a : get_or new.running g 0 ≡ get_or (set_runs turns.running (group_at turns e) (suc (runs_in turns.running (group_at turns e)))) g 0 = ap (λ (t : Turns). get_or t.running g 0) is in
            let b = one_more_runs turns.running (group_at turns e) (in_pool graph pooled) g in
            let c = half.runs g in
            let d : length (filter (is_grouped turns g) (running_in steps ++ suc e ∷ [])) ≡ length (filter (is_grouped turns g) (running_in steps)) + one_if (is_place (group_at turns e) g) = filter_push (is_grouped turns g) (running_in steps) (suc e) in
            let f : length (filter (is_grouped turns g) (running_in (steps ++ Started (suc e) ∷ []))) ≡ length (filter (is_grouped turns g) (running_in steps ++ suc e ∷ []))
            = ap (λ (l : List ℕ). length (filter (is_grouped turns g) l)) (running_started steps (suc e) (not_ended task steps lawful (suc e) first)) in
            let h = same_groups turns new (ap (λ (t : Turns). t.groups) is) g (running_in (steps ++ Started (suc e) ∷ [])) in
            omega (arith, a, b, c, d, f, h)
