-- An edge was judged, or its command ended, and aliases are settled by it.
use Rattle.std.proofs.Common.{◌≡◌, ◌≢◌, ◌⊎◌, inl, inr, ℕ, zero, suc, ◌<◌, ◌==◌, filter, Bool, true, false, List, [], ◌∷◌, ◌++◌, Option, None, length, get_or, refl, sym, ◌∙◌, ap, subst, arith}
use Rattle.std.proofs.Math.ListN.{set}
use Rattle.std.proofs.lemmas.List.{length-set, get_or-set_other}
use Rattle.std.proofs.lemmas.Bool.{false≢true, true≢false, and_parts}
use Rattle.model.specs.Graph.{has_number, edge_at, IsCommand}
use Rattle.model.specs.Schedule.{Task, Step, Judged, judged_in, running_in, done_in, IsSettled, Done}
use Rattle.theory.proofs.Lists.{has_number-one}
use Rattle.plan.specs.Flags.{has}
use Rattle.plan.specs.Turns.{Turns, with_waiting}
use Rattle.graph.specs.declared.graph.Graph.{Graph}
use Rattle.plan.specs.declared.step.Standing.{Standing}
use Rattle.plan.specs.declared.step.Standing.TheVariants.{Outside, Unjudged, Clean, OutOfDate, Running, Well, Failed, Alias, Known}
use Rattle.plan.specs.Standing.{standing_at, is_unjudged, is_alias, is_running, is_failed, is_well, is_outside, is_phony, is_settled}
use Rattle.plan.specs.Plan.{IsReady, IsTallied, IsPooled, IsSettling}
use Rattle.plan.specs.Loads.{IsLoading}
use Rattle.plan.specs.Planned.{is_grouped, AreTaken}
use Rattle.plan.proofs.PlannedSteps.{stands_clean, stands_stale, done_new}
use Rattle.plan.proofs.PlannedCounts.{stands_within}
use Rattle.plan.proofs.Runs.{one_if, running_judged}
use Rattle.plan.proofs.Stepping.{here, test_same, sets_judged, tallied_next, IsHalf, half_next, half_settled, same_groups}

unjudged_is : (s : Standing) → is_unjudged s ≡ true → s ≡ Unjudged
unjudged_is Outside h = absurd (false≢true h)
unjudged_is Unjudged h = refl
unjudged_is Clean h = absurd (false≢true h)
unjudged_is OutOfDate h = absurd (false≢true h)
unjudged_is Running h = absurd (false≢true h)
unjudged_is Well h = absurd (false≢true h)
unjudged_is Failed h = absurd (false≢true h)
unjudged_is Alias h = absurd (false≢true h)
unjudged_is Known h = absurd (false≢true h)

flag_range : (flags : List Bool) (k : ℕ) → has flags k ≡ true → k < length flags
flag_range [] k is = absurd (false≢true is)
flag_range (x ∷ flags) zero is = omega arith
flag_range (x ∷ flags) (suc k) is = let rest = flag_range flags k is in omega (arith, rest)

module _ (standings : List Standing) (left : List ℕ) (ready pending : List Bool) (sets : IsReady standings left ready pending) (e edge : ℕ) (same : e ≡ edge) (turn : has ready edge ≡ true) where
  fresh : is_unjudged (standing_at standings e) ≡ true
  fresh = (and_parts (is_unjudged (standing_at standings e)) (get_or left e 0 == 0) (sym (sets.ready e) ∙ (ap (has ready) same ∙ turn))).0

  pub stood : standing_at standings e ≡ Unjudged
  stood = unjudged_is (standing_at standings e) fresh

  pub within : e < length standings
  within = stands_within is_unjudged standings e refl fresh

  pub sets_now : (s : Standing) (new : List Bool) → is_unjudged s ≡ false → is_alias s ≡ false → new ≡ set ready e false → IsReady (set standings e s) left new pending
  sets_now s new judged alias is =
      subst (λ (f : List Bool). IsReady (set standings e s) left f pending) (sym is)
      (sets_judged standings e s within left ready pending judged (alias ∙ sym (ap is_alias stood)) (flag_range ready e (ap (has ready) same ∙ turn)) sets)

  pub tallied_judged : (s : Standing) (running failed well : ℕ) → is_running s ≡ false → is_failed s ≡ false → is_well s ≡ false → IsTallied standings running failed well → IsTallied (set standings e s) running failed well
  tallied_judged s running failed well x y z tallied =
      let a : one_if (is_running (standing_at standings e)) ≡ one_if (is_running s) = ap one_if (ap is_running stood ∙ sym x) in
      let b : one_if (is_failed (standing_at standings e)) ≡ one_if (is_failed s) = ap one_if (ap is_failed stood ∙ sym y) in
      let c : one_if (is_well (standing_at standings e)) ≡ one_if (is_well s) = ap one_if (ap is_well stood ∙ sym z) in
      tallied_next standings e s within running failed well running failed well tallied (omega (arith, a)) (omega (arith, b)) (omega (arith, c))

  module _ (task : Task) (turns : Turns) (steps : List Step) (lawful : AreTaken task steps) (half : IsHalf task standings turns steps) (once : has_number (judged_in steps) (suc edge) ≡ false) where
    once_here : has_number (judged_in steps) (suc e) ≡ false
    once_here = ap (λ (n : ℕ). has_number (judged_in steps) (suc n)) same ∙ once

    pub half_clean : IsCommand task.graph.edges (suc edge) → IsHalf task (set standings e Clean) turns (steps ++ Judged (suc edge) false ∷ [])
    half_clean command =
        subst (λ (n : ℕ). IsHalf task (set standings e Clean) turns (steps ++ Judged (suc n) false ∷ [])) same
        (half_next task standings turns steps half e Clean within turns (Judged (suc e) false) refl (sym (ap is_outside stood)) (sym (ap is_phony stood))
        (sym (stands_clean task steps lawful (suc e) once_here))
        (λ h. Done (suc e) (subst (λ (n : ℕ). IsCommand task.graph.edges (suc n)) (sym same) command) (done_new steps (Judged (suc e) false) (suc e) (has_number-one (suc e))))
        (λ g. half.runs g ∙ sym (ap (λ (l : List ℕ). length (filter (is_grouped turns g) l)) (running_judged steps (suc e) false))))

    pub half_stale : (new : Turns) → new ≡ with_waiting turns e true → IsHalf task (set standings e OutOfDate) new (steps ++ Judged (suc edge) true ∷ [])
    half_stale new is =
        subst (λ (n : ℕ). IsHalf task (set standings e OutOfDate) new (steps ++ Judged (suc n) true ∷ [])) same
        (half_next task standings turns steps half e OutOfDate within new (Judged (suc e) true) refl (sym (ap is_outside stood)) (sym (ap is_phony stood))
        (sym (stands_stale task steps lawful (suc e) once_here))
        (λ h. absurd (false≢true h))
        (λ g. ap (λ (t : Turns). get_or t.running g 0) is
        ∙ (half.runs g
        ∙ (sym (ap (λ (l : List ℕ). length (filter (is_grouped turns g) l)) (running_judged steps (suc e) true))
        ∙ same_groups turns new (ap (λ (t : Turns). t.groups) is) g (running_in (steps ++ Judged (suc e) true ∷ []))))))

-- ---- and then aliases are

abbrev pub AliasesOnly : List Standing → List Standing → Type 0
AliasesOnly old new = (k : ℕ) → (standing_at new k ≡ standing_at old k) ⊎ ((standing_at old k ≡ Alias) × (standing_at new k ≡ Known))

pub half_after : (task : Task) (standings now : List Standing) (turns new : Turns) (steps : List Step) → IsHalf task standings turns steps → new ≡ turns → AliasesOnly standings now
    → (((k : ℕ) → standing_at standings k ≡ Alias → (edge_at task.graph.edges (suc k)).phony ≡ true) → ((k : ℕ) → is_settled (standing_at standings k) ≡ true → IsSettled task.graph.edges (done_in steps) (suc k))
    → (k : ℕ) → is_settled (standing_at now k) ≡ true → IsSettled task.graph.edges (done_in steps) (suc k))
    → IsHalf task now new steps
half_after task standings now turns new steps half is each sound =
    half_settled task standings turns steps half now new is each (sound (λ k stands. sym (half.kinds k (ap is_outside stands)) ∙ ap is_phony stands) half.settled)

pub pooled_after : (graph : Graph) (standings now : List Standing) (turns new : Turns) → new ≡ turns → AliasesOnly standings now → IsPooled graph standings turns → IsPooled graph now new
pooled_after graph standings now turns new is each pooled = subst (λ (t : Turns). IsPooled graph now t) (sym is) record {
  depths = pooled.depths;
  fits = pooled.fits;
  groups = λ k inside. pooled.groups k (same k ∙ inside);
}
  where
    same : (k : ℕ) → is_outside (standing_at standings k) ≡ is_outside (standing_at now k)
    same k = elim (each k) [
      | inl old ↦ sym (ap is_outside old)
      | inr alias ↦ ap is_outside alias.0 ∙ sym (ap is_outside alias.1)
    ]

-- what is to be loaded stays so
pub loads_same : (graph : Graph) (standings now : List Standing) (turns new : Turns) (loads : List ℕ) → new.groups ≡ turns.groups → ((k : ℕ) → is_outside (standing_at standings k) ≡ is_outside (standing_at now k))
    → IsLoading graph standings turns loads → IsLoading graph now new loads
loads_same graph standings now turns new loads groups same loading = record {
  loads_are = record {
    named = λ file h. let wanted = loading.loads_are.named file h in record { edge = wanted.edge; inside = sym (same wanted.edge) ∙ wanted.inside; names = wanted.names };
    all = λ e file inside names. loading.loads_are.all e file (same e ∙ inside) names;
    ordered = loading.loads_are.ordered;
  };
  all = λ some e. ap (λ (l : List (Option ℕ)). get_or l e None) groups ∙ loading.all some e;
}

pub loading_after : (graph : Graph) (standings now : List Standing) (turns new : Turns) (loads after : List ℕ) → new ≡ turns → AliasesOnly standings now → after ≡ loads → IsLoading graph standings turns loads → IsLoading graph now new after
loading_after graph standings now turns new loads after is each still loading = subst (IsLoading graph now new) (sym {A = List ℕ} still) (loads_same graph standings now turns new loads (ap (λ (t : Turns). t.groups) is) same loading)
  where
    same : (k : ℕ) → is_outside (standing_at standings k) ≡ is_outside (standing_at now k)
    same k = elim (each k) [
      | inl old ↦ sym (ap is_outside old)
      | inr alias ↦ ap is_outside alias.0 ∙ sym (ap is_outside alias.1)
    ]

pub loading_next : (graph : Graph) (standings : List Standing) (e : ℕ) (s : Standing) (lt : e < length standings) (turns new : Turns) (loads : List ℕ) → new.groups ≡ turns.groups → is_outside s ≡ is_outside (standing_at standings e)
    → IsLoading graph standings turns loads → IsLoading graph (set standings e s) new loads
loading_next graph standings e s lt turns new loads groups outside loading = loads_same graph standings (set standings e s) turns new loads groups (λ k. sym (test_same standings e s lt is_outside outside k)) loading

module _ (standings : List Standing) (e edge : ℕ) (same : e ≡ edge) (s : Standing) (lt : e < length standings) where
  others_set : (k : ℕ) → k ≢ edge → standing_at (set standings e s) k ≡ standing_at standings k
  others_set k other = get_or-set_other standings e k s Outside (λ h. other (h ∙ same))

  pub settling_alone : IsSettling standings (set standings e s) edge s
  settling_alone = record {
    fits = length-set standings e s;
    here = subst (λ (n : ℕ). standing_at (set standings e s) n ≡ s) same (here standings e s lt);
    others = λ k other. inl (others_set k other);
  }

  pub settling : (now : List Standing) → is_alias s ≡ false → length now ≡ length (set standings e s) → AliasesOnly (set standings e s) now → IsSettling standings now edge s
  settling now plain fits each = record {
    fits = fits ∙ length-set standings e s;
    here = subst (λ (n : ℕ). standing_at now n ≡ s) same (elim (each e) [
      | inl old ↦ old ∙ here standings e s lt
      | inr alias ↦ absurd (true≢false (sym (ap is_alias alias.0) ∙ (ap is_alias (here standings e s lt) ∙ plain)))
    ]);
    others = λ k other. elim (each k) [
      | inl old ↦ inl (old ∙ others_set k other)
      | inr alias ↦ inr (sym (others_set k other) ∙ alias.0, alias.1)
    ];
  }
