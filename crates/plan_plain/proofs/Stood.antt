-- How edges stand after one more step, and when aliases are settled.
use Rattle.std.proofs.Common.{◌≡◌, inl, inr, ℕ, suc, ◌<◌, ◌&&◌, Bool, true, false, ◌||◌, List, [], ◌∷◌, ◌++◌, length, refl, sym, ◌∙◌, ap, subst, arith}
use Rattle.std.proofs.Math.ListN.{set}
use Rattle.std.proofs.lemmas.List.{get_or-set_other}
use Rattle.std.proofs.lemmas.Bool.{false≢true, true≢false, cases_eq}
use Rattle.model.specs.declared.graph.Edge.{Edge}
use Rattle.model.specs.Graph.{edge_at, has_number}
use Rattle.model.specs.Schedule.{Task, Step, clean_in, well_in, done_in, IsSettled}
use Rattle.theory.proofs.Lists.{has_number-append}
use Rattle.theory.proofs.Settled.{settled_more}
use Rattle.theory.proofs.Steps.{in_push, clean-append, well-append}
use Rattle.plan.specs.declared.step.Standing.{Standing}
use Rattle.plan.specs.declared.step.Standing.TheVariants.{Outside, Alias, Known}
use Rattle.graph.specs.Links.{Links}
use Rattle.plan.specs.Standing.{standing_at, is_alias, is_outside, is_phony, is_settled}
use Rattle.plan.specs.Planned.{standing_in}
use Rattle.plan.specs.Steps.{edge_of, StepsMove}
use Rattle.plan_plain.specs.Scan.{waits_for_nothing, may_settle, NonePasses}
use Rattle.plan_plain.specs.Planned.{AreStood, IsSound, AreAliases}
use Rattle.plan_plain.proofs.Waiting.{waits_same}
use Rattle.plan_plain.proofs.Changing.{AliasesOnly, here, test_same}

-- what is done after one more step was done before, or by that step
module _ (steps : List Step) (step : Step) (j : ℕ) where
  done_push : has_number (done_in (steps ++ step ∷ [])) j ≡ ((has_number (clean_in steps) j || has_number (clean_in (step ∷ [])) j) || (has_number (well_in steps) j || has_number (well_in (step ∷ [])) j))
  done_push =
      has_number-append (clean_in (steps ++ step ∷ [])) (well_in (steps ++ step ∷ [])) j
      ∙ (ap (λ (b : Bool). b || has_number (well_in (steps ++ step ∷ [])) j) (in_push clean_in clean-append steps step j)
      ∙ ap (λ (b : Bool). (has_number (clean_in steps) j || has_number (clean_in (step ∷ [])) j) || b) (in_push well_in well-append steps step j))

  pub done_more : has_number (done_in steps) j ≡ true → has_number (done_in (steps ++ step ∷ [])) j ≡ true
  done_more h = done_push ∙ first (has_number (clean_in steps) j) (has_number (clean_in (step ∷ [])) j) (has_number (well_in steps) j) (has_number (well_in (step ∷ [])) j) (sym (has_number-append (clean_in steps) (well_in steps) j) ∙ h)
    where
      first : (a b c d : Bool) → (a || c) ≡ true → ((a || b) || (c || d)) ≡ true
      first true b c d h = refl
      first false true c d h = refl
      first false false true d h = refl
      first false false false d h = absurd (false≢true h)

  pub done_new : has_number (done_in (step ∷ [])) j ≡ true → has_number (done_in (steps ++ step ∷ [])) j ≡ true
  done_new h = done_push ∙ second (has_number (clean_in steps) j) (has_number (clean_in (step ∷ [])) j) (has_number (well_in steps) j) (has_number (well_in (step ∷ [])) j) (sym (has_number-append (clean_in (step ∷ [])) (well_in (step ∷ [])) j) ∙ h)
    where
      second : (a b c d : Bool) → (b || d) ≡ true → ((a || b) || (c || d)) ≡ true
      second true b c d h = refl
      second false true c d h = refl
      second false false true d h = refl
      second false false false true h = refl
      second false false false false h = absurd (false≢true h)

module _ (task : Task) (standings : List Standing) (steps : List Step) (stood : AreStood task standings steps) where
  -- one edge stands otherwise, and no other does
  pub stood_next : StepsMove → (e : ℕ) (s : Standing) → e < length standings → (step : Step) → edge_of step ≡ suc e → is_outside s ≡ is_outside (standing_at standings e) → is_phony s ≡ is_phony (standing_at standings e)
      → s ≡ standing_in (steps ++ step ∷ []) (suc e) → (is_settled s ≡ true → IsSettled task.graph.edges (done_in (steps ++ step ∷ [])) (suc e))
      → AreStood task (set standings e s) (steps ++ step ∷ [])
  stood_next move e s lt step of outside phony is done = record {
    within = λ k inside. stood.within k (sym (test_same standings e s lt is_outside outside k) ∙ inside);
    inside = λ k cone. test_same standings e s lt is_outside outside k ∙ stood.inside k cone;
    kinds = λ k inside. test_same standings e s lt is_phony phony k ∙ stood.kinds k (sym (test_same standings e s lt is_outside outside k) ∙ inside);
    stands = λ k cone command. elim (cases_eq k e) [
      | inl same ↦ subst (λ (n : ℕ). standing_at (set standings e s) n ≡ standing_in (steps ++ step ∷ []) (suc n)) (sym same) (here standings e s lt ∙ is)
      | inr other ↦ get_or-set_other standings e k s Outside other ∙ (stood.stands k cone command ∙ sym (move.others steps step (suc k) (λ h. other (omega (arith, of, h)))))
    ];
    settled = λ k settled. elim (cases_eq k e) [
      | inl same ↦ subst (λ (n : ℕ). IsSettled task.graph.edges (done_in (steps ++ step ∷ [])) (suc n)) (sym same)
          (done (sym (ap is_settled (here standings e s lt)) ∙ subst (λ (n : ℕ). is_settled (standing_at (set standings e s) n) ≡ true) same settled))
      | inr other ↦ settled_more task.graph.edges (done_in steps) (done_in (steps ++ step ∷ [])) (λ j h. done_more steps step j h) (suc k)
          (stood.settled k (sym (ap is_settled (get_or-set_other standings e k s Outside other)) ∙ settled))
    ];
  }

  -- the edges that stand as aliases are in the cone, and have no command
  pub stood_aliases : AreAliases task.graph.edges standings
  stood_aliases k stands = sym (stood.kinds k (ap is_outside stands)) ∙ ap is_phony stands

  pub stood_after : (now : List Standing) → AliasesOnly standings now → IsSound task.graph.edges (done_in steps) now → AreStood task now steps
  stood_after now each sound = record {
    within = λ k inside. stood.within k (sym (same is_outside refl k) ∙ inside);
    inside = λ k cone. same is_outside refl k ∙ stood.inside k cone;
    kinds = λ k inside. same is_phony refl k ∙ stood.kinds k (sym (same is_outside refl k) ∙ inside);
    stands = λ k cone command. elim (each k) [
      | inl old ↦ old ∙ stood.stands k cone command
      | inr alias ↦ absurd (true≢false (sym (ap is_phony alias.0) ∙ (stood.kinds k (stood.inside k cone) ∙ command)))
    ];
    settled = sound;
  }
    where
      same : (test : Standing → Bool) → test Known ≡ test Alias → (k : ℕ) → test (standing_at now k) ≡ test (standing_at standings k)
      same test alike k = elim (each k) [
        | inl old ↦ ap test old
        | inr alias ↦ ap test alias.1 ∙ (alike ∙ sym (ap test alias.0))
      ]

-- ---- settling one alias

module _ (first now : List Standing) (e : ℕ) (each : AliasesOnly first now) (stands : standing_at now e ≡ Alias) (lt : e < length now) where
  was_alias : standing_at first e ≡ Alias
  was_alias = elim (each e) [
    | inl old ↦ sym old ∙ stands
    | inr alias ↦ alias.0
  ]

  pub aliases_next : AliasesOnly first (set now e Known)
  aliases_next k = elim (cases_eq k e) [
    | inl same ↦ inr (subst (λ (n : ℕ). standing_at first n ≡ Alias) (sym same) was_alias, subst (λ (n : ℕ). standing_at (set now e Known) n ≡ Known) (sym same) (here now e Known lt))
    | inr other ↦ elim (each k) [
      | inl old ↦ inl (get_or-set_other now e k Known Outside other ∙ old)
      | inr alias ↦ inr (alias.0, get_or-set_other now e k Known Outside other ∙ alias.1)
    ]
  ]

  pub phony_now : (edges : List Edge) → AreAliases edges first → (edge_at edges (suc e)).phony ≡ true
  phony_now edges aliases = aliases e was_alias

  pub sound_next : (edges : List Edge) (done : List ℕ) → IsSettled edges done (suc e) → IsSound edges done now → IsSound edges done (set now e Known)
  sound_next edges done mine sound k settled = elim (cases_eq k e) [
    | inl same ↦ subst (λ (n : ℕ). IsSettled edges done (suc n)) (sym same) mine
    | inr other ↦ sound k (sym (ap is_settled (get_or-set_other now e k Known Outside other)) ∙ settled)
  ]

-- ---- what may be settled

module _ (standings : List Standing) (e : ℕ) (s : Standing) (lt : e < length standings) (alias : is_alias s ≡ is_alias (standing_at standings e)) (settled : is_settled s ≡ is_settled (standing_at standings e)) where
  pub none_same : (links : Links) → NonePasses (may_settle links standings) → NonePasses (may_settle links (set standings e s))
  none_same links none k =
      ap (λ (b : Bool). b && waits_for_nothing links (set standings e s) k) (test_same standings e s lt is_alias alias k)
      ∙ (ap (λ (b : Bool). is_alias (standing_at standings k) && b) (waits_same links k standings (set standings e s) (test_same standings e s lt is_settled settled)) ∙ none k)
