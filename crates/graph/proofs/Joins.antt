-- Recorded inputs that join an edge.
use Rattle.std.proofs.Common.{◌≡◌, ◌≢◌, inl, inr, ℕ, zero, suc, ◌<◌, ◌≤◌, ◌==◌, ◌||◌, Bool, true, false, cond, nat_eq, List, [], ◌∷◌, ◌++◌, length, take, refl, sym, ◌∙◌, ap, subst, arith, length-append}
use Rattle.std.specs.List.{AllByRecursion}
use Rattle.std.proofs.Math.ListN.{set}
use Rattle.std.proofs.lemmas.Bool.{cases_eq, eqb-true, eq-eqb, false≢true, or_left, or_right, false_from_ne_true}
use Rattle.std.proofs.lemmas.List.{get_or-set_same, get_or-set_other, length-set}
use Rattle.indexmap.specs.IndexSet.{insert_all}
use Rattle.model.specs.Graph.{has_number}
use Rattle.theory.proofs.Lists.{has_number-left, has_number-right}
use Rattle.graph.specs.declared.graph.Graph.{Graph}
use Rattle.graph.specs.Held.{list_at, times, StandOnce, AreRecorded, AreUsers, pushed}
use Rattle.graph.specs.Links.{links_of}
use Rattle.graph.proofs.Lists.{times-append, times_pushed, length-pushed}
use Rattle.graph.proofs.Sets.{Gains, gains_all, all_once, all_fresh}
use Rattle.graph.proofs.Texts.{within_has, within_of}

-- ---- a graph and what it gains

module _ (graph : Graph) (edge : ℕ) (lt : edge < length graph.manifest.lines) (inputs fresh : List ℕ) (within : AllByRecursion (λ p. p < length graph.manifest.paths) inputs) (once : StandOnce inputs)
    (split : inputs ≡ list_at graph.recorded edge ++ fresh) where
  in_recorded : edge < length graph.recorded
  in_recorded = omega (arith, lt, graph.recording.fits)

  here : list_at (set graph.recorded edge inputs) edge ≡ inputs
  here = get_or-set_same graph.recorded edge inputs [] in_recorded

  there : (e : ℕ) → e ≢ edge → list_at (set graph.recorded edge inputs) e ≡ list_at graph.recorded e
  there e other = get_or-set_other graph.recorded edge e inputs [] other

  pub joined_recorded : (recorded : List (List ℕ)) → recorded ≡ set graph.recorded edge inputs → AreRecorded graph.manifest recorded
  joined_recorded recorded is = subst (AreRecorded graph.manifest) (sym is) record {
    fits = length-set graph.recorded edge inputs ∙ graph.recording.fits;
    within = λ e p h. elim (cases_eq e edge) [
      | inl same ↦ within_has (length graph.manifest.paths) inputs p within (subst (λ (l : List ℕ). has_number l p ≡ true) (ap (list_at (set graph.recorded edge inputs)) same ∙ here) h)
      | inr other ↦ graph.recording.within e p (subst (λ (l : List ℕ). has_number l p ≡ true) (there e other) h)
    ];
    once = λ e. elim (cases_eq e edge) [
      | inl same ↦ subst StandOnce (sym (ap (list_at (set graph.recorded edge inputs)) same ∙ here)) once
      | inr other ↦ subst StandOnce (sym (there e other)) (graph.recording.once e)
    ];
  }

  pub fresh_within : AllByRecursion (λ p. p < length graph.users) fresh
  fresh_within = within_of (length graph.users) fresh (λ p h.
      let low = within_has (length graph.manifest.paths) inputs p within (subst (λ (l : List ℕ). has_number l p ≡ true) (sym split) (has_number-right (list_at graph.recorded edge) fresh p h)) in
      omega (arith, low, graph.using.fits))

  pub joined_users : (recorded users : List (List ℕ)) → recorded ≡ set graph.recorded edge inputs → users ≡ pushed graph.users fresh edge → AreUsers graph.manifest recorded users
  joined_users recorded users is named = subst (λ (r : List (List ℕ)). AreUsers graph.manifest r users) (sym is) (subst (AreUsers graph.manifest (set graph.recorded edge inputs)) (sym named) record {
    fits = length-pushed graph.users fresh edge ∙ graph.using.fits;
    counted = λ p e low.
        let before = graph.using.counted p e low in
        let more = times_pushed graph.users fresh p edge e fresh_within in
        let declared = (links_of graph).inputs e in
        let old_sum = times-append declared (list_at graph.recorded e) p in
        let new_sum = times-append declared (list_at (set graph.recorded edge inputs) e) p in
        elim (cases_eq edge e) [
          | inl same ↦
              let mine : cond (edge == e) (times fresh p) 0 ≡ times fresh p = ap (λ (b : Bool). cond b (times fresh p) 0) (eq-eqb edge e same) in
              let list : times (list_at (set graph.recorded edge inputs) e) p ≡ times (list_at graph.recorded e ++ fresh) p =
              ap (λ (l : List ℕ). times l p) (ap (list_at (set graph.recorded edge inputs)) (sym same) ∙ (here ∙ (split ∙ ap (λ (n : ℕ). list_at graph.recorded n ++ fresh) same))) in
              let parts = times-append (list_at graph.recorded e) fresh p in
              omega (arith, before, more, old_sum, new_sum, mine, list, parts)
          | inr other ↦
              let mine : cond (edge == e) (times fresh p) 0 ≡ 0 = ap (λ (b : Bool). cond b (times fresh p) 0) (false_from_ne_true (edge == e) (λ is_same. other (eqb-true edge e is_same))) in
              let list : times (list_at (set graph.recorded edge inputs) e) p ≡ times (list_at graph.recorded e) p = ap (λ (l : List ℕ). times l p) (there e (λ same. other (sym same))) in
              omega (arith, before, more, old_sum, new_sum, mine, list)
        ];
  })

-- ---- what an edge gains

take_front : (xs ys : List ℕ) (n : ℕ) → n ≡ length xs → take n (xs ++ ys) ≡ xs
take_front [] ys zero is = refl
take_front [] ys (suc n) is = absurd (omega (arith, is))
take_front (x ∷ xs) ys zero is = absurd (omega (arith, is))
take_front (x ∷ xs) ys (suc n) is = ap (λ (l : List ℕ). x ∷ l) (take_front xs ys n (omega (arith, is)))

module _ (graph : Graph) (edge : ℕ) (none one two inputs : List ℕ) (empty : none ≡ []) (first : one ≡ insert_all nat_eq none (list_at graph.recorded edge)) (second : two ≡ insert_all nat_eq one inputs) where
  one_is : one ≡ list_at graph.recorded edge
  one_is = first ∙ (ap (λ (l : List ℕ). insert_all nat_eq l (list_at graph.recorded edge)) empty ∙ all_fresh [] (list_at graph.recorded edge) (graph.recording.once edge))

  gains : Gains one two inputs
  gains = subst (λ (l : List ℕ). Gains one l inputs) (sym second) (gains_all one inputs)

  pub gained_once : StandOnce two
  gained_once = subst StandOnce (sym second) (all_once one inputs (subst StandOnce (sym one_is) (graph.recording.once edge)))

  pub gained_within : AllByRecursion (λ p. p < length graph.manifest.paths) inputs → AllByRecursion (λ p. p < length graph.manifest.paths) two
  gained_within low = within_of (length graph.manifest.paths) two (λ p h. elim (gains.each p h) [
    | inl held ↦ graph.recording.within edge p (subst (λ (l : List ℕ). has_number l p ≡ true) one_is held)
    | inr new ↦ within_has (length graph.manifest.paths) inputs p low new
  ])

  pub gained_held : (held : ℕ) → held ≡ length one → take held two ≡ list_at graph.recorded edge
  gained_held held is = ap (take held) gains.grows ∙ (take_front one gains.more held is ∙ one_is)

  pub gained_longer : (held : ℕ) → held ≡ length one → held ≤ length two
  gained_longer held is = let long = ap length gains.grows in let sum = length-append one gains.more in omega (arith, is, long, sum)

  pub gained_has : (p : ℕ) → has_number two p ≡ (has_number (list_at graph.recorded edge) p || has_number inputs p)
  gained_has p = by (has_number two p) refl
    where
      by : (b : Bool) → has_number two p ≡ b → has_number two p ≡ (has_number (list_at graph.recorded edge) p || has_number inputs p)
      by true h = h ∙ sym (elim (gains.each p h) [
        | inl held ↦ or_left (has_number (list_at graph.recorded edge) p) (has_number inputs p) (subst (λ (l : List ℕ). has_number l p ≡ true) one_is held)
        | inr new ↦ or_right (has_number (list_at graph.recorded edge) p) (has_number inputs p) new
      ])
      by false absent =
          let old : has_number (list_at graph.recorded edge) p ≡ false = false_from_ne_true (has_number (list_at graph.recorded edge) p) (λ h.
          false≢true (sym absent ∙ subst (λ (l : List ℕ). has_number l p ≡ true) (sym gains.grows) (has_number-left one gains.more p (subst (λ (l : List ℕ). has_number l p ≡ true) (sym one_is) h)))) in
          let new : has_number inputs p ≡ false = false_from_ne_true (has_number inputs p) (λ h. false≢true (sym absent ∙ gains.has p h)) in
          absent ∙ sym (ap (λ (b : Bool). b || has_number inputs p) old ∙ new)
