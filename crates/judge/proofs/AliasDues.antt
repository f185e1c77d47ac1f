-- Which phony edges are due.
use Rattle.std.proofs.Common.{◌≡◌, ◌↔◌, inl, inr, ℕ, suc, ◌<◌, ◌==◌, cond, Bool, true, false, List, [], ◌∷◌, Option, Some, None, map, length, refl, sym, ◌∙◌, ap, subst, arith}
use Rattle.std.specs.List.{list_any}
use Rattle.std.specs.Option.{is_none}
use Rattle.std.proofs.lemmas.Bool.{false≢true, cases_Bool, eqb-true}
use Rattle.model.specs.declared.event.Moment.{Moment}
use Rattle.model.specs.declared.graph.Edge.{Edge}
use Rattle.model.specs.World.{file_at}
use Rattle.model.specs.Graph.{has, has_number, edge_at, maker, later_number, outputs, regular_inputs, inputs, IsCommand}
use Rattle.model.specs.OutOfDate.{IsDue, WasJudged, Stale, Below, AliasOfNothing, AliasOfAbsent, AliasOfDue}
use Rattle.model.specs.Reading.{needs}
use Rattle.model.specs.Records.{Store, recorded_inputs}
use Rattle.model.specs.Schedule.{Step, out_of_date_in}
use Rattle.theory.proofs.Lists.{has-left}
use Rattle.theory.proofs.Orderly.{IsKept}
use Rattle.paths.specs.Told.{text_at, texts_at}
use Rattle.graph.specs.Links.{Links}
use Rattle.graph.specs.Linked.{StandFor}
use Rattle.judge.specs.Dues.{AreMakersKnown, due_by, is_absent, is_due_path, is_due_alias}
use Rattle.judge.proofs.NumbersAsTexts.{any_number, number_any, has_text, number_of}

-- ---- lists

pub none_there : {A : Type 0} (o : Option A) → is_none o ≡ true → o ≡ None
none_there None is = refl
none_there (Some x) is = cc

pub there_none : {A : Type 0} (o : Option A) → o ≡ None → is_none o ≡ true
there_none None is = refl
there_none (Some x) is = cc

pub no_number : (o : Option ℕ) → later_number o ≡ None → o ≡ None
no_number None is = refl
no_number (Some i) is = cc

pub some_number : (o : Option ℕ) (i : ℕ) → later_number o ≡ Some i → (m : ℕ) × (o ≡ Some m) × (suc m ≡ i)
some_number None i is = cc
some_number (Some m) i is = (m, refl, cc)

nothing_named : (f : ℕ → List ℕ) (xs : List ℕ) → map f xs ≡ [] → (length xs == 0) ≡ true
nothing_named f [] is = refl
nothing_named f (x ∷ xs) is = cc

empty_by : (xs : List ℕ) → (length xs == 0) ≡ true → xs ≡ []
empty_by [] is = refl
empty_by (x ∷ xs) is = let long : length (x ∷ xs) ≡ 0 = eqb-true (length (x ∷ xs)) 0 is in absurd (omega (arith, long))

-- ---- the answer for an alias, by its outputs or its inputs

abbrev if_inputs_of : List (List ℕ) → Links → List Moment → List Bool → ℕ → Bool → Bool
if_inputs_of paths links files due e empty = cond empty (list_any (is_absent paths files) (links.outputs e)) (list_any (is_due_path paths links files due) (links.regular e))

pub alias_by_outputs : (paths : List (List ℕ)) (links : Links) (files : List Moment) (due : List Bool) (e : ℕ) → (length (links.inputs e) == 0) ≡ true → list_any (is_absent paths files) (links.outputs e) ≡ is_due_alias paths links files due e
alias_by_outputs paths links files due e empty = sym (ap (if_inputs_of paths links files due e) empty)

pub alias_by_inputs : (paths : List (List ℕ)) (links : Links) (files : List Moment) (due : List Bool) (e : ℕ) → (length (links.inputs e) == 0) ≡ false → list_any (is_due_path paths links files due) (links.regular e) ≡ is_due_alias paths links files due e
alias_by_inputs paths links files due e some = sym (ap (if_inputs_of paths links files due e) some)

-- ---- one alias

module _ (edges : List Edge) (paths : List (List ℕ)) (links : Links) (files : List Moment) (stands : StandFor edges paths links) (store : Store) (before : List Step) (kept : IsKept edges before) (due : List Bool) where
  -- what was judged out of date is a command
  pub judged_command : (i : ℕ) → has_number (out_of_date_in before) i ≡ true → IsCommand edges i
  judged_command i is = kept.judged i (kept.out_of_date i is)

  named_input : (i : ℕ) (p : List ℕ) → has (regular_inputs (edge_at edges i)) p ≡ true → has (inputs (edge_at edges i)) p ≡ true
  named_input i p h = has-left (regular_inputs (edge_at edges i)) (edge_at edges i).order_only_inputs p h

  needed : (i : ℕ) (p : List ℕ) → has (regular_inputs (edge_at edges i)) p ≡ true → has (needs edges (recorded_inputs store edges) i) p ≡ true
  needed i p h = has-left (inputs (edge_at edges i)) (recorded_inputs store edges i) p (named_input i p h)

  no_regular : (i : ℕ) (p : List ℕ) → inputs (edge_at edges i) ≡ [] → has (regular_inputs (edge_at edges i)) p ≡ true → ⊥
  no_regular i p none h = false≢true (sym (ap (λ (l : List (List ℕ)). has l p) none) ∙ named_input i p h)

  -- the numbers of one of the edge's lists
  module _ (i : ℕ) (xs : List ℕ) where
    due_by_nothing : texts_at paths xs ≡ outputs (edge_at edges i) → (edge_at edges i).phony ≡ true → inputs (edge_at edges i) ≡ [] → IsDue edges store before files i → list_any (is_absent paths files) xs ≡ true
    due_by_nothing named phony none is = by_case i refl is
      where
        by_case : (k : ℕ) → k ≡ i → IsDue edges store before files k → list_any (is_absent paths files) xs ≡ true
        by_case _ same (WasJudged k judged) = absurd (false≢true (sym (judged_command k judged) ∙ (ap (λ (q : ℕ). (edge_at edges q).phony) same ∙ phony)))
        by_case _ same (Stale k command unjudged stale) = absurd (false≢true (sym command ∙ (ap (λ (q : ℕ). (edge_at edges q).phony) same ∙ phony)))
        by_case _ same (Below k j p command unjudged counted made below) = absurd (false≢true (sym command ∙ (ap (λ (q : ℕ). (edge_at edges q).phony) same ∙ phony)))
        by_case _ same (AliasOfNothing k o alias empty made absent) =
            let n = number_of paths xs o (ap (λ (l : List (List ℕ)). has l o) (named ∙ ap (λ (q : ℕ). outputs (edge_at edges q)) (sym same)) ∙ made) in
            number_any (is_absent paths files) xs n.0 n.1 (there_none (file_at files (text_at paths n.0)) (ap (file_at files) n.2 ∙ absent))
        by_case _ same (AliasOfAbsent k p alias h source absent) = absurd (no_regular i p none (subst (λ (q : ℕ). has (regular_inputs (edge_at edges q)) p ≡ true) same h))
        by_case _ same (AliasOfDue k j p alias h made below) = absurd (no_regular i p none (subst (λ (q : ℕ). has (regular_inputs (edge_at edges q)) p ≡ true) same h))

    nothing_due : texts_at paths xs ≡ outputs (edge_at edges i) → (edge_at edges i).phony ≡ true → inputs (edge_at edges i) ≡ [] → list_any (is_absent paths files) xs ≡ true → IsDue edges store before files i
    nothing_due named phony none any =
        let n = any_number (is_absent paths files) xs any in
        AliasOfNothing i (text_at paths n.0) phony none (ap (λ (l : List (List ℕ)). has l (text_at paths n.0)) (sym named) ∙ has_text paths xs n.0 n.1) (none_there (file_at files (text_at paths n.0)) n.2)

    by_maker : (n : ℕ) (o : Option ℕ) → links.maker n ≡ o → is_due_path paths links files due n ≡ due_by due (is_absent paths files n) o
    by_maker n o is = ap (due_by due (is_absent paths files n)) is

    module _ (named : texts_at paths xs ≡ regular_inputs (edge_at edges i)) (numbered : (n : ℕ) → has_number xs n ≡ true → n < length paths) (known : AreMakersKnown edges store before files due i) where
      made_by : (n : ℕ) (p : List ℕ) → has_number xs n ≡ true → text_at paths n ≡ p → maker edges p ≡ later_number (links.maker n)
      made_by n p h is = ap (maker edges) (sym is) ∙ stands.makers n (numbered n h)

      due_by_inputs : (edge_at edges i).phony ≡ true → (inputs (edge_at edges i) ≡ [] → ⊥) → IsDue edges store before files i → list_any (is_due_path paths links files due) xs ≡ true
      due_by_inputs phony some is = by_case i refl is
        where
          number_for : (p : List ℕ) → has (regular_inputs (edge_at edges i)) p ≡ true → (n : ℕ) × (has_number xs n ≡ true) × (text_at paths n ≡ p)
          number_for p h = number_of paths xs p (subst (λ (l : List (List ℕ)). has l p ≡ true) (sym named) h)

          of_source : (p : List ℕ) → has (regular_inputs (edge_at edges i)) p ≡ true → maker edges p ≡ None → file_at files p ≡ None → list_any (is_due_path paths links files due) xs ≡ true
          of_source p h source absent =
              let n = number_for p h in
              number_any (is_due_path paths links files due) xs n.0 n.1
              (by_maker n.0 None (no_number (links.maker n.0) (sym (made_by n.0 p n.1 n.2) ∙ source)) ∙ there_none (file_at files (text_at paths n.0)) (ap (file_at files) n.2 ∙ absent))

          of_maker : (p : List ℕ) (j : ℕ) → has (regular_inputs (edge_at edges i)) p ≡ true → maker edges p ≡ Some j → IsDue edges store before files j → list_any (is_due_path paths links files due) xs ≡ true
          of_maker p j h made below =
              let n = number_for p h in
              let m = some_number (links.maker n.0) j (sym (made_by n.0 p n.1 n.2) ∙ made) in
              number_any (is_due_path paths links files due) xs n.0 n.1
              (by_maker n.0 (Some m.0) m.1 ∙ (known.makers p m.0 (needed i p h) (made ∙ ap Some (sym m.2))).1 (subst (λ (q : ℕ). IsDue edges store before files q) (sym m.2) below))

          by_case : (k : ℕ) → k ≡ i → IsDue edges store before files k → list_any (is_due_path paths links files due) xs ≡ true
          by_case _ same (WasJudged k judged) = absurd (false≢true (sym (judged_command k judged) ∙ (ap (λ (q : ℕ). (edge_at edges q).phony) same ∙ phony)))
          by_case _ same (Stale k command unjudged stale) = absurd (false≢true (sym command ∙ (ap (λ (q : ℕ). (edge_at edges q).phony) same ∙ phony)))
          by_case _ same (Below k j p command unjudged counted made below) = absurd (false≢true (sym command ∙ (ap (λ (q : ℕ). (edge_at edges q).phony) same ∙ phony)))
          by_case _ same (AliasOfNothing k o alias empty made absent) = absurd (some (subst (λ (q : ℕ). inputs (edge_at edges q) ≡ []) same empty))
          by_case _ same (AliasOfAbsent k p alias h source absent) = of_source p (subst (λ (q : ℕ). has (regular_inputs (edge_at edges q)) p ≡ true) same h) source absent
          by_case _ same (AliasOfDue k j p alias h made below) = of_maker p j (subst (λ (q : ℕ). has (regular_inputs (edge_at edges q)) p ≡ true) same h) made below

      inputs_due : (edge_at edges i).phony ≡ true → list_any (is_due_path paths links files due) xs ≡ true → IsDue edges store before files i
      inputs_due phony any = by_case (links.maker n.0) refl
        where
          n : (n : ℕ) × (has_number xs n ≡ true) × (is_due_path paths links files due n ≡ true)
          n = any_number (is_due_path paths links files due) xs any

          h : has (regular_inputs (edge_at edges i)) (text_at paths n.0) ≡ true
          h = subst (λ (l : List (List ℕ)). has l (text_at paths n.0) ≡ true) named (has_text paths xs n.0 n.1)

          by_case : (o : Option ℕ) → links.maker n.0 ≡ o → IsDue edges store before files i
          by_case None is =
              AliasOfAbsent i (text_at paths n.0) phony h (made_by n.0 (text_at paths n.0) n.1 refl ∙ ap later_number is) (none_there (file_at files (text_at paths n.0)) (sym (by_maker n.0 None is) ∙ n.2))
          by_case (Some m) is =
              let made : maker edges (text_at paths n.0) ≡ Some (suc m) = made_by n.0 (text_at paths n.0) n.1 refl ∙ ap later_number is in
              AliasOfDue i (suc m) (text_at paths n.0) phony h made ((known.makers (text_at paths n.0) m (needed i (text_at paths n.0) h) made).0 (sym (by_maker n.0 (Some m) is) ∙ n.2))

  -- ---- the answer

  module _ (e : ℕ) (phony : (edge_at edges (suc e)).phony ≡ true) (known : AreMakersKnown edges store before files due (suc e)) where
    in_range : (n : ℕ) → has_number (links.regular e) n ≡ true → n < length paths
    in_range n h = stands.regular_within e n h

    pub alias_due : (is_due_alias paths links files due e ≡ true) ↔ IsDue edges store before files (suc e)
    alias_due = elim (cases_Bool (length (links.inputs e) == 0)) [
      | inl empty ↦
          let none : inputs (edge_at edges (suc e)) ≡ [] = sym (stands.inputs_are e) ∙ ap (map (text_at paths)) (empty_by (links.inputs e) empty) in
          let whole : is_due_alias paths links files due e ≡ list_any (is_absent paths files) (links.outputs e) = sym (alias_by_outputs paths links files due e empty) in (
            (λ is. nothing_due (suc e) (links.outputs e) (stands.outputs_are e) phony none (sym whole ∙ is)),
            (λ is. whole ∙ due_by_nothing (suc e) (links.outputs e) (stands.outputs_are e) phony none is),
          )
      | inr some ↦
          let whole : is_due_alias paths links files due e ≡ list_any (is_due_path paths links files due) (links.regular e) = sym (alias_by_inputs paths links files due e some) in
          let named : (inputs (edge_at edges (suc e)) ≡ [] → ⊥) = (λ none. false≢true (sym some ∙ nothing_named (text_at paths) (links.inputs e) (stands.inputs_are e ∙ none))) in (
            (λ is. inputs_due (suc e) (links.regular e) (stands.regular_are e) in_range known phony (sym whole ∙ is)),
            (λ is. whole ∙ due_by_inputs (suc e) (links.regular e) (stands.regular_are e) in_range known phony named is),
          )
    ]
