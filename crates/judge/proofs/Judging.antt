-- What the plan tells of an edge: whether it was judged, and how.
use Rattle.std.proofs.Common.{◌≡◌, ◌⊎◌, ◌↔◌, inl, inr, ℕ, suc, ◌==◌, cond, if◌then◌else◌, Bool, true, false, List, [], ◌∷◌, Option, Some, None, refl, sym, ◌∙◌, ap, subst}
use Rattle.std.proofs.lemmas.Bool.{false≢true, false_from_ne_true, or_cases, or_left, or_right}
use Rattle.model.specs.declared.event.Moment.{Moment}
use Rattle.model.specs.declared.graph.Edge.{Edge}
use Rattle.model.specs.Graph.{has_number, edge_at}
use Rattle.model.specs.OutOfDate.{IsDue, WasJudged, Stale, Below, AliasOfNothing, AliasOfAbsent, AliasOfDue}
use Rattle.model.specs.Records.{Store}
use Rattle.model.specs.Schedule.{Step, Judged, Started, Ended, judged_in, clean_in, out_of_date_in, started_in, well_in, failed_in}
use Rattle.theory.proofs.Orderly.{IsKept}
use Rattle.graph.specs.declared.graph.Graph.{Graph}
use Rattle.graph.specs.Linked.{StandFor}
use Rattle.graph.specs.Links.{links_of}
use Rattle.graph.specs.Told.{declared_by}
use Rattle.plan.specs.declared.plan.Plan.{Plan}
use Rattle.plan.specs.declared.step.Standing.{Standing}
use Rattle.plan.specs.declared.step.Standing.TheVariants.{Unjudged, Clean, OutOfDate, Running, Well, Failed}
use Rattle.plan.specs.Planned.{standing_in}
use Rattle.plan.specs.Standing.{standing_at}
use Rattle.judge.specs.UnderWay.{was_due, judged_due, IsUnjudged, StandsIn}
use Rattle.judge.specs.Dues.{AwaitsJudgement}

-- ---- steps

-- what was judged was clean or out of date
judged_so : (steps : List Step) (i : ℕ) → has_number (judged_in steps) i ≡ true → (has_number (clean_in steps) i ≡ true) ⊎ (has_number (out_of_date_in steps) i ≡ true)
judged_so [] i h = absurd (false≢true h)
judged_so (Judged j true ∷ steps) i h = elim (or_cases (j == i) (has_number (judged_in steps) i) h) [
  | inl here ↦ inr (or_left (j == i) (has_number (out_of_date_in steps) i) here)
  | inr later ↦ elim (judged_so steps i later) [
    | inl clean ↦ inl clean
    | inr out ↦ inr (or_right (j == i) (has_number (out_of_date_in steps) i) out)
  ]
]
judged_so (Judged j false ∷ steps) i h = elim (or_cases (j == i) (has_number (judged_in steps) i) h) [
  | inl here ↦ inl (or_left (j == i) (has_number (clean_in steps) i) here)
  | inr later ↦ elim (judged_so steps i later) [
    | inl clean ↦ inl (or_right (j == i) (has_number (clean_in steps) i) clean)
    | inr out ↦ inr out
  ]
]
judged_so (Started j ∷ steps) i h = judged_so steps i h
judged_so (Ended j well ∷ steps) i h = judged_so steps i h

-- ---- standings

abbrev standing_by : Bool → Bool → Bool → Bool → Bool → Standing
standing_by well failed started out clean = cond well Well (cond failed Failed (cond started Running (cond out OutOfDate (cond clean Clean Unjudged))))

none_some : (d : Bool) → None ≡ Some d → ⊥
none_some d is = cc

same_due : (a d : Bool) → Some a ≡ Some d → a ≡ d
same_due a d is = cc

-- a standing that tells of a judgement comes from it
told_by : (well failed started out clean d : Bool) → was_due (standing_by well failed started out clean) ≡ Some d
    → ((d ≡ true) × ((well ≡ true) ⊎ ((failed ≡ true) ⊎ ((started ≡ true) ⊎ (out ≡ true))))) ⊎ ((d ≡ false) × (clean ≡ true))
told_by true failed started out clean d is = inl (sym (same_due true d is), inl refl)
told_by false true started out clean d is = inl (sym (same_due true d is), inr (inl refl))
told_by false false true out clean d is = inl (sym (same_due true d is), inr (inr (inl refl)))
told_by false false false true clean d is = inl (sym (same_due true d is), inr (inr (inr refl)))
told_by false false false false true d is = inr (sym (same_due false d is), refl)
told_by false false false false false d is = absurd (none_some d is)

some_none : (d : Bool) → Some d ≡ None → ⊥
some_none d is = cc

none_by : (well failed started out clean : Bool) → was_due (standing_by well failed started out clean) ≡ None → (out ≡ false) × (clean ≡ false)
none_by true failed started out clean is = absurd (some_none true is)
none_by false true started out clean is = absurd (some_none true is)
none_by false false true out clean is = absurd (some_none true is)
none_by false false false true clean is = absurd (some_none true is)
none_by false false false false true is = absurd (some_none false is)
none_by false false false false false is = (refl, refl)

module _ (edges : List Edge) (before : List Step) (kept : IsKept edges before) (i : ℕ) where
  pub unjudged_by : was_due (standing_in before i) ≡ None → has_number (judged_in before) i ≡ false
  unjudged_by is =
      let none = none_by (has_number (well_in before) i) (has_number (failed_in before) i) (has_number (started_in before) i) (has_number (out_of_date_in before) i) (has_number (clean_in before) i) is in
      false_from_ne_true (has_number (judged_in before) i) (λ judged. elim (judged_so before i judged) [
        | inl clean ↦ false≢true (sym none.1 ∙ clean)
        | inr out ↦ false≢true (sym none.0 ∙ out)
      ])

  out_of_date_by : (has_number (well_in before) i ≡ true) ⊎ ((has_number (failed_in before) i ≡ true) ⊎ ((has_number (started_in before) i ≡ true) ⊎ (has_number (out_of_date_in before) i ≡ true))) → has_number (out_of_date_in before) i ≡ true
  out_of_date_by (inl well) = kept.started i (kept.ended i (kept.well i well))
  out_of_date_by (inr (inl failed)) = kept.started i (kept.ended i (kept.failed i failed))
  out_of_date_by (inr (inr (inl started))) = kept.started i started
  out_of_date_by (inr (inr (inr out))) = out

  module _ (store : Store) (files : List Moment) where
    -- an edge that was judged clean is not due
    clean_not : has_number (clean_in before) i ≡ true → (k : ℕ) → k ≡ i → IsDue edges store before files k → ⊥
    clean_not clean _ same (WasJudged k judged) = kept.apart i clean (subst (λ (q : ℕ). has_number (out_of_date_in before) q ≡ true) same judged)
    clean_not clean _ same (Stale k command unjudged stale) = false≢true (sym unjudged ∙ subst (λ (q : ℕ). has_number (judged_in before) q ≡ true) (sym same) (kept.clean i clean))
    clean_not clean _ same (Below k j p command unjudged counted made below) = false≢true (sym unjudged ∙ subst (λ (q : ℕ). has_number (judged_in before) q ≡ true) (sym same) (kept.clean i clean))
    clean_not clean _ same (AliasOfNothing k o phony empty output absent) = false≢true (sym (kept.judged i (kept.clean i clean)) ∙ (ap (λ (q : ℕ). (edge_at edges q).phony) (sym same) ∙ phony))
    clean_not clean _ same (AliasOfAbsent k p phony input source absent) = false≢true (sym (kept.judged i (kept.clean i clean)) ∙ (ap (λ (q : ℕ). (edge_at edges q).phony) (sym same) ∙ phony))
    clean_not clean _ same (AliasOfDue k j p phony input made below) = false≢true (sym (kept.judged i (kept.clean i clean)) ∙ (ap (λ (q : ℕ). (edge_at edges q).phony) (sym same) ∙ phony))

    -- one that was judged is due just where it was judged out of date
    pub due_by_standing : (d : Bool) → was_due (standing_in before i) ≡ Some d → (d ≡ true) ↔ IsDue edges store before files i
    due_by_standing d is = elim (told_by (has_number (well_in before) i) (has_number (failed_in before) i) (has_number (started_in before) i) (has_number (out_of_date_in before) i) (has_number (clean_in before) i) d is) [
      | inl so ↦ ((λ due. WasJudged i (out_of_date_by so.1)), (λ due. so.0))
      | inr so ↦ ((λ due. absurd (false≢true (sym so.0 ∙ due))), (λ due. absurd (clean_not so.1 i refl due)))
    ]

-- ---- by where an edge stands in a plan

told_of : (phony : Bool) (o : Option Bool) (d : Bool) → (if phony then None else o) ≡ Some d → (phony ≡ false) × (o ≡ Some d)
told_of true o d is = absurd (none_some d is)
told_of false o d is = (refl, is)

none_of : (phony : Bool) (o : Option Bool) → (if phony then None else o) ≡ None → phony ≡ false → o ≡ None
none_of true o is command = absurd (false≢true (sym command))
none_of false o is command = is

-- an edge that awaits its judgement was not judged
pub awaits_none : (graph : Graph) (plan : Plan) (e : ℕ) (d : Bool) → AwaitsJudgement graph plan e → judged_due graph plan e ≡ Some d → ⊥
awaits_none graph plan e d awaits is =
    let none : None ≡ was_due (standing_at plan.standings.items e) = sym (ap was_due awaits.1) in
    none_some d (none ∙ (told_of ((links_of graph).phony e) (was_due (standing_at plan.standings.items e)) d is).1)

module _ (graph : Graph) (lists : StandFor (declared_by graph).edges graph.manifest.paths (links_of graph)) (plan : Plan) (before : List Step) (e : ℕ) (stands : StandsIn graph plan before e) where
  -- of an edge that was judged the plan tells what the steps do
  pub judged_as : (d : Bool) → judged_due graph plan e ≡ Some d → was_due (standing_in before (suc e)) ≡ Some d
  judged_as d is =
      let told = told_of ((links_of graph).phony e) (was_due (standing_at plan.standings.items e)) d is in
      ap was_due (sym (stands (sym (lists.phony_is e) ∙ told.0))) ∙ told.1

  -- and so of one that was not
  pub unjudged_as : IsKept (declared_by graph).edges before → judged_due graph plan e ≡ None → IsUnjudged graph before e
  unjudged_as kept is command =
      unjudged_by (declared_by graph).edges before kept (suc e)
      (ap was_due (sym (stands command)) ∙ none_of ((links_of graph).phony e) (was_due (standing_at plan.standings.items e)) is (lists.phony_is e ∙ command))
