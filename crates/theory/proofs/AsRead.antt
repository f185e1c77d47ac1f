-- How commands ended by their depfiles as they were read, over the calls of a site: no premise is needed.
use Rattle.std.proofs.Common.{◌≡◌, ◌⊎◌, inl, inr, ℕ, ◌==◌, Bool, true, false, List, [], ◌∷◌, ◌++◌, Option, Some, sym, ◌∙◌, ap, subst, append_assoc}
use Rattle.std.specs.List.{AllByRecursion}
use Rattle.std.proofs.lemmas.List.{append-nil}
use Rattle.std.proofs.lemmas.Bool.{false≢true, cases_Bool, eqb-true}
use Rattle.model.specs.declared.act.Act.{Act}
use Rattle.model.specs.declared.event.Event.TheVariants.{Finish}
use Rattle.model.specs.declared.event.Moment.{Moment}
use Rattle.model.specs.declared.event.Moment.TheVariants.{Wrote, Happened}
use Rattle.model.specs.declared.event.Writer.TheVariants.{Program, Command, Someone}
use Rattle.model.specs.declared.graph.Edge.{Edge}
use Rattle.model.specs.Calls.{AllByOthers}
use Rattle.model.specs.Graph.{has_number, edge_at}
use Rattle.model.specs.Outcome.{Behaviour}
use Rattle.model.specs.Premises.{EndedAt}
use Rattle.model.specs.Schedule.{Step, Ended, ended_in, well_in}
use Rattle.model.specs.SingleBuild.{IsByOther, IsReadBehind, EndAsRead}
use Rattle.theory.proofs.Steps.{ended-append, well-append}
use Rattle.theory.proofs.JudgedAtExit.{ended_back, well_this, well_other, ended_before}

-- what others write is written by a command or by somebody else
pub by_other : (running : ℕ → Type 0) (ms : List Moment) → AllByOthers running ms → AllByRecursion IsByOther ms
by_other running [] all = tt
by_other running (Wrote Program path content stamp ∷ ms) all = absurd all.0
by_other running (Wrote (Command job) path content stamp ∷ ms) all = (tt, by_other running ms all.1)
by_other running (Wrote Someone path content stamp ∷ ms) all = (tt, by_other running ms all.1)
by_other running (Happened event ∷ ms) all = absurd all.0

-- what was read behind an end was so, however the history went on
behind_on : (B : Behaviour) (act : Act) (i : ℕ) (at now ms new : List Moment) (accepted : Bool) → new ≡ now ++ ms → IsReadBehind B act i at now accepted → IsReadBehind B act i at new accepted
behind_on B act i at now ms new accepted grows read = record {
  between = read.between;
  later = read.later ++ ms;
  grows = grows ∙ (ap (λ (l : List Moment). l ++ ms) read.grows ∙ (append_assoc at (Happened (Finish i true) ∷ (read.between ++ read.later)) ms
      ∙ ap (λ (l : List Moment). at ++ Happened (Finish i true) ∷ l) (append_assoc read.between read.later ms)));
  others = read.others;
  is = read.is;
}

module _ (B : Behaviour) (edges : List Edge) (old : List Moment) where
  pub read_nothing : (met : Option ℕ) (now : List Moment) → EndAsRead B edges [] met old now
  read_nothing met now = record { well = λ i at ended well. absurd (false≢true well); depfiles = λ i at ended has unmet. absurd (false≢true has) }

  -- a call in which no command that was started has ended well by itself, or none is counted
  pub read_on : (steps : List Step) (met next : Option ℕ) (so_far now ms new : List Moment) → now ≡ old ++ so_far → new ≡ now ++ ms → ((i : ℕ) → met ≡ Some i → next ≡ Some i)
      → ((before after : List Moment) (i : ℕ) → ms ≡ before ++ Happened (Finish i true) ∷ after → has_number (ended_in steps) i ≡ false) → ((i : ℕ) → has_number (well_in steps) i ≡ true → has_number (ended_in steps) i ≡ true)
      → EndAsRead B edges steps met old now → EndAsRead B edges steps next old new
  read_on steps met next so_far now ms new was grows keeps none well_ended read = record {
    well = λ i at ended well. elim (ended_back i at old so_far now ms new was grows ended) [
      | inl before ↦ behind_on B (edge_at edges i).act i at now ms new true grows (read.well i at before well)
      | inr (before, after, is, splits) ↦ absurd (false≢true (sym (none before after i splits) ∙ well_ended i well))
    ];
    depfiles = λ i at ended has unmet. elim (ended_back i at old so_far now ms new was grows ended) [
      | inl before ↦ behind_on B (edge_at edges i).act i at now ms new (has_number (well_in steps) i) grows (read.depfiles i at before has (λ is_met. unmet (keeps i is_met)))
      | inr (before, after, is, splits) ↦ absurd (false≢true (sym (none before after i splits) ∙ has))
    ];
  }

  -- a step that is no end
  pub read_other : (steps : List Step) (step : Step) (met : Option ℕ) (now : List Moment) → ended_in (step ∷ []) ≡ [] → well_in (step ∷ []) ≡ [] → EndAsRead B edges steps met old now → EndAsRead B edges (steps ++ step ∷ []) met old now
  read_other steps step met now no_ended no_well read = record {
    well = λ i at ended well. read.well i at ended (subst (λ (l : List ℕ). has_number l i ≡ true) well_same well);
    depfiles = λ i at ended has unmet. subst (λ (l : List ℕ). IsReadBehind B (edge_at edges i).act i at now (has_number l i)) (sym well_same)
        (read.depfiles i at ended (subst (λ (l : List ℕ). has_number l i ≡ true) ended_same has) unmet);
  }
    where
      well_same : well_in (steps ++ step ∷ []) ≡ well_in steps
      well_same = well-append steps (step ∷ []) ∙ (ap (λ (l : List ℕ). well_in steps ++ l) no_well ∙ append-nil (well_in steps))

      ended_same : ended_in (steps ++ step ∷ []) ≡ ended_in steps
      ended_same = ended-append steps (step ∷ []) ∙ (ap (λ (l : List ℕ). ended_in steps ++ l) no_ended ∙ append-nil (ended_in steps))

  -- a command that was taken in is a step now: its depfile was read, or it met the fault and did not end well
  pub read_ended : (steps : List Step) (i : ℕ) (w : Bool) (met next : Option ℕ) (now : List Moment) → has_number (well_in steps) i ≡ false → ((k : ℕ) → met ≡ Some k → next ≡ Some k)
      → ((at : List Moment) → EndedAt i old now at → IsReadBehind B (edge_at edges i).act i at now w ⊎ ((w ≡ false) × (next ≡ Some i)))
      → EndAsRead B edges steps met old now → EndAsRead B edges (steps ++ Ended i w ∷ []) next old now
  read_ended steps i w met next now fresh keeps reads read = record {
    well = λ k at ended well. elim (cases_Bool (i == k)) [
      | inl same ↦
          let this : i ≡ k = eqb-true i k same in
          by_well k at this (reads at (subst (λ (n : ℕ). EndedAt n old now at) (sym this) ended)) (sym (well_this steps i w fresh k this) ∙ well)
      | inr other ↦ read.well k at ended (sym (well_other steps i w k other) ∙ well)
    ];
    depfiles = λ k at ended has unmet. elim (cases_Bool (i == k)) [
      | inl same ↦
          let this : i ≡ k = eqb-true i k same in
          subst (λ (b : Bool). IsReadBehind B (edge_at edges k).act k at now b) (sym (well_this steps i w fresh k this)) (by_read k at this (reads at (subst (λ (n : ℕ). EndedAt n old now at) (sym this) ended)) unmet)
      | inr other ↦ subst (λ (b : Bool). IsReadBehind B (edge_at edges k).act k at now b) (sym (well_other steps i w k other))
          (read.depfiles k at ended (ended_before steps i w k other has) (λ is_met. unmet (keeps k is_met)))
    ];
  }
    where
      by_read : (k : ℕ) (at : List Moment) → i ≡ k → IsReadBehind B (edge_at edges i).act i at now w ⊎ ((w ≡ false) × (next ≡ Some i)) → (next ≡ Some k → ⊥) → IsReadBehind B (edge_at edges k).act k at now w
      by_read k at this (inl is) unmet = subst (λ (n : ℕ). IsReadBehind B (edge_at edges n).act n at now w) this is
      by_read k at this (inr (not, met_i)) unmet = absurd (unmet (met_i ∙ ap (λ (n : ℕ). Some n) this))

      by_well : (k : ℕ) (at : List Moment) → i ≡ k → IsReadBehind B (edge_at edges i).act i at now w ⊎ ((w ≡ false) × (next ≡ Some i)) → w ≡ true → IsReadBehind B (edge_at edges k).act k at now true
      by_well k at this (inl is) well = subst (λ (n : ℕ). IsReadBehind B (edge_at edges n).act n at now true) this (subst (λ (b : Bool). IsReadBehind B (edge_at edges i).act i at now b) well is)
      by_well k at this (inr (not, met_i)) well = absurd (false≢true (sym not ∙ well))
