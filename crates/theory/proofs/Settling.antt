-- A lawful schedule settles edges in an order in which what an edge needs comes first.
use Rattle.std.proofs.Common.{◌≡◌, inl, inr, ℕ, true, false, List, [], ◌∷◌, ◌++◌, refl, ap, subst, ◌∙◌}
use Rattle.std.proofs.lemmas.List.{append-nil}
use Rattle.std.proofs.lemmas.Bool.{false≢true}
use Rattle.model.specs.Graph.{has_number}
use Rattle.model.specs.Schedule.{Task, Step, Judged, Started, Ended, judged_in, done_in, MayBeJudged, IsLawfulStep, IsLawfulFrom, IsLawful}
use Rattle.theory.specs.Order.{settled_in, NeedsAreSettled, IsSettlingOrder}
use Rattle.theory.proofs.Lists.{has_number-is}
use Rattle.theory.proofs.Settled.{settled_more}
use Rattle.theory.proofs.Steps.{judged-append, settled-append, in_either, in_left, done_settled, running_parts}
use Rattle.theory.proofs.Orderly.{IsKept, kept_nothing, kept_push, not_settled_yet, not_judged_yet, orderly_step}

-- what was judged has what it needs
abbrev AreReady : Task → List Step → Type 0
AreReady task steps = (i : ℕ) → has_number (judged_in steps) i ≡ true → NeedsAreSettled task.graph.edges task.recorded (settled_in steps) i

module _ (task : Task) where
  ready_push : (steps : List Step) (step : Step) → AreReady task steps → IsLawfulStep task steps step → AreReady task (steps ++ step ∷ [])
  ready_push steps step ready lawful i h = elim (in_either judged_in judged-append steps (step ∷ []) i h) [
    | inl old ↦ (λ p j need is. settled_more task.graph.edges (settled_in steps) (settled_in (steps ++ step ∷ [])) more j (ready i old p j need is))
    | inr new ↦ last step lawful new
  ]
    where
      more : (j : ℕ) → has_number (settled_in steps) j ≡ true → has_number (settled_in (steps ++ step ∷ [])) j ≡ true
      more j was = in_left settled_in settled-append steps (step ∷ []) j was

      now : MayBeJudged task steps i → NeedsAreSettled task.graph.edges task.recorded (settled_in (steps ++ step ∷ [])) i
      now may p j need is = settled_more task.graph.edges (done_in steps) (settled_in (steps ++ step ∷ [])) (λ k was. more k (done_settled steps k was)) j (may.ready p need j is)

      last : (s : Step) → IsLawfulStep task steps s → has_number (judged_in (s ∷ [])) i ≡ true → NeedsAreSettled task.graph.edges task.recorded (settled_in (steps ++ step ∷ [])) i
      last (Judged j b) lawful h = now (subst (λ (n : ℕ). MayBeJudged task steps n) (has_number-is j i h) lawful.0)
      last (Started j) lawful h = absurd (false≢true h)
      last (Ended j w) lawful h = absurd (false≢true h)

  abbrev InOrder : List Step → List Step → Type 0
  InOrder before steps = IsSettlingOrder task.graph.edges task.recorded (settled_in before) (settled_in steps)

  kept_on : (before : List Step) (step : Step) → IsKept task.graph.edges before → IsLawfulStep task before step → IsKept task.graph.edges (before ++ step ∷ [])
  kept_on before step kept lawful = kept_push task.graph.edges before step kept (orderly_step task before step lawful)

  -- a step that settles an edge, and one that settles none
  settles : (before steps : List Step) (step : Step) → IsSettlingOrder task.graph.edges task.recorded (settled_in (before ++ step ∷ [])) (settled_in steps)
      → IsSettlingOrder task.graph.edges task.recorded (settled_in before ++ settled_in (step ∷ [])) (settled_in steps)
  settles before steps step order = subst (λ (l : List ℕ). IsSettlingOrder task.graph.edges task.recorded l (settled_in steps)) (settled-append before (step ∷ [])) order

  passes : (before steps : List Step) (step : Step) → settled_in (step ∷ []) ≡ [] → InOrder (before ++ step ∷ []) steps → InOrder before steps
  passes before steps step none order = subst (λ (l : List ℕ). IsSettlingOrder task.graph.edges task.recorded l (settled_in steps))
      (ap (λ (l : List ℕ). settled_in before ++ l) none ∙ append-nil (settled_in before)) (settles before steps step order)

  order_from : (before steps : List Step) → IsKept task.graph.edges before → AreReady task before → IsLawfulFrom task before steps → InOrder before steps
  order_from before [] kept ready lawful = tt
  order_from before (Judged i true ∷ steps) kept ready lawful = passes before steps (Judged i true) refl
      (order_from (before ++ Judged i true ∷ []) steps (kept_on before (Judged i true) kept lawful.0) (ready_push before (Judged i true) ready lawful.0) lawful.1)
  order_from before (Judged i false ∷ steps) kept ready lawful = (
    record {
      command = lawful.0.0.command;
      fresh = not_judged_yet task.graph.edges before i kept lawful.0.0.once;
      needs = λ p j need is. settled_more task.graph.edges (done_in before) (settled_in before) (λ k was. done_settled before k was) j (lawful.0.0.ready p need j is);
    },
    settles before steps (Judged i false)
        (order_from (before ++ Judged i false ∷ []) steps (kept_on before (Judged i false) kept lawful.0) (ready_push before (Judged i false) ready lawful.0) lawful.1),
  )
  order_from before (Started i ∷ steps) kept ready lawful = passes before steps (Started i) refl
      (order_from (before ++ Started i ∷ []) steps (kept_on before (Started i) kept lawful.0) (ready_push before (Started i) ready lawful.0) lawful.1)
  order_from before (Ended i true ∷ steps) kept ready lawful =
      let judged = kept.out_of_date i (kept.started i (running_parts before i lawful.0.0).0) in (
        record { command = kept.judged i judged; fresh = not_settled_yet task.graph.edges before i kept lawful.0.0; needs = ready i judged },
        settles before steps (Ended i true)
            (order_from (before ++ Ended i true ∷ []) steps (kept_on before (Ended i true) kept lawful.0) (ready_push before (Ended i true) ready lawful.0) lawful.1),
      )
  order_from before (Ended i false ∷ steps) kept ready lawful = passes before steps (Ended i false) refl
      (order_from (before ++ Ended i false ∷ []) steps (kept_on before (Ended i false) kept lawful.0) (ready_push before (Ended i false) ready lawful.0) lawful.1)

  pub settling_order : (steps : List Step) → IsLawful task steps → IsSettlingOrder task.graph.edges task.recorded [] (settled_in steps)
  settling_order steps lawful = order_from [] steps (kept_nothing task.graph.edges) (λ i h. absurd (false≢true h)) lawful
