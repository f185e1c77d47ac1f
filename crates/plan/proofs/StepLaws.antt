-- What steps make of standings, and what standings tell of steps: the laws.
use Rattle.std.proofs.Common.{◌≡◌, ℕ, ◌||◌, Bool, true, false, List, [], ◌∷◌, ◌++◌, refl, sym, ◌∙◌, ap}
use Rattle.std.proofs.lemmas.Bool.{false≢true, true≢false, false_from_ne_true}
use Rattle.model.specs.Graph.{has_number}
use Rattle.model.specs.Schedule.{Task, Step, Judged, Started, Ended, clean_in, out_of_date_in, started_in, well_in, failed_in, done_in, IsLawfulStep}
use Rattle.theory.proofs.Lists.{has_number-append}
use Rattle.theory.proofs.Orderly.{kept_orderly}
use Rattle.plan.specs.Standing.{is_unjudged, is_out_of_date, is_settled}
use Rattle.plan.specs.Planned.{standing_in, AreTaken}
use Rattle.plan.specs.Steps.{edge_of, left_by, StepsMove, StandingsTell, StepsName, ListsCount}
use Rattle.plan.proofs.PlannedSteps as stands
use Rattle.plan.proofs.PlannedCounts.{count_listed, running_once, failed_once}

own : (task : Task) (steps : List Step) (step : Step) → AreTaken task steps → IsLawfulStep task steps step → standing_in (steps ++ step ∷ []) (edge_of step) ≡ left_by step
own task steps (Judged i true) lawful next = stands.stands_stale task steps lawful i next.0.once
own task steps (Judged i false) lawful next = stands.stands_clean task steps lawful i next.0.once
own task steps (Started i) lawful next = stands.stands_started task steps lawful i next.1.once
own task steps (Ended i true) lawful next = stands.stands_well task steps lawful i
own task steps (Ended i false) lawful next = stands.stands_failed task steps lawful i next.0

pub steps_move_law : StepsMove
steps_move_law = record { own = own; others = λ steps step i. stands.stands_other steps step i }

-- what was judged clean, or ended well, is settled
settled_flags : (w f s o c : Bool) → (c ≡ true → (f ≡ false) × (s ≡ false) × (o ≡ false)) → (c || w) ≡ true → is_settled (stands.stands w f s o c) ≡ true
settled_flags true f s o c cf h = refl
settled_flags false f s o false cf h = absurd (false≢true h)
settled_flags false true s o true cf h = absurd (true≢false (cf refl).0)
settled_flags false false true o true cf h = absurd (true≢false (cf refl).1)
settled_flags false false false true true cf h = absurd (true≢false (cf refl).2)
settled_flags false false false false true cf h = refl

done_stands : (task : Task) (steps : List Step) (i : ℕ) → AreTaken task steps → has_number (done_in steps) i ≡ true → is_settled (standing_in steps i) ≡ true
done_stands task steps i lawful h =
    let kept = kept_orderly task.graph.edges steps lawful.orderly in
    settled_flags (has_number (well_in steps) i) (has_number (failed_in steps) i) (has_number (started_in steps) i) (has_number (out_of_date_in steps) i) (has_number (clean_in steps) i)
    (λ c.
    let out : has_number (out_of_date_in steps) i ≡ false = false_from_ne_true (has_number (out_of_date_in steps) i) (λ o. kept.apart i c o) in
    let new : has_number (started_in steps) i ≡ false = false_from_ne_true (has_number (started_in steps) i) (λ s. false≢true (sym out ∙ kept.started i s)) in
    (false_from_ne_true (has_number (failed_in steps) i) (λ f. false≢true (sym new ∙ kept.ended i (kept.failed i f))), new, out))
    (sym (has_number-append (clean_in steps) (well_in steps) i) ∙ h)

pub standings_tell_law : StandingsTell
standings_tell_law = record {
  unjudged = λ task steps i lawful. (λ is. stands.unjudged_fresh steps i (ap is_unjudged is), stands.fresh_unjudged task steps lawful i);
  out_of_date = λ task steps i lawful. (λ is. stands.stale_and_new steps i (ap is_out_of_date is), λ both. stands.new_out_of_date task steps lawful i both.0 both.1);
  running = λ task steps i lawful. stands.running_stands steps i;
  failed = λ task steps i lawful. stands.failed_stands task steps lawful i;
  done = done_stands;
}

pub steps_name_law : StepsName
steps_name_law = record {
  running = λ task steps lawful. record {
    within = stands.running_in_cone task steps lawful;
    commands = stands.running_command task steps lawful;
    positive = stands.never_running task steps lawful;
    once = running_once task steps lawful;
  };
  failed = λ task steps lawful. record {
    within = stands.failed_in_cone task steps lawful;
    commands = stands.failed_command task steps lawful;
    positive = stands.never_failed task steps lawful;
    once = failed_once task steps lawful;
  };
}

pub lists_count_law : ListsCount
lists_count_law test standings list none once positive is = count_listed test none standings list once positive is
