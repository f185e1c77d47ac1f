-- Each turn leaves fewer steps.
use Rattle.std.proofs.Common.{◌≡◌, inl, inr, ◌≢◌, ℕ, zero, suc, ◌<◌, Bool, true, false, List, [], ◌∷◌, length, refl, sym, ◌∙◌, ap, arith}
use Rattle.std.proofs.Math.ListN.{set}
use Rattle.std.proofs.lemmas.List.Sums.{sum_by-cons, sum_by-set}
use Rattle.std.proofs.lemmas.Bool.{false≢true, and_parts}
use Rattle.plan.specs.declared.plan.Plan.{Plan}
use Rattle.plan.specs.declared.step.Standing.{Standing}
use Rattle.plan.specs.declared.step.Standing.TheVariants.{Outside, Unjudged, Clean, OutOfDate, Running, Well, Failed, Alias, Known}
use Rattle.plan.specs.Standing.{standing_at, is_unjudged, is_out_of_date}
use Rattle.plan.specs.declared.step.Step.TheVariants.{Judge, Start}
use Rattle.plan.specs.declared.step.Verdict.{Verdict}
use Rattle.plan.specs.declared.step.Verdict.TheVariants as verdict
use Rattle.plan.specs.Plan.{IsSettling, standing_by, standing_after}
use Rattle.plan.specs.Planned.{IsOffered}
use Rattle.work.specs.Going.{steps_left, work_left}

-- an edge that stands in the list
inside : (ss : List Standing) (e : ℕ) → 0 < steps_left (standing_at ss e) → e < length ss
inside [] e some = absurd (omega (arith, some))
inside (s ∷ ss) zero some = omega arith
inside (s ∷ ss) (suc e) some = let lt = inside ss e some in omega (arith, lt)

-- one edge has fewer steps left, and the others as many
less_at : (xs ys : List Standing) (e : ℕ) → length ys ≡ length xs → steps_left (standing_at ys e) < steps_left (standing_at xs e) → ((k : ℕ) → k ≢ e → steps_left (standing_at ys k) ≡ steps_left (standing_at xs k)) → work_left ys < work_left xs
less_at [] ys e fits less same = absurd (omega (arith, less))
less_at (x ∷ xs) [] e fits less same = absurd (omega (arith, fits))
less_at (x ∷ xs) (y ∷ ys) zero fits less same =
    let a = sum_by-cons steps_left x xs in
    let b = sum_by-cons steps_left y ys in
    let c = all_same xs ys (omega (arith, fits)) (λ k. same (suc k) (λ is. omega (arith, is))) in
    omega (arith, a, b, c, less)
  where
    all_same : (xs ys : List Standing) → length ys ≡ length xs → ((k : ℕ) → steps_left (standing_at ys k) ≡ steps_left (standing_at xs k)) → work_left ys ≡ work_left xs
    all_same [] [] fits same = refl
    all_same [] (y ∷ ys) fits same = absurd (omega (arith, fits))
    all_same (x ∷ xs) [] fits same = absurd (omega (arith, fits))
    all_same (x ∷ xs) (y ∷ ys) fits same =
        let a = sum_by-cons steps_left x xs in
        let b = sum_by-cons steps_left y ys in
        let c = all_same xs ys (omega (arith, fits)) (λ k. same (suc k)) in
        omega (arith, a, b, c, same zero)
less_at (x ∷ xs) (y ∷ ys) (suc e) fits less same =
    let a = sum_by-cons steps_left x xs in
    let b = sum_by-cons steps_left y ys in
    let c = less_at xs ys e (omega (arith, fits)) less (λ k other. same (suc k) (λ is. other (omega (arith, is)))) in
    omega (arith, a, b, c, same zero (λ is. omega (arith, is)))

-- where an edge comes to stand with fewer steps left, and aliases may be settled
pub less_settling : (old new : List Standing) (e : ℕ) (s : Standing) → IsSettling old new e s → steps_left s < steps_left (standing_at old e) → work_left new < work_left old
less_settling old new e s settling less = less_at old new e settling.fits (omega (arith, ap steps_left settling.here, less)) others
  where
    others : (k : ℕ) → k ≢ e → steps_left (standing_at new k) ≡ steps_left (standing_at old k)
    others k other = elim (settling.others k other) [
      | inl same ↦ ap steps_left same
      | inr settled ↦ ap steps_left settled.1 ∙ sym (ap steps_left settled.0)
    ]

pub less_set : (old : List Standing) (e : ℕ) (s : Standing) → steps_left s < steps_left (standing_at old e) → work_left (set old e s) < work_left old
less_set old e s less =
    let a = sum_by-set steps_left old e s Outside (inside old e (omega (arith, less))) in
    omega (arith, a, less)

unjudged_left : (s : Standing) → is_unjudged s ≡ true → steps_left s ≡ 3
unjudged_left Outside is = absurd (false≢true is)
unjudged_left Unjudged is = refl
unjudged_left Clean is = absurd (false≢true is)
unjudged_left OutOfDate is = absurd (false≢true is)
unjudged_left Running is = absurd (false≢true is)
unjudged_left Well is = absurd (false≢true is)
unjudged_left Failed is = absurd (false≢true is)
unjudged_left Alias is = absurd (false≢true is)
unjudged_left Known is = absurd (false≢true is)

out_of_date_left : (s : Standing) → is_out_of_date s ≡ true → steps_left s ≡ 2
out_of_date_left Outside is = absurd (false≢true is)
out_of_date_left Unjudged is = absurd (false≢true is)
out_of_date_left Clean is = absurd (false≢true is)
out_of_date_left OutOfDate is = refl
out_of_date_left Running is = absurd (false≢true is)
out_of_date_left Well is = absurd (false≢true is)
out_of_date_left Failed is = absurd (false≢true is)
out_of_date_left Alias is = absurd (false≢true is)
out_of_date_left Known is = absurd (false≢true is)

-- each step that the plan is told
pub judged_less : (plan : Plan) (new : List Standing) (e : ℕ) (told : Verdict) → IsOffered plan (Judge e) → IsSettling plan.standings.items new e (standing_by told) → work_left new < work_left plan.standings.items
judged_less plan new e told offered settling =
    less_settling plan.standings.items new e (standing_by told) settling (omega (arith, unjudged_left (standing_at plan.standings.items e) (and_parts _ _ (sym (plan.sets.ready e) ∙ offered)).0, few told))
  where
    few : (v : Verdict) → steps_left (standing_by v) < 3
    few verdict.Clean = omega arith
    few verdict.OutOfDate = omega arith

pub started_less : (plan : Plan) (e : ℕ) → IsOffered plan (Start e) → work_left (set plan.standings.items e Running) < work_left plan.standings.items
started_less plan e offered =
    let was = out_of_date_left (standing_at plan.standings.items e) (sym (plan.waits.waits e) ∙ (and_parts _ _ offered).0) in
    less_set plan.standings.items e Running (omega (arith, was))

pub finished_less : (old new : List Standing) (e : ℕ) (ok : Bool) → standing_at old e ≡ Running → IsSettling old new e (standing_after ok) → work_left new < work_left old
finished_less old new e true was settling = less_settling old new e Well settling (omega (arith, ap steps_left was))
finished_less old new e false was settling = less_settling old new e Failed settling (omega (arith, ap steps_left was))
