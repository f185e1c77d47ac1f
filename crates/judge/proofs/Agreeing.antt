-- What the summaries tell is what the facts tell that they are of.
use Rattle.std.proofs.Common.{◌≡◌, ◌&&◌, ◌||◌, not, Bool, true, false, cond, is_some, List, [], ◌∷◌, Option, Some, refl, sym, ◌∙◌, ap}
use Rattle.std.proofs.lemmas.Bool.{false≢true}
use Rattle.std.specs.Prelude.{find}
use Rattle.std.specs.List.{list_any}
use Rattle.model.specs.declared.reason.Reason.{Reason}
use Rattle.model.specs.declared.reason.Reason.TheVariants.{OutputAbsent, NoRecord, OtherAct, InputAbsent, InputChanged, InputLater, OutputOlder, DepsUnknown}
use Rattle.model.specs.Judgement.{OutputFacts, InputFacts, holds, is_empty_text, is_unset, start_of, all_reasons}
use Rattle.judge.specs.declared.reason_table.Facts.{Facts}
use Rattle.judge.specs.Summaries.{AreOutputs, AreInputs}
use Rattle.judge.specs.ReasonTable.{facts_with, holds_by, IsReasonOf, IsStaleOf}

any_same : {X : Type 0} (f g : X → Bool) (xs : List X) → ((x : X) → f x ≡ g x) → list_any f xs ≡ list_any g xs
any_same f g [] same = refl
any_same f g (x ∷ xs) same = ap (λ (b : Bool). b || list_any f xs) (same x) ∙ ap (λ (b : Bool). g x || b) (any_same f g xs same)

find_same : (f g : Reason → Bool) (reasons : List Reason) → ((r : Reason) → f r ≡ g r) → find f reasons ≡ find g reasons
find_same f g [] same = refl
find_same f g (r ∷ rs) same = ap (λ (b : Bool). cond b (Some r) (find f rs)) (same r) ∙ ap (λ (o : Option Reason). cond (g r) (Some r) o) (find_same f g rs same)

module _ (facts : Facts) (outputs : List OutputFacts) (inputs : List InputFacts) (of_outputs : AreOutputs facts.act.now outputs facts.outputs) (of_inputs : AreInputs inputs facts.inputs) where
  agree : (r : Reason) → holds_by facts r ≡ holds (facts_with facts outputs inputs) r
  agree OutputAbsent = of_outputs.absent
  agree NoRecord = of_outputs.unknown
  agree OtherAct = of_outputs.other_act
  agree InputAbsent = of_inputs.absent
  agree InputChanged = of_inputs.anew
  agree InputLater = of_outputs.started facts.inputs.latest_stamp ∙ any_same _ _ outputs (λ o. of_inputs.stamped (start_of o.made))
  agree OutputOlder = ap (λ (b : Bool). not facts.restat && b) (of_outputs.stamped facts.inputs.latest_stamp ∙ any_same _ _ outputs (λ o. of_inputs.stamped o.stamp))
  agree DepsUnknown = ap (λ (b : Bool). not (is_empty_text facts.act.now.depfile) && (b || (is_unset facts.deps && not facts.depfile))) of_outputs.other_deps

pub reason_is : (facts : Facts) (reason : Option Reason) → reason ≡ find (λ r. holds_by facts r) all_reasons → IsReasonOf facts reason
reason_is facts reason is outputs inputs of_outputs of_inputs =
    is ∙ find_same (λ r. holds_by facts r) (λ r. holds (facts_with facts outputs inputs) r) all_reasons (agree facts outputs inputs of_outputs of_inputs)

-- ---- by the outputs alone

none_any : {X : Type 0} (xs : List X) → list_any (λ x. false) xs ≡ false
none_any [] = refl
none_any (x ∷ xs) = none_any xs

and_second : (a b : Bool) → (a && b) ≡ true → b ≡ true
and_second true b is = is
and_second false b is = absurd (false≢true is)

-- where one reason holds by the one test, one does by the other
find_more : (f g : Reason → Bool) (reasons : List Reason) → ((r : Reason) → f r ≡ true → g r ≡ true) → is_some (find f reasons) ≡ true → is_some (find g reasons) ≡ true
find_more f g [] more is = is
find_more f g (r ∷ rs) more is = by_other (λ rest. find_more f g rs more rest) (g r) refl
  where
    by_one : (b : Bool) → f r ≡ b → g r ≡ false → is_some (find f rs) ≡ true
    by_one true here fails = absurd (false≢true (sym fails ∙ more r here))
    by_one false here fails = sym (ap (λ (b : Bool). is_some (cond b (Some r) (find f rs))) here) ∙ is

    by_other : (is_some (find f rs) ≡ true → is_some (find g rs) ≡ true) → (b : Bool) → g r ≡ b → is_some (cond (g r) (Some r) (find g rs)) ≡ true
    by_other rest true here = ap (λ (b : Bool). is_some (cond b (Some r) (find g rs))) here
    by_other rest false fails = ap (λ (b : Bool). is_some (cond b (Some r) (find g rs))) fails ∙ rest (by_one (f r) refl fails)

module _ (facts : Facts) (outputs : List OutputFacts) (of_outputs : AreOutputs facts.act.now outputs facts.outputs) where
  holds_more : (r : Reason) → holds (facts_with facts outputs []) r ≡ true → holds_by facts r ≡ true
  holds_more OutputAbsent is = of_outputs.absent ∙ is
  holds_more NoRecord is = of_outputs.unknown ∙ is
  holds_more OtherAct is = of_outputs.other_act ∙ is
  holds_more InputAbsent is = absurd (false≢true is)
  holds_more InputChanged is = absurd (false≢true is)
  holds_more InputLater is = absurd (false≢true (sym (none_any outputs) ∙ is))
  holds_more OutputOlder is = absurd (false≢true (sym (none_any outputs) ∙ and_second (not facts.restat) _ is))
  holds_more DepsUnknown is = ap (λ (b : Bool). not (is_empty_text facts.act.now.depfile) && (b || (is_unset facts.deps && not facts.depfile))) of_outputs.other_deps ∙ is

pub stale_is : (facts : Facts) (reason : Option Reason) → reason ≡ find (λ r. holds_by facts r) all_reasons → IsStaleOf facts reason
stale_is facts reason is outputs of_outputs stale =
    ap (λ (r : Option Reason). is_some r) is
    ∙ find_more (λ r. holds (facts_with facts outputs []) r) (λ r. holds_by facts r) all_reasons (holds_more facts outputs of_outputs) stale
