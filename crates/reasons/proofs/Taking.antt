-- The outputs that were taken in, as they were seen and recorded.
use Rattle.std.proofs.Common.{◌≡◌, ℕ, ◌+◌, ◌<◌, ◌||◌, Bool, true, false, List, [], ◌∷◌, ◌++◌, Option, map, get_or, take, length, refl, sym, ◌∙◌, ap, subst}
use Rattle.std.proofs.lemmas.List.{take_more, map-append}
use Rattle.model.specs.declared.act.Act.{Act}
use Rattle.model.specs.declared.reason.Reason.{Reason}
use Rattle.model.specs.declared.reason.Reason.TheVariants.{OutputAbsent, NoRecord, OtherAct, InputAbsent, InputChanged, InputLater, OutputOlder, DepsUnknown}
use Rattle.model.specs.Records.{Made}
use Rattle.model.specs.Judgement.{OutputFacts}
use Rattle.judge.specs.declared.output_facts.Outputs.{Outputs}
use Rattle.judge.specs.Summaries.{AreOutputs, TakesOutput}
use Rattle.reasons.specs.Why.{output_tells, holds_of_output}

-- facts of an output that are the same
pub taken_as : (act : Act) (s t : Option ℕ) (m n : Option Made) (d e : Option ℕ) → s ≡ t → m ≡ n → d ≡ e → (old new : Outputs)
    → TakesOutput act (record { stamp = s; made = m; deps_start = d }) old new → TakesOutput act (record { stamp = t; made = n; deps_start = e }) old new
taken_as act s t m n d e stamp made start old new takes =
    subst (λ (o : OutputFacts). TakesOutput act o old new)
    (ap (λ (x : Option ℕ). record { stamp = x; made = m; deps_start = d }) stamp
    ∙ (ap (λ (x : Option Made). record { stamp = t; made = x; deps_start = d }) made ∙ ap (λ (x : Option ℕ). record { stamp = t; made = n; deps_start = x }) start))
    takes

pub taken_more : (act : Act) (facts : ℕ → OutputFacts) (xs : List ℕ) (k d : ℕ) → k < length xs → (old new : Outputs)
    → TakesOutput act (facts (get_or xs k d)) old new → AreOutputs act (map facts (take k xs)) old → AreOutputs act (map facts (take (k + 1) xs)) new
taken_more act facts xs k d lt old new takes are =
    subst (λ (l : List OutputFacts). AreOutputs act l new) (sym (ap (map facts) (take_more xs k d lt) ∙ map-append facts (take k xs) (get_or xs k d ∷ []))) (takes (map facts (take k xs)) are)

or_false : (b : Bool) → (b || false) ≡ b
or_false true = refl
or_false false = refl

-- what is kept of one output tells whether a reason holds of it
pub tells_alone : (act : Act) (o : OutputFacts) (alone : Outputs) → AreOutputs act (o ∷ []) alone → (reason : Reason) → output_tells alone reason ≡ holds_of_output act reason o
tells_alone act o alone are OutputAbsent = are.absent ∙ or_false (holds_of_output act OutputAbsent o)
tells_alone act o alone are NoRecord = are.unknown ∙ or_false (holds_of_output act NoRecord o)
tells_alone act o alone are OtherAct = are.other_act ∙ or_false (holds_of_output act OtherAct o)
tells_alone act o alone are DepsUnknown = are.other_deps ∙ or_false (holds_of_output act DepsUnknown o)
tells_alone act o alone are InputAbsent = refl
tells_alone act o alone are InputChanged = refl
tells_alone act o alone are InputLater = refl
tells_alone act o alone are OutputOlder = refl
