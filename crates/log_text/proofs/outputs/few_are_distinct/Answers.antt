use Rattle.std.proofs.Common.{◌≡◌, ◌+◌, ◌∷◌, [], ◌++◌, true, false, List, ℕ, sym, ap, ◌∙◌, subst, take}
use Rattle.std.proofs.lemmas.List.{take_all}
use Rattle.model.specs.Graph.{has}
use Rattle.log_text.specs.Kept.{AreDistinct}
use Rattle.log_text.proofs.Bytes.{take_more}
use Rattle.log_text.proofs.Distinct.{distinct_push}
use Rattle.log_text.proofs.KeptRecords.{none_twice}
use Rattle.log_text.proofs.Parts.{stands_before}
use Rattle.log_text.proofs.outputs.few_are_distinct.Goals as goal

pub returns-then-is_among-clause-twice : goal.returns-then-is_among-clause-twice
returns-then-is_among-clause-twice c = λ no distinct.
    let outputs = c.args.outputs.now in
    let i = c.loop-place.place in
    let x = c.index-outputs-place.result in
    let there : has (take i outputs) x ≡ true = ap (has (take i outputs)) (sym c.as_str.ensures) ∙ (sym c.is_among.ensures ∙ c.if-is_among.true) in
    stands_before outputs i x c.loop-place-test.true c.index-outputs-place.is there distinct

pub loop-place-init : goal.loop-place-init
loop-place-init c = none_twice

pub loop-place-preserved : goal.loop-place-preserved
loop-place-preserved c =
    let outputs = c.args.outputs.now in
    let i = c.loop-place.place in
    let x = c.index-outputs-place.result in
    let absent : has (take i outputs) x ≡ false = ap (has (take i outputs)) (sym c.as_str.ensures) ∙ (sym c.is_among.ensures ∙ c.if-is_among.false) in
    let more : take (i + 1) outputs ≡ take i outputs ++ x ∷ [] = take_more outputs i x c.loop-place-test.true ∙ ap (λ (y : List ℕ). take i outputs ++ y ∷ []) (sym c.index-outputs-place.is) in
    subst AreDistinct (sym more) (distinct_push (take i outputs) x c.loop-place.invariant absent)

pub returns-clause-distinct : goal.returns-clause-distinct
returns-clause-distinct c = λ yes. subst AreDistinct (take_all c.loop-place.place c.args.outputs.now c.loop-place-test.false) c.loop-place.invariant
