use Rattle.std.proofs.Common.{◌≡◌, ◌+◌, ◌∷◌, [], ◌++◌, Bool, true, false, cond, List, ℕ, sym, ap, ◌∙◌, subst, map, take}
use Rattle.std.proofs.lemmas.Bool.{not-true, not-false}
use Rattle.std.proofs.lemmas.List.{map-append, take_all}
use Rattle.model.specs.Graph.{has}
use Rattle.log_text.specs.Kept.{AreDistinct}
use Rattle.log_text.proofs.Bytes.{take_more}
use Rattle.log_text.proofs.Distinct.{distinct_push}
use Rattle.log_text.proofs.Parts.{seen_has, stands_before}
use Rattle.log_text.proofs.outputs.are_distinct.Goals as goal

pub returns-then-not-branch-clause-twice : goal.returns-then-not-branch-clause-twice
returns-then-not-branch-clause-twice c = λ no distinct.
    let i = c.loop-output.output-index in
    let q = c.as_str.result.now in
    let contains = not-false _ (sym c.in_ok-insert.ensures.added ∙ c.if-not-branch.true) in
    let there : has (take i c.args.outputs.now) q ≡ true = ap (λ (xs : List (List ℕ)). has xs q) (sym c.loop-output.invariant.seen) ∙ (sym (seen_has c.loop-output.seen.keys q) ∙ contains) in
    let here : has (take i c.args.outputs.now) c.output-item.result ≡ true = ap (has (take i c.args.outputs.now)) (sym c.as_str.ensures) ∙ there in
    stands_before c.args.outputs.now i c.output-item.result c.loop-output-test.true c.output-item.is here distinct

pub loop-output-preserved : goal.loop-output-preserved
loop-output-preserved c =
    let i = c.loop-output.output-index in
    let q = c.as_str.result.now in
    let absent = not-true _ (sym c.in_ok-insert.ensures.added ∙ c.if-not-branch.false) in
    let there : has (take i c.args.outputs.now) q ≡ false = ap (λ (xs : List (List ℕ)). has xs q) (sym c.loop-output.invariant.seen) ∙ (sym (seen_has c.loop-output.seen.keys q) ∙ absent) in
    let more : take (i + 1) c.args.outputs.now ≡ take i c.args.outputs.now ++ q ∷ [] = take_more c.args.outputs.now i c.output-item.result c.loop-output-test.true ∙ ap (λ (x : List ℕ). take i c.args.outputs.now ++ x ∷ []) (sym c.output-item.is ∙ sym c.as_str.ensures) in
    record {
      seen =
          ap (map (λ k. k.now)) (c.in_ok-insert.ensures.keys ∙ ap (λ (b : Bool). cond b c.loop-output.seen.keys (c.loop-output.seen.keys ++ c.as_str.result ∷ [])) absent)
          ∙ (map-append (λ k. k.now) c.loop-output.seen.keys (c.as_str.result ∷ [])
          ∙ (ap (λ (xs : List (List ℕ)). xs ++ q ∷ []) c.loop-output.invariant.seen ∙ sym more));
      distinct = subst AreDistinct (sym more) (distinct_push (take i c.args.outputs.now) q c.loop-output.invariant.distinct there);
    }

pub returns-clause-distinct : goal.returns-clause-distinct
returns-clause-distinct c = λ yes. subst AreDistinct (take_all c.loop-output.output-index c.args.outputs.now c.loop-output-test.false) c.loop-output.invariant.distinct
