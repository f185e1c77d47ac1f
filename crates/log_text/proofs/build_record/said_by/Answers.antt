use Rattle.std.proofs.Common.{◌≡◌, ◌∷◌, [], ◌++◌, List, ℕ, refl, sym, ap, ◌∙◌, length, append-nil}
use Rattle.std.proofs.lemmas.Bool.{eqb-false, eqb-true}
use Rattle.model.specs.declared.record.Record.TheVariants.{Begun, Done}
use Rattle.log_text.specs.BuildRecord.{output_fields}
use Rattle.log_text.proofs.Bytes.{length_nil}
use Rattle.log_text.proofs.Parts.{parts_of, not_split, not_distinct, not_kind, not_done, same_text, other_text, not_text, text_after_not}
use Rattle.log_text.proofs.build_record.said_by.Goals.{else-eq-via-then-eq+else-is_empty, else-eq-via-else-eq}
use Rattle.log_text.proofs.build_record.said_by.Goals as goal

pub returns-in_default-split_outputs-clause-none : goal.returns-in_default-split_outputs-clause-none
returns-in_default-split_outputs-clause-none c = not_split c.args.version c.args.fields.now c.in-Some.kind.now c.in-Some.rest.now c.in-Some.ensures.cases.0 c.in_default-split_outputs.ensures.none

pub returns-then-not-branch-clause-none : goal.returns-then-not-branch-clause-none
returns-then-not-branch-clause-none c = λ other is e.
    let found = c.in-Some-split_outputs.ensures.found in
    let outputs = c.in-Some-split_outputs.outputs.now in
    let after = c.in-Some-split_outputs.after.now in
    let parts = parts_of c.args.version c.args.fields.now c.in-Some.kind.now c.in-Some.rest.now outputs after c.in-Some.ensures.cases.0 found.0 found.1 other is e in
    not_distinct c.args.version other c.in-Some.kind.now outputs after is parts (c.in_ok-are_distinct.ensures.twice c.if-not-branch.true)

pub returns-then-is_empty-clause-found : goal.returns-then-is_empty-clause-found
returns-then-is_empty-clause-found c =
    let found = c.in-Some-split_outputs.ensures.found in
    let outputs = c.in-Some-split_outputs.outputs.now in
    let kind : c.in-Some.kind.now ≡ 98 ∷ [] = sym c.as_str.ensures ∙ same_text _ _ c.if-eq.ensures in
    let none : c.in-Some-split_outputs.after.now ≡ [] = length_nil c.in-Some-split_outputs.after.now (eqb-true _ 0 (sym c.if-is_empty.ensures)) in
    let rest = found.0 ∙ (ap (λ (xs : List (List ℕ)). output_fields c.args.version outputs ++ xs) none ∙ append-nil (output_fields c.args.version outputs)) in
    (Begun outputs, c.in-Some.ensures.cases.0 ∙ (ap (λ (k : List ℕ). k ∷ c.in-Some.rest.now) kind ∙ ap (λ (xs : List (List ℕ)). (98 ∷ []) ∷ xs) rest), record { room = found.1; once = c.in_ok-are_distinct.ensures.distinct c.if-not-branch.false; start = tt }, refl)

pub returns-then-ne-clause-none : goal.returns-then-ne-clause-none
returns-then-ne-clause-none c = λ other is e.
    let found = c.in-Some-split_outputs.ensures.found in
    let outputs = c.in-Some-split_outputs.outputs.now in
    let after = c.in-Some-split_outputs.after.now in
    let parts = parts_of c.args.version c.args.fields.now c.in-Some.kind.now c.in-Some.rest.now outputs after c.in-Some.ensures.cases.0 found.0 found.1 other is e in
    not_kind other c.in-Some.kind.now outputs after parts
    (λ begun none.
    elim c.else-eq.branch [
      | else-eq-via-then-eq+else-is_empty w ↦ eqb-false _ 0 (sym w.if-is_empty.ensures) (ap length none)
      | else-eq-via-else-eq w ↦ other_text _ _ w.if-eq.ensures (c.as_str.ensures ∙ begun)
    ])
    (λ done. not_text _ _ c.if-ne.ensures (c.as_str-2.ensures ∙ done))

pub returns-in-Some-2-clause-found : goal.returns-in-Some-2-clause-found
returns-in-Some-2-clause-found c =
    let found = c.in-Some-split_outputs.ensures.found in
    let outputs = c.in-Some-split_outputs.outputs.now in
    let kind : c.in-Some.kind.now ≡ 100 ∷ [] = sym c.as_str-2.ensures ∙ text_after_not _ _ c.if-ne.ensures in
    let done = rw c.in-Some-2.is at c.in_ok-done.ensures.found in
    let rest = found.0 ∙ ap (λ (xs : List (List ℕ)). output_fields c.args.version outputs ++ xs) done.0 in
    (Done outputs c.in-Some-2.done.start c.in-Some-2.done.act, c.in-Some.ensures.cases.0 ∙ (ap (λ (k : List ℕ). k ∷ c.in-Some.rest.now) kind ∙ ap (λ (xs : List (List ℕ)). (100 ∷ []) ∷ xs) rest), record { room = found.1; once = c.in_ok-are_distinct.ensures.distinct c.if-not-branch.false; start = done.1 }, refl)

pub returns-in-None-clause-none : goal.returns-in-None-clause-none
returns-in-None-clause-none c = λ other is e.
    let found = c.in-Some-split_outputs.ensures.found in
    let outputs = c.in-Some-split_outputs.outputs.now in
    let after = c.in-Some-split_outputs.after.now in
    let parts = parts_of c.args.version c.args.fields.now c.in-Some.kind.now c.in-Some.rest.now outputs after c.in-Some.ensures.cases.0 found.0 found.1 other is e in
    let kind : c.in-Some.kind.now ≡ 100 ∷ [] = sym c.as_str-2.ensures ∙ text_after_not _ _ c.if-ne.ensures in
    let none = rw c.in-None.is at c.in_ok-done.ensures.none in
    not_done c.args.version other c.in-Some.kind.now outputs after is parts kind none
