use Rattle.std.proofs.Common.{◌≡◌, ◌∷◌, [], ◌++◌, List, ℕ, sym, ap, ◌∙◌, subst}
use Rattle.log_text.specs.Kept.{AreDistinct}
use Rattle.log_text.specs.BuildRecord.{output_fields}
use Rattle.log_text.proofs.HeadFields.{parts_of, same_text}
use Rattle.log_text.proofs.deps_record.said_by.Goals as goal

pub returns-in_default-told_by-clause-none : goal.returns-in_default-told_by-clause-none
returns-in_default-told_by-clause-none c = λ other is e.
    let found = c.in-Some-split_outputs.ensures.found in
    let parts = parts_of c.args.version c.args.fields.now c.in-Some.kind.now c.in-Some.rest.now c.in-Some-split_outputs.outputs.now c.in-Some-split_outputs.after.now c.in-Some.ensures.cases.0 found.0 found.1 other is e in
    c.in_default-told_by.ensures.none other.start other.paths is.start is.paths parts.2

pub returns-then-not-branch-clause-none : goal.returns-then-not-branch-clause-none
returns-then-not-branch-clause-none c = λ other is e.
    let found = c.in-Some-split_outputs.ensures.found in
    let parts = parts_of c.args.version c.args.fields.now c.in-Some.kind.now c.in-Some.rest.now c.in-Some-split_outputs.outputs.now c.in-Some-split_outputs.after.now c.in-Some.ensures.cases.0 found.0 found.1 other is e in
    c.in_ok-are_distinct.ensures.twice c.if-not-branch.true (subst AreDistinct (sym parts.1) is.once)

pub returns-clause-found : goal.returns-clause-found
returns-clause-found c =
    let found = c.in-Some-split_outputs.ensures.found in
    let outputs = c.in-Some-split_outputs.outputs.now in
    let told = c.in-Some-told_by.ensures.found in
    let kind : c.in-Some.kind.now ≡ 114 ∷ [] = sym c.as_str.ensures ∙ same_text _ _ c.if-ne.ensures in
    let rest = found.0 ∙ ap (λ (xs : List (List ℕ)). output_fields c.args.version outputs ++ xs) told.0 in
    (c.in-Some.ensures.cases.0 ∙ (ap (λ (k : List ℕ). k ∷ c.in-Some.rest.now) kind ∙ ap (λ (xs : List (List ℕ)). (114 ∷ []) ∷ xs) rest), record { room = found.1; once = c.in_ok-are_distinct.ensures.distinct c.if-not-branch.false; start = told.1; paths = told.2 })
