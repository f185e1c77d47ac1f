use Rattle.std.proofs.Common.{◌≡◌, ◌∷◌, ◌++◌, [], List, ℕ, sym, ◌∙◌, subst}
use Rattle.std.specs.List.{flat_map}
use Rattle.std.proofs.lemmas.Bool.{eqb-true}
use Rattle.log_text.specs.Line.{field_and_tab, AreTexts}
use Rattle.log_text.proofs.Bytes.{length_nil}
use Rattle.log_text.proofs.Notes.{at_some}
use Rattle.log_text.specs.DepsRecordLine.{head_fields}
use Rattle.log_text.specs.DepsLog.{Keeps}
use Rattle.log_text.proofs.KeptDeps.{keeps_same, keeps_more}
use Rattle.log_text.proofs.Plain.{alone, plain_record, plain_line}
use Rattle.log_text.proofs.deps_log.DepsLogRecords.put_plain.Goals as goal

pub returns-in_default-2-clause-none : goal.returns-in_default-2-clause-none
returns-in_default-2-clause-none c = λ no records keeps. keeps_same c.take_numbers.ensures.same c.take_numbers.ensures.grown records (subst (Keeps records) (sym c.self.view_is) keeps)

pub returns-then-not-is_empty-clause-none : goal.returns-then-not-is_empty-clause-none
returns-then-not-is_empty-clause-none c = λ no records keeps. keeps_same c.take_numbers.ensures.same c.take_numbers.ensures.grown records (subst (Keeps records) (sym c.self.view_is) keeps)

pub put-requires : goal.put-requires
put-requires c = alone c.plain.result

pub returns-clause-put : goal.returns-clause-put
returns-clause-put c = λ yes.
    let start = c.in-Some.start in
    let count = c.in-Some.count in
    let bytes = c.in-Some.bytes.now in
    let output = c.plain.result in
    let head = c.in-Some.ensures in
    let taken = at_some _ c.in_ok-paths.field-0 (c.in-Some-2.paths, c.in-Some-2.rest) c.in-Some-2.is c.in_ok-paths.ensures.numbers in
    let none : c.in-Some-2.rest.now ≡ [] = length_nil c.in-Some-2.rest.now (eqb-true _ 0 (sym c.is_empty.ensures ∙ c.if-not-is_empty.false)) in
    let spelled : c.args.line.now ≡ (flat_map field_and_tab (head_fields output start count) ++ bytes) ++ 46 ∷ [] = subst (λ (o : List ℕ). c.args.line.now ≡ (flat_map field_and_tab (head_fields o start count) ++ bytes) ++ 46 ∷ []) (sym c.plain.ensures) head.head in
    let texts : AreTexts (head_fields output start count) = subst (λ (o : List ℕ). AreTexts (head_fields o start count)) (sym c.plain.ensures) head.texts in
    let line = plain_line c.args.version c.args.line.now bytes output start count _ c.in-Some-2.paths c.in-Some-2.rest.now head.version spelled texts head.start head.count none taken in (
      plain_record output start line.0,
      line.2.spelled,
      line.2.has,
      λ records keeps. keeps_more (output ∷ []) start c.in-Some-2.paths line.0 line.1 c.in_ok-put.ensures.ok c.in_ok-put.ensures.grown records (keeps_same c.take_numbers.ensures.same c.take_numbers.ensures.grown records (subst (Keeps records) (sym c.self.view_is) keeps)),
    )
