use Rattle.std.proofs.Common.{◌∷◌, [], ◌++◌, List, ℕ, slice_get, ap, ◌∙◌, subst, map}
use Rattle.text.specs.Marks.{Lacks}
use Rattle.log_text.specs.Line.{field_and_tab}
use Rattle.log_text.specs.BuildLog.{saying}
use Rattle.log_text.specs.OneOutput.{IsSaidBehind}
use Rattle.log_text.proofs.Bytes.{Lacks-back}
use Rattle.log_text.proofs.InForce.{keeps_more}
use Rattle.log_text.proofs.KeptRecords.{get_grown}
use Rattle.log_text.proofs.Notes.{at_some}
use Rattle.log_text.proofs.TwoOutputLines.{record_of, says, pair_line}
use Rattle.log_text.proofs.two_outputs.put_pair.Goals as goal

pub returns-in_default-2-clause-none : goal.returns-in_default-2-clause-none
returns-in_default-2-clause-none c = λ no records keeps. c.take_behind.ensures.same (map saying records) keeps

pub take_behind-requires-2 : goal.take_behind-requires-2
take_behind-requires-2 c =
    let one = at_some _ c.in_ok-first.field-0 (c.in-Some-2.first, c.in-Some-2.rest) c.in-Some-2.is c.in_ok-first.ensures.number in
    Lacks-back 10 (field_and_tab one.0) c.in-Some-2.rest.now (subst (Lacks 10) one.3 c.in-Some.ensures.line_feed)

pub returns-in_default-3-clause-none : goal.returns-in_default-3-clause-none
returns-in_default-3-clause-none c = λ no records keeps. c.take_behind-2.ensures.same (map saying records) (c.take_behind.ensures.same (map saying records) keeps)

pub said_behind-requires : goal.said_behind-requires
said_behind-requires c =
    let one = at_some _ c.in_ok-first.field-0 (c.in-Some-2.first, c.in-Some-2.rest) c.in-Some-2.is c.in_ok-first.ensures.number in
    let two = at_some _ c.in_ok-second.field-0 (c.in-Some-3.second, c.in-Some-3.told) c.in-Some-3.is c.in_ok-second.ensures.number in
    Lacks-back 10 (field_and_tab two.0) c.in-Some-3.told.now (subst (Lacks 10) two.3 (Lacks-back 10 (field_and_tab one.0) c.in-Some-2.rest.now (subst (Lacks 10) one.3 c.in-Some.ensures.line_feed)))

pub returns-in_default-4-clause-none : goal.returns-in_default-4-clause-none
returns-in_default-4-clause-none c = λ no records keeps. c.take_behind-2.ensures.same (map saying records) (c.take_behind.ensures.same (map saying records) keeps)

pub returns-then-not-differ-clause-none : goal.returns-then-not-differ-clause-none
returns-then-not-differ-clause-none c = λ no records keeps. c.take_behind-2.ensures.same (map saying records) (c.take_behind.ensures.same (map saying records) keeps)

pub returns-clause-put : goal.returns-clause-put
returns-clause-put c = λ yes.
    let head = c.in-Some.ensures in
    let said = c.in-Some-4.said in
    let told = c.in-Some-3.told.now in
    let one = at_some _ c.in_ok-first.field-0 (c.in-Some-2.first, c.in-Some-2.rest) c.in-Some-2.is c.in_ok-first.ensures.number in
    let two = at_some _ c.in_ok-second.field-0 (c.in-Some-3.second, c.in-Some-3.told) c.in-Some-3.is c.in_ok-second.ensures.number in
    let grown = c.take_behind-2.ensures.grown in
    let still = ap (λ (l : List (List ℕ)). slice_get l c.in-Some-2.first) grown.outputs ∙ get_grown c.take_behind.new.self.outputs grown.more c.in-Some-2.first one.0 one.1 in
    let other = c.differ.ensures c.if-not-differ.false one.0 two.0 still two.1 in
    let is = at_some (IsSaidBehind c.in-Some.kind told) c.in_ok-said.field-0 said c.in-Some-4.is c.in_ok-said.ensures in
    let line = pair_line c.args.version c.args.line.now c.in-Some.named.now c.in-Some-2.rest.now told one.0 two.0 c.in-Some.kind said head.version head.head one.3 two.3 one.2 two.2 other is in (
      record_of one.0 two.0 said,
      line.spelled,
      line.has,
      λ records keeps. keeps_more records (record_of one.0 two.0 said) (one.0 ∷ two.0 ∷ [], said) c.put_two.new.self (says one.0 two.0 said)
          (c.in_ok-put_two.ensures.ok one.0 two.0 still two.1 other (map saying records) (c.take_behind-2.ensures.same (map saying records) (c.take_behind.ensures.same (map saying records) keeps))),
    )

pub returns-in_default-clause-table : goal.returns-in_default-clause-table
returns-in_default-clause-table c = λ all is. (all, is)

pub returns-in_err-first-clause-table : goal.returns-in_err-first-clause-table
returns-in_err-first-clause-table c = λ all is. (all, c.take_behind.ensures.same all is)

pub returns-in_default-2-clause-table : goal.returns-in_default-2-clause-table
returns-in_default-2-clause-table c = λ all is. (all, c.take_behind.ensures.same all is)

pub returns-in_err-second-clause-table : goal.returns-in_err-second-clause-table
returns-in_err-second-clause-table c = λ all is. (all, c.take_behind-2.ensures.same all (c.take_behind.ensures.same all is))

pub returns-in_default-3-clause-table : goal.returns-in_default-3-clause-table
returns-in_default-3-clause-table c = λ all is. (all, c.take_behind-2.ensures.same all (c.take_behind.ensures.same all is))

pub returns-in_err-said-clause-table : goal.returns-in_err-said-clause-table
returns-in_err-said-clause-table c = λ all is. (all, c.take_behind-2.ensures.same all (c.take_behind.ensures.same all is))

pub returns-in_default-4-clause-table : goal.returns-in_default-4-clause-table
returns-in_default-4-clause-table c = λ all is. (all, c.take_behind-2.ensures.same all (c.take_behind.ensures.same all is))

pub returns-then-not-differ-clause-table : goal.returns-then-not-differ-clause-table
returns-then-not-differ-clause-table c = λ all is. (all, c.take_behind-2.ensures.same all (c.take_behind.ensures.same all is))

pub returns-in_err-put_two-clause-table : goal.returns-in_err-put_two-clause-table
returns-in_err-put_two-clause-table c = λ all is. (all, c.in_err-put_two.ensures.err all (c.take_behind-2.ensures.same all (c.take_behind.ensures.same all is)))

pub returns-clause-table : goal.returns-clause-table
returns-clause-table c = λ all is.
    let one = at_some _ c.in_ok-first.field-0 (c.in-Some-2.first, c.in-Some-2.rest) c.in-Some-2.is c.in_ok-first.ensures.number in
    let two = at_some _ c.in_ok-second.field-0 (c.in-Some-3.second, c.in-Some-3.told) c.in-Some-3.is c.in_ok-second.ensures.number in
    let grown = c.take_behind-2.ensures.grown in
    let still = ap (λ (l : List (List ℕ)). slice_get l c.in-Some-2.first) grown.outputs ∙ get_grown c.take_behind.new.self.outputs grown.more c.in-Some-2.first one.0 one.1 in
    let other = c.differ.ensures c.if-not-differ.false one.0 two.0 still two.1 in (
      all ++ (one.0 ∷ two.0 ∷ [], c.in-Some-4.said) ∷ [],
      c.in_ok-put_two.ensures.ok one.0 two.0 still two.1 other all (c.take_behind-2.ensures.same all (c.take_behind.ensures.same all is)),
    )
