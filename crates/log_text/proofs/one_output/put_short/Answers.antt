use Rattle.std.proofs.Common.{◌∷◌, [], ◌++◌, List, ℕ, sym, subst, map}
use Rattle.text.specs.Marks.{Lacks}
use Rattle.log_text.specs.Kept.{IsTableOf}
use Rattle.log_text.specs.Line.{field_and_tab}
use Rattle.log_text.specs.BuildLog.{saying}
use Rattle.log_text.specs.OneOutput.{IsSaidBehind}
use Rattle.log_text.proofs.Bytes.{Lacks-back}
use Rattle.log_text.proofs.InForce.{keeps_more}
use Rattle.log_text.proofs.Notes.{at_some}
use Rattle.log_text.proofs.OneOutputLines.{record_of, says, plain_line}
use Rattle.log_text.proofs.one_output.put_short.Goals as goal

pub returns-in_default-2-clause-none : goal.returns-in_default-2-clause-none
returns-in_default-2-clause-none c = λ no records keeps. c.take_behind.ensures.same (map saying records) keeps

pub said_behind-requires : goal.said_behind-requires
said_behind-requires c =
    let taken = at_some _ c.in_ok-number.field-0 (c.in-Some-2.number, c.in-Some-2.told) c.in-Some-2.is c.in_ok-number.ensures.number in
    Lacks-back 10 (field_and_tab taken.0) c.in-Some-2.told.now (subst (Lacks 10) taken.3 c.in-Some.ensures.line_feed)

pub returns-in_default-3-clause-none : goal.returns-in_default-3-clause-none
returns-in_default-3-clause-none c = λ no records keeps. c.take_behind.ensures.same (map saying records) keeps

pub returns-clause-put : goal.returns-clause-put
returns-clause-put c = λ yes.
    let head = c.in-Some.ensures in
    let kind = c.in-Some.kind in
    let named = c.in-Some.named.now in
    let told = c.in-Some-2.told.now in
    let said = c.in-Some-3.said in
    let taken = at_some _ c.in_ok-number.field-0 (c.in-Some-2.number, c.in-Some-2.told) c.in-Some-2.is c.in_ok-number.ensures.number in
    let is = at_some (IsSaidBehind kind told) c.in_ok-said.field-0 said c.in-Some-3.is c.in_ok-said.ensures in
    let line = plain_line c.args.version c.args.line.now named told taken.0 kind said head.version head.head taken.3 taken.2 is in (
      record_of taken.0 said,
      line.spelled,
      line.has,
      λ records keeps. keeps_more records (record_of taken.0 said) (taken.0 ∷ [], said) c.put_one.new.self (says taken.0 said) (c.in_ok-put_one.ensures.ok taken.0 taken.1 (map saying records) (c.take_behind.ensures.same (map saying records) keeps)),
    )

pub returns-in_default-clause-table : goal.returns-in_default-clause-table
returns-in_default-clause-table c = λ all is. (all, is)

pub returns-in_err-number-clause-table : goal.returns-in_err-number-clause-table
returns-in_err-number-clause-table c = λ all is. (all, c.take_behind.ensures.same all is)

pub returns-in_default-2-clause-table : goal.returns-in_default-2-clause-table
returns-in_default-2-clause-table c = λ all is. (all, c.take_behind.ensures.same all is)

pub returns-in_err-said-clause-table : goal.returns-in_err-said-clause-table
returns-in_err-said-clause-table c = λ all is. (all, c.take_behind.ensures.same all is)

pub returns-in_default-3-clause-table : goal.returns-in_default-3-clause-table
returns-in_default-3-clause-table c = λ all is. (all, c.take_behind.ensures.same all is)

pub returns-in_err-put_one-clause-table : goal.returns-in_err-put_one-clause-table
returns-in_err-put_one-clause-table c = λ all is. (all, c.in_err-put_one.ensures.err all (c.take_behind.ensures.same all is))

pub returns-clause-table : goal.returns-clause-table
returns-clause-table c = λ all is.
    let taken = at_some _ c.in_ok-number.field-0 (c.in-Some-2.number, c.in-Some-2.told) c.in-Some-2.is c.in_ok-number.ensures.number in
    (all ++ (taken.0 ∷ [], c.in-Some-3.said) ∷ [], c.in_ok-put_one.ensures.ok taken.0 taken.1 all (c.take_behind.ensures.same all is))
