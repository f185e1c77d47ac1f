use Rattle.std.proofs.Common.{◌≡◌, ◌∷◌, ◌++◌, [], List, ℕ, refl, sym, ◌∙◌, subst, append_assoc}
use Rattle.log_text.specs.Line.{AreTexts}
use Rattle.seen_log.specs.Record.{fields_of, noting}
use Rattle.seen_log.proofs.LineFirst.{at_some, cut_line_is}
use Rattle.seen_log.proofs.log.Log.take_escaped.Goals as goal

pub returns : goal.returns
returns c =
    let text = c.args.text.now in
    let line = c.in-Some.line.now in
    let left = c.in-Some.left.now in
    let r = noting c.in-Some-said_by.path.now c.in-Some-said_by.noted in
    let begins : text ≡ line ++ 10 ∷ left = sym c.as_bytes.ensures.value ∙ c.in-Some.ensures.found in
    let said = c.in-Some-said_by.ensures.found in
    let told : c.in-Some-2.fields.items ≡ fields_of r = sym c.as_slice.ensures.value ∙ said.0 in
    let spelled = at_some _ c.in_ok-fields.field-0 c.in-Some-2.fields c.in-Some-2.is c.in_ok-fields.ensures.found in
    let texts = at_some _ c.in_ok-fields.field-0 c.in-Some-2.fields c.in-Some-2.is c.in_ok-fields.ensures.texts in
    let same : c.in-Some-last_of.after.now ≡ left = c.in-Some-last_of.ensures (line ++ 10 ∷ []) left (begins ∙ sym (append_assoc line (10 ∷ []) left)) refl in (
      r,
      (
        cut_line_is text line left c.in-Some-last_of.after.now c.in-Some-2.fields.items r begins spelled told same,
        record { fits = said.1; texts = subst AreTexts told texts },
      ),
      c.in_ok-note.ensures.ok,
    )
