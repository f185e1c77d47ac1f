use Rattle.std.proofs.Common.{rules, ◌≡◌, ◌∷◌, ◌++◌, [], List, ℕ, refl, sym, ap, ◌∙◌}
use Rattle.std.specs.Str.{IsUtf8}
use Rattle.log_text.specs.declared.form.Version.TheVariants.{Two}
use Rattle.log_text.specs.Form.{record_line}
use Rattle.seen_log.specs.declared.note.Noted.{Noted}
use Rattle.seen_log.specs.Record.{forms, noting}
use Rattle.seen_log.proofs.LineFirst.{first_line_is, part_is}
use Rattle.seen_log.proofs.Plain.{letter_utf8}
use Rattle.seen_log.proofs.record.line_in.Goals as goal

pub returns : goal.returns
returns c =
    let text = c.args.text.now in
    let numbers = c.in_ok-numbers.numbers in
    let noted : Noted = record { kind = c.in_ok-kind.kind; stamp = numbers.stamp; size = numbers.size; number = numbers.number } in
    let field = c.in_ok-field.field.now in
    let named = c.in_ok-kind.named.now in
    let told = c.in_ok-field.told.now in
    let left = c.in_ok-left.left.now in
    let path = c.in_ok-path.path.now in
    let begins = sym c.as_bytes.ensures.value ∙ c.in_ok-kind.ensures in
    let same : path ≡ field = part_is text named field told path _ 9 _ c.in_ok-path.ensures refl begins c.in_ok-field.ensures.found in
    let spelled = first_line_is text named field told c.in_ok-numbers.ended.now left path noted begins c.in_ok-field.ensures.found c.in_ok-field.ensures.plain c.in_ok-numbers.ensures.found c.in_ok-left.ensures same in
    let rest : c.in_ok-rest.rest.now ≡ left = c.in_ok-rest.ensures (record_line (forms Two) (noting path noted)) left spelled refl in
    let utf8 : IsUtf8 path = search rules in (
      spelled ∙ ap (λ (l : List ℕ). record_line (forms Two) (noting path noted) ++ l) (sym rest),
      record {
        fits = record { stamp = c.in_ok-numbers.ensures.low.stamp; size = c.in_ok-numbers.ensures.low.size; number = c.in_ok-numbers.ensures.low.number };
        texts = (letter_utf8 c.in_ok-kind.kind, (utf8, c.in_ok-numbers.ensures.utf8));
      },
    )
