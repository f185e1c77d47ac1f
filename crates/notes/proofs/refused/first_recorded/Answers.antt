use Rattle.std.proofs.Common.{◌-◌, ◌∙◌, ℕ, List, ap, arith, rules}
use Rattle.notes.specs.declared.note.Note.TheVariants.{Recorded}
use Rattle.notes.proofs.Finding.{joined}
use Rattle.notes.proofs.refused.first_recorded.Goals as goal

pub returns-then-is_recorded : goal.returns-then-is_recorded
returns-then-is_recorded c =
    let place = c.loop-place.place in
    let output = c.in_ok-from_str.field-0 in
    let input = c.in_ok-from_str-2.field-0 in
    let two = joined c.args.round.now (place - 1) place output input c.index-round-place.result c.index-round-place-in-loop-place.result (omega (arith, c.loop-place.auto.place)) (search rules)
    c.index-round-place.is c.index-round-place-in-loop-place.is (c.in_ok-from_str.ensures ∙ c.as_str-output.ensures) (c.in_ok-from_str-2.ensures ∙ c.as_str-input.ensures) in
    (output, input, two.0, two.1, two.2, ap (λ (f : List ℕ). Recorded (record { output = output; input = input; folder = f })) c.in_ok-from_str-3.ensures)
