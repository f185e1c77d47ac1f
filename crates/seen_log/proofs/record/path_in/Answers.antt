use Rattle.std.proofs.Common.{◌++◌, List, ℕ, sym, ap, ◌∙◌}
use Rattle.log_text.specs.Line.{field_and_tab}
use Rattle.seen_log.proofs.InFront.{field_in_front}
use Rattle.seen_log.proofs.record.path_in.Goals as goal

pub returns-in-Ok : goal.returns-in-Ok
returns-in-Ok c =
    let field = c.in_ok-field.field.now in
    let after = c.in_ok-field.after.now in
    c.in_ok-field.ensures.found ∙ (field_in_front field after c.in_ok-field.ensures.plain ∙ ap (λ (t : List ℕ). field_and_tab t ++ after) (sym c.in-Ok.ensures.cases.0))
