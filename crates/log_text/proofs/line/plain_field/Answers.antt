use Rattle.std.proofs.Common.{◌++◌, List, ℕ, sym, ap, ◌∙◌, subst}
use Rattle.log_text.specs.Line.{field_and_tab, IsPlain}
use Rattle.log_text.proofs.Notes.{field_in_front}
use Rattle.log_text.proofs.OneOutputLines.{behind_lacks}
use Rattle.log_text.proofs.line.plain_field.Goals as goal

pub returns-in-Ok-clause-found : goal.returns-in-Ok-clause-found
returns-in-Ok-clause-found c =
    let field = c.in_ok-field.field.now in
    let after = c.in_ok-field.after.now in
    c.in_ok-field.ensures.found ∙ (field_in_front field after c.in_ok-field.ensures.plain ∙ ap (λ (t : List ℕ). field_and_tab t ++ after) (sym c.in-Ok.ensures.cases.0))

pub returns-in-Ok-clause-plain : goal.returns-in-Ok-clause-plain
returns-in-Ok-clause-plain c = subst IsPlain (sym c.in-Ok.ensures.cases.0) c.in_ok-field.ensures.plain

pub returns-in-Ok-clause-line_feed : goal.returns-in-Ok-clause-line_feed
returns-in-Ok-clause-line_feed c = behind_lacks c.args.bytes.now c.in_ok-field.field.now c.in_ok-field.after.now c.requires c.in_ok-field.ensures.found
