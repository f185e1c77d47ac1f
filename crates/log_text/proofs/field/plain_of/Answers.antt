use Rattle.std.proofs.Common.{◌≡◌, sym, ◌∙◌}
use Rattle.log_text.proofs.Escapes.{field_text-plain, not_utf8}
use Rattle.log_text.proofs.field.plain_of.Goals as goal

pub returns-in-Ok-clause-found : goal.returns-in-Ok-clause-found
returns-in-Ok-clause-found c =
    let same : c.plain.result ≡ c.args.field.now = c.plain.ensures ∙ c.in-Ok.ensures.cases.0 in
    rw same (sym (field_text-plain c.args.field.now c.requires.plain.0 c.requires.plain.1 c.requires.plain.2))

pub returns-in-Err-clause-none : goal.returns-in-Err-clause-none
returns-in-Err-clause-none c =
    not_utf8 c.args.field.now c.args.field.now (sym (field_text-plain c.args.field.now c.requires.plain.0 c.requires.plain.1 c.requires.plain.2)) c.in-Err.ensures.cases.0
