use Rattle.std.proofs.Common.{◌∙◌}
use Rattle.log_text.proofs.Escapes.{write_more, write_last}
use Rattle.log_text.proofs.field.push_field.Goals as goal

pub escapes-preserved : goal.escapes-preserved
escapes-preserved c =
    rw (c.in_ok-push_escape.ensures, c.in_ok-extend_from_slice.ensures.items)
    (write_more c.escapes.line.items c.escapes.rest.now c.in-Some.front.now c.in-Some.byte c.in-Some.after.now c.in-Some.ensures.found c.in-Some.ensures.plain ∙ c.escapes.invariant)

pub returns : goal.returns
returns c = rw c.in_ok-extend_from_slice-2.ensures.items (write_last c.escapes.line.items c.escapes.rest.now c.in_default.ensures.none ∙ c.escapes.invariant)
