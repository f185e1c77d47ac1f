use Rattle.std.proofs.Common.{sym, subst, ap, length, ◌∙◌}
use Rattle.std.proofs.lemmas.Bool.{eqb-false}
use Rattle.text.specs.Marks.{Lacks}
use Rattle.log_text.proofs.Bytes.{Lacks-front, Lacks-back}
use Rattle.log_text.proofs.Lines.{starts, one_more, stops_at_field, stops_at_end}
use Rattle.log_text.proofs.line.take_fields.Goals as goal

pub parts-init : goal.parts-init
parts-init c = record {
  parted = rw c.clear.ensures.items (starts c.in-Some.front.now);
  line_feed = Lacks-front 10 c.in-Some.front.now _ (subst (Lacks 10) c.in-Some.ensures.found c.requires);
  plain = λ yes. Lacks-front 92 c.in-Some.front.now _ (subst (Lacks 92) c.in-Some.ensures.found (c.is_plain-plain.ensures yes));
}

pub field_of-requires-clause-line_feed : goal.field_of-requires-clause-line_feed
field_of-requires-clause-line_feed c = Lacks-front 10 c.in-Some-cut.field.now _ (subst (Lacks 10) c.in-Some-cut.ensures.found c.parts.invariant.line_feed)

pub field_of-requires-clause-plain : goal.field_of-requires-clause-plain
field_of-requires-clause-plain c = λ yes. Lacks-front 92 c.in-Some-cut.field.now _ (subst (Lacks 92) c.in-Some-cut.ensures.found (c.parts.invariant.plain yes))

pub returns-in_default-2-clause-none : goal.returns-in_default-2-clause-none
returns-in_default-2-clause-none c =
    let none = rw c.in_default-2.is at c.in_ok-text.ensures.none in
    λ no. stops_at_field c.args.line.now c.in-Some.front.now c.parts.fields.items c.parts.rest.now c.in-Some-cut.field.now c.in-Some-cut.after.now c.in-Some.ensures.found c.parts.invariant.parted c.in-Some-cut.ensures.found c.in-Some-cut.ensures.first none

pub parts-preserved : goal.parts-preserved
parts-preserved c =
    let spelled = rw c.in-Some-2.is at c.in_ok-text.ensures.found in
    let utf8 = rw c.in-Some-2.is at c.in_ok-text.ensures.utf8 in
    record {
      parted = rw c.in_ok-push.ensures.items (one_more c.in-Some.front.now c.parts.fields.items c.parts.rest.now c.in-Some-cut.field.now c.in-Some-cut.after.now c.in-Some-2.text c.parts.invariant.parted c.in-Some-cut.ensures.found c.in-Some-cut.ensures.first spelled utf8);
      line_feed = (Lacks-back 10 c.in-Some-cut.field.now _ (subst (Lacks 10) c.in-Some-cut.ensures.found c.parts.invariant.line_feed)).1;
      plain = λ yes. (Lacks-back 92 c.in-Some-cut.field.now _ (subst (Lacks 92) c.in-Some-cut.ensures.found (c.parts.invariant.plain yes))).1;
    }

pub returns-clause-none : goal.returns-clause-none
returns-clause-none c =
    λ no. stops_at_end c.args.line.now c.in-Some.front.now c.parts.fields.items c.parts.rest.now c.in-Some.ensures.found c.parts.invariant.parted c.in_default-cut.ensures.none (λ e. eqb-false _ 0 (sym c.is_empty.ensures ∙ no) (ap length e))
