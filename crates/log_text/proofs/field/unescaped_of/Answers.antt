use Rattle.std.proofs.Common.{◌≡◌, sym, ap, subst, string_bytes}
use Rattle.std.specs.Str.{IsUtf8}
use Rattle.std.proofs.lemmas.Str.{IsUtf8-string_bytes}
use Rattle.log_text.proofs.Escapes.{escape_more, Lacks-after, stops, last, spelled, not_utf8}
use Rattle.log_text.proofs.field.unescaped_of.Goals as goal

pub returns-in_default-escape_of-clause-none : goal.returns-in_default-escape_of-clause-none
returns-in_default-escape_of-clause-none c =
    stops c.args.field.now c.escapes.text.items c.escapes.rest.now c.in-Some.front.now c.in-Some.escape.now c.escapes.invariant.read c.escapes.invariant.tab c.escapes.invariant.line_feed c.in-Some.ensures.found c.in-Some.ensures.first
    c.in_default-escape_of.ensures.none

pub escapes-preserved : goal.escapes-preserved
escapes-preserved c =
    let after = c.in-Some-escape_of.after.now in
    record {
      read = rw (c.in_ok-push.ensures.items, c.in_ok-extend_from_slice.ensures.items) (escape_more c.args.field.now c.escapes.text.items c.escapes.rest.now c.in-Some.front.now c.in-Some.escape.now c.in-Some-escape_of.byte after c.escapes.invariant.read c.escapes.invariant.tab c.escapes.invariant.line_feed c.in-Some.ensures.found c.in-Some.ensures.first c.in-Some-escape_of.ensures.found);
      tab = Lacks-after 9 c.escapes.rest.now c.in-Some.front.now c.in-Some.escape.now c.in-Some-escape_of.byte after c.escapes.invariant.tab c.in-Some.ensures.found c.in-Some-escape_of.ensures.found;
      line_feed = Lacks-after 10 c.escapes.rest.now c.in-Some.front.now c.in-Some.escape.now c.in-Some-escape_of.byte after c.escapes.invariant.line_feed c.in-Some.ensures.found c.in-Some-escape_of.ensures.found;
    }

pub returns-in-Ok-clause-found : goal.returns-in-Ok-clause-found
returns-in-Ok-clause-found c =
    let read = last c.args.field.now c.escapes.text.items c.escapes.rest.now c.escapes.invariant.read c.in_default.ensures.none c.escapes.invariant.tab c.escapes.invariant.line_feed in
    let same : string_bytes c.in-Ok.string ≡ c.extend_from_slice-2.new.self.items = ap (λ v. v.items) c.in-Ok.ensures.ok in
    rw (c.unescaped.ensures, same, c.in_ok-extend_from_slice-2.ensures.items) (spelled c.args.field.now _ read)

pub returns-in-Ok-clause-utf8 : goal.returns-in-Ok-clause-utf8
returns-in-Ok-clause-utf8 c = subst IsUtf8 (sym c.unescaped.ensures) (IsUtf8-string_bytes c.in-Ok.string)

pub returns-clause-none : goal.returns-clause-none
returns-clause-none c =
    let read = last c.args.field.now c.escapes.text.items c.escapes.rest.now c.escapes.invariant.read c.in_default.ensures.none c.escapes.invariant.tab c.escapes.invariant.line_feed in
    not_utf8 c.args.field.now _ (spelled c.args.field.now _ read) (λ utf8. let good = c.in-Err.ensures.succeeds (subst IsUtf8 (sym c.in_ok-extend_from_slice-2.ensures.items) utf8) in cc)
