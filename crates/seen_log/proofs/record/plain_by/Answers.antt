use Rattle.std.proofs.Common.{rules, ◌≡◌, [], sym, ◌∙◌}
use Rattle.std.specs.Str.{IsUtf8}
use Rattle.std.proofs.lemmas.Bool.{eqb-true}
use Rattle.std.proofs.lemmas.List.{nil_from_length}
use Rattle.seen_log.proofs.Plain.{line_of}
use Rattle.seen_log.proofs.record.plain_by.Goals as goal

pub returns : goal.returns
returns c =
    let none : c.in_ok-number.rest.now ≡ [] = nil_from_length c.in_ok-number.rest.now (eqb-true _ 0 (sym c.is_empty.ensures ∙ c.if-not-is_empty.false)) in
    let path : IsUtf8 c.in_ok-path.path.now = search rules in
    line_of c.args.line.now c.in_ok-front.front.now c.in_ok-kind.named.now c.in_ok-path.told.now c.in_ok-stamp.sized.now c.in_ok-size.numbered.now c.in_ok-number.rest.now c.in_ok-path.path.now
    (record { kind = c.in_ok-kind.kind; stamp = c.in_ok-stamp.stamp; size = c.in_ok-size.size; number = c.in_ok-number.number })
    c.in_ok-front.ensures.found c.in_ok-kind.ensures c.in_ok-path.ensures c.in_ok-stamp.ensures.number c.in_ok-size.ensures.number c.in_ok-number.ensures.number none
    path c.in_ok-stamp.ensures.utf8 c.in_ok-size.ensures.utf8 c.in_ok-number.ensures.utf8
    (record { stamp = c.in_ok-stamp.ensures.low; size = c.in_ok-size.ensures.low; number = c.in_ok-number.ensures.low })
