use Rattle.std.proofs.Common.{rules, ◌≡◌, [], ◌∷◌, ◌++◌, refl, sym, ◌∙◌}
use Rattle.std.proofs.lemmas.Bool.{eqb-true}
use Rattle.std.proofs.lemmas.List.{nil_from_length}
use Rattle.seen_log.proofs.LineFirst.{at_some, lines_all, lines_more}
use Rattle.seen_log.proofs.Writing.{HaveLines-push}
use Rattle.seen_log.proofs.log.Log.take_lines.Goals as goal

pub lines-init : goal.lines-init
lines-init c = record {
  utf8 = search rules;
  kept = ([], refl, tt, c.requires);
}

pub lines-preserved : goal.lines-preserved
lines-preserved c =
    let kept = c.lines.invariant.kept in
    let records = kept.0 in
    let taken = at_some _ c.in_ok-after.field-0 c.in-Some.after c.in-Some.is c.in_ok-after.ensures in
    record {
      utf8 = search rules;
      kept = (
        records ++ taken.0 ∷ [],
        lines_more c.args.lines.now c.lines.rest.now c.in-Some.after.now records taken.0 kept.1 taken.1.0,
        HaveLines-push records taken.0 kept.2 taken.1.1,
        taken.2 records kept.3,
      );
    }

pub returns : goal.returns
returns c = λ yes.
    let kept = c.lines.invariant.kept in
    let none : c.lines.rest.now ≡ [] = nil_from_length c.lines.rest.now (eqb-true _ 0 (sym c.is_empty.ensures ∙ c.lines-test.false)) in
    (kept.0, lines_all c.args.lines.now c.lines.rest.now kept.0 kept.1 none, kept.2, kept.3)
