use Rattle.std.proofs.Common.{sym, ◌∙◌}
use Rattle.std.proofs.lemmas.Bool.{eqb-true}
use Rattle.dyndep.proofs.Parts.{one_text, nothing_left}
use Rattle.dyndep.proofs.values.only_text.Goals as goal

pub returns : goal.returns
returns c =
    let first = c.in_ok-first.first.now in
    let rest = c.in_ok-first.rest.now in
    one_text c.characters_of.result c.args.value.now.pieces first rest (sym c.as_slice.ensures ∙ c.in_ok-first.ensures.cases.0) (nothing_left rest (eqb-true _ 0 (sym c.is_empty.ensures ∙ c.if-not-is_empty.false))) c.characters_of.ensures
