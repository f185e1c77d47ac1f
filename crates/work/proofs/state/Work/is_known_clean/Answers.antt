use Rattle.std.proofs.Common.{◌≡◌, List, Bool, false, get_or, sym, ◌∙◌, subst}
use Rattle.std.proofs.lemmas.Bool.{eqb-true}
use Rattle.judge.specs.Dues.{due_at}
use Rattle.work.proofs.state.Work.is_known_clean.Goals as goal

pub returns : goal.returns
returns c none =
    let fresh : get_or c.deref.result.now c.args.edge false ≡ false = sym c.was_due.ensures ∙ c.if-was_due.false in
    record {
      flag = subst (λ (flags : List Bool). due_at flags c.args.edge ≡ false) c.deref.ensures.value fresh;
      calm = λ task graph steps planned taken. sym (eqb-true c.well.result 0 none) ∙ c.well.ensures.steps task graph steps planned taken;
    }
