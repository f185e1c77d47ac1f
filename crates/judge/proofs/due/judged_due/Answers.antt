use Rattle.std.proofs.Common.{◌≡◌, Bool, true, false, None, if◌then◌else◌, sym, ◌∙◌, ap, rules}
use Rattle.graph.specs.Links.{links_of}
use Rattle.plan.specs.Standing.{standing_at}
use Rattle.judge.specs.UnderWay.{was_due}
use Rattle.judge.proofs.due.judged_due.Goals as goal

pub returns-then-is_phony : goal.returns-then-is_phony
returns-then-is_phony c =
    let linked : (links_of c.args.graph.now).phony c.args.edge ≡ true = search rules in
    sym (ap (λ (phony : Bool). if phony then None else was_due (standing_at c.args.plan.now.standings.items c.args.edge)) linked)

pub returns : goal.returns
returns c =
    let linked : (links_of c.args.graph.now).phony c.args.edge ≡ false = search rules in
    c.was_due.ensures ∙ (ap was_due c.standing.ensures ∙ sym (ap (λ (phony : Bool). if phony then None else was_due (standing_at c.args.plan.now.standings.items c.args.edge)) linked))
