use Rattle.std.proofs.Common.{◌≡◌, ◌∙◌, List, ℕ, None, OnOk, ap, sym, subst}
use Rattle.audit.specs.Came.{Came}
use Rattle.audit.specs.Leading.{done, joined, target_at}
use Rattle.audit.proofs.Parts.{passed_on}
use Rattle.audit.proofs.lead.Walk.pass.Goals as goal

pub returns-in-None : goal.returns-in-None
returns-in-None c =
    let links = target_at c.args.links.now.own.now c.args.links.now.old.now c.args.sees in
    let part = c.args.part.now in
    let place = c.in_ok-place.place in
    let at : place ≡ joined (done c.args.self.now.folders) part = c.in_ok-place.ensures ∙ ap (λ (f : List ℕ). joined f part) c.done.ensures in
    let none : links place ≡ None = ap links (sym c.as_str.ensures) ∙ (sym c.in_ok-target.ensures ∙ c.in-None.is) in
    subst (λ (came : Came). OnOk c.enter.result (c.enter.new.self ≡ came))
    (passed_on links c.args.self.now part place (sym c.is_here.ensures ∙ c.if-is_here.false) (sym c.is_up.ensures ∙ c.if-is_up.false) at none) c.enter.ensures
