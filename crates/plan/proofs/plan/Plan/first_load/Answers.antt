use Rattle.std.proofs.Common.{◌≡◌, ◌∙◌, ℕ, List, Bool, take, get_or, refl, sym, ap, subst}
use Rattle.plan.specs.Flags.{has}
use Rattle.plan.specs.Loads.{NoneIsThere, IsFirstThere}
use Rattle.plan.proofs.Arriving.{read_number}
use Rattle.plan.proofs.Due.{first_there}
use Rattle.plan.proofs.plan.Plan.first_load.Goals as goal

pub returns-then-is_there : goal.returns-then-is_there
returns-then-is_there c =
    let there = c.args.self.now.there.items in
    let files = c.deref-file-items.result.now in
    let is : c.file-item.result ≡ get_or files c.loop-file.file-index 0 = read_number files c.loop-file.file-index c.file-item.result c.file-item.result refl c.file-item.is c.loop-file-test.true in
    subst (λ (l : List ℕ). IsFirstThere there l c.file-item.result) c.deref-file-items.ensures.value
    (first_there there files c.loop-file.file-index c.file-item.result c.loop-file-test.true is
    (subst (λ (l : List ℕ). NoneIsThere there (take c.loop-file.file-index l)) (sym c.deref-file-items.ensures.value) c.loop-file.invariant)
    (ap (λ (l : List Bool). has l c.file-item.result) (sym c.deref.ensures.value) ∙ (sym c.is_there.ensures ∙ c.if-is_there.true)))
