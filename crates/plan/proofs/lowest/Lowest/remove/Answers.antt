use Rattle.std.proofs.Common.{◌≡◌, ◌∙◌, ◌+◌, List, Bool, false, length, drop, ap, arith}
use Rattle.std.proofs.Math.ListN.{set}
use Rattle.std.proofs.lemmas.List.{drop-set-add, length-set, with_items_is}
use Rattle.std.specs.Vec.{with_item}
use Rattle.plan.proofs.lowest.Lowest.remove.Goals as goal

pub returns : goal.returns
returns c =
    let size : length c.join_above.new.tree ≡ c.self.inside.tree.len = omega (arith, c.join_above.auto.tree, ap (λ (l : List Bool). length l) c.deref_mut.ensures.value, length-set c.self.inside.tree.items (c.self.inside.leaves + c.args.number) false, c.self.inside.tree.ok.0) in
    ap (λ (l : List Bool). drop c.self.inside.leaves l) (with_items_is (with_item c.self.inside.tree (c.self.inside.leaves + c.args.number) false) c.join_above.new.tree size)
    ∙ (c.join_above.ensures.leaves c.self.inside.leaves (omega (arith, ap (λ (l : List Bool). length l) c.deref_mut.ensures.value, length-set c.self.inside.tree.items (c.self.inside.leaves + c.args.number) false, c.self.invariant.size))
    ∙ (ap (λ (l : List Bool). drop c.self.inside.leaves l) c.deref_mut.ensures.value
    ∙ (drop-set-add c.self.inside.leaves c.self.inside.tree.items c.args.number false ∙ ap (λ (l : List Bool). set l c.args.number false) c.self.view_is)))
