use Rattle.std.proofs.Common.{◌≡◌, ℕ, ◌-◌, List, [], ◌∷◌, ◌++◌, length, take, arith, sym, ◌∙◌, ap, subst}
use Rattle.std.proofs.Math.ListN.{set}
use Rattle.graph.specs.Links.{links_of}
use Rattle.graph.specs.declared.cone.Mark.TheVariants.{Listed}
use Rattle.tools.specs.Rising.{IsRiseAt}
use Rattle.tools.proofs.Rises.{rise_list}
use Rattle.tools.proofs.above.Walk.list.Goals as goal

pub returns-clause-walk : goal.returns-clause-walk
returns-clause-walk c =
    let walk = c.args.self.now in
    let short : walk.stack.len ≡ length walk.stack.items = omega (arith, walk.stack.ok.0) in
    let popped : c.pop.new.self.items ≡ take (length walk.stack.items - 1) walk.stack.items = c.pop.ensures.rest ∙ ap (λ (n : ℕ). take (n - 1) walk.stack.items) short in
    let marks = set walk.marks.items c.index.result Listed in
    record {
      same = c.requires.at.same;
      asked = c.requires.at.asked;
      at = subst (λ (l : List ℕ). IsRiseAt (links_of walk.graph.now) walk.paths.now l marks walk.left.items c.pop.new.self.items) (sym {A = List ℕ} c.in_ok-push.ensures.items)
          (subst (λ (l : List ℕ). IsRiseAt (links_of walk.graph.now) walk.paths.now (walk.order.items ++ c.args.edge ∷ []) marks walk.left.items l) (sym {A = List ℕ} popped)
          (subst (λ (n : ℕ). IsRiseAt (links_of walk.graph.now) walk.paths.now (walk.order.items ++ c.args.edge ∷ []) (set walk.marks.items n Listed) walk.left.items (take (length walk.stack.items - 1) walk.stack.items)) (sym {A = ℕ} c.index.ensures.place)
          (rise_list (links_of walk.graph.now) walk.paths.now walk.order.items walk.marks.items walk.left.items walk.stack.items c.requires.at.at c.args.edge c.requires.last c.requires.all)));
    }
