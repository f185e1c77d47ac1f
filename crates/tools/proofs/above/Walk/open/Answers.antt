use Rattle.std.proofs.Common.{ℕ, ◌++◌, ◌∷◌, [], List, arith, sym, subst}
use Rattle.std.proofs.Math.ListN.{set}
use Rattle.graph.specs.Links.{links_of}
use Rattle.graph.specs.declared.cone.Mark.TheVariants.{Open}
use Rattle.tools.specs.Rising.{IsRiseAt}
use Rattle.tools.proofs.Rises.{rise_open}
use Rattle.tools.proofs.above.Walk.open.Goals as goal

pub returns-clause-walk : goal.returns-clause-walk
returns-clause-walk c =
    let walk = c.args.self.now in
    record {
      same = c.requires.at.same;
      asked = c.requires.at.asked;
      at = subst (λ (l : List ℕ). IsRiseAt (links_of walk.graph.now) walk.paths.now walk.order.items (set walk.marks.items c.index.result Open) walk.left.items l) (sym {A = List ℕ} c.in_ok-push.ensures.items)
          (subst (λ (n : ℕ). IsRiseAt (links_of walk.graph.now) walk.paths.now walk.order.items (set walk.marks.items n Open) walk.left.items (walk.stack.items ++ c.args.edge ∷ [])) (sym {A = ℕ} c.index.ensures.place)
          (rise_open (links_of walk.graph.now) walk.paths.now walk.order.items walk.marks.items walk.left.items walk.stack.items c.requires.at.at c.args.edge (omega arith) c.requires.unseen c.requires.needed c.requires.awaited));
    }
