use Rattle.std.proofs.Common.{◌≡◌, ℕ, List, true, ap, arith, sym, subst, ◌∙◌, slice_index}
use Rattle.std.proofs.lemmas.List.{get_or_default}
use Rattle.model.specs.Graph.{has_number}
use Rattle.graph.specs.Cone.{maker_seen}
use Rattle.graph.specs.Links.{Links, links_of}
use Rattle.graph.specs.declared.graph.Graph.{Graph}
use Rattle.tools.specs.Rising.{IsRise}
use Rattle.tools.proofs.Rises.{has_at, asked_next, asked_all, rise_end}
use Rattle.tools.proofs.above.Walk.list_all.Goals as goal

pub list_maker-requires-clause-asked : goal.list_maker-requires-clause-asked
list_maker-requires-clause-asked c =
    let paths = c.args.self.now.paths.now in
    let item : c.path-item.result ≡ slice_index paths c.loop-path.path-index = c.path-item.is ∙ get_or_default paths c.loop-path.path-index c.path-item.result 0 (omega arith) in
    subst (λ (n : ℕ). has_number c.loop-path.self.paths.now n ≡ true) (sym {A = ℕ} item)
    (subst (λ (l : List ℕ). has_number l (slice_index paths c.loop-path.path-index) ≡ true) (sym {A = List ℕ} c.loop-path.invariant.walk.asked) (has_at paths c.loop-path.path-index (omega arith)))

pub loop-path-preserved : goal.loop-path-preserved
loop-path-preserved c =
    let old = c.loop-path.self in
    let new = c.list_maker.new.self in
    let graph = c.args.self.now.graph.now in
    let paths = c.args.self.now.paths.now in
    let same = c.loop-path.invariant.walk.same in
    let asked = c.loop-path.invariant.walk.asked in
    let item : c.path-item.result ≡ slice_index paths c.loop-path.path-index = c.path-item.is ∙ get_or_default paths c.loop-path.path-index c.path-item.result 0 (omega arith) in
    record {
      walk = subst (λ (g : Graph). IsRise g paths new) same (subst (λ (l : List ℕ). IsRise old.graph.now l new) asked c.in_ok-list_maker.ensures.walk);
      empty = c.in_ok-list_maker.ensures.stack;
      seen = asked_next (links_of graph) paths old.marks.items new.marks.items c.loop-path.path-index c.loop-path.invariant.seen c.in_ok-list_maker.ensures.keeps
          (subst (λ (n : ℕ). maker_seen new.marks.items ((links_of graph).maker n)) item (subst (λ (k : Links). maker_seen new.marks.items (k.maker c.path-item.result)) (ap links_of same) c.in_ok-list_maker.ensures.seen));
    }

pub returns : goal.returns
returns c =
    let walk = c.loop-path.self in
    let graph = c.args.self.now.graph.now in
    let paths = c.args.self.now.paths.now in
    let ended = rise_end (links_of graph) paths walk.order.items walk.marks.items walk.left.items walk.stack.items c.loop-path.invariant.walk.at c.loop-path.invariant.empty
    (asked_all (links_of graph) paths walk.marks.items c.loop-path.path-index c.loop-path.invariant.seen (omega arith)) in
    record { just = ended.0; once = ended.1; order = ended.2 }
