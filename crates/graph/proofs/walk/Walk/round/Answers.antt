use Rattle.std.proofs.Common.{◌≡◌, ◌++◌, List, ℕ, length, take, drop, ◌∙◌, ap, subst, arith, nat_lt}
use Rattle.std.specs.List.{IsFirstBest}
use Rattle.graph.specs.Links.{links_of}
use Rattle.graph.proofs.Rounds.{rest_of, round_edge, round_paths}
use Rattle.graph.proofs.walk.Walk.round.Goals as goal

pub paths_round-requires-clause-within : goal.paths_round-requires-clause-within
paths_round-requires-clause-within c i lt =
    let walk = c.args.self.now in
    let start = c.place_of.result in
    let low = c.place_of_lowest-lowest.result in
    let edges_is : c.in_ok-edges.edges.items ≡ drop start walk.stack.items = c.in_ok-edges.ensures.items_if_clones_equal (λ x y h. h) ∙ rest_of c.deref.result.now walk.stack.items start c.deref.ensures.value in
    let best : IsFirstBest nat_lt (drop start walk.stack.items) (length (drop start walk.stack.items)) low = subst (λ (l : List ℕ). IsFirstBest nat_lt l (length l) low) (c.deref-2.ensures.value ∙ edges_is) c.place_of_lowest-lowest.ensures in
    let turned : c.deref-3.result.now ≡ drop low (drop start walk.stack.items) ++ take low (drop start walk.stack.items) =
    c.deref-3.ensures.value ∙ (c.rotate_left.ensures.items ∙ ap (λ (l : List ℕ). drop low l ++ take low l) edges_is) in
    let found = round_edge (links_of walk.graph.now) walk.requested.now walk.order.items walk.marks.items walk.left.items walk.stack.items c.requires.at.at c.args.last c.args.edge start c.requires.last c.requires.awaits c.place_of.ensures.within c.place_of.ensures.is low best c.deref-3.result.now turned i lt in
    omega (arith, found.inside)

pub paths_round-requires-clause-left : goal.paths_round-requires-clause-left
paths_round-requires-clause-left c i lt =
    let walk = c.args.self.now in
    let start = c.place_of.result in
    let low = c.place_of_lowest-lowest.result in
    let edges_is : c.in_ok-edges.edges.items ≡ drop start walk.stack.items = c.in_ok-edges.ensures.items_if_clones_equal (λ x y h. h) ∙ rest_of c.deref.result.now walk.stack.items start c.deref.ensures.value in
    let best : IsFirstBest nat_lt (drop start walk.stack.items) (length (drop start walk.stack.items)) low = subst (λ (l : List ℕ). IsFirstBest nat_lt l (length l) low) (c.deref-2.ensures.value ∙ edges_is) c.place_of_lowest-lowest.ensures in
    let turned : c.deref-3.result.now ≡ drop low (drop start walk.stack.items) ++ take low (drop start walk.stack.items) =
    c.deref-3.ensures.value ∙ (c.rotate_left.ensures.items ∙ ap (λ (l : List ℕ). drop low l ++ take low l) edges_is) in
    (round_edge (links_of walk.graph.now) walk.requested.now walk.order.items walk.marks.items walk.left.items walk.stack.items c.requires.at.at c.args.last c.args.edge start c.requires.last c.requires.awaits c.place_of.ensures.within c.place_of.ensures.is low best c.deref-3.result.now turned i lt).left_some

pub returns : goal.returns
returns c =
    let walk = c.args.self.now in
    let start = c.place_of.result in
    let low = c.place_of_lowest-lowest.result in
    let edges_is : c.in_ok-edges.edges.items ≡ drop start walk.stack.items = c.in_ok-edges.ensures.items_if_clones_equal (λ x y h. h) ∙ rest_of c.deref.result.now walk.stack.items start c.deref.ensures.value in
    let best : IsFirstBest nat_lt (drop start walk.stack.items) (length (drop start walk.stack.items)) low = subst (λ (l : List ℕ). IsFirstBest nat_lt l (length l) low) (c.deref-2.ensures.value ∙ edges_is) c.place_of_lowest-lowest.ensures in
    let turned : c.deref-3.result.now ≡ drop low (drop start walk.stack.items) ++ take low (drop start walk.stack.items) =
    c.deref-3.ensures.value ∙ (c.rotate_left.ensures.items ∙ ap (λ (l : List ℕ). drop low l ++ take low l) edges_is) in
    round_paths (links_of walk.graph.now) walk.requested.now walk.order.items walk.marks.items walk.left.items walk.stack.items c.requires.at.at c.args.last c.args.edge start c.requires.last c.requires.awaits c.place_of.ensures.within c.place_of.ensures.is low best c.deref-3.result.now turned c.paths_round.result c.paths_round.ensures
