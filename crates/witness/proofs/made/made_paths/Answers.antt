use Rattle.std.proofs.Common.{◌+◌, ◌∙◌, ◌++◌, drop, map, filter, is_some, List, ◌∷◌, ℕ, ap, sym, arith}
use Rattle.model.specs.declared.graph.Edge.{Edge}
use Rattle.std.proofs.lemmas.List.{drop_more}
use Rattle.witness.specs.Made.{command_of}
use Rattle.witness.proofs.Rounds.{push_edge}
use Rattle.witness.proofs.made.made_paths.Goals as goal

pub loop-edge-preserved : goal.loop-edge-preserved
loop-edge-preserved c =
    let f = λ (path : List ℕ). is_some (command_of c.args.edges.now path) in
    let old = map (λ path. path.now) c.loop-edge.made.items in
    let mid = map (λ path. path.now) c.push_made.new.made.items in
    push_edge f old mid
    (map (λ path. path.now) c.push_made-in-loop-edge.new.made.items) c.edge-item.result (drop (c.loop-edge.edge-index + 1) c.args.edges.now) (drop c.loop-edge.edge-index c.args.edges.now) _
    (c.in_ok-push_made.ensures ∙ ap (λ (l : List (List ℕ)). old ++ filter f l) c.as_slice.ensures)
    (c.in_ok-push_made-2.ensures ∙ ap (λ (l : List (List ℕ)). mid ++ filter f l) c.as_slice-in-loop-edge.ensures)
    (drop_more c.args.edges.now c.loop-edge.edge-index c.edge-item.result (omega arith) ∙ ap (λ (e : Edge). e ∷ drop (c.loop-edge.edge-index + 1) c.args.edges.now) (sym c.edge-item.is)) c.loop-edge.invariant
