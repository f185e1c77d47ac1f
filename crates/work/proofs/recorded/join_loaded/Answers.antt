use Rattle.std.proofs.Common.{◌≡◌, ◌<◌, ◌++◌, ℕ, true, List, [], ◌∷◌, take, length, refl, sym, ◌∙◌, ap, subst, arith}
use Rattle.std.proofs.lemmas.Bool.{false≢true}
use Rattle.model.specs.Graph.{has_number}
use Rattle.graph.specs.LoadedEdges.{numbers_in}
use Rattle.graph.specs.declared.back.LoadedEdge.{LoadedEdge}
use Rattle.work.specs.Recorded.{HasJoinedOf, texts_of}
use Rattle.work.proofs.Joining.{known_more, numbers_next, numbers_at, numbers_whole, may_be_now, joined_push, numbered_none}
use Rattle.work.proofs.Numbering.{more_none, more_then}
use Rattle.work.proofs.recorded.join_loaded.Goals as goal

pub loop-loaded-init : goal.loop-loaded-init
loop-loaded-init c = record {
  grown = more_none c.args.graph.now;
  numbered = numbered_none c.args.graph.now (texts_of c.args.records.now) c.new-numbers.result.known.items c.new-numbers.ensures;
  others = λ e other. refl;
  joined = λ rs ds known all. record { grown = more_none c.args.graph.now; joined = λ e there. absurd (false≢true there); others = λ e other. refl };
}

pub join_edge-requires-clause-edge : goal.join_edge-requires-clause-edge
join_edge-requires-clause-edge c =
    let edges = c.args.edges.now in
    let there = subst (λ (l : LoadedEdge). has_number (numbers_in edges) l.edge ≡ true) (sym {A = LoadedEdge} c.loaded-item.is) (numbers_at edges c.loop-loaded.loaded-index c.loaded-item.result c.loop-loaded-test.true) in
    subst (λ (n : ℕ). c.loaded-item.result.edge < n) (sym {A = ℕ} (ap length c.loop-loaded.invariant.grown.lines)) (c.requires.edges c.loaded-item.result.edge there)

pub loop-loaded-preserved : goal.loop-loaded-preserved
loop-loaded-preserved c = record {
  grown = more_then c.args.graph.now c.loop-loaded.graph c.join_edge.new.graph c.loop-loaded.invariant.grown c.join_edge.ensures.grown;
  others = λ e other.
      let edges = c.args.edges.now in
      let there = subst (λ (l : LoadedEdge). has_number (numbers_in edges) l.edge ≡ true) (sym {A = LoadedEdge} c.loaded-item.is) (numbers_at edges c.loop-loaded.loaded-index c.loaded-item.result c.loop-loaded-test.true) in
      c.join_edge.ensures.others e (λ is. false≢true (sym other ∙ (ap (has_number (numbers_in edges)) is ∙ there))) ∙ c.loop-loaded.invariant.others e other;
  numbered = c.in_ok-join_edge.ensures.numbered;
  joined = λ rs ds known all.
      let edges = c.args.edges.now in
      let first = c.args.graph.now in
      let now = c.loop-loaded.graph in
      let n = c.loaded-item.result.edge in
      let xs = numbers_in (take c.loop-loaded.loaded-index edges) in
      let so_far = c.loop-loaded.invariant.joined rs ds known all in
      let may = all n (subst (λ (l : LoadedEdge). has_number (numbers_in edges) l.edge ≡ true) (sym {A = LoadedEdge} c.loaded-item.is) (numbers_at edges c.loop-loaded.loaded-index c.loaded-item.result c.loop-loaded-test.true)) in
      subst (λ (l : List ℕ). HasJoinedOf l first c.join_edge.new.graph rs ds)
      (sym (numbers_next edges c.loop-loaded.loaded-index c.loaded-item.result c.loop-loaded-test.true ∙ ap (λ (l : LoadedEdge). xs ++ l.edge ∷ []) (sym {A = LoadedEdge} c.loaded-item.is)))
      (joined_push xs n first now c.join_edge.new.graph rs ds so_far may c.join_edge.ensures.grown c.join_edge.ensures.others
      (c.in_ok-join_edge.ensures.joined rs ds (known_more first now c.loop-loaded.invariant.grown rs ds c.args.records.now known) (may_be_now xs n first now c.join_edge.new.graph rs ds so_far may)));
}

pub returns-in_err-join_edge-clause-grown : goal.returns-in_err-join_edge-clause-grown
returns-in_err-join_edge-clause-grown c = record {
  grown = more_then c.args.graph.now c.loop-loaded.graph c.join_edge.new.graph c.loop-loaded.invariant.grown c.join_edge.ensures.grown;
  others = λ e other.
      let edges = c.args.edges.now in
      let there = subst (λ (l : LoadedEdge). has_number (numbers_in edges) l.edge ≡ true) (sym {A = LoadedEdge} c.loaded-item.is) (numbers_at edges c.loop-loaded.loaded-index c.loaded-item.result c.loop-loaded-test.true) in
      c.join_edge.ensures.others e (λ is. false≢true (sym other ∙ (ap (has_number (numbers_in edges)) is ∙ there))) ∙ c.loop-loaded.invariant.others e other;
}

pub returns-clause-grown : goal.returns-clause-grown
returns-clause-grown c = record { grown = c.loop-loaded.invariant.grown; others = c.loop-loaded.invariant.others }

pub returns-clause-joined : goal.returns-clause-joined
returns-clause-joined c rs ds known all =
    subst (λ (l : List ℕ). HasJoinedOf l c.args.graph.now c.loop-loaded.graph rs ds) (numbers_whole c.args.edges.now c.loop-loaded.loaded-index (let past = c.loop-loaded-test.false in omega (arith, past)))
    (c.loop-loaded.invariant.joined rs ds known all)
