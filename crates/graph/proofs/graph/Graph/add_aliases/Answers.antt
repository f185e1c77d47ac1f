use Rattle.std.proofs.Common.{◌≡◌, ◌∙◌, ◌<◌, ℕ, List, ap, sym, subst, length, get_or}
use Rattle.graph.specs.Links.{links_of}
use Rattle.graph.proofs.Turns.{alias_push, alias_skip}
use Rattle.graph.proofs.graph.Graph.add_aliases.Goals as goal
use Rattle.graph.proofs.graph.Graph.add_aliases.Goals.{in-Some+in_ok-insert, in_default}

pub loop-path-preserved : goal.loop-path-preserved
loop-path-preserved c =
    let links = links_of c.args.self.now in
    let ps = links.regular c.args.edge in
    let place = c.loop-path.path-index in
    let low : place < length ps = subst (λ (l : List ℕ). place < length l) c.regular_inputs-path-items.ensures c.loop-path-test.true in
    let at : c.path-item.result ≡ get_or ps place c.path-item.result = c.path-item.is ∙ ap (λ (l : List ℕ). get_or l place c.path-item.result) c.regular_inputs-path-items.ensures in
    elim c.match-alias.branch [
      | in-Some+in_ok-insert w ↦
          alias_push links c.args.edges.now.keys c.loop-path.edges.keys c.match-alias.edges.keys ps place c.path-item.result w.in-Some.alias low at (sym w.in-Some.ensures.value) c.loop-path.invariant
          (ap (λ s. s.keys) w.edges-is ∙ w.in_ok-insert.ensures.keys)
      | in_default w ↦
          ap (λ s. s.keys) w.edges-is ∙ alias_skip links c.args.edges.now.keys c.loop-path.edges.keys ps place c.path-item.result low at (sym c.alias.ensures.value ∙ w.in_default.is) c.loop-path.invariant
    ]
