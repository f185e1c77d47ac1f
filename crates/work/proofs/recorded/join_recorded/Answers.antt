use Rattle.std.proofs.Common.{◌≡◌, ℕ, length, ap, sym, subst, arith}
use Rattle.graph.specs.declared.graph.Graph.{Graph}
use Rattle.graph.specs.Held.{list_at}
use Rattle.work.specs.Recorded.{IsJoined, MayBeJoined, texts_of, IsUnrecorded}
use Rattle.work.proofs.Joining.{joined_none, joined_next, may_be_first, numbered_none, known_more, has_joined}
use Rattle.work.proofs.Numbering.{more_then, only_same}
use Rattle.work.proofs.recorded.join_recorded.Goals as goal

pub loop-place-init : goal.loop-place-init
loop-place-init c =
    let graph = c.args.graph.now in
    let reserved = c.reserve_inputs.new.self in
    let same = c.reserve_inputs.ensures in
    record {
      grown = (only_same graph reserved same).grown;
      numbered = numbered_none reserved (texts_of c.args.records.now) c.counted-numbers.result.known.items c.counted-numbers.ensures;
      joined = λ rs ds known none. joined_none reserved rs ds (subst (λ (g : Graph). IsUnrecorded g) (sym {A = Graph} same) none);
    }

pub join_edge-requires-clause-known : goal.join_edge-requires-clause-known
join_edge-requires-clause-known c =
    let known = c.requires.known in
    (known.0, known.1, known_more c.args.graph.now c.loop-place.graph c.loop-place.invariant.grown known.0 known.1 c.args.records.now known.2)

pub loop-place-preserved : goal.loop-place-preserved
loop-place-preserved c =
    let first = c.args.graph.now in
    let now = c.loop-place.graph in
    let new = c.join_edge.new.graph in
    record {
      grown = more_then first now new c.loop-place.invariant.grown c.join_edge.ensures.grown;
      numbered = c.in_ok-join_edge.ensures.numbered;
      joined = λ rs ds known none.
          let so_far = c.loop-place.invariant.joined rs ds known none in
          joined_next now new rs ds c.loop-place.place so_far c.join_edge.ensures.grown
          (subst (λ (d : ℕ). (e : ℕ) → (e ≡ d → ⊥) → list_at new.recorded e ≡ list_at now.recorded e) c.edge-edge.ensures c.join_edge.ensures.others)
          (subst (λ (d : ℕ). MayBeJoined now rs ds d → IsJoined new rs ds d) c.edge-edge.ensures (c.in_ok-join_edge.ensures.joined rs ds (known_more first now c.loop-place.invariant.grown rs ds c.args.records.now known))
          (may_be_first now rs ds c.loop-place.place so_far));
    }

pub returns : goal.returns
returns c rs ds known none =
    let past = c.loop-place-test.false in
    let all = c.edges-place-end.ensures in
    let same = ap length c.loop-place.invariant.grown.lines in
    let reserved = ap (λ (g : Graph). length g.manifest.lines) c.reserve_inputs.ensures in
    has_joined c.args.graph.now c.loop-place.graph rs ds c.args.records.now c.loop-place.place (omega (arith, past, all, same, reserved)) c.loop-place.invariant.grown known (c.loop-place.invariant.joined rs ds known none)
