use Rattle.std.proofs.Common.{◌≡◌, ◌∙◌, ℕ, suc, ap, sym, subst, arith, ◌+◌}
use Rattle.paths.specs.Told.{graph_of}
use Rattle.graph.specs.Occupying.{AreFreeUpTo}
use Rattle.graph.proofs.Beside.{free_none, free_turn, no_response}
use Rattle.graph.proofs.side_files.lowest_occupied.Goals as goal

pub loop-place-init : goal.loop-place-init
loop-place-init c = free_none c.args.start.now (graph_of c.args.manifest.now).edges

pub loop-place-preserved : goal.loop-place-preserved
loop-place-preserved c =
    let start = c.args.start.now in
    let edges = (graph_of c.args.manifest.now).edges in
    let edge = c.edge-edge.result in
    let next : suc edge ≡ c.loop-place.place + 1 = ap suc c.edge-edge.ensures ∙ omega arith in
    subst (AreFreeUpTo start edges) next
    (free_turn start edges edge (subst (AreFreeUpTo start edges) (sym {A = ℕ} c.edge-edge.ensures) c.loop-place.invariant)
    (c.is_occupied.ensures.no c.if-is_occupied.false) (c.is_occupied-in-loop-place.ensures.no c.if-is_occupied-2.false))

pub returns-then-is_occupied : goal.returns-then-is_occupied
returns-then-is_occupied c = record {
  within = omega arith;
  is = c.is_occupied.ensures.yes c.if-is_occupied.true;
  free = subst (AreFreeUpTo c.args.start.now (graph_of c.args.manifest.now).edges) (sym {A = ℕ} c.edge-edge.ensures) c.loop-place.invariant;
  first = λ other. absurd (no_response other);
}

pub returns-then-is_occupied-2 : goal.returns-then-is_occupied-2
returns-then-is_occupied-2 c = record {
  within = omega arith;
  is = c.is_occupied-in-loop-place.ensures.yes c.if-is_occupied-2.true;
  free = subst (AreFreeUpTo c.args.start.now (graph_of c.args.manifest.now).edges) (sym {A = ℕ} c.edge-edge.ensures) c.loop-place.invariant;
  first = λ same. c.is_occupied.ensures.no c.if-is_occupied.false;
}

pub returns : goal.returns
returns c = subst (AreFreeUpTo c.args.start.now (graph_of c.args.manifest.now).edges) (omega arith) c.loop-place.invariant
