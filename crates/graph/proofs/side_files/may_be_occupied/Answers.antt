use Rattle.std.proofs.Common.{◌≡◌, ◌∙◌, ℕ, suc, ap, sym, subst, arith, ◌+◌}
use Rattle.paths.specs.Told.{graph_of}
use Rattle.graph.specs.Namings.{IsFreePath}
use Rattle.graph.specs.Occupying.{AreFreeUpTo}
use Rattle.graph.proofs.Beside.{free_none, free_turn}
use Rattle.graph.proofs.side_files.may_be_occupied.Goals as goal

pub loop-place-init : goal.loop-place-init
loop-place-init c = free_none c.args.start.now (graph_of c.args.manifest.now).edges

pub loop-place-preserved : goal.loop-place-preserved
loop-place-preserved c =
    let manifest = c.args.manifest.now in
    let start = c.args.start.now in
    let edges = (graph_of manifest).edges in
    let edge = c.edge-edge.result in
    let next : suc edge ≡ c.loop-place.place + 1 = ap suc c.edge-edge.ensures ∙ omega arith in
    subst (AreFreeUpTo start edges) next
    (free_turn start edges edge (subst (AreFreeUpTo start edges) (sym {A = ℕ} c.edge-edge.ensures) c.loop-place.invariant)
    (subst (IsFreePath start manifest) c.file_at.ensures (c.may_be.ensures c.if-may_be.false) (suc edge))
    (subst (IsFreePath start manifest) c.file_at-in-loop-place.ensures (c.may_be-in-loop-place.ensures c.if-may_be-2.false) (suc edge)))

pub returns : goal.returns
returns c = λ no. subst (AreFreeUpTo c.args.start.now (graph_of c.args.manifest.now).edges) (omega arith) c.loop-place.invariant
