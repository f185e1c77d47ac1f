use Rattle.std.proofs.Common.{◌<◌, ℕ, length, sym, subst}
use Rattle.judge.proofs.Reasons.{at_has}
use Rattle.judge.proofs.lasting.reads_made.Goals as goal

pub regular_inputs-requires : goal.regular_inputs-requires
regular_inputs-requires c =
    subst (λ (e : ℕ). e < length c.args.graph.now.manifest.lines) (sym {A = ℕ} c.edge-item.is)
    (c.requires.within _ (at_has c.args.edges.now c.loop-edge.edge-index c.edge-item.result c.loop-edge-test.true))
