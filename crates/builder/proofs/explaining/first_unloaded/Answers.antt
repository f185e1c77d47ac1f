use Rattle.std.proofs.Common.{◌<◌, ℕ, length, sym, subst}
use Rattle.builder.proofs.explaining.first_unloaded.Goals as goal

pub dyndep-requires : goal.dyndep-requires
dyndep-requires c =
    subst (λ (e : ℕ). e < length c.args.graph.now.manifest.lines) (sym {A = ℕ} c.edge-item.is) (c.requires c.loop-edge.edge-index c.edge-item.result c.loop-edge-test.true)
