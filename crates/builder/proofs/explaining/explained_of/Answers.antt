use Rattle.std.proofs.Common.{◌<◌, ℕ, List, All, length, sym, subst}
use Rattle.builder.proofs.explaining.explained_of.Goals as goal

pub first_unloaded-requires : goal.first_unloaded-requires
first_unloaded-requires c = subst (λ (l : List ℕ). All (λ e. e < length c.args.graph.now.manifest.lines) l) (sym {A = List ℕ} c.as_slice-order.ensures.value) c.requires.order
