use Rattle.work.proofs.Asking.{order_within, same_edges}
use Rattle.work.proofs.laws.orders_stand.Goals as goal

pub returns : goal.returns
returns c tells course edges phases state now stands =
    order_within c.args.graph.now c.lists_stand.ensures.fits state.cone edges _ _ (same_edges tells course edges phases c.args.graph.now state now stands) stands.on.cone.listed
