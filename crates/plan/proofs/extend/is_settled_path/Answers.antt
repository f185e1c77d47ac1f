use Rattle.std.proofs.Common.{◌∙◌, sym, arith}
use Rattle.plan.proofs.Grown.{maker_below}
use Rattle.plan.proofs.extend.is_settled_path.Goals as goal

pub bounds-standings-index : goal.bounds-standings-index
bounds-standings-index c =
    let low = maker_below c.args.graph.now c.args.place c.in-Some.maker (sym c.maker_of.ensures ∙ c.in-Some.is) in
    omega (arith, low, c.index.ensures.place, c.requires)
