use Rattle.std.proofs.Common.{◌≡◌, ◌∙◌, ℕ, arith}
use Rattle.graph.proofs.Undoing.{item_at, forgotten_none, forgotten_next, forgotten_all}
use Rattle.graph.proofs.recorded.Recorded.forget.Goals as goal

pub forget_one-requires : goal.forget_one-requires
forget_one-requires c =
    let l = c.loaded-item.result in
    let at = item_at c.args.edges.now c.loop-loaded.loaded-index l c.loop-loaded-test.true c.loaded-item.is in
    let low = c.requires c.loop-loaded.loaded-index l at in
    omega (arith, low, c.loop-loaded.invariant.fits)

pub loop-loaded-init : goal.loop-loaded-init
loop-loaded-init c = forgotten_none c.args.edges.now c.args.self.now

pub loop-loaded-preserved : goal.loop-loaded-preserved
loop-loaded-preserved c =
    let l = c.loaded-item.result in
    let k = c.loop-loaded.loaded-index in
    let at = item_at c.args.edges.now k l c.loop-loaded-test.true c.loaded-item.is in
    forgotten_next c.args.edges.now c.args.self.now c.loop-loaded.self c.forget_one.new.self k l at (c.requires k l at) c.forget_one.ensures c.loop-loaded.invariant

pub returns-clause-gone : goal.returns-clause-gone
returns-clause-gone c = forgotten_all c.args.edges.now c.args.self.now c.loop-loaded.self c.loop-loaded.loaded-index c.loop-loaded-test.false c.loop-loaded.invariant
