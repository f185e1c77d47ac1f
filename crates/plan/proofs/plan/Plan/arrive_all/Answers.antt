use Rattle.std.proofs.Common.{◌≡◌, ◌∙◌, ℕ, true, length, get_or, refl, ap}
use Rattle.std.proofs.Math.ListN.{set}
use Rattle.plan.proofs.Arriving.{come_next, still_more, read_number}
use Rattle.plan.proofs.plan.Plan.arrive_all.Goals as goal

pub loop-path-preserved : goal.loop-path-preserved
loop-path-preserved c =
    let outputs = c.outputs-path-items.result.now in
    let item : c.path-item.result ≡ get_or outputs c.loop-path.path-index 0 = read_number outputs c.loop-path.path-index c.path-item.result c.path-item.result refl c.path-item.is c.loop-path-test.true in (
      still_more c.args.self.now c.loop-path.self c.arrive.new.self c.loop-path.invariant.0 c.arrive.ensures.rest,
      c.arrive.ensures.counted,
      come_next (length c.args.graph.now.manifest.paths) outputs c.loop-path.path-index c.args.self.now.there.items c.loop-path.self.there.items c.arrive.new.self.there.items
          c.loop-path-test.true c.loop-path.invariant.1.known (c.arrive.ensures.there ∙ ap (λ (n : ℕ). set c.loop-path.self.there.items n true) item) c.loop-path.invariant.2,
    )
