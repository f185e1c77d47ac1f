use Rattle.std.proofs.Common.{◌≡◌, ◌∙◌, ◌<◌, ◌+◌, ℕ, List, None, get_or, length, subst, sym, take, arith}
use Rattle.std.proofs.Math.ListN.{set}
use Rattle.std.proofs.lemmas.List.{get_or_default, take_all}
use Rattle.graph.specs.Gains.{AreFreed}
use Rattle.graph.proofs.Losing.{freed_none, freed_next}
use Rattle.graph.proofs.makers.free.Goals as goal

pub loop-path-init : goal.loop-path-init
loop-path-init c = freed_none c.args.makers.now

pub loop-path-preserved : goal.loop-path-preserved
loop-path-preserved c =
    let paths = c.args.paths.now in
    let k = c.loop-path.path-index in
    let makers = c.loop-path.makers in
    let path = c.path-item.result in
    let low : get_or paths k 0 < length c.args.makers.now = c.requires k 0 c.loop-path-test.true in
    let at : path ≡ get_or paths k 0 = c.path-item.is ∙ get_or_default paths k path 0 c.loop-path-test.true in
    let within : path < length makers = omega (arith, low, at, c.loop-path.invariant.fits) in
    subst (λ (n : ℕ). AreFreed (take (k + 1) paths) c.args.makers.now (set makers n None)) (sym {A = ℕ} c.index.ensures.place)
    (freed_next c.args.makers.now makers paths k path c.loop-path-test.true c.path-item.is within c.loop-path.invariant)

pub returns : goal.returns
returns c = subst (λ (l : List ℕ). AreFreed l c.args.makers.now c.loop-path.makers) (take_all c.loop-path.path-index c.args.paths.now c.loop-path-test.false) c.loop-path.invariant
