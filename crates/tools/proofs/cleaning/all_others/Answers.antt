use Rattle.std.proofs.Common.{◌≡◌, [], length, arith}
use Rattle.tools.specs.Clean.{IsOtherAt}
use Rattle.tools.proofs.Adding.{adds_counted}
use Rattle.tools.proofs.Cleans.{lacks_all, others_none}
use Rattle.tools.proofs.cleaning.all_others.Goals as goal

pub loop-place-init : goal.loop-place-init
loop-place-init c = others_none c.args.paths.now c.new-others.result c.args.file.now c.new-others.ensures

pub loop-place-preserved : goal.loop-place-preserved
loop-place-preserved c = adds_counted (IsOtherAt c.args.paths.now c.args.file.now) c.loop-place.place [] c.loop-place.others c.add_other.new.others c.loop-place.invariant c.in_ok-add_other.ensures

pub returns : goal.returns
returns c =
    let last : c.loop-place.place ≡ length c.args.paths.now = omega arith in
    lacks_all c.args.paths.now c.loop-place.others c.args.file.now c.loop-place.place last c.loop-place.invariant
