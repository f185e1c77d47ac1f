use Rattle.std.proofs.Common.{◌<◌, ◌^◌, arith}
use Rattle.tools.proofs.Removed.{removes_none, removes_then, some_has}
use Rattle.tools.proofs.cleaning.clean.Goals as goal

pub loop-place-init : goal.loop-place-init
loop-place-init g c = removes_none g.S.Texts.tells c.args.only_count c.args.paths.now (g.S.Texts.world c.args.site.now)

pub returns-in_err-remove_some : goal.returns-in_err-remove_some
returns-in_err-remove_some g c =
    let low : c.loop-place.place < 2 ^ 32 = omega (arith, c.loop-place-test.true, c.len-place-end.ensures.small) in
    removes_then g.S.Texts.tells c.args.only_count c.args.paths.now (g.S.Texts.world c.args.site.now) (g.S.Texts.world c.loop-place.site) (g.S.Texts.world c.remove_some.new.site) c.loop-place.invariant
    (c.remove_some.ensures c.args.paths.now (some_has c.args.paths.now c.loop-place.place c.path_at.result (c.path_at.ensures low)))

pub loop-place-preserved : goal.loop-place-preserved
loop-place-preserved g c =
    let low : c.loop-place.place < 2 ^ 32 = omega (arith, c.loop-place-test.true, c.len-place-end.ensures.small) in
    removes_then g.S.Texts.tells c.args.only_count c.args.paths.now (g.S.Texts.world c.args.site.now) (g.S.Texts.world c.loop-place.site) (g.S.Texts.world c.remove_some.new.site) c.loop-place.invariant
    (c.remove_some.ensures c.args.paths.now (some_has c.args.paths.now c.loop-place.place c.path_at.result (c.path_at.ensures low)))
