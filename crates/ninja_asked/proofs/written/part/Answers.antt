use Rattle.std.proofs.Common.{◌≡◌, ◌<◌, ◌^◌, arith, length}
use Rattle.std.specs.Map.Iter.{deref}
use Rattle.std.specs.Option.{option_map}
use Rattle.theory.proofs.Looks.{looks_then}
use Rattle.ninja_asked.proofs.Parting.{parted_all, parting_none, some_more}
use Rattle.ninja_asked.proofs.written.part.Goals as goal

pub loop-place-init : goal.loop-place-init
loop-place-init g c = parting_none g.S.Texts.tells (g.S.Texts.world c.args.site.now) c.args.notes.now c.args.paths.now c.new-left.result c.new-others.result c.new-left.ensures c.new-others.ensures

pub loop-place-preserved : goal.loop-place-preserved
loop-place-preserved g c =
    let low : c.loop-place.place < 2 ^ 32 = omega (arith, c.loop-place-test.true, c.len-place-end.ensures.small) in
    let old = g.S.Texts.world c.args.site.now in
    let mid = g.S.Texts.world c.loop-place.site in
    let new = g.S.Texts.world c.part_some.new.site in
    record {
      looks = looks_then g.S.Texts.tells old mid new c.loop-place.invariant.looks c.in_ok-part_some.ensures.looks;
      below = λ all keeps.
          some_more g.S.Texts.tells old mid new all c.args.paths.now c.loop-place.place c.loop-place.parted c.loop-place.invariant.looks c.in_ok-part_some.ensures.looks (c.loop-place.invariant.below all keeps) c.part_some.new.parted
          c.len-place-end.ensures.once c.args.notes.now keeps (option_map deref c.path_at.result) (c.path_at.ensures low) c.in_ok-part_some.ensures.parts;
    }

pub returns-in_err-part_some-clause-looks : goal.returns-in_err-part_some-clause-looks
returns-in_err-part_some-clause-looks g c = looks_then g.S.Texts.tells (g.S.Texts.world c.args.site.now) (g.S.Texts.world c.loop-place.site) (g.S.Texts.world c.part_some.new.site) c.loop-place.invariant.looks c.part_some.ensures.looks

pub returns-clause-looks : goal.returns-clause-looks
returns-clause-looks g c = c.loop-place.invariant.looks

pub returns-clause-parted : goal.returns-clause-parted
returns-clause-parted g c = λ all keeps.
    let last : c.loop-place.place ≡ length c.args.paths.now = omega arith in
    parted_all g.S.Texts.tells (g.S.Texts.world c.args.site.now) (g.S.Texts.world c.loop-place.site) all c.args.paths.now c.loop-place.place c.loop-place.parted last (c.loop-place.invariant.below all keeps)
