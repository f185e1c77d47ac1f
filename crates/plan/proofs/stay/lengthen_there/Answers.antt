use Rattle.std.proofs.Common.{length, refl, arith}
use Rattle.graph.specs.Links.{links_of}
use Rattle.plan.proofs.Staying.{longer_first, longer_next, longer_all}
use Rattle.plan.proofs.stay.lengthen_there.Goals as goal

pub loop-place-init : goal.loop-place-init
loop-place-init c =
    let there = c.args.there.now in
    record { longer = longer_first (links_of c.args.graph.now) there.items there.items c.len-known.result refl (omega (arith, c.len-known.ensures, there.ok.0)); room = c.requires.room }

pub push_reserved-requires : goal.push_reserved-requires
push_reserved-requires c =
    let fits = c.loop-place.invariant.longer.fits in
    let room = c.loop-place.invariant.room in
    omega (arith, fits, room, c.loop-place-test.true, c.paths-count.ensures)

pub loop-place-preserved : goal.loop-place-preserved
loop-place-preserved c =
    let room = c.loop-place.invariant.room in
    record {
      longer = longer_next (links_of c.args.graph.now) c.args.there.now.items c.loop-place.there.items c.push_reserved.new.flags.items c.loop-place.place c.is_source.result c.push_reserved.ensures.items c.is_source.ensures c.loop-place.invariant.longer;
      room = omega (arith, room, c.push_reserved.ensures.grows);
    }

pub returns : goal.returns
returns c =
    let long = c.requires.longer in
    let there = c.args.there.now in
    longer_all (links_of c.args.graph.now) there.items c.loop-place.there.items c.loop-place.place (length c.args.graph.now.manifest.paths)
    (omega (arith, c.loop-place-test.false, c.loop-place.auto.place-end (omega (arith, long, c.paths-count.ensures, c.len-known.ensures, there.ok.0)), c.paths-count.ensures)) c.loop-place.invariant.longer
