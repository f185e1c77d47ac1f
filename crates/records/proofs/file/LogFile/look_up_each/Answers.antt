use Rattle.std.proofs.Common.{length}
use Rattle.records.proofs.Places.{longer, longer_push, placed}
use Rattle.records.proofs.file.LogFile.look_up_each.Goals as goal

pub loop-place-preserved : goal.loop-place-preserved
loop-place-preserved g c = record {
  fits = longer c.loop-place.places.items c.push.new.self.items c.loop-place.place c.place_at.result c.loop-place.invariant.fits c.in_ok-push.ensures.items;
  longer = longer_push c.args.places.now.items c.loop-place.places.items c.push.new.self.items c.place_at.result c.in_ok-push.ensures.items c.loop-place.invariant.longer;
  made = λ rs keeps. placed g.L.Records.told g.L.Records.in_force rs c.args.graph.now.manifest.paths c.loop-place.places.items c.push.new.self.items (length c.args.places.now.items) c.loop-place.place c.place_at.result c.loop-place.invariant.fits c.in_ok-push.ensures.items
      (c.place_at.ensures rs keeps) (c.loop-place.invariant.made rs keeps);
}
