use Rattle.std.proofs.Common.{get_or, take}
use Rattle.log_text.proofs.Bytes.{take_more}
use Rattle.log_text.proofs.Filling.{filled_more, filled_past}
use Rattle.log_text.proofs.kept.fill.Goals.{then-slot-slots, else-slot-slots}
use Rattle.log_text.proofs.kept.fill.Goals as goal

pub loop-place-preserved : goal.loop-place-preserved
loop-place-preserved c =
    let old = c.args.slots.now in
    let done = take c.loop-place.place-index c.args.places.now in
    let p = get_or c.args.places.now c.loop-place.place-index 0 in
    let more = take_more c.args.places.now c.loop-place.place-index 0 c.loop-place-test.true in
    elim c.if-slot-slots.branch [
      | then-slot-slots w ↦ rw (w.slots-is, more) (filled_more old done c.args.value c.loop-place.slots p c.loop-place.invariant w.if-slot-slots.true)
      | else-slot-slots w ↦ rw (w.slots-is, more) (filled_past old done c.args.value c.loop-place.slots p c.loop-place.invariant w.if-slot-slots.false)
    ]
