use Rattle.std.proofs.Common.{refl, length, append_assoc}
use Rattle.status.proofs.Rows.{places_left}
use Rattle.status.proofs.lines.push_in_places.Goals as goal

pub returns : goal.returns
returns c = rw (c.in_ok-extend_from_slice-2.ensures.items, c.in_ok-extend_from_slice.ensures.items, places_left (length c.args.digits.now) c.requires, append_assoc) refl
