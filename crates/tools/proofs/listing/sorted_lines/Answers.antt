use Rattle.std.proofs.Common.{string_bytes}
use Rattle.tools.proofs.Putting.{if_ok_then}
use Rattle.tools.proofs.Sorting.{prints_each}
use Rattle.tools.proofs.listing.sorted_lines.Goals as goal

pub returns : goal.returns
returns c =
    if_ok_then c.unrepeated_lines.result c.unrepeated_lines.ensures
    (λ told is. prints_each c.args.texts.items c.sort.new.self.items c.as_slice.result.now (string_bytes told) c.in_ok-sort.ensures.permutation c.in_ok-sort.ensures.sorted c.as_slice.ensures.value is)
