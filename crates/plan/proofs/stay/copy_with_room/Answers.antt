use Rattle.std.proofs.Common.{◌∙◌, ◌++◌, List, Bool, ap, arith}
use Rattle.plan.proofs.stay.copy_with_room.Goals as goal

pub returns : goal.returns
returns c = λ few. record {
  items = c.in_ok-extend_from_slice.ensures.items ∙ ap (λ (l : List Bool). l ++ c.args.flags.now) c.in_ok-copy.ensures.items;
  room = omega (arith, c.half_more.ensures, c.in_ok-copy.ensures.capacity, c.in_ok-extend_from_slice.ensures.capacity);
}
