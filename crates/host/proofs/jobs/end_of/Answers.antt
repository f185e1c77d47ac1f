use Rattle.std.proofs.Common.{arith, subst, sym}
use Rattle.host.specs.Process.{HasEnded}
use Rattle.host.proofs.jobs.end_of.Goals as goal

pub swap_remove-requires : goal.swap_remove-requires
swap_remove-requires g c = omega (arith, c.in_ok-place.ensures.ended.0, c.wait_first.new.commands.ok.0)

pub end-requires : goal.end-requires
end-requires g c = subst HasEnded (sym c.swap_remove.ensures.value) (c.in_ok-place.ensures.ended.1 c.swap_remove.result)

pub returns : goal.returns
returns g c = record {
  command = c.swap_remove.result;
  ended = subst HasEnded (sym c.swap_remove.ensures.value) (c.in_ok-place.ensures.ended.1 c.swap_remove.result);
  well = c.end.ensures.well;
}
