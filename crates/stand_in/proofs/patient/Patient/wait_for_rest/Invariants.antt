use Rattle.std.proofs.Common.{◌≡◌}
use Rattle.host.specs.World.{world_of}
use Rattle.stand_in.proofs.patient.Patient.wait_for_rest.Given as goal

abbrev pub invariant-loop : goal.invariant-loop
invariant-loop g l = world_of l.self.site ≡ world_of l.fn.self.site
