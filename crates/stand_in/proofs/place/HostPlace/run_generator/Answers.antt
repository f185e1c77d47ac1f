use Rattle.std.proofs.Common.{false, subst}
use Rattle.model.specs.Calls.{HasCause, KeepsWait, OnlyLooks}
use Rattle.model.specs.World.{World}
use Rattle.host.specs.World.{world_of}
use Rattle.stand_in.proofs.place.HostPlace.run_generator.Goals as goal

-- taking rows away changes nothing in the world

pub returns-clause-looks : goal.returns-clause-looks
returns-clause-looks g c = subst (λ (w : World). OnlyLooks false w (world_of c.run_for_user.new.self)) c.finish_screen.ensures c.run_for_user.ensures.looks

pub returns-clause-cause : goal.returns-clause-cause
returns-clause-cause g c = subst (λ (w : World). HasCause w (world_of c.run_for_user.new.self) c.run_for_user.result) c.finish_screen.ensures c.run_for_user.ensures.cause

pub returns-clause-waits : goal.returns-clause-waits
returns-clause-waits g c = subst (λ (w : World). KeepsWait w (world_of c.run_for_user.new.self)) c.finish_screen.ensures c.run_for_user.ensures.waits
