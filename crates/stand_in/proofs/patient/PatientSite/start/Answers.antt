use Rattle.std.proofs.Common.{◌≡◌, false, OnErr, OnOk, subst, sym}
use Rattle.model.specs.Calls.{HasCause, KeepsWait, Starts, StartsOrNot}
use Rattle.model.specs.World.{World, runs}
use Rattle.host.specs.World.{world_of}
use Rattle.stand_in.proofs.patient.PatientSite.start.Goals as goal

pub start-requires : goal.start-requires
start-requires g c = subst (λ (w : World). runs c.args.job w.events ≡ false) (sym c.wait_for_rest.ensures) c.requires

pub returns-clause-cause : goal.returns-clause-cause
returns-clause-cause g c = subst (λ (w : World). HasCause w (world_of c.start.new.self) c.start.result) c.wait_for_rest.ensures c.start.ensures.cause

pub returns-clause-waits : goal.returns-clause-waits
returns-clause-waits g c = subst (λ (w : World). KeepsWait w (world_of c.start.new.self)) c.wait_for_rest.ensures c.start.ensures.waits

pub returns-clause-starts : goal.returns-clause-starts
returns-clause-starts g c = subst (λ (w : World). OnOk c.start.result (Starts false c.args.job c.args.act.now w (world_of c.start.new.self))) c.wait_for_rest.ensures c.start.ensures.starts

pub returns-clause-err : goal.returns-clause-err
returns-clause-err g c = subst (λ (w : World). OnErr c.start.result (StartsOrNot false c.args.job c.args.act.now w (world_of c.start.new.self))) c.wait_for_rest.ensures c.start.ensures.err
