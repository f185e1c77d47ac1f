use Rattle.std.proofs.Common.{ap, false}
use Rattle.host.specs.World.{world_of, world_with}
use Rattle.host.specs.Told.{Told}
use Rattle.host.proofs.Refused.{refused, on_err, looks_from}
use Rattle.host.proofs.host.HostSite.wait_any.Goals as goal

pub returns-clause-err : goal.returns-clause-err
returns-clause-err g c =
    refused _ c.noted_wait.result c.wait_any-finished.result c.noted_wait.ensures.err
    (on_err c.wait_any-finished.result (λ same. looks_from false (world_of c.args.self.now) _ (world_of c.noted_wait.new.self) (ap (λ (told : Told). world_with told c.args.self.now.ticked c.args.self.now.failures c.args.self.now.failures_at_start c.args.self.now.wait_refused) same) c.noted_wait.ensures.looks) c.wait_any-finished.ensures.err)
