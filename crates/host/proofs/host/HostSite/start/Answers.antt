use Rattle.std.proofs.Common.{◌∙◌, ap, inl, false}
use Rattle.host.specs.World.{world_of, world_with}
use Rattle.host.specs.Told.{Told}
use Rattle.host.proofs.Refused.{looks_at_refusal, on_err, at_err}
use Rattle.host.proofs.host.HostSite.start.Goals as goal

-- a command that was not started is told of by nobody
pub returns-in_err-noted-clause-err : goal.returns-in_err-noted-clause-err
returns-in_err-noted-clause-err g c =
    let opened = c.open_printed.new.self in
    at_err c.from_residual-in_err-noted.result (inl (looks_at_refusal false (world_of c.args.self.now) _ (world_of c.noted.new.self) c.noted.result c.start-started.result c.in_err-noted.field-0.0 c.in_err-noted.was c.noted.ensures.err
    (on_err c.start-started.result (λ same. ap (λ (told : Told). world_with told opened.ticked opened.failures opened.failures_at_start opened.wait_refused) same ∙ c.in_ok-opened.ensures.ok) c.start-started.ensures.err)
    c.noted.ensures.looks))

pub returns-in_err-noted-clause-unstarted : goal.returns-in_err-noted-clause-unstarted
returns-in_err-noted-clause-unstarted g c =
    let opened = c.open_printed.new.self in
    at_err c.from_residual-in_err-noted.result (looks_at_refusal false (world_of c.args.self.now) _ (world_of c.noted.new.self) c.noted.result c.start-started.result c.in_err-noted.field-0.0 c.in_err-noted.was c.noted.ensures.err
    (on_err c.start-started.result (λ same. ap (λ (told : Told). world_with told opened.ticked opened.failures opened.failures_at_start opened.wait_refused) same ∙ c.in_ok-opened.ensures.ok) c.start-started.ensures.err)
    c.noted.ensures.looks)
