use Rattle.std.proofs.Common.{◌≡◌, false}
use Rattle.tools.specs.declared.fault.Fault.{Fault}
use Rattle.tools.specs.declared.fault.Fault.TheVariants.{Memory}
use Rattle.ninja_asked.proofs.Keeping.{if_err_by, if_err_each}
use Rattle.ninja_asked.proofs.targets.left_targets.Goals as goal

pub returns-in_err-paths-clause-memory : goal.returns-in_err-paths-clause-memory
returns-in_err-paths-clause-memory g c = if_err_by (λ (f : Fault). f ≡ Memory → (g.S.Texts.world c.paths_of.new.site).stopped ≡ false) c.in_err-paths.field-0.0 c.from_residual.result c.in_err-paths.ensures.memory c.from_residual.ensures.1

pub returns-in_err-left-clause-memory : goal.returns-in_err-left-clause-memory
returns-in_err-left-clause-memory g c = if_err_each c.from_residual-in_err-left.result (λ fault memory. c.in_ok-paths.ensures.looked.unrefused.goes_on)
