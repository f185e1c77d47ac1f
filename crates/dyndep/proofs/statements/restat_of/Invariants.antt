use Rattle.std.proofs.Common.{◌≡◌, false, take}
use Rattle.dyndep.specs.Dyndep.{BindsRestat, restat_of}
use Rattle.dyndep.specs.Refused.{forms_in}
use Rattle.dyndep.proofs.statements.restat_of.Given as goal

abbrev pub invariant-loop-line : goal.invariant-loop-line
invariant-loop-line l = record {
  binds : BindsRestat (forms_in (take l.line-index l.block));
  restat_is : l.restat ≡ restat_of false (forms_in (take l.line-index l.block));
}
