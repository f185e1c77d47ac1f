-- Faults of one kind told as another.
use Rattle.std.specs.Prelude.{◌≡◌}
use Rattle.scopes.specs.declared.fault.ExpandFault.{ExpandFault}
use Rattle.scopes.specs.declared.fault.ExpandFault.TheVariants.{Memory, TooLarge}
use Rattle.scopes.specs.declared.fault.UseFault.{UseFault}
use Rattle.scopes.specs.declared.fault.UseFault.TheVariants.{Memory as UseMemory, TooLarge as UseTooLarge}

abbrev pub IsSameFault : ExpandFault → UseFault → Type 0
IsSameFault Memory fault = fault ≡ UseMemory
IsSameFault TooLarge fault = fault ≡ UseTooLarge
