use Rattle.std.proofs.Common.{◌≡◌, ◌++◌, string_bytes}
use Rattle.tools.specs.Showing.{indentation}
use Rattle.tools.proofs.listing.push_indent.Given as goal

abbrev pub invariant-loop : goal.invariant-loop
invariant-loop l = string_bytes l.told ≡ string_bytes l.initial.told ++ indentation l.counter
