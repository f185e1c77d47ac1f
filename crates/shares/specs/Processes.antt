-- The processes of a trace, in the order in which they were first seen or told of.
use Rattle.std.specs.Prelude.{ℕ, ◌&&◌, Bool, true, false, not, List, get_or}
use Rattle.shares.specs.declared.processes.Origin.{Origin}
use Rattle.shares.specs.declared.processes.Origin.TheVariants.{Untold, Command, Child}
use Rattle.shares.specs.declared.processes.Process.{Process}

-- a process that was started so, of which nothing else is known
abbrev pub process_of : Origin → Process
process_of origin = record { origin = origin; has_ended = false; is_mixed = false; lines = 0 }

abbrev pub is_told_in : Origin → Bool
is_told_in Untold = false
is_told_in (Command count) = true
is_told_in (Child place) = true

-- it was told who started it
abbrev pub is_told : Process → Bool
is_told process = is_told_in process.origin

-- all of its lines are known
abbrev pub is_fine : Process → Bool
is_fine process = process.has_ended && not process.is_mixed

abbrev pub process_at : ℕ → List Process → Process
process_at place processes = get_or processes place (process_of Untold)
