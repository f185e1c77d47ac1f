-- How many commands are still to be started.
use Rattle.std.specs.Prelude.{◌≡◌, ℕ, zero, suc, Bool, true, false, List, [], ◌∷◌, ◌&&◌, if◌then◌else◌}
use Rattle.plan.specs.declared.step.Standing.{Standing}
use Rattle.plan.specs.declared.step.Standing.TheVariants.{Outside, Unjudged, Clean, OutOfDate, Running, Well, Failed, Alias, Known}
use Rattle.plan.specs.Standing.{standing_at}

-- an edge that stands so has a command, which may still be started
abbrev pub is_unstarted : Standing → Bool
is_unstarted Outside = false
is_unstarted Unjudged = true
is_unstarted Clean = false
is_unstarted OutOfDate = true
is_unstarted Running = false
is_unstarted Well = false
is_unstarted Failed = false
is_unstarted Alias = false
is_unstarted Known = false

-- how many of the edges from this one on have a flag that is set, and a command that may still be started
abbrev pub count_from : List Standing → ℕ → List Bool → ℕ
count_from standings e [] = zero
count_from standings e (due ∷ flags) = if due && is_unstarted (standing_at standings e) then suc (count_from standings (suc e) flags) else count_from standings (suc e) flags

-- how many edges that are due have a command that may still be started
abbrev pub count_unstarted : List Standing → List Bool → ℕ
count_unstarted standings due = count_from standings 0 due

-- as many as are due and may still be started, where so many were due before
abbrev pub AreStillUnstarted : ℕ → List Standing → List Bool → List Bool → ℕ → Type 0
AreStillUnstarted known standings before due count = known ≡ count_unstarted standings before → count ≡ count_unstarted standings due
