-- How far edges have come.
use Rattle.std.specs.Prelude.{◌≡◌, ◌⊎◌, ℕ, Bool, true, false, List, slice_index_or, Option, Some, None}
use Rattle.plan.specs.declared.step.Standing.{Standing}
use Rattle.plan.specs.declared.step.Standing.TheVariants.{Outside, Unjudged, Clean, OutOfDate, Running, Well, Failed, Alias, Known}

-- an edge past the end is not in the cone
abbrev pub standing_at : List Standing → ℕ → Standing
standing_at standings e = slice_index_or standings e Outside

-- a command of the cone that was not judged
abbrev pub is_unjudged : Standing → Bool
is_unjudged Unjudged = true
is_unjudged _ = false

-- a command that is to be started
abbrev pub is_out_of_date : Standing → Bool
is_out_of_date OutOfDate = true
is_out_of_date _ = false

-- a command that was started and has not ended
abbrev pub is_running : Standing → Bool
is_running Running = true
is_running _ = false

-- a command that failed
abbrev pub is_failed : Standing → Bool
is_failed Failed = true
is_failed _ = false

-- a command that ended well
abbrev pub is_well : Standing → Bool
is_well Well = true
is_well _ = false

-- an alias some of whose inputs are not there
abbrev pub is_alias : Standing → Bool
is_alias Alias = true
is_alias _ = false

-- an edge that is not in the cone
abbrev pub is_outside : Standing → Bool
is_outside Outside = true
is_outside _ = false

-- an edge with no command
abbrev pub is_phony : Standing → Bool
is_phony Alias = true
is_phony Known = true
is_phony _ = false

-- the edge may still wait for inputs
abbrev pub awaits : Standing → Bool
awaits Unjudged = true
awaits Alias = true
awaits _ = false

-- what the edge makes is there
abbrev pub is_settled : Standing → Bool
is_settled Clean = true
is_settled Well = true
is_settled Known = true
is_settled _ = false

-- a source, or what a settled edge makes
abbrev pub maker_settled : List Standing → Option ℕ → Bool
maker_settled standings None = true
maker_settled standings (Some e) = is_settled (standing_at standings e)

-- an edge stands as before, or is an alias that was settled
abbrev pub StaysOrSettles : Standing → Standing → Type 0
StaysOrSettles old new = (new ≡ old) ⊎ ((old ≡ Alias) × (new ≡ Known))
