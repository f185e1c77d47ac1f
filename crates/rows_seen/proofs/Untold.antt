-- What a call of a site that tells its files leaves, said as of one that does not.
use Rattle.std.proofs.Common.{ℕ, true, false, List, Option, Some, Result, Ok, Err, OnErr, inl, inr}
use Rattle.std.proofs.lemmas.Bool.{false≢true}
use Rattle.model.specs.declared.act.Act.{Act}
use Rattle.model.specs.World.{World}
use Rattle.model.specs.Calls.{OnlyLooks, Ticks, TicksOrNot, Writes, WritesOrNot, SpoilsOrNot, Appends, AppendsOrNot, Starts, StartsOrNot}

pub at_err : {T E Q : Type 0} (result : Result T E) → Q → OnErr result Q
at_err (Ok value) so = tt
at_err (Err fault) so = so

looks_untold : (old new : World) → OnlyLooks true old new → OnlyLooks false old new
looks_untold old new looks = record { events = looks.events; ticked = looks.ticked; at_start = looks.at_start; history = λ tells. absurd (false≢true tells) }

writes_untold : (path : List ℕ) (content : Option (List ℕ)) (old new : World) → Writes true path content old new → Writes false path content old new
writes_untold path content old new writes = record { events = writes.events; ticked = writes.ticked; at_start = writes.at_start; history = λ tells. absurd (false≢true tells) }

appends_untold : (path bytes : List ℕ) (old new : World) → Appends true path bytes old new → Appends false path bytes old new
appends_untold path bytes old new appends = record { events = appends.events; ticked = appends.ticked; at_start = appends.at_start; history = λ tells. absurd (false≢true tells) }

ticks_untold : (path : List ℕ) (stamp : ℕ) (old new : World) → Ticks true path stamp old new → Ticks false path stamp old new
ticks_untold path stamp old new ticks = record { events = ticks.events; ticked = ticks.ticked; at_start = ticks.at_start; history = λ tells. absurd (false≢true tells) }

starts_untold : (job : ℕ) (act : Act) (old new : World) → Starts true job act old new → Starts false job act old new
starts_untold job act old new starts = record { events = starts.events; ticked = starts.ticked; at_start = starts.at_start; history = λ tells. absurd (false≢true tells) }

pub writes_or_not : (path : List ℕ) (content : Option (List ℕ)) (old new : World) → WritesOrNot true path content old new → WritesOrNot false path content old new
writes_or_not path content old new (inl looks) = inl (looks_untold old new looks)
writes_or_not path content old new (inr writes) = inr (writes_untold path content old new writes)

pub spoils_or_not : (path : List ℕ) (old new : World) → SpoilsOrNot true path old new → SpoilsOrNot false path old new
spoils_or_not path old new (inl looks) = inl (looks_untold old new looks)
spoils_or_not path old new (inr (other, writes)) = inr (other, writes_untold path (Some other) old new writes)

pub appends_or_not : (path bytes : List ℕ) (old new : World) → AppendsOrNot true path bytes old new → AppendsOrNot false path bytes old new
appends_or_not path bytes old new (inl looks) = inl (looks_untold old new looks)
appends_or_not path bytes old new (inr (part, rest, parts, appends)) = inr (part, rest, parts, appends_untold path part old new appends)

pub ticks_or_not : (path : List ℕ) (old new : World) → TicksOrNot true path old new → TicksOrNot false path old new
ticks_or_not path old new (inl looks) = inl (looks_untold old new looks)
ticks_or_not path old new (inr (stamp, ticks)) = inr (stamp, ticks_untold path stamp old new ticks)

pub starts_or_not : (job : ℕ) (act : Act) (old new : World) → StartsOrNot true job act old new → StartsOrNot false job act old new
starts_or_not job act old new (inl looks) = inl (looks_untold old new looks)
starts_or_not job act old new (inr starts) = inr (starts_untold job act old new starts)
