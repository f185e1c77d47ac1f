-- What is known to stand at paths, as a command goes on (this project's own).
use Rattle.std.specs.Prelude.{ℕ, zero, suc, Bool, true, false, List, [], ◌∷◌, ◌++◌, Option, Some, None, if◌then◌else◌, bytes_eq, unwrap_or}
use Rattle.model.specs.Graph.{has}
use Rattle.trace.specs.declared.fact.Deed.{Deed}
use Rattle.trace.specs.declared.fact.Deed.TheVariants.{Led, Linked, Moved, Removed}
use Rattle.audit.specs.declared.below.Carried.{Carried}
use Rattle.audit.specs.declared.standing.Stands.{Stands}
use Rattle.audit.specs.declared.standing.Stands.TheVariants.{Unknown, Gone, Link, Twin}
use Rattle.audit.specs.declared.whole.Whole.{Whole}
use Rattle.audit.specs.Below.{below}
use Rattle.audit.specs.Stood.{Stood}

abbrev pub nowhere : Stood
nowhere = record { paths = []; stands = [] }

abbrev pub stand_in : List (List ℕ) → List Stands → List ℕ → Option Stands
stand_in [] stands path = None
stand_in (other ∷ paths) [] path = None
stand_in (other ∷ paths) (there ∷ stands) path = if bytes_eq other path then Some there else stand_in paths stands path

-- what stands at a path, where that is known
abbrev pub stand_at : Stood → List ℕ → Option Stands
stand_at stood path = stand_in stood.paths stood.stands path

-- another thing stands at a path, or in a place
abbrev pub put_in : List (List ℕ) → List Stands → List ℕ → Stands → List Stands
put_in [] stands path new = stands
put_in (other ∷ paths) [] path new = []
put_in (other ∷ paths) (there ∷ stands) path new =
    if bytes_eq other path then new ∷ stands else there ∷ put_in paths stands path new

abbrev pub put_at : List Stands → ℕ → Stands → List Stands
put_at [] place new = []
put_at (there ∷ stands) zero new = new ∷ stands
put_at (there ∷ stands) (suc place) new = there ∷ put_at stands place new

abbrev pub put : Stood → List ℕ → Stands → Stood
put stood path new =
    if has stood.paths path then record { paths = stood.paths; stands = put_in stood.paths stood.stands path new }
    else record { paths = stood.paths ++ path ∷ []; stands = stood.stands ++ new ∷ [] }

abbrev pub is_gone_so : Stands → Bool
is_gone_so Gone = true
is_gone_so _ = false

abbrev pub is_gone : Option Stands → Bool
is_gone None = false
is_gone (Some stands) = is_gone_so stands

-- ---- what a command does there

-- the path at which a thing was done, and its other one
abbrev pub place_of : Whole → List ℕ
place_of whole = unwrap_or whole.real whole.path

abbrev pub other_in : Whole → List ℕ
other_in whole = unwrap_or whole.other []

-- what stands at a path that was given to the file, or the link, which has this one; where the command gave it this one too, it had another before
abbrev pub linked_so : List ℕ → Stands → Stands
linked_so from (Link target) = Link target
linked_so from (Twin other) = Twin other
linked_so from _ = Twin from

abbrev pub linked : List ℕ → Option Stands → Stands
linked from None = Twin from
linked from (Some stands) = linked_so from stands

-- what stands at the first path has the second one now
abbrev pub with_pair : Stood → List ℕ → List ℕ → Stood
with_pair stood from to = put (put stood from Gone) to (unwrap_or (stand_at stood from) Unknown)

abbrev pub with_pairs : Stood → List Carried → Stood
with_pairs stood [] = stood
with_pairs stood (pair ∷ pairs) = with_pairs (with_pair stood pair.from pair.to) pairs

-- the same of all that is below it
abbrev pub moved : Stood → List ℕ → List ℕ → Stood
moved stood from to = with_pair (with_pairs stood (below from to stood.paths)) from to

abbrev pub after_deed : Deed → Stood → Whole → Stood
after_deed Led stood whole = put stood (place_of whole) (Link (other_in whole))
after_deed Removed stood whole = put stood (place_of whole) Gone
after_deed Linked stood whole =
    put stood (place_of whole) (linked (other_in whole) (stand_at stood (other_in whole)))
after_deed Moved stood whole = moved stood (other_in whole) (place_of whole)
after_deed _ stood whole = stood

-- what is known once the command did this
abbrev pub after : Stood → Whole → Stood
after stood whole = after_deed whole.deed stood whole
