-- What counts of what is noted, and the number of a build.
use Rattle.std.specs.Prelude.{◌≡◌, ◌⊎◌, ℕ, ◌<◌, ◌≤◌, ◌-◌, ◌^◌, Bool, true, Some}
use Rattle.seen_log.specs.declared.note.Noted.{Noted}
use Rattle.seen_log.specs.Log.{counts_of}
use Rattle.seen_true.specs.Counting.{is_as_noted}
use Rattle.seen.specs.Judged.{judged_noted, next_number}

-- what is found at a path of which something is noted counts as before, and then it is as noted, or under the number of the build at least, or is absent
abbrev pub CountsEither : Type 0
CountsEither =
    (noted : Noted) (is_output : Bool) (number stamp size placed counts : ℕ) → (judged_noted noted is_output number stamp size placed).counts ≡ Some counts
    → ((is_as_noted noted stamp size ≡ true) × (counts ≡ counts_of noted)) ⊎ (number ≤ counts)

-- the number of a build is later than the last start and than each number that is noted, as far as a stamp goes
abbrev pub NumberIsLater : Type 0
NumberIsLater =
    (start greatest : ℕ) → start < 2 ^ 64 - 1 → greatest < 2 ^ 64 - 1 → (start < next_number start greatest) × (greatest < next_number start greatest)
