-- What an audit has found, and what is told of that.
use Rattle.std.specs.Prelude.{◌≡◌, ℕ, ◌==◌, Bool, false, List, [], ◌∷◌, ◌++◌, Option, Some, codes, decimal, if◌then◌else◌}
use Rattle.auditor.specs.declared.tally.Counts.{Counts}
use Rattle.auditor.specs.Tally.{is_clean}
use Rattle.nj_run.specs.Texts.{Adds}

pub data Judged : Type 0 where
  -- the traces could not be looked at
  Unjudged : Judged
  -- these lines tell what commands did, and so many were looked at and keep all premises
  Found : List ℕ → Counts → Judged

-- each command was looked at, and keeps all premises
abbrev pub keeps_of : Judged → Bool
keeps_of Unjudged = false
keeps_of (Found lines counts) = is_clean counts

abbrev pub audit_line : List ℕ → List ℕ
audit_line text = (codes "nj: audit: " ++ text) ++ 10 ∷ []

-- how all of them can be looked at, where none was
abbrev pub how_to_look : ℕ → List ℕ
how_to_look looked =
    if looked == 0 then audit_line (codes "no command was looked at: remove .nj_log to have all of them run and looked at") else []

abbrev pub counts_told : Counts → List ℕ
counts_told counts =
    audit_line (decimal counts.looked ++ codes " of " ++ decimal counts.commands ++ codes " commands of the cone looked at, "
    ++ decimal counts.kept ++ codes " keep all premises, as far as the trace shows")

-- what is told, behind what is told of the build
abbrev pub told_of : Judged → List ℕ
told_of Unjudged = audit_line (codes "the traces could not be looked at")
told_of (Found lines counts) = (lines ++ how_to_look counts.looked) ++ counts_told counts

-- it was told what was found, and whether each command was looked at and keeps all premises
pub record TellsFound (keeps : Bool) (old new : Option (List ℕ)) : Type 0 where
  pub judged : Judged
  pub is : keeps ≡ keeps_of judged
  pub told : Adds old new (Some (told_of judged))
