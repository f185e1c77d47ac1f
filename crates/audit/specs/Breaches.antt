-- What a command did that breaks a premise, path by path.
use Rattle.std.specs.Prelude.{ℕ, ◌+◌, List, [], ◌∷◌, ◌++◌}
use Rattle.audit.specs.declared.place.Lists.{Lists}
use Rattle.audit.specs.declared.place.Around.{Around}
use Rattle.audit.specs.declared.used.Use.{Use}
use Rattle.audit.specs.declared.finding.Finding.{Finding}
use Rattle.audit.specs.declared.breach.Breach.{Breach}
use Rattle.audit.specs.Places.{place_of}
use Rattle.audit.specs.Findings.{findings}
use Rattle.audit.specs.Seen.{Sums}

-- these are found at the path in this place
abbrev pub all_at : ℕ → List Finding → List Breach
all_at place [] = []
all_at place (finding ∷ found) = record { place = place; finding = finding } ∷ all_at place found

-- of these paths, the first of which stands in this place, with what each is to the build and what was done there
abbrev pub breaches_from : Lists → ℕ → List (List ℕ) → List Around → List Use → List Breach
breaches_from lists place [] arounds uses = []
breaches_from lists place (path ∷ paths) [] uses = []
breaches_from lists place (path ∷ paths) (around ∷ arounds) [] = []
breaches_from lists place (path ∷ paths) (around ∷ arounds) (used ∷ uses) =
    all_at place (findings (place_of lists around path) used) ++ breaches_from lists (place + 1) paths arounds uses

-- what the command of the edge with these lists did that breaks a premise
abbrev pub breaches : Lists → List Around → Sums → List Breach
breaches lists arounds sums = breaches_from lists 0 sums.paths arounds sums.uses
