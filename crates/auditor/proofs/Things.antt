-- The things that a command did.
use Rattle.std.proofs.Common.{List, [], ◌∷◌, refl}
use Rattle.std.specs.List.{AllZip}
use Rattle.audit.specs.declared.whole.Whole.{Whole}
use Rattle.auditor.specs.Things.{IsGiven}

-- all have the names that they had
pub all_given : (wholes : List Whole) → AllZip IsGiven wholes wholes
all_given [] = tt
all_given (whole ∷ wholes) = (record { deed = refl; real = refl; other = refl; up = refl; way = refl; path = λ is. refl }, all_given wholes)
