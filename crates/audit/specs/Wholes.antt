-- What a command did, by canonical paths, and where these lead.
use Rattle.std.specs.Prelude.{◌≡◌, ℕ, ◌&&◌, ◌||◌, not, Bool, true, false, List, [], ◌∷◌, Option, Some, None, is_some, ⊤}
use Rattle.lexer.specs.Path.{IsCanonical}
use Rattle.trace.specs.declared.fact.Deed.{Deed}
use Rattle.trace.specs.declared.fact.Deed.TheVariants.{Wrote, Into, Stamped, Emptied, Led, Missed, Sought, Folder, Connected}
use Rattle.trace.specs.declared.fact.Fact.{Fact}
use Rattle.audit.specs.declared.lead.Asks.{Asks}
use Rattle.audit.specs.declared.lead.Trail.{Trail}
use Rattle.audit.specs.declared.lead.Way.TheVariants.{Plain}
use Rattle.audit.specs.declared.whole.Whole.{Whole}
use Rattle.audit.specs.Leading.{is_twin, lead}
use Rattle.audit.specs.Standing.{after, nowhere}
use Rattle.audit.specs.Stood.{Stood}

abbrev pub IsPath : List ℕ → List ℕ → Type 0
IsPath text path = IsCanonical text path

-- ---- what a fact asks for by its name

-- the file is written, or its stamp is set
abbrev pub writes : Deed → Bool
writes Wrote = true
writes Into = true
writes Stamped = true
writes Emptied = true
writes _ = false

abbrev pub sees_old : Deed → Bool
sees_old Missed = false
sees_old Sought = false
sees_old Folder = false
sees_old Connected = false
sees_old _ = true

-- links count that the command did not make
abbrev pub sees_others : Fact → Bool
sees_others fact = fact.up || (sees_old fact.deed && (not (is_some fact.real) || writes fact.deed))

abbrev pub asks_of : Fact → Asks
asks_of fact = record { follows = fact.follows; sees = sees_others fact; writes = writes fact.deed }

-- what stands at the path itself is asked for
abbrev pub peeks : Asks
peeks = record { follows = false; sees = true; writes = false }

-- ---- where its paths lead

-- the kernel has a file by this path, which is reached so; by another one where the command gave it this path beside that
abbrev pub IsKernelsSo : List ℕ → Option (List ℕ) → Type 0
IsKernelsSo real None = ⊥
IsKernelsSo real (Some path) = IsCanonical real path

abbrev pub IsKernels : List ℕ → Trail → Type 0
IsKernels real led = IsKernelsSo real led.path

abbrev pub IsOpenedBy : Bool → List ℕ → Trail → Trail → Type 0
IsOpenedBy true real found led = led ≡ found
IsOpenedBy false real found led = IsKernels real led

abbrev pub IsOpened : List ℕ → Option Trail → Trail → Type 0
IsOpened real None led = IsKernels real led × (led.way ≡ Plain)
IsOpened real (Some found) led = (led.way ≡ found.way) × IsOpenedBy (is_twin found.way) real found led

-- where a name leads, where the kernel tells by which path it has the file, or does not
abbrev pub IsLedSo : Option (List ℕ) → Option Trail → Trail → Type 0
IsLedSo None found led = found ≡ Some led
IsLedSo (Some real) found led = IsOpened real found led

abbrev pub IsLedBy : Stood → Stood → Fact → Trail → Type 0
IsLedBy own old fact led = IsLedSo fact.real (lead own old (asks_of fact) fact.path) led

-- where the other path of a fact leads, without what stands there
abbrev pub IsPlacedSo : List ℕ → Option (List ℕ) → List ℕ → Type 0
IsPlacedSo text None path = IsCanonical text path
IsPlacedSo text (Some led) path = path ≡ led

abbrev pub IsPlacedTo : List ℕ → Option (List ℕ) → Option (List ℕ) → Type 0
IsPlacedTo text led None = ⊥
IsPlacedTo text led (Some path) = IsPlacedSo text led path

abbrev pub IsPlacedAt : List ℕ → Option Trail → Option (List ℕ) → Type 0
IsPlacedAt text None other = ⊥
IsPlacedAt text (Some found) other = IsPlacedTo text found.path other

abbrev pub IsPlacedOther : Stood → Stood → List ℕ → Option (List ℕ) → Type 0
IsPlacedOther own old text other = IsPlacedAt text (lead own old peeks text) other

abbrev pub is_led : Deed → Bool
is_led Led = true
is_led _ = false

abbrev pub IsOtherBy : Bool → Stood → Stood → List ℕ → Option (List ℕ) → Type 0
IsOtherBy true own old text other = other ≡ Some text
IsOtherBy false own old text other = IsPlacedOther own old text other

abbrev pub IsOtherSo : Bool → Stood → Stood → Option (List ℕ) → Option (List ℕ) → Type 0
IsOtherSo led own old None other = other ≡ None
IsOtherSo led own old (Some text) other = IsOtherBy led own old text other

-- of a link where it leads as it is written, else where the other path leads
abbrev pub IsOtherOf : Stood → Stood → Fact → Option (List ℕ) → Type 0
IsOtherOf own old fact other = IsOtherSo (is_led fact.deed) own old fact.other other

-- a fact by this path, which leads there, and with this other one
abbrev pub whole_from : Fact → List ℕ → Trail → Option (List ℕ) → Whole
whole_from fact path led other =
    record { deed = fact.deed; path = path; real = led.path; other = other; up = fact.up; way = led.way }

-- the same was done, by canonical paths, where these things stand that the command put there and others did
pub record IsWholeOf (own old : Stood) (fact : Fact) (whole : Whole) : Type 0 where
  pub deed : whole.deed ≡ fact.deed
  pub path : IsCanonical fact.path whole.path
  pub led : IsLedBy own old fact (record { path = whole.real; way = whole.way })
  pub other : IsOtherOf own old fact whole.other
  pub up : whole.up ≡ fact.up

-- one thing after another, each by what stands where once those before it were done
abbrev pub AreWholeFrom : Stood → Stood → List Fact → List Whole → Type 0
AreWholeFrom own old [] [] = ⊤
AreWholeFrom own old [] (whole ∷ wholes) = ⊥
AreWholeFrom own old (fact ∷ facts) [] = ⊥
AreWholeFrom own old (fact ∷ facts) (whole ∷ wholes) =
    IsWholeOf own old fact whole × AreWholeFrom (after own whole) old facts wholes

abbrev pub AreWhole : Stood → List Fact → List Whole → Type 0
AreWhole old facts wholes = AreWholeFrom nowhere old facts wholes
