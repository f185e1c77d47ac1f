-- How many commands were looked at, and how many keep all premises.
use Rattle.std.specs.Prelude.{◌≡◌, ℕ, ◌+◌, ◌==◌, ◌&&◌, ◌⊎◌, Bool, true, List, [], Option, Some, None, length, min, if◌then◌else◌}
use Rattle.std.specs.List.{AllZip}
use Rattle.trace.specs.declared.fact.Fact.{Fact}
use Rattle.trace.specs.Lines.{told}
use Rattle.audit.specs.declared.place.Lists.{Lists}
use Rattle.audit.specs.declared.place.Around.{Around}
use Rattle.audit.specs.Breaches.{breaches}
use Rattle.audit.specs.declared.seen.By.{By}
use Rattle.audit.specs.declared.whole.Whole.{Whole}
use Rattle.audit.specs.Stood.{Stood}
use Rattle.audit.specs.Seen.{Sums, no_sums, with_all_done, with_untouched}
use Rattle.auditor.specs.declared.tally.Counts.{Counts}
use Rattle.auditor.specs.declared.tally.Tally.{Tally}
use Rattle.auditor.specs.declared.scratch.Scratch.{Scratch}
use Rattle.auditor.specs.Left.{with_left}
use Rattle.auditor.specs.Links.{CountsThrough}
use Rattle.auditor.specs.Scratch.{AreAround}
use Rattle.auditor.specs.Things.{AreThings}

abbrev pub none_looked_at : ℕ → Counts
none_looked_at commands = record { commands = commands; looked = 0; kept = 0 }

-- one more, of a number that a word holds
abbrev pub one_more : ℕ → ℕ
one_more n = min (n + 1) 18446744073709551615

-- the same, and one more was looked at, which keeps all premises or does not
abbrev pub with_one : Counts → Bool → Counts
with_one counts keeps = record {
  commands = counts.commands;
  looked = one_more counts.looked;
  kept = if keeps then one_more counts.kept else counts.kept;
}

-- each command was looked at, and keeps all premises
abbrev pub is_clean : Counts → Bool
is_clean counts = (counts.looked == counts.commands) && (counts.kept == counts.looked)

-- the same was counted, and left
abbrev pub IsKept : Tally → Tally → Type 0
IsKept old new = (new.counts ≡ old.counts) × (new.left ≡ old.left)

-- ---- what is counted

-- Of a command which did this in sum, with a judgement of each path: it counts as one that keeps all premises only where nothing breaks one. What
-- scratch files it left may stand there before the next one begins.
pub record IsCountedBy (scratch : Scratch) (lists : Lists) (sums : Sums) (old new : Tally) : Type 0 where
  pub keeps : Bool
  pub arounds : List Around
  pub each : AreAround scratch old.left sums.paths arounds
  pub found : keeps ≡ true → breaches lists arounds sums ≡ []
  pub is : new.counts ≡ with_one old.counts keeps
  pub left : new.left ≡ with_left scratch old.left sums.paths sums.uses

-- each of these things counts by one of its two paths or by both; what was done through a link of the command's own by where that leads
pub record AreCounted (wholes : List Whole) (bys : List By) : Type 0 where
  pub each : length bys ≡ length wholes
  pub through : AllZip CountsThrough wholes bys

-- what these things come to, each of them as it counts, and at each output of the command
pub record AreSums (wholes : List Whole) (outputs : List (List ℕ)) (sums : Sums) : Type 0 where
  pub bys : List By
  pub counted : AreCounted wholes bys
  pub are : sums ≡ with_untouched (with_all_done no_sums wholes bys) outputs

-- of a command that did these things
pub record IsCountedOf (scratch : Scratch) (wholes : List Whole) (old new : Tally) : Type 0 where
  pub lists : Lists
  pub sums : Sums
  pub are : AreSums wholes lists.outputs sums
  pub is : IsCountedBy scratch lists sums old new

-- so much breaks a premise of that which came to these sums, with a judgement of each path, where these may have stood there before
abbrev pub AreFound : Scratch → List (List ℕ) → Lists → Sums → ℕ → Type 0
AreFound scratch left lists sums count =
    (arounds : List Around) × AreAround scratch left sums.paths arounds × (count ≡ length (breaches lists arounds sums))

-- the trace of a command that began in this folder tells these things, by where links of others stand
abbrev pub Tells : Stood → List ℕ → List ℕ → List Whole → Type 0
Tells links start trace wholes = (facts : List Fact) × (told start trace ≡ Some facts) × AreThings links facts wholes

-- of a command of which a trace tells these facts; one with a path that is no text, or leads nobody knows where, does not count as looked at
abbrev pub TakesTold : Stood → Scratch → Option (List Fact) → Tally → Tally → Type 0
TakesTold links scratch None old new = IsKept old new
TakesTold links scratch (Some facts) old new =
    IsKept old new ⊎ ((wholes : List Whole) × AreThings links facts wholes × IsCountedOf scratch wholes old new)

-- Of a command that began in this folder and left this trace, if any. It counts as looked at only where the trace is understood.
abbrev pub TakesIn : Stood → Scratch → List ℕ → Option (List ℕ) → Tally → Tally → Type 0
TakesIn links scratch start None old new = IsKept old new
TakesIn links scratch start (Some trace) old new = TakesTold links scratch (told start trace) old new
