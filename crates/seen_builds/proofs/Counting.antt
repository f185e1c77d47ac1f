-- What counts by what is known when a build begins.
use Rattle.std.proofs.Common.{◌≡◌, ℕ, Bool, true, false, ◌&&◌, if◌then◌else◌, List, Option, Some, None, length, refl, sym, subst}
use Rattle.std.specs.Prelude.{max}
use Rattle.std.proofs.lemmas.Bool.{cond-true}
use Rattle.model.specs.World.{File}
use Rattle.seen_log.specs.declared.note.Noted.{Noted}
use Rattle.seen_log.specs.Log.{counts_of}
use Rattle.seen_true.specs.Counting.{counts_file, is_as_noted, is_turned}
use Rattle.seen.specs.declared.counts.Counts.{Counts}
use Rattle.seen.specs.Beginning.{noted_of}
use Rattle.seen.specs.Own.{is_own}
use Rattle.seen_builds.specs.From.{telling_in}
use Rattle.seen_builds.specs.Runs.{is_made_in}

-- ---- a source counts always, and so does a file of the program's own

abbrev CountsUnder : Option ℕ → Type 0
CountsUnder counts = (stamp : ℕ) × (counts ≡ Some stamp)

source_file : (known : Option Noted) (number : ℕ) (file : File) → CountsUnder (counts_file known false number file)
source_file None number file = (file.stamp, refl)
source_file (Some n) number file = by (is_as_noted n file.stamp (length file.content))
  where
    by : (as_noted : Bool) → CountsUnder (if as_noted then (if false && is_turned n.kind then None else Some (counts_of n)) else (if false then None else Some (max number file.stamp)))
    by true = (counts_of n, refl)
    by false = (max number file.stamp, refl)

pub source_counts : (k : Counts) (p : List ℕ) → is_made_in k p ≡ false → (file : File) → CountsUnder ((telling_in k).counts p file)
source_counts k p none file = by (is_own k.own p)
  where
    by : (own : Bool) → CountsUnder (if own then Some file.stamp else counts_file (noted_of k.notes p) (is_made_in k p) k.number file)
    by true = (file.stamp, refl)
    by false = subst (λ (b : Bool). CountsUnder (counts_file (noted_of k.notes p) b k.number file)) (sym none) (source_file (noted_of k.notes p) k.number file)

pub own_counts : (k : Counts) (p : List ℕ) → is_own k.own p ≡ true → (file : File) → CountsUnder ((telling_in k).counts p file)
own_counts k p own file = (file.stamp, cond-true (is_own k.own p) (Some file.stamp) (counts_file (noted_of k.notes p) (is_made_in k p) k.number file) own)
