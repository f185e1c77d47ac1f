-- Files that are kept on the site itself, as they are told.
use Rattle.std.proofs.Common.{◌≡◌, ℕ, true, List, ◌++◌, refl, sym, subst}
use Rattle.model.specs.declared.event.Moment.{Moment}
use Rattle.model.specs.declared.graph.Edge.{Edge}
use Rattle.model.specs.Premises.{FilesAreKept}
use Rattle.model.specs.Records.{OwnFiles}
use Rattle.seen_law.specs.Laws.{KeptIsTold}
use Rattle.seen_law.specs.Retold.{Telling}
use Rattle.seen_true.specs.Going.{since}
use Rattle.seen_builds.specs.From.{telling_in}
use Rattle.seen_builds.specs.Kept.{KeptAsTold}
use Rattle.seen_builds.specs.Runs.{begun_in, exit_in}
use Rattle.seen_builds.proofs.Entering.{entry_history}
use Rattle.seen_builds.proofs.Made.{makes_outputs}

-- files are kept up to this history, and what the site notes for itself is free
record KeepsTo (t : Telling) (own : OwnFiles) (edges : List Edge) (old new : List Moment) : Type 0 where
  kept : FilesAreKept own edges old new
  hidden : (p : List ℕ) → t.hidden p ≡ true → kept.free p ≡ true

pub kept_as_told_law : KeptIsTold → KeptAsTold
kept_as_told_law law own edges run goes files =
    let t = telling_in run.counts in
    let first = run.entry.history in
    let before = (begun_in run).before in
    let more = since (begun_in run) run.exit in
    let grown : KeepsTo t own edges first (first ++ more) =
    subst (λ (h : List Moment). KeepsTo t own edges first h) (goes refl) (record { kept = files.kept; hidden = files.hidden }) in
    subst (λ (h : List Moment). FilesAreKept own edges h (exit_in run).history) (sym (entry_history run))
    (law t own edges first before more grown.kept grown.hidden (makes_outputs run.counts.makers edges files.makes))
