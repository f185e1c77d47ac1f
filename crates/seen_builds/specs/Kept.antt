-- Files that are kept while a build runs, as they are told. All is this project's own.
use Rattle.std.specs.Prelude.{◌≡◌, ℕ, true, List}
use Rattle.model.specs.declared.graph.Edge.{Edge}
use Rattle.model.specs.Premises.{FilesAreKept}
use Rattle.model.specs.Records.{OwnFiles}
use Rattle.seen.specs.Begun.{GoesOn}
use Rattle.seen_builds.specs.From.{telling_in}
use Rattle.seen_builds.specs.Makes.{KnowsMakers}
use Rattle.seen_builds.specs.Runs.{Run, begun_in, entry_in, exit_in}

-- Files were kept on the site itself; what the site notes for itself is free; and what was known to be made by an edge is its output.
pub record KeepsFiles (own : OwnFiles) (edges : List Edge) (run : Run) : Type 0 where
  pub kept : FilesAreKept own edges run.entry.history run.exit.history
  pub hidden : (p : List ℕ) → (telling_in run.counts).hidden p ≡ true → kept.free p ≡ true
  pub makes : KnowsMakers run.counts.makers edges

-- then they were kept as they are told
abbrev pub KeptAsTold : Type 0
KeptAsTold =
    (own : OwnFiles) (edges : List Edge) (run : Run) → GoesOn true (begun_in run) run.exit → KeepsFiles own edges run
    → FilesAreKept own edges (entry_in run).history (exit_in run).history
