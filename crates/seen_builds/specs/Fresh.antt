-- Where nothing was built yet. All is this project's own.
use Rattle.std.specs.Prelude.{◌≡◌, List, [], None}
use Rattle.model.specs.declared.graph.Edge.{Edge}
use Rattle.model.specs.Faithful.{IsFaithfulStore}
use Rattle.model.specs.World.{World, file_at}
use Rattle.seen_builds.specs.Runs.{Conventions, HasLateNumber, OthersCount, Run, Told}

-- no log is there
pub record BeginsFresh (here : Conventions) (run : Run) : Type 0 where
  pub build_log : file_at run.entry.history here.own.build_log ≡ None
  pub deps_log : file_at run.entry.history here.own.deps_log ≡ None

-- Then the records of a site on which nothing has happened are faithful, what others did since counts, whatever it is, under whatever stamps,
-- and whatever was noted, and the number of the build is later than the records.
abbrev pub FreshIsMet : Type 0
FreshIsMet =
    (here : Conventions) (edges : List Edge) (first : World) (run : Run) → first.history ≡ [] → BeginsFresh here run
    → IsFaithfulStore here.does here.format here.own edges first × OthersCount here (Told first.history) run × HasLateNumber here run
