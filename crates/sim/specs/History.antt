-- What the writes of a command add to it.
use Rattle.std.specs.Prelude.{◌≡◌, ℕ, ◌+◌, Bool, if◌then◌else◌, List, [], ◌∷◌, ◌++◌, Option, Some, None, bytes_eq, ◌&&◌}
use Rattle.std.specs.Option.{option_eq}
use denote.Ref.{Bor}
use Rattle.model.specs.declared.act.Act.{Act}
use Rattle.model.specs.declared.event.Event.{Event}
use Rattle.model.specs.declared.event.Event.TheVariants.{Start}
use Rattle.model.specs.declared.event.Moment.{Moment}
use Rattle.model.specs.declared.event.Moment.TheVariants.{Wrote, Happened}
use Rattle.model.specs.declared.event.Writer.{Writer}
use Rattle.model.specs.declared.event.Writer.TheVariants.{Command}
use Rattle.model.specs.declared.outcome.Write.{Write}
use Rattle.model.specs.World.{View, File, view_of, file_at, latest}
use Rattle.model.specs.Calls.{content_or_empty}

-- a file whose content is borrowed
abbrev pub file_seen : Bor (List ℕ) × ℕ → File
file_seen held = record { content = held.0.now; stamp = held.1 }

-- with a start or an end, if there is one
abbrev pub with_event : Option Event → List Moment → List Moment
with_event None history = history
with_event (Some event) history = history ++ Happened event ∷ []

-- some moments more
abbrev pub IsLonger : List Moment → List Moment → Type 0
IsLonger old new = (more : List Moment) × (new ≡ old ++ more)

-- a command may leave a file alone that holds already what it would write
abbrev pub is_skipped : View → Write → Bool
is_skipped view write = write.only_changes && option_eq bytes_eq (view write.path) write.content

-- the history once the job has made the write
abbrev pub with_write : ℕ → Write → List Moment → List Moment
with_write job write history = if is_skipped (view_of history) write then history else history ++ Wrote (Command job) write.path write.content (latest history + 1) ∷ []

-- the history once the job has made the writes, one after the other
abbrev pub with_writes : ℕ → List Write → List Moment → List Moment
with_writes job [] history = history
with_writes job (write ∷ writes) history = with_writes job writes (with_write job write history)

-- the history with a write under this stamp
abbrev pub with_change : Writer → List ℕ → Option (List ℕ) → ℕ → List Moment → List Moment
with_change by path content stamp history = history ++ Wrote by path content stamp ∷ []

-- the history with a write under the next stamp
abbrev pub with_next : Writer → List ℕ → Option (List ℕ) → List Moment → List Moment
with_next by path content history = with_change by path content (latest history + 1) history

-- what the file at the path holds, which may be absent, and these bytes behind it
abbrev pub longer_at : List ℕ → List ℕ → List Moment → Option (List ℕ)
longer_at path bytes history = Some (content_or_empty (file_at history path) ++ bytes)

-- the history once all that a command does in one call has happened: a start and an end only where there is one
abbrev pub with_work : ℕ → Option Event → List Write → Option Event → List Moment → List Moment
with_work job start writes end history = with_event end (with_writes job writes (with_event start history))

-- the history once the job was started and has made the writes
abbrev pub with_launch : ℕ → Act → ℕ → List Write → List Moment → List Moment
with_launch job act stamp writes history = with_writes job writes (history ++ Happened (Start job act stamp) ∷ [])

-- what the paths hold after a write
abbrev pub after_write : View → Write → View
after_write view write = λ path. if bytes_eq write.path path then write.content else view path

abbrev pub after_writes : View → List Write → View
after_writes view [] = view
after_writes view (write ∷ writes) = after_writes (after_write view write) writes
