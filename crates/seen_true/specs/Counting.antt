-- How a file counts when a build begins, by what is noted of its path: what `counts_at` of crate `seen` comes to where a file was put there when
-- it was written. All is this project's own. (The first five stand in crate `seen` as well, and move here where that stands on this one.)
use Rattle.std.specs.Prelude.{ℕ, ◌-◌, ◌%◌, ◌==◌, ◌&&◌, ◌||◌, max, Bool, true, false, if◌then◌else◌, List, Option, Some, None, bytes_eq, length}
use Rattle.model.specs.World.{File}
use Rattle.seen_log.specs.declared.note.Kind.{Kind}
use Rattle.seen_log.specs.declared.note.Kind.TheVariants.{Source, Made, Turned}
use Rattle.seen_log.specs.declared.note.Noted.{Noted}
use Rattle.seen_log.specs.Log.{counts_of}
use Rattle.seen_law.specs.Retold.{Telling}

-- a stamp cut to whole seconds
abbrev pub whole_seconds : ℕ → ℕ
whole_seconds stamp = stamp - stamp % 1000000000

-- a file of this stamp and this size is the noted one, or the noted one with its stamp cut to whole seconds
abbrev pub is_as_noted : Noted → ℕ → ℕ → Bool
is_as_noted noted stamp size = (size == noted.size) && ((stamp == noted.stamp) || (stamp == whole_seconds noted.stamp))

-- the size of what is absent, which no file has
abbrev pub no_size : ℕ
no_size = 18446744073709551615

-- what is noted where nothing is found, as of this kind: what comes there later is another than that
abbrev pub absence : Kind → Noted
absence kind = record { kind = kind; stamp = 0; size = no_size; number = 0 }

-- what somebody else wrote where a command had made the path
abbrev pub is_turned : Kind → Bool
is_turned Source = false
is_turned Made = false
is_turned Turned = true

-- what is as noted counts as before, but as absent where a command makes what somebody else wrote; any other file counts as absent where a
-- command makes it, and else as written when it was, but no earlier than the number of the build
abbrev pub counts_noted : Noted → (is_output : Bool) → (number stamp size : ℕ) → Option ℕ
counts_noted n is_output number stamp size =
    if is_as_noted n stamp size then (if is_output && is_turned n.kind then None else Some (counts_of n))
    else (if is_output then None else Some (max number stamp))

-- of what was never noted its own stamp counts
abbrev pub counts_file : Option Noted → (is_output : Bool) → (number : ℕ) → File → Option ℕ
counts_file None is_output number file = Some file.stamp
counts_file (Some n) is_output number file = counts_noted n is_output number file.stamp (length file.content)

-- What a build knows when it begins: what is noted of each path, what commands make by the build file, which files are the program's own, the
-- number of the build, and where the notes are.
pub record Knowing : Type 0 where
  pub noted : List ℕ → Option Noted
  pub is_output : List ℕ → Bool
  pub is_own : List ℕ → Bool
  pub number : ℕ
  pub makes : ℕ → List (List ℕ)
  pub seen : List ℕ

-- how files are told in it
abbrev pub telling : Knowing → Telling
telling k = record {
  counts = λ p file. if k.is_own p then Some file.stamp else counts_file (k.noted p) (k.is_output p) k.number file;
  makes = k.makes;
  hidden = λ p. bytes_eq k.seen p;
}
