-- Worked rows: how small histories are told.
use Rattle.std.specs.Prelude.{◌≡◌, ℕ, ◌==◌, true, false, if◌then◌else◌, List, [], ◌∷◌, ◌++◌, Option, Some, None, bytes_eq}
use Rattle.model.specs.declared.act.Act.{Act}
use Rattle.model.specs.declared.event.Event.TheVariants.{Start, Finish}
use Rattle.model.specs.declared.event.Moment.{Moment}
use Rattle.model.specs.declared.event.Moment.TheVariants.{Wrote, Happened}
use Rattle.model.specs.declared.event.Writer.TheVariants.{Program, Command, Someone}
use Rattle.model.specs.World.{File, file_at}
use Rattle.seen_law.specs.Retold.{Counting, Telling, none_started, retell}
use Rattle.seen_law.specs.Meanwhile.{told_next}

-- a source, an output, and the file of notes
abbrev pub source : List ℕ
source = 97 ∷ []

abbrev pub output : List ℕ
output = 98 ∷ []

abbrev pub notes : List ℕ
notes = 115 ∷ []

-- contents: what was there, and what somebody else put there
abbrev pub was : List ℕ
was = 48 ∷ []

abbrev pub edited : List ℕ
edited = 49 ∷ []

abbrev pub some_act : Act
some_act = record { command = []; depfile = []; response_path = []; response_content = [] }

-- the last build: the source was there, and the command of job 1 made the output
abbrev pub last_build : List Moment
last_build =
    Wrote Someone source (Some was) 5 ∷ Happened (Start 1 some_act 6) ∷ Wrote (Command 1) output (Some was) 7 ∷ Happened (Finish 1 true) ∷ []

-- then somebody else put both there under old stamps
abbrev pub put_back : List Moment
put_back = last_build ++ Wrote Someone source (Some edited) 1 ∷ Wrote Someone output (Some edited) 2 ∷ []

-- the source was noted under 5, and the output under 7; what is another counts under 8, or as absent
abbrev pub by_notes : Counting
by_notes p file =
    if bytes_eq p source then Some (if file.stamp == 5 then 5 else 8)
    else (if bytes_eq p output then (if file.stamp == 7 then Some 7 else None) else Some file.stamp)

abbrev pub makes_output : ℕ → List (List ℕ)
makes_output job = if job == 1 then output ∷ [] else []

abbrev pub small : Telling
small = record { counts = by_notes; makes = makes_output; hidden = λ p. bytes_eq p notes }

-- What others did is told as a write of the source, later than all before, and a deletion of the output.
abbrev pub BetweenRow : Type 0
BetweenRow =
    told_next small last_build put_back (source ∷ output ∷ [])
    ≡ last_build ++ Wrote Someone source (Some edited) 8 ∷ Wrote Someone output None 7 ∷ []

-- these moments, as they are told in the build that begins then
abbrev pub told_small : List Moment → List Moment
told_small more = retell small none_started (file_at put_back) more

-- A command that leaves its output as somebody else put it there is told to have written that, right behind its start.
abbrev pub LeftRow : Type 0
LeftRow =
    told_small (Happened (Start 1 some_act 20) ∷ Happened (Finish 1 true) ∷ [])
    ≡ Happened (Start 1 some_act 20) ∷ Wrote (Command 1) output (Some edited) 21 ∷ Happened (Finish 1 true) ∷ []

-- One that writes it is told to have written it besides, under the stamp that it has.
abbrev pub MadeRow : Type 0
MadeRow =
    told_small (Happened (Start 1 some_act 20) ∷ Wrote (Command 1) output (Some was) 22 ∷ [])
    ≡ Happened (Start 1 some_act 20) ∷ Wrote (Command 1) output (Some edited) 21 ∷ Wrote (Command 1) output (Some was) 22 ∷ []

-- Before its start what somebody else puts there is told as a deletion; and what is noted as somebody else's writing.
abbrev pub HiddenRow : Type 0
HiddenRow =
    told_small (Wrote Someone output (Some was) 9 ∷ Wrote Program notes (Some was) 10 ∷ [])
    ≡ Wrote Someone output None 9 ∷ Wrote Someone notes (Some was) 10 ∷ []

abbrev pub RetoldRows : Type 0
RetoldRows = BetweenRow × LeftRow × MadeRow × HiddenRow
