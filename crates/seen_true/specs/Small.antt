-- Small histories, in which true notes do not tell enough, as they say nothing of what was absent.
use Rattle.std.specs.Prelude.{ℕ, ◌||◌, Bool, if◌then◌else◌, List, [], ◌∷◌, ◌++◌, Some, None, bytes_eq}
use Rattle.model.specs.declared.event.Moment.TheVariants.{Wrote}
use Rattle.model.specs.declared.event.Writer.TheVariants.{Command, Program, Someone}
use Rattle.model.specs.declared.event.Moment.{Moment}
use Rattle.model.specs.declared.record.Record.TheVariants.{Done}
use Rattle.model.specs.Records.{LogFormat, OwnFiles}
use Rattle.seen_log.specs.declared.note.Kind.TheVariants.{Source}
use Rattle.seen_log.specs.declared.note.Noted.{Noted}
use Rattle.seen_law.specs.Rows.{edited, output, source, was, some_act, makes_output}
use Rattle.seen_true.specs.Counting.{Knowing, telling}
use Rattle.seen_true.specs.Soundly.{CountSoundly}

-- both logs; the first one tells that the output was made, by a command that was started under 6
abbrev pub log : List ℕ
log = 108 ∷ []

abbrev pub deps : List ℕ
deps = 100 ∷ []

abbrev pub is_log : List ℕ → Bool
is_log p = bytes_eq log p || bytes_eq deps p

abbrev pub own : OwnFiles
own = record { build_log = log; deps_log = deps; files = is_log; set = is_log }

abbrev pub reads : LogFormat
reads = record { records = λ content. Some (Done (output ∷ []) 6 some_act ∷ []); deps = λ content. Some [] }

-- the source was noted under 5 in an earlier build
abbrev pub source_then : Noted
source_then = record { kind = Source; stamp = 5; size = 1; number = 0 }

abbrev pub knows_source : Knowing
knows_source = record {
  noted = λ p. if bytes_eq p source then Some source_then else None;
  is_output = λ p. bytes_eq p output;
  is_own = is_log;
  number = 9;
  makes = makes_output;
  seen = 46 ∷ [];
}

-- It was away while the output was made, and is put back under its stamp: where that it was away is not noted, it counts as if it had been there.
abbrev pub away : List Moment
away = Wrote Someone source (Some was) 5 ∷ Wrote Someone source None 5 ∷ Wrote (Command 1) output (Some was) 7 ∷ Wrote Program log (Some was) 8 ∷ []

abbrev pub PutBackIsNotSound : Type 0
PutBackIsNotSound = (paths : List (List ℕ)) → CountSoundly reads own (telling knows_source) away (away ++ Wrote Someone source (Some was) 5 ∷ []) paths → ⊥

-- A command ended well and left no output: where that is not noted, what somebody puts there counts as what the command made.
abbrev pub unmade : List Moment
unmade = Wrote Someone source (Some was) 5 ∷ Wrote Program log (Some was) 8 ∷ []

abbrev pub UnmadeIsNotSound : Type 0
UnmadeIsNotSound = (paths : List (List ℕ)) → CountSoundly reads own (telling knows_source) unmade (unmade ++ Wrote Someone output (Some edited) 9 ∷ []) paths → ⊥
