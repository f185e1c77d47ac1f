-- What a reader of paths gives, whatever was done to the scopes that it sees.
use Rattle.std.specs.Prelude.{◌≡◌, ℕ, false, List, Option, Result}
use Rattle.std.specs.Option.{option_map}
use Rattle.lexer.specs.Said.{Fragments, BuildForm}
use Rattle.paths.specs.declared.line.Line.{Line}
use Rattle.paths.specs.Told.{text_at}
use Rattle.scopes.specs.Moves.{Move}
use Rattle.scopes.specs.Place.{value_of_name}
use Rattle.scopes.specs.Scopes.{Always}
use Rattle.manifest.specs.declared.fault.ReadError.{ReadError}
use Rattle.manifest.specs.declared.path_reader.PathReader.{PathReader}
use Rattle.manifest.specs.Declarations.{PathsOf}
use Rattle.manifest.specs.Expansion.{text_of, ArePaths}
use Rattle.manifest.specs.declared.place.Place.{Place as KeptPlace}
use Rattle.manifest.specs.Flags.{FlagsAfter, IsPathFound, NoneIsWrong}
use Rattle.manifest.specs.InNumbers.{FindsPaths}
use Rattle.manifest.specs.Places.{place_of}
use Rattle.manifest.specs.Readings.{Place, Reading}

-- what a name stands for where the reader stands
abbrev pub value_by : PathReader → List Move → List ℕ → List ℕ
value_by reader past name = value_of_name reader.block.now past name

-- what is wrong with some of these is noted
abbrev pub Notes : PathReader → PathReader → List Fragments → Type 0
Notes old new texts = Always old.scopes.now (λ past. FlagsAfter old new (value_by old past) texts)

-- some are refused where one is noted as wrong
abbrev pub NoneNoted : KeptPlace → PathReader → Reading (Unit {0})
NoneNoted place reader = NoneIsWrong (place_of place) reader.has_empty reader.has_large

-- this is so if nothing is noted as wrong
abbrev pub IfRight : PathReader → PathReader → (List Move → Type 0) → Type 0
IfRight old new P = Always old.scopes.now (λ past. new.has_empty ≡ false → new.has_large ≡ false → P past)

abbrev pub ReadsPaths : PathReader → PathReader → List Fragments → List (List ℕ) → Type 0
ReadsPaths old new texts paths = IfRight old new (λ past. ArePaths (value_by old past) texts paths)

abbrev pub ReadsPath : PathReader → PathReader → Fragments → Option (List ℕ) → Type 0
ReadsPath old new text path = IfRight old new (λ past. IsPathFound (text_of (value_by old past) text) path)

-- the path with this number in the table
abbrev pub text_found : List (List ℕ) → Option ℕ → Option (List ℕ)
text_found table number = option_map (text_at table) number

-- the line that was read, or why none was, is that of the build line
abbrev pub FindsLine : PathReader → List (List ℕ) → Place → BuildForm → Result Line ReadError → Type 0
FindsLine reader table place form result =
    Always reader.scopes.now (λ past. FindsPaths table (PathsOf place (value_by reader past) form) result)
