-- Records of one output, read from the front of their line.
use Rattle.std.specs.Prelude.{◌≡◌, ◌<◌, ◌^◌, ℕ, List, [], ◌∷◌, ◌++◌, Option, Some, None, decimal}
use Rattle.std.specs.Str.{IsUtf8}
use Rattle.model.specs.declared.act.Act.{Act}
use Rattle.log_text.specs.declared.done.Done.{Done}
use Rattle.log_text.specs.Kept.{Saying, Table, IsTableOf}
use Rattle.log_text.specs.Line.{field_and_tab, fields_text, AreTexts}
use Rattle.log_text.specs.BuildRecord.{act_fields, done_fields}

-- the line is of a record of this kind with one output, which stands behind that with all else, up to the dot
abbrev pub IsHead : ℕ → List ℕ → List ℕ → Type 0
IsHead kind named line = line ≡ (kind ∷ 9 ∷ 49 ∷ 9 ∷ named) ++ 46 ∷ []

-- the line is of a record of this kind with two outputs, which stand behind that with all else, up to the dot
abbrev pub IsPairHead : ℕ → List ℕ → List ℕ → Type 0
IsPairHead kind named line = line ≡ (kind ∷ 9 ∷ 50 ∷ 9 ∷ named) ++ 46 ∷ []

-- the field of the text stands in front of the bytes, and the rest behind it
abbrev pub IsTextIn : List ℕ → List ℕ → List ℕ → Type 0
IsTextIn bytes text rest = (bytes ≡ field_and_tab text ++ rest) × IsUtf8 text

-- the bytes are the fields of this act
abbrev pub IsActIn : List ℕ → Act → Type 0
IsActIn bytes act = (bytes ≡ fields_text (act_fields act)) × AreTexts (act_fields act)

-- the bytes are the fields of what is told of a command that finished well
abbrev pub IsDoneIn : List ℕ → Done → Type 0
IsDoneIn bytes done = (bytes ≡ fields_text (done_fields done)) × AreTexts (done_fields done) × (done.start < 2 ^ 64)

-- a record of this kind, with these bytes behind its output, says this
abbrev pub IsSaidBehind : ℕ → List ℕ → Option Done → Type 0
IsSaidBehind kind bytes None = (kind ≡ 98) × (bytes ≡ [])
IsSaidBehind kind bytes (Some done) = (kind ≡ 100) × IsDoneIn bytes done

-- what is kept stands for some records, if it did before
abbrev pub StaysTable : Table Done → Table Done → Type 0
StaysTable old new = (all : List (Saying Done)) → IsTableOf all old → (more : List (Saying Done)) × IsTableOf more new
