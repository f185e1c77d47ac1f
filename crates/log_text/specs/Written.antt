-- What a compaction writes of one record.
use Rattle.std.specs.Prelude.{◌≡◌, ℕ, List, [], ◌++◌, map, Option, Some, None, slice_get}
use Rattle.model.specs.declared.record.Record.{Record}
use Rattle.log_text.specs.declared.done.Done.{Done}
use Rattle.log_text.specs.declared.form.Version.TheVariants.{Two}
use Rattle.log_text.specs.Form.{lines_text, HaveLines}
use Rattle.log_text.specs.Kept.{Saying, tolds, outputs_left, some_of}
use Rattle.log_text.specs.BuildRecord.{forms}
use Rattle.log_text.specs.BuildLog.{done_record}

-- what the record with this number has in force, if there is one
abbrev pub left_of : List (Saying Done) → ℕ → Option Done → List Record
left_of all n None = []
left_of all n (Some done) = map done_record (some_of (outputs_left all n) done)

abbrev pub written_of : List (Saying Done) → ℕ → List Record
written_of all n = left_of all n (slice_get (tolds all) n)

-- its line was written behind the old text
pub record IsWritten (all : List (Saying Done)) (n : ℕ) (old new : List ℕ) : Type 0 where
  pub text : new ≡ old ++ lines_text (forms Two) (written_of all n)
  pub fit : HaveLines (forms Two) (written_of all n)
