-- What is read of the logs.
use Rattle.std.proofs.Common.{◌≡◌, inr, ℕ, ◌<◌, ◌^◌, true, List, [], ◌∷◌, ◌++◌, Option, Some, None, refl, ap, arith}
use Rattle.std.proofs.lemmas.Bool.{false≢true}
use Rattle.std.specs.Prelude.{codes, decimal}
use Rattle.std.specs.Str.{IsUtf8}
use Rattle.std.proofs.lemmas.Str.{IsUtf8-from_ascii}
use Rattle.std.proofs.lemmas.Fmt.{IsAscii-decimal}
use Rattle.model.specs.declared.record.DepsRecord.{DepsRecord}
use Rattle.model.specs.declared.record.Record.{Record}
use Rattle.model.specs.World.{View}
use Rattle.model.specs.Graph.{has}
use Rattle.model.specs.Records.{OwnFiles, IsOwnIn, LogFormat, store_in, read_log, build_log_name, deps_log_name}
use Rattle.log_text.specs.declared.form.Version.TheVariants.{Two}
use Rattle.log_text.specs.declared.tail.Tail.TheVariants.{Whole}
use Rattle.log_text.specs.Kept.{AreDistinct}
use Rattle.log_text.specs.Form.{HasLine, HaveLines}
use Rattle.log_text.specs.BuildRecord.{forms as record_forms}
use Rattle.log_text.specs.DepsRecordLine.{forms as deps_forms}
use Rattle.log_text.specs.DepsFormat.{ReadsLogs}
use Rattle.witness.specs.Scanning.{begun, copied, scanned, told, log_text, deps_text, store_of}
use Rattle.witness.proofs.Given.{low, text_of}

number_text : (n : ℕ) → n < 2 ^ 64 → IsUtf8 (decimal n)
number_text n below = IsUtf8-from_ascii (decimal n) (IsAscii-decimal n below)

one_output : (o : List ℕ) → AreDistinct (o ∷ [])
one_output o p twice = none_twice twice.before twice.after twice.splits twice.earlier
  where
    none_twice : (before after : List (List ℕ)) → o ∷ [] ≡ before ++ p ∷ after → has before p ≡ true → ⊥
    none_twice [] after is h = false≢true h
    none_twice (x ∷ []) after is h = cc
    none_twice (x ∷ y ∷ before) after is h = cc

pub begun_line : (o : List ℕ) → low o ≡ true → HasLine (record_forms Two) (begun o)
begun_line o is = record {
  fits = record { room = (omega arith, omega arith); once = one_output o; start = tt };
  texts = (text_of (codes "b") refl, (number_text 1 (omega arith), (text_of o is, tt)));
}

pub copied_line : (start : ℕ) → start < 2 ^ 64 → HasLine (record_forms Two) (copied start)
copied_line start below = record {
  fits = record { room = (omega arith, omega arith); once = one_output (codes "h"); start = below };
  texts = (
    text_of (codes "d") refl,
    (
      number_text 1 (omega arith),
      (text_of (codes "h") refl, (number_text start below, (text_of (codes "cat h g") refl, (text_of [] refl, (text_of [] refl, (text_of [] refl, tt)))))),
    ),
  );
}

pub scanned_line : (start : ℕ) → start < 2 ^ 64 → HasLine (record_forms Two) (scanned start)
scanned_line start below = record {
  fits = record { room = (omega arith, omega arith); once = one_output (codes "b"); start = below };
  texts = (
    text_of (codes "d") refl,
    (
      number_text 1 (omega arith),
      (text_of (codes "b") refl, (number_text start below, (text_of (codes "scan b b.d a") refl, (text_of (codes "b.d") refl, (text_of [] refl, (text_of [] refl, tt)))))),
    ),
  );
}

pub told_line : (start : ℕ) → start < 2 ^ 64 → HasLine (deps_forms Two) (told start)
told_line start below = record {
  fits = record { room = (omega arith, omega arith); once = one_output (codes "b"); start = below; paths = omega arith };
  texts = (
    text_of (codes "r") refl,
    (number_text 1 (omega arith), (text_of (codes "b") refl, (number_text start below, (number_text 1 (omega arith), (text_of (codes "h") refl, tt))))),
  );
}

-- ---- by a format that reads both logs as they are defined

pub log_read : (format : LogFormat) → ReadsLogs format → (rs : List Record) → HaveLines (record_forms Two) rs → read_log format.records (Some (log_text rs)) ≡ rs
log_read format reads rs lines =
    ap (λ (read : Option (List Record)). elim read as (λ _. List Record) [ None ↦ [] | Some records ↦ records ])
    (reads.records (log_text rs) rs Whole (inr (record { lines = refl; fit = lines })))

pub deps_read : (format : LogFormat) → ReadsLogs format → (ds : List DepsRecord) → HaveLines (deps_forms Two) ds → read_log format.deps (Some (deps_text ds)) ≡ ds
deps_read format reads ds lines =
    ap (λ (read : Option (List DepsRecord)). elim read as (λ _. List DepsRecord) [ None ↦ [] | Some records ↦ records ])
    (reads.deps (deps_text ds) ds Whole (inr (record { lines = refl; fit = lines })))

-- what is read of the logs in these files, whatever the program's own files in the working folder are
pub store_is : (format : LogFormat) (all : OwnFiles) → IsOwnIn all [] → (files : View) (rs : List Record) (ds : List DepsRecord)
    → read_log format.records (files build_log_name) ≡ rs → read_log format.deps (files deps_log_name) ≡ ds → store_of rs ds ≡ store_in format all files
store_is format all fits files rs ds records_are deps_are = rw fits.build_log (rw fits.deps_log (rw records_are (rw deps_are refl)))
