-- How the texts of both logs are read.
use Rattle.model.specs.Records.{LogFormat}
use Rattle.log_text.specs.Laws.{Reads}
use Rattle.log_text.specs.BuildRecord.{forms as record_forms}
use Rattle.log_text.specs.DepsRecordLine.{forms as deps_forms}

-- the format reads both logs as their grammars say, and damaged ones not at all
pub record ReadsLogs (format : LogFormat) : Type 0 where
  pub records : Reads record_forms format.records
  pub deps : Reads deps_forms format.deps

-- there is such a format
abbrev pub HasFormat : Type 0
HasFormat = (format : LogFormat) × ReadsLogs format
