use Rattle.std.proofs.Common.{◌≡◌, ◌++◌, List, length}
use denote.Text.{Utf8}
use denote.Shadow.{shadow}
use Rattle.log_text.specs.declared.form.Version.TheVariants.{Two}
use Rattle.log_text.specs.Form.{HaveLines, lines_text}
use Rattle.seen_log.specs.declared.note.Note.{Note}
use Rattle.seen_log.specs.Keeping.{Keeps}
use Rattle.seen_log.specs.Record.{forms}
use Rattle.seen_log.proofs.log.Log.take_lines.Given as goal

-- the records of the lines in front were put, and rest is left
abbrev pub invariant-lines : goal.invariant-lines
invariant-lines l = record {
  utf8 : shadow (Utf8 l.rest);
  kept : (records : List Note) × (l.lines ≡ lines_text (forms Two) records ++ l.rest) × HaveLines (forms Two) records × Keeps records l.self;
}

abbrev pub decreases-lines : goal.decreases-lines
decreases-lines l = length l.rest
