use Rattle.std.proofs.Common.{length, ap, sym, ◌∙◌}
use Rattle.std.proofs.lemmas.Bool.{false≢true}
use Rattle.records.proofs.States.{no_empty_log, ends_whole}
use Rattle.records.proofs.file.state_of.Goals.{then-is_empty, else-is_empty, then-is_other, else-is_other}
use Rattle.records.proofs.file.state_of.Goals as goal

pub returns-then-wants_compaction : goal.returns-then-wants_compaction
returns-then-wants_compaction g c text empty rs read keeps = (
  (λ bad. absurd (cc)),
  (λ both. elim c.if-is_other.branch [
    | then-is_other w ↦ elim c.if-is_empty.branch [
      | then-is_empty v ↦ absurd (no_empty_log g.L.Records.forms text rs both.0 (ap length (empty.0 v.if-is_empty.true)))
      | else-is_empty v ↦ absurd (false≢true (sym (v.is_other.ensures.1 (ends_whole g.L.Records.forms c.one_reading.ensures text rs c.args.tail read both.0)) ∙ (sym v.value-is ∙ w.if-is_other.true)))
    ]
    | else-is_other w ↦ absurd (both.1 ((w.wants_compaction.ensures rs keeps).0 (sym w.value-is ∙ c.if-wants_compaction.true)))
  ]),
)
