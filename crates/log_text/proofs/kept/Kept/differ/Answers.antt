use Rattle.std.proofs.Common.{◌∙◌, sym}
use Rattle.log_text.proofs.Notes.{same_some}
use Rattle.log_text.proofs.Parts.{not_text}
use Rattle.log_text.proofs.kept.Kept.differ.Goals as goal

pub returns : goal.returns
returns g c = λ yes a b first second same.
    not_text c.in-Some.one.now c.in-Some-text.other.now (sym yes ∙ c.ne.ensures)
    (same_some c.in-Some.one.now a (c.in-Some.ensures ∙ first) ∙ (same ∙ sym (same_some c.in-Some-text.other.now b (c.in-Some-text.ensures ∙ second))))
