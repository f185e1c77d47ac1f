use Rattle.std.proofs.Common.{◌++◌, List, ℕ, ap, ◌∙◌}
use Rattle.log_text.proofs.Notes.{field_in_front}
use Rattle.log_text.proofs.texts.behind_text.Goals as goal

pub returns-clause-found : goal.returns-clause-found
returns-clause-found c =
    c.in_ok-rest.ensures
    ∙ (ap (λ (l : List ℕ). l ++ c.in_ok-rest.rest.now) c.as_bytes.ensures.value
    ∙ (ap (λ (l : List ℕ). c.args.text.now ++ l) c.in_ok-after.ensures
    ∙ field_in_front c.args.text.now c.in_ok-after.after.now c.requires))
