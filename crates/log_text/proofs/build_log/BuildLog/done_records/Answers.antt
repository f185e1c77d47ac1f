use Rattle.std.proofs.Common.{sym, subst, map, ◌∙◌}
use Rattle.std.proofs.lemmas.List.{length-map}
use Rattle.log_text.specs.Kept.{IsTableOf, tellings}
use Rattle.log_text.specs.BuildLog.{made_of, saying}
use Rattle.log_text.proofs.build_log.BuildLog.done_records.Goals as goal

pub returns : goal.returns
returns c = λ records keeps.
    let all = map saying records in
    c.tellings.ensures all (subst (IsTableOf all) (sym c.self.view_is) keeps) ∙ sym (length-map (tellings all) (λ t. made_of t.1))
