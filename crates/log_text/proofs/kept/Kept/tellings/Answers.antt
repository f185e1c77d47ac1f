use Rattle.std.proofs.Common.{◌≡◌, ap, ◌∙◌, length, rules}
use Rattle.log_text.specs.Kept.{tellings}
use Rattle.log_text.proofs.KeptRecords.{told_length}
use Rattle.log_text.proofs.kept.Kept.tellings.Goals as goal

pub returns : goal.returns
returns g c = λ all is.
    let len : c.len.result ≡ length c.self.inside.told.items = search rules in
    len ∙ (ap (λ v. length v.told) c.self.view_is ∙ told_length c.args.self.now.outputs c.args.self.now.told (tellings all) is.told)
