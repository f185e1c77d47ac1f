use Rattle.std.proofs.Common.{Some, sym, ap, ◌∙◌}
use Rattle.std.specs.Option.{option_copied}
use Rattle.log_text.proofs.Lookups.{told_at, told_past}
use Rattle.log_text.proofs.kept.Kept.at.Goals as goal

pub returns-in_err-told : goal.returns-in_err-told
returns-in_err-told g c = λ all is. ap option_copied c.from_residual.ensures ∙ told_past all c.args.self.now c.args.place is (sym c.in_err-told.ensures)

pub returns : goal.returns
returns g c = λ all is. ap (λ (k : _). Some k.1) c.told.view_is ∙ told_at all c.args.self.now c.args.place c.in_ok-told.told.now is (sym c.in_ok-told.ensures)
