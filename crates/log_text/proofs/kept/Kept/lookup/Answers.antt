use Rattle.std.proofs.Common.{sym, ap, ◌∙◌}
use Rattle.std.specs.Option.{option_copied}
use Rattle.log_text.specs.Kept.{tolds}
use Rattle.log_text.proofs.Lookups.{told_place, got}
use Rattle.log_text.proofs.kept.Kept.lookup.Goals as goal

pub returns-in_err-find : goal.returns-in_err-find
returns-in_err-find g c = λ all is. ap option_copied c.from_residual.ensures ∙ (ap (got (tolds all)) (c.in_err-find.ensures.place all is) ∙ sym (told_place all c.args.output.now))

pub returns : goal.returns
returns g c = λ all is. c.at.ensures all is ∙ (ap (got (tolds all)) (c.in_ok-find.ensures.place all is) ∙ sym (told_place all c.args.output.now))
