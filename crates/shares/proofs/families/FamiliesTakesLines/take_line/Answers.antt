use Rattle.std.proofs.Common.{sym, ap, ◌∙◌}
use Rattle.shares.specs.declared.families.Families.{Families}
use Rattle.shares.specs.Families.{after, nothing_yet}
use Rattle.shares.proofs.Behind.{after_more}
use Rattle.shares.proofs.families.FamiliesTakesLines.take_line.Goals as goal

pub returns : goal.returns
returns c = λ lines is.
    c.in_ok-take.ensures.after
    ∙ (ap (λ (families : Families). after families c.args.line.now) is ∙ sym (after_more nothing_yet lines c.args.line.now))
