use Rattle.std.proofs.Common.{◌∙◌, Bool, ap, sym}
use Rattle.std.proofs.Math.ListN.{set}
use Rattle.plan.proofs.stay.set_flag.Goals as goal

pub returns-then-flag : goal.returns-then-flag
returns-then-flag c = c.insert.ensures ∙ ap (λ (b : Bool). set c.args.set.now c.args.number b) (sym c.if-flag.true)

pub returns : goal.returns
returns c = c.remove.ensures ∙ ap (λ (b : Bool). set c.args.set.now c.args.number b) (sym c.if-flag.false)
