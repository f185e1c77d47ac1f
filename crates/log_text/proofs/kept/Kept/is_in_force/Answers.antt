use Rattle.std.proofs.Common.{sym, ap, ◌∙◌}
use Rattle.log_text.proofs.Lookups.{left_at, left_past}
use Rattle.log_text.proofs.kept.Kept.is_in_force.Goals as goal

pub returns-in-Some : goal.returns-in-Some
returns-in-Some g c = λ all is.
    let numbers = c.as_slice.ensures ∙ ap (λ v. v.0) c.told.view_is in
    let has = rw numbers at c.has_in_force.ensures in
    has ∙ left_at all c.args.self.now c.args.place c.in-Some.told.now is (sym c.in-Some.ensures)

pub returns-in-None : goal.returns-in-None
returns-in-None g c = λ all is. left_past all c.args.self.now c.args.place is (sym c.in-None.ensures)
