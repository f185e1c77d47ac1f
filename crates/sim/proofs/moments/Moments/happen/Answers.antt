use Rattle.std.proofs.Common.{◌∙◌, ap, List, [], ◌∷◌, ◌++◌}
use Rattle.std.specs.HashMap.{get_by_text}
use Rattle.model.specs.declared.event.Moment.{Moment}
use Rattle.model.specs.declared.event.Moment.TheVariants.{Happened}
use Rattle.sim.proofs.Undoing.{told_event, whole_event}
use Rattle.sim.proofs.moments.Moments.happen.Goals as goal

pub invariant_of-self-2 : goal.invariant_of-self-2
invariant_of-self-2 c path =
    whole_event path c.args.event (get_by_text c.self.inside.lasts) c.self.inside.notes.items c.reserve.new.self.items c.push_reserved.new.notes.items c.in_ok-reserve.ensures.items c.push_reserved.ensures (c.self.invariant path)

pub returns-clause-ok : goal.returns-clause-ok
returns-clause-ok c =
    told_event c.args.event (get_by_text c.self.inside.lasts) c.self.inside.notes.items c.reserve.new.self.items c.push_reserved.new.notes.items c.in_ok-reserve.ensures.items c.push_reserved.ensures
    ∙ ap (λ (h : List Moment). h ++ Happened c.args.event ∷ []) c.self.view_is
