use Rattle.std.proofs.Common.{◌∙◌, ◌-◌, ap, List, take, length}
use Rattle.std.specs.HashMap.{get_by_text}
use Rattle.model.specs.declared.event.Moment.{Moment}
use Rattle.sim.proofs.Undoing.{told_less, whole_less, undone_at, untouched}
use Rattle.sim.proofs.moments.Moments.take_back.Goals as goal

pub invariant_of-self-in-Change : goal.invariant_of-self-in-Change
invariant_of-self-in-Change c path =
    whole_less path c.in-Some.note (get_by_text c.self.inside.lasts) (get_by_text c.take_back.new.lasts) c.self.inside.notes.items c.pop.new.self.items c.in-Some.ensures.items
    (λ p. undone_at p c.in-Some.note c.in-Change.by c.in-Change.path _ c.in-Change.before (get_by_text c.self.inside.lasts) (get_by_text c.take_back.new.lasts) c.in-Change.is c.as_str.ensures (c.take_back.ensures p))
    (c.self.invariant path)

pub returns-in-Change : goal.returns-in-Change
returns-in-Change c =
    told_less c.in-Some.note (get_by_text c.self.inside.lasts) (get_by_text c.take_back.new.lasts) c.self.inside.notes.items c.pop.new.self.items c.in-Some.ensures.items
    (λ p. undone_at p c.in-Some.note c.in-Change.by c.in-Change.path _ c.in-Change.before (get_by_text c.self.inside.lasts) (get_by_text c.take_back.new.lasts) c.in-Change.is c.as_str.ensures (c.take_back.ensures p))
    ∙ ap (λ (h : List Moment). take (length h - 1) h) c.self.view_is

pub invariant_of-self-in_default-note : goal.invariant_of-self-in_default-note
invariant_of-self-in_default-note c path =
    whole_less path c.in-Some.note (get_by_text c.self.inside.lasts) (get_by_text c.self.inside.lasts) c.self.inside.notes.items c.pop.new.self.items c.in-Some.ensures.items
    (λ p. untouched p c.in-Some.note c.in_default-note.field-0 (get_by_text c.self.inside.lasts) c.in_default-note.is)
    (c.self.invariant path)

pub returns : goal.returns
returns c =
    told_less c.in-Some.note (get_by_text c.self.inside.lasts) (get_by_text c.self.inside.lasts) c.self.inside.notes.items c.pop.new.self.items c.in-Some.ensures.items
    (λ p. untouched p c.in-Some.note c.in_default-note.field-0 (get_by_text c.self.inside.lasts) c.in_default-note.is)
    ∙ ap (λ (h : List Moment). take (length h - 1) h) c.self.view_is
