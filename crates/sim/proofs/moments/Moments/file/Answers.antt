use Rattle.std.proofs.Common.{◌∙◌, ap, List}
use Rattle.std.specs.HashMap.{get_by_text}
use Rattle.model.specs.declared.event.Moment.{Moment}
use Rattle.model.specs.World.{file_at}
use Rattle.sim.specs.Notes.{file_in}
use Rattle.sim.proofs.Undoing.{file_told}
use Rattle.sim.proofs.moments.Moments.file.Goals as goal

pub returns-in-Some : goal.returns-in-Some
returns-in-Some c =
    c.file_in.ensures ∙ ap file_in c.in-Some.ensures.value ∙ file_told c.args.path.now c.self.inside.notes.items (get_by_text c.self.inside.lasts) (c.self.invariant c.args.path.now)
    ∙ ap (λ (h : List Moment). file_at h c.args.path.now) c.self.view_is

pub returns-in-None : goal.returns-in-None
returns-in-None c =
    ap file_in c.in-None.ensures.value ∙ file_told c.args.path.now c.self.inside.notes.items (get_by_text c.self.inside.lasts) (c.self.invariant c.args.path.now)
    ∙ ap (λ (h : List Moment). file_at h c.args.path.now) c.self.view_is
