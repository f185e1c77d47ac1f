use Rattle.std.proofs.Common.{◌∙◌, ap, List, [], ◌∷◌, ◌++◌}
use Rattle.std.specs.HashMap.{get_by_text}
use Rattle.model.specs.declared.event.Moment.{Moment}
use Rattle.model.specs.declared.event.Moment.TheVariants.{Wrote}
use Rattle.sim.proofs.Undoing.{told_write, whole_write, whole_same}
use Rattle.sim.proofs.moments.Moments.write.Goals as goal

pub invariant_of-self-in_err-before : goal.invariant_of-self-in_err-before
invariant_of-self-in_err-before c path =
    whole_same path (get_by_text c.self.inside.lasts) (get_by_text c.put.new.lasts) c.self.inside.notes.items c.reserve.new.self.items c.in_ok-reserve.ensures.items c.in_err-before.ensures.err (c.self.invariant path)

pub invariant_of-self-2 : goal.invariant_of-self-2
invariant_of-self-2 c path =
    whole_write path c.args.by c.in_ok-before.before c.args.path (record { content = c.args.content; stamp = c.args.stamp }) (get_by_text c.self.inside.lasts) (get_by_text c.put.new.lasts)
    c.self.inside.notes.items c.reserve.new.self.items c.push_reserved.new.notes.items c.in_ok-before.ensures.ok c.in_ok-reserve.ensures.items c.push_reserved.ensures (c.self.invariant path)

pub returns-clause-ok : goal.returns-clause-ok
returns-clause-ok c =
    told_write c.args.by c.in_ok-before.before c.args.path (record { content = c.args.content; stamp = c.args.stamp }) (get_by_text c.self.inside.lasts) (get_by_text c.put.new.lasts)
    c.self.inside.notes.items c.reserve.new.self.items c.push_reserved.new.notes.items c.in_ok-before.ensures.ok c.in_ok-reserve.ensures.items c.push_reserved.ensures
    ∙ ap (λ (h : List Moment). h ++ Wrote c.args.by c.args.path c.args.content c.args.stamp ∷ []) c.self.view_is
