use Rattle.std.proofs.Common.{◌∙◌, Option, OnOk, ap, subst, sym, vec_len}
use Rattle.graph.specs.declared.cone.Cone.{Cone}
use Rattle.plan.specs.Staying.{GoesOnAfter}
use Rattle.work.specs.Joined.{cone_then}
use Rattle.work.proofs.loads.extend_plan.Goals as goal

pub extend_by-requires-clause-marks : goal.extend_by-requires-clause-marks
extend_by-requires-clause-marks c = ap (λ (o : Option Cone). vec_len (cone_then c.args.kept.now o).marks) (sym c.in-Some.is) ∙ c.requires.marks

pub extend_inside-requires-clause-marks : goal.extend_inside-requires-clause-marks
extend_inside-requires-clause-marks c = ap (λ (o : Option Cone). vec_len (cone_then c.args.kept.now o).marks) (sym c.in-None.is) ∙ c.requires.marks

pub returns-in-Some-clause-planned : goal.returns-in-Some-clause-planned
returns-in-Some-clause-planned c =
    subst (λ (o : Option Cone). OnOk c.extend_by.result (GoesOnAfter c.args.graph.now (cone_then c.args.kept.now o) c.args.plan.now c.extend_by.new.self c.args.before.now)) (sym c.in-Some.is) c.extend_by.ensures.planned

pub returns-in-None-clause-planned : goal.returns-in-None-clause-planned
returns-in-None-clause-planned c =
    subst (λ (o : Option Cone). OnOk c.extend_inside.result (GoesOnAfter c.args.graph.now (cone_then c.args.kept.now o) c.args.plan.now c.extend_inside.new.self c.args.before.now)) (sym c.in-None.is) c.extend_inside.ensures.planned
