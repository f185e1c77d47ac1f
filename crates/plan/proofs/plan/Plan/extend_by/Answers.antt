use Rattle.std.proofs.Common.{List, length, ap, subst, arith}
use Rattle.graph.specs.declared.cone.Mark.{Mark}
use Rattle.plan.specs.declared.step.Standing.{Standing}
use Rattle.plan.specs.Staying.{AreInside}
use Rattle.plan.proofs.Staying.{ok_then, may_of}
use Rattle.plan.proofs.plan.Plan.extend_by.Goals as goal

pub are_inside-requires : goal.are_inside-requires
are_inside-requires c =
    let may = c.requires.may.1 in
    let plan = c.args.self.now in
    let marks = ap (λ (l : List Mark). length l) c.deref.ensures.value in
    let standings = ap (λ (l : List Standing). length l) c.deref-2.ensures.value in
    omega (arith, marks, standings, may.over.over.edges, may.edges, c.requires.marks, plan.standings.ok.0, c.args.cone.now.marks.ok.0)

pub extend_inside-requires-clause-inside : goal.extend_inside-requires-clause-inside
extend_inside-requires-clause-inside c =
    subst (λ (m : List Mark). AreInside m c.args.self.now.standings.items) c.deref.ensures.value
    (subst (AreInside c.deref.result.now) c.deref-2.ensures.value (c.are_inside.ensures c.if-are_inside.true))

pub extend-requires-clause-may : goal.extend-requires-clause-may
extend-requires-clause-may c = may_of c.requires.may.0 c.args.graph.now c.args.self.now c.args.before.now c.requires.may.1

pub returns-clause-planned : goal.returns-clause-planned
returns-clause-planned c = ok_then c.extend.result c.extend.ensures.planned (λ goes before may. goes before)
