use Rattle.std.proofs.Common.{rules, ◌≡◌, ◌∙◌, [], length, sym}
use Rattle.model.specs.Schedule.{done_in}
use Rattle.plan_plain.proofs.Beginning.{stood_first}
use Rattle.plan_plain.proofs.Telling.{planned_now}
use Rattle.plan_plain.proofs.plain.Plan.new.Goals as goal

pub returns-clause-planned : goal.returns-clause-planned
returns-clause-planned c = λ task stated jobs keep cone.
    let rest = c.settle_aliases.ensures.rest in
    let flags : length c.settle_aliases.new.self.changed.items ≡ length c.args.graph.now.manifest.paths = search rules in
    let first = c.in_ok-first_standings.ensures in
    planned_now task c.args.graph.now c.settle_aliases.new.self c.in_ok-first_standings.field-0.items [] stated (rest.jobs ∙ sym jobs, rest.keep ∙ sym keep) record {
      plain = c.requires.plain;
      edges = rest.fits ∙ first.fits;
      flags = flags;
      settled = c.settle_aliases.ensures.none;
    }
    (stood_first task c.args.graph.now c.args.cone.now.order.items c.args.cone.now.marks.items c.in_ok-first_standings.field-0.items stated cone first)
    rest.stands (λ aliases sound. c.settle_aliases.ensures.sound task (done_in []) stated aliases sound)
