use Rattle.model.specs.SingleBuild.{task_of}
use Rattle.work.proofs.Counting.{many_by_steps}
use Rattle.work.proofs.Ends.{ran_cut}
use Rattle.work.proofs.rest.give_up.Goals as goal

pub take_in_rest-requires-clause-many : goal.take_in_rest-requires-clause-many
take_in_rest-requires-clause-many g c =
    let course = c.requires.met.0 in
    let cut = c.requires.met.2 in
    many_by_steps g.S.Texts.tells course.own (task_of course.asked course.store) cut.steps course.entry (g.S.Texts.world c.args.site.now) c.running.result cut.cut.beside.idle cut.run
    (c.running.ensures.steps (task_of course.asked course.store) c.requires.met.1 cut.steps cut.planned cut.taken)

pub returns-clause-first : goal.returns-clause-first
returns-clause-first g c = c.take_in_rest.ensures.first

pub returns-clause-ran : goal.returns-clause-ran
returns-clause-ran g c course graph cut =
    ran_cut g.S.Texts.tells course graph (g.S.Texts.world c.args.site.now) c.args.plan.now (g.S.Texts.world c.take_in_rest.new.site) c.take_in_rest.result cut
    (λ steps met. c.take_in_rest.ensures.rest course steps met)
