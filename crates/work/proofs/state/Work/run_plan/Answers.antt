use Rattle.model.specs.SingleBuild.{task_of}
use Rattle.work.proofs.Counting.{many_by_steps}
use Rattle.work.proofs.Cutting.{starts_cut, met_by}
use Rattle.work.proofs.Ends.{ran_cut}
use Rattle.work.proofs.After.{after_then}
use Rattle.std.proofs.Common.{sym, subst}
use Rattle.judge.specs.declared.looks.Looks.{Looks}
use Rattle.work.specs.After.{LooksUnlessMore}
use Rattle.work.proofs.StillKept.{same_answers}
use Rattle.work.proofs.state.Work.run_plan.Goals as goal

pub take_in_rest-requires-clause-many : goal.take_in_rest-requires-clause-many
take_in_rest-requires-clause-many g c =
    let going = c.requires.going in
    let cut = c.in-Err.ensures.cut going.course going.suits going.is going.on in
    many_by_steps g.S.Texts.tells going.course.own (task_of going.course.asked going.course.store) cut.steps going.course.entry (g.S.Texts.world c.run.new.site) c.running.result going.suits.idle cut.run
    (c.running.ensures.steps (task_of going.course.asked going.course.store) c.args.self.now.graph cut.steps cut.planned cut.taken)

pub returns-in-Err-clause-ran : goal.returns-in-Err-clause-ran
returns-in-Err-clause-ran g c course suits goes on =
    ran_cut g.S.Texts.tells course c.args.self.now.graph (g.S.Texts.world c.run.new.site) c.run.new.self.plan (g.S.Texts.world c.take_in_rest.new.site) c.take_in_rest.result (c.in-Err.ensures.cut course suits goes on)
    (λ steps met. c.take_in_rest.ensures.rest course steps met)

pub returns-in-Err-clause-starts : goal.returns-in-Err-clause-starts
returns-in-Err-clause-starts g c =
    starts_cut (g.S.Texts.world c.args.site.now) (g.S.Texts.world c.run.new.site) (g.S.Texts.world c.take_in_rest.new.site) c.take_in_rest.result c.in-Err.ensures.cuts.starts c.take_in_rest.ensures.takes_in

pub returns-in-Ok-clause-ran : goal.returns-in-Ok-clause-ran
returns-in-Ok-clause-ran g c course suits goes on =
    (c.paused.ensures.pauses g.S.Texts.tells course c.args.self.now.graph (g.S.Texts.world c.run.new.site) (c.in-Ok.ensures.halts course suits goes on)).0

pub returns-in-Ok-clause-pause : goal.returns-in-Ok-clause-pause
returns-in-Ok-clause-pause g c =
    let going = c.requires.going in
    (c.paused.ensures.pauses g.S.Texts.tells going.course c.args.self.now.graph (g.S.Texts.world c.run.new.site) (c.in-Ok.ensures.halts going.course going.suits going.is going.on)).1

pub returns-in-Err-clause-grows : goal.returns-in-Err-clause-grows
returns-in-Err-clause-grows g c = after_then g.S.Texts.tells (g.S.Texts.world c.args.site.now) (g.S.Texts.world c.run.new.site) (g.S.Texts.world c.take_in_rest.new.site) c.run.ensures.grows c.take_in_rest.ensures.grows

pub returns-in-Ok-clause-looked : goal.returns-in-Ok-clause-looked
returns-in-Ok-clause-looked g c = subst (λ (l : Looks). LooksUnlessMore g.S.Texts.tells c.args.self.now.graph (g.S.Texts.world c.args.site.now) (g.S.Texts.world c.run.new.site) c.args.self.now.looks l) (sym {A = Looks} c.paused.ensures.looks) c.in-Ok.ensures.looked

pub returns-in-Err-clause-seen : goal.returns-in-Err-clause-seen
returns-in-Err-clause-seen g c = c.take_in_rest.ensures.seen (g.S.Texts.world c.args.site.now) (met_by (g.S.Texts.world c.args.site.now) (g.S.Texts.world c.run.new.site) c.in-Err.cut c.in-Err.ensures.cuts.cause)

-- what is told of a pause changes nothing of that
pub returns-in-Ok-clause-known : goal.returns-in-Ok-clause-known
returns-in-Ok-clause-known g c =
    same_answers c.run.new.self c.paused.new.self c.paused.ensures.graph c.paused.ensures.records c.paused.ensures.cone c.paused.ensures.plan c.paused.ensures.looks c.in-Ok.ensures.known
