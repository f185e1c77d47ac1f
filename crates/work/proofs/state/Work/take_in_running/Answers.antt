use Rattle.std.proofs.Common.{false, inl, refl, sym, ◌∙◌, subst}
use Rattle.model.specs.SingleBuild.{task_of}
use Rattle.theory.proofs.SiteCalls.{unrefused_none, unrefused_call, unrefused_then}
use Rattle.graph.specs.declared.graph.Graph.{Graph}
use Rattle.work.specs.Going.{IsGoing, WaitsOn, WaitsCut}
use Rattle.work.proofs.Cutting.{starts_then}
use Rattle.work.proofs.Onward.{may_finish, none_runs}
use Rattle.work.proofs.Results.{on_err}
use Rattle.work.proofs.After.{after_then, after_same, some_after}
use Rattle.work.proofs.Seeing.{saw_none}
use Rattle.work.proofs.state.Work.take_in_running.Goals as goal

pub run-init : goal.run-init
run-init g c =
    let now = g.S.Texts.world c.args.site.now in
    record {
      unrefused = unrefused_none now c.requires.running;
      starts = inl refl;
      grows = after_same g.S.Texts.tells now;
      graph = refl;
      looked = λ same. saw_none g.S.Texts.tells c.args.self.now.graph now c.args.self.now.looks;
      on = λ course suits ends on. on;
    }

pub run-preserved : goal.run-preserved
run-preserved g c = record {
  unrefused = unrefused_then (g.S.Texts.world c.args.site.now) (g.S.Texts.world c.run.site) (g.S.Texts.world c.take_in.new.site) c.run.invariant.unrefused
      (unrefused_call (g.S.Texts.world c.run.site) (g.S.Texts.world c.take_in.new.site) _ c.in_ok-take_in.ensures.cuts.cause);
  starts = starts_then (g.S.Texts.world c.args.site.now) (g.S.Texts.world c.run.site) (g.S.Texts.world c.take_in.new.site) c.run.invariant.unrefused c.run.invariant.starts c.in_ok-take_in.ensures.cuts.starts;
  grows = after_then g.S.Texts.tells (g.S.Texts.world c.args.site.now) (g.S.Texts.world c.run.site) (g.S.Texts.world c.take_in.new.site) c.run.invariant.grows c.take_in.ensures.grows;
  graph = c.take_in.ensures.graph ∙ c.run.invariant.graph;
  looked = λ same. absurd (some_after g.S.Texts.tells (g.S.Texts.world c.args.site.now) (g.S.Texts.world c.run.site) (g.S.Texts.world c.take_in.new.site) c.run.invariant.grows c.in_ok-take_in.ensures.some c.take_in.ensures.grows same);
  on = λ course suits ends was.
      subst (λ (graph : Graph). WaitsOn g.S.Texts.tells g.S.Texts.world c.run.site c.take_in.new.site graph c.run.self c.take_in.new.self) c.run.invariant.graph
      c.in_ok-take_in.ensures.on false (may_finish c.run.self.plan c.running.result c.running.ensures.steps c.run-test.true) course suits ends (c.run.invariant.on course suits ends was);
}

pub take_in-requires-clause-going : goal.take_in-requires-clause-going
take_in-requires-clause-going g c =
    let going = c.requires.going in
    record {
      goes = false;
      may = may_finish c.run.self.plan c.running.result c.running.ensures.steps c.run-test.true;
      going = subst (λ (graph : Graph). IsGoing g.S.Texts.tells false graph c.run.self (g.S.Texts.world c.run.site)) (sym {A = Graph} c.run.invariant.graph)
          (record { course = going.course; suits = going.suits; is = going.is; on = c.run.invariant.on going.course going.suits going.is going.on });
    }

pub returns-in_err-take_in-clause-cut : goal.returns-in_err-take_in-clause-cut
returns-in_err-take_in-clause-cut g c = on_err c.from_residual.result (λ course suits ends was.
    subst (λ (graph : Graph). WaitsCut g.S.Texts.tells g.S.Texts.world c.run.site c.take_in.new.site graph c.run.self c.take_in.new.self) c.run.invariant.graph
    c.in_err-take_in.ensures.cut false (may_finish c.run.self.plan c.running.result c.running.ensures.steps c.run-test.true) course suits ends (c.run.invariant.on course suits ends was))

pub returns-in_err-take_in-clause-graph : goal.returns-in_err-take_in-clause-graph
returns-in_err-take_in-clause-graph g c = c.take_in.ensures.graph ∙ c.run.invariant.graph

pub returns-clause-finished : goal.returns-clause-finished
returns-clause-finished g c course suits ends was =
    let on = c.run.invariant.on course suits ends was in
    record { on = on; none = none_runs on.steps c.running.result (c.running.ensures.steps (task_of course.asked course.store) c.args.self.now.graph on.steps on.planned on.taken) c.run-test.false }

pub returns-in_err-take_in-clause-grows : goal.returns-in_err-take_in-clause-grows
returns-in_err-take_in-clause-grows g c = after_then g.S.Texts.tells (g.S.Texts.world c.args.site.now) (g.S.Texts.world c.run.site) (g.S.Texts.world c.take_in.new.site) c.run.invariant.grows c.take_in.ensures.grows
