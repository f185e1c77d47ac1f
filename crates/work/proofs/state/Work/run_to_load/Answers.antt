use Rattle.std.proofs.Common.{true, Ok, Err, sym, ◌∙◌, subst}
use Rattle.std.proofs.lemmas.Result.{err_from_is_err_and}
use Rattle.graph.specs.declared.graph.Graph.{Graph}
use Rattle.work.specs.After.{LooksUnlessMore}
use Rattle.work.specs.Going.{IsGoing}
use Rattle.work.specs.Ran.{PausesSo, IsPauseOf}
use Rattle.work.proofs.Pausing.{well_none, going_at, paused_at, cut_from}
use Rattle.work.proofs.Stopping.{source_next}
use Rattle.work.proofs.state.Work.run_to_load.Goals as goal

pub returns-in-Some-clause-pause : goal.returns-in-Some-clause-pause
returns-in-Some-clause-pause g c =
    let begins = c.requires.begins in
    (source_next g.S.Texts.tells begins.0 begins.1 begins.2 c.args.self.now.graph c.args.self.now (g.S.Texts.world c.args.site.now) begins.3 c.in-Some.file c.in-Some.ensures.0 c.in-Some.ensures.1).next.known

pub returns-in-Some-clause-well : goal.returns-in-Some-clause-well
returns-in-Some-clause-well g c = well_none (g.S.Texts.world c.args.site.now) c.requires.running

pub returns-in-Some-clause-paused : goal.returns-in-Some-clause-paused
returns-in-Some-clause-paused g c course edges phases begins =
    source_next g.S.Texts.tells course edges phases c.args.self.now.graph c.args.self.now (g.S.Texts.world c.args.site.now) begins c.in-Some.file c.in-Some.ensures.0 c.in-Some.ensures.1

pub ask_for_sources-requires-clause-begins : goal.ask_for_sources-requires-clause-begins
ask_for_sources-requires-clause-begins g c =
    c.requires.begins

pub returns-in_err-ask_for_sources-in-None-clause-halted : goal.returns-in_err-ask_for_sources-in-None-clause-halted
returns-in_err-ask_for_sources-in-None-clause-halted g c =
    let failed = err_from_is_err_and c.from_residual.result c.from_residual.ensures.1 in
    rw (failed.1, failed.2) (λ course edges phases begins. c.in_err-ask_for_sources-in-None.ensures.halted course edges phases begins)

pub run_plan-requires-clause-going : goal.run_plan-requires-clause-going
run_plan-requires-clause-going g c =
    let begins = c.requires.begins in
    subst (λ (of : Graph). IsGoing g.S.Texts.tells true of c.ask_for_sources.new.self (g.S.Texts.world c.ask_for_sources.new.site)) (sym {A = Graph} c.ask_for_sources.ensures.graph)
    (going_at g.S.Texts.tells begins.0 begins.1 begins.2 c.args.self.now.graph c.ask_for_sources.new.self (g.S.Texts.world c.ask_for_sources.new.site) (c.in_ok-ask_for_sources-in-None.ensures.asked begins.0 begins.1 begins.2 begins.3))

pub returns-in_ok-run_plan-in-None-clause-paused : goal.returns-in_ok-run_plan-in-None-clause-paused
returns-in_ok-run_plan-in-None-clause-paused g c course edges phases begins =
    paused_at g.S.Texts.tells course edges phases c.args.self.now.graph c.ask_for_sources.new.self (g.S.Texts.world c.ask_for_sources.new.site) (c.in_ok-ask_for_sources-in-None.ensures.asked course edges phases begins) c.run_plan.new.self (g.S.Texts.world c.run_plan.new.site) c.run_plan.ensures.grows c.in_ok-run_plan-in-None.field-0
    (subst (λ (of : Graph). LooksUnlessMore g.S.Texts.tells of (g.S.Texts.world c.ask_for_sources.new.site) (g.S.Texts.world c.run_plan.new.site) c.ask_for_sources.new.self.looks c.run_plan.new.self.looks) c.ask_for_sources.ensures.graph c.in_ok-run_plan-in-None.ensures.looked)
    (subst (λ (of : Graph). PausesSo g.S.Texts.tells g.S.Texts.world c.ask_for_sources.new.site c.run_plan.new.site of c.ask_for_sources.new.self c.run_plan.new.self (Ok c.in_ok-run_plan-in-None.field-0)) c.ask_for_sources.ensures.graph c.in_ok-run_plan-in-None.ensures.ran)

-- what it names is of the same graph
pub returns-in_ok-run_plan-in-None-clause-pause : goal.returns-in_ok-run_plan-in-None-clause-pause
returns-in_ok-run_plan-in-None-clause-pause g c = subst (λ (of : Graph). IsPauseOf of c.in_ok-run_plan-in-None.field-0) c.ask_for_sources.ensures.graph c.in_ok-run_plan-in-None.ensures.pause

pub returns-in_ok-run_plan-in-None-clause-graph : goal.returns-in_ok-run_plan-in-None-clause-graph
returns-in_ok-run_plan-in-None-clause-graph g c = c.run_plan.ensures.graph ∙ c.ask_for_sources.ensures.graph

pub returns-in_err-run_plan-in-None-clause-graph : goal.returns-in_err-run_plan-in-None-clause-graph
returns-in_err-run_plan-in-None-clause-graph g c = c.run_plan.ensures.graph ∙ c.ask_for_sources.ensures.graph

pub returns-in_err-run_plan-in-None-clause-halted : goal.returns-in_err-run_plan-in-None-clause-halted
returns-in_err-run_plan-in-None-clause-halted g c =
    let failed = err_from_is_err_and c.from_residual-in_err-run_plan-in-None.result c.from_residual-in_err-run_plan-in-None.ensures.1 in
    rw (failed.1, failed.2) (λ course edges phases begins.
    cut_from g.S.Texts.tells course edges phases c.args.self.now.graph c.ask_for_sources.new.self (g.S.Texts.world c.ask_for_sources.new.site) (c.in_ok-ask_for_sources-in-None.ensures.asked course edges phases begins) c.run_plan.new.self
    (g.S.Texts.world c.run_plan.new.site) c.run_plan.ensures.grows c.in_err-run_plan-in-None.field-0.0 c.in_err-run_plan-in-None.ensures.left
    (subst (λ (of : Graph). PausesSo g.S.Texts.tells g.S.Texts.world c.ask_for_sources.new.site c.run_plan.new.site of c.ask_for_sources.new.self c.run_plan.new.self (Err c.in_err-run_plan-in-None.field-0.0)) c.ask_for_sources.ensures.graph c.in_err-run_plan-in-None.ensures.ran))

pub returns-in-Some-clause-known : goal.returns-in-Some-clause-known
returns-in-Some-clause-known g c = c.requires.known

pub run_plan-requires-clause-known : goal.run_plan-requires-clause-known
run_plan-requires-clause-known g c = c.in_ok-ask_for_sources-in-None.ensures.known

pub returns-in_ok-run_plan-in-None-clause-known : goal.returns-in_ok-run_plan-in-None-clause-known
returns-in_ok-run_plan-in-None-clause-known g c = c.in_ok-run_plan-in-None.ensures.known
