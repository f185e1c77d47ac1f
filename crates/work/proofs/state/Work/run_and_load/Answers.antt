use Rattle.std.proofs.Common.{[], ◌∷◌, ◌++◌, sym, subst}
use Rattle.graph.specs.declared.graph.Graph.{Graph}
use Rattle.graph.specs.Told.{declared_by}
use Rattle.work.specs.declared.summary.Pause.{Pause}
use Rattle.work.specs.Ran.{AreEdgesOf, IsPauseOf}
use Rattle.work.specs.Standing.{IsAtNextLoad, HasDone, HasHalted, HasFewerFiles}
use Rattle.std.proofs.lemmas.Result.{err_from_is_err_and}
use Rattle.work.proofs.Faults.{well_then}
use Rattle.work.proofs.Pausing.{well_none}
use Rattle.work.proofs.Rounds.{done_there, load_next, halted_there}
use Rattle.work.proofs.state.Work.run_and_load.Goals as goal

pub run-init : goal.run-init
run-init g c = record {
  known = c.requires.known;
  well = well_none (g.S.Texts.world c.args.site.now) c.requires.running;
  begins = λ course edges phases begins. (edges, phases, begins);
}

pub run_to_load-requires-clause-begins : goal.run_to_load-requires-clause-begins
run_to_load-requires-clause-begins g c =
    let begins = c.requires.begins in
    let at = c.run.invariant.begins begins.0 begins.1 begins.2 begins.3 in
    (begins.0, at.0, at.1, at.2)

pub returns-in_err-summary-clause-halted : goal.returns-in_err-summary-clause-halted
returns-in_err-summary-clause-halted g c =
    let failed = err_from_is_err_and c.from_residual.result c.from_residual.ensures.1 in
    rw (failed.1, failed.2) (λ course edges phases begins.
    let at = c.run.invariant.begins course edges phases begins in
    subst (λ (of : Graph). HasHalted g.S.Texts.tells course (declared_by of).edges of c.run_to_load.new.self (g.S.Texts.world c.run_to_load.new.site) c.in_err-summary.field-0.0) (sym {A = Graph} c.run_to_load.ensures.graph)
    (halted_there g.S.Texts.tells course at.0 at.1 c.run.self.graph c.run.self (g.S.Texts.world c.run.site) at.2 c.run_to_load.new.self (g.S.Texts.world c.run_to_load.new.site) c.in_err-summary.field-0.0
    (c.in_err-summary.ensures.halted course at.0 at.1 at.2)))

pub returns-in-Ended-clause-done : goal.returns-in-Ended-clause-done
returns-in-Ended-clause-done g c course edges phases begins =
    let at = c.run.invariant.begins course edges phases begins in
    subst (λ (of : Graph). HasDone g.S.Texts.tells course (declared_by of).edges of c.run_to_load.new.self.cone (g.S.Texts.world c.run_to_load.new.site) c.in-Ended.summary) (sym {A = Graph} c.run_to_load.ensures.graph)
    (done_there g.S.Texts.tells course at.0 at.1 c.run.self.graph c.run.self (g.S.Texts.world c.run.site) at.2 c.run_to_load.new.self (g.S.Texts.world c.run_to_load.new.site) c.in_ok-summary.field-0 c.in-Ended.summary c.in-Ended.is
    (c.in_ok-summary.ensures.paused course at.0 at.1 at.2))

-- the edges that it names are those of the graph
pub returns-in-Ended-clause-edges : goal.returns-in-Ended-clause-edges
returns-in-Ended-clause-edges g c =
    subst (λ (of : Graph). AreEdgesOf of c.in-Ended.summary) (sym {A = Graph} c.run_to_load.ensures.graph) (subst (λ (pause : Pause). IsPauseOf c.run.self.graph pause) c.in-Ended.is c.in_ok-summary.ensures.pause)

pub load_file-requires-clause-at : goal.load_file-requires-clause-at
load_file-requires-clause-at g c =
    let begins = c.requires.begins in
    let at = c.run.invariant.begins begins.0 begins.1 begins.2 begins.3 in (
      begins.0,
      at.0,
      at.1,
      subst (λ (of : Graph). IsAtNextLoad g.S.Texts.tells begins.0 at.0 at.1 of c.run_to_load.new.self c.in-Load.file (g.S.Texts.world c.run_to_load.new.site)) (sym {A = Graph} c.run_to_load.ensures.graph)
          (load_next g.S.Texts.tells begins.0 at.0 at.1 c.run.self.graph c.run.self (g.S.Texts.world c.run.site) at.2 c.run_to_load.new.self (g.S.Texts.world c.run_to_load.new.site) c.in_ok-summary.field-0 c.in-Load.file c.in-Load.is
          (c.in_ok-summary.ensures.paused begins.0 at.0 at.1 at.2)),
    )

pub run-preserved : goal.run-preserved
run-preserved g c = record {
  known = c.in_ok-load_file-in-Load.ensures.known;
  well = well_then (g.S.Texts.world c.args.site.now) (g.S.Texts.world c.run_to_load.new.site) (g.S.Texts.world c.load_file.new.site)
      (well_then (g.S.Texts.world c.args.site.now) (g.S.Texts.world c.run.site) (g.S.Texts.world c.run_to_load.new.site) c.run.invariant.well c.in_ok-summary.ensures.well) c.in_ok-load_file-in-Load.ensures.well;
  begins = λ course edges phases begins.
      let at = c.run.invariant.begins course edges phases begins in
      let next =
      c.in_ok-load_file-in-Load.ensures.begun course at.0 at.1
      (subst (λ (of : Graph). IsAtNextLoad g.S.Texts.tells course at.0 at.1 of c.run_to_load.new.self c.in-Load.file (g.S.Texts.world c.run_to_load.new.site)) (sym {A = Graph} c.run_to_load.ensures.graph)
      (load_next g.S.Texts.tells course at.0 at.1 c.run.self.graph c.run.self (g.S.Texts.world c.run.site) at.2 c.run_to_load.new.self (g.S.Texts.world c.run_to_load.new.site) c.in_ok-summary.field-0 c.in-Load.file c.in-Load.is
      (c.in_ok-summary.ensures.paused course at.0 at.1 at.2))) in
      (next.0, at.1 ++ next.1 ∷ [], next.2);
}

pub returns-in_err-load_file-in-Load-clause-halted : goal.returns-in_err-load_file-in-Load-clause-halted
returns-in_err-load_file-in-Load-clause-halted g c =
    let failed = err_from_is_err_and c.from_residual-in_err-load_file-in-Load.result c.from_residual-in_err-load_file-in-Load.ensures.1 in
    rw (failed.1, failed.2) (λ course edges phases begins.
    let at = c.run.invariant.begins course edges phases begins in
    c.in_err-load_file-in-Load.ensures.halted course at.0 at.1
    (subst (λ (of : Graph). IsAtNextLoad g.S.Texts.tells course at.0 at.1 of c.run_to_load.new.self c.in-Load.file (g.S.Texts.world c.run_to_load.new.site)) (sym {A = Graph} c.run_to_load.ensures.graph)
    (load_next g.S.Texts.tells course at.0 at.1 c.run.self.graph c.run.self (g.S.Texts.world c.run.site) at.2 c.run_to_load.new.self (g.S.Texts.world c.run_to_load.new.site) c.in_ok-summary.field-0 c.in-Load.file c.in-Load.is
    (c.in_ok-summary.ensures.paused course at.0 at.1 at.2))))

pub run-smaller : goal.run-smaller
run-smaller g c = subst (λ (of : Graph). HasFewerFiles of c.load_file.new.self.graph) c.run_to_load.ensures.graph c.in_ok-load_file-in-Load.ensures.fewer

pub run_to_load-requires-clause-known : goal.run_to_load-requires-clause-known
run_to_load-requires-clause-known g c = c.run.invariant.known

pub load_file-requires-clause-known : goal.load_file-requires-clause-known
load_file-requires-clause-known g c = c.in_ok-summary.ensures.known
