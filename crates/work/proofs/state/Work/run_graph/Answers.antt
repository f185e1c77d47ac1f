use Rattle.std.proofs.Common.{Err, sym, subst}
use Rattle.model.specs.SingleBuild as answer
use Rattle.graph.specs.declared.graph.Graph.{Graph}
use Rattle.work.specs.Standing.{HasEndedSo}
use Rattle.graph.specs.Told.{declared_by}
use Rattle.work.proofs.GivingUp.{refused_some}
use Rattle.work.proofs.Faults.{passes_well, passes_stop, seen_stop}
use Rattle.work.proofs.state.Work.run_graph.Goals as goal

pub finished-requires-clause-refused : goal.finished-requires-clause-refused
finished-requires-clause-refused g c =
    let begins = c.requires.begins in
    refused_some g.S.Texts.tells begins.0 (declared_by c.run_and_load.new.self.graph).edges c.run_and_load.new.self.graph c.run_and_load.new.self (g.S.Texts.world c.run_and_load.new.site) c.in-Err.stop
    (c.in-Err.ensures.halted begins.0 begins.1 begins.2 begins.3)

pub finished-requires-clause-stop : goal.finished-requires-clause-stop
finished-requires-clause-stop g c = (g.S.Texts.world c.args.site.now, c.in-Err.ensures.stop)

pub returns-in-Err-clause-ended : goal.returns-in-Err-clause-ended
returns-in-Err-clause-ended g c course edges phases begins =
    subst (λ (of : Graph). HasEndedSo g.S.Texts.tells course (declared_by of).edges of c.finished.new.self.cone (g.S.Texts.world c.finished.new.site) (Err c.finished.result)) (sym {A = Graph} c.finished.ensures.graph)
    (c.finished.ensures.ended course (declared_by c.run_and_load.new.self.graph).edges c.finished.new.self.cone (c.in-Err.ensures.halted course edges phases begins))

pub returns-in-Err-clause-seen : goal.returns-in-Err-clause-seen
returns-in-Err-clause-seen g c =
    seen_stop (g.S.Texts.world c.args.site.now) (g.S.Texts.world c.finished.new.site) c.finished.result (c.finished.ensures.stop (g.S.Texts.world c.args.site.now) c.in-Err.ensures.stop)

pub returns-in-Err-clause-faults : goal.returns-in-Err-clause-faults
returns-in-Err-clause-faults g c =
    passes_stop (g.S.Texts.world c.args.site.now) (g.S.Texts.world c.finished.new.site) c.finished.result (c.finished.ensures.stop (g.S.Texts.world c.args.site.now) c.in-Err.ensures.stop)

pub returns-in-Ok-clause-ended : goal.returns-in-Ok-clause-ended
returns-in-Ok-clause-ended g c = c.in-Ok.ensures.done

pub returns-in-Ok-clause-faults : goal.returns-in-Ok-clause-faults
returns-in-Ok-clause-faults g c = passes_well (g.S.Texts.world c.args.site.now) (g.S.Texts.world c.run_and_load.new.site) answer.Refused c.in-Ok.ensures.well
