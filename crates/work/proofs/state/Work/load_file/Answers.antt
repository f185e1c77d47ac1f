use Rattle.std.proofs.Common.{refl}
use Rattle.graph.specs.Told.{declared_by}
use Rattle.work.proofs.Faults.{well_looks}
use Rattle.work.proofs.LoadEnds.{stop_met}
use Rattle.work.proofs.state.Work.load_file.Goals as goal

pub load-requires-clause-at : goal.load-requires-clause-at
load-requires-clause-at g c = let at = c.requires.at in (at.0, at.1, at.2, at.3.stands, at.3.next)

pub returns-in-Ok-clause-well : goal.returns-in-Ok-clause-well
returns-in-Ok-clause-well g c = well_looks g.S.Texts.tells (g.S.Texts.world c.args.site.now) (g.S.Texts.world c.load.new.site) c.load.ensures.looks c.in-Ok.ensures.well

pub returns-in-Ok-clause-begun : goal.returns-in-Ok-clause-begun
returns-in-Ok-clause-begun g c = c.in-Ok.ensures.begun

pub given_up-requires-clause-met : goal.given_up-requires-clause-met
given_up-requires-clause-met g c =
    let at = c.requires.at in
    stop_met g.S.Texts.tells at.0 (declared_by c.load.new.self.graph).edges c.load.new.self.graph c.load.new.self (g.S.Texts.world c.load.new.site) c.in-Err.stop (c.in-Err.ensures.halted at.0 at.1 at.2 at.3)

pub given_up-requires-clause-stop : goal.given_up-requires-clause-stop
given_up-requires-clause-stop g c = (g.S.Texts.world c.args.site.now, c.in-Err.ensures.stop)

pub returns-in-Err-clause-stop : goal.returns-in-Err-clause-stop
returns-in-Err-clause-stop g c = c.given_up.ensures.stop (g.S.Texts.world c.args.site.now) c.in-Err.ensures.stop

pub returns-in-Err-clause-halted : goal.returns-in-Err-clause-halted
returns-in-Err-clause-halted g c course edges phases at =
    c.given_up.ensures.halted course (declared_by c.load.new.self.graph).edges c.load.new.self.graph c.load.new.self refl (c.in-Err.ensures.halted course edges phases at)

pub returns-in-Ok-clause-known : goal.returns-in-Ok-clause-known
returns-in-Ok-clause-known g c = c.in-Ok.ensures.known
