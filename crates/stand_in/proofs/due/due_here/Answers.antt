use Rattle.theory.proofs.Looks.{looks_then}
use Rattle.stand_in.proofs.Stages.{idle_then}
use Rattle.stand_in.proofs.due.due_here.Goals as goal

pub due_of-requires-clause-idle : goal.due_of-requires-clause-idle
due_of-requires-clause-idle g c = rw c.learn.ensures (idle_then g.S.Texts.tells (g.S.Texts.world c.args.site.now) (g.S.Texts.world c.read_for.new.site) c.read_for.ensures.looks c.requires)

pub due_of-requires-clause-running : goal.due_of-requires-clause-running
due_of-requires-clause-running g c = rw c.learn.ensures c.in_ok-declared.ensures.goes

pub returns : goal.returns
returns g c = looks_then g.S.Texts.tells (g.S.Texts.world c.args.site.now) (g.S.Texts.world c.read_for.new.site) (g.S.Texts.world c.due_of.new.site) c.read_for.ensures.looks (rw c.learn.ensures at c.due_of.ensures)
