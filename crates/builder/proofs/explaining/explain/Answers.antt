use Rattle.theory.proofs.Looks.{looks_then}
use Rattle.builder.proofs.Builds.{idle_after}
use Rattle.builder.proofs.explaining.explain.Goals as goal

-- reading only looked
pub explain_read-requires-clause-idle : goal.explain_read-requires-clause-idle
explain_read-requires-clause-idle g c = idle_after g.S.Texts.tells (g.S.Texts.world c.args.site.now) (g.S.Texts.world c.read.new.site) c.in-Ok.ensures.read.looked.looks c.requires

pub explain_read-requires-clause-running : goal.explain_read-requires-clause-running
explain_read-requires-clause-running g c = c.in-Ok.ensures.read.looked.unrefused.goes_on

pub explain_read-requires-clause-formed : goal.explain_read-requires-clause-formed
explain_read-requires-clause-formed g c = c.in-Ok.ensures.read.formed

pub returns-in-Ok : goal.returns-in-Ok
returns-in-Ok g c =
    looks_then g.S.Texts.tells (g.S.Texts.world c.args.site.now) (g.S.Texts.world c.read.new.site) (g.S.Texts.world c.explain_read.new.site) c.in-Ok.ensures.read.looked.looks c.explain_read.ensures.looks

pub returns-in-Err : goal.returns-in-Err
returns-in-Err g c = c.in-Err.ensures.unread.looks
