use Rattle.std.proofs.Common.{◌∙◌}
use Rattle.nj_run.proofs.Passing.{idle_passed, looked_passes, passes_looked, unread_looks, explained_looks}
use Rattle.nj_run.proofs.alone.explain_alone.Goals as goal

pub returns-in_err-reading : goal.returns-in_err-reading
returns-in_err-reading g c = unread_looks g.S.Texts.tells c.args.options.now.file (g.S.Texts.world c.args.site.now) (g.S.Texts.world c.read_alone.new.site) _ c.in_err-reading.ensures.unread

pub explain_read-requires-clause-idle : goal.explain_read-requires-clause-idle
explain_read-requires-clause-idle g c =
    let was = c.in_ok-reading.ensures.read in
    rw c.learn.ensures (idle_passed g.S.Texts.tells was.entry _ (passes_looked _ _ _ (looked_passes _ _ _ _ was.was_read.looked was.since)) (idle_passed _ _ _ was.before c.requires))

pub explain_read-requires-clause-running : goal.explain_read-requires-clause-running
explain_read-requires-clause-running g c =
    let was = c.in_ok-reading.ensures.read in rw c.learn.ensures (was.since.stopped ∙ was.was_read.looked.unrefused.goes_on)

pub explain_read-requires-clause-formed : goal.explain_read-requires-clause-formed
explain_read-requires-clause-formed g c = c.in_ok-reading.ensures.read.was_read.formed

pub returns : goal.returns
returns g c =
    explained_looks g.S.Texts.tells c.args.options.now c.args.targets.now (g.S.Texts.world c.args.site.now) (g.S.Texts.world c.read_alone.new.site) (g.S.Texts.world c.explain_read.new.site) c.in_ok-reading.reading c.in_ok-reading.ensures.read
    (rw c.learn.ensures at (c.explain_read.ensures.looks))
