use Rattle.theory.proofs.Looks.{looks_then}
use Rattle.stand_in.proofs.Stages.{idle_then}
use Rattle.stand_in.proofs.due.due_of.Goals as goal

pub returns-in_err-would_run : goal.returns-in_err-would_run
returns-in_err-would_run g c = c.in_err-would_run.ensures.0

pub due_beside-requires-clause-idle : goal.due_beside-requires-clause-idle
due_beside-requires-clause-idle g c = idle_then g.S.Texts.tells (g.S.Texts.world c.args.site.now) (g.S.Texts.world c.would_run.new.site) c.in_ok-would_run.ensures.0 c.requires.idle

pub due_beside-requires-clause-running : goal.due_beside-requires-clause-running
due_beside-requires-clause-running g c = (c.in_ok-would_run.ensures.1 c.requires.running).0

pub returns-then-branch : goal.returns-then-branch
returns-then-branch g c = looks_then g.S.Texts.tells (g.S.Texts.world c.args.site.now) (g.S.Texts.world c.would_run.new.site) (g.S.Texts.world c.due_beside.new.site) c.in_ok-would_run.ensures.0 c.due_beside.ensures

pub explain_left-requires-clause-idle : goal.explain_left-requires-clause-idle
explain_left-requires-clause-idle g c = idle_then g.S.Texts.tells (g.S.Texts.world c.args.site.now) (g.S.Texts.world c.would_run.new.site) c.in_ok-would_run.ensures.0 c.requires.idle

pub explain_left-requires-clause-running : goal.explain_left-requires-clause-running
explain_left-requires-clause-running g c = (c.in_ok-would_run.ensures.1 c.requires.running).0

pub returns-in_err-explained : goal.returns-in_err-explained
returns-in_err-explained g c = looks_then g.S.Texts.tells (g.S.Texts.world c.args.site.now) (g.S.Texts.world c.would_run.new.site) (g.S.Texts.world c.explain_left.new.site) c.in_ok-would_run.ensures.0 c.explain_left.ensures

pub returns-in_err-show_dry : goal.returns-in_err-show_dry
returns-in_err-show_dry g c = looks_then g.S.Texts.tells (g.S.Texts.world c.args.site.now) (g.S.Texts.world c.explain_left.new.site) (g.S.Texts.world c.show_dry.new.site) (looks_then g.S.Texts.tells (g.S.Texts.world c.args.site.now) (g.S.Texts.world c.would_run.new.site) (g.S.Texts.world c.explain_left.new.site) c.in_ok-would_run.ensures.0 c.explain_left.ensures) c.show_dry.ensures

pub returns : goal.returns
returns g c = looks_then g.S.Texts.tells (g.S.Texts.world c.args.site.now) (g.S.Texts.world c.explain_left.new.site) (g.S.Texts.world c.show_dry.new.site) (looks_then g.S.Texts.tells (g.S.Texts.world c.args.site.now) (g.S.Texts.world c.would_run.new.site) (g.S.Texts.world c.explain_left.new.site) c.in_ok-would_run.ensures.0 c.explain_left.ensures) c.show_dry.ensures
