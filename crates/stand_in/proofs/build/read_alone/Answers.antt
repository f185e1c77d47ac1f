use Rattle.theory.proofs.Looks.{looks_then}
use Rattle.stand_in.proofs.Opening.{unread_alone}
use Rattle.stand_in.proofs.Stages.{alone_by, alone_last, unread_last}
use Rattle.stand_in.proofs.build.read_alone.Goals as goal

pub loop-preserved : goal.loop-preserved
loop-preserved g c = looks_then _ _ _ _ c.loop.invariant (looks_then _ _ _ _ c.read_here.ensures.looks c.has_waited.ensures.looks)

pub returns-then-not-has_waited-clause-read : goal.returns-then-not-has_waited-clause-read
returns-then-not-has_waited-clause-read g c =
    alone_by g.S.Texts.tells c.args.file.now (g.S.Texts.world c.args.site.now) (g.S.Texts.world c.loop.site) (g.S.Texts.world c.read_here.new.site) (g.S.Texts.world c.has_waited.new.self) c.in_ok-declared.declared c.loop.invariant
    c.in_ok-declared.ensures.read c.has_waited.ensures

pub returns-clause-read : goal.returns-clause-read
returns-clause-read g c = alone_last g.S.Texts.tells c.args.file.now (g.S.Texts.world c.args.site.now) (g.S.Texts.world c.loop.site) (g.S.Texts.world c.read_here-2.new.site) c.read_here-2.result c.loop.invariant c.read_here-2.ensures.read

pub returns-clause-unread : goal.returns-clause-unread
returns-clause-unread g c =
    unread_last g.S.Texts.tells g.S.Site.outcome c.args.file.now (g.S.Texts.world c.args.site.now) (g.S.Texts.world c.loop.site) (g.S.Texts.world c.read_here-2.new.site) c.read_here-2.result c.loop.invariant c.read_here-2.ensures.unread

pub returns-in_err-declared-clause-looks : goal.returns-in_err-declared-clause-looks
returns-in_err-declared-clause-looks g c = looks_then _ _ _ _ c.loop.invariant c.read_here.ensures.looks

pub returns-in_err-folder-clause-looks : goal.returns-in_err-folder-clause-looks
returns-in_err-folder-clause-looks g c = looks_then _ _ _ _ c.loop.invariant c.read_here.ensures.looks

pub returns-in_err-folder-clause-unread : goal.returns-in_err-folder-clause-unread
returns-in_err-folder-clause-unread g c =
    unread_alone g.S.Texts.tells g.S.Site.outcome c.args.file.now (g.S.Texts.world c.args.site.now) (g.S.Texts.world c.loop.site) (g.S.Texts.world c.read_here.new.site) c.in_ok-declared.declared c.from_residual-in_err-folder.result c.loop.invariant
    c.in_ok-declared.ensures.read c.from_residual-in_err-folder.ensures.1

pub returns-then-not-has_waited-clause-looks : goal.returns-then-not-has_waited-clause-looks
returns-then-not-has_waited-clause-looks g c = looks_then _ _ _ _ c.loop.invariant (looks_then _ _ _ _ c.read_here.ensures.looks c.has_waited.ensures.looks)

pub returns-clause-looks : goal.returns-clause-looks
returns-clause-looks g c = looks_then _ _ _ _ c.loop.invariant c.read_here-2.ensures.looks
