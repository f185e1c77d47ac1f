use Rattle.seen_drive.proofs.Visited.{build_carried, delete_carried, write_carried}
use Rattle.seen_drive.proofs.one_move.carry_out.Goals as goal

pub returns-in-Write-clause-carried : goal.returns-in-Write-clause-carried
returns-in-Write-clause-carried g c =
    write_carried g.S.Texts.tells c.args.options.now (g.S.Texts.world c.args.site) (g.S.Texts.world c.write_next.result.1) c.args.reports.now.items c.requires.idle
    c.args.step.now c.in-Write.path c.in-Write.content c.in-Write.is c.write_next.result.0 c.write_next.ensures.edited

pub returns-in-Delete-clause-carried : goal.returns-in-Delete-clause-carried
returns-in-Delete-clause-carried g c =
    delete_carried g.S.Texts.tells c.args.options.now (g.S.Texts.world c.args.site) (g.S.Texts.world c.delete_next.result.1) c.args.reports.now.items c.requires.idle
    c.args.step.now c.in-Delete.path c.in-Delete.is c.delete_next.result.0 c.delete_next.ensures.edited

pub returns-in-Build-clause-carried : goal.returns-in-Build-clause-carried
returns-in-Build-clause-carried g c =
    build_carried g.S.Texts.tells c.args.options.now (g.S.Texts.world c.args.site) (g.S.Texts.world c.report_next-again.result.1)
    c.args.step.now c.in-Build.targets c.in-Build.is c.report_next-again.result.0 c.args.reports.now.items c.report_next-again.new.reports.items c.report_next-again.ensures.reported
