use Rattle.builder.specs.Build.{limits_of}
use Rattle.drive.proofs.Visited.{write_carried, delete_carried, build_carried}
use Rattle.drive.proofs.one_move.carry_out.Goals as goal

pub returns-in-Write-clause-carried : goal.returns-in-Write-clause-carried
returns-in-Write-clause-carried g c =
    write_carried g.S.Texts.tells g.S.Site.outcome c.args.options.now.file (limits_of c.args.options.now) c.args.reports.now.items (g.S.Texts.world c.args.site.now) (g.S.Texts.world c.write.new.site)
    c.args.step.now c.in-Write.path c.in-Write.content c.in-Write.is c.requires.idle c.write.result c.write.ensures.edited

pub returns-in-Delete-clause-carried : goal.returns-in-Delete-clause-carried
returns-in-Delete-clause-carried g c =
    delete_carried g.S.Texts.tells g.S.Site.outcome c.args.options.now.file (limits_of c.args.options.now) c.args.reports.now.items (g.S.Texts.world c.args.site.now) (g.S.Texts.world c.delete.new.site)
    c.args.step.now c.in-Delete.path c.in-Delete.is c.requires.idle c.delete.result c.delete.ensures.edited

pub returns-in-Build-clause-carried : goal.returns-in-Build-clause-carried
returns-in-Build-clause-carried g c =
    build_carried g.S.Texts.tells g.S.Site.outcome c.args.options.now.file (limits_of c.args.options.now) c.args.reports.now.items (g.S.Texts.world c.args.site.now) (g.S.Texts.world c.build_next.new.site)
    c.args.step.now c.in-Build.targets c.in-Build.is c.requires.idle c.has_format.ensures c.has_reading.ensures c.has_reading-in-Build.ensures c.build_next.result c.build_next.new.reports.items c.build_next.ensures.reported
