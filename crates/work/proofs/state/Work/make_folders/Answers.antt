use Rattle.theory.proofs.SiteCalls.{looks_then}
use Rattle.work.proofs.state.Work.make_folders.Goals as goal

pub returns-in_err-make_output_folders-clause-looks : goal.returns-in_err-make_output_folders-clause-looks
returns-in_err-make_output_folders-clause-looks g c =
    looks_then g.S.Texts.tells (g.S.Texts.world c.args.site.now) (g.S.Texts.world c.make_folder.new.site) (g.S.Texts.world c.make_output_folders.new.site) c.make_folder.ensures.looks c.make_output_folders.ensures.looks

pub returns-in_err-make_folder-2-clause-looks : goal.returns-in_err-make_folder-2-clause-looks
returns-in_err-make_folder-2-clause-looks g c =
    looks_then g.S.Texts.tells (g.S.Texts.world c.args.site.now) (g.S.Texts.world c.make_output_folders.new.site) (g.S.Texts.world c.make_folder-2.new.site)
    (looks_then g.S.Texts.tells (g.S.Texts.world c.args.site.now) (g.S.Texts.world c.make_folder.new.site) (g.S.Texts.world c.make_output_folders.new.site) c.make_folder.ensures.looks c.make_output_folders.ensures.looks)
    c.make_folder-2.ensures.looks

pub returns-clause-looks : goal.returns-clause-looks
returns-clause-looks g c =
    looks_then g.S.Texts.tells (g.S.Texts.world c.args.site.now) (g.S.Texts.world c.make_folder-2.new.site) (g.S.Texts.world c.make_folder-3.new.site)
    (looks_then g.S.Texts.tells (g.S.Texts.world c.args.site.now) (g.S.Texts.world c.make_output_folders.new.site) (g.S.Texts.world c.make_folder-2.new.site)
    (looks_then g.S.Texts.tells (g.S.Texts.world c.args.site.now) (g.S.Texts.world c.make_folder.new.site) (g.S.Texts.world c.make_output_folders.new.site) c.make_folder.ensures.looks c.make_output_folders.ensures.looks)
    c.make_folder-2.ensures.looks)
    c.make_folder-3.ensures.looks
