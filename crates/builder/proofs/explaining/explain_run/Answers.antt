use Rattle.std.proofs.Common.{◌<◌, ◌∙◌, All, List, Bool, length, ap, sym, subst}
use Rattle.theory.proofs.Looks.{looks_then}
use Rattle.work.specs.declared.state.Work.{Work}
use Rattle.builder.specs.Explained.{SaysDue}
use Rattle.builder.proofs.explaining.explain_run.Goals as goal

pub check_sources-requires-clause-fits : goal.check_sources-requires-clause-fits
check_sources-requires-clause-fits g c = c.requires.begins.3.stands.on.room.looks

pub check_sources-requires-clause-order : goal.check_sources-requires-clause-order
check_sources-requires-clause-order g c =
    let begins = c.requires.begins in
    c.orders_stand.ensures g.S.Texts.tells begins.0 begins.1 begins.2 c.args.state.now (g.S.Texts.world c.args.site.now) begins.3.stands

pub check_sources-requires-clause-placed : goal.check_sources-requires-clause-placed
check_sources-requires-clause-placed g c =
    let begins = c.requires.begins in
    c.makers_stand_first.ensures g.S.Texts.tells begins.0 begins.1 begins.2 c.args.state.now (g.S.Texts.world c.args.site.now) begins.3.stands

pub check_sources-requires-clause-targets : goal.check_sources-requires-clause-targets
check_sources-requires-clause-targets g c = c.requires.begins.3.stands.on.cone.within

pub returns-in_err-due-clause-looks : goal.returns-in_err-due-clause-looks
returns-in_err-due-clause-looks g c = c.check_sources.ensures.looked.looks

pub explain_due-requires-clause-running : goal.explain_due-requires-clause-running
explain_due-requires-clause-running g c = c.in_ok-due.ensures.passed.goes_on

pub explain_due-requires-clause-fits : goal.explain_due-requires-clause-fits
explain_due-requires-clause-fits g c =
    (c.check_sources.ensures.looked.fits ∙ c.requires.begins.3.stands.on.room.looks) ∙ sym (ap (λ (s : Work). length s.graph.manifest.paths) c.check_sources.ensures.beside)

pub explain_due-requires-clause-order : goal.explain_due-requires-clause-order
explain_due-requires-clause-order g c =
    let begins = c.requires.begins in
    subst (λ (s : Work). All (λ e. e < length s.graph.manifest.lines) s.cone.order.items) (sym {A = Work} c.check_sources.ensures.beside)
    (c.orders_stand.ensures g.S.Texts.tells begins.0 begins.1 begins.2 c.args.state.now (g.S.Texts.world c.args.site.now) begins.3.stands)

pub explain_due-requires-clause-due : goal.explain_due-requires-clause-due
explain_due-requires-clause-due g c =
    (ap length c.deref.ensures.value ∙ c.in_ok-due.ensures.due.fits) ∙ sym (ap (λ (s : Work). length s.graph.manifest.lines) c.check_sources.ensures.beside)

pub returns-in_err-explained-clause-looks : goal.returns-in_err-explained-clause-looks
returns-in_err-explained-clause-looks g c =
    looks_then g.S.Texts.tells (g.S.Texts.world c.args.site.now) (g.S.Texts.world c.check_sources.new.site) (g.S.Texts.world c.explain_due.new.site) c.check_sources.ensures.looked.looks c.explain_due.ensures.looked.looks

pub returns-clause-looks : goal.returns-clause-looks
returns-clause-looks g c =
    looks_then g.S.Texts.tells (g.S.Texts.world c.args.site.now) (g.S.Texts.world c.check_sources.new.site) (g.S.Texts.world c.explain_due.new.site) c.check_sources.ensures.looked.looks c.explain_due.ensures.looked.looks

pub returns-clause-tells : goal.returns-clause-tells
returns-clause-tells g c = record {
  due = c.in_ok-due.due.items;
  mid = g.S.Texts.world c.check_sources.new.site;
  seen = c.check_sources.new.self.looks;
  has = c.in_ok-due.ensures.due;
  says = subst (λ (l : List Bool). SaysDue g.S.Texts.tells c.args.state.now.graph c.args.state.now.cone c.args.state.now.records l (g.S.Texts.world c.check_sources.new.site) (g.S.Texts.world c.explain_due.new.site) c.check_sources.new.self.looks c.explain_due.new.state.looks c.in_ok-explained.explained.commands.items) c.deref.ensures.value
      (subst (λ (s : Work). SaysDue g.S.Texts.tells s.graph s.cone s.records c.deref.result.now (g.S.Texts.world c.check_sources.new.site) (g.S.Texts.world c.explain_due.new.site) c.check_sources.new.self.looks c.explain_due.new.state.looks c.in_ok-explained.explained.commands.items) c.check_sources.ensures.beside c.in_ok-explained.ensures.says);
}
