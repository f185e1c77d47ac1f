use Rattle.std.proofs.Common.{sym, subst}
use Rattle.stand_in.specs.Moves.{IsEndOf}
use Rattle.stand_in.specs.declared.build.Outcome.{Outcome as End}
use Rattle.stand_in.proofs.Stages.{end_by, ready_at}
use Rattle.stand_in.proofs.Turning.{end_as, next_anew, next_build, next_end}
use Rattle.stand_in.proofs.build.build_below.Goals as goal

pub returns-in_err-next : goal.returns-in_err-next
returns-in_err-next g c = λ entry was. end_by g.S.Texts.tells g.S.Site.outcome c.args.options.now entry (g.S.Texts.world c.before_build.new.site) c.in_err-next.field-0.0 (c.in_err-next.ensures.next entry was) c.from_residual.result c.from_residual.ensures.1

pub returns-in-End : goal.returns-in-End
returns-in-End g c = λ entry was.
    let now = g.S.Texts.world c.args.site.now in
    let new = g.S.Texts.world c.before_build.new.site in
    end_as g.S.Texts.tells g.S.Site.outcome c.args.options.now entry new c.by.result c.in-End.outcome c.by.ensures.outcome (next_end g.S.Texts.tells g.S.Site.outcome c.args.options.now entry now new _ c.in-End.outcome c.in-End.is (c.in_ok-next.ensures.next entry was))

pub build_rest-requires-clause-ready : goal.build_rest-requires-clause-ready
build_rest-requires-clause-ready g c =
    let entry = c.requires.read.0 in
    let was = c.requires.read.1 in
    let now = g.S.Texts.world c.args.site.now in
    let new = g.S.Texts.world c.before_build.new.site in
    (entry, ready_at g.S.Texts.tells g.S.Site.outcome c.args.options.now entry now new c.args.declared was (next_build g.S.Texts.tells g.S.Site.outcome c.args.options.now entry now new _ c.in-Build.is (c.in_ok-next.ensures.next entry was)))

pub returns-in-Build : goal.returns-in-Build
returns-in-Build g c = λ entry was.
    let now = g.S.Texts.world c.args.site.now in
    let new = g.S.Texts.world c.before_build.new.site in
    subst (λ (e : End). IsEndOf g.S.Texts.tells g.S.Site.outcome c.args.options.now entry (g.S.Texts.world c.build_rest.new.site) e) (sym c.told_old.ensures)
    (c.build_rest.ensures entry (ready_at g.S.Texts.tells g.S.Site.outcome c.args.options.now entry now new c.args.declared was (next_build g.S.Texts.tells g.S.Site.outcome c.args.options.now entry now new _ c.in-Build.is (c.in_ok-next.ensures.next entry was))))

pub returns-in-ReadAnew : goal.returns-in-ReadAnew
returns-in-ReadAnew g c = λ entry was.
    let now = g.S.Texts.world c.args.site.now in
    let mid = g.S.Texts.world c.before_build.new.site in
    subst (λ (e : End). IsEndOf g.S.Texts.tells g.S.Site.outcome c.args.options.now entry (g.S.Texts.world c.build_anew.new.site) e) (sym c.told_old-in-ReadAnew.ensures)
    (c.build_anew.ensures entry (next_anew g.S.Texts.tells g.S.Site.outcome c.args.options.now entry now mid _ _ c.in-ReadAnew.is (c.in_ok-next.ensures.next entry was)))
