use Rattle.std.proofs.Common.{ℕ, List, subst}
use Rattle.model.specs.declared.fault.SiteFault.TheVariants.{Memory}
use Rattle.work.specs.declared.report.Report.TheVariants.{Fault}
use Rattle.theory.proofs.Looks.{looks_nothing}
use Rattle.stand_in.specs.Moves.{WasReadHere, WasUnreadHere}
use Rattle.stand_in.proofs.Stages.{idle_then, looked_nothing, memory_end, outcome_by, prepared_at, prepared_then, unread_here_end}
use Rattle.stand_in.proofs.build.build_anew.Goals as goal

pub returns-in_err-declared : goal.returns-in_err-declared
returns-in_err-declared g c = λ entry prepared.
    let old = g.S.Texts.world c.args.site.now in
    let new = g.S.Texts.world c.read_here.new.site in
    let report = c.in_err-declared.field-0.0 in
    outcome_by g.S.Texts.tells g.S.Site.outcome c.args.options.now entry new report (unread_here_end g.S.Texts.tells g.S.Site.outcome c.args.options.now entry old new report prepared c.requires (subst (λ (f : List ℕ). WasUnreadHere g.S.Texts.tells g.S.Site.outcome f old new report) c.as_str-file.ensures c.in_err-declared.ensures.unread)) c.from_residual.result c.from_residual.ensures.1

pub returns-in_err-above : goal.returns-in_err-above
returns-in_err-above g c = λ entry prepared.
    let old = g.S.Texts.world c.args.site.now in
    let new = g.S.Texts.world c.read_here.new.site in
    let looked = c.in_ok-declared.ensures.read.looked in
    outcome_by g.S.Texts.tells g.S.Site.outcome c.args.options.now entry new (Fault Memory) (memory_end g.S.Texts.tells g.S.Site.outcome c.args.options.now entry new (prepared_then g.S.Texts.tells g.S.Site.outcome c.args.options.now entry old new prepared looked.looks) looked.unrefused.goes_on)
    c.from_residual-in_err-above.result c.from_residual-in_err-above.ensures.1

pub build_rest-requires-clause-idle : goal.build_rest-requires-clause-idle
build_rest-requires-clause-idle g c = idle_then g.S.Texts.tells (g.S.Texts.world c.args.site.now) (g.S.Texts.world c.read_here.new.site) c.read_here.ensures.looks c.requires

pub build_rest-requires-clause-ready : goal.build_rest-requires-clause-ready
build_rest-requires-clause-ready g c =
    let old = g.S.Texts.world c.args.site.now in
    let new = g.S.Texts.world c.read_here.new.site in
    let looked = c.in_ok-declared.ensures.read.looked in
    let was = subst (λ (f : List ℕ). WasReadHere g.S.Texts.tells f old new c.in_ok-declared.declared) c.as_str-file.ensures c.in_ok-declared.ensures.read in
    (old, record { entry = old; prepared = prepared_at g.S.Texts.tells g.S.Site.outcome c.args.options.now old old (looks_nothing g.S.Texts.tells old); read = new; was_read = was; since = looked_nothing g.S.Texts.tells new looked.unrefused.goes_on })

pub returns : goal.returns
returns g c = λ entry prepared.
    let new = g.S.Texts.world c.read_here.new.site in
    let looked = c.in_ok-declared.ensures.read.looked in
    let was = subst (λ (f : List ℕ). WasReadHere g.S.Texts.tells f (g.S.Texts.world c.args.site.now) new c.in_ok-declared.declared) c.as_str-file.ensures c.in_ok-declared.ensures.read in
    c.build_rest.ensures entry (record { entry = g.S.Texts.world c.args.site.now; prepared = prepared; read = new; was_read = was; since = looked_nothing g.S.Texts.tells new looked.unrefused.goes_on })
