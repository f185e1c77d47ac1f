use Rattle.std.proofs.Common.{ℕ, Bool, true, false, Option, None, Some, Result, Ok, Err, IsSome, ◌≡◌, refl, sym, ap, ◌∙◌}
use Rattle.model.specs.declared.fault.SiteFault.TheVariants.{Memory}
use Rattle.work.specs.declared.report.Report.TheVariants.{Fault, Success}
use Rattle.stand_in.proofs.Stages.{idle_then, next_by}
use Rattle.stand_in.proofs.Turning.{none_ran, turn_failed, turned}
use Rattle.stand_in.proofs.build.turn_generators.Goals as goal

pub returns-in_err-regenerate-clause-next : goal.returns-in_err-regenerate-clause-next
returns-in_err-regenerate-clause-next g c = λ entry old was may same. next_by g.S.Texts.tells g.S.Site.outcome c.args.options.now entry old (g.S.Texts.world c.regenerate.new.site) (Fault c.in_err-regenerate.field-0.0) (turn_failed g.S.Texts.tells g.S.Site.outcome c.args.options.now entry old (g.S.Texts.world c.args.site.now) c.args.declared.now was may (g.S.Texts.world c.regenerate.new.site) c.in_err-regenerate.field-0.0 c.in_err-regenerate.ensures.0 (c.in_err-regenerate.ensures.1 c.requires.running)) c.from_residual.result c.from_residual.ensures.1

pub returns-in-Nothing-clause-idle : goal.returns-in-Nothing-clause-idle
returns-in-Nothing-clause-idle g c = idle_then g.S.Texts.tells (g.S.Texts.world c.args.site.now) (g.S.Texts.world c.regenerate.new.site) c.in_ok-regenerate.ensures.0 c.requires.idle

pub returns-in-Nothing-clause-goes : goal.returns-in-Nothing-clause-goes
returns-in-Nothing-clause-goes g c = (c.in_ok-regenerate.ensures.1 c.requires.running).0

pub returns-in-Ran-clause-idle : goal.returns-in-Ran-clause-idle
returns-in-Ran-clause-idle g c = idle_then g.S.Texts.tells (g.S.Texts.world c.args.site.now) (g.S.Texts.world c.regenerate.new.site) c.in_ok-regenerate.ensures.0 c.requires.idle

pub returns-in-Ran-clause-goes : goal.returns-in-Ran-clause-goes
returns-in-Ran-clause-goes g c = (c.in_ok-regenerate.ensures.1 c.requires.running).0

pub returns-in-Failed-clause-idle : goal.returns-in-Failed-clause-idle
returns-in-Failed-clause-idle g c = idle_then g.S.Texts.tells (g.S.Texts.world c.args.site.now) (g.S.Texts.world c.regenerate.new.site) c.in_ok-regenerate.ensures.0 c.requires.idle

pub returns-in-Failed-clause-goes : goal.returns-in-Failed-clause-goes
returns-in-Failed-clause-goes g c = (c.in_ok-regenerate.ensures.1 c.requires.running).0

pub returns-in-Nothing-clause-next : goal.returns-in-Nothing-clause-next
returns-in-Nothing-clause-next g c = λ entry old was may same. none_ran g.S.Texts.tells g.S.Site.outcome c.args.options.now entry old (g.S.Texts.world c.args.site.now) c.args.declared.now was may (g.S.Texts.world c.regenerate.new.site) c.args.above.now.first.items c.where_nothing_ran.result ((c.in_ok-regenerate.ensures.1 c.requires.running).1 c.in-Nothing.is) c.where_nothing_ran.ensures.anew c.where_nothing_ran.ensures.none same

pub returns-in-Ran-clause-next : goal.returns-in-Ran-clause-next
returns-in-Ran-clause-next g c = λ entry old was may same. turned g.S.Texts.tells g.S.Site.outcome c.args.options.now entry old (g.S.Texts.world c.args.site.now) c.args.declared.now was may (g.S.Texts.world c.regenerate.new.site) c.in_ok-regenerate.ensures.0

pub returns-in-Failed-clause-next : goal.returns-in-Failed-clause-next
returns-in-Failed-clause-next g c = λ entry old was may same. turned g.S.Texts.tells g.S.Site.outcome c.args.options.now entry old (g.S.Texts.world c.args.site.now) c.args.declared.now was may (g.S.Texts.world c.regenerate.new.site) c.in_ok-regenerate.ensures.0
