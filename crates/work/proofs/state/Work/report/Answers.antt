use Rattle.std.proofs.Common.{true, refl, ◌∙◌, ap}
use Rattle.theory.proofs.SiteCalls.{looks_none}
use Rattle.log_text.specs.Found.{texts_in}
use Rattle.theory.proofs.Writing.{looks_at}
use Rattle.work.proofs.Cutting.{cause_none}
use Rattle.work.proofs.Launched.{err_then}
use Rattle.work.proofs.Recording.{taken_some, taken_once, cut_telling, tells_nothing, reported, cut_reporting}
use Rattle.work.proofs.Results.{on_err, ok_then}
use Rattle.work.proofs.state.Work.report.Goals as goal

pub returns-in_default : goal.returns-in_default
returns-in_default g c = record {
  graph = refl;
  cause = cause_none (g.S.Texts.world c.args.site.now) c.requires.running;
  writes = looks_at g.S.Texts.tells c.args.self.now.records.logs.deps_log.path (g.S.Texts.world c.args.site.now) (g.S.Texts.world c.args.site.now) (looks_none g.S.Texts.tells (g.S.Texts.world c.args.site.now));
  plan = refl;
  starts = refl;
  looks = refl;
  failed = refl;
  on = λ course suits taken. tells_nothing g.S.Texts.tells course c.args.self.now.graph suits c.args.self.now (g.S.Texts.world c.args.site.now) c.args.edge c.args.start c.args.told.now taken (λ paths is. c.in_default.not-Inputs paths is);
  cut = tt;
}

pub returns-in_err-texts-clause-cut : goal.returns-in_err-texts-clause-cut
returns-in_err-texts-clause-cut g c =
    on_err c.from_residual.result (λ course suits taken. cut_telling g.S.Texts.tells course c.args.self.now.graph suits c.args.self.now (g.S.Texts.world c.args.site.now) c.args.edge c.args.start c.args.told.now taken)

pub report-requires-clause-once : goal.report-requires-clause-once
report-requires-clause-once g c =
    taken_once g.S.Texts.tells c.requires.taken_in.0 c.args.self.now.graph c.requires.taken_in.1 c.args.self.now (g.S.Texts.world c.args.site.now) c.args.edge c.args.start true refl c.args.told.now c.requires.taken_in.2

pub report-requires-clause-some : goal.report-requires-clause-some
report-requires-clause-some g c =
    taken_some g.S.Texts.tells c.requires.taken_in.0 c.args.self.now.graph c.requires.taken_in.1 c.args.self.now (g.S.Texts.world c.args.site.now) c.args.edge c.args.start true refl c.args.told.now c.requires.taken_in.2

pub returns-clause-on : goal.returns-clause-on
returns-clause-on g c = ok_then c.report.result c.report.ensures.ok (λ so course suits taken.
    reported g.S.Texts.tells course c.args.self.now.graph suits c.args.self.now (g.S.Texts.world c.args.site.now) c.args.edge c.args.start c.args.told.now taken c.in-Inputs.paths c.in-Inputs.is (g.S.Texts.world c.report.new.site) c.report.ensures.writes
    c.report.new.self c.report.ensures.same c.report.ensures.places c.report.ensures.deps_places (texts_in c.deref.result.now) (ap texts_in c.deref.ensures.value ∙ c.in_ok-texts.ensures) so)

pub returns-clause-cut : goal.returns-clause-cut
returns-clause-cut g c = err_then c.report.result c.report.ensures.err (λ so course suits taken.
    cut_reporting g.S.Texts.tells course c.args.self.now.graph suits c.args.self.now (g.S.Texts.world c.args.site.now) c.args.edge c.args.start c.args.told.now taken c.in-Inputs.paths c.in-Inputs.is (g.S.Texts.world c.report.new.site) c.report.ensures.writes so)
