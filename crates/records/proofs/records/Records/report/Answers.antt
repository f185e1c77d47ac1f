use Rattle.std.proofs.Common.{Some, sym, subst, suc}
use Rattle.log_text.specs.declared.form.Version.TheVariants.{Two}
use Rattle.log_text.specs.Form.{IsLineOf}
use Rattle.log_text.specs.Found.{texts_in}
use Rattle.log_text.specs.DepsRecordLine.{forms}
use Rattle.records.specs.Logging.{deps_of}
use Rattle.graph.specs.Told.{declared_by}
use Rattle.records.proofs.Results.{on_err}
use Rattle.records.proofs.Putting.{deps_carried}
use Rattle.records.proofs.Standing.{report_ok, report_err}
use Rattle.records.proofs.records.Records.report.Goals as goal

pub returns-in_err-append-clause-err : goal.returns-in_err-append-clause-err
returns-in_err-append-clause-err g c = on_err c.from_residual-in_err-append.result (λ B format own steps entry first report l.
    let tells = g.S.Texts.tells in
    let edges = (declared_by c.args.graph.now).edges in
    let i = suc c.args.edge in
    let r = deps_of edges i c.args.start (texts_in c.args.paths.now) in
    let is_line = subst (IsLineOf (forms Two) r) (sym c.as_slice.ensures.value) c.in_ok-deps_line_of.ensures in
    let now = g.S.Texts.world c.args.site.now in
    let new = g.S.Texts.world c.append.new.site in
    let logs = c.args.self.now.logs in
    let one = deps_carried tells B format own edges steps (Some i) entry first now new logs l in
    report_err tells B format own edges steps i entry first now new logs l c.append.ensures.writes c.args.start (texts_in c.args.paths.now) report (c.in_err-append.ensures.err own edges first r is_line one))

pub returns-clause-ok : goal.returns-clause-ok
returns-clause-ok g c B format own steps entry first report l =
    let tells = g.S.Texts.tells in
    let edges = (declared_by c.args.graph.now).edges in
    let i = suc c.args.edge in
    let r = deps_of edges i c.args.start (texts_in c.args.paths.now) in
    let is_line = subst (IsLineOf (forms Two) r) (sym c.as_slice.ensures.value) c.in_ok-deps_line_of.ensures in
    let now = g.S.Texts.world c.args.site.now in
    let new = g.S.Texts.world c.append.new.site in
    let logs = c.args.self.now.logs in
    let one = deps_carried tells B format own edges steps (Some i) entry first now new logs l in
    report_ok tells B format own edges steps i entry first now new logs l c.append.ensures.writes c.args.start (texts_in c.args.paths.now) report c.append.new.self c.append.ensures.same.path (c.in_ok-append.ensures.carried own edges first r is_line one) (c.in_ok-append.ensures.ok own edges first r is_line one)
