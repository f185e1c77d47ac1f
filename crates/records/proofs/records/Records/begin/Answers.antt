use Rattle.std.proofs.Common.{Some, sym, subst, suc}
use Rattle.model.specs.declared.record.Record.TheVariants.{Begun}
use Rattle.model.specs.Graph.{edge_at, outputs}
use Rattle.log_text.specs.declared.form.Version.TheVariants.{Two}
use Rattle.log_text.specs.Form.{IsLineOf}
use Rattle.log_text.specs.BuildRecord.{forms}
use Rattle.graph.specs.Told.{declared_by}
use Rattle.records.proofs.Results.{on_err}
use Rattle.records.proofs.Putting.{build_carried}
use Rattle.records.proofs.Standing.{begun_ok, begun_err}
use Rattle.records.proofs.records.Records.begin.Goals as goal

pub returns-in_err-append-clause-err : goal.returns-in_err-append-clause-err
returns-in_err-append-clause-err g c = on_err c.from_residual-in_err-append.result (λ B format own steps entry first l.
    let tells = g.S.Texts.tells in
    let edges = (declared_by c.args.graph.now).edges in
    let i = suc c.args.edge in
    let r = Begun (outputs (edge_at edges i)) in
    let is_line = subst (IsLineOf (forms Two) r) (sym c.as_slice.ensures.value) c.in_ok-begun_line_of.ensures in
    let now = g.S.Texts.world c.args.site.now in
    let new = g.S.Texts.world c.append.new.site in
    let logs = c.args.self.now.logs in
    let one = build_carried tells B format own edges steps (Some i) entry first now new logs l in
    begun_err tells B format own edges steps i entry first now new logs l c.requires.once c.append.ensures.writes (c.in_err-append.ensures.err own edges first r is_line one))

pub returns-clause-ok : goal.returns-clause-ok
returns-clause-ok g c B format own steps entry first l =
    let tells = g.S.Texts.tells in
    let edges = (declared_by c.args.graph.now).edges in
    let i = suc c.args.edge in
    let r = Begun (outputs (edge_at edges i)) in
    let is_line = subst (IsLineOf (forms Two) r) (sym c.as_slice.ensures.value) c.in_ok-begun_line_of.ensures in
    let now = g.S.Texts.world c.args.site.now in
    let new = g.S.Texts.world c.append.new.site in
    let logs = c.args.self.now.logs in
    let one = build_carried tells B format own edges steps (Some i) entry first now new logs l in
    begun_ok tells B format own edges steps i entry first now new logs l c.requires.once c.append.ensures.writes c.append.new.self c.append.ensures.same.path (c.in_ok-append.ensures.carried own edges first r is_line one) (c.in_ok-append.ensures.ok own edges first r is_line one)
