use Rattle.std.proofs.Common.{ℕ, Bool, true, false, Option, None, Some, Result, Ok, Err, IsSome, ◌≡◌, refl, sym, ap, ◌∙◌}
use Rattle.std.proofs.Common.{subst}
use Rattle.std.proofs.Common.{List}
use Rattle.builder.specs.Asked.{IsFolder}
use Rattle.builder.specs.Parts.{IsReportOfNoGraph}
use Rattle.stand_in.proofs.Opening.{read_graph, unread_by, unread_graph, unread_here, unread_memory}
use Rattle.stand_in.proofs.build.read_here.Goals as goal

pub returns-in_err-manifest-clause-unread : goal.returns-in_err-manifest-clause-unread
returns-in_err-manifest-clause-unread g c = unread_by c.from_residual.result (unread_here g.S.Texts.tells g.S.Site.outcome c.args.file.now (g.S.Texts.world c.args.site.now) (g.S.Texts.world c.read_described.new.texts) c.read_described.ensures.looks c.in_err-manifest.field-0.0 _ refl c.in_err-manifest.ensures.cause c.in_err-manifest.ensures.file) c.from_residual.ensures.1

pub returns-in_err-folder-clause-unread : goal.returns-in_err-folder-clause-unread
returns-in_err-folder-clause-unread g c = unread_by c.from_residual-in_err-folder.result (unread_memory g.S.Texts.tells g.S.Site.outcome c.args.file.now (g.S.Texts.world c.args.site.now) (g.S.Texts.world c.read_described.new.texts) c.read_described.ensures.looks _ refl c.in_ok-manifest.ensures.cause) c.from_residual-in_err-folder.ensures.1

pub returns-in_err-graph-clause-unread : goal.returns-in_err-graph-clause-unread
returns-in_err-graph-clause-unread g c = unread_by c.from_residual-in_err-graph.result (unread_graph g.S.Texts.tells g.S.Site.outcome c.args.file.now (g.S.Texts.world c.args.site.now) (g.S.Texts.world c.read_described.new.texts) c.read_described.ensures.looks c.in_ok-manifest.manifest c.in_ok-manifest.ensures.graph c.in_ok-manifest.ensures.file c.in_ok-manifest.ensures.cause c.in_ok-folder.folder c.in_err-graph.field-0.0 c.in_err-graph.field-0.0 (subst (λ (t : List ℕ). IsFolder t c.in_ok-folder.folder) c.as_str.ensures c.in_ok-folder.ensures) (subst (λ (t : List ℕ). IsReportOfNoGraph t c.in_ok-manifest.manifest c.in_err-graph.field-0.0) c.as_str-2.ensures c.in_err-graph.ensures.refused) refl) c.from_residual-in_err-graph.ensures.1

pub returns-clause-read : goal.returns-clause-read
returns-clause-read g c = read_graph g.S.Texts.tells g.S.Site.outcome c.args.file.now (g.S.Texts.world c.args.site.now) (g.S.Texts.world c.read_described.new.texts) c.read_described.ensures.looks c.in_ok-manifest.manifest c.in_ok-manifest.ensures.graph c.in_ok-manifest.ensures.file c.in_ok-manifest.ensures.cause c.in_ok-graph.graph c.in_ok-manifest.described c.in_ok-graph.ensures.manifest c.in_ok-graph.ensures.once c.in_ok-graph.ensures.dyndep c.in_ok-graph.ensures.recorded
