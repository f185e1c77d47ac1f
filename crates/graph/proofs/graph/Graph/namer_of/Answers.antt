use Rattle.std.proofs.Common.{◌∙◌, sym, true, false}
use Rattle.graph.proofs.Choosing.{owner_found}
use Rattle.graph.proofs.graph.Graph.namer_of.Goals as goal

pub returns-then-names-clause-owner : goal.returns-then-names-clause-owner
returns-then-names-clause-owner c =
    owner_found c.args.self.now c.args.file c.in_ok-edge.edge c.args.output.now c.requires c.in_ok-edge.ensures.maker true (sym c.if-names.true ∙ c.names.ensures)

pub returns-else-names-clause-owner : goal.returns-else-names-clause-owner
returns-else-names-clause-owner c =
    owner_found c.args.self.now c.args.file c.in_ok-edge.edge c.args.output.now c.requires c.in_ok-edge.ensures.maker false (sym c.if-names.false ∙ c.names.ensures)
