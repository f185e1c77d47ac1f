use Rattle.std.proofs.Common.{◌∙◌, sym, ap}
use Rattle.model.specs.Graph.{later_number}
use Rattle.graph.proofs.GraphIs.{maker_within}
use Rattle.graph.proofs.Makes.{maker_is}
use Rattle.graph.proofs.Parts.{some_of}
use Rattle.graph.proofs.graph.Graph.maker.Goals as goal

pub returns-clause-within : goal.returns-clause-within
returns-clause-within c = some_of c.stored_maker.result (λ e is. maker_within c.args.self.now c.args.path e (sym c.stored_maker.ensures ∙ is))

pub returns-clause-makes : goal.returns-clause-makes
returns-clause-makes c = some_of c.stored_maker.result (λ e is. c.args.self.now.making.made c.args.path e (sym c.stored_maker.ensures ∙ is))

pub returns-clause-text : goal.returns-clause-text
returns-clause-text c lt =
    let graph = c.args.self.now in
    maker_is graph.manifest graph.makers graph.making graph.apart c.args.path lt ∙ ap later_number (sym c.stored_maker.ensures)
