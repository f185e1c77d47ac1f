use Rattle.std.proofs.Common.{◌∙◌, [], sym, ap}
use Rattle.std.proofs.lemmas.Option.{slice_get_within, get_or_from_slice_get}
use Rattle.model.specs.Graph.{maker, later_number}
use Rattle.graph.specs.Told.{declared_by}
use Rattle.graph.proofs.Choosing.{none_made}
use Rattle.graph.proofs.graph.Graph.maker_of.Goals as goal

pub returns-in_err-number_of-clause-maker : goal.returns-in_err-number_of-clause-maker
returns-in_err-number_of-clause-maker c =
    ap later_number c.from_residual.ensures ∙ sym (none_made c.args.self.now c.args.output.now c.in_err-number_of.ensures.place)

pub returns-clause-maker : goal.returns-clause-maker
returns-clause-maker c =
    let graph = c.args.self.now in
    let number = c.in_ok-number_of.field-0 in
    sym (c.maker.ensures.text (slice_get_within graph.manifest.paths number c.args.output.now c.in_ok-number_of.ensures.place))
    ∙ ap (maker (declared_by graph).edges) (get_or_from_slice_get graph.manifest.paths number c.args.output.now [] c.in_ok-number_of.ensures.place)
