use Rattle.std.proofs.Common.{◌≡◌, ◌∙◌, ◌<◌, Some, length, get_or, sym, ap, arith}
use Rattle.std.specs.Option.{is_some}
use Rattle.graph.specs.declared.choice.Choice.{Choice}
use Rattle.graph.specs.Chosen.{chosen_edges}
use Rattle.graph.proofs.Chosen.{edges_length, place_found, read_choice, none_of, edges_set, has_chosen, has_passed}
use Rattle.graph.proofs.choice.give.Goals as goal

pub bounds-chosen-at : goal.bounds-chosen-at
bounds-chosen-at c =
    let cs = c.args.chosen.now in
    let found = place_found (chosen_edges cs) c.requires.rising c.args.edge c.place_for-at.result c.place_for-at.ensures c.requires.there in
    let low = found.0 in
    let long = edges_length cs in
    omega (arith, low, long)

pub bounds-chosen-at-2 : goal.bounds-chosen-at-2
bounds-chosen-at-2 c =
    let cs = c.args.chosen.now in
    let found = place_found (chosen_edges cs) c.requires.rising c.args.edge c.place_for-at.result c.place_for-at.ensures c.requires.there in
    let low = found.0 in
    let long = edges_length cs in
    omega (arith, low, long)

pub returns-then-is_given-clause-given : goal.returns-then-is_given-clause-given
returns-then-is_given-clause-given c =
    let cs = c.args.chosen.now in
    let at = c.place_for-at.result in
    let found = place_found (chosen_edges cs) c.requires.rising c.args.edge at c.place_for-at.ensures c.requires.there in
    let low = found.0 in
    let long = edges_length cs in
    let within : at < length cs = omega (arith, low, long) in
    let x = c.index-chosen-at.result in
    has_passed cs at c.args.edge c.args.place c.requires.rising within found.1 (ap (λ (y : Choice). is_some y.statement) (sym (read_choice cs at x within c.index-chosen-at.is)) ∙ (sym c.is_given.ensures ∙ c.if-is_given.true))

pub returns-clause-edges : goal.returns-clause-edges
returns-clause-edges c =
    let cs = c.args.chosen.now in
    let found = place_found (chosen_edges cs) c.requires.rising c.args.edge c.place_for-at.result c.place_for-at.ensures c.requires.there in
    edges_set cs c.place_for-at.result (record { edge = c.args.edge; statement = Some c.args.place }) found.1

pub returns-clause-given : goal.returns-clause-given
returns-clause-given c =
    let cs = c.args.chosen.now in
    let at = c.place_for-at.result in
    let found = place_found (chosen_edges cs) c.requires.rising c.args.edge at c.place_for-at.ensures c.requires.there in
    let low = found.0 in
    let long = edges_length cs in
    let within : at < length cs = omega (arith, low, long) in
    let x = c.index-chosen-at.result in
    has_chosen cs at c.args.edge c.args.place c.requires.rising within found.1
    (ap (λ (y : Choice). y.statement) (sym (read_choice cs at x within c.index-chosen-at.is)) ∙ none_of x.statement (sym c.is_given.ensures ∙ c.if-is_given.false))
