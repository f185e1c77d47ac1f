use Rattle.std.proofs.Common.{◌≡◌, ◌∙◌, List, sym, ap, subst, length, arith}
use Rattle.graph.specs.declared.choice.Choice.{Choice}
use Rattle.graph.specs.Chosen.{chosen_edges, AreRising, IsPlaceFor, StandsAt, HasJoined}
use Rattle.graph.proofs.Chosen.{edges_length, joined_before, joined_put}
use Rattle.graph.proofs.choice.join.Goals as goal

pub returns-then-stands_at : goal.returns-then-stands_at
returns-then-stands_at c =
    let cs = c.args.chosen.now.items in
    let place : IsPlaceFor (chosen_edges cs) c.args.edge c.place_for-place.result =
    subst (λ (l : List Choice). IsPlaceFor (chosen_edges l) c.args.edge c.place_for-place.result) c.as_slice.ensures.value c.place_for-place.ensures in
    let stands : StandsAt (chosen_edges cs) c.args.edge c.place_for-place.result =
    subst (λ (l : List Choice). StandsAt (chosen_edges l) c.args.edge c.place_for-place.result) c.as_slice-2.ensures.value (c.stands_at.ensures.there c.if-stands_at.true) in
    joined_before cs c.args.edge c.place_for-place.result c.requires place stands

pub insert-requires : goal.insert-requires
insert-requires c =
    let long = edges_length c.args.chosen.now.items in
    let within = c.place_for-place.ensures.within in
    let same = ap (λ (l : List Choice). length (chosen_edges l)) c.as_slice.ensures.value in
    omega (arith, long, within, same, c.args.chosen.now.ok.0)

pub returns : goal.returns
returns c =
    let cs = c.args.chosen.now.items in
    let place : IsPlaceFor (chosen_edges cs) c.args.edge c.place_for-place.result =
    subst (λ (l : List Choice). IsPlaceFor (chosen_edges l) c.args.edge c.place_for-place.result) c.as_slice.ensures.value c.place_for-place.ensures in
    subst (HasJoined cs c.args.edge) (sym {A = List Choice} c.in_ok-insert.ensures.items)
    (joined_put cs c.args.edge c.place_for-place.result c.requires place (λ stands. c.stands_at.ensures.absent c.if-stands_at.false (subst (λ (l : List Choice). StandsAt (chosen_edges l) c.args.edge c.place_for-place.result) (sym {A = List Choice} c.as_slice-2.ensures.value) stands)))
