use Rattle.std.proofs.Common.{◌≡◌, ◌∙◌, ◌==◌, ap, sym, arith}
use Rattle.std.proofs.lemmas.Bool.{eqb-true, eq-eqb, false≢true}
use Rattle.graph.specs.declared.choice.Choice.{Choice}
use Rattle.graph.specs.Chosen.{chosen_edges}
use Rattle.graph.proofs.Chosen.{edge_there, edges_length}
use Rattle.graph.proofs.choice.stands_at.Goals as goal

pub returns-then-place-chosen : goal.returns-then-place-chosen
returns-then-place-chosen c =
    let cs = c.args.chosen.now in
    let x = c.index-chosen-place.result in
    let low = c.if-place-chosen.true in
    let long = edges_length cs in
    let here = edge_there cs c.args.place x low ∙ ap (λ (y : Choice). y.edge) (sym c.index-chosen-place.is) in
    record {
      there = λ is. record { within = omega (arith, low, long); is = here ∙ eqb-true x.edge c.args.edge (sym c.is_of.ensures ∙ is) };
      absent = λ is stands. false≢true (sym is ∙ (c.is_of.ensures ∙ eq-eqb x.edge c.args.edge (sym here ∙ stands.is)));
    }

pub returns-else-place-chosen : goal.returns-else-place-chosen
returns-else-place-chosen c =
    let past = c.if-place-chosen.false in
    let long = edges_length c.args.chosen.now in
    record {
      there = λ is. absurd (false≢true is);
      absent = λ is stands. let within = stands.within in omega (arith, past, long, within);
    }
