use Rattle.std.proofs.Common.{◌≡◌, ◌∙◌, ℕ, suc, List, Some, None, map, length, slice_get, get_or, refl, sym, ap, subst, arith}
use Rattle.model.specs.Graph.{Addition}
use Rattle.paths.specs.Told.{text_at}
use Rattle.graph.specs.Chosen.{chosen_edges, choice_in, AreNamers}
use Rattle.graph.specs.Told.{declared_by}
use Rattle.graph.specs.Extended.{addition_of}
use Rattle.graph.specs.Statements.{owner_in, owners_of}
use Rattle.graph.proofs.Choosing.{choices_first, choices_next, bad_next, owner_positive}
use Rattle.graph.proofs.Places.{get_there, get_map}
use Rattle.graph.proofs.graph.Graph.choose_all.Goals as goal

pub loop-place-init : goal.loop-place-init
loop-place-init c = record {
  edges = refl;
  choices = choices_first (owners_of (declared_by c.args.self.now).edges (text_at c.args.self.now.manifest.paths c.args.file) (map addition_of c.args.additions.now)) (choice_in c.args.chosen.now) c.requires.none;
  bad = λ k low. absurd (omega (arith, low));
}

pub choose-given-requires-clause-namers : goal.choose-given-requires-clause-namers
choose-given-requires-clause-namers c = subst (AreNamers c.args.self.now c.args.file) (sym {A = List ℕ} c.loop-place.invariant.edges) c.requires.namers

pub loop-place-preserved : goal.loop-place-preserved
loop-place-preserved c =
    let graph = c.args.self.now in
    let edges = (declared_by graph).edges in
    let file = text_at graph.manifest.paths c.args.file in
    let place = c.loop-place.place in
    let additions = map addition_of c.args.additions.now in
    let one = c.index-additions-place.result in
    let there : slice_get c.args.additions.now place ≡ Some one = get_there c.args.additions.now place one (omega arith) ∙ ap (λ s. Some s) (sym c.index-additions-place.is) in
    let at : slice_get (owners_of edges file additions) place ≡ Some (owner_in edges file one.output) =
    get_map (λ (a : Addition). owner_in edges file a.output) additions place (addition_of one) (get_map addition_of c.args.additions.now place one there) in
    record {
      edges = c.choose-given.ensures.edges ∙ c.loop-place.invariant.edges;
      choices = choices_next (owners_of edges file additions) place (owner_in edges file one.output) at c.choose-given.result (choice_in c.loop-place.chosen) (choice_in c.choose-given.new.chosen) c.choose-given.ensures.given c.loop-place.invariant.choices;
      bad = bad_next (owners_of edges file additions) place (owner_in edges file one.output) at c.choose-given.result (choice_in c.loop-place.chosen) (choice_in c.choose-given.new.chosen)
          (owner_positive edges file one.output) c.choose-given.ensures.given c.loop-place.invariant.choices
          c.loop-place.unfit c.loop-place.invariant.bad c.first_unfit-unfit.result c.first_unfit-unfit.ensures;
    }
