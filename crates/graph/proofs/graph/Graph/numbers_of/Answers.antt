use Rattle.std.proofs.Common.{◌≡◌, ◌<◌, ◌∙◌, ℕ, List, true, ap, sym, subst, Some, slice_get, length, []}
use Rattle.std.specs.List.{AllByRecursion}
use Rattle.std.proofs.lemmas.Option.{get_or_from_slice_get}
use Rattle.model.specs.Graph.{is_named}
use Rattle.graph.specs.Told.{declared_by}
use Rattle.graph.proofs.Asked.{texts_next, named_next}
use Rattle.graph.proofs.Named.{named_number}
use Rattle.graph.proofs.Parts.{all_push}
use Rattle.graph.proofs.graph.Graph.numbers_of.Goals as goal

pub loop-place-preserved : goal.loop-place-preserved
loop-place-preserved c =
    let manifest = c.args.self.now.manifest in
    let target = c.index-asked-place.result in
    let at : slice_get manifest.paths c.in-Some.number ≡ Some target = c.in-Some.ensures.0 ∙ ap (λ (t : List ℕ). Some t) c.as_str.ensures in
    record {
      within = subst (AllByRecursion (λ p. p < length manifest.paths)) (sym {A = List ℕ} c.in_ok-push-in-Some.ensures.items) (all_push (length manifest.paths) c.loop-place.numbers.items c.in-Some.number c.loop-place.invariant.within (manifest.within c.in-Some.number c.in-Some.ensures.1));
      texts = texts_next manifest.paths c.args.asked.now c.loop-place.numbers.items c.push.new.self.items c.loop-place.place c.in-Some.number target c.loop-place-test.true c.index-asked-place.is at c.in_ok-push-in-Some.ensures.items c.loop-place.invariant.texts;
      named = named_next (λ p. is_named (declared_by c.args.self.now).edges p ≡ true) c.args.asked.now c.loop-place.place target c.loop-place-test.true c.index-asked-place.is c.loop-place.invariant.named
          (subst (λ (t : List ℕ). is_named (declared_by c.args.self.now).edges t ≡ true) (get_or_from_slice_get manifest.paths c.in-Some.number target [] at) (named_number manifest c.in-Some.number c.in-Some.ensures.1));
    }
