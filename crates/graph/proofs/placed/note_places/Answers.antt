use Rattle.std.proofs.Common.{◌≡◌, ◌∙◌, ◌<◌, ℕ, List, ap, get_or, length, refl, subst, sym, take, arith}
use Rattle.std.proofs.Math.ListN.{set}
use Rattle.std.proofs.lemmas.List.{get_or_default, length-set}
use Rattle.graph.specs.Places.{ArePlaces}
use Rattle.graph.proofs.Keeping.{placed_none, placed_next, order_next, order_front, order_whole}
use Rattle.graph.proofs.placed.note_places.Goals as goal

pub loop-place-init : goal.loop-place-init
loop-place-init c = record { fits = refl; placed = placed_none c.args.places.now }

pub loop-place-preserved : goal.loop-place-preserved
loop-place-preserved c =
    let order = c.args.order.now in
    let k = c.loop-place.place in
    let old = c.loop-place.places in
    let e = c.index-order-place.result in
    let low = c.loop-place-test.true in
    let at : e ≡ get_or order k 0 = c.index-order-place.is ∙ get_or_default order k e 0 low in
    let within : e < length c.args.places.now = subst (λ (n : ℕ). n < length c.args.places.now) (sym c.index-order-place.is) (c.requires k e low) in
    record {
      fits = length-set old c.index.result k ∙ c.loop-place.invariant.fits;
      placed = subst (λ (l : List ℕ). ArePlaces l (set old c.index.result k)) (sym (order_next order k e low at))
          (placed_next (take k order) old (set old c.index.result k) e k (sym (order_front order k low)) (omega (arith, within, c.loop-place.invariant.fits))
          (ap (λ (n : ℕ). set old n k) c.index.ensures.place) c.loop-place.invariant.placed);
    }

pub returns-clause-placed : goal.returns-clause-placed
returns-clause-placed c = subst (λ (l : List ℕ). ArePlaces l c.loop-place.places) (order_whole c.args.order.now c.loop-place.place (omega (arith, c.loop-place-test.false))) c.loop-place.invariant.placed
