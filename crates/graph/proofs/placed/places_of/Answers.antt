use Rattle.std.proofs.Common.{◌≡◌, ◌∙◌, ◌++◌, ◌<◌, ℕ, List, ap, drop, length, subst, sym, take, arith}
use Rattle.std.specs.Prelude.{All}
use Rattle.std.proofs.Math.Seq.{take-append_seam}
use Rattle.graph.specs.Places.{ArePlaces}
use Rattle.graph.proofs.placed.places_of.Goals as goal

pub note_places-requires : goal.note_places-requires
note_places-requires c =
    let held = ap (λ (l : List ℕ). length l) c.deref_mut.ensures.value in
    let size : length c.deref_mut.result.now ≡ c.args.edges = omega (arith, held, c.in_ok-places.places.ok.0, c.in_ok-places.ensures.len) in
    subst (λ (n : ℕ). All (λ e. e < n) c.args.order.now) (sym size) c.requires

pub returns-clause-placed : goal.returns-clause-placed
returns-clause-placed c =
    let places = c.in_ok-places.places in
    let now = c.note_places.new.places in
    let held = ap (λ (l : List ℕ). length l) c.deref_mut.ensures.value in
    let size : length now ≡ length places.items = c.note_places.ensures.fits ∙ held in
    let long : places.len ≡ length now = omega (arith, places.ok.0, size) in
    let whole : take places.len (now ++ drop (length now) places.items) ≡ now = ap (λ (n : ℕ). take n (now ++ drop (length now) places.items)) long ∙ take-append_seam now (drop (length now) places.items) in
    subst (ArePlaces c.args.order.now) (sym {A = List ℕ} whole) c.note_places.ensures.placed
