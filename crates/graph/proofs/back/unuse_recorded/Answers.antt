use Rattle.std.proofs.Common.{◌≡◌, ◌∙◌, ◌+◌, ◌<◌, ◌++◌, ◌∷◌, [], ℕ, true, List, ap, length, refl, subst, sym, take}
use Rattle.std.proofs.lemmas.List.{map-append, take_all}
use Rattle.model.specs.Graph.{has_number}
use Rattle.graph.specs.declared.back.LoadedEdge.{LoadedEdge}
use Rattle.graph.specs.Fronts.{AreCut, recorded_times}
use Rattle.graph.specs.Held.{times}
use Rattle.graph.specs.LoadedEdges.{numbers_in}
use Rattle.graph.proofs.Fronts.{cut_none, cut_then, recorded_push}
use Rattle.graph.proofs.Gaining.{take_item}
use Rattle.graph.proofs.Parts.{all_index}
use Rattle.graph.proofs.Texts.{within_of}
use Rattle.graph.proofs.Undoing.{item_at}
use Rattle.graph.proofs.back.unuse_recorded.Goals as goal

pub loop-loaded-init : goal.loop-loaded-init
loop-loaded-init c = cut_none (recorded_times c.args.recorded.now (numbers_in (take 0 c.args.edges.now))) c.args.users.now (λ p. refl)

pub at-requires : goal.at-requires
at-requires c =
    let l = c.loaded-item.result in
    c.requires.edges c.loop-loaded.loaded-index l (item_at c.args.edges.now c.loop-loaded.loaded-index l c.loop-loaded-test.true c.loaded-item.is)

pub pop_all-requires : goal.pop_all-requires
pop_all-requires c =
    let now = length c.loop-loaded.users in
    let inputs = c.at.result.now in
    all_index now inputs (within_of now inputs (λ p h.
    subst (λ (n : ℕ). p < n) (sym {A = ℕ} c.loop-loaded.invariant.fits) (c.requires.within c.loaded-item.result.edge p (subst (λ (l : List ℕ). has_number l p ≡ true) c.at.ensures h))))

pub loop-loaded-preserved : goal.loop-loaded-preserved
loop-loaded-preserved c =
    let recorded = c.args.recorded.now in
    let edges = c.args.edges.now in
    let k = c.loop-loaded.loaded-index in
    let x = c.loaded-item.result in
    let front = numbers_in (take k edges) in
    let next : numbers_in (take (k + 1) edges) ≡ front ++ x.edge ∷ [] = ap numbers_in (take_item edges k x c.loop-loaded-test.true c.loaded-item.is) ∙ map-append (λ (l : LoadedEdge). l.edge) (take k edges) (x ∷ []) in
    cut_then (recorded_times recorded front) (times c.at.result.now) (recorded_times recorded (numbers_in (take (k + 1) edges))) c.args.users.now c.loop-loaded.users c.pop_all.new.self
    (λ p. ap (λ (l : List ℕ). recorded_times recorded l p) next ∙ (recorded_push recorded front x.edge p ∙ ap (λ (l : List ℕ). recorded_times recorded front p + times l p) (sym {A = List ℕ} c.at.ensures)))
    c.loop-loaded.invariant c.pop_all.ensures.cut

pub returns : goal.returns
returns c =
    subst (λ (l : List LoadedEdge). AreCut (recorded_times c.args.recorded.now (numbers_in l)) c.args.users.now c.loop-loaded.users) (take_all c.loop-loaded.loaded-index c.args.edges.now c.loop-loaded-test.false) c.loop-loaded.invariant
