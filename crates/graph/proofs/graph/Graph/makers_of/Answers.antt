use Rattle.std.proofs.Common.{◌≡◌, ◌∙◌, ◌<◌, ◌+◌, ℕ, List, Vec, Global, ap, sym, subst, length, take, get_or, arith, ◌++◌, ◌∷◌, []}
use Rattle.std.specs.List.{AllByRecursion}
use Rattle.std.proofs.lemmas.List.{get_or_default}
use Rattle.model.specs.Graph.{later_number}
use Rattle.paths.specs.Told.{texts_at}
use Rattle.graph.specs.Linked.{AreMakersOf}
use Rattle.graph.specs.Told.{declared_by}
use Rattle.graph.proofs.Makes.{maker_is}
use Rattle.graph.proofs.Parts.{all_push}
use Rattle.graph.proofs.Turns.{makers_push, makers_skip}
use Rattle.graph.proofs.graph.Graph.makers_of.Goals as goal
use Rattle.graph.proofs.graph.Graph.makers_of.Goals.{in-Some+in_ok-push, in_default}

pub loop-target-preserved : goal.loop-target-preserved
loop-target-preserved c =
    let graph = c.args.self.now in
    let targets = c.args.targets.now in
    let place = c.loop-target.target-index in
    let low : get_or targets place 0 < length graph.manifest.paths = c.requires place 0 c.loop-target-test.true in
    let at : c.target-item.result ≡ get_or targets place 0 = c.target-item.is ∙ get_or_default targets place c.target-item.result 0 c.loop-target-test.true in
    let within : c.target-item.result < length graph.manifest.paths = omega (arith, low, at) in
    let made = maker_is graph.manifest graph.makers graph.making graph.apart c.target-item.result within in
    elim c.match-maker.branch [
      | in-Some+in_ok-push w ↦
          let grown : c.match-maker.edges.items ≡ c.loop-target.edges.items ++ w.in-Some.edge ∷ [] = ap (λ (v : Vec ℕ Global). v.items) w.edges-is ∙ w.in_ok-push.ensures.items in
          record {
            within = subst (AllByRecursion (λ e. e < length graph.manifest.lines)) (sym {A = List ℕ} grown) (all_push (length graph.manifest.lines) c.loop-target.edges.items w.in-Some.edge c.loop-target.invariant.within w.in-Some.ensures.within);
            makers = subst (λ (l : List ℕ). AreMakersOf (declared_by graph).edges (texts_at graph.manifest.paths (take (place + 1) targets)) l) (sym {A = List ℕ} grown)
                (makers_push (declared_by graph).edges graph.manifest.paths targets c.loop-target.edges.items place c.target-item.result c.loop-target-test.true c.target-item.is c.loop-target.invariant.makers w.in-Some.edge
                (made ∙ ap later_number (sym w.in-Some.ensures.value)));
          }
      | in_default w ↦
          let kept : c.match-maker.edges.items ≡ c.loop-target.edges.items = ap (λ (v : Vec ℕ Global). v.items) w.edges-is in
          record {
            within = subst (AllByRecursion (λ e. e < length graph.manifest.lines)) (sym {A = List ℕ} kept) c.loop-target.invariant.within;
            makers = subst (λ (l : List ℕ). AreMakersOf (declared_by graph).edges (texts_at graph.manifest.paths (take (place + 1) targets)) l) (sym {A = List ℕ} kept)
                (makers_skip (declared_by graph).edges graph.manifest.paths targets c.loop-target.edges.items place c.target-item.result c.loop-target-test.true c.target-item.is c.loop-target.invariant.makers
                (made ∙ ap later_number (sym c.maker.ensures.value ∙ w.in_default.is)));
          }
    ]
