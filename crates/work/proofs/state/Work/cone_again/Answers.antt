use Rattle.std.proofs.Common.{◌≡◌, ℕ, List, true, sym, ◌∙◌, ap, subst, arith}
use Rattle.model.specs.Graph.{has_number}
use Rattle.paths.specs.Told.{texts_at}
use Rattle.graph.specs.declared.back.LoadedEdge.{LoadedEdge}
use Rattle.graph.specs.Extended.{dyndep_at}
use Rattle.graph.specs.LoadedEdges.{numbers_in}
use Rattle.graph.specs.Placed.{AreInPlace}
use Rattle.graph.specs.Targets.{IsConeOfNumbers}
use Rattle.work.proofs.FileJoins.{file_is, kept_cone}
use Rattle.work.proofs.StopCases.{refused_then}
use Rattle.work.proofs.state.Work.cone_again.Goals as goal

pub are_in_place-requires-clause-marks : goal.are_in_place-requires-clause-marks
are_in_place-requires-clause-marks c =
    let kept = c.requires.kept in
    omega (arith, kept.was.fits, kept.grown.as_many, c.lists_stand.ensures.fits, c.args.self.now.cone.marks.ok.0)

pub are_in_place-requires-clause-within : goal.are_in_place-requires-clause-within
are_in_place-requires-clause-within c = λ e there.
    let kept = c.requires.kept in
    let names = file_is (dyndep_at kept.old e) c.args.before.now.file (sym (kept.alone.were e) ∙ subst (λ (l : List LoadedEdge). has_number (numbers_in l) e ≡ true) c.deref.ensures.value there) in
    let low = (c.files_stand.ensures kept.old e c.args.before.now.file names).0 in
    omega (arith, low, kept.lines)

pub returns-then-are_in_place-clause-marks : goal.returns-then-are_in_place-clause-marks
returns-then-are_in_place-clause-marks c =
    let kept = c.requires.kept in
    omega (arith, kept.was.fits, kept.grown.as_many, c.lists_stand.ensures.fits, c.args.self.now.cone.marks.ok.0)

pub returns-then-are_in_place-clause-cone : goal.returns-then-are_in_place-clause-cone
returns-then-are_in_place-clause-cone c recorded same =
    let kept = c.requires.kept in
    let graph = c.args.self.now.graph in
    let cone = c.args.self.now.cone in
    let in_place = subst (λ (l : List LoadedEdge). AreInPlace graph cone (numbers_in l)) c.deref.ensures.value (c.are_in_place.ensures c.if-are_in_place.true) in
    let listed = c.cones_stay.ensures kept.old graph kept.earlier recorded (numbers_in c.args.before.now.edges.items) c.args.before.now.file (texts_at graph.manifest.paths cone.targets.items) cone
    record { within = kept.within; additions = kept.additions; grown = kept.grown; alone = kept.alone; were = kept.were; are = same; stay = λ i p there. same i p ∙ kept.stay i p there } in_place kept.was in
    kept_cone graph recorded cone listed

pub circle-requires : goal.circle-requires
circle-requires c =
    let asked = c.requires.asked in
    let items : c.in_ok-targets.targets.items ≡ c.args.self.now.cone.targets.items = c.in_ok-targets.ensures.items_if_clones_equal (λ x y h. h) ∙ c.as_slice.ensures.value in
    (asked.0, asked.1, c.in-Err.ensures.fault asked.0 asked.1 asked.2 (asked.3 ∙ ap (texts_at c.args.self.now.graph.manifest.paths) (sym {A = List ℕ} items)) asked.4)

pub returns-in-Ok-clause-cone : goal.returns-in-Ok-clause-cone
returns-in-Ok-clause-cone c recorded same =
    let items : c.in_ok-targets.targets.items ≡ c.args.self.now.cone.targets.items = c.in_ok-targets.ensures.items_if_clones_equal (λ x y h. h) ∙ c.as_slice.ensures.value in
    subst (λ (l : List ℕ). IsConeOfNumbers c.args.self.now.graph recorded l c.in-Ok.grown) items (c.in-Ok.ensures.cone recorded same)

pub returns-in_ok-circle-in-Err-clause-refused : goal.returns-in_ok-circle-in-Err-clause-refused
returns-in_ok-circle-in-Err-clause-refused c =
    let items : c.in_ok-targets.targets.items ≡ c.args.self.now.cone.targets.items = c.in_ok-targets.ensures.items_if_clones_equal (λ x y h. h) ∙ c.as_slice.ensures.value in
    refused_then c.in_ok-circle-in-Err.field-0 c.in_ok-circle-in-Err.ensures.refused (λ refusal circle asked store same targets recorded.
    circle asked store (c.in-Err.ensures.fault asked store same (targets ∙ ap (texts_at c.args.self.now.graph.manifest.paths) (sym {A = List ℕ} items)) recorded))
