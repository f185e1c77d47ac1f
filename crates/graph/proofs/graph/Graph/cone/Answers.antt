use Rattle.std.proofs.Common.{ℕ, List, ap, sym, subst}
use Rattle.paths.specs.Told.{texts_at}
use Rattle.graph.specs.Linked.{AreMakersOf}
use Rattle.graph.specs.Told.{declared_by}
use Rattle.graph.proofs.Asked.{cone_for, no_cone_for, if_ok_both}
use Rattle.graph.proofs.Parts.{if_err_then}
use Rattle.graph.proofs.graph.Graph.cone.Goals as goal

pub returns-clause-cone : goal.returns-clause-cone
returns-clause-cone c =
    let graph = c.args.self.now in
    let numbers = c.in_ok-numbers.numbers in
    if_ok_both c.of.result c.of.ensures.cone_of c.of.ensures.targets (λ the_cone each kept recorded same.
    cone_for graph recorded same c.args.targets.now numbers.items c.deref-2.result.now c.in_ok-numbers.ensures.within c.in_ok-numbers.ensures.targets c.in_ok-numbers.ensures.named
    (subst (λ (l : List ℕ). AreMakersOf (declared_by graph).edges (texts_at graph.manifest.paths numbers.items) l) (sym {A = List ℕ} c.deref-2.ensures.value)
    (subst (λ (l : List ℕ). AreMakersOf (declared_by graph).edges (texts_at graph.manifest.paths l) c.in_ok-requested.requested.items) c.deref.ensures.value c.in_ok-requested.ensures.makers))
    the_cone (ap (λ v. v.items) kept) each)

pub returns-clause-fault : goal.returns-clause-fault
returns-clause-fault c =
    let graph = c.args.self.now in
    let numbers = c.in_ok-numbers.numbers in
    if_err_then c.of.result c.of.ensures.shown (λ fault shown asked store declared is wants same.
    no_cone_for graph asked store c.args.targets.now declared is wants same numbers.items c.deref-2.result.now c.in_ok-numbers.ensures.targets c.in_ok-numbers.ensures.named
    (subst (λ (l : List ℕ). AreMakersOf (declared_by graph).edges (texts_at graph.manifest.paths numbers.items) l) (sym {A = List ℕ} c.deref-2.ensures.value)
    (subst (λ (l : List ℕ). AreMakersOf (declared_by graph).edges (texts_at graph.manifest.paths l) c.in_ok-requested.requested.items) c.deref.ensures.value c.in_ok-requested.ensures.makers))
    fault shown)
