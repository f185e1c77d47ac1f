use Rattle.std.proofs.Common.{List, ℕ, ap, sym, subst}
use Rattle.paths.specs.Told.{texts_at}
use Rattle.graph.specs.Linked.{AreMakersOf}
use Rattle.graph.specs.Told.{declared_by}
use Rattle.graph.proofs.Asked.{cone_of_numbers, no_cone_again, if_ok_both}
use Rattle.graph.proofs.Parts.{if_err_then}
use Rattle.graph.proofs.graph.Graph.cone_again.Goals as goal

pub returns-clause-cone : goal.returns-clause-cone
returns-clause-cone c =
    let graph = c.args.self.now in
    let numbers = c.args.targets.items in
    if_ok_both c.of.result c.of.ensures.cone_of c.of.ensures.targets (λ the_cone each kept recorded same.
    cone_of_numbers graph recorded same numbers c.deref-2.result.now
    (subst (λ (l : List ℕ). AreMakersOf (declared_by graph).edges (texts_at graph.manifest.paths numbers) l) (sym {A = List ℕ} c.deref-2.ensures.value)
    (subst (λ (l : List ℕ). AreMakersOf (declared_by graph).edges (texts_at graph.manifest.paths l) c.in_ok-requested.requested.items) c.deref.ensures.value c.in_ok-requested.ensures.makers))
    the_cone (ap (λ v. v.items) kept) each)

pub returns-clause-fault : goal.returns-clause-fault
returns-clause-fault c =
    let graph = c.args.self.now in
    let numbers = c.args.targets.items in
    if_err_then c.of.result c.of.ensures.shown (λ fault shown asked store is told same.
    no_cone_again graph asked store is same numbers c.deref-2.result.now told
    (subst (λ (l : List ℕ). AreMakersOf (declared_by graph).edges (texts_at graph.manifest.paths numbers) l) (sym {A = List ℕ} c.deref-2.ensures.value)
    (subst (λ (l : List ℕ). AreMakersOf (declared_by graph).edges (texts_at graph.manifest.paths l) c.in_ok-requested.requested.items) c.deref.ensures.value c.in_ok-requested.ensures.makers))
    fault shown)
