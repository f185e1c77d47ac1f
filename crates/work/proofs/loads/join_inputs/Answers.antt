use Rattle.std.proofs.Common.{inl, inr, List, refl, sym, subst}
use Rattle.graph.specs.LoadedEdges.{numbers_in}
use Rattle.graph.specs.declared.back.LoadedEdge.{LoadedEdge}
use Rattle.work.specs.Recorded.{AreToJoin, HasGrownAt, HasJoinedOf}
use Rattle.work.proofs.Numbering.{more_none}
use Rattle.work.proofs.loads.join_inputs.Goals as goal

pub returns-in_err-grow-clause-grown : goal.returns-in_err-grow-clause-grown
returns-in_err-grow-clause-grown c = record { grown = more_none c.args.graph.now; others = λ e other. refl }

pub returns-in_err-grow-clause-kept : goal.returns-in_err-grow-clause-kept
returns-in_err-grow-clause-kept c = inl (record { places = c.in_err-grow.ensures.places; deps_places = c.in_err-grow.ensures.deps_places })

pub returns-in_err-join_loaded-clause-grown : goal.returns-in_err-join_loaded-clause-grown
returns-in_err-join_loaded-clause-grown c = subst (λ (l : List LoadedEdge). HasGrownAt (numbers_in l) c.args.graph.now c.join_loaded.new.graph) c.deref.ensures.value c.join_loaded.ensures.grown

pub returns-in_err-join_loaded-clause-kept : goal.returns-in_err-join_loaded-clause-kept
returns-in_err-join_loaded-clause-kept c = inr (λ was more is rs ds known. c.in_ok-grow.ensures.all was more rs ds is known)

pub returns-clause-grown : goal.returns-clause-grown
returns-clause-grown c = subst (λ (l : List LoadedEdge). HasGrownAt (numbers_in l) c.args.graph.now c.join_loaded.new.graph) c.deref.ensures.value c.join_loaded.ensures.grown

pub returns-clause-joined : goal.returns-clause-joined
returns-clause-joined c was more is rs ds known all =
    let graph = c.args.graph.now in
    subst (λ (l : List LoadedEdge). HasJoinedOf (numbers_in l) graph c.join_loaded.new.graph rs ds) c.deref.ensures.value
    (c.in_ok-join_loaded.ensures.joined rs ds (c.in_ok-grow.ensures.known was more rs ds is known)
    (subst (λ (l : List LoadedEdge). AreToJoin (numbers_in l) graph rs ds) (sym {A = List LoadedEdge} c.deref.ensures.value) all))

pub returns-clause-known : goal.returns-clause-known
returns-clause-known c was more is rs ds known = c.in_ok-grow.ensures.known was more rs ds is known

pub returns-clause-kept : goal.returns-clause-kept
returns-clause-kept c = inr (λ was more is rs ds known. c.in_ok-grow.ensures.all was more rs ds is known)
