use Rattle.std.proofs.Common.{ℕ, List, [], suc, refl, sym, ◌∙◌, ap, subst}
use Rattle.model.specs.Graph.{edge_at, outputs}
use Rattle.model.specs.Records.{all_paths_in}
use Rattle.graph.specs.declared.graph.Graph.{Graph}
use Rattle.graph.specs.Held.{list_at}
use Rattle.graph.specs.Told.{declared_by}
use Rattle.records.specs.Known.{AreKnown}
use Rattle.work.specs.Recorded.{HasMorePaths, AreNumbered, HaveJust, texts_of}
use Rattle.work.proofs.Joining.{joined_unused, joined_used, others_kept, all_within, numbered_gained}
use Rattle.work.proofs.Numbering.{more_none, more_then, more_gained, only_same, only_then}
use Rattle.work.proofs.recorded.Numbers.join_edge.Goals as goal

pub returns-then-not-is_in_use-clause-joined : goal.returns-then-not-is_in_use-clause-joined
returns-then-not-is_in_use-clause-joined c rs ds known may =
    joined_unused c.args.graph.now rs ds c.args.edge (sym (c.is_in_use.ensures rs ds known) ∙ c.if-not-is_in_use.true) may

pub returns-then-not-is_in_use-clause-grown : goal.returns-then-not-is_in_use-clause-grown
returns-then-not-is_in_use-clause-grown c = more_none c.args.graph.now

pub returns-in_err-put_inputs-clause-grown : goal.returns-in_err-put_inputs-clause-grown
returns-in_err-put_inputs-clause-grown c = (only_then c.args.graph.now c.lend_set-inputs.new.self c.put_inputs.new.graph (only_same c.args.graph.now c.lend_set-inputs.new.self c.lend_set-inputs.ensures.same) c.put_inputs.ensures.grown).grown

pub returns-in_err-put_inputs-clause-others : goal.returns-in_err-put_inputs-clause-others
returns-in_err-put_inputs-clause-others c e other =
    ap (λ (l : List (List ℕ)). list_at l e) (only_then c.args.graph.now c.lend_set-inputs.new.self c.put_inputs.new.graph (only_same c.args.graph.now c.lend_set-inputs.new.self c.lend_set-inputs.ensures.same) c.put_inputs.ensures.grown).recorded

pub returns-in_err-add_set-clause-grown : goal.returns-in_err-add_set-clause-grown
returns-in_err-add_set-clause-grown c = subst (λ (g : Graph). HasMorePaths c.args.graph.now g) (sym {A = Graph} c.in_err-add_set.ensures.err)
    (only_then c.args.graph.now c.lend_set-inputs.new.self c.put_inputs.new.graph (only_same c.args.graph.now c.lend_set-inputs.new.self c.lend_set-inputs.ensures.same) c.put_inputs.ensures.grown).grown

pub returns-in_err-add_set-clause-others : goal.returns-in_err-add_set-clause-others
returns-in_err-add_set-clause-others c e other =
    ap (λ (g : Graph). list_at g.recorded e) c.in_err-add_set.ensures.err
    ∙ ap (λ (l : List (List ℕ)). list_at l e) (only_then c.args.graph.now c.lend_set-inputs.new.self c.put_inputs.new.graph (only_same c.args.graph.now c.lend_set-inputs.new.self c.lend_set-inputs.ensures.same) c.put_inputs.ensures.grown).recorded

pub add_set-requires-clause-inputs : goal.add_set-requires-clause-inputs
add_set-requires-clause-inputs c =
    let known = c.requires.known in
    let back = sym {A = Graph} c.lend_set-inputs.ensures.same in
    let texts = texts_of c.args.records.now in
    let numbers = c.args.self.now.known.items in
    let still = subst (λ (g : Graph). AreKnown g known.0 known.1 c.args.records.now) back known.2 in
    let numbered = subst (λ (g : Graph). AreNumbered g texts numbers) back c.requires.numbered in
    all_within c.put_inputs.new.graph c.put_inputs.new.inputs c.put_inputs.new.inputs _ refl (c.in_ok-put_inputs.ensures.inputs known.0 known.1 still numbered)

pub returns-clause-numbered : goal.returns-clause-numbered
returns-clause-numbered c k n is =
    let back = sym {A = Graph} c.lend_set-inputs.ensures.same in
    let texts = texts_of c.args.records.now in
    let numbers = c.args.self.now.known.items in
    let numbered = subst (λ (g : Graph). AreNumbered g texts numbers) back c.requires.numbered in
    numbered_gained c.put_inputs.new.graph c.add_set.new.self c.args.edge c.put_inputs.new.inputs c.in_ok-add_set.ensures.gained texts c.put_inputs.new.self.known.items (c.put_inputs.ensures.numbered numbered) k n is

pub returns-clause-joined : goal.returns-clause-joined
returns-clause-joined c rs ds known may =
    let graph = c.args.graph.now in
    let lent = c.lend_set-inputs.new.self in
    let same = c.lend_set-inputs.ensures.same in
    let back = sym {A = Graph} same in
    let texts = texts_of c.args.records.now in
    let numbers = c.args.self.now.known.items in
    let new = c.put_inputs.new.graph in
    let inputs = c.put_inputs.new.inputs in
    let edge = c.args.edge in
    let still = subst (λ (g : Graph). AreKnown g rs ds c.args.records.now) back known in
    let numbered = subst (λ (g : Graph). AreNumbered g texts numbers) back c.requires.numbered in
    let just = subst (λ (g : Graph). HaveJust new inputs (all_paths_in ds (outputs (edge_at (declared_by g).edges (suc edge))))) same (c.in_ok-put_inputs.ensures.inputs rs ds still numbered) in
    joined_used graph rs ds new c.add_set.new.self (only_then graph lent new (only_same graph lent same) c.put_inputs.ensures.grown) edge inputs c.in_ok-add_set.ensures.gained
    (sym (c.is_in_use.ensures rs ds known) ∙ c.if-not-is_in_use.false) just may

pub returns-clause-grown : goal.returns-clause-grown
returns-clause-grown c =
    let graph = c.args.graph.now in
    let lent = c.lend_set-inputs.new.self in
    let new = c.put_inputs.new.graph in
    more_then graph new c.add_set.new.self (only_then graph lent new (only_same graph lent c.lend_set-inputs.ensures.same) c.put_inputs.ensures.grown).grown
    (more_gained new c.add_set.new.self c.args.edge c.put_inputs.new.inputs c.in_ok-add_set.ensures.gained)

pub returns-clause-others : goal.returns-clause-others
returns-clause-others c e other =
    let graph = c.args.graph.now in
    let lent = c.lend_set-inputs.new.self in
    let grown = only_then graph lent c.put_inputs.new.graph (only_same graph lent c.lend_set-inputs.ensures.same) c.put_inputs.ensures.grown in
    others_kept graph [] [] c.put_inputs.new.graph c.add_set.new.self grown c.args.edge c.put_inputs.new.inputs c.in_ok-add_set.ensures.gained e other
