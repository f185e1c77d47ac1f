use Rattle.std.proofs.Common.{◌≡◌, ◌<◌, ◌≤◌, ℕ, length, nat_lt, refl, sym, ap, ◌∙◌, subst, arith}
use Rattle.std.proofs.lemmas.Result.{err_from_is_err_and}
use Rattle.std.specs.List.{AllByRecursion}
use Rattle.model.specs.declared.graph.BuildGraph.{BuildGraph}
use Rattle.manifest.specs.Answer.{IsWellFormed}
use Rattle.manifest.specs.Readings.Outcome.{Reached}
use Rattle.manifest.specs.Readings.Then.{goes_on}
use Rattle.manifest.specs.States.{named}
use Rattle.manifest.proofs.Added.{longer_length}
use Rattle.manifest.proofs.Binds.{then_fault, then_next_fault}
use Rattle.manifest.proofs.EdgeFormed.{formed_edges}
use Rattle.manifest.proofs.GraphMade.{same_defaults, same_graph, lines_within, as_many}
use Rattle.manifest.proofs.Naming.{numbered, known_at, dyndep_at, few_fit}
use Rattle.manifest.proofs.kept.Declared.finish.Goals as goal

pub returns-in_err-actions-clause-said : goal.returns-in_err-actions-clause-said
returns-in_err-actions-clause-said c = λ state at.
    let failed = err_from_is_err_and c.from_residual.result c.from_residual.ensures.1 in
    rw (failed.1, failed.2) (then_fault _ _ _ (c.in_err-actions.ensures.edges state.past state.pools state.builds at.scopes at.pools at.edges at.paths.lines))

pub returns-in_err-defaults-clause-said : goal.returns-in_err-defaults-clause-said
returns-in_err-defaults-clause-said c = λ state at.
    let failed = err_from_is_err_and c.from_residual-in_err-defaults.result c.from_residual-in_err-defaults.ensures.1 in
    rw (failed.1, failed.2) (then_next_fault _ _ _ _ (c.in_ok-actions.ensures.edges state.past state.pools state.builds at.scopes at.pools at.edges at.paths.lines)
    (then_fault _ _ _ (c.in_err-defaults.ensures.said c.args.self.paths.table (named state.builds) state.defaults c.in_ok-actions.ensures.grows c.len-named.ensures.count at.paths.keys (rw c.as_slice.ensures.value at.defaults))))

pub expand_all-requires-clause-count : goal.expand_all-requires-clause-count
expand_all-requires-clause-count c = as_many c.args.self _ c.requires.stated.1

pub manifest_of-requires-clause-numbered : goal.manifest_of-requires-clause-numbered
manifest_of-requires-clause-numbered c = λ p.
    numbered c.args.self.paths.table c.args.self.paths.lines c.requires.stated.0.builds c.len-named.ensures.once c.requires.stated.1.paths p ∙ ap (λ (n : ℕ). nat_lt p n) (sym c.len-named.ensures.count)

pub returns-clause-said : goal.returns-clause-said
returns-clause-said c = λ state at.
    goes_on (c.in_ok-actions.ensures.edges state.past state.pools state.builds at.scopes at.pools at.edges at.paths.lines)
    (goes_on (c.in_ok-defaults.ensures.said c.args.self.paths.table (named state.builds) state.defaults c.in_ok-actions.ensures.grows c.len-named.ensures.count at.paths.keys (rw c.as_slice.ensures.value at.defaults))
    (ap (λ (graph : BuildGraph). Reached graph) c.manifest_of.ensures.graph ∙ same_graph state _ _ _ _ _ refl (c.in_ok-pools.ensures ∙ at.pools) (c.in_ok-defaults.ensures.texts ∙ same_defaults _ _ (rw c.as_slice.ensures.value at.defaults)) (c.in_ok-builddir.ensures state.past at.scopes)))

pub returns-clause-graph : goal.returns-clause-graph
returns-clause-graph c =
    subst (λ (graph : BuildGraph). AllByRecursion IsWellFormed graph.edges) (sym c.manifest_of.ensures.graph)
    (formed_edges c.args.self.paths.table _ c.args.self.paths.lines _ c.in_ok-actions.ensures.grows c.requires.formed.paths)
