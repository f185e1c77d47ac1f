use Rattle.std.proofs.Common.{rules, ◌≡◌, length, refl, sym, ◌∙◌}
use Rattle.std.proofs.lemmas.Result.{err_from_is_err_and}
use Rattle.std.proofs.lemmas.List.{map-id}
use Rattle.std.proofs.lemmas.Iterator.Adapters.{YieldsList-from_vec}
use Rattle.std.proofs.lemmas.Iterator.Consumers.{YieldsList-end}
use Rattle.manifest.specs.Places.{place_of}
use Rattle.manifest.specs.States.{with_defaults}
use Rattle.manifest.proofs.Binds.{then_fault, then_ok}
use Rattle.manifest.proofs.DefaultLemmas.{defaults_at, defaults_push}
use Rattle.manifest.proofs.kept.Declared.read_default.Goals as goal

pub returns-in_err-paths-clause-said : goal.returns-in_err-paths-clause-said
returns-in_err-paths-clause-said c = λ state is_state.
    let failed = err_from_is_err_and c.from_residual.result c.from_residual.ensures.1 in
    rw (failed.1, failed.2) (then_fault _ _ c.in_err-paths.field-0.0 (c.in_err-paths.ensures state is_state))

pub loop-path-preserved : goal.loop-path-preserved
loop-path-preserved c = record {
  scopes = c.loop-path.invariant.scopes;
  edges = c.loop-path.invariant.edges;
  pools = c.loop-path.invariant.pools;
  paths = c.loop-path.invariant.paths;
  defaults = λ said all. defaults_push (place_of c.args.place.now) c.loop-path.self.defaults.items _ said c.loop-path.yielded _ c.in-Some.path c.in_ok-push.ensures.items (c.loop-path.invariant.defaults said all)
      (record { file = c.in_ok-clone.ensures.cases; line = refl; path = refl });
}

pub returns-clause-said : goal.returns-clause-said
returns-clause-said c = λ state is_state.
    let gives = c.into_iter-path-iterator.ensures.into_iter_gives in
    let long : c.into_iter-path-iterator.result.rest.len ≡ length c.in_ok-paths.paths = search rules in
    let road = YieldsList-from_vec {s = c.into_iter-path-iterator.result} c.in_ok-paths.paths (gives.0 ∙ c.into_vec-path-items.ensures) long in
    let whole = YieldsList-end road c.loop-path.yielded _ c.loop-path.yielded_by c.next.result c.next.new.self c.in-None.is c.next.ensures.steps in
    let all : c.loop-path.yielded ≡ c.in_ok-paths.paths = sym (map-id c.loop-path.yielded) ∙ whole.0 in (
      with_defaults (defaults_at (place_of c.args.place.now) c.in_ok-paths.paths) state,
      record {
        scopes = rw c.loop-path.invariant.scopes is_state.scopes;
        edges = rw c.loop-path.invariant.edges is_state.edges;
        pools = rw c.loop-path.invariant.pools is_state.pools;
        defaults = rw (← all) (c.loop-path.invariant.defaults state.defaults is_state.defaults);
        paths = rw c.loop-path.invariant.paths is_state.paths;
      },
      then_ok _ _ c.in_ok-paths.paths _ (c.in_ok-paths.ensures state is_state) refl,
    )
