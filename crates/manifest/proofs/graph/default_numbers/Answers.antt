use Rattle.std.proofs.Common.{arith, add-one, drop-cons, map, ap, ◌∙◌, refl, subst, sym, List, ℕ, ◌≡◌, [], ◌<◌}
use Rattle.std.specs.List.{AllByRecursion}
use Rattle.paths.specs.Told.{texts_at}
use Rattle.std.proofs.lemmas.List.{drop_all, take_all}
use Rattle.std.proofs.lemmas.Result.{err_from_is_err_and}
use Rattle.manifest.specs.declared.kept.ReadDefault.{ReadDefault}
use Rattle.manifest.proofs.DefaultsAll.{defaults_first, defaults_next, defaults_wrong, defaults_all, default_texts, below_push}
use Rattle.manifest.proofs.graph.default_numbers.Goals as goal

pub loop-default-init : goal.loop-default-init
loop-default-init c =
    let none : c.from_vec-numbers.result ≡ [] = c.from_vec-numbers.ensures ∙ c.in_ok-with_capacity.ensures.items in
    record {
      said = λ known paths said longer count keys all. defaults_first paths said _ all;
      texts = ap (texts_at c.args.table.now) none;
      known = subst (AllByRecursion (λ (n : ℕ). n < c.args.named)) (sym none) tt;
    }

pub loop-default-preserved : goal.loop-default-preserved
loop-default-preserved c = record {
  said = λ known paths said longer count keys all.
      rw add-one (defaults_next paths said _ _ _ (drop-cons c.args.defaults.now c.loop-default.default-index c.default-item.result (omega arith))
      (λ other is. c.in_ok-default_number.ensures.said known paths other longer count keys (rw c.default-item.is is)) (c.loop-default.invariant.said known paths said longer count keys all));
  texts = default_texts c.args.table.now c.args.defaults.now c.loop-default.default-index c.default-item.result c.loop-default.numbers _ c.in_ok-default_number.field-0 c.loop-default-test.true c.default-item.is
      c.loop-default.invariant.texts c.in_ok-push.ensures.ok c.in_ok-default_number.ensures.text;
  known = below_push _ c.loop-default.numbers _ c.in_ok-default_number.field-0 c.in_ok-push.ensures.ok c.in_ok-default_number.ensures.known c.loop-default.invariant.known;
}

pub returns-in_err-default_number-clause-said : goal.returns-in_err-default_number-clause-said
returns-in_err-default_number-clause-said c = λ known paths said longer count keys all.
    let failed = err_from_is_err_and c.from_residual-in_err-default_number.result c.from_residual-in_err-default_number.ensures.1 in
    rw (failed.1, failed.2) (defaults_wrong paths said _ _ _ _ (drop-cons c.args.defaults.now c.loop-default.default-index c.default-item.result (omega arith))
    (λ other is. c.in_err-default_number.ensures.said known paths other longer count keys (rw c.default-item.is is)) (c.loop-default.invariant.said known paths said longer count keys all))

pub returns-clause-said : goal.returns-clause-said
returns-clause-said c = λ known paths said longer count keys all.
    defaults_all paths said _ (drop_all c.loop-default.default-index c.args.defaults.now (omega arith)) (c.loop-default.invariant.said known paths said longer count keys all)

pub returns-clause-texts : goal.returns-clause-texts
returns-clause-texts c = c.loop-default.invariant.texts ∙ ap (map (λ (default : ReadDefault). default.path)) (take_all c.loop-default.default-index c.args.defaults.now c.loop-default-test.false)

pub returns-clause-known : goal.returns-clause-known
returns-clause-known c = c.loop-default.invariant.known
