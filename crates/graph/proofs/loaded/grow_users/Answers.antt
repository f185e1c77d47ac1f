use Rattle.std.proofs.Common.{◌≡◌, ◌∙◌, ℕ, List, ap, length, subst, sym, take}
use Rattle.graph.specs.Held.{more_lists}
use Rattle.graph.specs.InTurn.{users_given, AreInputsBelow}
use Rattle.graph.proofs.Ends.{err_of, no_ok, no_err, some_err}
use Rattle.graph.proofs.Fronts.{more_back}
use Rattle.graph.proofs.Parts.{on_ok_then}
use Rattle.graph.proofs.Using.{length-more}
use Rattle.graph.proofs.loaded.grow_users.Goals as goal

pub use_gains-used-requires-clause-inputs : goal.use_gains-used-requires-clause-inputs
use_gains-used-requires-clause-inputs c =
    let users = c.args.users.now in
    let long : length c.lengthen.new.self ≡ c.args.paths = ap (λ (l : List (List ℕ)). length l) c.in_ok-lengthen.ensures.ok ∙ length-more users c.args.paths c.requires.longer in
    subst (λ (n : ℕ). AreInputsBelow n c.args.gains.now) (sym {A = ℕ} long) c.requires.inputs

pub returns-then-is_err-clause-ok : goal.returns-then-is_err-clause-ok
returns-then-is_err-clause-ok c = no_ok _ c.use_gains-used.result (sym c.if-is_err.ensures.value)

pub returns-then-is_err-clause-err : goal.returns-then-is_err-clause-err
returns-then-is_err-clause-err c =
    let users = c.args.users.now in
    let kept : c.use_gains-used.new.users ≡ more_lists users c.args.paths = err_of c.use_gains-used.result (sym c.if-is_err.ensures.value) c.use_gains-used.ensures.err ∙ c.in_ok-lengthen.ensures.ok in
    some_err c.use_gains-used.result (c.truncate.ensures ∙ (ap (λ (n : ℕ). take n c.use_gains-used.new.users) c.len-known.ensures ∙ (ap (take (length users)) kept ∙ more_back users c.args.paths)))

pub returns-else-is_err-clause-ok : goal.returns-else-is_err-clause-ok
returns-else-is_err-clause-ok c =
    on_ok_then c.use_gains-used.result c.use_gains-used.ensures.ok (λ used. used ∙ ap (λ (l : List (List ℕ)). users_given c.args.gains.now l c.args.chosen.now) c.in_ok-lengthen.ensures.ok)

pub returns-else-is_err-clause-err : goal.returns-else-is_err-clause-err
returns-else-is_err-clause-err c = no_err _ c.use_gains-used.result (sym c.if-is_err.ensures.value)
