use Rattle.std.proofs.Common.{◌≡◌, ◌∙◌, ◌<◌, ℕ, List, IfSome, ap, length, subst, sym, take}
use Rattle.std.proofs.lemmas.List.Elements.{All-take}
use Rattle.graph.specs.declared.choice.Choice.{Choice}
use Rattle.graph.specs.Chosen.{IsWithin}
use Rattle.graph.specs.Fronts.{AreCut}
use Rattle.graph.specs.Gains.{gained_times}
use Rattle.graph.specs.InTurn.{users_given, users_with, AreInputsBelow}
use Rattle.graph.proofs.Ends.{ok_of, err_of}
use Rattle.graph.proofs.InTurn.{all_chosen, take_push}
use Rattle.graph.proofs.Losing.{given_back}
use Rattle.graph.proofs.Using.{length-used, used_push}
use Rattle.graph.proofs.loaded.use_gains.Goals as goal

pub use_gain-requires-clause-inputs : goal.use_gain-requires-clause-inputs
use_gain-requires-clause-inputs c =
    let long : length c.loop-done.users ≡ length c.args.users.now = ap (λ (l : List (List ℕ)). length l) c.loop-done.invariant ∙ length-used c.args.gains.now c.args.users.now (take c.loop-done.done c.args.chosen.now) in
    subst (λ (n : ℕ). AreInputsBelow n c.args.gains.now) (sym long) c.requires.inputs

pub use_gain-requires-clause-within : goal.use_gain-requires-clause-within
use_gain-requires-clause-within c =
    let x = c.index-chosen-done.result in
    subst (λ (y : Choice). IfSome y.statement (λ k. k < length c.args.gains.now)) (sym c.index-chosen-done.is) (c.requires.within.1 c.loop-done.done x c.loop-done-test.true).statement

pub unuse_gains-requires-clause-inputs : goal.unuse_gains-requires-clause-inputs
unuse_gains-requires-clause-inputs c =
    let kept : c.use_gain.new.users ≡ c.loop-done.users = err_of c.use_gain.result (sym c.if-is_err.ensures.value) c.use_gain.ensures.err in
    let long : length c.use_gain.new.users ≡ length c.args.users.now =
    ap (λ (l : List (List ℕ)). length l) (kept ∙ c.loop-done.invariant) ∙ length-used c.args.gains.now c.args.users.now (take c.loop-done.done c.args.chosen.now) in
    subst (λ (n : ℕ). AreInputsBelow n c.args.gains.now) (sym long) c.requires.inputs

pub unuse_gains-requires-clause-within : goal.unuse_gains-requires-clause-within
unuse_gains-requires-clause-within c =
    (c.requires.within.0, All-take (IsWithin c.requires.within.0 (length c.args.gains.now)) c.loop-done.done c.args.chosen.now c.requires.within.1)

pub returns-then-is_err-clause-err : goal.returns-then-is_err-clause-err
returns-then-is_err-clause-err c =
    let gains = c.args.gains.now in
    let front = take c.loop-done.done c.args.chosen.now in
    let kept : c.use_gain.new.users ≡ c.loop-done.users = err_of c.use_gain.result (sym c.if-is_err.ensures.value) c.use_gain.ensures.err in
    given_back gains c.args.users.now c.unuse_gains.new.users front c.requires.inputs (subst (λ (l : List (List ℕ)). AreCut (gained_times gains front) l c.unuse_gains.new.users) (kept ∙ c.loop-done.invariant) c.unuse_gains.ensures)

pub loop-done-preserved : goal.loop-done-preserved
loop-done-preserved c =
    let gains = c.args.gains.now in
    let chosen = c.args.chosen.now in
    let done = c.loop-done.done in
    let x = c.index-chosen-done.result in
    ok_of c.use_gain.result (sym c.if-is_err.ensures.value) c.use_gain.ensures.ok
    ∙ (ap (λ (l : List (List ℕ)). users_with gains l x.edge x.statement) c.loop-done.invariant
    ∙ (sym (used_push gains c.args.users.now (take done chosen) x) ∙ sym (ap (users_given gains c.args.users.now) (take_push chosen done x c.loop-done-test.true c.index-chosen-done.is))))

pub returns-clause-ok : goal.returns-clause-ok
returns-clause-ok c = c.loop-done.invariant ∙ ap (users_given c.args.gains.now c.args.users.now) (all_chosen c.args.chosen.now c.loop-done.done c.loop-done-test.false)
