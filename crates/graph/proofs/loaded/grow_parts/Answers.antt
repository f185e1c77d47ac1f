use Rattle.std.proofs.Common.{◌≡◌, ◌∙◌, ℕ, List, Option, ap, length, sym, subst, take, arith}
use Rattle.graph.specs.declared.loaded.Parts.{Parts}
use Rattle.graph.specs.Fronts.{AreCut}
use Rattle.graph.specs.Gains.{gained_times, HaveGrown}
use Rattle.graph.specs.Held.{more_lists}
use Rattle.graph.specs.InTurn.{users_given, AreInputsBelow}
use Rattle.graph.specs.Statements.{IsPartsFault}
use Rattle.graph.proofs.Ends.{some_err}
use Rattle.graph.proofs.Fronts.{more_back}
use Rattle.graph.proofs.Loading.{parts_fault}
use Rattle.graph.proofs.Losing.{given_back, given_grown}
use Rattle.graph.proofs.Using.{length-more, length-used}
use Rattle.graph.proofs.loaded.grow_parts.Goals as goal

pub grow_users-requires-clause-longer : goal.grow_users-requires-clause-longer
grow_users-requires-clause-longer c = let fits = c.requires.users in let count = c.len-paths.ensures.count in omega (arith, fits, count)

pub grow_users-requires-clause-inputs : goal.grow_users-requires-clause-inputs
grow_users-requires-clause-inputs c = subst (λ (n : ℕ). AreInputsBelow n c.args.gains.now) (sym {A = ℕ} c.len-paths.ensures.count) c.requires.inputs

pub grow_users-requires-clause-within : goal.grow_users-requires-clause-within
grow_users-requires-clause-within c = (length c.requires.grown.before, c.requires.grown.within)

pub returns-in_err-grow_users-clause-kept : goal.returns-in_err-grow_users-clause-kept
returns-in_err-grow_users-clause-kept c =
    let with_users : List (List ℕ) → Parts = λ users. record { makers = c.args.parts.now.makers; users = users } in
    some_err c.from_residual.result (ap with_users c.in_err-grow_users.ensures.err)

pub returns-in-Ok-clause-users : goal.returns-in-Ok-clause-users
returns-in-Ok-clause-users c = c.in_ok-grow_users.ensures.ok ∙ ap (λ (n : ℕ). users_given c.args.gains.now (more_lists c.args.parts.now.users n) c.args.chosen.now) c.len-paths.ensures.count

pub returns-in-Ok-clause-grown : goal.returns-in-Ok-clause-grown
returns-in-Ok-clause-grown c =
    let users = c.args.parts.now.users in
    let gains = c.args.gains.now in
    let chosen = c.args.chosen.now in
    let are : c.grow_users.new.users ≡ users_given gains (more_lists users (length c.args.manifest.now.paths)) chosen = c.in_ok-grow_users.ensures.ok ∙ ap (λ (n : ℕ). users_given gains (more_lists users n) chosen) c.len-paths.ensures.count in
    subst (HaveGrown gains chosen users) (sym {A = List (List ℕ)} are) (given_grown gains users (length c.args.manifest.now.paths) chosen c.requires.users c.requires.inputs)

pub unuse_gains-requires-clause-inputs : goal.unuse_gains-requires-clause-inputs
unuse_gains-requires-clause-inputs c =
    let users = c.args.parts.now.users in
    let count = c.len-paths.ensures.count in
    let fits = c.requires.users in
    let long : length c.grow_users.new.users ≡ c.len-paths.result =
    ap (λ (l : List (List ℕ)). length l) c.in_ok-grow_users.ensures.ok ∙ (length-used c.args.gains.now (more_lists users c.len-paths.result) c.args.chosen.now ∙ length-more users c.len-paths.result (omega (arith, fits, count))) in
    subst (λ (n : ℕ). AreInputsBelow n c.args.gains.now) (sym {A = ℕ} (long ∙ count)) c.requires.inputs

pub unuse_gains-requires-clause-within : goal.unuse_gains-requires-clause-within
unuse_gains-requires-clause-within c = (length c.requires.grown.before, c.requires.grown.within)

pub returns-in-Err-clause-kept : goal.returns-in-Err-clause-kept
returns-in-Err-clause-kept c =
    let users = c.args.parts.now.users in
    let gains = c.args.gains.now in
    let chosen = c.args.chosen.now in
    let count = c.len-paths.ensures.count in
    let fits = c.requires.users in
    let wide = more_lists users c.len-paths.result in
    let long : length wide ≡ length c.args.manifest.now.paths = length-more users c.len-paths.result (omega (arith, fits, count)) ∙ count in
    let below : AreInputsBelow (length wide) gains = subst (λ (n : ℕ). AreInputsBelow n gains) (sym {A = ℕ} long) c.requires.inputs in
    let lost : c.unuse_gains.new.users ≡ wide =
    given_back gains wide c.unuse_gains.new.users chosen below (subst (λ (l : List (List ℕ)). AreCut (gained_times gains chosen) l c.unuse_gains.new.users) c.in_ok-grow_users.ensures.ok c.unuse_gains.ensures) in
    let back : c.truncate.new.self ≡ users =
    c.truncate.ensures ∙ (ap (λ (n : ℕ). take n c.unuse_gains.new.users) c.len-known.ensures ∙ (ap (take (length users)) lost ∙ more_back users c.len-paths.result)) in
    let with_makers : List (Option ℕ) → Parts = λ makers. record { makers = makers; users = c.truncate.new.self } in
    let with_users : List (List ℕ) → Parts = λ lists. record { makers = c.args.parts.now.makers; users = lists } in
    ap with_makers c.in-Err.ensures.kept ∙ ap with_users back

pub returns-in-Err-clause-fault : goal.returns-in-Err-clause-fault
returns-in-Err-clause-fault c = subst (IsPartsFault c.args.manifest.now) (sym c.extend_fault.ensures) (parts_fault c.args.manifest.now (length c.args.manifest.now.lines) c.in-Err.fault c.in-Err.ensures.fault)
