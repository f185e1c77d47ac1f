use Rattle.std.proofs.Common.{◌≡◌, ◌∙◌, ◌++◌, ◌∷◌, [], ℕ, List, ap, append_assoc, arith}
use Rattle.std.specs.Prelude.{replicate}
use Rattle.std.proofs.lemmas.List.{append-nil, replicate_more}
use Rattle.graph.proofs.Ends.{some_err}
use Rattle.graph.proofs.users.Users.add_paths.Goals as goal

pub loop-done-preserved : goal.loop-done-preserved
loop-done-preserved c =
    let old = c.args.self.now in
    let n = c.loop-done._done in
    c.in_ok-add_path.ensures.ok
    ∙ (ap (λ (l : List (List ℕ)). l ++ [] ∷ []) c.loop-done.invariant ∙ (append_assoc old (replicate n []) ([] ∷ []) ∙ ap (λ (l : List (List ℕ)). old ++ l) (replicate_more n [])))

pub returns-in_err-add_path-clause-err : goal.returns-in_err-add_path-clause-err
returns-in_err-add_path-clause-err c = some_err c.from_residual.result (c.loop-done._done, c.in_err-add_path.ensures.err ∙ c.loop-done.invariant)
