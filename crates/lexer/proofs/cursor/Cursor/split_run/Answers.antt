use Rattle.std.proofs.Common.{refl, ◌∙◌, ap, ◌++◌, List, ℕ}
use Rattle.lexer.proofs.Places.{behind_a_run}
use Rattle.lexer.proofs.cursor.Cursor.split_run.Goals as goal

pub returns-clause-behind : goal.returns-clause-behind
returns-clause-behind c = behind_a_run c.args.class _ _ (c.split_run.ensures.spelled ∙ ap (λ (xs : List ℕ). xs ++ c.split_run.result.1.now) c.split_run.ensures.run) refl
