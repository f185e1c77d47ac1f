use Rattle.std.proofs.Common.{◌≡◌, length}
use Rattle.scopes.specs.Marks.{AreOfScopes}
use Rattle.scopes.proofs.marks.scope_marks.Given as goal

abbrev pub invariant-loop-scope : goal.invariant-loop-scope
invariant-loop-scope l = record { count : length l.all.items ≡ l.scope-index; marks : AreOfScopes l.fn.scopes l.all.items }
