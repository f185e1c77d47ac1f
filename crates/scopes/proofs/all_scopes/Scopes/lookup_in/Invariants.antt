use Rattle.std.proofs.Common.{◌≡◌, ◌≤◌, List, length, take}
use Rattle.scopes.specs.Moves.{Move, variable, first_in, value_at_end}
use Rattle.scopes.specs.Scopes.{IsScopesOf, scopes_around}
use Rattle.scopes.proofs.all_scopes.Scopes.lookup_in.Given as goal

abbrev pub invariant-loop-inner : goal.invariant-loop-inner
invariant-loop-inner l = record {
  front : l.scopes ≡ take (length l.scopes) l.fn.self.scopes.items;
  fits : length l.scopes ≤ length l.fn.self.scopes.items;
  value : (past : List Move) → IsScopesOf l.fn.self past → value_at_end past l.fn.scope l.fn.name ≡ first_in (variable l.fn.name) past (scopes_around past (length l.scopes));
}

abbrev pub decreases-loop-inner : goal.decreases-loop-inner
decreases-loop-inner l = length l.scopes
