use Rattle.std.proofs.Common.{rules, ◌≡◌, ◌<◌, ◌++◌, ◌∷◌, [], List, ℕ, subst, length}
use Rattle.scopes.specs.Scopes.{IsScopesAt}
use Rattle.scopes.proofs.Keeping.{at_leave}
use Rattle.scopes.proofs.all_scopes.Scopes.leave.Goals as goal

pub returns-in-Some-clause-left : goal.returns-in-Some-clause-left
returns-in-Some-clause-left c = λ past at.
    let was : c.args.self.now.outer.items ≡ c.pop.new.self.items ++ c.in-Some.around ∷ [] = search rules in
    let within : c.args.self.now.present < length c.args.self.now.scopes.items = search rules in
    at_leave c.args.self.now.scopes.items c.args.self.now.present c.pop.new.self.items past c.in-Some.around
    (subst (λ (l : List ℕ). IsScopesAt c.args.self.now.scopes.items c.args.self.now.present l past) was at) within
