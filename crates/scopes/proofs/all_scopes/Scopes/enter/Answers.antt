use Rattle.std.proofs.Common.{rules, ◌≡◌, ◌<◌, ◌++◌, ◌∷◌, [], ◌-◌, length}
use Rattle.scopes.proofs.Keeping.{at_enter}
use Rattle.scopes.proofs.all_scopes.Scopes.enter.Goals as goal

pub returns-clause-ok : goal.returns-clause-ok
returns-clause-ok c = λ past at.
    let old = c.args.self.now in
    let within : old.present < length old.scopes.items = search rules in
    let scopes : c.push.new.self.items ≡ old.scopes.items ++ c.new.result ∷ [] = search rules in
    let outer : c.push-2.new.self.items ≡ old.outer.items ++ old.present ∷ [] = search rules in
    let number : c.len.result - 1 ≡ length old.scopes.items = search rules in
    rw (scopes, outer, number) (at_enter old.scopes.items old.present old.outer.items past at c.new.result c.new.ensures within)
