use Rattle.std.proofs.Common.{rules, ◌≡◌, false}
use Rattle.std.specs.Option.{is_some}
use Rattle.indexmap.specs.IndexMap.{get_by_text}
use Rattle.scopes.specs.Block.{first_value}
use Rattle.scopes.proofs.LastBound.{few_bound}
use Rattle.scopes.proofs.block.Block.bind.Goals as goal

pub returns-clause-ok : goal.returns-clause-ok
returns-clause-ok c = λ other.
    let none : is_some c.args.self.now.others ≡ false = search rules in
    rw c.in_ok-name.ensures at (few_bound (λ others. get_by_text others.value other) (first_value c.args.self.now.first other) c.args.self.now.few.items c.push.new.self.items (record { name = c.in_ok-name.name; value = c.args.value }) other c.args.self.now.others none c.in_ok-push.ensures.items)
