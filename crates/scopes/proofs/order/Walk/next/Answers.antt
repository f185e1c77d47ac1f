use Rattle.std.proofs.Common.{rules, arith, ◌≡◌, ◌++◌, ◌∷◌, [], ◌-◌, length, take, Some, None}
use Rattle.scopes.proofs.Lists.{match_weaker, front_last}
use Rattle.scopes.specs.Use.{opened}
use Rattle.scopes.proofs.Walking.{next_of, ready_of, stack_opened}
use Rattle.scopes.proofs.order.Walk.next.Goals as goal

pub returns-in_err-template : goal.returns-in_err-template
returns-in_err-template c =
    let walk = c.args.self.now in
    let parts : walk.stack.items ≡ take (length walk.stack.items - 1) walk.stack.items ++ c.in_ok-name.name.now ∷ [] = front_last walk.stack.items c.in_ok-name.name.now (length walk.stack.items - 1) (omega (arith, c.requires.some)) (search rules) in
    let none : opened walk.at.now c.in_ok-name.name.now ≡ None = search rules in
    absurd (stack_opened (opened walk.at.now) walk.asked.now walk.stack.items walk.order.items c.requires.walk _ c.in_ok-name.name.now parts none)

pub returns : goal.returns
returns c =
    let walk = c.args.self.now in
    let parts : walk.stack.items ≡ take (length walk.stack.items - 1) walk.stack.items ++ c.in_ok-name.name.now ∷ [] = front_last walk.stack.items c.in_ok-name.name.now (length walk.stack.items - 1) (omega (arith, c.requires.some)) (search rules) in
    let is : opened walk.at.now c.in_ok-name.name.now ≡ Some c.in_ok-template.template.now = search rules in
    match_weaker c.first_unlisted.result c.first_unlisted.ensures
    (ready_of (opened walk.at.now) walk.stack.items walk.order.items _ c.in_ok-name.name.now parts c.in_ok-template.template.now is)
    (λ next. next_of (opened walk.at.now) walk.stack.items walk.order.items _ c.in_ok-name.name.now parts c.in_ok-template.template.now is next.now)
