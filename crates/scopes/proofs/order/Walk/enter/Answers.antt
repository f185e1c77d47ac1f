use Rattle.std.proofs.Common.{rules, ◌≡◌, ◌++◌, ◌∷◌, [], List, ℕ, ◌<◌, ◌+◌, ◌∙◌, sym, ap, subst, arith, length, true, false}
use Rattle.std.proofs.lemmas.List.{length_push}
use Rattle.scopes.specs.Use.{opened, has}
use Rattle.scopes.specs.Walk.{IsWalkAt, is_unseen, count_names}
use Rattle.scopes.proofs.Walking.{walk_enter, walk_circle, unseen_enter, opened_text}
use Rattle.scopes.proofs.order.Walk.enter.Goals as goal

pub returns-then-is_among-clause-circle : goal.returns-then-is_among-clause-circle
returns-then-is_among-clause-circle c = λ same.
    let walk = c.args.self.now in
    let again : has walk.stack.items c.args.next.now ≡ true = search rules in
    walk_circle (opened walk.at.now) walk.asked.now walk.stack.items walk.order.items c.requires.walk c.args.next.now c.requires.next again

pub returns-clause-walk : goal.returns-clause-walk
returns-clause-walk c =
    let walk = c.args.self.now in
    let pushed : c.push.new.self.items ≡ walk.stack.items ++ c.args.next.now ∷ [] = search rules in
    subst (λ (l : List (List ℕ)). IsWalkAt (opened walk.at.now) walk.asked.now l walk.order.items) (sym {A = List (List ℕ)} pushed)
    (walk_enter (opened walk.at.now) walk.asked.now walk.stack.items walk.order.items c.requires.walk c.args.next.now c.requires.next)

pub returns-clause-nearer : goal.returns-clause-nearer
returns-clause-nearer c =
    let walk = c.args.self.now in
    let pushed : c.push.new.self.items ≡ walk.stack.items ++ c.args.next.now ∷ [] = search rules in
    let unstacked : has walk.stack.items c.args.next.now ≡ false = search rules in
    let es = walk.at.now.rule.now.variables.entries in
    let text = opened_text walk.at.now c.args.next.now c.requires.next.opened in
    let unseen : count_names (is_unseen c.push.new.self.items walk.order.items) es < count_names (is_unseen walk.stack.items walk.order.items) es =
    subst (λ (l : List (List ℕ)). count_names (is_unseen l walk.order.items) es < count_names (is_unseen walk.stack.items walk.order.items) es) (sym {A = List (List ℕ)} pushed)
    (unseen_enter walk.stack.items walk.order.items c.args.next.now unstacked c.requires.next.unlisted es text.0 text.1) in
    let longer : length c.push.new.self.items ≡ length walk.stack.items + 1 = ap length pushed ∙ length_push walk.stack.items c.args.next.now in
    omega (arith, unseen, longer)
