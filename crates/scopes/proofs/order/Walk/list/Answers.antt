use Rattle.std.proofs.Common.{rules, ◌≡◌, ◌++◌, ◌∷◌, [], List, ℕ, ◌≤◌, ◌+◌, ◌∙◌, sym, ap, subst, arith, length}
use Rattle.std.proofs.lemmas.List.{length_push}
use Rattle.scopes.specs.Use.{opened}
use Rattle.scopes.specs.Walk.{IsWalkAt, is_unseen, count_names}
use Rattle.scopes.proofs.Walking.{walk_list, unseen_list, follows_last}
use Rattle.scopes.proofs.order.Walk.list.Goals as goal

pub returns-in_ok-push-clause-walk : goal.returns-in_ok-push-clause-walk
returns-in_ok-push-clause-walk c =
    let walk = c.args.self.now in
    let popped : walk.stack.items ≡ c.pop.new.self.items ++ c.in-Some.name ∷ [] = search rules in
    let pushed : c.push.new.self.items ≡ walk.order.items ++ c.in-Some.name ∷ [] = search rules in
    let follows = follows_last (opened walk.at.now) walk.stack.items walk.order.items c.requires.ready c.pop.new.self.items c.in-Some.name popped in
    subst (IsWalkAt (opened walk.at.now) walk.asked.now c.pop.new.self.items) (sym {A = List (List ℕ)} pushed)
    (walk_list (opened walk.at.now) walk.asked.now walk.stack.items walk.order.items c.requires.walk c.pop.new.self.items c.in-Some.name popped follows)

pub returns-in_ok-push-clause-nearer : goal.returns-in_ok-push-clause-nearer
returns-in_ok-push-clause-nearer c =
    let walk = c.args.self.now in
    let popped : walk.stack.items ≡ c.pop.new.self.items ++ c.in-Some.name ∷ [] = search rules in
    let pushed : c.push.new.self.items ≡ walk.order.items ++ c.in-Some.name ∷ [] = search rules in
    let es = walk.at.now.rule.now.variables.entries in
    let unseen : count_names (is_unseen c.pop.new.self.items c.push.new.self.items) es ≤ count_names (is_unseen walk.stack.items walk.order.items) es =
    subst (λ (l : List (List ℕ)). count_names (is_unseen c.pop.new.self.items l) es ≤ count_names (is_unseen walk.stack.items walk.order.items) es) (sym {A = List (List ℕ)} pushed)
    (subst (λ (l : List (List ℕ)). count_names (is_unseen c.pop.new.self.items (walk.order.items ++ c.in-Some.name ∷ [])) es ≤ count_names (is_unseen l walk.order.items) es) (sym {A = List (List ℕ)} popped)
    (unseen_list c.pop.new.self.items walk.order.items c.in-Some.name es)) in
    let longer : length walk.stack.items ≡ length c.pop.new.self.items + 1 = ap length popped ∙ length_push c.pop.new.self.items c.in-Some.name in
    omega (arith, unseen, longer)
