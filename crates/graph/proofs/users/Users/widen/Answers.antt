use Rattle.std.proofs.Common.{◌≡◌, ◌<◌, ◌++◌, ◌∷◌, [], List, ℕ, ◌∙◌, ap, length, arith}
use Rattle.std.proofs.lemmas.List.{length-set}
use Rattle.graph.specs.Held.{list_at, pop_at}
use Rattle.graph.proofs.Ends.{pop_push}
use Rattle.graph.proofs.users.Users.widen.Goals as goal

pub push_moved-requires : goal.push_moved-requires
push_moved-requires c = let place = c.index.ensures.place in let len = c.len.ensures in let low = c.if-index-len.false in omega arith

pub pop-requires : goal.pop-requires
pop-requires c =
    let place = c.index.ensures.place in
    let len = c.len.ensures in
    let low = c.if-index-len.false in
    let lt : c.args.path < length c.args.self.now = omega arith in
    let long : length c.push_moved.new.self ≡ length c.args.self.now = ap (λ (l : List (List ℕ)). length l) c.in-Ok.ensures.ok ∙ length-set c.args.self.now c.args.path (list_at c.args.self.now c.args.path ++ c.at_below.result ∷ []) in
    omega (arith, lt, long)

pub returns-in-Ok : goal.returns-in-Ok
returns-in-Ok c =
    let place = c.index.ensures.place in
    let len = c.len.ensures in
    let low = c.if-index-len.false in
    let lt : c.args.path < length c.args.self.now = omega arith in
    c.pop.ensures ∙ (ap (λ (v : List (List ℕ)). pop_at v c.args.path) c.in-Ok.ensures.ok ∙ pop_push c.args.self.now c.args.path c.at_below.result lt)
