use Rattle.std.proofs.Common.{◌≡◌, ◌∙◌, inl, inr, ℕ, List, true, take, get_or, subst, sym, arith}
use Rattle.std.proofs.lemmas.List.{get_or_default}
use Rattle.model.specs.Graph.{has_number}
use Rattle.theory.proofs.Lists.{has_number-push_cases}
use Rattle.graph.specs.Cone.{mark_at, is_listed}
use Rattle.graph.specs.Placed.{StandsBefore}
use Rattle.graph.proofs.Chosen.{has_there}
use Rattle.graph.proofs.Keeping.{order_next, order_whole}
use Rattle.graph.proofs.graph.Graph.is_before_all.Goals as goal

pub is_before_listed-requires-clause-second : goal.is_before_listed-requires-clause-second
is_before_listed-requires-clause-second c =
    let users = c.args.users.now in
    let k = c.loop-user.user-index in
    let x = c.user-item.result in
    let at : x ≡ get_or users k 0 = c.user-item.is ∙ get_or_default users k x 0 c.loop-user-test.true in
    let low = c.requires.users x (subst (λ (n : ℕ). has_number users n ≡ true) (sym at) (has_there users k c.loop-user-test.true)) in
    omega (arith, low, c.requires.marks)

pub loop-user-preserved : goal.loop-user-preserved
loop-user-preserved c = λ d there listed.
    let users = c.args.users.now in
    let k = c.loop-user.user-index in
    let x = c.user-item.result in
    let more = order_next users k x c.loop-user-test.true (c.user-item.is ∙ get_or_default users k x 0 c.loop-user-test.true) in
    elim (has_number-push_cases (take k users) x d (subst (λ (l : List ℕ). has_number l d ≡ true) more there)) [
      | inl front ↦ c.loop-user.invariant d front listed
      | inr last ↦ subst (λ (n : ℕ). StandsBefore c.args.cone.now c.args.edge n) last
          (c.is_before_listed.ensures c.if-not-is_before_listed.false (subst (λ (n : ℕ). is_listed (mark_at c.args.cone.now.marks.items n) ≡ true) (sym last) listed))
    ]

pub returns : goal.returns
returns c = λ is d there. c.loop-user.invariant d (subst (λ (l : List ℕ). has_number l d ≡ true) (sym (order_whole c.args.users.now c.loop-user.user-index c.loop-user-test.false)) there)
