use Rattle.std.proofs.Common.{◌≡◌, ◌∙◌, inl, inr, ◌<◌, ℕ, List, true, take, get_or, subst, sym, arith}
use Rattle.std.proofs.lemmas.List.{get_or_default}
use Rattle.model.specs.Graph.{has_number}
use Rattle.theory.proofs.Lists.{has_number-push_cases}
use Rattle.graph.specs.Links.{needs_of, users_at}
use Rattle.graph.proofs.Chosen.{has_there}
use Rattle.graph.proofs.Keeping.{order_next, order_whole}
use Rattle.graph.proofs.Lists.{times_of_has, has_of_times}
use Rattle.graph.proofs.Makes.{output_below}
use Rattle.graph.proofs.Naming.{needer_within}
use Rattle.graph.proofs.graph.Graph.is_before_users.Goals as goal

pub users-requires : goal.users-requires
users-requires c =
    let graph = c.args.self.now in
    let outputs = c.outputs-path-items.result.now in
    let k = c.loop-path.path-index in
    let x = c.path-item.result in
    let at : x ≡ get_or outputs k 0 = c.path-item.is ∙ get_or_default outputs k x 0 c.loop-path-test.true in
    let there : has_number outputs x ≡ true = subst (λ (n : ℕ). has_number outputs n ≡ true) (sym at) (has_there outputs k c.loop-path-test.true) in
    output_below graph.manifest c.args.edge x (subst (λ (l : List ℕ). has_number l x ≡ true) c.outputs-path-items.ensures there)

pub is_before_all-requires-clause-users : goal.is_before_all-requires-clause-users
is_before_all-requires-clause-users c = λ d there.
    let graph = c.args.self.now in
    let path = c.path-item.result in
    let some = times_of_has c.users.result.now d there in
    let same = c.users.ensures.counted d in
    needer_within graph d path (has_of_times (needs_of graph d) path (omega (arith, some, same)))

pub loop-path-preserved : goal.loop-path-preserved
loop-path-preserved c = λ p d there used listed.
    let outputs = c.outputs-path-items.result.now in
    let k = c.loop-path.path-index in
    let x = c.path-item.result in
    let more = order_next outputs k x c.loop-path-test.true (c.path-item.is ∙ get_or_default outputs k x 0 c.loop-path-test.true) in
    elim (has_number-push_cases (take k outputs) x p (subst (λ (l : List ℕ). has_number l p ≡ true) more there)) [
      | inl front ↦ c.loop-path.invariant p d front used listed
      | inr last ↦ c.is_before_all.ensures c.if-not-is_before_all.false d
          (subst (λ (l : List ℕ). has_number l d ≡ true) (sym c.users.ensures.value) (subst (λ (n : ℕ). has_number (users_at c.args.self.now n) d ≡ true) (sym last) used)) listed
    ]

pub returns : goal.returns
returns c = λ is p d there used listed.
    c.loop-path.invariant p d
    (subst (λ (l : List ℕ). has_number l p ≡ true) (sym (order_whole c.outputs-path-items.result.now c.loop-path.path-index c.loop-path-test.false ∙ c.outputs-path-items.ensures)) there) used listed
