use Rattle.std.proofs.Common.{◌≡◌, ◌∙◌, ℕ, List, Option, None, false, length, get_or, map, sym, subst, ap, arith}
use Rattle.std.proofs.Math.ListN.{replicate}
use Rattle.std.specs.Vec.{with_items}
use Rattle.std.proofs.lemmas.List.{length-map, with_items_is}
use Rattle.plan.specs.declared.pool.Pool.{Pool}
use Rattle.plan.specs.Turns.{AreWithin}
use Rattle.plan.specs.Seats.{members_of, depth_of, shown_of, AreSeated}
use Rattle.plan.specs.Queues.{AreQueued}
use Rattle.plan.proofs.Seating.{begun}
use Rattle.plan.proofs.queue.Queue.new.Goals as goal

pub invariant_of-result : goal.invariant_of-result
invariant_of-result c =
    let first = c.in_ok-pools.pools in
    let seated = with_items first c.seat_all.new.pools in
    let size_one : length c.seat_all.new.pools ≡ first.len = omega (arith, c.seat_all.auto.pools, ap (λ (l : List Pool). length l) c.deref_mut.ensures.value, first.ok.0) in
    let one = with_items_is first c.seat_all.new.pools size_one in
    let size_two : length c.make_room.new.pools ≡ first.len = omega (arith, c.make_room.auto.pools, ap (λ (l : List Pool). length l) (c.deref_mut-2.ensures.value ∙ one), size_one) in
    let two = with_items_is seated c.make_room.new.pools size_two in
    let middle : c.deref_mut-2.result.now ≡ c.seat_all.new.pools = c.deref_mut-2.ensures.value ∙ one in
    subst (λ (ps : List Pool). AreQueued c.args.groups.items c.in_ok-ranks.ranks.items ps c.in_ok-waiting.waiting.items c.in_ok-front.front) (sym two)
    (begun c.args.groups.items c.in_ok-ranks.ranks.items c.make_room.new.pools c.in_ok-waiting.waiting.items c.in_ok-front.front
    (subst (λ (n : ℕ). AreWithin n c.args.groups.items) (omega (arith, size_two, first.ok.0, length-map first.items depth_of, ap (λ (l : List ℕ). length l) c.in_ok-pools.ensures.depths)) c.requires)
    (subst (λ (l : List (List ℕ)). AreSeated c.args.groups.items c.in_ok-ranks.ranks.items l) (sym (c.in_ok-make_room.ensures.members ∙ ap (λ (l : List Pool). map members_of l) middle))
    (subst (λ (l : List (Option ℕ)). AreSeated l c.in_ok-ranks.ranks.items (map members_of c.seat_all.new.pools)) c.deref.ensures.value c.in_ok-ranks.ensures.seated))
    c.in_ok-make_room.ensures.room
    (λ g. ap (λ (l : List (Option ℕ)). get_or l g None) (c.in_ok-make_room.ensures.shown ∙ (ap (λ (l : List Pool). map shown_of l) middle ∙ (c.in_ok-ranks.ensures.kept.shown ∙ ap (λ (l : List Pool). map shown_of l) c.deref_mut.ensures.value))) ∙ c.in_ok-pools.ensures.shown g)
    (c.in_ok-waiting.ensures.items_if_clones_equal (λ y is. is) ∙ ap (λ (n : ℕ). replicate n false) (c.len.ensures ∙ c.args.groups.ok.0))
    c.in_ok-front.ensures.none
    (omega (arith, c.in_ok-front.ensures.room, c.len-2.ensures, c.args.groups.ok.0)))
