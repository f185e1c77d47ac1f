use Rattle.std.proofs.Common.{◌≡◌, ◌∙◌, ℕ, sym, subst, refl, arith, get_or, inl, inr, Some}
use Rattle.std.specs.List.{slice_get}
use Rattle.std.proofs.Math.ListN.{set}
use Rattle.std.proofs.Math.Seq.{map-set_same}
use Rattle.std.proofs.lemmas.Bool.{cases_eq}
use Rattle.std.proofs.lemmas.Option.{slice_get_within}
use Rattle.plan.specs.declared.pool.Pool.{Pool}
use Rattle.plan.specs.Seats.{members_of, depth_of, running_of, shown_of, HasRoom}
use Rattle.plan.proofs.Changing.{pool_here, pool_other}
use Rattle.plan.proofs.queue.make_room.Goals as goal

pub loop-pool-preserved : goal.loop-pool-preserved
loop-pool-preserved c =
    let i = c.loop-pool.pool-index in
    let was = get_or c.loop-pool.pools i c.pool-item.result in
    let new : Pool = record { depth = was.depth; running = was.running; members = was.members; waiting = c.in_ok-pool.field-0; shown = was.shown } in (
      map-set_same members_of c.loop-pool.pools i new c.pool-item.result refl ∙ c.loop-pool.invariant.0,
      map-set_same depth_of c.loop-pool.pools i new c.pool-item.result refl ∙ c.loop-pool.invariant.1,
      map-set_same running_of c.loop-pool.pools i new c.pool-item.result refl ∙ c.loop-pool.invariant.2,
      map-set_same shown_of c.loop-pool.pools i new c.pool-item.result refl ∙ c.loop-pool.invariant.3,
      λ g pool lt is. elim (cases_eq g i) [
        | inl same ↦ subst (λ (p : Pool). HasRoom p) (sym (pool_here c.loop-pool.pools i new pool (omega arith) (subst (λ (n : ℕ). slice_get (set c.loop-pool.pools i new) n ≡ Some pool) same is))) record { room = omega (arith, c.in_ok-pool.ensures.room, c.len.ensures, was.members.ok.0); none = c.in_ok-pool.ensures.none }
        | inr other ↦ c.loop-pool.invariant.4 g pool (omega (arith, lt, other)) (pool_other c.loop-pool.pools i g new pool other is)
      ],
    )

pub returns-clause-room : goal.returns-clause-room
returns-clause-room c = λ g pool is. c.loop-pool.invariant.4 g pool (omega (arith, slice_get_within c.loop-pool.pools g pool is)) is
