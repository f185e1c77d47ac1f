use Rattle.std.proofs.Common.{◌≡◌, ◌+◌, ℕ, ap, sym, subst, length, arith}
use Rattle.graph.specs.Rooms.{AreLaid}
use Rattle.graph.proofs.Laying.{laid_none}
use Rattle.graph.proofs.users.lay_rooms.Goals as goal

pub loop-count-init : goal.loop-count-init
loop-count-init c = laid_none c.args.rooms.now.items c.requires

pub lay_room-requires : goal.lay_room-requires
lay_room-requires c = subst (λ (n : ℕ). AreLaid n c.loop-count.end c.loop-count.rooms.items) (sym {A = ℕ} c.loop-count.invariant.fits) c.loop-count.invariant

pub loop-count-preserved : goal.loop-count-preserved
loop-count-preserved c =
    subst (λ (n : ℕ). AreLaid n c.in_ok-end.end c.lay_room.new.rooms.items) (ap (λ (n : ℕ). n + 1) c.loop-count.invariant.fits) c.in_ok-end.ensures

pub returns : goal.returns
returns c =
    let whole : c.loop-count.count-index ≡ length c.args.counts.now = omega (arith, c.loop-count-test.false, c.loop-count.auto.count-index-end) in
    subst (λ (n : ℕ). AreLaid n c.loop-count.end c.loop-count.rooms.items) whole c.loop-count.invariant
