use Rattle.std.proofs.Common.{◌∙◌, ◌++◌, ◌∷◌, [], ℕ, List, Option, sym, refl, ap, get_or, map}
use Rattle.std.proofs.Math.ListN.{set}
use Rattle.std.proofs.Math.Seq.{map-set_same}
use Rattle.std.proofs.lemmas.List.{map-set, get_or-map}
use Rattle.plan.specs.declared.pool.Pool.{Pool}
use Rattle.plan.specs.Seats.{members_of, depth_of, running_of, shown_of, with_member}
use Rattle.plan.proofs.queue.seat.Goals as goal

pub returns-clause-seated : goal.returns-clause-seated
returns-clause-seated c =
    let was = get_or c.args.pools.now c.in-Some.group c.index-pools-group.result in
    let new : Pool = record { depth = was.depth; running = was.running; members = c.push.new.self; waiting = was.waiting; shown = was.shown } in
    map-set members_of c.args.pools.now c.in-Some.group new
    ∙ (ap (λ (l : List ℕ). set (map members_of c.args.pools.now) c.in-Some.group l) (c.in_ok-push.ensures.items ∙ ap (λ (l : List ℕ). l ++ c.args.edge ∷ []) (sym (get_or-map members_of c.args.pools.now c.in-Some.group c.index-pools-group.result [] (c.requires c.in-Some.group c.in-Some.is))))
    ∙ sym (ap (λ (o : Option ℕ). with_member (map members_of c.args.pools.now) o c.args.edge) c.in-Some.is))

pub returns-clause-kept : goal.returns-clause-kept
returns-clause-kept c =
    let was = get_or c.args.pools.now c.in-Some.group c.index-pools-group.result in
    let new : Pool = record { depth = was.depth; running = was.running; members = c.push.new.self; waiting = was.waiting; shown = was.shown } in
    record {
      depths = map-set_same depth_of c.args.pools.now c.in-Some.group new c.index-pools-group.result refl;
      running = map-set_same running_of c.args.pools.now c.in-Some.group new c.index-pools-group.result refl;
      shown = map-set_same shown_of c.args.pools.now c.in-Some.group new c.index-pools-group.result refl;
    }
