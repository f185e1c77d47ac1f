use Rattle.std.proofs.Common.{◌∙◌, ◌+◌, ◌<◌, List, Bool, take, length, sym, ap, subst, arith}
use Rattle.plan.specs.Plan.{IsReady}
use Rattle.plan.specs.Standing.{is_unjudged, is_alias, standing_at}
use Rattle.plan.proofs.Beginning.{put_in, left_out, length-put}
use Rattle.plan.proofs.first.first_ready.Goals as goal
use Rattle.plan.proofs.first.first_ready.Goals.{then-left-place-eq0, else-left-place-eq0}

pub loop-place-preserved : goal.loop-place-preserved
loop-place-preserved c =
    let standings = c.args.standings.now in
    let left = c.args.left.now in
    let place = c.loop-place.place in
    let invariant = c.loop-place.invariant in
    let room : place < length c.loop-place.ready = omega (arith, c.loop-place-test.true, c.requires.room, invariant.room) in
    let rest : place < length c.loop-place.pending = omega (arith, c.loop-place-test.true, c.requires.rest, invariant.rest) in
    elim c.if-left-place-eq0.branch [
      | then-left-place-eq0 w ↦ record {
        sets = put_in standings left place c.loop-place.ready c.loop-place.pending room rest invariant.sets c.if-left-place-eq0.ready c.if-left-place-eq0.pending w.if-left-place-eq0.true (w.ready-is ∙ w.insert.ensures.ready) (w.pending-is ∙ w.insert.ensures.pending);
        room = length-put place (is_unjudged (standing_at standings place)) c.loop-place.ready c.if-left-place-eq0.ready (w.ready-is ∙ w.insert.ensures.ready) ∙ invariant.room;
        rest = length-put place (is_alias (standing_at standings place)) c.loop-place.pending c.if-left-place-eq0.pending (w.pending-is ∙ w.insert.ensures.pending) ∙ invariant.rest;
      }
      | else-left-place-eq0 w ↦ record {
        sets = subst (λ (l : List Bool). IsReady (take (place + 1) standings) left l c.if-left-place-eq0.pending) (sym w.ready-is)
            (subst (λ (l : List Bool). IsReady (take (place + 1) standings) left c.loop-place.ready l) (sym w.pending-is) (left_out standings left place c.loop-place.ready c.loop-place.pending room rest invariant.sets w.if-left-place-eq0.false));
        room = ap (λ (l : List Bool). length l) w.ready-is ∙ invariant.room;
        rest = ap (λ (l : List Bool). length l) w.pending-is ∙ invariant.rest;
      }
    ]
