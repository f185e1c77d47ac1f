use Rattle.std.proofs.Common.{◌≡◌, ◌<◌, ◌∙◌, ℕ, [], map, filter, length, sym, ap, subst, arith, rules}
use Rattle.std.proofs.lemmas.List.{take_all}
use Rattle.theory.proofs.SiteCalls.{unrefused_none, unrefused_call, unrefused_then}
use Rattle.judge.specs.Dues.{due_at}
use Rattle.reasons.specs.Why.{AreWhy, edge_in}
use Rattle.reasons.proofs.Telling.{listed_then, all_then}
use Rattle.reasons.proofs.told.tell_all.Goals as goal

pub loop-edge-init : goal.loop-edge-init
loop-edge-init g c = record {
  looked =
      let none = (c.looks_follow.ensures.follow g.S.Texts.tells (g.S.Texts.world c.args.site.now) (g.S.Texts.world c.args.site.now) (g.S.Texts.world c.args.site.now)).none c.args.graph.now c.args.looks.now in
      record { looks = none.looks; fits = none.fits; seen = none.seen; stays = none.stays };
  unrefused = unrefused_none (g.S.Texts.world c.args.site.now) c.requires.running;
  summed = c.clear.ensures.summed c.args.graph.now [] c.args.looks.now.seen.items;
  fits = search rules;
  listed = ap (map edge_in) c.requires.none;
  all = subst (AreWhy g.S.Texts.tells c.args.graph.now c.args.records.now c.args.flags.now (g.S.Texts.world c.args.site.now) (g.S.Texts.world c.args.site.now) c.args.looks.now (record { seen = c.args.looks.now.seen; sums = c.clear.new.self })) (sym c.requires.none) tt;
}

pub tell_one-requires-clause-within : goal.tell_one-requires-clause-within
tell_one-requires-clause-within g c =
    subst (λ (e : ℕ). e < length c.args.graph.now.manifest.lines) (sym {A = ℕ} c.edge-item.is) (c.requires.order c.loop-edge.edge-index c.edge-item.result c.loop-edge-test.true)

pub returns-in_err-tell_one-clause-looked : goal.returns-in_err-tell_one-clause-looked
returns-in_err-tell_one-clause-looked g c =
    (c.looks_follow.ensures.follow g.S.Texts.tells (g.S.Texts.world c.args.site.now) (g.S.Texts.world c.loop-edge.site) (g.S.Texts.world c.tell_one.new.site)).looked c.args.graph.now c.args.looks.now c.loop-edge.looks c.tell_one.new.looks
    c.loop-edge.invariant.looked c.tell_one.ensures.looked

pub loop-edge-preserved : goal.loop-edge-preserved
loop-edge-preserved g c =
    let tells = g.S.Texts.tells in
    let graph = c.args.graph.now in
    let a = g.S.Texts.world c.args.site.now in
    let b = g.S.Texts.world c.loop-edge.site in
    let d = g.S.Texts.world c.tell_one.new.site in
    let follow = c.looks_follow.ensures.follow in
    record {
      looked = (follow tells a b d).looked graph c.args.looks.now c.loop-edge.looks c.tell_one.new.looks c.loop-edge.invariant.looked c.tell_one.ensures.looked;
      unrefused = unrefused_then a b d c.loop-edge.invariant.unrefused (unrefused_call b d _ c.in_ok-tell_one.ensures.cause);
      summed = c.tell_one.ensures.summed;
      fits = c.tell_one.ensures.firm;
      listed = listed_then follow tells graph c.args.records.now c.args.flags.now a b d c.args.looks.now c.loop-edge.looks c.tell_one.new.looks c.loop-edge.invariant.looked c.tell_one.ensures.looked
          c.args.order.now c.loop-edge.edge-index c.edge-item.result c.loop-edge-test.true c.edge-item.is c.loop-edge.told.items c.tell_one.new.told.items c.in_ok-tell_one.ensures.told c.loop-edge.invariant.listed;
      all = all_then follow tells graph c.args.records.now c.args.flags.now a b d c.args.looks.now c.loop-edge.looks c.tell_one.new.looks c.loop-edge.invariant.looked c.tell_one.ensures.looked
          c.args.order.now c.loop-edge.edge-index c.edge-item.result c.loop-edge-test.true c.edge-item.is c.loop-edge.told.items c.tell_one.new.told.items c.in_ok-tell_one.ensures.told c.loop-edge.invariant.all;
    }

pub returns-clause-listed : goal.returns-clause-listed
returns-clause-listed g c =
    c.loop-edge.invariant.listed ∙ ap (filter (due_at c.args.flags.now)) (take_all c.loop-edge.edge-index c.args.order.now (omega arith))
