use Rattle.std.proofs.Common.{rules, ℕ, List, inl, inr, refl, subst}
use Rattle.std.specs.Option.{option_map}
use Rattle.graph.specs.Told.{declared_by}
use Rattle.seen.specs.Own.{AreOwnIn}
use Rattle.seen_builds.proofs.Made.{listed_law}
use Rattle.seen_builds.proofs.Over.{answered_running, enters_behind, idle_looking, over_from}
use Rattle.seen_builds.proofs.build.build_behind.Goals as goal

pub build_from-requires : goal.build_from-requires
build_from-requires g c κs within =
    let old = g.S.Texts.world c.args.site in
    let world = g.S.Texts.world c.enter.new.site in (
      search rules,
      (
        idle_looking g.S.Texts.tells old world c.in-Ok.ensures.asks.looks c.requires.1.1.0,
        (
          answered_running old world c.requires.1.1.1.0 c.in-Ok.ensures.asks.ok,
          (
            c.requires.1.1.1.1.0,
            (
              c.requires.1.1.1.1.1,
              (c.in-Ok.ensures.unbegun, enters_behind g.S.Texts.tells c.in-Ok.entry old.history g.past world c.requires.1.0 c.in-Ok.ensures.enters),
            ),
          ),
        ),
      ),
    )

pub returns-in-Ok : goal.returns-in-Ok
returns-in-Ok g c =
    let old = g.S.Texts.world c.args.site in
    let world = g.S.Texts.world c.enter.new.site in
    inr (record {
      counts = c.in-Ok.entry.counts;
      base = option_map (λ text. text.items) c.in-Ok.entry.base;
      entry = world;
      looks = c.in-Ok.ensures.asks.looks;
      idle = idle_looking g.S.Texts.tells old world c.in-Ok.ensures.asks.looks c.requires.1.1.0;
      running = answered_running old world c.requires.1.1.1.0 c.in-Ok.ensures.asks.ok;
      own = subst (λ (folder : List ℕ). AreOwnIn folder c.in-Ok.entry.counts.own) c.as_str.ensures c.in-Ok.ensures.own;
      makes = listed_law c.in-Ok.entry.counts.makers c.args.graph.manifest c.in-Ok.ensures.unbegun.table c.in-Ok.ensures.lists;
      enters = c.in-Ok.ensures.enters;
      built = over_from g.S.Texts.tells c.in-Ok.entry old.history g.past world c.requires.1.0
          (declared_by c.args.graph) c.args.asked.now (g.S.Texts.world c.build_from.result.1) c.build_from.result.0 c.build_from.ensures;
    })

pub returns-in-Err : goal.returns-in-Err
returns-in-Err g c = inl (record { fault = c.in-Err.fault; is = refl; asks = c.in-Err.ensures.asks })
