use Rattle.std.proofs.Common.{inr, refl}
use Rattle.stand_in.proofs.Ready.{ready_kept}
use Rattle.stand_in.proofs.Stages.{idle_then, memory_end, prepared_then, ready_prepared}
use Rattle.stand_in.proofs.Turning.{goes_by}
use Rattle.stand_in.proofs.build.build_rest.Goals as goal

pub left_targets-requires : goal.left_targets-requires
left_targets-requires g c = record { running = c.requires.ready.1.since.unrefused.goes_on }

pub build_these-requires-clause-idle : goal.build_these-requires-clause-idle
build_these-requires-clause-idle g c = idle_then g.S.Texts.tells (g.S.Texts.world c.args.site.now) (g.S.Texts.world c.left_targets.new.site) c.left_targets.ensures.looks c.requires.idle

pub build_these-requires-clause-ready : goal.build_these-requires-clause-ready
build_these-requires-clause-ready g c =
    (c.requires.ready.0, ready_kept g.S.Texts.tells g.S.Site.outcome c.args.options.now c.requires.ready.0 (g.S.Texts.world c.args.site.now) (g.S.Texts.world c.left_targets.new.site) c.args.declared c.left_targets.new.declared c.requires.ready.1 c.in-Ok.ensures.looked c.left_targets.ensures.kept)

pub returns-in-Ok-Nothing : goal.returns-in-Ok-Nothing
returns-in-Ok-Nothing g c = λ entry ready.
    let now = g.S.Texts.world c.args.site.now in
    inr (refl, prepared_then g.S.Texts.tells g.S.Site.outcome c.args.options.now entry now (g.S.Texts.world c.left_targets.new.site) (ready_prepared g.S.Texts.tells g.S.Site.outcome c.args.options.now entry now c.args.declared ready) c.left_targets.ensures.looks)

pub returns-in-Ok : goal.returns-in-Ok
returns-in-Ok g c = λ entry ready.
    c.build_these.ensures entry (ready_kept g.S.Texts.tells g.S.Site.outcome c.args.options.now entry (g.S.Texts.world c.args.site.now) (g.S.Texts.world c.left_targets.new.site) c.args.declared c.left_targets.new.declared ready c.in-Ok.ensures.looked c.left_targets.ensures.kept)

pub returns-in-Err-Memory : goal.returns-in-Err-Memory
returns-in-Err-Memory g c = λ entry ready.
    let now = g.S.Texts.world c.args.site.now in
    let new = g.S.Texts.world c.left_targets.new.site in
    memory_end g.S.Texts.tells g.S.Site.outcome c.args.options.now entry new (prepared_then g.S.Texts.tells g.S.Site.outcome c.args.options.now entry now new (ready_prepared g.S.Texts.tells g.S.Site.outcome c.args.options.now entry now c.args.declared ready) c.left_targets.ensures.looks) (goes_by c.left_targets.result _ c.in-Err-Memory.is c.in-Err-Memory.field-0-is c.left_targets.ensures.memory)

pub returns : goal.returns
returns g c = λ entry ready.
    let now = g.S.Texts.world c.args.site.now in
    prepared_then g.S.Texts.tells g.S.Site.outcome c.args.options.now entry now (g.S.Texts.world c.left_targets.new.site) (ready_prepared g.S.Texts.tells g.S.Site.outcome c.args.options.now entry now c.args.declared ready) c.left_targets.ensures.looks
