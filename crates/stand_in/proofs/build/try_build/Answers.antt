use Rattle.std.proofs.Common.{ℕ, List, subst}
use Rattle.stand_in.specs.Moves.{WasReadAlone, WasUnreadAlone}
use Rattle.stand_in.proofs.Stages.{end_by, idle_then, unread_end}
use Rattle.stand_in.proofs.build.try_build.Goals as goal

pub returns-in_err-declared : goal.returns-in_err-declared
returns-in_err-declared g c =
    let old = g.S.Texts.world c.args.site.now in
    let new = g.S.Texts.world c.read_alone.new.site in
    let report = c.in_err-declared.field-0.0 in
    let unread = subst (λ (f : List ℕ). WasUnreadAlone g.S.Texts.tells g.S.Site.outcome f old new report) c.as_str.ensures c.in_err-declared.ensures.unread in
    end_by g.S.Texts.tells g.S.Site.outcome c.args.options.now old new report (unread_end g.S.Texts.tells g.S.Site.outcome c.args.options.now old new report c.requires unread) c.from_residual.result c.from_residual.ensures.1

pub build_declared-requires-clause-idle : goal.build_declared-requires-clause-idle
build_declared-requires-clause-idle g c = idle_then g.S.Texts.tells (g.S.Texts.world c.args.site.now) (g.S.Texts.world c.read_alone.new.site) c.read_alone.ensures.looks c.requires

pub build_declared-requires-clause-read : goal.build_declared-requires-clause-read
build_declared-requires-clause-read g c =
    let old = g.S.Texts.world c.args.site.now in
    let new = g.S.Texts.world c.read_alone.new.site in
    (old, subst (λ (f : List ℕ). WasReadAlone g.S.Texts.tells f old new c.in_ok-declared.declared) c.as_str.ensures c.in_ok-declared.ensures.read)

pub returns : goal.returns
returns g c =
    let old = g.S.Texts.world c.args.site.now in
    let new = g.S.Texts.world c.read_alone.new.site in
    c.build_declared.ensures old (subst (λ (f : List ℕ). WasReadAlone g.S.Texts.tells f old new c.in_ok-declared.declared) c.as_str.ensures c.in_ok-declared.ensures.read)
