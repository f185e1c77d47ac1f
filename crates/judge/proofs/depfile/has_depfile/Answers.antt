use Rattle.std.proofs.Common.{◌≡◌, ℕ, List, is_some, ◌∙◌, subst, rules}
use Rattle.model.specs.declared.event.Moment.{Moment}
use Rattle.model.specs.Calls.{Sees}
use Rattle.model.specs.World.{file_at, stamp_of}
use Rattle.judge.proofs.Depfiles.{there_kept}
use Rattle.judge.proofs.depfile.has_depfile.Goals as goal

pub returns-clause-there : goal.returns-clause-there
returns-clause-there g c told keeps named unset =
    let old = (g.S.Texts.world c.args.site.now).history in
    let new = (g.S.Texts.world c.stat.new.self).history in
    let stamp = c.in_ok-stat.field-0 in
    let is : c.is_some.result ≡ is_some stamp = search rules in
    is ∙ there_kept c.args.command.now.act.depfile stamp old new
    (subst (λ (path : List ℕ). Sees (λ (history : List Moment). stamp_of (file_at history path)) stamp old new) c.as_str.ensures (c.in_ok-stat.ensures.stamp told)) (keeps named)
