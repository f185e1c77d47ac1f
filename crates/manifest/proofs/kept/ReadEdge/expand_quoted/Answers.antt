use Rattle.std.proofs.Common.{refl, ap, Err}
use Rattle.manifest.proofs.EdgeUses.{use_for, expanded_use, not_expanded_use}
use Rattle.manifest.proofs.kept.ReadEdge.expand_quoted.Goals as goal

pub returns-in-Ok : goal.returns-in-Ok
returns-in-Ok c = λ past build of is plain words.
    expanded_use past build c.args.rule.now c.values_are_unique.ensures.one_value c.values_are_unique.ensures.no_circle _ c.in-Ok.values (c.in-Ok.ensures.values past of) c.in-Ok.ensures.size
    (use_for _ c.args.self.now build c.args.rule.now is refl refl refl plain words)

pub returns-in-Err : goal.returns-in-Err
returns-in-Err c = λ past build of is plain words.
    not_expanded_use past build c.args.rule.now _ c.in-Err.fault c.refuse_use.result
    (λ e. c.in-Err.ensures.circle (ap Err e)) (λ e. c.in-Err.ensures.no_circle (ap Err e) past of) (λ e. c.in-Err.ensures.large (ap Err e) past of)
    (use_for _ c.args.self.now build c.args.rule.now is refl refl refl plain words)
    (c.refuse_use.ensures build is)
