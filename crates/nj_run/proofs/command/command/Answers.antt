use Rattle.std.proofs.Common.{ap₂, ◌∙◌}
use Rattle.clap.specs.Words.{with_rule}
use Rattle.nj_run.proofs.command.command.Goals as goal

pub returns : goal.returns
returns c =
    c.in_ok-command.ensures.shape c.targets.ensures.local
    ∙ ap₂ with_rule (c.in_ok-arg-8.ensures.shape c.audit_all.ensures.local
    ∙ ap₂ with_rule (c.in_ok-arg-7.ensures.shape c.audit.ensures.local
    ∙ ap₂ with_rule (c.in_ok-arg-6.ensures.shape c.why.ensures.local
    ∙ ap₂ with_rule (c.in_ok-arg-5.ensures.shape c.verbose.ensures.local
    ∙ ap₂ with_rule (c.in_ok-arg-4.ensures.shape c.keep.ensures.local
    ∙ ap₂ with_rule (c.in_ok-arg-3.ensures.shape c.jobs.ensures.local
    ∙ ap₂ with_rule (c.in_ok-arg-2.ensures.shape c.file.ensures.local
    ∙ ap₂ with_rule (c.in_ok-arg.ensures.shape c.folder.ensures.local
    ∙ ap₂ with_rule c.bare.ensures c.folder.ensures.rule)
    c.file.ensures.rule)
    c.jobs.ensures.rule)
    c.keep.ensures.rule)
    c.verbose.ensures.rule)
    c.why.ensures.rule)
    c.audit.ensures.rule)
    c.audit_all.ensures.rule)
    c.targets.ensures.rule
