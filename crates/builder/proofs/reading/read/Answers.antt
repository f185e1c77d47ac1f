use Rattle.std.proofs.Common.{List, ℕ, Ok, sym, subst}
use Rattle.manifest.specs.Answer.{ReadsFile}
use Rattle.manifest.specs.declared.fault.ReadError.TheVariants as error
use Rattle.paths.specs.Told.{graph_of}
use Rattle.builder.specs.Asked.{AreTargets}
use Rattle.builder.proofs.Stages.{unread_by, read_named, was_read}
use Rattle.builder.proofs.reading.read.Goals as goal

pub returns-in_err-manifest-clause-unread : goal.returns-in_err-manifest-clause-unread
returns-in_err-manifest-clause-unread g c =
    let old = g.R.Texts.world c.args.site.now in
    let new = g.R.Texts.world c.read.new.texts in
    let error = c.in_err-manifest.field-0.0 in
    unread_by g.R.Texts.tells c.args.options.now.file old new error c.in_err-manifest.ensures.looks c.in_err-manifest.ensures.cause
    (λ tell. read_named c.as_str.result.now c.args.options.now.file old new error c.as_str.ensures (c.in_err-manifest.ensures.file tell)) c.from_residual.result c.from_residual.ensures.1

-- there was no memory for what is asked
pub returns-in_err-asked-clause-unread : goal.returns-in_err-asked-clause-unread
returns-in_err-asked-clause-unread g c =
    unread_by g.R.Texts.tells c.args.options.now.file (g.R.Texts.world c.args.site.now) (g.R.Texts.world c.read.new.texts) error.Memory c.read.ensures.looks c.in_ok-manifest.ensures.cause (λ tell. tt)
    c.from_residual-in_err-asked.result c.from_residual-in_err-asked.ensures.1

pub returns-clause-read : goal.returns-clause-read
returns-clause-read g c =
    let manifest = c.in_ok-manifest.manifest in
    let graph = graph_of manifest in
    let asked = c.in_ok-asked.asked in
    let old = g.R.Texts.world c.args.site.now in
    let new = g.R.Texts.world c.read.new.texts in
    was_read g.R.Texts.tells c.args.options.now old new (record { manifest = manifest; asked = asked }) c.read.ensures.looks c.in_ok-manifest.ensures.cause c.in_ok-manifest.ensures.graph
    (λ tell. subst (λ (n : List ℕ). ReadsFile n old.history new.history (Ok graph)) c.as_str.ensures (c.in_ok-manifest.ensures.file tell))
    (subst (λ (given : List (List ℕ)). AreTargets given asked.targets) (sym {A = List (List ℕ)} c.in_ok-asked.ensures.given) c.in_ok-asked.ensures.targets) c.in_ok-asked.ensures.folder c.in_ok-asked.ensures.limits
