use Rattle.std.proofs.Common.{ℕ, List, subst}
use Rattle.log_text.specs.Kept.{texts_at}
use Rattle.tools.specs.Missing.{AddsDeps, IsApart}
use Rattle.tools.proofs.Lacking.{missing_none, missing_some}
use Rattle.tools.proofs.Putting.{on_ok}
use Rattle.tools.proofs.missing.add_missing.Goals as goal

pub returns-in_default : goal.returns-in_default
returns-in_default c = missing_none c.args.logged.declared.now.graph c.args.logged.records.now c.args.file.now c.args.output c.args.missing.now.items c.requires c.in_default.ensures.told

pub returns : goal.returns
returns c =
    let graph = c.args.logged.declared.now.graph in
    let records = c.args.logged.records.now in
    let old = c.args.missing.now.items in
    let new = c.add_apart.new.missing.items in
    on_ok c.add_apart.result
    (λ adds. missing_some graph records c.args.file.now c.args.output c.in-Some.deps old new c.requires c.in-Some.ensures.told
    (subst (λ (numbers : List ℕ). AddsDeps old new (IsApart graph c.args.output (texts_at records.logs.deps_log.log.outputs numbers) c.args.file.now)) c.as_slice.ensures adds))
    c.add_apart.ensures
