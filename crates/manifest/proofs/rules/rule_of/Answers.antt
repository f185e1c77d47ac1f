use Rattle.std.proofs.Common.{ℕ, List, sym, subst, ◌∙◌}
use Rattle.std.proofs.lemmas.Result.{err_from_is_err_and}
use Rattle.manifest.specs.declared.fault.FaultKind.TheVariants.{NoCommand, UnpairedResponse}
use Rattle.manifest.specs.Places.{place_of, IsFaultAt}
use Rattle.manifest.proofs.RuleLemmas.{rule_faulty, rule_stopped, rule_no_command, rule_unpaired, rule_whole, beq_same, beq_differ}
use Rattle.manifest.proofs.rules.rule_of.Goals as goal

pub returns-in_err-rule : goal.returns-in_err-rule
returns-in_err-rule c =
    let failed = err_from_is_err_and c.from_residual.result c.from_residual.ensures.1 in
    rw (failed.1, failed.2) (rule_faulty (place_of c.args.place.now) c.args.name.now _ _ c.in_err-rule.field-0.0 c.in_err-rule.ensures)

pub returns-in_err-stop_at : goal.returns-in_err-stop_at
returns-in_err-stop_at c =
    let failed = err_from_is_err_and c.from_residual-in_err-stop_at.result c.from_residual-in_err-stop_at.ensures.1 in
    let read = c.in_ok-rule.ensures in
    rw (failed.1, failed.2) (rule_stopped (place_of c.args.place.now) c.args.name.now _ _ read.0 read.2 c.in_err-stop_at.field-0.0 c.in_err-stop_at.ensures)

pub returns-then-not-binds : goal.returns-then-not-binds
returns-then-not-binds c =
    let read = c.in_ok-rule.ensures in
    rule_no_command (place_of c.args.place.now) c.args.name.now _ _ read.0 read.2 c.in_ok-rule.rule read.1 c.in_ok-stop_at.ensures c.fault.result (sym c.binds.ensures ∙ c.if-not-binds.true)
    (subst (λ (n : List ℕ). IsFaultAt (place_of c.args.place.now) (NoCommand n) c.fault.result) c.in_ok-from_str.ensures c.fault.ensures)

pub returns-then-binds : goal.returns-then-binds
returns-then-binds c =
    let read = c.in_ok-rule.ensures in
    let other = beq_differ _ _ c.if-binds.true in
    rule_unpaired (place_of c.args.place.now) c.args.name.now _ _ read.0 read.2 c.in_ok-rule.rule read.1 c.in_ok-stop_at.ensures (sym c.binds.ensures ∙ c.if-not-binds.false)
    c.fault-then-binds.result (λ same. other (c.binds-2.ensures ∙ (same ∙ sym c.binds-3.ensures)))
    (subst (λ (n : List ℕ). IsFaultAt (place_of c.args.place.now) (UnpairedResponse n) c.fault-then-binds.result) c.in_ok-from_str-2.ensures c.fault-then-binds.ensures)

pub returns : goal.returns
returns c =
    let read = c.in_ok-rule.ensures in
    rule_whole (place_of c.args.place.now) c.args.name.now _ _ read.0 read.2 c.in_ok-rule.rule read.1 c.in_ok-stop_at.ensures (sym c.binds.ensures ∙ c.if-not-binds.false)
    (sym c.binds-2.ensures ∙ (beq_same _ _ c.if-binds.false ∙ c.binds-3.ensures))
