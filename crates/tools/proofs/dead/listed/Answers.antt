use Rattle.std.proofs.Common.{◌≡◌, [], length, arith, subst, sym}
use Rattle.log_text.specs.Kept.{Table}
use Rattle.log_text.specs.DepsLog.{Keeps, tolds}
use Rattle.log_text.specs.declared.deps.Deps.{Deps}
use Rattle.tools.specs.Dead.{IsListedAt}
use Rattle.tools.proofs.Adding.{adds_counted}
use Rattle.tools.proofs.Burying.{lists_all, lists_start}
use Rattle.tools.proofs.dead.listed.Goals as goal

pub loop-number-init : goal.loop-number-init
loop-number-init c = λ ds keeps. lists_start ds c.new-listed.result c.new-listed.ensures

pub loop-number-preserved : goal.loop-number-preserved
loop-number-preserved c = λ ds keeps. adds_counted (IsListedAt ds) c.loop-number.number [] c.loop-number.listed c.add_record.new.listed (c.loop-number.invariant ds keeps) (c.in_ok-add_record.ensures ds keeps)

pub returns : goal.returns
returns c = λ ds text keeps.
    let kept = subst (λ (t : Table Deps). Keeps ds t) (sym c.log-log.ensures) keeps in
    let all : c.deps_records-number-end.result ≡ length (tolds ds) = c.deps_records-number-end.ensures ds kept in
    let last : c.loop-number.number ≡ length (tolds ds) = omega (arith, all) in
    lists_all ds c.loop-number.number c.loop-number.listed text last (c.loop-number.invariant ds keeps)
