use Rattle.std.proofs.Common.{sym, ap, ◌∙◌}
use Rattle.std.proofs.lemmas.Result.{err_from_is_err_and}
use Rattle.lexer.specs.Said.{fragments_of}
use Rattle.manifest.specs.Numbers.{depth_in}
use Rattle.manifest.proofs.PoolLemmas.{pool_unexpected, pool_large, pool_bad_answer, pool_some, differs, agrees}
use Rattle.manifest.proofs.kept.Declared.read_depth.Goals as goal

pub returns-then-ne : goal.returns-then-ne
returns-then-ne c = λ state is.
    pool_unexpected state c.args.pool.now c.args.place.now c.at_line-place.result _ c.in-Some.line.name.now (fragments_of c.in-Some.line.value.now) _ c.at_line-place.ensures.file c.at_line-place.ensures.line c.in-Some.ensures c.args.before
    c.in_ok-from_str.field-0 c.fault.result (differs _ _ c.ne.ensures c.if-ne.true) c.in_ok-from_str.ensures c.fault.ensures

pub returns-in_err-text : goal.returns-in_err-text
returns-in_err-text c = λ state is.
    let failed = err_from_is_err_and c.from_residual-in_err-text.result c.from_residual-in_err-text.ensures.1 in
    rw (failed.1, failed.2) (
    pool_large state c.args.pool.now c.args.place.now c.at_line-place.result _ c.in-Some.line.name.now (fragments_of c.in-Some.line.value.now) _ c.at_line-place.ensures.file c.at_line-place.ensures.line c.in-Some.ensures c.args.before
    (agrees _ _ c.ne.ensures c.if-ne.false) c.in_err-text.field-0.0 (c.in_err-text.ensures state is))

pub returns-in-Some-depth_in : goal.returns-in-Some-depth_in
returns-in-Some-depth_in c = λ state is.
    pool_some state c.args.pool.now c.args.place.now c.at_line-place.result _ c.in-Some.line.name.now (fragments_of c.in-Some.line.value.now) _ c.at_line-place.ensures.file c.at_line-place.ensures.line c.in-Some.ensures c.args.before
    (agrees _ _ c.ne.ensures c.if-ne.false) c.in_ok-text.text (c.in_ok-text.ensures state is) c.in-Some-depth_in.depth (ap depth_in (sym c.as_str.ensures) ∙ sym c.in-Some-depth_in.ensures)

pub returns : goal.returns
returns c = λ state is.
    pool_bad_answer state c.args.pool.now c.args.place.now c.at_line-place.result _ c.in-Some.line.name.now (fragments_of c.in-Some.line.value.now) _ c.at_line-place.ensures.file c.at_line-place.ensures.line c.in-Some.ensures c.args.before
    (agrees _ _ c.ne.ensures c.if-ne.false) c.in_ok-text.text (c.in_ok-text.ensures state is) c.bad_depth.result (ap depth_in (sym c.as_str.ensures) ∙ sym c.in-None.ensures) c.bad_depth.ensures.err c.bad_depth.ensures.fault
