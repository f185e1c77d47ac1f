use Rattle.std.proofs.Common.{◌≡◌, [], Bool, List, length, vec_len, subst, sym, ◌∙◌, arith}
use Rattle.std.proofs.lemmas.Bool.{eqb-true}
use Rattle.log_text.specs.Kept.{texts_at}
use Rattle.tools.specs.Missing.{AddsDeps, IsUnmarked}
use Rattle.tools.specs.declared.missing.MissingDep.{MissingDep}
use Rattle.tools.proofs.Lacking.{apart_all, apart_none, deps_empty}
use Rattle.tools.proofs.Putting.{on_ok}
use Rattle.tools.proofs.missing.add_apart.Goals as goal

pub returns-then-is_empty : goal.returns-then-is_empty
returns-then-is_empty c =
    let texts = texts_at c.args.logged.records.now.logs.deps_log.log.outputs c.args.numbers.now in
    let made = c.in_ok-made.made.items in
    let empty : vec_len c.in_ok-made.made ≡ 0 = eqb-true _ 0 (sym c.is_empty.ensures ∙ c.if-is_empty.true) in
    let count : length made ≡ 0 = omega (arith, empty, c.in_ok-made.made.ok.0) in
    let none : made ≡ [] = deps_empty made count in
    apart_none c.args.logged.declared.now.graph c.args.output c.args.file.now texts made c.args.missing.now.items none c.in_ok-made.ensures

pub returns : goal.returns
returns c =
    let graph = c.args.logged.declared.now.graph in
    let texts = texts_at c.args.logged.records.now.logs.deps_log.log.outputs c.args.numbers.now in
    let made = c.in_ok-made.made.items in
    let marks = c.in_ok-above.above.items in
    let old = c.args.missing.now.items in
    let new = c.push_unmarked.new.missing.items in
    on_ok c.push_unmarked.result
    (λ adds. apart_all graph c.args.output c.args.file.now texts made marks old new c.in_ok-made.ensures c.in_ok-above.ensures
    (subst (λ (l : List MissingDep). AddsDeps old new (IsUnmarked marks l)) c.as_slice.ensures.value (subst (λ (l : List Bool). AddsDeps old new (IsUnmarked l c.as_slice.result.now)) c.as_slice-2.ensures.value adds)))
    c.push_unmarked.ensures
