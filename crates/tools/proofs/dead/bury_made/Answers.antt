use Rattle.std.proofs.Common.{◌≡◌, [], length, map, ap, arith, subst, sym, ◌∙◌}
use Rattle.std.specs.Map.Iter.{deref}
use Rattle.log_text.specs.Kept.{Table}
use Rattle.log_text.specs.BuildLog.{Keeps, makings, saying}
use Rattle.log_text.specs.declared.done.Done.{Done}
use Rattle.tools.proofs.Burying.{left_counted, left_made, left_start, left_texts}
use Rattle.tools.proofs.Forcing.{IsLeftAt}
use Rattle.tools.proofs.dead.bury_made.Goals as goal

pub loop-number-init : goal.loop-number-init
loop-number-init c = λ rs keeps. left_start c.args.declared.now.graph.manifest c.args.listed.now c.new-dead.result c.new-kept.result (IsLeftAt rs) c.new-dead.ensures c.new-kept.ensures

pub loop-number-preserved : goal.loop-number-preserved
loop-number-preserved c = λ rs keeps.
    let manifest = c.args.declared.now.graph.manifest in
    let listed = c.args.listed.now in
    let number = c.loop-number.number in
    let found = c.loop-number.found in
    let kept = subst (λ (t : Table Done). Keeps rs t) (sym c.log-log.ensures) keeps in
    let same = ap (map deref) c.as_slice.ensures.value ∙ c.in_ok-outputs.ensures (map saying rs) kept in
    left_counted manifest listed (IsLeftAt rs) number (record { dead = []; kept = [] }) found c.add_all.new.found (c.loop-number.invariant rs keeps)
    (left_texts manifest listed rs number (map deref c.as_slice.result.now) found c.add_all.new.found same c.in_ok-add_all.ensures)

pub returns : goal.returns
returns c = λ rs keeps.
    let kept = subst (λ (t : Table Done). Keeps rs t) (sym c.log-log.ensures) keeps in
    let all : c.done_records-number-end.result ≡ length (makings rs) = c.done_records-number-end.ensures rs kept in
    let last : c.loop-number.number ≡ length (makings rs) = omega (arith, all) in
    left_made c.args.declared.now.graph.manifest c.args.listed.now rs c.loop-number.number c.loop-number.found last (c.loop-number.invariant rs keeps)
