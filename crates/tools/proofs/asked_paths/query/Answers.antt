use Rattle.std.proofs.Common.{[], ℕ, List, sym, ap, ◌∙◌, subst, take, string_bytes}
use Rattle.std.specs.List.{flat_map}
use Rattle.std.proofs.lemmas.List.{take_all}
use Rattle.tools.specs.Answers.{Puts, lines, query_lines}
use Rattle.tools.proofs.Putting.{flat_next, puts_then}
use Rattle.tools.proofs.asked_paths.query.Goals as goal

pub loop-path-preserved : goal.loop-path-preserved
loop-path-preserved c =
    let declared = c.args.declared.now in
    let path = c.path-item.result in
    let before = flat_map (query_lines declared) (take c.loop-path.path-index c.args.paths.now) in
    let new = string_bytes c.push_path.new.told in
    subst (Puts [] new) (sym (flat_next (query_lines declared) c.args.paths.now c.loop-path.path-index path c.loop-path-test.true c.path-item.is))
    (puts_then [] (string_bytes c.loop-path.told) new before (query_lines declared path) c.loop-path.invariant c.in_ok-push_path.ensures)

pub returns : goal.returns
returns c = c.loop-path.invariant ∙ ap (λ (l : List ℕ). lines (flat_map (query_lines c.args.declared.now) l)) (take_all c.loop-path.path-index c.args.paths.now c.loop-path-test.false)
