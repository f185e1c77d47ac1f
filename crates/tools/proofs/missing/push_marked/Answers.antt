use Rattle.std.proofs.Common.{◌++◌, ◌∷◌, [], ℕ, List, false, filter, get_or, take, append-nil, append_assoc, ap, sym, ◌∙◌}
use Rattle.std.proofs.lemmas.List.{take_all}
use Rattle.tools.proofs.Putting.{filter_next}
use Rattle.tools.proofs.missing.push_marked.Goals as goal

pub loop-path-init : goal.loop-path-init
loop-path-init c = sym (append-nil c.args.outputs.now.items)

pub loop-path-preserved : goal.loop-path-preserved
loop-path-preserved c =
    let test = λ (p : ℕ). get_or c.args.marks.now p false in
    let old = c.args.outputs.now.items in
    let paths = c.args.paths.now in
    let path = c.path-item.result in
    let before = filter test (take c.loop-path.path-index paths) in
    c.in_ok-push_if_marked.ensures ∙ (ap (λ (l : List ℕ). l ++ filter test (path ∷ [])) c.loop-path.invariant
    ∙ (append_assoc old before (filter test (path ∷ [])) ∙ ap (λ (l : List ℕ). old ++ l) (sym (filter_next test paths c.loop-path.path-index path c.loop-path-test.true c.path-item.is))))

pub returns : goal.returns
returns c =
    let test = λ (p : ℕ). get_or c.args.marks.now p false in
    c.loop-path.invariant ∙ ap (λ (l : List ℕ). c.args.outputs.now.items ++ filter test l) (take_all c.loop-path.path-index c.args.paths.now c.loop-path-test.false)
