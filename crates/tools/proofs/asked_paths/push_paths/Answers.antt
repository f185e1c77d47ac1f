use Rattle.std.proofs.Common.{◌++◌, ◌∷◌, [], ℕ, List, refl, sym, subst, string_bytes, take}
use Rattle.std.proofs.lemmas.List.{take_all}
use Rattle.tools.specs.Answers.{Puts, marked, path_text}
use Rattle.tools.proofs.Putting.{map_next, puts_none, puts_then, two_parts}
use Rattle.tools.proofs.asked_paths.push_paths.Goals as goal

pub loop-path-init : goal.loop-path-init
loop-path-init c = puts_none (string_bytes c.args.told.now)

pub loop-path-preserved : goal.loop-path-preserved
loop-path-preserved c =
    let declared = c.args.declared.now in
    let mark = c.args.mark.now in
    let path = c.path-item.result in
    let one = two_parts (string_bytes c.loop-path.told) (string_bytes c.push_line.new.text) mark c.text_at.result.now mark (path_text declared path) c.in_ok-push_line.ensures refl c.text_at.ensures in
    subst (Puts (string_bytes c.args.told.now) (string_bytes c.push_line.new.text))
    (sym (map_next (λ (p : ℕ). mark ++ path_text declared p) c.args.paths.now c.loop-path.path-index path c.loop-path-test.true c.path-item.is))
    (puts_then (string_bytes c.args.told.now) (string_bytes c.loop-path.told) (string_bytes c.push_line.new.text) (marked declared mark (take c.loop-path.path-index c.args.paths.now)) ((mark ++ path_text declared path) ∷ []) c.loop-path.invariant one)

pub returns : goal.returns
returns c =
    subst (λ (l : List ℕ). Puts (string_bytes c.args.told.now) (string_bytes c.loop-path.told) (marked c.args.declared.now c.args.mark.now l)) (take_all c.loop-path.path-index c.args.paths.now c.loop-path-test.false) c.loop-path.invariant
