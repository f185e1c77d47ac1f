use Rattle.std.proofs.Common.{List, ℕ, ◌++◌, ◌∷◌, [], get_or, sym, ◌∙◌, subst, arith, take}
use Rattle.std.proofs.lemmas.List.{take_more}
use Rattle.std.proofs.lemmas.List.Elements.{AllZip-push}
use Rattle.builder.specs.Asked.{IsPathOf, AreTargets}
use Rattle.builder.proofs.asked.canonical_paths.Goals as goal

pub loop-target-preserved : goal.loop-target-preserved
loop-target-preserved c =
    let given = c.args.given.now in
    let place = c.loop-target.target-index in
    let path = c.in_ok-canonical_path.field-0 in
    let longer = take_more given place c.target-item.result (omega arith) in
    let one : IsPathOf (get_or given place c.target-item.result) path = subst (λ (text : List ℕ). IsPathOf text path) (c.as_str.ensures ∙ c.target-item.is) c.in_ok-canonical_path.ensures in
    subst (λ (texts : List (List ℕ)). AreTargets texts c.push.new.self) (sym {A = List (List ℕ)} longer)
    (subst (λ (paths : List (List ℕ)). AreTargets (take place given ++ get_or given place c.target-item.result ∷ []) paths) (sym {A = List (List ℕ)} c.in_ok-push.ensures.ok)
    (AllZip-push IsPathOf (take place given) c.loop-target.paths (get_or given place c.target-item.result) path c.loop-target.invariant one))
