use Rattle.std.proofs.Common.{rules, ◌≡◌, ◌++◌, ◌∷◌, [], true, false, ap, sym, ◌∙◌, List, bytes_eq}
use Rattle.std.proofs.lemmas.List.{nil_from_length}
use Rattle.scopes.specs.Block.{last_value}
use Rattle.scopes.specs.declared.block.Bound.{Bound}
use Rattle.scopes.proofs.LastBound.{last_found, last_passed}
use Rattle.scopes.proofs.block.last_value.Goals as goal

pub returns-then-is_same : goal.returns-then-is_same
returns-then-is_same c =
    let parts : c.loop-last.rest.now ≡ c.in-Some.front.now ++ c.in-Some.last.now ∷ [] = search rules in
    let same : bytes_eq c.in-Some.last.now.name c.args.name.now ≡ true = search rules in
    sym (last_found c.in-Some.front.now c.loop-last.rest.now c.in-Some.last.now c.args.name.now parts same) ∙ c.loop-last.invariant

pub loop-last-preserved : goal.loop-last-preserved
loop-last-preserved c =
    let parts : c.loop-last.rest.now ≡ c.in-Some.front.now ++ c.in-Some.last.now ∷ [] = search rules in
    let other : bytes_eq c.in-Some.last.now.name c.args.name.now ≡ false = search rules in
    sym (last_passed c.in-Some.front.now c.loop-last.rest.now c.in-Some.last.now c.args.name.now parts other) ∙ c.loop-last.invariant

pub returns : goal.returns
returns c =
    let none = nil_from_length c.loop-last.rest.now (search rules) in
    sym (ap (λ (list : List Bound). last_value list c.args.name.now) none) ∙ c.loop-last.invariant
