use Rattle.std.proofs.Common.{◌∙◌, ◌+◌, ◌++◌, ℕ, List, ap, sym, drop}
use Rattle.std.proofs.lemmas.List.{append_assoc}
use Rattle.audit.specs.declared.below.Carried.{Carried}
use Rattle.audit.specs.Below.{below, with_one}
use Rattle.audit.proofs.Members.{next}
use Rattle.audit.proofs.below.below.Goals as goal

pub loop-place-preserved : goal.loop-place-preserved
loop-place-preserved c =
    let paths = c.args.paths.now in
    let from = c.args.from.now in
    let to = c.args.to.now in
    let place = c.loop-place.place in
    let found = c.loop-place.found in
    c.loop-place.invariant
    ∙ (ap (λ (ps : List (List ℕ)). found ++ below from to ps) (next paths place c.in-Some.path.now (sym c.in-Some.ensures))
    ∙ (sym (append_assoc found (with_one from to c.in-Some.path.now) (below from to (drop (place + 1) paths)))
    ∙ ap (λ (more : List Carried). more ++ below from to (drop (place + 1) paths)) (sym c.in_ok-push.ensures)))
