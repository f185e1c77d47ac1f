use Rattle.std.proofs.Common.{◌∙◌, ◌+◌, ◌++◌, List, ℕ, take, drop, ap, subst, sym, arith}
use Rattle.plan.specs.Staying.{without, AreOnce}
use Rattle.plan.proofs.stay.drop_file.Goals as goal

pub place_of-requires : goal.place_of-requires
place_of-requires c = subst AreOnce (sym c.as_slice.ensures.value) c.requires

pub remove-requires : goal.remove-requires
remove-requires c =
    let low = c.in-Some.ensures.within in
    omega (arith, low, c.as_slice.ensures.len)

pub returns-in-Some : goal.returns-in-Some
returns-in-Some c =
    let place = c.in-Some.place in
    let held = c.as_slice.ensures.value in
    c.remove.ensures.by_index.2
    ∙ (sym (ap (λ (l : List ℕ). take place l ++ drop (place + 1) l) held) ∙ (sym c.in-Some.ensures.found ∙ ap (without c.args.file) held))

pub returns-in-None : goal.returns-in-None
returns-in-None c =
    let held = c.as_slice.ensures.value in
    sym held ∙ (sym c.in-None.ensures.none ∙ ap (without c.args.file) held)
