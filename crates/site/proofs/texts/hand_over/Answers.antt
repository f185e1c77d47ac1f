use Rattle.std.proofs.Common.{◌++◌, List, ℕ, Option, sym, ap, ◌∙◌, subst, append-nil}
use Rattle.site.specs.Files.{text_in}
use Rattle.site.proofs.texts.hand_over.Goals as goal

pub returns-in_ok-take-in-Some : goal.returns-in_ok-take-in-Some
returns-in_ok-take-in-Some g c = λ taken took.
    subst (λ (xs : List ℕ). g.T.Takes.Took (taken ++ xs) c.take.new.self) (c.as_slice.ensures ∙ ap text_in (sym c.in-Some.is)) (c.in_ok-take-in-Some.ensures taken took)

pub returns-in-None : goal.returns-in-None
returns-in-None g c = λ taken took.
    subst (λ (xs : List ℕ). g.T.Takes.Took xs c.args.taker.now) (sym (append-nil taken) ∙ ap (λ (o : Option (List ℕ)). taken ++ text_in o) (sym c.in-None.is)) took
