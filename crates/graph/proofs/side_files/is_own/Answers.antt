use Rattle.std.proofs.Common.{◌≡◌, ◌∙◌, List, ℕ, true, sym, subst}
use Rattle.std.proofs.lemmas.Bool.{false≢true}
use Rattle.graph.specs.Occupying.{is_own_end}
use Rattle.graph.proofs.Beside.{same_end}
use Rattle.graph.proofs.side_files.is_own.Goals as goal

pub returns-in-Some-clause-yes : goal.returns-in-Some-clause-yes
returns-in-Some-clause-yes c = λ yes. record { end = c.in-Some.end.now; is = c.in-Some.ensures.some; own = sym c.is_own_end.ensures ∙ yes }

pub returns-in-Some-clause-no : goal.returns-in-Some-clause-no
returns-in-Some-clause-no c = λ no own.
    let same = same_end c.args.start.now own.end c.in-Some.end.now (sym own.is ∙ c.in-Some.ensures.some) in
    false≢true (sym no ∙ (c.is_own_end.ensures ∙ subst (λ (e : List ℕ). is_own_end e ≡ true) same own.own))

pub returns-in-None-clause-no : goal.returns-in-None-clause-no
returns-in-None-clause-no c = λ no own. c.in-None.ensures.none own.end own.is
