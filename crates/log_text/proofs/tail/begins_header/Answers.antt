use Rattle.std.proofs.Common.{◌≡◌, ◌∷◌, [], ◌++◌, ap, sym, ◌∙◌, List, ℕ, true, false, append_assoc}
use Rattle.std.proofs.lemmas.Bool.Decides.{Decides-eqb}
use Rattle.std.proofs.lemmas.Slice.Eq.{starts_is}
use Rattle.log_text.proofs.Tails.{within_line}
use Rattle.log_text.proofs.tail.begins_header.Goals as goal

pub returns-clause-begins : goal.returns-clause-begins
returns-clause-begins g c = λ yes.
    let first = (g.L.Records.forms c.args.version).first in
    let begins = (starts_is Decides-eqb c.first_line.result.now c.args.bytes.now c.starts_with.result c.starts_with.ensures.value).0 yes in
    (_, ap (λ (xs : List ℕ). xs ++ 10 ∷ []) (sym c.first_line.ensures ∙ begins) ∙ append_assoc c.args.bytes.now _ (10 ∷ []))

pub returns-clause-other : goal.returns-clause-other
returns-clause-other g c = λ no rest e.
    let first = (g.L.Records.forms c.args.version).first in
    let more = within_line first c.args.bytes.now rest c.requires e in
    let yes = (starts_is Decides-eqb c.first_line.result.now c.args.bytes.now c.starts_with.result c.starts_with.ensures.value).1 more.0 (c.first_line.ensures ∙ more.1) in
    let clash : true ≡ false = sym yes ∙ no in cc
