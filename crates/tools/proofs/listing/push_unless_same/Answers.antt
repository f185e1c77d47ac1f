use Rattle.std.proofs.Common.{◌≡◌, ◌∷◌, [], ℕ, Bool, true, false, List, Option, if◌then◌else◌, bytes_eq, refl, subst, sym, ◌∙◌, string_bytes}
use Rattle.std.specs.Map.Iter.{deref}
use Rattle.std.specs.Option.{option_map}
use denote.Ref.{Bor}
use Rattle.tools.specs.Answers.{Puts}
use Rattle.tools.specs.Showing.{unless_same}
use Rattle.tools.proofs.Putting.{on_ok, one_part, puts_none}
use Rattle.tools.proofs.listing.push_unless_same.Goals as goal

pub returns-in_default : goal.returns-in_default
returns-in_default c =
    let old = string_bytes c.args.told.now in
    let new = string_bytes c.push_line.new.text in
    on_ok c.push_line.result
    (λ put. subst (λ (o : Option (Bor (List ℕ))). Puts old new (unless_same (option_map deref o) c.args.text.now)) (sym c.in_default.is) (one_part old new c.args.text.now c.args.text.now put refl))
    c.push_line.ensures

pub returns-then-eq : goal.returns-then-eq
returns-then-eq c =
    let told = string_bytes c.args.told.now in
    let same : bytes_eq c.in-Some.last.now c.args.text.now ≡ true = sym c.eq.ensures ∙ c.if-eq.true in
    subst (λ (o : Option (Bor (List ℕ))). Puts told told (unless_same (option_map deref o) c.args.text.now)) (sym c.in-Some.is)
    (subst (λ (b : Bool). Puts told told (if b then [] else c.args.text.now ∷ [])) (sym same) (puts_none told))

pub returns : goal.returns
returns c =
    let old = string_bytes c.args.told.now in
    let new = string_bytes c.push_line-2.new.text in
    let other : bytes_eq c.in-Some.last.now c.args.text.now ≡ false = sym c.eq.ensures ∙ c.if-eq.false in
    on_ok c.push_line-2.result
    (λ put. subst (λ (o : Option (Bor (List ℕ))). Puts old new (unless_same (option_map deref o) c.args.text.now)) (sym c.in-Some.is)
    (subst (λ (b : Bool). Puts old new (if b then [] else c.args.text.now ∷ [])) (sym other) (one_part old new c.args.text.now c.args.text.now put refl)))
    c.push_line-2.ensures
