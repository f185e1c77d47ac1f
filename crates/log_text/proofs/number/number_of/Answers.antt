use Rattle.std.proofs.Common.{◌≡◌, ◌<◌, ◌^◌, ◌∷◌, [], ℕ, decimal, sym, ◌∙◌, subst, IfSome, IfNone, true, false}
use Rattle.std.proofs.lemmas.Slice.Eq.{bytes_eq-Decides}
use Rattle.log_text.proofs.Numbers.{led_number, led_none, unled_none, nought}
use Rattle.log_text.proofs.number.number_of.Goals as goal

pub returns-then-eq-clause-found : goal.returns-then-eq-clause-found
returns-then-eq-clause-found c = (bytes_eq-Decides _ _).0 (sym c.if-eq.ensures) ∙ sym nought

pub returns-then-not-leads-clause-none : goal.returns-then-not-leads-clause-none
returns-then-not-leads-clause-none c =
    let other : c.args.text.now ≡ 48 ∷ [] → ⊥ = λ is. let clash : true ≡ false = sym ((bytes_eq-Decides _ _).1 is) ∙ sym c.if-eq.ensures in cc in
    unled_none c.args.text.now other (c.leads.ensures.no c.if-not-leads.true)

pub returns-clause-found : goal.returns-clause-found
returns-clause-found c = subst (λ found. IfSome found (λ n. c.args.text.now ≡ decimal n)) (sym c.ok.ensures.value) (led_number c.args.text.now c.parse.result (c.leads.ensures.yes c.if-not-leads.false) c.parse.ensures.value.0)

pub returns-clause-none : goal.returns-clause-none
returns-clause-none c = subst (λ found. IfNone found ((n : ℕ) → n < 2 ^ 64 → c.args.text.now ≡ decimal n → ⊥)) (sym c.ok.ensures.value) (led_none c.args.text.now c.parse.result c.parse.ensures.value.0)
