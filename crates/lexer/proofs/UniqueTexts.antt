-- Lines and texts have at most one reading.
use Rattle.std.proofs.Common.{◌≡◌, ℕ, ◌+◌, List, ◌++◌, Bool, Option, Some, None, option_map, inl, inr, refl, sym, ap, ◌∙◌, subst, arith}
use Rattle.std.proofs.lemmas.List.{append_cancel_right}
use Rattle.std.specs.List.{flat_map}
use Rattle.std.specs.Option.{option_to_list}
use Rattle.lexer.specs.declared.fault.Fault.{Fault}
use Rattle.lexer.specs.declared.fault.FaultKind.{FaultKind}
use Rattle.lexer.specs.Grammar.{Outcome, Give, IsUnique}
use Rattle.lexer.specs.Grammar.Outcome.{Reached, Broken}
use Rattle.lexer.specs.Places.{line_feeds}
use Rattle.lexer.specs.Said.{Form, Said}
use Rattle.lexer.specs.Tokens.{line_end}
use Rattle.lexer.specs.Values.{Blanks}
use Rattle.lexer.specs.Statements.{OfStatement, OfBlock}
use Rattle.lexer.specs.Lines.{outside, begins_with_space, says_nothing, comment, Nothing, Something, Content, OfLine, inside_behind, Place, IsLine, IsStop, AreLines, IsRead, first_place}
use Rattle.lexer.proofs.Reading.{is_unique, give_unique, then_unique, either_unique, row_unique}
use Rattle.lexer.proofs.Unique.{blanks_unique}
use Rattle.lexer.proofs.UniqueForms.{is_then, of_statement_unique, of_block_unique}

nothing_unique : IsUnique Nothing
nothing_unique = is_then comment _ (λ _. is_then line_end _ (λ _. give_unique None))

something_unique : (One : List ℕ → Outcome Form → Type 0) → IsUnique One → IsUnique (Something One)
something_unique One one = then_unique One (λ form. Give (Some form)) one (λ form. give_unique (Some form))

content_unique : (inside indented : Bool) → IsUnique (Content inside indented)
content_unique inside indented bytes =
    either_unique (says_nothing bytes) _ _ nothing_unique
    (either_unique indented _ _ (either_unique inside _ _ (something_unique OfBlock of_block_unique) (is_unique outside)) (something_unique OfStatement of_statement_unique))
    bytes

pub of_line_unique : (inside : Bool) → IsUnique (OfLine inside)
of_line_unique inside bytes =
    then_unique Blanks (λ _. Content inside (begins_with_space bytes)) blanks_unique (λ _. content_unique inside (begins_with_space bytes)) bytes

-- ---- lines

-- what a line says of the statement in it
abbrev said_at : ℕ → Option Form → Option Said
said_at number = option_map (λ form. record { number = number; form = form })

reached_both : (f g : Option Form) (r s : List ℕ) → Reached f r ≡ Reached g s → (f ≡ g) × (r ≡ s)
reached_both f g r s e = (cc, cc)

never_both : {C : Type 0} (f : Option Form) (r s : List ℕ) (kind : FaultKind) → Reached f r ≡ Broken kind s → C
never_both f r s kind e = absurd (cc)

abbrev broken : FaultKind → List ℕ → Outcome (Option Form)
broken = Broken

broken_both : (k l : FaultKind) (r s : List ℕ) → broken k r ≡ broken l s → (k ≡ l) × (r ≡ s)
broken_both k l r s e = (cc, cc)

same_taken : (text s t rest more : List ℕ) → text ≡ s ++ rest → text ≡ t ++ more → rest ≡ more → s ≡ t
same_taken text s t rest more first second same =
    append_cancel_right s t rest (sym first ∙ (second ∙ ap (λ (x : List ℕ). t ++ x) (sym same)))

place_is : (b c : Place) → b.number ≡ c.number → b.inside ≡ c.inside → b.text ≡ c.text → b ≡ c
place_is b c number inside text =
    ap (λ (n : ℕ). record { number = n; inside = b.inside; text = b.text }) number
    ∙ (ap (λ (i : Bool). record { number = c.number; inside = i; text = b.text }) inside
    ∙ ap (λ (t : List ℕ). record { number = c.number; inside = c.inside; text = t }) text)

fault_is : (f g : Fault) → f.line ≡ g.line → f.kind ≡ g.kind → f ≡ g
fault_is f g line kind =
    ap (λ (n : ℕ). record { line = n; kind = f.kind }) line ∙ ap (λ (k : FaultKind). record { line = g.line; kind = k }) kind

line_one : (i j : Option Said) (a b c : Place) → IsLine i a b → IsLine j a c → (i ≡ j) × (b ≡ c)
line_one i j a b c x y =
    let same = reached_both x.form y.form b.text c.text (of_line_unique a.inside a.text (Reached x.form b.text) (Reached y.form c.text) x.reads y.reads) in
    let taken = same_taken a.text x.taken y.taken b.text c.text x.spelled y.spelled same.1 in (
      x.said_is ∙ (ap (said_at a.number) same.0 ∙ sym y.said_is),
      place_is b c
          (x.number_is ∙ (ap (λ (t : List ℕ). a.number + line_feeds t) taken ∙ sym y.number_is))
          (x.inside_is ∙ (ap (inside_behind a.inside) same.0 ∙ sym y.inside_is))
          same.1,
    )

-- ---- where a text stops

abbrev Stops : Place → Type 0
Stops place = (fault : Option Fault) × IsStop fault place

line_none : (i : Option Said) (a b : Place) → IsLine i a b → Stops a → ⊥
line_none i a b x (None, stop) = x.begins stop
line_none i a b x (Some fault, stop) =
    never_both x.form b.text stop.rest fault.kind (of_line_unique a.inside a.text (Reached x.form b.text) (Broken fault.kind stop.rest) x.reads stop.reads)

stop_one : (f g : Option Fault) (a : Place) → IsStop f a → IsStop g a → f ≡ g
stop_one None None a x y = refl
stop_one None (Some g) a x y = absurd (y.begins x)
stop_one (Some f) None a x y = absurd (x.begins y)
stop_one (Some f) (Some g) a x y =
    let same = broken_both f.kind g.kind x.rest y.rest (of_line_unique a.inside a.text (Broken f.kind x.rest) (Broken g.kind y.rest) x.reads y.reads) in
    let taken = same_taken a.text x.taken y.taken x.rest y.rest x.spelled y.spelled same.1 in
    ap Some (fault_is f g (x.line_is ∙ (ap (λ (t : List ℕ). a.number + line_feeds t) taken ∙ sym y.line_is)) same.0)

-- ---- texts

are_lines_unique : (text : List ℕ) (a b : List Said) (f g : Option Fault) → AreLines text a f → AreLines text b g → (a ≡ b) × (f ≡ g)
are_lines_unique text a b f g x y =
    let same = row_unique IsLine Stops line_one line_none x.all y.all (first_place text) x.stop y.stop x.row (f, x.stops) y.row (g, y.stops) in (
      x.said_is ∙ (ap (flat_map option_to_list) same.0 ∙ sym y.said_is),
      stop_one f g x.stop x.stops (subst (IsStop g) (sym same.1) y.stops),
    )

pub one_reading : (text : List ℕ) (a b : List Said) (f g : Option Fault) → IsRead text a f → IsRead text b g → (a ≡ b) × (f ≡ g)
one_reading text a b f g (inl x) (inl y) = are_lines_unique text a b f g x.1 y.1
one_reading text a b f g (inl x) (inr y) = let short = x.0 in let long = y.0 in absurd (omega arith)
one_reading text a b f g (inr x) (inl y) = let short = y.0 in let long = x.0 in absurd (omega arith)
one_reading text a b f g (inr x) (inr y) = (x.1 ∙ sym y.1, x.2 ∙ sym y.2)
