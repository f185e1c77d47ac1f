-- The parts of a `build` line.
use Rattle.std.proofs.Common.{◌≡◌, ◌≢◌, ℕ, Bool, true, false, List, [], ◌∷◌, ◌++◌, Option, Some, ap, sym, refl, ◌∙◌, append_assoc, subst, arith}
use Rattle.lexer.specs.declared.cursor.Cursor.{Cursor}
use Rattle.lexer.specs.declared.statement.Value.{Value}
use Rattle.lexer.specs.declared.stop.Stop.{Stop}
use Rattle.lexer.specs.declared.stop.Stop.TheVariants.{Memory, Found}
use Rattle.lexer.specs.declared.tokens.Mark.{Mark}
use Rattle.lexer.specs.declared.tokens.Mark.TheVariants.{Bar, DoubleBar, BarAt}
use Rattle.lexer.specs.Grammar.{Outcome, Grammar, Is, Give, Then, Either}
use Rattle.lexer.specs.Grammar.Outcome.{Reached, Broken}
use Rattle.lexer.specs.Places.{IsBehind, Breaks}
use Rattle.lexer.specs.Said.{Fragments, BuildForm, paths_of}
use Rattle.lexer.specs.Statements.{some_of, MarkedBy, Marked, Outputs, OfRule, InputsForm, Inputs, build_form}
use Rattle.lexer.specs.Tokens.{unexpected, line_end, name, word_end, mark, is_mark}
use Rattle.lexer.specs.Values.{Blanks, Paths}
use Rattle.lexer.proofs.Places.{line_feeds-append}

-- ---- what follows of each part

abbrev pub behind_default_paths : List Fragments → Grammar (List Fragments)
behind_default_paths paths = Then (Is (some_of paths)) (λ _. Then (Is line_end) (λ _. Give paths))

abbrev pub behind_default : Unit {0} → Grammar (List Fragments)
behind_default _ = Then Paths behind_default_paths

abbrev pub behind_rule : List ℕ → Grammar (List ℕ)
behind_rule word = Then (Is word_end) (λ _. Give word)

abbrev pub behind_colon_blanks : Unit {0} → Grammar (List ℕ)
behind_colon_blanks _ = Then (Is name) behind_rule

abbrev pub behind_colon : Unit {0} → Grammar (List ℕ)
behind_colon _ = Then Blanks behind_colon_blanks

abbrev pub behind_implicit : List Fragments → List Fragments → Grammar (List Fragments × List Fragments)
behind_implicit explicit implicit = Then (Is (some_of (explicit ++ implicit))) (λ _. Give (explicit, implicit))

abbrev pub behind_explicit : List Fragments → Grammar (List Fragments × List Fragments)
behind_explicit explicit = Then (Marked Bar) (behind_implicit explicit)

abbrev pub behind_validations : List Fragments → List Fragments → List Fragments → List Fragments → Grammar InputsForm
behind_validations explicit implicit order_only validations = Give (record { explicit = explicit; implicit = implicit; order_only = order_only; validations = validations })

abbrev pub behind_order_only : List Fragments → List Fragments → List Fragments → Grammar InputsForm
behind_order_only explicit implicit order_only = Then (Marked BarAt) (behind_validations explicit implicit order_only)

abbrev pub behind_implicit_inputs : List Fragments → List Fragments → Grammar InputsForm
behind_implicit_inputs explicit implicit = Then (Marked DoubleBar) (behind_order_only explicit implicit)

abbrev pub behind_explicit_inputs : List Fragments → Grammar InputsForm
behind_explicit_inputs explicit = Then (Marked Bar) (behind_implicit_inputs explicit)

abbrev pub behind_inputs : List Fragments × List Fragments → List ℕ → InputsForm → Grammar BuildForm
behind_inputs outputs rule_name inputs = Then (Is line_end) (λ _. Give (build_form outputs rule_name inputs))

abbrev pub behind_rule_name : List Fragments × List Fragments → List ℕ → Grammar BuildForm
behind_rule_name outputs rule_name = Then Inputs (behind_inputs outputs rule_name)

abbrev pub behind_outputs : List Fragments × List Fragments → Grammar BuildForm
behind_outputs outputs = Then OfRule (behind_rule_name outputs)

abbrev pub behind_build : Unit {0} → Grammar BuildForm
behind_build _ = Then Outputs behind_outputs

-- ---- at least one path

pub never : {A : Type 0} (t : Bool) → (A → t ≡ true) → t ≡ false → A → ⊥
never t yes_if no_test a = let clash : true ≡ false = sym (yes_if a) ∙ no_test in cc

pub some_of_paths : (paths : List Value) (bytes : List ℕ) → paths ≢ [] → Reached tt bytes ≡ some_of (paths_of paths) bytes
some_of_paths [] bytes some = absurd (some refl)
some_of_paths (path ∷ paths) bytes some = refl

pub none_of_paths : (paths : List Value) (bytes : List ℕ) → paths ≡ [] → some_of (paths_of paths) bytes ≡ unexpected bytes
none_of_paths [] bytes none = refl
none_of_paths (path ∷ paths) bytes none = absurd (cc)

pub some_of_both : (xs ys : List Value) (bytes : List ℕ) → xs ++ ys ≢ [] → Reached tt bytes ≡ some_of (paths_of xs ++ paths_of ys) bytes
some_of_both [] ys bytes some = some_of_paths ys bytes some
some_of_both (x ∷ xs) ys bytes some = refl

pub none_of_both : (xs ys : List Value) (bytes : List ℕ) → xs ++ ys ≡ [] → some_of (paths_of xs ++ paths_of ys) bytes ≡ unexpected bytes
none_of_both [] ys bytes none = none_of_paths ys bytes none
none_of_both (x ∷ xs) ys bytes none = absurd (cc)

pub first_none : {A : Type 0} (xs ys : List A) → xs ++ ys ≡ [] → xs ≡ []
first_none [] ys none = refl
first_none (x ∷ xs) ys none = absurd (cc)

-- ---- marks

pub marked_is : (wanted found : Mark) (bytes rest : List ℕ) (outcome : Outcome (List Fragments)) → ◌≡◌ {A = Option (Mark × List ℕ)} (Some (found, rest)) (mark bytes) → is_mark wanted found ≡ true → Paths rest outcome → Marked wanted bytes outcome
marked_is wanted found bytes rest outcome some same reads =
    subst (λ (m : Option (Mark × List ℕ)). MarkedBy wanted m bytes outcome) some (
    subst (λ (t : Bool). Either t (λ _. Paths rest) (Give []) bytes outcome) (sym same) reads)

pub breaks_marked : (wanted found : Mark) (a b : Cursor) (stop : Stop) → ◌≡◌ {A = Option (Mark × List ℕ)} (Some (found, b.rest.now)) (mark a.rest.now) → is_mark wanted found ≡ true → IsBehind a b → Breaks Paths b stop → Breaks (Marked wanted) a stop
breaks_marked wanted found a b Memory some same behind stops = tt
breaks_marked wanted found a b (Found fault) some same behind stops = record {
  taken = behind.taken ++ stops.taken;
  rest = stops.rest;
  spelled = behind.spelled ∙ (ap (λ (rest : List ℕ). behind.taken ++ rest) stops.spelled ∙ sym (append_assoc behind.taken stops.taken stops.rest));
  reads = marked_is wanted found a.rest.now b.rest.now (Broken fault.kind stops.rest) some same stops.reads;
  line_is = let feeds = line_feeds-append behind.taken stops.taken in let x = behind.line_is in let y = stops.line_is in omega arith;
}
