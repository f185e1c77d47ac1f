-- Edges of numbers and of texts.
use Rattle.std.proofs.Common.{◌≡◌, inl, inr, ℕ, zero, suc, ◌<◌, ◌==◌, true, List, [], ◌∷◌, ◌++◌, Some, length, get_or, take, refl, sym, ◌∙◌, ap, subst, arith, bytes_eq}
use Rattle.std.specs.List.{AllByRecursion, flat_map}
use Rattle.std.specs.Option.{option_map}
use Rattle.std.proofs.lemmas.Bool.{cases_Bool, eqb-true, eq-eqb, false≢true, or_cases, or_left, or_right, false_from_ne_true}
use Rattle.std.proofs.lemmas.List.{map-append}
use Rattle.std.proofs.lemmas.Option.{slice_get-get_or}
use Rattle.model.specs.declared.graph.Edge.{Edge}
use Rattle.model.specs.Graph.{has, has_number, no_edge, inputs, outputs, regular_inputs, all_inputs, all_outputs}
use Rattle.theory.proofs.Lists.{same_bytes}
use Rattle.theory.proofs.Mapped.{has_mapped, mapped_has}
use Rattle.paths.specs.declared.line.Line.{Line}
use Rattle.paths.specs.declared.manifest.Action.{Action}
use Rattle.paths.specs.declared.manifest.Action.TheVariants.{Alias, Command}
use Rattle.paths.specs.Numbers.{HaveOnePlace}
use Rattle.paths.specs.Lists.{line_at, line_outputs, line_regular_inputs, line_inputs}
use Rattle.paths.specs.Commands.{no_action}
use Rattle.paths.specs.Told.{text_at, texts_at, edge_of, edges_of}
use Rattle.graph.specs.Held.{dyndep_of}
use Rattle.graph.specs.Links.{is_alias}

-- ---- one path, one number

pub same_number : (paths : List (List ℕ)) → HaveOnePlace paths → (i j : ℕ) → i < length paths → j < length paths → text_at paths i ≡ text_at paths j → i ≡ j
same_number paths once i j a b same =
    once i j (text_at paths j) (slice_get-get_or paths i [] a ∙ ap (λ (t : List ℕ). Some t) same) (slice_get-get_or paths j [] b)

-- the numbers are those of paths
abbrev pub AreWithin : List (List ℕ) → List ℕ → Type 0
AreWithin paths numbers = AllByRecursion (λ p. p < length paths) numbers

pub within_has : (n : ℕ) (numbers : List ℕ) (p : ℕ) → AllByRecursion (λ q. q < n) numbers → has_number numbers p ≡ true → p < n
within_has n [] p all h = absurd (false≢true h)
within_has n (q ∷ numbers) p all h = elim (or_cases (q == p) (has_number numbers p) h) [
  | inl here ↦ subst (λ (m : ℕ). m < n) (eqb-true q p here) all.0
  | inr later ↦ within_has n numbers p all.1 later
]

pub within_of : (n : ℕ) (numbers : List ℕ) → ((p : ℕ) → has_number numbers p ≡ true → p < n) → AllByRecursion (λ q. q < n) numbers
within_of n [] each = tt
within_of n (q ∷ numbers) each = (each q (or_left (q == q) (has_number numbers q) (eq-eqb q q refl)), within_of n numbers (λ p h. each p (or_right (q == p) (has_number numbers p) h)))

pub has_text : (paths : List (List ℕ)) (numbers : List ℕ) (n : ℕ) → has_number numbers n ≡ true → has (texts_at paths numbers) (text_at paths n) ≡ true
has_text paths numbers n h = has_mapped (text_at paths) numbers n h

pub text_has : (paths : List (List ℕ)) → HaveOnePlace paths → (numbers : List ℕ) (n : ℕ) → n < length paths → AreWithin paths numbers → has (texts_at paths numbers) (text_at paths n) ≡ true → has_number numbers n ≡ true
text_has paths once [] n lt within h = absurd (false≢true h)
text_has paths once (m ∷ numbers) n lt within h = elim (or_cases (bytes_eq (text_at paths m) (text_at paths n)) (has (texts_at paths numbers) (text_at paths n)) h) [
  | inl here ↦ or_left (m == n) (has_number numbers n) (eq-eqb m n (same_number paths once m n within.0 lt (same_bytes (text_at paths m) (text_at paths n) here)))
  | inr later ↦ or_right (m == n) (has_number numbers n) (text_has paths once numbers n lt within.1 later)
]

pub has_texts : (paths : List (List ℕ)) → HaveOnePlace paths → (numbers : List ℕ) (n : ℕ) → n < length paths → AreWithin paths numbers → has (texts_at paths numbers) (text_at paths n) ≡ has_number numbers n
has_texts paths once numbers n lt within = elim (cases_Bool (has_number numbers n)) [
  | inl there ↦ has_text paths numbers n there ∙ sym there
  | inr absent ↦ false_from_ne_true _ (λ h. false≢true (sym absent ∙ text_has paths once numbers n lt within h)) ∙ sym absent
]

-- the number of a text
pub number_of : (paths : List (List ℕ)) (numbers : List ℕ) (p : List ℕ) → has (texts_at paths numbers) p ≡ true → (n : ℕ) × (has_number numbers n ≡ true) × (text_at paths n ≡ p)
number_of paths numbers p h = mapped_has (text_at paths) numbers p h

-- ---- the edge of a line

pub outputs_of : (paths : List (List ℕ)) (line : Line) (action : Action) → outputs (edge_of paths line action) ≡ texts_at paths (line_outputs line)
outputs_of paths line Alias = sym (map-append (text_at paths) line.explicit_outputs line.implicit_outputs)
outputs_of paths line (Command command) = sym (map-append (text_at paths) line.explicit_outputs line.implicit_outputs)

pub regular_of : (paths : List (List ℕ)) (line : Line) (action : Action) → regular_inputs (edge_of paths line action) ≡ texts_at paths (line_regular_inputs line)
regular_of paths line Alias = sym (map-append (text_at paths) line.explicit_inputs line.implicit_inputs)
regular_of paths line (Command command) = sym (map-append (text_at paths) line.explicit_inputs line.implicit_inputs)

order_only_of : (paths : List (List ℕ)) (line : Line) (action : Action) → (edge_of paths line action).order_only_inputs ≡ texts_at paths line.order_only_inputs
order_only_of paths line Alias = refl
order_only_of paths line (Command command) = refl

pub inputs_of : (paths : List (List ℕ)) (line : Line) (action : Action) → inputs (edge_of paths line action) ≡ texts_at paths (line_inputs line)
inputs_of paths line action =
    ap (λ (l : List (List ℕ)). l ++ (edge_of paths line action).order_only_inputs) (regular_of paths line action)
    ∙ (ap (λ (l : List (List ℕ)). texts_at paths (line_regular_inputs line) ++ l) (order_only_of paths line action)
    ∙ sym (map-append (text_at paths) (line_regular_inputs line) line.order_only_inputs))

pub validations_of : (paths : List (List ℕ)) (line : Line) (action : Action) → (edge_of paths line action).validations ≡ texts_at paths line.validations
validations_of paths line Alias = refl
validations_of paths line (Command command) = refl

pub phony_of : (paths : List (List ℕ)) (line : Line) (action : Action) → (edge_of paths line action).phony ≡ is_alias action
phony_of paths line Alias = refl
phony_of paths line (Command command) = refl

pub dyndep_is : (paths : List (List ℕ)) (line : Line) (action : Action) → (edge_of paths line action).dyndep ≡ option_map (text_at paths) (dyndep_of action)
dyndep_is paths line Alias = refl
dyndep_is paths line (Command command) = refl

-- ---- the edges of lines

pub length-edges : (paths : List (List ℕ)) (lines : List Line) (actions : List Action) → length actions ≡ length lines → length (edges_of paths lines actions) ≡ length lines
length-edges paths [] actions fits = refl
length-edges paths (line ∷ lines) [] fits = absurd (omega (arith, fits))
length-edges paths (line ∷ lines) (action ∷ actions) fits = ap suc (length-edges paths lines actions (omega (arith, fits)))

pub edge_get : (paths : List (List ℕ)) (lines : List Line) (actions : List Action) (e : ℕ) → length actions ≡ length lines → get_or (edges_of paths lines actions) e no_edge ≡ edge_of paths (line_at lines e) (get_or actions e no_action)
edge_get paths [] [] e fits = refl
edge_get paths [] (action ∷ actions) e fits = absurd (omega (arith, fits))
edge_get paths (line ∷ lines) [] e fits = absurd (omega (arith, fits))
edge_get paths (line ∷ lines) (action ∷ actions) zero fits = refl
edge_get paths (line ∷ lines) (action ∷ actions) (suc e) fits = edge_get paths lines actions e (omega (arith, fits))

pub all_outputs_of : (paths : List (List ℕ)) (lines : List Line) (actions : List Action) → length actions ≡ length lines → all_outputs (edges_of paths lines actions) ≡ texts_at paths (flat_map line_outputs lines)
all_outputs_of paths [] actions fits = refl
all_outputs_of paths (line ∷ lines) [] fits = absurd (omega (arith, fits))
all_outputs_of paths (line ∷ lines) (action ∷ actions) fits =
    ap (λ (l : List (List ℕ)). l ++ all_outputs (edges_of paths lines actions)) (outputs_of paths line action)
    ∙ (ap (λ (l : List (List ℕ)). texts_at paths (line_outputs line) ++ l) (all_outputs_of paths lines actions (omega (arith, fits)))
    ∙ sym (map-append (text_at paths) (line_outputs line) (flat_map line_outputs lines)))

pub all_inputs_of : (paths : List (List ℕ)) (lines : List Line) (actions : List Action) → length actions ≡ length lines → all_inputs (edges_of paths lines actions) ≡ texts_at paths (flat_map line_inputs lines)
all_inputs_of paths [] actions fits = refl
all_inputs_of paths (line ∷ lines) [] fits = absurd (omega (arith, fits))
all_inputs_of paths (line ∷ lines) (action ∷ actions) fits =
    ap (λ (l : List (List ℕ)). l ++ all_inputs (edges_of paths lines actions)) (inputs_of paths line action)
    ∙ (ap (λ (l : List (List ℕ)). texts_at paths (line_inputs line) ++ l) (all_inputs_of paths lines actions (omega (arith, fits)))
    ∙ sym (map-append (text_at paths) (line_inputs line) (flat_map line_inputs lines)))

pub edges_take : (paths : List (List ℕ)) (lines : List Line) (actions : List Action) (k : ℕ) → take k (edges_of paths lines actions) ≡ edges_of paths (take k lines) (take k actions)
edges_take paths lines actions zero = refl
edges_take paths [] actions (suc k) = refl
edges_take paths (line ∷ lines) [] (suc k) = refl
edges_take paths (line ∷ lines) (action ∷ actions) (suc k) = ap (λ (l : List Edge). edge_of paths line action ∷ l) (edges_take paths lines actions k)
