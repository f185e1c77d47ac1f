-- The inputs of commands, quoted.
use Rattle.std.proofs.Common.{◌≡◌, inl, inr, ℕ, ◌==◌, ◌||◌, Bool, true, false, if◌then◌else◌, List, [], ◌∷◌, map, refl, sym, ap, ◌∙◌, subst, bytes_eq}
use Rattle.std.specs.List.{flat_map}
use Rattle.std.proofs.lemmas.Bool.{eqb-true, eq-eqb, false≢true, or_cases, or_left, or_right}
use Rattle.std.proofs.lemmas.Slice.Eq.{bytes_eq-Decides}
use Rattle.lexer.specs.Quote.{quoted}
use Rattle.model.specs.Graph.{has, has_number}
use Rattle.graph.specs.Links.{links_of}
use Rattle.tools.specs.Above.{AreAbove}
use Rattle.tools.specs.Answers.{IsInputFor, PrintsEach, PrintsInputs, path_text, quoted_inputs}
use Rattle.tools.specs.declared.declared.Declared.{Declared}
use Rattle.tools.proofs.Adding.{has_either, has_left, has_right}

text_in : (f : ℕ → List (List ℕ)) (xs : List ℕ) (t : List ℕ) → has (flat_map f xs) t ≡ true → (e : ℕ) × (has_number xs e ≡ true) × (has (f e) t ≡ true)
text_in f [] t h = absurd (false≢true h)
text_in f (x ∷ xs) t h = elim (has_either (f x) (flat_map f xs) t h) [
  | inl here ↦ (x, or_left (x == x) (has_number xs x) (eq-eqb x x refl), here)
  | inr later ↦ let rest = text_in f xs t later in (rest.0, or_right (x == rest.0) (has_number xs rest.0) rest.1, rest.2)
]

in_text : (f : ℕ → List (List ℕ)) (xs : List ℕ) (e : ℕ) (t : List ℕ) → has_number xs e ≡ true → has (f e) t ≡ true → has (flat_map f xs) t ≡ true
in_text f [] e t at there = absurd (false≢true at)
in_text f (x ∷ xs) e t at there = elim (or_cases (x == e) (has_number xs e) at) [
  | inl here ↦ has_left (f x) (flat_map f xs) t (subst (λ (n : ℕ). has (f n) t ≡ true) (sym (eqb-true x e here)) there)
  | inr later ↦ has_right (f x) (flat_map f xs) t (in_text f xs e t later there)
]

mapped_from : (f : ℕ → List ℕ) (numbers : List ℕ) (t : List ℕ) → has (map f numbers) t ≡ true → (p : ℕ) × (has_number numbers p ≡ true) × (t ≡ f p)
mapped_from f [] t h = absurd (false≢true h)
mapped_from f (n ∷ numbers) t h = elim (or_cases (bytes_eq (f n) t) (has (map f numbers) t) h) [
  | inl here ↦ (n, or_left (n == n) (has_number numbers n) (eq-eqb n n refl), sym ((bytes_eq-Decides (f n) t).0 here))
  | inr later ↦ let rest = mapped_from f numbers t later in (rest.0, or_right (n == rest.0) (has_number numbers rest.0) rest.1, rest.2)
]

from_mapped : (f : ℕ → List ℕ) (numbers : List ℕ) (p : ℕ) → has_number numbers p ≡ true → has (map f numbers) (f p) ≡ true
from_mapped f [] p h = absurd (false≢true h)
from_mapped f (n ∷ numbers) p h = elim (or_cases (n == p) (has_number numbers p) h) [
  | inl here ↦ or_left (bytes_eq (f n) (f p)) (has (map f numbers) (f p)) ((bytes_eq-Decides (f n) (f p)).1 (ap f (eqb-true n p here)))
  | inr later ↦ or_right (bytes_eq (f n) (f p)) (has (map f numbers) (f p)) (from_mapped f numbers p later)
]

-- an input of one command
abbrev IsInputOf : Declared → ℕ → List ℕ → Type 0
IsInputOf declared e t = (p : ℕ) × ((links_of declared.graph).phony e ≡ false) × (has_number ((links_of declared.graph).inputs e) p ≡ true) × (t ≡ quoted (path_text declared p))

quoted_from : (declared : Declared) (e : ℕ) (t : List ℕ) (phony : Bool) → (links_of declared.graph).phony e ≡ phony
    → has (if phony then [] else map (λ (p : ℕ). quoted (path_text declared p)) ((links_of declared.graph).inputs e)) t ≡ true → IsInputOf declared e t
quoted_from declared e t true is h = absurd (false≢true h)
quoted_from declared e t false is h = let at = mapped_from (λ (p : ℕ). quoted (path_text declared p)) ((links_of declared.graph).inputs e) t h in (at.0, is, at.1, at.2)

from_quoted : (declared : Declared) (e p : ℕ) → (links_of declared.graph).phony e ≡ false → has_number ((links_of declared.graph).inputs e) p ≡ true → has (quoted_inputs declared e) (quoted (path_text declared p)) ≡ true
from_quoted declared e p command at =
    subst (λ (b : Bool). has (if b then [] else map (λ (q : ℕ). quoted (path_text declared q)) ((links_of declared.graph).inputs e)) (quoted (path_text declared p)) ≡ true) (sym command)
    (from_mapped (λ (q : ℕ). quoted (path_text declared q)) ((links_of declared.graph).inputs e) p at)

-- the inputs of the commands above paths are printed, each once
pub inputs_printed : (declared : Declared) (paths edges : List ℕ) (texts : List (List ℕ)) (text : List ℕ) → AreAbove declared.graph paths edges → texts ≡ flat_map (quoted_inputs declared) edges → PrintsEach texts text → PrintsInputs declared paths text
inputs_printed declared paths edges texts text above are prints = record {
  inputs = prints.each;
  order = prints.order;
  just = λ t. (
    λ h.
        let in_one = text_in (quoted_inputs declared) edges t (subst (λ (l : List (List ℕ)). has l t ≡ true) are ((prints.just t).0 h)) in
        let input = quoted_from declared in_one.0 t ((links_of declared.graph).phony in_one.0) refl in_one.2 in
        (in_one.0, input.0, (above.just in_one.0).0 in_one.1, input.1, input.2, input.3),
    λ input.
        let there : has (quoted_inputs declared input.0) t ≡ true = subst (λ (l : List ℕ). has (quoted_inputs declared input.0) l ≡ true) (sym input.5) (from_quoted declared input.0 input.1 input.3 input.4) in
        (prints.just t).1 (subst (λ (l : List (List ℕ)). has l t ≡ true) (sym are) (in_text (quoted_inputs declared) edges input.0 t ((above.just input.0).1 input.2) there)),
  );
  is = prints.is;
}
