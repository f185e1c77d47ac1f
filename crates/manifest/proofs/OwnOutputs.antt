-- A phony's inputs that are outputs of its own, in numbers and in texts.
use Rattle.std.proofs.Common.{◌≡◌, ℕ, ◌<◌, ◌||◌, ◌==◌, not, Bool, true, false, List, [], ◌∷◌, ◌++◌, length, filter, slice_get, Some, None, if◌then◌else◌, bytes_eq, refl, sym, ap, ◌∙◌, subst}
use Rattle.std.specs.List.{AllZip}
use Rattle.std.proofs.lemmas.Bool.{eqb-true, eq-eqb}
use Rattle.std.proofs.lemmas.List.{map-append}
use Rattle.std.proofs.lemmas.Option.{slice_get-get_or}
use Rattle.std.proofs.lemmas.Slice.Eq.{bytes_eq-Decides}
use Rattle.model.specs.Graph.{has, has_number}
use Rattle.paths.specs.declared.line.Line.{Line}
use Rattle.paths.specs.Lists.{line_outputs}
use Rattle.paths.specs.Numbers.{HaveOnePlace}
use Rattle.paths.specs.Told.{text_at, texts_at}
use Rattle.manifest.specs.Edges.{without, outputs_of}
use Rattle.manifest.specs.Held.{IsLineFor, kept_of}
use Rattle.manifest.specs.InNumbers.{IsLonger, AreBelow, IsWithin, numbers_of, paths_at, numbers_without, without_own}
use Rattle.manifest.specs.States.{Build}
use Rattle.manifest.proofs.Added.{below_both, lists_of, paths_stay, within_stays, same_paths}

pub line_stays : (old new : List (List ℕ)) (build : Build) (line : Line) → IsLonger old new → IsLineFor old build line → IsLineFor new build line
line_stays old new build line longer is = record { within = within_stays old new line longer is.within; paths = paths_stay old new line longer is.within ∙ is.paths }

pub grow_lines : (old new : List (List ℕ)) (builds : List Build) (lines : List Line) → IsLonger old new → AllZip (IsLineFor old) builds lines → AllZip (IsLineFor new) builds lines
grow_lines old new [] [] longer all = tt
grow_lines old new [] (line ∷ lines) longer all = absurd all
grow_lines old new (build ∷ builds) [] longer all = absurd all
grow_lines old new (build ∷ builds) (line ∷ lines) longer all = (line_stays old new build line longer all.0, grow_lines old new builds lines longer all.1)

pub same_answer : (a b : Bool) → (a ≡ true → b ≡ true) → (b ≡ true → a ≡ true) → a ≡ b
same_answer true b there back = sym (there refl)
same_answer false true there back = back refl
same_answer false false there back = refl

at_number : (table : List (List ℕ)) (n : ℕ) → n < length table → slice_get table n ≡ Some (text_at table n)
at_number table n low = slice_get-get_or table n [] low

module _ (table : List (List ℕ)) (once : HaveOnePlace table) where
  same_number : (i j : ℕ) → i < length table → j < length table → (i == j) ≡ bytes_eq (text_at table i) (text_at table j)
  same_number i j low high = same_answer (i == j) (bytes_eq (text_at table i) (text_at table j))
      (λ same. let e : i ≡ j = eqb-true i j same in (bytes_eq-Decides (text_at table i) (text_at table j)).1 (ap (text_at table) e))
      (λ same. let e : text_at table i ≡ text_at table j = (bytes_eq-Decides (text_at table i) (text_at table j)).0 same in
      eq-eqb i j (once i j (text_at table j) (at_number table i low ∙ ap (λ (p : List ℕ). Some p) e) (at_number table j high)))

  pub numbers_texts : (outputs : List ℕ) (n : ℕ) → AreBelow (length table) outputs → n < length table → has_number outputs n ≡ has (texts_at table outputs) (text_at table n)
  numbers_texts [] n all low = refl
  numbers_texts (j ∷ outputs) n all low =
      ap (λ (b : Bool). b || has_number outputs n) (same_number j n all.0 low)
      ∙ ap (λ (b : Bool). bytes_eq (text_at table j) (text_at table n) || b) (numbers_texts outputs n all.1 low)

  pub texts_without : (outputs numbers : List ℕ) → AreBelow (length table) outputs → AreBelow (length table) numbers
      → texts_at table (numbers_without outputs numbers) ≡ without (texts_at table outputs) (texts_at table numbers)
  texts_without outputs [] outs all = refl
  texts_without outputs (n ∷ numbers) outs all =
      let rest = texts_without outputs numbers outs all.1 in
      by (has_number outputs n) (has (texts_at table outputs) (text_at table n)) (numbers_texts outputs n outs all.0) rest
    where
      by : (a b : Bool) → a ≡ b → texts_at table (numbers_without outputs numbers) ≡ without (texts_at table outputs) (texts_at table numbers)
          → texts_at table (if not a then n ∷ numbers_without outputs numbers else numbers_without outputs numbers)
          ≡ (if not b then text_at table n ∷ without (texts_at table outputs) (texts_at table numbers) else without (texts_at table outputs) (texts_at table numbers))
      by true true e rest = rest
      by false false e rest = ap (λ (l : List (List ℕ)). text_at table n ∷ l) rest
      by true false e rest = absurd (cc)
      by false true e rest = absurd (cc)

filter_below : (count : ℕ) (test : ℕ → Bool) (numbers : List ℕ) → AreBelow count numbers → AreBelow count (filter test numbers)
filter_below count test [] all = tt
filter_below count test (n ∷ numbers) all = by (test n) (filter_below count test numbers all.1)
  where
    by : (b : Bool) → AreBelow count (filter test numbers) → AreBelow count (if b then n ∷ filter test numbers else filter test numbers)
    by true rest = (all.0, rest)
    by false rest = rest

pub own_within : (table : List (List ℕ)) (line : Line) → IsWithin table line → IsWithin table (without_own line)
own_within table line within =
    let lists = lists_of (length table) line within in
    let keep = λ (n : ℕ). not (has_number (line_outputs line) n) in
    below_both (length table) line.explicit_outputs _ lists.explicit_outputs
    (below_both (length table) line.implicit_outputs _ lists.implicit_outputs
    (below_both (length table) (filter keep line.explicit_inputs) _ (filter_below (length table) keep line.explicit_inputs lists.explicit_inputs)
    (below_both (length table) (filter keep line.implicit_inputs) _ (filter_below (length table) keep line.implicit_inputs lists.implicit_inputs)
    (below_both (length table) (filter keep line.order_only_inputs) _ (filter_below (length table) keep line.order_only_inputs lists.order_only_inputs) lists.validations))))

pub own_paths : (table : List (List ℕ)) (line : Line) → HaveOnePlace table → IsWithin table line → paths_at table (without_own line) ≡ kept_of None (paths_at table line)
own_paths table line once within =
    let lists = lists_of (length table) line within in
    let outs = below_both (length table) line.explicit_outputs line.implicit_outputs lists.explicit_outputs lists.implicit_outputs in
    let same : texts_at table (line_outputs line) ≡ outputs_of (paths_at table line) = map-append (text_at table) line.explicit_outputs line.implicit_outputs in
    same_paths (paths_at table (without_own line)) (kept_of None (paths_at table line)) refl refl
    (texts_without table once (line_outputs line) line.explicit_inputs outs lists.explicit_inputs ∙ ap (λ (o : List (List ℕ)). without o (texts_at table line.explicit_inputs)) same)
    (texts_without table once (line_outputs line) line.implicit_inputs outs lists.implicit_inputs ∙ ap (λ (o : List (List ℕ)). without o (texts_at table line.implicit_inputs)) same)
    (texts_without table once (line_outputs line) line.order_only_inputs outs lists.order_only_inputs ∙ ap (λ (o : List (List ℕ)). without o (texts_at table line.order_only_inputs)) same)
    refl
