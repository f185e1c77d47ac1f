-- Statements that do not fit their file, from what is chosen for edges.
use Rattle.std.proofs.Common.{◌≡◌, ◌⊎◌, inl, inr, ℕ, zero, suc, ◌+◌, ◌<◌, ◌≤◌, Bool, true, false, List, [], ◌∷◌, ◌++◌, Option, Some, None, map, length, get_or, slice_get, slice_index_or, refl, sym, ◌∙◌, ap, subst, arith, length-append, append_assoc}
use Rattle.std.specs.List.{AllByRecursion}
use Rattle.std.proofs.lemmas.Bool.{cases_lt, cases_Bool, false≢true, false_from_ne_true}
use Rattle.model.specs.declared.graph.Edge.{Edge}
use Rattle.model.specs.Graph.{has, edge_at, outputs, first_output, Addition, IsMadeOnce}
use Rattle.theory.proofs.Makers.{one_maker}
use Rattle.paths.specs.Told.{text_at}
use Rattle.graph.specs.declared.graph.Graph.{Graph}
use Rattle.graph.specs.Told.{declared_by}
use Rattle.graph.specs.Extended.{dyndep_at, LacksStatement, IsFirstLacking, IsOfNamer, IsSecond, IsUnfitting, IsFirstUnfitting, IsUnfit}
use Rattle.graph.specs.Statements.{owner_in, owners_of, NoneIsOf, IsFirstOf, IsChoice, AreChoices, FitsAt, AllFitBelow, LacksChoice, IsLowestLacking}
use Rattle.graph.proofs.Choosing.{owner_some, owner_is, find_one, names_number, names_text, named_within}
use Rattle.graph.proofs.Places.{at_split, IsAt, split_of, get_within, get_there, get_map, map_get}

none_some : {X : Type 0} (x : X) → None ≡ Some x → ⊥
none_some x is = cc

some_same : {X : Type 0} (a b : X) → Some a ≡ Some b → a ≡ b
some_same a b is = cc

-- each of these has the property, or one at a place fails
pub all_at : {X : Type 0} (P : X → Type 0) (xs : List X) → ((j : ℕ) (x : X) → slice_get xs j ≡ Some x → P x) → AllByRecursion P xs
all_at P [] each = tt
all_at P (x ∷ xs) each = (each 0 x refl, all_at P xs (λ j y is. each (suc j) y is))

at_all : {X : Type 0} (P : X → Type 0) (xs : List X) (j : ℕ) (x : X) → AllByRecursion P xs → slice_get xs j ≡ Some x → P x
at_all P [] zero x all is = cc
at_all P [] (suc j) x all is = cc
at_all P (y ∷ xs) zero x all is = subst P (some_same y x is) all.0
at_all P (y ∷ xs) (suc j) x all is = at_all P xs j x all.1 is

module _ (edges : List Edge) (once : IsMadeOnce edges) (file : List ℕ) (additions : List Addition) where
  abbrev owner : Addition → Option ℕ
  owner a = owner_in edges file a.output

  abbrev owners : List (Option ℕ)
  owners = owners_of edges file additions

  pub owner_at : (j : ℕ) (a : Addition) → slice_get additions j ≡ Some a → slice_get owners j ≡ Some (owner a)
  owner_at j a is = get_map owner additions j a is

  -- no statement is of an edge just where none is so by what it makes
  pub none_lacks : (i : ℕ) → (edge_at edges i).dyndep ≡ Some file → NoneIsOf owners (length additions) i → LacksStatement file additions (edge_at edges i)
  none_lacks i names none = record {
    names = names;
    none = all_at (λ a. has (outputs (edge_at edges i)) a.output ≡ false) additions (λ j a at.
        false_from_ne_true _ (λ makes. none j (get_within additions j a at) (owner_at j a at ∙ ap (λ (o : Option ℕ). Some o) (owner_is edges file a.output i once names makes))));
  }

  pub lacks_none : (i : ℕ) → LacksStatement file additions (edge_at edges i) → NoneIsOf owners (length additions) i
  lacks_none i lacks j lt is =
      let one = map_get owner additions j (Some i) is in
      false≢true (sym (at_all (λ a. has (outputs (edge_at edges i)) a.output ≡ false) additions j one.0 lacks.none one.1) ∙ (owner_some edges file one.0.output i one.2).1)

  -- a statement that fits
  fits_no : (k : ℕ) (front : List Addition) (a : Addition) (rest : List Addition) → additions ≡ front ++ a ∷ rest → length front ≡ k → FitsAt owners k → IsUnfitting edges file front a.output → ⊥
  fits_no k front a rest splits place fits unfit =
      let at : slice_get additions k ≡ Some a = subst (λ (n : ℕ). slice_get additions n ≡ Some a) place (ap (λ (l : List Addition). slice_get l (length front)) splits ∙ at_split front a rest) in
      let owns : owner a ≡ Some fits.0 = some_same (owner a) (Some fits.0) (sym (owner_at k a at) ∙ fits.1.at) in
      let mine = owner_some edges file a.output fits.0 owns in
      by mine owns unfit
    where
      by : ((edge_at edges fits.0).dyndep ≡ Some file) × (has (outputs (edge_at edges fits.0)) a.output ≡ true) → owner a ≡ Some fits.0 → IsUnfitting edges file front a.output → ⊥
      by mine owns (inl other) = other record { edge = fits.0; names = mine.0; makes = mine.1 }
      by mine owns (inr second) =
          let same : second.edge ≡ fits.0 = one_maker edges a.output second.edge fits.0 once second.makes mine.1 in
          let earlier : has (outputs (edge_at edges fits.0)) second.other.output ≡ true = subst (λ (n : ℕ). has (outputs (edge_at edges n)) second.other.output ≡ true) same second.earlier in
          let whole : additions ≡ second.front ++ second.other ∷ (second.rest ++ a ∷ rest) = splits ∙ (ap (λ (l : List Addition). l ++ a ∷ rest) second.splits ∙ append_assoc second.front (second.other ∷ second.rest) (a ∷ rest)) in
          let at : slice_get additions (length second.front) ≡ Some second.other = ap (λ (l : List Addition). slice_get l (length second.front)) whole ∙ at_split second.front second.other (second.rest ++ a ∷ rest) in
          let long : length front ≡ length second.front + length (second.other ∷ second.rest) = ap length second.splits ∙ length-append second.front (second.other ∷ second.rest) in
          fits.1.earlier (length second.front) (omega (arith, long, place)) (owner_at (length second.front) second.other at ∙ ap (λ (o : Option ℕ). Some o) (owner_is edges file second.other.output fits.0 once mine.0 earlier))

  -- a statement that fits no edge
  unfits : (b : ℕ) (front : List Addition) (a : Addition) (rest : List Addition) → additions ≡ front ++ a ∷ rest → length front ≡ b → (FitsAt owners b → ⊥) → IsUnfitting edges file front a.output
  unfits b front a rest splits place unfit = by (owner a) refl
    where
      at : slice_get additions b ≡ Some a
      at = subst (λ (n : ℕ). slice_get additions n ≡ Some a) place (ap (λ (l : List Addition). slice_get l (length front)) splits ∙ at_split front a rest)

      earlier_in : (xs : List Addition) (ys : List Addition) (j : ℕ) (x : Addition) → slice_get (xs ++ ys) j ≡ Some x → j < length xs → slice_get xs j ≡ Some x
      earlier_in [] ys j x is lt = absurd (omega (arith, lt))
      earlier_in (z ∷ xs) ys zero x is lt = is
      earlier_in (z ∷ xs) ys (suc j) x is lt = earlier_in xs ys j x is (omega (arith, lt))

      second_of : (i j : ℕ) → owner a ≡ Some i → j < b → slice_get owners j ≡ Some (Some i) → IsSecond edges front a.output
      second_of i j owns lt is =
          let one = map_get owner additions j (Some i) is in
          let other = owner_some edges file one.0.output i one.2 in
          let here : slice_get front j ≡ Some one.0 = earlier_in front (a ∷ rest) j one.0 (sym (ap (λ (l : List Addition). slice_get l j) splits) ∙ one.1) (omega (arith, lt, place)) in
          let parts = split_of front j one.0 here in
          record { edge = i; makes = (owner_some edges file a.output i owns).1; front = parts.front; other = one.0; rest = parts.rest; splits = parts.splits; earlier = other.1 }

      by : (o : Option ℕ) → owner a ≡ o → IsUnfitting edges file front a.output
      by None owns = inl (λ of. none_some of.edge (sym owns ∙ owner_is edges file a.output of.edge once of.names of.makes))
      by (Some i) owns = elim (find_one owners b i) [
        | inl none ↦ absurd (unfit (i, record { at = owner_at b a at ∙ ap (λ (o : Option ℕ). Some o) owns; earlier = none }))
        | inr found ↦ inr (second_of i found.0 owns found.1 found.2)
      ]

  pub first_unfitting : (b : ℕ) (a : Addition) → slice_get additions b ≡ Some a → (FitsAt owners b → ⊥) → AllFitBelow owners b → IsFirstUnfitting edges file additions a.output
  first_unfitting b a at unfit all =
      let parts = split_of additions b a at in
      record {
        before = parts.front;
        addition = a;
        after = parts.rest;
        splits = parts.splits;
        is = refl;
        unfitting = unfits b parts.front a parts.rest parts.splits parts.place unfit;
        earlier = λ front x rest splits.
            let long : length parts.front ≡ length front + length (x ∷ rest) = ap length splits ∙ length-append front (x ∷ rest) in
            fits_no (length front) front x (rest ++ a ∷ parts.rest) (parts.splits ∙ (ap (λ (l : List Addition). l ++ a ∷ parts.rest) splits ∙ append_assoc front (x ∷ rest) (a ∷ parts.rest))) refl
            (all (length front) (omega (arith, long, parts.place)));
      }

-- ---- edges without statements

module _ (graph : Graph) (once : IsMadeOnce (declared_by graph).edges) (file : ℕ) (low : file < length graph.manifest.paths) (additions : List Addition) (choice : ℕ → Option ℕ)
    (choices : AreChoices (owners_of (declared_by graph).edges (text_at graph.manifest.paths file) additions) (length additions) choice) where
  abbrev edges : List Edge
  edges = (declared_by graph).edges

  abbrev name : List ℕ
  name = text_at graph.manifest.paths file

  choice_none : (e : ℕ) (o : Option ℕ) → IsChoice (owners_of edges name additions) (length additions) e o → NoneIsOf (owners_of edges name additions) (length additions) (suc e) → o ≡ None
  choice_none e None is none = refl
  choice_none e (Some k) is none = absurd (none k is.0 is.1.at)

  pub lacks_choice : (i : ℕ) → LacksStatement name additions (edge_at edges i) → (e : ℕ) × (suc e ≡ i) × LacksChoice graph file choice e
  lacks_choice zero lacks = absurd (none_some name lacks.names)
  lacks_choice (suc e) lacks =
      let within = named_within graph name e lacks.names in
      (e, refl, record { within = within; names = names_number graph e file low lacks.names; none = choice_none e (choice e) (choices e) (lacks_none edges once name additions (suc e) lacks) })

  pub lacks_statement : (e : ℕ) → LacksChoice graph file choice e → LacksStatement name additions (edge_at edges (suc e))
  lacks_statement e lacks = none_lacks edges once name additions (suc e) (names_text graph e file low lacks.names) (subst (IsChoice (owners_of edges name additions) (length additions) e) lacks.none (choices e))

  pub first_lacking : (e : ℕ) → IsLowestLacking graph file choice e → (output : List ℕ) → output ≡ first_output (edge_at edges (suc e)) → IsUnfit edges name additions output
  first_lacking e lowest output is = inl (
    suc e,
    record {
      lacks = lacks_statement e lowest.lacks;
      lowest = λ k lt lacks. let one = lacks_choice k lacks in lowest.lowest one.0 (omega (arith, lt, one.1)) one.2;
    },
    is,
  )

  pub first_bad : ((e : ℕ) → LacksChoice graph file choice e → ⊥) → (b : ℕ) (a : Addition) → slice_get additions b ≡ Some a → (FitsAt (owners_of edges name additions) b → ⊥) → AllFitBelow (owners_of edges name additions) b
      → (output : List ℕ) → output ≡ a.output → IsUnfit edges name additions output
  first_bad none b a at unfit all output is = inr (
    (λ i lacks. let one = lacks_choice i lacks in none one.0 one.2),
    subst (IsFirstUnfitting edges name additions) (sym is) (first_unfitting edges once name additions b a at unfit all),
  )
