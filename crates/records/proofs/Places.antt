-- The numbers of the records in force, path by path.
use Rattle.std.proofs.Common.{◌≡◌, inl, inr, ℕ, zero, suc, ◌+◌, ◌<◌, ◌≤◌, false, List, [], ◌∷◌, ◌++◌, Option, Some, None, take, length, map, get_or, slice_get, unwrap_or, subst, sym, ◌∙◌, ap, append_assoc, arith, refl}
use Rattle.std.specs.Option.{option_and_then}
use Rattle.std.proofs.Math.Seq.{get_or-append_seam}
use Rattle.std.proofs.lemmas.Option.{slice_get-get_or, slice_get_past, unwrap_or-slice_get}
use Rattle.std.proofs.lemmas.List.{append-nil, get_or_append_left, length-append, map-append, take_more}
use Rattle.std.proofs.lemmas.Bool.{cases_eq, cases_lt, false≢true}
use Rattle.model.specs.declared.graph.Edge.{Edge}
use Rattle.model.specs.Graph.{outputs}
use Rattle.paths.specs.declared.line.Line.{Line}
use Rattle.paths.specs.declared.manifest.Action.{Action}
use Rattle.paths.specs.declared.manifest.Action.TheVariants.{Alias, Command}
use Rattle.paths.specs.declared.manifest.Command.{Command as Commanded}
use Rattle.paths.specs.Lists.{line_outputs}
use Rattle.paths.specs.Told.{text_at, texts_at, edge_of}
use Rattle.log_text.specs.Kept.{joined}
use Rattle.records.specs.Held.{ArePlaces, AreMadeFrom, IsLonger}

joined_get : (places : List (Option ℕ)) (p : ℕ) → p < length places → joined (slice_get places p) ≡ get_or places p None
joined_get places p low = ap joined (slice_get-get_or places p None low)

-- the number that was got from a list which is this one, at a place which is this one
pub place_got : (list places : List (Option ℕ)) (i p n : ℕ) (found : Option ℕ) → list ≡ places → i ≡ p → i < length list → found ≡ get_or list i None → found ≡ Some n → joined (slice_get places p) ≡ Some n
place_got list places i p n found same_list same_place low got is =
    subst (λ (l : List (Option ℕ)). joined (slice_get l p) ≡ Some n) same_list
    (subst (λ (k : ℕ). joined (slice_get list k) ≡ Some n) same_place (joined_get list i low ∙ (sym got ∙ is)))

pub longer : (old new : List (Option ℕ)) (place : ℕ) (one : Option ℕ) → length old ≡ place → new ≡ old ++ one ∷ [] → length new ≡ place + 1
longer old new place one fits pushed = ap length pushed ∙ (length-append old (one ∷ []) ∙ ap (λ (n : ℕ). n + 1) fits)

pub placed : {R X : Type 0} (told : List R → List X) (in_force : List R → List ℕ → Option X) (rs : List R) (paths : List (List ℕ)) (old new : List (Option ℕ)) (start place : ℕ) (one : Option ℕ) → length old ≡ place → new ≡ old ++ one ∷ []
    → option_and_then (slice_get (told rs)) one ≡ in_force rs (text_at paths place) → AreMadeFrom told in_force start place rs paths old → AreMadeFrom told in_force start (place + 1) rs paths new
placed told in_force rs paths old new start place one fits pushed is all p from low = elim (cases_eq p place) [
  | inl here ↦ ap (option_and_then (slice_get (told rs))) (at_end p here) ∙ (is ∙ ap (λ (n : ℕ). in_force rs (text_at paths n)) (sym here))
  | inr other ↦
      let below : p < place = omega (arith, low, other) in
      ap (option_and_then (slice_get (told rs))) (before p below) ∙ all p from below
]
  where
    at_end : (p : ℕ) → p ≡ place → joined (slice_get new p) ≡ one
    at_end p here =
        joined_get new p (omega (arith, here, longer old new place one fits pushed))
        ∙ (ap (λ (l : List (Option ℕ)). get_or l p None) pushed
        ∙ (ap (λ (n : ℕ). get_or (old ++ one ∷ []) n None) (here ∙ sym fits) ∙ get_or-append_seam old one [] None))

    before : (p : ℕ) → p < place → joined (slice_get new p) ≡ joined (slice_get old p)
    before p below =
        joined_get new p (omega (arith, below, longer old new place one fits pushed))
        ∙ (ap (λ (l : List (Option ℕ)). get_or l p None) pushed
        ∙ (get_or_append_left old (one ∷ []) None p (omega (arith, below, fits)) ∙ sym (joined_get old p (omega (arith, below, fits)))))

-- ---- more numbers behind those that stood there

pub longer_none : (old : List (Option ℕ)) → IsLonger old old
longer_none old = record { more = []; grows = sym (append-nil old) }

pub longer_push : (first old new : List (Option ℕ)) (one : Option ℕ) → new ≡ old ++ one ∷ [] → IsLonger first old → IsLonger first new
longer_push first old new one pushed is = record {
  more = is.more ++ one ∷ [];
  grows = pushed ∙ (ap (λ (l : List (Option ℕ)). l ++ one ∷ []) is.grows ∙ append_assoc first is.more (one ∷ []));
}

longer_same : (old new : List (Option ℕ)) → IsLonger old new → (p : ℕ) → p < length old → joined (slice_get new p) ≡ joined (slice_get old p)
longer_same old new is p low =
    joined_get new p (let long = ap length is.grows in let sum = length-append old is.more in omega (arith, low, long, sum))
    ∙ (ap (λ (l : List (Option ℕ)). get_or l p None) is.grows ∙ (get_or_append_left old is.more None p low ∙ sym (joined_get old p low)))

module _ {R X : Type 0} (told : List R → List X) (in_force : List R → List ℕ → Option X) (rs : List R) (paths more grown : List (List ℕ)) (grows : grown ≡ paths ++ more) (old : List (Option ℕ)) (fits : length old ≤ length paths)
    (are : ArePlaces told in_force rs paths old) where
  -- what stood there is of the same paths
  was : (p : ℕ) → p < length paths → option_and_then (slice_get (told rs)) (joined (slice_get old p)) ≡ in_force rs (text_at grown p)
  was p low = are p low ∙ ap (in_force rs) (sym (ap (λ (l : List (List ℕ)). text_at l p) grows ∙ get_or_append_left paths more [] p low))

  -- with the numbers of the other paths these are all
  pub all_placed : (new : List (Option ℕ)) → IsLonger old new → AreMadeFrom told in_force (length old) (length grown) rs grown new → ArePlaces told in_force rs grown new
  all_placed new longer made p low = elim (cases_lt p (length old)) [
    | inl there ↦ ap (option_and_then (slice_get (told rs))) (longer_same old new longer p there) ∙ was p (omega (arith, there, fits))
    | inr past ↦ made p past low
  ]

  -- a log without records has none in force
  pub none_placed : ((o : List ℕ) → in_force [] o ≡ None) → length rs ≡ 0 → ArePlaces told in_force rs grown old
  none_placed nothing none p low = elim (cases_lt p (length paths)) [
    | inl there ↦ was p there
    | inr past ↦ ap (λ (o : Option (Option ℕ)). option_and_then (slice_get (told rs)) (joined o)) (slice_get_past old p (omega (arith, past, fits))) ∙ sym (empty rs none (text_at grown p))
  ]
    where
      empty : (rs : List R) → length rs ≡ 0 → (o : List ℕ) → in_force rs o ≡ None
      empty [] none o = nothing o
      empty (r ∷ rs) none o = absurd (omega (arith, none))

-- ---- fewer numbers

pub fewer_fit : (n : ℕ) (places : List (Option ℕ)) → length (take n places) ≤ n
fewer_fit zero places = omega arith
fewer_fit (suc n) [] = omega arith
fewer_fit (suc n) (place ∷ places) = let more = fewer_fit n places in omega (arith, more)

slice_front : (n p : ℕ) (places : List (Option ℕ)) → p < n → slice_get (take n places) p ≡ slice_get places p
slice_front zero p places low = absurd (omega (arith, low))
slice_front (suc n) p [] low = refl
slice_front (suc n) zero (place ∷ places) low = refl
slice_front (suc n) (suc p) (place ∷ places) low = slice_front n p places (omega (arith, low))

-- those of the first paths alone
pub fewer_placed : {R X : Type 0} (told : List R → List X) (in_force : List R → List ℕ → Option X) (rs : List R) (paths more : List (List ℕ)) (places : List (Option ℕ)) → ArePlaces told in_force rs (paths ++ more) places
    → ArePlaces told in_force rs paths (take (length paths) places)
fewer_placed told in_force rs paths more places are p low =
    let sum = length-append paths more in
    ap (λ (o : Option (Option ℕ)). option_and_then (slice_get (told rs)) (joined o)) (slice_front (length paths) p places low)
    ∙ (are p (omega (arith, low, sum)) ∙ ap (in_force rs) (get_or_append_left paths more [] p low))

-- of no paths all have their numbers
pub placed_none : {R X : Type 0} (told : List R → List X) (in_force : List R → List ℕ → Option X) (rs : List R) (places : List (Option ℕ)) → ArePlaces told in_force rs [] places
placed_none told in_force rs places p low = absurd (omega (arith, low))

-- ---- texts of numbers

-- one more of what numbers stand for
pub map_next : {B : Type 0} (f : ℕ → B) (numbers : List ℕ) (i number : ℕ) (before after : List B) (one : B) → i < length numbers → number ≡ get_or numbers i number
    → before ≡ map f (take i numbers) → after ≡ before ++ one ∷ [] → one ≡ f number → after ≡ map f (take (i + 1) numbers)
map_next f numbers i number before after one low is was pushed same =
    pushed ∙ (ap (λ (l : List _). l ++ one ∷ []) was ∙ (ap (λ t. map f (take i numbers) ++ t ∷ []) same
    ∙ (sym (map-append f (take i numbers) (number ∷ [])) ∙ ap (map f) (sym (take_more numbers i number low ∙ ap (λ (n : ℕ). take i numbers ++ n ∷ []) (sym is))))))

pub no_text : (paths : List (List ℕ)) (p : ℕ) → slice_get paths p ≡ None → [] ≡ text_at paths p
no_text paths p none = ap (λ (o : Option (List ℕ)). unwrap_or o []) (sym none) ∙ unwrap_or-slice_get paths p []

-- ---- the edge of a line

outputs_are : (paths : List (List ℕ)) (line : Line) (action : Action) → outputs (edge_of paths line action) ≡ texts_at paths (line_outputs line)
outputs_are paths line Alias = sym (map-append (text_at paths) line.explicit_outputs line.implicit_outputs)
outputs_are paths line (Command command) = sym (map-append (text_at paths) line.explicit_outputs line.implicit_outputs)

pub edge_outputs : (paths : List (List ℕ)) (line : Line) (action : Action) (edge : Edge) → edge ≡ edge_of paths line action → texts_at paths (line_outputs line) ≡ outputs edge
edge_outputs paths line action edge is = sym (ap outputs is ∙ outputs_are paths line action)

pub no_alias : (paths : List (List ℕ)) (line : Line) (action : Action) (edge : Edge) → edge ≡ edge_of paths line action → action ≡ Alias → edge.phony ≡ false → ⊥
no_alias paths line action edge is alias command = false≢true (sym command ∙ (ap (λ (e : Edge). e.phony) is ∙ ap (λ (a : Action). (edge_of paths line a).phony) alias))

pub act_is : (paths : List (List ℕ)) (line : Line) (action : Action) (edge : Edge) (command : Commanded) → edge ≡ edge_of paths line action → action ≡ Command command → command.act ≡ edge.act
act_is paths line action edge command is same = sym (ap (λ (e : Edge). e.act) is ∙ ap (λ (a : Action). (edge_of paths line a).act) same)
