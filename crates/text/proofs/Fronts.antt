-- A loop that reads items from the front of a text, each of which has one spelling there.
use Rattle.std.proofs.Common.{◌≡◌, ◌≢◌, ℕ, List, [], ◌∷◌, ◌++◌, refl, sym, ap, ◌∙◌, append_assoc, append-nil}
use Rattle.std.specs.List.{flat_map, AllByRecursion}
use Rattle.std.proofs.lemmas.List.Concat.{flat_map-append}
use Rattle.text.specs.Fronts.{IsFront, IsNext, HasNoNext}

module _ {X : Type 0} (spell : X → List ℕ) (Fits : X → Type 0) where
  -- before the first item all is left
  pub front_none : (whole : List ℕ) → IsFront spell Fits whole [] whole
  front_none whole = record { spelled = refl; fit = tt; only = λ all fit e. (all, refl, e, fit) }

  push_fit : (items : List X) (item : X) → AllByRecursion Fits items → Fits item → AllByRecursion Fits (items ++ item ∷ [])
  push_fit [] item fit fits = (fits, tt)
  push_fit (first ∷ items) item fit fits = (fit.0, push_fit items item fit.1 fits)

  -- one item more
  pub front_more : (whole : List ℕ) (items : List X) (rest : List ℕ) (item : X) (after : List ℕ) → IsFront spell Fits whole items rest → rest ≢ [] → IsNext spell Fits rest item after → IsFront spell Fits whole (items ++ item ∷ []) after
  front_more whole items rest item after front some next = record {
    spelled = front.spelled ∙ rw next.spelled (simp (flat_map-append, append_assoc, append-nil));
    fit = push_fit items item front.fit next.fits;
    only = λ all fit e. go all (front.only all fit e).0 (front.only all fit e).1 (front.only all fit e).2 (front.only all fit e).3;
  }
    where
      go : (all more : List X) → all ≡ items ++ more → rest ≡ flat_map spell more → AllByRecursion Fits more → (others : List X) × (all ≡ (items ++ item ∷ []) ++ others) × (after ≡ flat_map spell others) × AllByRecursion Fits others
      go all [] split left fit = absurd (some left)
      go all (other ∷ others) split left fit =
          let same = next.only other (flat_map spell others) fit.0 left in
          (others, split ∙ (ap (λ (x : X). items ++ x ∷ others) (sym same.0) ∙ sym (append_assoc items (item ∷ []) others)), same.1, fit.1)

  -- where no item stands in front of what is left, no items spell the whole
  pub front_stops : (whole : List ℕ) (items : List X) (rest : List ℕ) → IsFront spell Fits whole items rest → rest ≢ [] → HasNoNext spell Fits rest → (all : List X) → AllByRecursion Fits all → whole ≡ flat_map spell all → ⊥
  front_stops whole items rest front some none all fit e = go (front.only all fit e).0 (front.only all fit e).2 (front.only all fit e).3
    where
      go : (more : List X) → rest ≡ flat_map spell more → AllByRecursion Fits more → ⊥
      go [] left fit = some left
      go (item ∷ items) left fit = none item (flat_map spell items) fit.0 left

  -- where nothing is left, the items spell the whole
  pub front_all : (whole : List ℕ) (items : List X) (rest : List ℕ) → IsFront spell Fits whole items rest → rest ≡ [] → whole ≡ flat_map spell items
  front_all whole items rest front e = front.spelled ∙ (ap (λ (bytes : List ℕ). flat_map spell items ++ bytes) e ∙ append-nil (flat_map spell items))
