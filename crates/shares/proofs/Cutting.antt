-- Cutting at the first place where a mark stands, and lines.
use Rattle.std.proofs.Common.{◌≡◌, ◌≢◌, ℕ, ◌+◌, ◌-◌, ◌<◌, Bool, true, false, List, [], ◌∷◌, ◌++◌, length, take, drop, refl, sym, ap, subst, ◌∙◌, Option, Some, None, inl, inr, arith, append_assoc, length-append}
use Rattle.std.proofs.lemmas.Bool.{eq-eqb}
use Rattle.std.proofs.lemmas.Bool.Decides.{eqb_tells}
use Rattle.std.proofs.Math.Seq.{take-append_seam}
use Rattle.std.proofs.lemmas.List.{take_all, length-drop}
use Rattle.text.specs.Marks.{Lacks}
use Rattle.std.specs.Prelude.{nat_eq, option_map}
use Rattle.std.specs.List.{starts_with}
use Rattle.shares.specs.Marks.{cut, in_front, skip_blanks}

pub nothing_in_front : (found : Option (List ℕ × List ℕ)) → option_map (in_front []) found ≡ found
nothing_in_front None = refl
nothing_in_front (Some parts) = refl

more_in_front : (b : ℕ) (front : List ℕ) (found : Option (List ℕ × List ℕ)) → option_map (in_front (b ∷ [])) (option_map (in_front front) found) ≡ option_map (in_front (b ∷ front)) found
more_in_front b front None = refl
more_in_front b front (Some parts) = refl

-- the mark stands here
pub cut_here : (mark text : List ℕ) → 0 < length text → starts_with nat_eq text mark ≡ true → cut mark text ≡ Some ([], drop (length mark) text)
cut_here mark [] some stands = absurd (omega arith)
cut_here mark (b ∷ text) some stands = rw stands refl

-- what stands before a mark in parts
all_in_front : (a b : List ℕ) (found : Option (List ℕ × List ℕ)) → option_map (in_front a) (option_map (in_front b) found) ≡ option_map (in_front (a ++ b)) found
all_in_front a b None = refl
all_in_front a b (Some parts) = ap (λ (front : List ℕ). Some (front, parts.1)) (sym (append_assoc a b parts.0))

-- it does not stand where another byte stands than its first one
passes : (m b : ℕ) (ms text : List ℕ) → b ≢ m → starts_with nat_eq (b ∷ text) (m ∷ ms) ≡ false
passes m b ms text other = elim (eqb_tells m b) [
  | inl same ↦ absurd (other (sym same.1))
  | inr differ ↦ rw differ.0 refl
]

-- its first byte stands here
first_stands : (m : ℕ) (ms text : List ℕ) → starts_with nat_eq (m ∷ text) (m ∷ ms) ≡ starts_with nat_eq text ms
first_stands m ms text = rw (eq-eqb m m refl) refl

-- it does not stand at the first place where its first byte does
pub passed : (m : ℕ) (ms front after : List ℕ) → Lacks m front → starts_with nat_eq after ms ≡ false
    → cut (m ∷ ms) (front ++ m ∷ after) ≡ option_map (in_front (front ++ m ∷ [])) (cut (m ∷ ms) after)
passed m ms [] after lacks none = rw (first_stands m ms after ∙ none) refl
passed m ms (b ∷ front) after lacks none =
    rw (passes m b ms (front ++ m ∷ after) lacks.0)
    (ap (option_map (in_front (b ∷ []))) (passed m ms front after lacks.1 none) ∙ more_in_front b (front ++ m ∷ []) (cut (m ∷ ms) after))

-- it stands there
pub stands : (m : ℕ) (ms front after : List ℕ) → Lacks m front → starts_with nat_eq after ms ≡ true
    → cut (m ∷ ms) (front ++ m ∷ after) ≡ Some (front, drop (length ms) after)
stands m ms [] after lacks is = rw (first_stands m ms after ∙ is) refl
stands m ms (b ∷ front) after lacks is =
    rw (passes m b ms (front ++ m ∷ after) lacks.0) (ap (option_map (in_front (b ∷ []))) (stands m ms front after lacks.1 is))

-- it stands nowhere where its first byte does not
pub nowhere : (m : ℕ) (ms text : List ℕ) → Lacks m text → cut (m ∷ ms) text ≡ None
nowhere m ms [] lacks = refl
nowhere m ms (b ∷ text) lacks = rw (passes m b ms text lacks.0) (ap (option_map (in_front (b ∷ []))) (nowhere m ms text lacks.1))

-- so many bytes of a text were passed, in which the mark does not begin; the rest is left
pub record IsPassed (m : ℕ) (ms text : List ℕ) (place : ℕ) (rest : List ℕ) : Type 0 where
  pub seen : List ℕ
  pub split : text ≡ seen ++ rest
  pub size : place ≡ length seen
  pub far : cut (m ∷ ms) text ≡ option_map (in_front seen) (cut (m ∷ ms) rest)

pub none_passed : (m : ℕ) (ms text : List ℕ) → IsPassed m ms text 0 text
none_passed m ms text = record { seen = []; split = refl; size = refl; far = sym (nothing_in_front (cut (m ∷ ms) text)) }

pub more_passed : (m : ℕ) (ms text : List ℕ) (place : ℕ) (rest front after : List ℕ) → IsPassed m ms text place rest → rest ≡ front ++ m ∷ after → Lacks m front
    → starts_with nat_eq after ms ≡ false → IsPassed m ms text (place + length front + 1) after
more_passed m ms text place rest front after is parts lacks none = record {
  seen = is.seen ++ (front ++ m ∷ []);
  split =
      is.split ∙ (ap (λ (l : List ℕ). is.seen ++ l) parts
      ∙ (ap (λ (l : List ℕ). is.seen ++ l) (sym (append_assoc front (m ∷ []) after)) ∙ sym (append_assoc is.seen (front ++ m ∷ []) after)));
  size = omega (arith, is.size, length-append is.seen (front ++ m ∷ []), length-append front (m ∷ []));
  far =
      is.far ∙ (ap (λ (l : List ℕ). option_map (in_front is.seen) (cut (m ∷ ms) l)) parts
      ∙ (ap (option_map (in_front is.seen)) (passed m ms front after lacks none) ∙ all_in_front is.seen (front ++ m ∷ []) (cut (m ∷ ms) after)));
}

pub passed_within : (m : ℕ) (ms text : List ℕ) (place : ℕ) (rest front after : List ℕ) → IsPassed m ms text place rest → rest ≡ front ++ m ∷ after → place + length front < length text
passed_within m ms text place rest front after is parts =
    omega (arith, is.size, ap length is.split, length-append is.seen rest, ap length parts, length-append front (m ∷ after))

-- all that stands from a place on
from_place : (text : List ℕ) (i : ℕ) → take (length text - i) (drop i text) ≡ drop i text
from_place text i = take_all (length text - i) (drop i text) (omega (arith, length-drop i text))

-- what stands before a place
before_place : (text front more : List ℕ) (place : ℕ) → text ≡ front ++ more → place ≡ length front → take place text ≡ front
before_place text front more place split size = rw (split, size) (take-append_seam front more)

-- the mark stands at this place, which parts the text
pub found_at : (m : ℕ) (ms text : List ℕ) (place : ℕ) (rest front after : List ℕ) → IsPassed m ms text place rest → rest ≡ front ++ m ∷ after → Lacks m front
    → starts_with nat_eq after ms ≡ true
    → Some (take (place + length front) text, take (length after - length ms) (drop (length ms) after)) ≡ cut (m ∷ ms) text
found_at m ms text place rest front after is parts lacks stand =
    let split : text ≡ (is.seen ++ front) ++ m ∷ after = is.split ∙ (ap (λ (l : List ℕ). is.seen ++ l) parts ∙ sym (append_assoc is.seen front (m ∷ after))) in
    let size : place + length front ≡ length (is.seen ++ front) = omega (arith, is.size, length-append is.seen front) in
    ap (λ (l : List ℕ). Some (l, take (length after - length ms) (drop (length ms) after))) (before_place text (is.seen ++ front) (m ∷ after) (place + length front) split size)
    ∙ (ap (λ (l : List ℕ). Some (is.seen ++ front, l)) (from_place after (length ms))
    ∙ sym (is.far ∙ (ap (λ (l : List ℕ). option_map (in_front is.seen) (cut (m ∷ ms) l)) parts ∙ ap (option_map (in_front is.seen)) (stands m ms front after lacks stand))))

-- it stands nowhere in the rest
pub found_nowhere : (m : ℕ) (ms text : List ℕ) (place : ℕ) (rest : List ℕ) → IsPassed m ms text place rest → Lacks m rest → None ≡ cut (m ∷ ms) text
found_nowhere m ms text place rest is lacks = sym (is.far ∙ ap (option_map (in_front is.seen)) (nowhere m ms rest lacks))

-- one blank more is passed
pub skip_one : (text : List ℕ) → skip_blanks (32 ∷ text) ≡ skip_blanks text
skip_one text = refl

-- what stands behind a mark is shorter
shorter_in : (b : ℕ) (found : Option (List ℕ × List ℕ)) (parts : List ℕ × List ℕ) (n : ℕ) → ((p : List ℕ × List ℕ) → found ≡ Some p → length p.1 < n) → option_map (in_front (b ∷ [])) found ≡ Some parts → length parts.1 < n
shorter_in b None parts n below is = absurd (cc)
shorter_in b (Some p) parts n below is =
    let same : p.1 ≡ parts.1 = cc in
    subst (λ (xs : List ℕ). length xs < n) same (below p refl)

pub behind_is_shorter : (mark text : List ℕ) → 0 < length mark → (parts : List ℕ × List ℕ) → cut mark text ≡ Some parts → length parts.1 < length text
behind_is_shorter mark [] some parts is = absurd (cc)
behind_is_shorter mark (b ∷ text) some parts is = by (starts_with nat_eq (b ∷ text) mark) refl (behind_is_shorter mark text some)
  where
    by : (stands : Bool) → starts_with nat_eq (b ∷ text) mark ≡ stands → ((p : List ℕ × List ℕ) → cut mark text ≡ Some p → length p.1 < length text) → length parts.1 < length (b ∷ text)
    by true stands more =
        let here = sym (cut_here mark (b ∷ text) (omega arith) stands) ∙ is in
        let same : drop (length mark) (b ∷ text) ≡ parts.1 = cc in
        subst (λ (xs : List ℕ). length xs < length (b ∷ text)) same (omega (arith, length-drop (length mark) (b ∷ text)))
    by false stands more =
        let later : option_map (in_front (b ∷ [])) (cut mark text) ≡ Some parts = rw stands at is in
        let below = shorter_in b (cut mark text) parts (length text) more later in
        omega (arith, below)
