-- Numbers that are none of these.
use Rattle.std.proofs.Common.{◌≡◌, ℕ, Bool, true, false, List, [], ◌∷◌, ◌++◌, ◌||◌, ◌==◌, not, if◌then◌else◌, refl, sym, ◌∙◌, ap, subst, append_assoc}
use Rattle.std.specs.List.{list_any}
use Rattle.std.proofs.lemmas.Bool.{eqb-true, eq-eqb}
use Rattle.std.proofs.lemmas.List.Elements.{filter-append}
use Rattle.model.specs.Graph.{has_number}
use Rattle.manifest.specs.InNumbers.{HasNumbers, numbers_without}

same_answer : (a b : Bool) → (a ≡ true → b ≡ true) → (b ≡ true → a ≡ true) → a ≡ b
same_answer true b there back = sym (there refl)
same_answer false true there back = back refl
same_answer false false there back = refl

turned : (a b : ℕ) → (a == b) ≡ (b == a)
turned a b = same_answer (a == b) (b == a) (λ h. eq-eqb b a (sym (eqb-true a b h))) (λ h. eq-eqb a b (sym (eqb-true b a h)))

-- the set's tests are those of the numbers
pub listed : (n : ℕ) (keys : List ℕ) → list_any (λ (key : ℕ). n == key) keys ≡ has_number keys n
listed n [] = refl
listed n (key ∷ keys) = ap (λ (b : Bool). (n == key) || b) (listed n keys) ∙ ap (λ (b : Bool). b || has_number keys n) (turned n key)

or_nothing : (a : Bool) → (a || false) ≡ a
or_nothing true = refl
or_nothing false = refl

or_more : (a b c : Bool) → (a || (b || c)) ≡ ((a || b) || c)
or_more true b c = refl
or_more false b c = refl

has_append : (xs ys : List ℕ) (n : ℕ) → has_number (xs ++ ys) n ≡ (has_number xs n || has_number ys n)
has_append [] ys n = refl
has_append (x ∷ xs) ys n = ap (λ (b : Bool). (x == n) || b) (has_append xs ys n) ∙ or_more (x == n) (has_number xs n) (has_number ys n)

known_more : (keys : List ℕ) (key n : ℕ) → has_number keys key ≡ true → has_number keys n ≡ (has_number keys n || (key == n))
known_more keys key n known = by (key == n) refl
  where
    by : (b : Bool) → (key == n) ≡ b → has_number keys n ≡ (has_number keys n || b)
    by true same = let e : key ≡ n = eqb-true key n same in let here : has_number keys n ≡ true = subst (λ (m : ℕ). has_number keys m ≡ true) e known in rw here refl
    by false other = sym (or_nothing (has_number keys n))

has_inserted : (keys new : List ℕ) (key n : ℕ) → new ≡ (if list_any (λ (other : ℕ). key == other) keys then keys else keys ++ key ∷ [])
    → has_number new n ≡ (has_number keys n || (key == n))
has_inserted keys new key n inserted = by (list_any (λ (other : ℕ). key == other) keys) refl
  where
    by : (b : Bool) → list_any (λ (other : ℕ). key == other) keys ≡ b → has_number new n ≡ (has_number keys n || (key == n))
    by true found =
        ap (λ (l : List ℕ). has_number l n) (inserted ∙ ap (λ (b : Bool). if b then keys else keys ++ key ∷ []) found)
        ∙ known_more keys key n (sym (listed key keys) ∙ found)
    by false missing =
        ap (λ (l : List ℕ). has_number l n) (inserted ∙ ap (λ (b : Bool). if b then keys else keys ++ key ∷ []) missing)
        ∙ (has_append keys (key ∷ []) n ∙ ap (λ (b : Bool). has_number keys n || b) (or_nothing (key == n)))

-- one more number is put in
pub keys_push : (keys new numbers : List ℕ) (key number : ℕ) → new ≡ (if list_any (λ (other : ℕ). key == other) keys then keys else keys ++ key ∷ []) → key ≡ number
    → HasNumbers keys numbers → HasNumbers new (numbers ++ number ∷ [])
keys_push keys new numbers key number inserted is have n =
    has_inserted keys new key n inserted
    ∙ (ap (λ (b : Bool). b || (key == n)) (have n)
    ∙ (ap (λ (k : ℕ). has_number numbers n || (k == n)) is
    ∙ (ap (λ (b : Bool). has_number numbers n || b) (sym (or_nothing (number == n))) ∙ sym (has_append numbers (number ∷ []) n))))

pub keys_push_behind : (keys new front taken : List ℕ) (key number : ℕ) → new ≡ (if list_any (λ (other : ℕ). key == other) keys then keys else keys ++ key ∷ []) → key ≡ number
    → HasNumbers keys (front ++ taken) → HasNumbers new (front ++ (taken ++ number ∷ []))
keys_push_behind keys new front taken key number inserted is have =
    subst (HasNumbers new) (append_assoc front taken (number ∷ [])) (keys_push keys new (front ++ taken) key number inserted is have)

-- whether a number of a set is found
pub found : (keys numbers : List ℕ) (key number : ℕ) (b : Bool) → b ≡ list_any (λ (other : ℕ). key == other) keys → key ≡ number → HasNumbers keys numbers → has_number numbers number ≡ b
found keys numbers key number b is same have =
    sym (have number) ∙ (sym (listed number keys) ∙ (ap (λ (k : ℕ). list_any (λ (other : ℕ). k == other) keys) (sym same) ∙ sym is))

-- ---- the numbers that are none of these

module _ (numbers taken : List ℕ) (number : ℕ) where
  one_more : numbers_without numbers (taken ++ number ∷ []) ≡ numbers_without numbers taken ++ numbers_without numbers (number ∷ [])
  one_more = filter-append (λ (other : ℕ). not (has_number numbers other)) taken (number ∷ [])

  last_of : (b : Bool) → has_number numbers number ≡ b → numbers_without numbers (number ∷ []) ≡ (if b then [] else number ∷ [])
  last_of true is = rw is refl
  last_of false is = rw is refl

  pub keeps_number : has_number numbers number ≡ false → numbers_without numbers (taken ++ number ∷ []) ≡ numbers_without numbers taken ++ number ∷ []
  keeps_number is = one_more ∙ ap (λ (l : List ℕ). numbers_without numbers taken ++ l) (last_of false is)

  pub drops_number : has_number numbers number ≡ true → numbers_without numbers (taken ++ number ∷ []) ≡ numbers_without numbers taken
  drops_number is = one_more ∙ (ap (λ (l : List ℕ). numbers_without numbers taken ++ l) (last_of true is) ∙ nothing (numbers_without numbers taken))
    where
      nothing : (l : List ℕ) → l ++ [] ≡ l
      nothing [] = refl
      nothing (x ∷ xs) = ap (λ (m : List ℕ). x ∷ m) (nothing xs)

  pub keeps_next : (kept new : List ℕ) (copy : ℕ) → kept ≡ numbers_without numbers taken → new ≡ kept ++ copy ∷ [] → copy ≡ number
      → has_number numbers number ≡ false → new ≡ numbers_without numbers (taken ++ number ∷ [])
  keeps_next kept new copy before pushed same is =
      pushed ∙ (ap (λ (l : List ℕ). l ++ copy ∷ []) before ∙ (ap (λ (n : ℕ). numbers_without numbers taken ++ n ∷ []) same ∙ sym (keeps_number is)))
