-- What is kept of records, one record after another.
use Rattle.std.proofs.Common.{◌≡◌, ◌+◌, ℕ, zero, suc, Bool, true, false, cond, ◌||◌, ◌⊎◌, eqb, List, [], ◌∷◌, ◌++◌, length, Option, Some, None, slice_get, refl, sym, ap, ◌∙◌, subst, inl, inr, arith, String, string_bytes}
use Rattle.std.specs.List.{AllByRecursion, list_any, find}
use Rattle.std.specs.Str.{bytes_eq}
use Rattle.std.proofs.lemmas.List.{length-append, map-append, append_assoc}
use Rattle.std.proofs.lemmas.Option.{slice_get_within, slice_get_past}
use Rattle.std.proofs.lemmas.Bool.{false≢true, cases_Bool, or_cases, or_parts, false_from_ne_true, eqb-true, eq-eqb}
use Rattle.model.specs.Graph.{has, has_number}
use Rattle.log_text.specs.Kept.{Saying, Telling, AreDistinct, tellings, place_from, place_of, Table, joined, AreNumbersOf, AreTold, IsTableOf, texts_of}
use Rattle.log_text.specs.Steps.{IsSaid, IsGrown, next_place, told_also}
use Rattle.log_text.proofs.Distinct.{same_bytes, bytes_same, bytes_differ, distinct_push, has-push, has_at, one_place}

-- ---- numbers of outputs

pub get_grown : (xs ys : List (List ℕ)) (n : ℕ) (t : List ℕ) → slice_get xs n ≡ Some t → slice_get (xs ++ ys) n ≡ Some t
get_grown [] ys n t is = cc
get_grown (x ∷ xs) ys zero t is = is
get_grown (x ∷ xs) ys (suc n) t is = get_grown xs ys n t is

pub numbers_grown : (xs ys : List (List ℕ)) (ns : List ℕ) (ts : List (List ℕ)) → AreNumbersOf xs ns ts → AreNumbersOf (xs ++ ys) ns ts
numbers_grown xs ys [] [] are = tt
numbers_grown xs ys [] (t ∷ ts) are = are
numbers_grown xs ys (n ∷ ns) [] are = are
numbers_grown xs ys (n ∷ ns) (t ∷ ts) are = (get_grown xs ys n t are.0, numbers_grown xs ys ns ts are.1)

pub numbers_push : (xs : List (List ℕ)) (ns : List ℕ) (ts : List (List ℕ)) (n : ℕ) (t : List ℕ) → AreNumbersOf xs ns ts → slice_get xs n ≡ Some t → AreNumbersOf xs (ns ++ n ∷ []) (ts ++ t ∷ [])
numbers_push xs [] [] n t are is = (is, tt)
numbers_push xs [] (u ∷ ts) n t are is = absurd are
numbers_push xs (m ∷ ns) [] n t are is = absurd are
numbers_push xs (m ∷ ns) (u ∷ ts) n t are is = (are.0, numbers_push xs ns ts n t are.1 is)

pub grown_more : {T : Type 0} {old mid new : Table T} → IsGrown old mid → IsGrown mid new → IsGrown old new
grown_more {old = old} first then = record {
  more = first.more ++ then.more;
  outputs = then.outputs ∙ (ap (λ (xs : List (List ℕ)). xs ++ then.more) first.outputs ∙ append_assoc old.outputs first.more then.more);
}

-- an output that has a number stands among the texts
numbers_have : (xs : List (List ℕ)) (ns : List ℕ) (ts : List (List ℕ)) (o : List ℕ) → AreNumbersOf xs ns ts → has ts o ≡ true → has xs o ≡ true
numbers_have xs [] [] o are h = absurd (false≢true h)
numbers_have xs [] (t ∷ ts) o are h = absurd are
numbers_have xs (n ∷ ns) [] o are h = absurd are
numbers_have xs (n ∷ ns) (t ∷ ts) o are h = elim (or_cases (bytes_eq t o) (has ts o) h) [
  | inl here ↦ ap (has xs) (sym (same_bytes t o here)) ∙ has_at xs n t are.0
  | inr there ↦ numbers_have xs ns ts o are.1 there
]

-- a number is among those of some outputs where its own is among them
named : (xs : List (List ℕ)) (ns : List ℕ) (ts : List (List ℕ)) (n : ℕ) (o : List ℕ) → AreDistinct xs → AreNumbersOf xs ns ts → slice_get xs n ≡ Some o → has_number ns n ≡ has ts o
named xs [] [] n o distinct are is = refl
named xs [] (t ∷ ts) n o distinct are is = absurd are
named xs (m ∷ ns) [] n o distinct are is = absurd are
named xs (m ∷ ns) (t ∷ ts) n o distinct are is = go (cases_Bool (eqb m n)) ∙ ap (λ (b : Bool). bytes_eq t o || b) (named xs ns ts n o distinct are.1 is)
  where
    go : (eqb m n ≡ true) ⊎ (eqb m n ≡ false) → (eqb m n || has_number ns n) ≡ (bytes_eq t o || has_number ns n)
    go (inl e) =
        let there : Some t ≡ Some o = sym are.0 ∙ (ap (slice_get xs) (eqb-true m n e) ∙ is) in
        let same : t ≡ o = cc in
        ap (λ (b : Bool). b || has_number ns n) (e ∙ sym (ap (λ (x : List ℕ). bytes_eq x o) same ∙ bytes_same o))
    go (inr e) =
        let other : bytes_eq t o ≡ false = bytes_differ t o (λ (f : t ≡ o). let same = one_place xs m n o distinct (are.0 ∙ ap (λ (x : List ℕ). Some x) f) is in false≢true (sym e ∙ eq-eqb m n same)) in
        ap (λ (b : Bool). b || has_number ns n) (e ∙ sym other)

-- ---- the texts of the table

pub flip : (a b : List ℕ) → bytes_eq a b ≡ bytes_eq b a
flip a b = go (cases_Bool (bytes_eq a b))
  where
    go : (bytes_eq a b ≡ true) ⊎ (bytes_eq a b ≡ false) → bytes_eq a b ≡ bytes_eq b a
    go (inl e) = e ∙ sym (ap (bytes_eq b) (same_bytes a b e) ∙ bytes_same b)
    go (inr e) = e ∙ sym (bytes_differ b a (λ (f : b ≡ a). false≢true (sym e ∙ (ap (bytes_eq a) f ∙ bytes_same a))))

module _ {Z : Type 0} where
  pub texts_have : (keys : List (String Z)) (q : List ℕ) → has (texts_of keys) q ≡ list_any (λ k. bytes_eq q (string_bytes k)) keys
  texts_have [] q = refl
  texts_have (k ∷ keys) q = ap (λ (b : Bool). b || has (texts_of keys) q) (flip (string_bytes k) q) ∙ ap (λ (b : Bool). bytes_eq q (string_bytes k) || b) (texts_have keys q)

  found : (keys : List (String Z)) (q : List ℕ) (k : String Z) → Some k ≡ find (λ x. bytes_eq q (string_bytes x)) keys → q ≡ string_bytes k
  found [] q k e = cc
  found (x ∷ keys) q k e = go (cases_Bool (bytes_eq q (string_bytes x))) (found keys q k)
    where
      go : (bytes_eq q (string_bytes x) ≡ true) ⊎ (bytes_eq q (string_bytes x) ≡ false) → (Some k ≡ find (λ x. bytes_eq q (string_bytes x)) keys → q ≡ string_bytes k) → q ≡ string_bytes k
      go (inl h) ih =
          let here : Some k ≡ Some x = e ∙ ap (λ (b : Bool). cond b (Some x) (find (λ x. bytes_eq q (string_bytes x)) keys)) h in
          let same : k ≡ x = cc in
          same_bytes q (string_bytes x) h ∙ ap string_bytes (sym same)
      go (inr h) ih = ih (e ∙ ap (λ (b : Bool). cond b (Some x) (find (λ x. bytes_eq q (string_bytes x)) keys)) h)

  text_at : (keys : List (String Z)) (n : ℕ) (k : String Z) → slice_get keys n ≡ Some k → slice_get (texts_of keys) n ≡ Some (string_bytes k)
  text_at [] n k e = cc
  text_at (x ∷ keys) zero k e = let same : x ≡ k = cc in ap (λ (y : String Z). Some (string_bytes y)) same
  text_at (x ∷ keys) (suc n) k e = text_at keys n k e

  -- where a key is found, it stands at its number
  pub known : (keys : List (String Z)) (n : ℕ) (k : String Z) (q : List ℕ) → Some k ≡ find (λ x. bytes_eq q (string_bytes x)) keys → slice_get keys n ≡ Some k → slice_get (texts_of keys) n ≡ Some q
  known keys n k q e at = text_at keys n k at ∙ ap (λ (x : List ℕ). Some x) (sym (found keys q k e))

  -- a key that was put in stands at its number
  pub stored : (keys : List (String Z)) (n : ℕ) (k : String Z) (q : List ℕ) → slice_get keys n ≡ Some k → bytes_eq q (string_bytes k) ≡ true → slice_get (texts_of keys) n ≡ Some q
  stored keys n k q at e = text_at keys n k at ∙ ap (λ (x : List ℕ). Some x) (sym (same_bytes q (string_bytes k) e))

  -- a key that no key is equal to is put in at the end
  pub put_in : (keys new : List (String Z)) (own : String Z) (q : List ℕ) → false ≡ list_any (λ k. bytes_eq q (string_bytes k)) keys → string_bytes own ≡ q → new ≡ cond (list_any (λ k. bytes_eq (string_bytes own) (string_bytes k)) keys) keys (keys ++ own ∷ []) → texts_of new ≡ texts_of keys ++ q ∷ []
  put_in keys new own q none is e =
      ap texts_of (e ∙ (ap (λ (x : List ℕ). cond (list_any (λ k. bytes_eq x (string_bytes k)) keys) keys (keys ++ own ∷ [])) is ∙ ap (λ (b : Bool). cond b keys (keys ++ own ∷ [])) (sym none)))
      ∙ (map-append string_bytes keys (own ∷ []) ∙ ap (λ (x : List ℕ). texts_of keys ++ x ∷ []) is)

pub get_push : {A : Type 0} (xs : List A) (q : A) (n : ℕ) (o : A) → slice_get (xs ++ q ∷ []) n ≡ Some o → (slice_get xs n ≡ Some o) ⊎ ((n ≡ length xs) × (q ≡ o))
get_push [] q zero o e = let same : q ≡ o = cc in inr (refl, same)
get_push [] q (suc n) o e = absurd (let clash : None ≡ Some o = e in cc)
get_push (x ∷ xs) q zero o e = inl e
get_push (x ∷ xs) q (suc n) o e = elim (get_push xs q n o e) [
  | inl there ↦ inl there
  | inr end ↦ inr (ap suc end.0, end.1)
]

joined_push : (slots : List (Option ℕ)) (n : ℕ) → joined (slice_get (slots ++ None ∷ []) n) ≡ joined (slice_get slots n)
joined_push [] zero = refl
joined_push [] (suc n) = refl
joined_push (s ∷ slots) zero = refl
joined_push (s ∷ slots) (suc n) = joined_push slots n

-- ---- records told

module _ {T : Type 0} where
  told_grown : (xs ys : List (List ℕ)) (ks : List (List ℕ × T)) (ts : List (Telling T)) → AreTold xs ks ts → AreTold (xs ++ ys) ks ts
  told_grown xs ys [] [] are = tt
  told_grown xs ys [] (t ∷ ts) are = are
  told_grown xs ys (k ∷ ks) [] are = are
  told_grown xs ys (k ∷ ks) (t ∷ ts) are = (numbers_grown xs ys k.0 t.0 are.0, are.1, told_grown xs ys ks ts are.2)

  told_push : (xs : List (List ℕ)) (ks : List (List ℕ × T)) (ts : List (Telling T)) (ns : List ℕ) (os : List (List ℕ)) (x : T) → AreTold xs ks ts → AreNumbersOf xs ns os → AreTold xs (ks ++ (ns, x) ∷ []) (ts ++ (os, x) ∷ [])
  told_push xs [] [] ns os x are nums = (nums, refl, tt)
  told_push xs [] (t ∷ ts) ns os x are nums = absurd are
  told_push xs (k ∷ ks) [] ns os x are nums = absurd are
  told_push xs (k ∷ ks) (t ∷ ts) ns os x are nums = (are.0, are.1, told_push xs ks ts ns os x are.2 nums)

  pub told_length : (xs : List (List ℕ)) (ks : List (List ℕ × T)) (ts : List (Telling T)) → AreTold xs ks ts → length ks ≡ length ts
  told_length xs [] [] are = refl
  told_length xs [] (t ∷ ts) are = absurd are
  told_length xs (k ∷ ks) [] are = absurd are
  told_length xs (k ∷ ks) (t ∷ ts) are = let rest = told_length xs ks ts are.2 in omega arith

  tellings-none : (all : List (Saying T)) (os : List (List ℕ)) → tellings (all ++ (os, None) ∷ []) ≡ tellings all
  tellings-none [] os = refl
  tellings-none ((ps, None) ∷ all) os = tellings-none all os
  tellings-none ((ps, Some x) ∷ all) os = ap (λ (ts : List (Telling T)). (ps, x) ∷ ts) (tellings-none all os)

  tellings-some : (all : List (Saying T)) (os : List (List ℕ)) (y : T) → tellings (all ++ (os, Some y) ∷ []) ≡ tellings all ++ (os, y) ∷ []
  tellings-some [] os y = refl
  tellings-some ((ps, None) ∷ all) os y = tellings-some all os y
  tellings-some ((ps, Some x) ∷ all) os y = ap (λ (ts : List (Telling T)). (ps, x) ∷ ts) (tellings-some all os y)

  place_from-none : (all : List (Saying T)) (os : List (List ℕ)) (o : List ℕ) (held : Option ℕ) (n : ℕ) → place_from o held n (all ++ (os, None) ∷ []) ≡ cond (has os o) None (place_from o held n all)
  place_from-none [] os o held n = refl
  place_from-none ((ps, None) ∷ all) os o held n = place_from-none all os o (cond (has ps o) None held) n
  place_from-none ((ps, Some x) ∷ all) os o held n = place_from-none all os o (cond (has ps o) (Some n) held) (n + 1)

  place_from-some : (all : List (Saying T)) (os : List (List ℕ)) (y : T) (o : List ℕ) (held : Option ℕ) (n : ℕ) → place_from o held n (all ++ (os, Some y) ∷ []) ≡ cond (has os o) (Some (n + length (tellings all))) (place_from o held n all)
  place_from-some [] os y o held n = let same : n ≡ n + 0 = omega arith in ap (λ (m : ℕ). cond (has os o) (Some m) held) same
  place_from-some ((ps, None) ∷ all) os y o held n = place_from-some all os y o (cond (has ps o) None held) n
  place_from-some ((ps, Some x) ∷ all) os y o held n =
      let same : (n + 1) + length (tellings all) ≡ n + length ((ps, x) ∷ tellings all) = omega arith in
      place_from-some all os y o (cond (has ps o) (Some n) held) (n + 1)
      ∙ ap (λ (m : ℕ). cond (has os o) (Some m) (place_from o (cond (has ps o) (Some n) held) (n + 1) all)) same

  once_push : (all : List (Saying T)) (s : Saying T) → AllByRecursion (λ (s : Saying T). AreDistinct s.0) all → AreDistinct s.0 → AllByRecursion (λ (s : Saying T). AreDistinct s.0) (all ++ s ∷ [])
  once_push [] s once here = (here, tt)
  once_push (t ∷ all) s once here = (once.0, once_push all s once.1 here)

  -- ---- one output more

  pub grown_same : (all : List (Saying T)) (table : Table T) (q : List ℕ) → IsTableOf all table → has table.outputs q ≡ false
      → IsTableOf all (record { outputs = table.outputs ++ q ∷ []; in_force = table.in_force ++ None ∷ []; told = table.told; records = table.records })
  grown_same all table q is none = record {
    once = is.once;
    distinct = distinct_push table.outputs q is.distinct none;
    fits = length-append table.in_force (None ∷ []) ∙ (ap (λ (n : ℕ). n + 1) is.fits ∙ sym (length-append table.outputs (q ∷ [])));
    place = λ n o e.
        joined_push table.in_force n
        ∙ elim (get_push table.outputs q n o e) [
          | inl there ↦ is.place n o there
          | inr end ↦ ap joined (slice_get_past table.in_force n (let len = is.fits in let at = end.0 in omega arith)) ∙ sym (ap (place_of all) (sym end.1) ∙ is.absent q none)
        ];
    absent = λ o h. is.absent o (or_parts (has table.outputs o) (bytes_eq q o) (sym (has-push table.outputs q o) ∙ h)).0;
    told = told_grown table.outputs (q ∷ []) table.told (tellings all) is.told;
    count = is.count;
  }

  -- ---- one record more

  pub said_more : (all : List (Saying T)) (mid after : Table T) (outputs : List (List ℕ)) (numbers : List ℕ) (said : Option T) (count : ℕ) → IsTableOf all mid → AreDistinct outputs → AreNumbersOf mid.outputs numbers outputs → IsSaid mid numbers said after → count ≡ mid.records + 1
      → IsTableOf (all ++ (outputs, said) ∷ []) (record { outputs = after.outputs; in_force = after.in_force; told = after.told; records = count })
  said_more all mid after outputs numbers said count is once nums step counted = record {
    once = once_push all (outputs, said) is.once once;
    distinct = subst AreDistinct (sym step.outputs) is.distinct;
    fits = step.in_force.len ∙ (is.fits ∙ ap length (sym step.outputs));
    place = λ n o e.
        let there : slice_get mid.outputs n ≡ Some o = ap (λ (xs : List (List ℕ)). slice_get xs n) (sym step.outputs) ∙ e in
        let within = slice_get_within mid.outputs n o there in
        let len = is.fits in
        step.in_force.at n (omega arith)
        ∙ (ap (λ (b : Bool). cond b (next_place mid said) (joined (slice_get mid.in_force n))) (named mid.outputs numbers outputs n o is.distinct nums there)
        ∙ (ap (λ (x : Option ℕ). cond (has outputs o) (next_place mid said) x) (is.place n o there)
        ∙ sym (placed o)));
    absent = λ o h.
        let none : has mid.outputs o ≡ false = ap (λ (xs : List (List ℕ)). has xs o) (sym step.outputs) ∙ h in
        let out : has outputs o ≡ false = false_from_ne_true (has outputs o) (λ some. false≢true (sym none ∙ numbers_have mid.outputs numbers outputs o nums some)) in
        placed o ∙ (ap (λ (b : Bool). cond b (next_place mid said) (place_of all o)) out ∙ is.absent o none);
    told = subst (λ (xs : List (List ℕ)). AreTold xs after.told (tellings (all ++ (outputs, said) ∷ []))) (sym step.outputs) (subst (λ (ks : List (List ℕ × T)). AreTold mid.outputs ks (tellings (all ++ (outputs, said) ∷ []))) (sym step.told) (telling said));
    count = counted ∙ (ap (λ (n : ℕ). n + 1) is.count ∙ sym (length-append all ((outputs, said) ∷ [])));
  }
    where
      next : (s : Option T) (o : List ℕ) → place_of (all ++ (outputs, s) ∷ []) o ≡ cond (has outputs o) (next_place mid s) (place_of all o)
      next None o = place_from-none all outputs o None 0
      next (Some x) o =
          let same : 0 + length (tellings all) ≡ length mid.told = let len = told_length mid.outputs mid.told (tellings all) is.told in omega arith in
          place_from-some all outputs x o None 0 ∙ ap (λ (m : ℕ). cond (has outputs o) (Some m) (place_of all o)) same

      placed : (o : List ℕ) → place_of (all ++ (outputs, said) ∷ []) o ≡ cond (has outputs o) (next_place mid said) (place_of all o)
      placed o = next said o

      telling : (s : Option T) → AreTold mid.outputs (told_also mid numbers s) (tellings (all ++ (outputs, s) ∷ []))
      telling None = subst (AreTold mid.outputs mid.told) (sym (tellings-none all outputs)) is.told
      telling (Some x) = subst (AreTold mid.outputs (mid.told ++ (numbers, x) ∷ [])) (sym (tellings-some all outputs x)) (told_push mid.outputs mid.told (tellings all) numbers outputs x is.told nums)

  -- another spelling of outputs and of what is in force
  pub as_table : (all : List (Saying T)) (outputs : List (List ℕ)) (in_force : List (Option ℕ)) (told : List (List ℕ × T)) (records : ℕ) → {others : List (List ℕ)} {forces : List (Option ℕ)} → others ≡ outputs → forces ≡ in_force → IsTableOf all (record { outputs = outputs; in_force = in_force; told = told; records = records })
      → IsTableOf all (record { outputs = others; in_force = forces; told = told; records = records })
  as_table all outputs in_force told records {others} {forces} e f is =
      subst (λ (os : List (List ℕ)). IsTableOf all (record { outputs = os; in_force = forces; told = told; records = records })) (sym e) (subst (λ (fs : List (Option ℕ)). IsTableOf all (record { outputs = outputs; in_force = fs; told = told; records = records })) (sym f) is)

-- ---- what is kept of no records

pub none_twice : AreDistinct []
none_twice p twice = by_place twice.before twice.after twice.splits
  where
    by_place : (before after : List (List ℕ)) → [] ≡ before ++ p ∷ after → ⊥
    by_place [] after is = cc
    by_place (q ∷ before) after is = cc
