-- What is found in what is kept.
use Rattle.std.proofs.Common.{option_and_then, ◌≡◌, ◌<◌, ◌≤◌, ◌+◌, ℕ, zero, suc, Bool, true, false, cond, ◌||◌, ◌⊎◌, List, [], ◌∷◌, ◌++◌, length, map, filter, take, get_or, Option, Some, None, slice_get, refl, sym, ap, ◌∙◌, subst, inl, inr, arith, append_assoc, Result, Ok, Err, Vec, Global, Bor}
use Rattle.std.specs.List.{list_any, AllByRecursion}
use Rattle.std.specs.Prelude.{IfOk}
use Rattle.std.proofs.lemmas.List.{length-append, append-nil, take_all}
use Rattle.std.proofs.lemmas.Bool.{cases_Bool}
use Rattle.model.specs.Graph.{has}
use Rattle.log_text.specs.Kept.{Saying, Telling, AreDistinct, texts_at, if_some, tellings, tolds, is_left, told_from, told_of, place_from, place_of, is_place, left_to, outputs_at, some_of, in_force_from, in_force_of, Table, joined, AreNumbersOf, AreTold, IsTableOf}
use Rattle.log_text.specs.Found.{texts_in, IsNamed}
use Rattle.log_text.proofs.Bytes.{take_more}
use Rattle.log_text.proofs.Distinct.{distinct_of_once, distinct-filter}

-- ---- what is in force

texts_at-push : (xs : List (List ℕ)) (ns : List ℕ) (n : ℕ) → texts_at xs (ns ++ n ∷ []) ≡ texts_at xs ns ++ if_some (slice_get xs n)
texts_at-push xs [] n = append-nil (if_some (slice_get xs n))
texts_at-push xs (m ∷ ns) n = ap (λ (l : List (List ℕ)). if_some (slice_get xs m) ++ l) (texts_at-push xs ns n) ∙ sym (append_assoc (if_some (slice_get xs m)) (texts_at xs ns) (if_some (slice_get xs n)))

pub texts_next : (xs : List (List ℕ)) (ns : List ℕ) (i : ℕ) (old new : List (List ℕ)) → i < length ns → old ≡ texts_at xs (take i ns) → new ≡ old ++ if_some (slice_get xs (get_or ns i 0)) → new ≡ texts_at xs (take (i + 1) ns)
texts_next xs ns i old new lt e step =
    step ∙ (ap (λ (l : List (List ℕ)). l ++ if_some (slice_get xs (get_or ns i 0))) e ∙ (sym (texts_at-push xs (take i ns) (get_or ns i 0)) ∙ ap (texts_at xs) (sym (take_more ns i 0 lt))))

all_push : {A : Type 0} (P : A → Type 0) (xs : List A) (x : A) → AllByRecursion P xs → P x → AllByRecursion P (xs ++ x ∷ [])
all_push P [] x are is = (is, tt)
all_push P (y ∷ xs) x are is = (are.0, all_push P xs x are.1 is)

some_named : (os : List (Bor (List ℕ))) → 0 < length os → 0 < length (texts_in os)
some_named [] some = some
some_named (o ∷ os) some = omega arith

abbrev pub got : {T : Type 0} → List T → Option ℕ → Option T
got xs None = None
got xs (Some n) = slice_get xs n

filter_push : (p : List ℕ → Bool) (xs : List (List ℕ)) (x : List ℕ) → filter p (xs ++ x ∷ []) ≡ filter p xs ++ cond (p x) (x ∷ []) []
filter_push p [] x = refl
filter_push p (y ∷ xs) x = go (p y) (filter_push p xs x)
  where
    go : (b : Bool) → filter p (xs ++ x ∷ []) ≡ filter p xs ++ cond (p x) (x ∷ []) [] → cond b (y ∷ filter p (xs ++ x ∷ [])) (filter p (xs ++ x ∷ [])) ≡ cond b (y ∷ filter p xs) (filter p xs) ++ cond (p x) (x ∷ []) []
    go true ih = ap (λ (l : List (List ℕ)). y ∷ l) ih
    go false ih = ih

numbers_at : (xs : List (List ℕ)) (ns : List ℕ) (os : List (List ℕ)) (i : ℕ) → AreNumbersOf xs ns os → i < length ns → (o : List ℕ) × (slice_get xs (get_or ns i 0) ≡ Some o) × (take (i + 1) os ≡ take i os ++ o ∷ [])
numbers_at xs [] os i are lt = absurd (omega arith)
numbers_at xs (n ∷ ns) [] i are lt = absurd are
numbers_at xs (n ∷ ns) (o ∷ os) zero are lt = (o, are.0, refl)
numbers_at xs (n ∷ ns) (o ∷ os) (suc i) are lt =
    let rest = numbers_at xs ns os i are.1 (omega arith) in
    (rest.0, rest.1, ap (λ (m : ℕ). take m (o ∷ os)) (let same : suc i + 1 ≡ suc (i + 1) = omega arith in same) ∙ ap (λ (l : List (List ℕ)). o ∷ l) rest.2)

numbers_length : (xs : List (List ℕ)) (ns : List ℕ) (os : List (List ℕ)) → AreNumbersOf xs ns os → length ns ≡ length os
numbers_length xs [] [] are = refl
numbers_length xs [] (o ∷ os) are = absurd are
numbers_length xs (n ∷ ns) [] are = absurd are
numbers_length xs (n ∷ ns) (o ∷ os) are = let rest = numbers_length xs ns os are.1 in omega arith

module _ {T : Type 0} where
  at_seam : (seen : List T) (x : T) (rest : List T) → slice_get (seen ++ x ∷ rest) (length seen) ≡ Some x
  at_seam [] x rest = refl
  at_seam (y ∷ seen) x rest = at_seam seen x rest

  got-cond : (b : Bool) (xs : List T) (x y : Option T) (p q : Option ℕ) → x ≡ got xs p → y ≡ got xs q → cond b x y ≡ got xs (cond b p q)
  got-cond true xs x y p q e f = e
  got-cond false xs x y p q e f = f

  told_place_from : (rest : List (Saying T)) (o : List ℕ) (seen : List T) (ht : Option T) (hp : Option ℕ) (n : ℕ) → n ≡ length seen → ht ≡ got (seen ++ tolds rest) hp → told_from o ht rest ≡ got (seen ++ tolds rest) (place_from o hp n rest)
  told_place_from [] o seen ht hp n len e = e
  told_place_from ((os, None) ∷ rest) o seen ht hp n len e = told_place_from rest o seen (cond (has os o) None ht) (cond (has os o) None hp) n len (got-cond (has os o) (seen ++ tolds rest) None ht None hp refl e)
  told_place_from ((os, Some x) ∷ rest) o seen ht hp n len e =
      let same : (seen ++ x ∷ []) ++ tolds rest ≡ seen ++ x ∷ tolds rest = append_assoc seen (x ∷ []) (tolds rest) in
      let longer : n + 1 ≡ length (seen ++ x ∷ []) = ap (λ (m : ℕ). m + 1) len ∙ sym (length-append seen (x ∷ [])) in
      let here : Some x ≡ slice_get (seen ++ x ∷ tolds rest) n = sym (ap (slice_get (seen ++ x ∷ tolds rest)) len ∙ at_seam seen x (tolds rest)) in
      let held = got-cond (has os o) (seen ++ x ∷ tolds rest) (Some x) ht (Some n) hp here e in
      let next = told_place_from rest o (seen ++ x ∷ []) (cond (has os o) (Some x) ht) (cond (has os o) (Some n) hp) (n + 1) longer (subst (λ (xs : List T). cond (has os o) (Some x) ht ≡ got xs (cond (has os o) (Some n) hp)) (sym same) held) in
      next ∙ ap (λ (xs : List T). got xs (place_from o (cond (has os o) (Some n) hp) (n + 1) rest)) same

  -- what is in force is what the record in force tells
  pub told_place : (all : List (Saying T)) (o : List ℕ) → told_of all o ≡ got (tolds all) (place_of all o)
  told_place all o = told_place_from all o [] None None 0 refl refl

  got_as : (xs : List T) (p : Option ℕ) → option_and_then (slice_get xs) p ≡ got xs p
  got_as xs None = refl
  got_as xs (Some n) = refl

  pub told_found : (all : List (Saying T)) (o : List ℕ) (p : Option ℕ) → p ≡ place_of all o → option_and_then (slice_get (tolds all)) p ≡ told_of all o
  told_found all o p e = got_as (tolds all) p ∙ (ap (got (tolds all)) e ∙ sym (told_place all o))

  pub told_same : (xs : List (List ℕ)) (ks : List (List ℕ × T)) (ts : List (Telling T)) → AreTold xs ks ts → map (λ k. k.1) ks ≡ map (λ t. t.1) ts
  told_same xs [] [] are = refl
  told_same xs [] (t ∷ ts) are = absurd are
  told_same xs (k ∷ ks) [] are = absurd are
  told_same xs (k ∷ ks) (t ∷ ts) are = ap (λ (x : T). x ∷ map (λ k. k.1) ks) are.1 ∙ ap (λ (l : List T). t.1 ∷ l) (told_same xs ks ts are.2)

  get-map : (ks : List (List ℕ × T)) (n : ℕ) (k : List ℕ × T) → slice_get ks n ≡ Some k → slice_get (map (λ k. k.1) ks) n ≡ Some k.1
  get-map [] n k e = cc
  get-map (x ∷ ks) zero k e = let same : x ≡ k = cc in ap (λ (y : List ℕ × T). Some y.1) same
  get-map (x ∷ ks) (suc n) k e = get-map ks n k e

  get-none : (ks : List (List ℕ × T)) (n : ℕ) → slice_get ks n ≡ None → slice_get (map (λ k. k.1) ks) n ≡ None
  get-none [] n e = refl
  get-none (x ∷ ks) zero e = absurd cc
  get-none (x ∷ ks) (suc n) e = get-none ks n e

  pub told_at : (all : List (Saying T)) (table : Table T) (n : ℕ) (k : List ℕ × T) → IsTableOf all table → slice_get table.told n ≡ Some k → Some k.1 ≡ slice_get (tolds all) n
  told_at all table n k is e = sym (ap (λ (xs : List T). slice_get xs n) (sym (told_same table.outputs table.told (tellings all) is.told)) ∙ get-map table.told n k e)

  pub told_past : (all : List (Saying T)) (table : Table T) (n : ℕ) → IsTableOf all table → slice_get table.told n ≡ None → None ≡ slice_get (tolds all) n
  told_past all table n is e = sym (ap (λ (xs : List T). slice_get xs n) (sym (told_same table.outputs table.told (tellings all) is.told)) ∙ get-none table.told n e)

  -- ---- the outputs of a record

  pub outputs_told : (xs : List (List ℕ)) (ks : List (List ℕ × T)) (ts : List (Telling T)) (n : ℕ) (k : List ℕ × T) → AreTold xs ks ts → slice_get ks n ≡ Some k → AreNumbersOf xs k.0 (outputs_at ts n)
  outputs_told xs [] ts n k are e = cc
  outputs_told xs (x ∷ ks) [] n k are e = absurd are
  outputs_told xs (x ∷ ks) (t ∷ ts) zero k are e = let same : x ≡ k = cc in subst (λ (y : List ℕ × T). AreNumbersOf xs y.0 t.0) same are.0
  outputs_told xs (x ∷ ks) (t ∷ ts) (suc n) k are e = outputs_told xs ks ts n k are.2 e

  pub outputs_past : (xs : List (List ℕ)) (ks : List (List ℕ × T)) (ts : List (Telling T)) (n : ℕ) → AreTold xs ks ts → slice_get ks n ≡ None → outputs_at ts n ≡ []
  outputs_past xs [] [] n are e = refl
  outputs_past xs [] (t ∷ ts) n are e = absurd are
  outputs_past xs (x ∷ ks) [] n are e = refl
  outputs_past xs (x ∷ ks) (t ∷ ts) zero are e = absurd cc
  outputs_past xs (x ∷ ks) (t ∷ ts) (suc n) are e = outputs_past xs ks ts n are.2 e

  any_from : (all : List (Saying T)) (table : Table T) (place : ℕ) (ns : List ℕ) (os : List (List ℕ)) → IsTableOf all table → AreNumbersOf table.outputs ns os → list_any (λ n. is_place place (joined (slice_get table.in_force n))) ns ≡ list_any (λ o. is_place place (place_of all o)) os
  any_from all table place [] [] is are = refl
  any_from all table place [] (o ∷ os) is are = absurd are
  any_from all table place (n ∷ ns) [] is are = absurd are
  any_from all table place (n ∷ ns) (o ∷ os) is are =
      ap (λ (p : Option ℕ). is_place place p || list_any (λ n. is_place place (joined (slice_get table.in_force n))) ns) (is.place n o are.0)
      ∙ ap (λ (b : Bool). is_place place (place_of all o) || b) (any_from all table place ns os is are.1)

  -- ---- whether a record is in force

  pub left_at : (all : List (Saying T)) (table : Table T) (place : ℕ) (k : List ℕ × T) → IsTableOf all table → slice_get table.told place ≡ Some k → list_any (λ n. is_place place (joined (slice_get table.in_force n))) k.0 ≡ is_left all place
  left_at all table place k is e = any_from all table place k.0 (outputs_at (tellings all) place) is (outputs_told table.outputs table.told (tellings all) place k is.told e)

  pub left_past : (all : List (Saying T)) (table : Table T) (place : ℕ) → IsTableOf all table → slice_get table.told place ≡ None → false ≡ is_left all place
  left_past all table place is e = ap (list_any (λ o. is_place place (place_of all o))) (sym (outputs_past table.outputs table.told (tellings all) place is.told e))

  -- ---- records in force, one after another

  pub in_force_from-push : (all : List (Saying T)) (n : ℕ) (ts : List (Telling T)) (t : Telling T) → in_force_from all n (ts ++ t ∷ []) ≡ in_force_from all n ts ++ some_of (left_to all (n + length ts) t.0) t.1
  in_force_from-push all n [] t = append-nil (some_of (left_to all n t.0) t.1) ∙ ap (λ (m : ℕ). some_of (left_to all m t.0) t.1) (let same : n ≡ n + 0 = omega arith in same)
  in_force_from-push all n (x ∷ ts) t =
      ap (λ (l : List (Telling T)). some_of (left_to all n x.0) x.1 ++ l) (in_force_from-push all (n + 1) ts t)
      ∙ (sym (append_assoc (some_of (left_to all n x.0) x.1) (in_force_from all (n + 1) ts) (some_of (left_to all ((n + 1) + length ts) t.0) t.1))
      ∙ ap (λ (m : ℕ). (some_of (left_to all n x.0) x.1 ++ in_force_from all (n + 1) ts) ++ some_of (left_to all m t.0) t.1) (let same : (n + 1) + length ts ≡ n + length (x ∷ ts) = omega arith in same))

  -- the first records, and the next one
  take_telling : (ts : List (Telling T)) (n : ℕ) → n < length ts → (x : T) × (take (n + 1) ts ≡ take n ts ++ (outputs_at ts n, x) ∷ []) × (slice_get (map (λ t. t.1) ts) n ≡ Some x) × (length (take n ts) ≡ n)
  take_telling [] n lt = absurd (omega arith)
  take_telling (t ∷ ts) zero lt = (t.1, refl, refl, refl)
  take_telling (t ∷ ts) (suc n) lt =
      let rest = take_telling ts n (omega arith) in
      (rest.0, ap (λ (m : ℕ). take m (t ∷ ts)) (let same : suc n + 1 ≡ suc (n + 1) = omega arith in same) ∙ ap (λ (l : List (Telling T)). t ∷ l) rest.1, rest.2, ap suc rest.3)

  -- the records in force among the first
  abbrev pub first_in_force : List (Saying T) → ℕ → List (Telling T)
  first_in_force all n = in_force_from all 0 (take n (tellings all))

  pub first_next : (all : List (Saying T)) (n : ℕ) → n < length (tellings all) → (x : T) × (first_in_force all (n + 1) ≡ first_in_force all n ++ some_of (left_to all n (outputs_at (tellings all) n)) x) × (slice_get (tolds all) n ≡ Some x)
  first_next all n lt =
      let next = take_telling (tellings all) n lt in (
        next.0,
        ap (in_force_from all 0) next.1
            ∙ (in_force_from-push all 0 (take n (tellings all)) (outputs_at (tellings all) n, next.0)
            ∙ ap (λ (m : ℕ). first_in_force all n ++ some_of (left_to all m (outputs_at (tellings all) n)) next.0) (let len = next.3 in let same : 0 + length (take n (tellings all)) ≡ n = omega arith in same)),
        next.2,
      )

  pub first_all : (all : List (Saying T)) (n : ℕ) → length (tellings all) ≤ n → first_in_force all n ≡ in_force_of all
  first_all all n le = ap (in_force_from all 0) (take_all n (tellings all) le)

  some_length : (b : Bool) (p : List ℕ → Bool) (os : List (List ℕ)) (x : T) → list_any p os ≡ b → length (some_of {T = T} (filter p os) x) ≡ cond b 1 0
  some_length true p [] x e = cc
  some_length false p [] x e = refl
  some_length b p (o ∷ os) x e = go (cases_Bool (p o)) (some_length b p os x)
    where
      go : (p o ≡ true) ⊎ (p o ≡ false) → (list_any p os ≡ b → length (some_of {T = T} (filter p os) x) ≡ cond b 1 0) → length (some_of {T = T} (filter p (o ∷ os)) x) ≡ cond b 1 0
      go (inl h) ih = ap (λ (c : Bool). length (some_of {T = T} (cond c (o ∷ filter p os) (filter p os)) x)) h ∙ ap (λ (c : Bool). cond c 1 0) (let same : true ≡ b = sym (ap (λ (c : Bool). c || list_any p os) h) ∙ e in same)
      go (inr h) ih = ap (λ (c : Bool). length (some_of {T = T} (cond c (o ∷ filter p os) (filter p os)) x)) h ∙ ih (sym (ap (λ (c : Bool). c || list_any p os) h) ∙ e)

  -- one more is in force, or none
  pub count_next : (all : List (Saying T)) (n count : ℕ) (b : Bool) → n < length (tellings all) → count ≡ length (first_in_force all n) → b ≡ is_left all n → count + cond b 1 0 ≡ length (first_in_force all (n + 1))
  count_next all n count b lt e is =
      let next = first_next all n lt in
      let more = some_length b (λ o. is_place n (place_of all o)) (outputs_at (tellings all) n) next.0 (sym is) in
      let parts = ap length next.1 ∙ length-append (first_in_force all n) (some_of (left_to all n (outputs_at (tellings all) n)) next.0) in
      omega arith

  -- ---- outputs for which a record is in force

  pub left_next : (all : List (Saying T)) (table : Table T) (place : ℕ) (ns : List ℕ) (os : List (List ℕ)) (i : ℕ) (old new : List (List ℕ)) → IsTableOf all table → AreNumbersOf table.outputs ns os → i < length ns → old ≡ left_to all place (take i os)
      → ((o : List ℕ) → slice_get table.outputs (get_or ns i 0) ≡ Some o → new ≡ old ++ cond (is_place place (joined (slice_get table.in_force (get_or ns i 0)))) (o ∷ []) []) → new ≡ left_to all place (take (i + 1) os)
  left_next all table place ns os i old new is are lt e step =
      let next = numbers_at table.outputs ns os i are lt in
      step next.0 next.1
      ∙ (ap (λ (p : Option ℕ). old ++ cond (is_place place p) (next.0 ∷ []) []) (is.place (get_or ns i 0) next.0 next.1)
      ∙ (ap (λ (l : List (List ℕ)). l ++ cond (is_place place (place_of all next.0)) (next.0 ∷ []) []) e
      ∙ (sym (filter_push (λ o. is_place place (place_of all o)) (take i os) next.0) ∙ ap (left_to all place) (sym next.2))))

  pub left_all : (all : List (Saying T)) (xs : List (List ℕ)) (place : ℕ) (ns : List ℕ) (os : List (List ℕ)) (i : ℕ) (left : List (List ℕ)) → AreNumbersOf xs ns os → length ns ≤ i → left ≡ left_to all place (take i os) → left ≡ left_to all place os
  left_all all xs place ns os i left are le e = e ∙ ap (left_to all place) (take_all i os (let len = numbers_length xs ns os are in omega arith))

  pub left_from : {E : Type 0} (left : Result (Vec (Bor (List ℕ)) Global) E) (table : Table T) (place : ℕ) (k : List ℕ × T) → slice_get table.told place ≡ Some k
      → IfOk left (λ texts. (all : List (Saying T)) (os : List (List ℕ)) → IsTableOf all table → AreNumbersOf table.outputs k.0 os → map (λ o. o.now) texts.items ≡ left_to all place os)
      → IfOk left (λ texts. (all : List (Saying T)) → IsTableOf all table → map (λ o. o.now) texts.items ≡ left_to all place (outputs_at (tellings all) place))
  left_from (Ok texts) table place k e has = λ all is. has all (outputs_at (tellings all) place) is (outputs_told table.outputs table.told (tellings all) place k is.told e)
  left_from (Err x) table place k e has = tt

  distinct_at : (all : List (Saying T)) (n : ℕ) → AllByRecursion (λ (s : Saying T). AreDistinct s.0) all → AreDistinct (outputs_at (tellings all) n)
  distinct_at [] n once = distinct_of_once [] tt
  distinct_at ((os, None) ∷ all) n once = distinct_at all n once.1
  distinct_at ((os, Some x) ∷ all) zero once = once.0
  distinct_at ((os, Some x) ∷ all) (suc n) once = distinct_at all n once.1

  -- none of them stands twice
  pub left_distinct : (all : List (Saying T)) (table : Table T) (n : ℕ) (outputs : List (List ℕ)) → IsTableOf all table → outputs ≡ left_to all n (outputs_at (tellings all) n) → AreDistinct outputs
  left_distinct all table n outputs is e = subst AreDistinct (sym e) (distinct-filter (λ o. is_place n (place_of all o)) (outputs_at (tellings all) n) (distinct_at all n is.once))

  pub left_once : {E : Type 0} (left : Result (Vec (Bor (List ℕ)) Global) E) (table : Table T) (place : ℕ)
      → IfOk left (λ texts. (all : List (Saying T)) → IsTableOf all table → map (λ o. o.now) texts.items ≡ left_to all place (outputs_at (tellings all) place))
      → IfOk left (λ texts. (all : List (Saying T)) → IsTableOf all table → AreDistinct (map (λ o. o.now) texts.items))
  left_once (Ok texts) table place left = λ all is. left_distinct all table place (map (λ o. o.now) texts.items) is (left all is)
  left_once (Err x) table place left = tt

  -- ---- records in force as they are handed out

  pub named_push : (found : List (List (Bor (List ℕ)) × Bor T)) (os outputs : List (Bor (List ℕ))) (t : Bor T) → os ≡ outputs → 0 < length outputs → AreDistinct (texts_in outputs) → AllByRecursion IsNamed found → AllByRecursion IsNamed (found ++ (os, t) ∷ [])
  named_push found os outputs t same some once are =
      all_push IsNamed found (os, t) are (subst (λ (xs : List (Bor (List ℕ))). 0 < length (texts_in xs)) (sym same) (some_named outputs some), subst (λ (xs : List (Bor (List ℕ))). AreDistinct (texts_in xs)) (sym same) once)
