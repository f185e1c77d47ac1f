-- A compaction keeps what is in force.
use Rattle.std.proofs.Common.{◌≡◌, ◌<◌, ◌+◌, ℕ, zero, suc, Bool, true, false, cond, ◌&&◌, ◌||◌, ◌⊎◌, List, [], ◌∷◌, ◌++◌, map, filter, Option, Some, None, slice_get, refl, sym, ap, ◌∙◌, inl, inr, arith}
use Rattle.std.specs.Option.{option_map}
use Rattle.std.specs.Str.{bytes_eq}
use Rattle.std.proofs.lemmas.List.{map-append}
use Rattle.std.proofs.lemmas.Bool.{cases_Bool, eqb-true, eq-eqb, ne_eqb, and_right}
use Rattle.model.specs.declared.record.Record.{Record}
use Rattle.model.specs.Graph.{has}
use Rattle.model.specs.Records.{in_force}
use Rattle.log_text.specs.Kept.{Saying, Telling, tellings, told_from, told_of, place_from, place_of, is_place, left_to, outputs_at, some_of, in_force_from, in_force_of}
use Rattle.log_text.specs.BuildLog.{made_of, saying, done_record, compaction}
use Rattle.log_text.proofs.Distinct.{same_bytes}
use Rattle.log_text.proofs.Lookups.{got, told_place}
use Rattle.log_text.proofs.InForce.{in_force_told}
use Rattle.log_text.specs.declared.done.Done.{Done}

pub has-filter : (test : List ℕ → Bool) (os : List (List ℕ)) (o : List ℕ) → has (filter test os) o ≡ (has os o && test o)
has-filter test [] o = refl
has-filter test (q ∷ os) o = go (test q) (bytes_eq q o) refl refl (has-filter test os o)
  where
    go : (a b : Bool) → test q ≡ a → bytes_eq q o ≡ b → has (filter test os) o ≡ (has os o && test o) → has (cond a (q ∷ filter test os) (filter test os)) o ≡ ((b || has os o) && test o)
    go true true e f ih = ap (λ (x : Bool). x || has (filter test os) o) f ∙ (sym e ∙ ap test (same_bytes q o f))
    go true false e f ih = ap (λ (x : Bool). x || has (filter test os) o) f ∙ ih
    go false true e f ih = ih ∙ (ap (λ (x : Bool). has os o && x) none ∙ (and_right (has os o) false refl ∙ sym none))
      where
        none : test o ≡ false
        none = sym (ap test (same_bytes q o f)) ∙ e
    go false false e f ih = ih

module _ {T : Type 0} where
  somes : List (Telling T) → List (Saying T)
  somes ts = map (λ t. (t.0, Some t.1)) ts

  told_from-append : (xs ys : List (Saying T)) (o : List ℕ) (held : Option T) → told_from o held (xs ++ ys) ≡ told_from o (told_from o held xs) ys
  told_from-append [] ys o held = refl
  told_from-append (x ∷ xs) ys o held = told_from-append xs ys o (cond (has x.0 o) x.1 held)

  told_some : (os : List (List ℕ)) (x : T) (o : List ℕ) (held : Option T) → told_from o held (map (λ (t : Telling T). (t.0, Some t.1)) (some_of os x)) ≡ cond (has os o) (Some x) held
  told_some [] x o held = refl
  told_some (p ∷ os) x o held = refl

  -- the record in force names the output
  names_it : (rest : List (Saying T)) (o : List ℕ) (held : Option ℕ) (n m : ℕ) → place_from o held n rest ≡ Some m → (held ≡ Some m) ⊎ ((k : ℕ) × (m ≡ n + k) × (has (outputs_at (tellings rest) k) o ≡ true))
  names_it [] o held n m e = inl e
  names_it ((os, None) ∷ rest) o held n m e = go (cases_Bool (has os o)) (names_it rest o (cond (has os o) None held) n m e)
    where
      go : (has os o ≡ true) ⊎ (has os o ≡ false) → (cond (has os o) None held ≡ Some m) ⊎ ((k : ℕ) × (m ≡ n + k) × (has (outputs_at (tellings rest) k) o ≡ true)) → (held ≡ Some m) ⊎ ((k : ℕ) × (m ≡ n + k) × (has (outputs_at (tellings rest) k) o ≡ true))
      go c (inr r) = inr r
      go (inl h) (inl f) = absurd (let clash : None ≡ Some m = sym (ap (λ (b : Bool). cond b None held) h) ∙ f in cc)
      go (inr h) (inl f) = inl (sym (ap (λ (b : Bool). cond b None held) h) ∙ f)
  names_it ((os, Some x) ∷ rest) o held n m e = go (cases_Bool (has os o)) (names_it rest o (cond (has os o) (Some n) held) (n + 1) m e)
    where
      go : (has os o ≡ true) ⊎ (has os o ≡ false) → (cond (has os o) (Some n) held ≡ Some m) ⊎ ((k : ℕ) × (m ≡ (n + 1) + k) × (has (outputs_at (tellings rest) k) o ≡ true)) → (held ≡ Some m) ⊎ ((k : ℕ) × (m ≡ n + k) × (has (outputs_at ((os, x) ∷ tellings rest) k) o ≡ true))
      go c (inr r) = inr (suc r.0, (let e = r.1 in let same : m ≡ n + suc r.0 = omega arith in same), r.2)
      go (inl h) (inl f) =
          let here : Some n ≡ Some m = sym (ap (λ (b : Bool). cond b (Some n) held) h) ∙ f in
          let same : n ≡ m = cc in
          inr (0, (let at : m ≡ n + 0 = omega arith in at), h)
      go (inr h) (inl f) = inl (sym (ap (λ (b : Bool). cond b (Some n) held) h) ∙ f)

  abbrev pick : Option ℕ → ℕ → Option T → List (Telling T) → Option T
  pick p n held [] = held
  pick p n held (t ∷ ts) = pick p (n + 1) (cond (is_place n p) (Some t.1) held) ts

  abbrev pub Names : Option ℕ → List ℕ → ℕ → List (Telling T) → Type 0
  Names p o n ts = (k : ℕ) → p ≡ Some (n + k) → has (outputs_at ts k) o ≡ true

  picks : (all : List (Saying T)) (o : List ℕ) (n : ℕ) (ts : List (Telling T)) (held : Option T) → Names (place_of all o) o n ts → told_from o held (map (λ (t : Telling T). (t.0, Some t.1)) (in_force_from all n ts)) ≡ pick (place_of all o) n held ts
  picks all o n [] held names = refl
  picks all o n (t ∷ ts) held names =
      ap (told_from o held) (map-append (λ (t : Telling T). (t.0, Some t.1)) (some_of (left_to all n t.0) t.1) (in_force_from all (n + 1) ts))
      ∙ (told_from-append (map (λ (t : Telling T). (t.0, Some t.1)) (some_of (left_to all n t.0) t.1)) (map (λ (t : Telling T). (t.0, Some t.1)) (in_force_from all (n + 1) ts)) o held
      ∙ (ap (λ (h : Option T). told_from o h (map (λ (t : Telling T). (t.0, Some t.1)) (in_force_from all (n + 1) ts))) (told_some (left_to all n t.0) t.1 o held ∙ ap (λ (b : Bool). cond b (Some t.1) held) (left (cases_Bool (is_place n (place_of all o)))))
      ∙ picks all o (n + 1) ts (cond (is_place n (place_of all o)) (Some t.1) held) (λ k e. names (suc k) (e ∙ ap (λ (m : ℕ). Some m) (let same : (n + 1) + k ≡ n + suc k = omega arith in same)))))
    where
      place_is : (p : Option ℕ) → is_place n p ≡ true → p ≡ Some (n + 0)
      place_is None h = absurd (let clash : false ≡ true = h in cc)
      place_is (Some m) h = ap (λ (k : ℕ). Some k) (let same = eqb-true m n h in let at : m ≡ n + 0 = omega arith in at)

      left : (is_place n (place_of all o) ≡ true) ⊎ (is_place n (place_of all o) ≡ false) → has (left_to all n t.0) o ≡ is_place n (place_of all o)
      left (inl h) = has-filter (λ q. is_place n (place_of all q)) t.0 o ∙ ap (λ (b : Bool). b && is_place n (place_of all o)) (names 0 (place_is (place_of all o) h))
      left (inr h) = has-filter (λ q. is_place n (place_of all q)) t.0 o ∙ (and_right (has t.0 o) (is_place n (place_of all o)) h ∙ sym h)

  pick_none : (n : ℕ) (held : Option T) (ts : List (Telling T)) → pick None n held ts ≡ held
  pick_none n held [] = refl
  pick_none n held (t ∷ ts) = pick_none (n + 1) held ts

  pick_past : (m n : ℕ) (held : Option T) (ts : List (Telling T)) → m < n → pick (Some m) n held ts ≡ held
  pick_past m n held [] lt = refl
  pick_past m n held (t ∷ ts) lt =
      ap (λ (b : Bool). pick (Some m) (n + 1) (cond b (Some t.1) held) ts) (ne_eqb m n (λ (e : m ≡ n). absurd (omega arith)))
      ∙ pick_past m (n + 1) held ts (omega arith)

  abbrev or_held : Option T → Option T → Option T
  or_held None held = held
  or_held (Some x) held = Some x

  pick_at : (m n k : ℕ) (held : Option T) (ts : List (Telling T)) → m ≡ n + k → pick (Some m) n held ts ≡ or_held (slice_get (map (λ t. t.1) ts) k) held
  pick_at m n k held [] e = refl
  pick_at m n zero held (t ∷ ts) e =
      ap (λ (b : Bool). pick (Some m) (n + 1) (cond b (Some t.1) held) ts) (eq-eqb m n (let same : m ≡ n = omega arith in same))
      ∙ pick_past m (n + 1) (Some t.1) ts (omega arith)
  pick_at m n (suc k) held (t ∷ ts) e =
      ap (λ (b : Bool). pick (Some m) (n + 1) (cond b (Some t.1) held) ts) (ne_eqb m n (λ (f : m ≡ n). absurd (omega arith)))
      ∙ pick_at m (n + 1) k held ts (let same : m ≡ (n + 1) + k = omega arith in same)

  or_none : (x : Option T) → or_held x None ≡ x
  or_none None = refl
  or_none (Some x) = refl

  picked : (p : Option ℕ) (ts : List (Telling T)) → pick p 0 None ts ≡ got (map (λ t. t.1) ts) p
  picked None ts = pick_none 0 None ts
  picked (Some m) ts = pick_at m 0 m None ts (let same : m ≡ 0 + m = omega arith in same) ∙ or_none (slice_get (map (λ t. t.1) ts) m)

  pub all_named : (all : List (Saying T)) (o : List ℕ) → Names (place_of all o) o 0 (tellings all)
  all_named all o k e = elim (names_it all o None 0 (0 + k) e) [
    | inl none ↦ absurd (let clash : None ≡ Some (0 + k) = none in cc)
    | inr r ↦ ap (λ (m : ℕ). has (outputs_at (tellings all) m) o) (let at = r.1 in let same : k ≡ r.0 = omega arith in same) ∙ r.2
  ]

  -- the records in force tell what all tell
  pub told_kept : (all : List (Saying T)) (o : List ℕ) → told_of (map (λ (t : Telling T). (t.0, Some t.1)) (in_force_of all)) o ≡ told_of all o
  told_kept all o = picks all o 0 (tellings all) None (all_named all o) ∙ (picked (place_of all o) (tellings all) ∙ sym (told_place all o))

same_sayings : (ts : List (Telling Done)) → map saying (map done_record ts) ≡ map (λ (t : Telling Done). (t.0, Some t.1)) ts
same_sayings [] = refl
same_sayings (t ∷ ts) = ap (λ (l : List (Saying Done)). (t.0, Some t.1) ∷ l) (same_sayings ts)

pub compaction_keeps_law : (records : List Record) (output : List ℕ) → in_force (compaction records) output ≡ in_force records output
compaction_keeps_law records output =
    in_force_told (compaction records) output
    ∙ (ap (λ (all : List (Saying Done)). option_map made_of (told_of all output)) (same_sayings (in_force_of (map saying records)))
    ∙ (ap (option_map made_of) (told_kept (map saying records) output) ∙ sym (in_force_told records output)))
