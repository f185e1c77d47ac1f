-- What is in force, record by record.
use Rattle.std.proofs.Common.{◌≡◌, ℕ, ◌+◌, Bool, true, false, ◌||◌, List, [], ◌∷◌, ◌++◌, Option, Some, None, map, length, slice_get, zero, suc, max, refl, sym, ap, subst, ◌∙◌, inl, inr, arith, if◌then◌else◌}
use Rattle.std.specs.Str.{bytes_eq}
use Rattle.std.specs.List.{fold}
use Rattle.std.specs.Option.{option_or}
use Rattle.std.proofs.lemmas.Bool.{cases_Bool}
use Rattle.std.proofs.lemmas.Slice.Eq.{bytes_eq-Decides}
use Rattle.std.proofs.lemmas.List.{map-append, length-append}
use Rattle.std.proofs.lemmas.List.Sums.{fold-append}
use Rattle.seen_log.specs.declared.note.Note.{Note}
use Rattle.seen_log.specs.declared.note.Noted.{Noted}
use Rattle.seen_log.specs.Record.{noting}
use Rattle.seen_log.specs.Log.{noted_in_force, noteds, put_note, compaction, greatest_of, to_pass}

-- ---- one record more

or_if : (b : Bool) (n : Noted) (later before : Option Noted) → option_or (if b then Some n else later) before ≡ (if b then Some n else option_or later before)
or_if true n later before = refl
or_if false n later before = refl

pub in_force_more : (records : List Note) (r : Note) (path : List ℕ) → noted_in_force (records ++ r ∷ []) path ≡ (if bytes_eq r.path path then Some r.noted else noted_in_force records path)
in_force_more [] r path = refl
in_force_more (s ∷ records) r path =
    ap (λ (later : Option Noted). option_or later (if bytes_eq s.path path then Some s.noted else None)) (in_force_more records r path)
    ∙ or_if (bytes_eq r.path path) r.noted (noted_in_force records path) (if bytes_eq s.path path then Some s.noted else None)

pub noteds_more : (records : List Note) (r : Note) → noteds (records ++ r ∷ []) ≡ noteds records ++ r.noted ∷ []
noteds_more records r = map-append (λ (n : Note). n.noted) records (r ∷ [])

slice_kept : (xs ys : List Noted) (i : ℕ) (x : Noted) → slice_get xs i ≡ Some x → slice_get (xs ++ ys) i ≡ Some x
slice_kept [] ys i x e = cc
slice_kept (y ∷ xs) ys zero x e = e
slice_kept (y ∷ xs) ys (suc i) x e = slice_kept xs ys i x e

slice_last : (xs : List Noted) (x : Noted) → slice_get (xs ++ x ∷ []) (length xs) ≡ Some x
slice_last [] x = refl
slice_last (y ∷ xs) x = slice_last xs x

pub noted_kept : (records : List Note) (r : Note) (i : ℕ) (x : Noted) → slice_get (noteds records) i ≡ Some x → slice_get (noteds (records ++ r ∷ [])) i ≡ Some x
noted_kept records r i x e = subst (λ (xs : List Noted). slice_get xs i ≡ Some x) (sym (noteds_more records r)) (slice_kept (noteds records) (r.noted ∷ []) i x e)

noteds_count : (records : List Note) → length (noteds records) ≡ length records
noteds_count [] = refl
noteds_count (r ∷ records) = ap suc (noteds_count records)

pub noted_last : (records : List Note) (r : Note) (place : ℕ) → place ≡ length records → slice_get (noteds (records ++ r ∷ [])) place ≡ Some r.noted
noted_last records r place is =
    subst (λ (xs : List Noted). slice_get xs place ≡ Some r.noted) (sym (noteds_more records r))
    (subst (λ (n : ℕ). slice_get (noteds records ++ r.noted ∷ []) n ≡ Some r.noted) (noteds_count records ∙ sym is) (slice_last (noteds records) r.noted))

pub compaction_more : (records : List Note) (r : Note) → compaction (records ++ r ∷ []) ≡ put_note (compaction records) r
compaction_more records r = fold-append put_note [] records (r ∷ [])

pub greatest_more : (records : List Note) (r : Note) → greatest_of (records ++ r ∷ []) ≡ max (greatest_of records) (to_pass r.noted)
greatest_more [] r = swap (to_pass r.noted) 0
  where
    swap : (a b : ℕ) → max a b ≡ max b a
    swap a b = omega arith
greatest_more (s ∷ records) r = ap (max (to_pass s.noted)) (greatest_more records r) ∙ joined (to_pass s.noted) (greatest_of records) (to_pass r.noted)
  where
    joined : (a b c : ℕ) → max a (max b c) ≡ max (max a b) c
    joined a b c = omega arith

pub count_more : (records : List Note) (r : Note) (count : ℕ) → count ≡ length records → count + 1 ≡ length (records ++ r ∷ [])
count_more records r count is = ap (λ (n : ℕ). n + 1) is ∙ sym (length-append records (r ∷ []))

-- ---- a compaction

abbrev names : List Note → List ℕ → Bool
names [] path = false
names (n ∷ rest) path = bytes_eq n.path path || names rest path

-- each path is named once
abbrev Once : List Note → Type 0
Once [] = Unit {0}
Once (n ∷ rest) = (names rest n.path ≡ false) × Once rest

not_named : (records : List Note) (path : List ℕ) → names records path ≡ false → noted_in_force records path ≡ None
not_named [] path none = refl
not_named (n ∷ records) path none = by (bytes_eq n.path path) (names records path) none (not_named records path)
  where
    by : (here later : Bool) → (here || later) ≡ false → (later ≡ false → noted_in_force records path ≡ None) → option_or (noted_in_force records path) (if here then Some n.noted else None) ≡ None
    by true later e rest = absurd (let clash : true ≡ false = e in cc)
    by false later e rest = ap (λ (o : Option Noted). option_or o None) (rest e)

swap_or : (a b c : Bool) → a || (b || c) ≡ b || (a || c)
swap_or true true c = refl
swap_or true false c = refl
swap_or false b c = refl

twice_or : (a b : Bool) → a || b ≡ a || (a || b)
twice_or true b = refl
twice_or false b = refl

names_put : (records : List Note) (r : Note) (path : List ℕ) → names (put_note records r) path ≡ (bytes_eq r.path path || names records path)
names_put [] r path = refl
names_put (n ∷ records) r path = elim (cases_Bool (bytes_eq r.path n.path)) [
  | inl same ↦ rw same (
      let one : r.path ≡ n.path = (bytes_eq-Decides r.path n.path).0 same in
      subst (λ (p : List ℕ). bytes_eq n.path path || names records path ≡ (bytes_eq p path || (bytes_eq n.path path || names records path))) (sym one) (twice_or (bytes_eq n.path path) (names records path)))
  | inr other ↦ rw other (
      ap (λ (b : Bool). bytes_eq n.path path || b) (names_put records r path) ∙ swap_or (bytes_eq n.path path) (bytes_eq r.path path) (names records path))
]

once_put : (records : List Note) (r : Note) → Once records → Once (put_note records r)
once_put [] r once = (refl, tt)
once_put (n ∷ records) r once = elim (cases_Bool (bytes_eq r.path n.path)) [
  | inl same ↦ rw same once
  | inr other ↦ rw other ((names_put records r n.path ∙ (ap (λ (b : Bool). b || names records n.path) other ∙ once.0), once_put records r once.1))
]

put_in_force : (records : List Note) (r : Note) (path : List ℕ) → Once records → noted_in_force (put_note records r) path ≡ (if bytes_eq r.path path then Some r.noted else noted_in_force records path)
put_in_force [] r path once = refl
put_in_force (n ∷ records) r path once = elim (cases_Bool (bytes_eq r.path n.path)) [
  | inl same ↦ rw same (
      let one : r.path ≡ n.path = (bytes_eq-Decides r.path n.path).0 same in
      subst (λ (p : List ℕ). option_or (noted_in_force records path) (if bytes_eq n.path path then Some r.noted else None)
      ≡ (if bytes_eq p path then Some r.noted else option_or (noted_in_force records path) (if bytes_eq n.path path then Some n.noted else None))) (sym one)
      (by (bytes_eq n.path path) refl))
  | inr other ↦ rw other (
      ap (λ (later : Option Noted). option_or later (if bytes_eq n.path path then Some n.noted else None)) (put_in_force records r path once.1)
      ∙ or_if (bytes_eq r.path path) r.noted (noted_in_force records path) (if bytes_eq n.path path then Some n.noted else None))
]
  where
    none_here : bytes_eq n.path path ≡ true → noted_in_force records path ≡ None
    none_here here = not_named records path (ap (λ (p : List ℕ). names records p) (sym ((bytes_eq-Decides n.path path).0 here)) ∙ once.0)

    by : (here : Bool) → bytes_eq n.path path ≡ here → option_or (noted_in_force records path) (if here then Some r.noted else None) ≡ (if here then Some r.noted else option_or (noted_in_force records path) (if here then Some n.noted else None))
    by true is = ap (λ (o : Option Noted). option_or o (Some r.noted)) (none_here is)
    by false is = refl

or_joined : (later before earlier : Option Noted) → option_or (option_or later before) earlier ≡ option_or later (option_or before earlier)
or_joined (Some n) before earlier = refl
or_joined None before earlier = refl

folded : (records done : List Note) (path : List ℕ) → Once done → noted_in_force (fold put_note done records) path ≡ option_or (noted_in_force records path) (noted_in_force done path)
folded [] done path once = refl
folded (r ∷ records) done path once =
    folded records (put_note done r) path (once_put done r once)
    ∙ (ap (option_or (noted_in_force records path)) (put_in_force done r path once ∙ sym (or_if (bytes_eq r.path path) r.noted None (noted_in_force done path)))
    ∙ sym (or_joined (noted_in_force records path) (if bytes_eq r.path path then Some r.noted else None) (noted_in_force done path)))

or_none : (found : Option Noted) → option_or found None ≡ found
or_none None = refl
or_none (Some n) = refl

pub compaction_keeps : (records : List Note) (path : List ℕ) → noted_in_force (compaction records) path ≡ noted_in_force records path
compaction_keeps records path = folded records [] path tt ∙ or_none (noted_in_force records path)
