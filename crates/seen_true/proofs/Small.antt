-- Small facts.
use Rattle.std.proofs.Common.{◌≡◌, ℕ, ◌||◌, Bool, true, false, List, [], ◌∷◌, ◌++◌, Option, Some, None, map, bytes_eq, refl, sym, ◌∙◌, ap, if◌then◌else◌}
use Rattle.std.specs.Option.{option_or}
use Rattle.std.specs.List.{AllByRecursion}
use Rattle.model.specs.declared.event.Moment.{Moment}
use Rattle.model.specs.declared.event.Moment.TheVariants.{Wrote, Happened}
use Rattle.model.specs.World.{IsNotAt}
use Rattle.model.specs.Graph.{has}
use Rattle.seen_log.specs.declared.note.Note.{Note}
use Rattle.seen_log.specs.declared.note.Noted.{Noted}
use Rattle.seen_log.specs.Log.{noted_in_force}
use Rattle.seen_true.specs.Soundly.{written_in}

pub some_is : {X : Type 0} {a b : X} → Some a ≡ Some b → a ≡ b
some_is e = cc

pub none_some : {X : Type 0} {a : X} → None ≡ Some a → ⊥
none_some e = cc

-- ---- what is in force

pub or_none : {X : Type 0} (a : Option X) → option_or a None ≡ a
or_none None = refl
or_none (Some x) = refl

pub or_assoc : {X : Type 0} (a b c : Option X) → option_or a (option_or b c) ≡ option_or (option_or a b) c
or_assoc None b c = refl
or_assoc (Some x) b c = refl

-- neither is there
pub or_neither : {X : Type 0} (a b : Option X) → option_or a b ≡ None → (a ≡ None) × (b ≡ None)
or_neither None b is = (refl, is)
or_neither (Some x) b is = absurd (none_some (sym is))

pub in_force-append : (xs ys : List Note) (p : List ℕ) → noted_in_force (xs ++ ys) p ≡ option_or (noted_in_force ys p) (noted_in_force xs p)
in_force-append [] ys p = sym (or_none (noted_in_force ys p))
in_force-append (r ∷ xs) ys p =
    ap (λ (later : Option Noted). option_or later (if bytes_eq r.path p then Some r.noted else None)) (in_force-append xs ys p)
    ∙ sym (or_assoc (noted_in_force ys p) (noted_in_force xs p) (if bytes_eq r.path p then Some r.noted else None))

-- ---- lists

-- a beginning of what comes of a list comes of a beginning of the list
pub record Split {X Y : Type 0} (f : X → Y) (xs : List X) (front : List Y) : Type 0 where
  pub before : List X
  pub after : List X
  pub is : xs ≡ before ++ after
  pub comes : map f before ≡ front

pub no_cons : {Y : Type 0} (y : Y) (ys : List Y) → [] ≡ y ∷ ys → ⊥
no_cons y ys e = cc

pub head_is : {Y : Type 0} (x y : Y) (xs ys : List Y) → x ∷ xs ≡ y ∷ ys → x ≡ y
head_is x y xs ys e = cc

pub tail_is : {Y : Type 0} (x y : Y) (xs ys : List Y) → x ∷ xs ≡ y ∷ ys → xs ≡ ys
tail_is x y xs ys e = cc

pub map-split : {X Y : Type 0} (f : X → Y) (xs : List X) (front back : List Y) → map f xs ≡ front ++ back → Split f xs front
map-split {X} {Y} f xs [] back is = record { before = []; after = xs; is = refl; comes = refl }
map-split {X} {Y} f [] (y ∷ front) back is = absurd (no_cons y (front ++ back) is)
map-split {X} {Y} f (x ∷ xs) (y ∷ front) back is =
    let rest = map-split f xs front back (tail_is (f x) y (map f xs) (front ++ back) is) in
    record { before = x ∷ rest.before; after = rest.after; is = ap (λ (l : List X). x ∷ l) rest.is; comes = λ i. head_is (f x) y (map f xs) (front ++ back) is i ∷ rest.comes i }

-- ---- what is written

or_left : (a b : Bool) → (a || b) ≡ false → a ≡ false
or_left false b is = refl
or_left true b is = is

or_right : (a b : Bool) → (a || b) ≡ false → b ≡ false
or_right false b is = is
or_right true b is = absurd (never is)
  where
    never : true ≡ false → ⊥
    never e = cc

-- where no moment of these writes the path, it is not written
pub not_written : (p : List ℕ) (ms : List Moment) → has (written_in ms) p ≡ false → AllByRecursion (IsNotAt p) ms
not_written p [] is = tt
not_written p (Wrote by path content stamp ∷ ms) is = (or_left (bytes_eq path p) (has (written_in ms) p) is, not_written p ms (or_right (bytes_eq path p) (has (written_in ms) p) is))
not_written p (Happened event ∷ ms) is = (tt, not_written p ms is)

-- a path that is written by neither
pub has_neither : (xs ys : List (List ℕ)) (p : List ℕ) → has (xs ++ ys) p ≡ false → (has xs p ≡ false) × (has ys p ≡ false)
has_neither [] ys p is = (refl, is)
has_neither (x ∷ xs) ys p is =
    let rest = has_neither xs ys p (or_right (bytes_eq x p) (has (xs ++ ys) p) is) in
    (ap (λ (b : Bool). b || has xs p) (or_left (bytes_eq x p) (has (xs ++ ys) p) is) ∙ rest.0, rest.1)
