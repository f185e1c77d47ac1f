-- The paths of build lines, each once.
use Rattle.std.proofs.Common.{◌≡◌, ℕ, ◌+◌, Bool, true, false, List, [], ◌∷◌, ◌++◌, ◌||◌, inl, inr, length, refl, sym, ap, ◌∙◌, arith, length-append, if◌then◌else◌, bytes_eq, ◌<◌, suc, get_or, drop, Result, Ok, Err}
use Rattle.std.specs.Prelude.{OnOk}
use Rattle.std.proofs.lemmas.Bool.{cases_Bool}
use Rattle.std.proofs.Math.Seq.{drop-cons}
use Rattle.std.proofs.lemmas.Slice.Eq.{bytes_eq-Decides}
use Rattle.model.specs.Graph.{has}
use Rattle.manifest.specs.InNumbers.{AreKeys}
use Rattle.manifest.specs.States.{different}

same_text : (a b : List ℕ) → bytes_eq a b ≡ true → a ≡ b
same_text a b e = (bytes_eq-Decides a b).0 e

text_same : (a : List ℕ) → bytes_eq a a ≡ true
text_same a = (bytes_eq-Decides a a).1 refl

pub turned : (a b : List ℕ) → bytes_eq a b ≡ bytes_eq b a
turned a b = elim (cases_Bool (bytes_eq a b)) [
  | inl same ↦ rw (same_text a b same) refl
  | inr other ↦ elim (cases_Bool (bytes_eq b a)) [
    | inl same ↦ rw (same_text b a same) refl
    | inr neither ↦ other ∙ sym neither
  ]
]

pub has-more : (paths : List (List ℕ)) (path other : List ℕ) → has (paths ++ path ∷ []) other ≡ (has paths other || bytes_eq path other)
has-more [] path other = elim (cases_Bool (bytes_eq path other)) [ inl e ↦ rw e refl | inr e ↦ rw e refl ]
has-more (first ∷ paths) path other = elim (cases_Bool (bytes_eq first other)) [ inl e ↦ rw e refl | inr e ↦ rw e (has-more paths path other) ]

or_true : (a : Bool) → (a || true) ≡ true
or_true true = refl
or_true false = refl

or_false : (a : Bool) → (a || false) ≡ a
or_false true = refl
or_false false = refl

pub different-more : (paths : List (List ℕ)) (path : List ℕ) → different (paths ++ path ∷ []) ≡ different paths + (if has paths path then 0 else 1)
different-more [] path = refl
different-more (first ∷ paths) path =
    let more = different-more paths path in
    elim (cases_Bool (bytes_eq first path)) [
      | inl same ↦
          let back : bytes_eq path first ≡ true = turned path first ∙ same in
          let full : has (paths ++ path ∷ []) first ≡ true = has-more paths path first ∙ (ap (λ (b : Bool). has paths first || b) back ∙ or_true (has paths first)) in
          let alike : has paths first ≡ has paths path = ap (has paths) (same_text first path same) in
          rw (full, same, more, alike) (omega arith)
      | inr other ↦
          let back : bytes_eq path first ≡ false = turned path first ∙ other in
          let less : has (paths ++ path ∷ []) first ≡ has paths first = has-more paths path first ∙ (ap (λ (b : Bool). has paths first || b) back ∙ or_false (has paths first)) in
          rw (less, other, more) (omega arith)
    ]

-- a path that is there already
has_known : (keys before : List (List ℕ)) (path other : List ℕ) → AreKeys keys before → has keys path ≡ true → has keys other ≡ has (before ++ path ∷ []) other
has_known keys before path other are there = elim (cases_Bool (bytes_eq path other)) [
  | inl same ↦ sym (ap (has keys) (same_text path other same)) ∙ (there ∙ sym (has-more before path other ∙ (ap (λ (b : Bool). has before other || b) same ∙ or_true (has before other))))
  | inr no_same ↦ are.same other ∙ sym (has-more before path other ∙ (ap (λ (b : Bool). has before other || b) no_same ∙ or_false (has before other)))
]

pub known_key : (keys before : List (List ℕ)) (path : List ℕ) → AreKeys keys before → has keys path ≡ true → AreKeys keys (before ++ path ∷ [])
known_key keys before path are there = record {
  same = λ other. has_known keys before path other are there;
  count = are.count ∙ sym (different-more before path ∙ (ap (λ (b : Bool). different before + (if b then 0 else 1)) (sym (are.same path) ∙ there) ∙ omega arith));
}

-- a path that is not there yet
pub new_key : (keys before : List (List ℕ)) (path : List ℕ) → AreKeys keys before → has keys path ≡ false → AreKeys (keys ++ path ∷ []) (before ++ path ∷ [])
new_key keys before path are missing = record {
  same = λ other. has-more keys path other ∙ (ap (λ (b : Bool). b || bytes_eq path other) (are.same other) ∙ sym (has-more before path other));
  count = length-append keys (path ∷ []) ∙ (ap (λ (n : ℕ). n + 1) are.count ∙ sym (different-more before path ∙ ap (λ (b : Bool). different before + (if b then 0 else 1)) (sym (are.same path) ∙ missing)));
}

-- ---- a loop over paths

pub drops_next : {X : Type 0} (items : List X) (i : ℕ) (item : X) → i < length items → item ≡ get_or items i item → drop i items ≡ item ∷ drop (i + 1) items
drops_next {X = X} items i item within is =
    let e : suc i ≡ i + 1 = omega arith in
    drop-cons items i item within ∙ (ap (λ (x : X). x ∷ drop (suc i) items) (sym is) ∙ ap (λ (n : ℕ). item ∷ drop n items) e)

pub ok_then : {T E : Type 0} {P Q : Type 0} (r : Result T E) → OnOk r P → (P → Q) → OnOk r Q
ok_then (Ok x) p f = f p
ok_then (Err e) p f = tt
