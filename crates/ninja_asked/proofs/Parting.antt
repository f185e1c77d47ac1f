-- Paths told apart by what somebody else wrote.
use Rattle.std.proofs.Common.{◌≡◌, ◌⊎◌, inl, inr, ℕ, zero, suc, ◌+◌, ◌<◌, ◌||◌, not, Bool, true, false, if◌then◌else◌, List, [], ◌∷◌, ◌++◌, Option, Some, None, is_some, length, slice_get, bytes_eq, refl, sym, ap, ◌∙◌, subst, arith, append_assoc}
use Rattle.std.proofs.lemmas.Bool.{cases_Bool, cases_lt, false≢true, false_from_ne_true, or_cases, or_left, or_right}
use Rattle.std.proofs.lemmas.Option.{none-some, same_Some}
use Rattle.std.proofs.lemmas.Slice.Eq.{bytes_eq-Decides}
use Rattle.model.specs.declared.event.Moment.{Moment}
use Rattle.model.specs.Calls.{OnlyLooks, Sees}
use Rattle.model.specs.Graph.{has}
use Rattle.model.specs.World.{World, file_at}
use Rattle.theory.proofs.Looks.{looks_nothing}
use Rattle.paths.specs.Numbers.{HaveOnePlace, IsAdded}
use Rattle.seen_log.specs.Keeping.{Keeps}
use Rattle.seen_log.specs.Log.{counts_of, noted_in_force}
use Rattle.seen_log.specs.declared.log.Log.{Log}
use Rattle.seen_log.specs.declared.note.Note.{Note}
use Rattle.seen_log.specs.declared.note.Noted.{Noted}
use Rattle.seen_true.specs.Counting.{is_as_noted, is_turned}
use Rattle.seen.specs.Judged.{judged, judged_sized, plainly}
use Rattle.measure.specs.Measured.{measured_at}
use Rattle.measure.specs.declared.measure.Measure.{Measure}
use Rattle.tools.specs.Clean.{AddsJust}
use Rattle.ninja_asked.specs.Written.{AreParted, PartsOne, PartsSome, WasFound, is_others_file}
use Rattle.ninja_asked.specs.declared.written.Parted.{Parted}

-- ---- what a build counts as absent in which a command makes the path

counts_are : (noted : Noted) (stamp placed : ℕ) (size : Option ℕ) → is_some ((judged_sized (record { noted = Some noted; is_output = true; since = None }) 0 stamp placed size).counts) ≡ not (is_others_file noted stamp size)
counts_are noted stamp placed None = refl
counts_are noted stamp placed (Some size) = by (is_as_noted noted stamp size) (is_turned noted.kind)
  where
    by : (same turned : Bool) → is_some ((if same then (if turned then plainly None else plainly (Some (counts_of noted))) else plainly None).counts) ≡ not (not same || turned)
    by true true = refl
    by true false = refl
    by false true = refl
    by false false = refl

not_same : (a b : Bool) → not a ≡ not b → a ≡ b
not_same true true is = refl
not_same true false is = absurd (false≢true is)
not_same false true is = absurd (false≢true (sym is))
not_same false false is = refl

not_true : (b : Bool) → not b ≡ true → b ≡ false
not_true true is = absurd (false≢true is)
not_true false is = refl

pub absent_is : (noted : Noted) (found : Measure) (flag : Bool) → is_some ((judged (record { noted = Some noted; is_output = true; since = None }) 0 (Some found)).counts) ≡ not flag → flag ≡ is_others_file noted found.stamp found.size
absent_is noted found flag is = not_same flag (is_others_file noted found.stamp found.size) (sym is ∙ counts_are noted found.stamp found.placed found.size)

-- ---- texts and their places

same_text : (a b : List ℕ) → bytes_eq a b ≡ true → a ≡ b
same_text a b h = (bytes_eq-Decides a b).0 h

text_same : (a : List ℕ) → bytes_eq a a ≡ true
text_same a = (bytes_eq-Decides a a).1 refl

has_at : (paths : List (List ℕ)) (k : ℕ) (text : List ℕ) → slice_get paths k ≡ Some text → has paths text ≡ true
has_at [] k text at = absurd (cc)
has_at (p ∷ paths) zero text at = or_left (bytes_eq p text) (has paths text) ((bytes_eq-Decides p text).1 (same_Some p text at))
has_at (p ∷ paths) (suc k) text at = or_right (bytes_eq p text) (has paths text) (has_at paths k text at)

place_of : (paths : List (List ℕ)) (text : List ℕ) → has paths text ≡ true → (k : ℕ) × (k < length paths) × (slice_get paths k ≡ Some text)
place_of [] text h = absurd (false≢true h)
place_of (p ∷ paths) text h = elim (or_cases (bytes_eq p text) (has paths text) h) [
  | inl here ↦ (zero, omega arith, ap (λ (t : List ℕ). Some t) (same_text p text here))
  | inr later ↦ let rest = place_of paths text later in (suc rest.0, omega (arith, rest.1), rest.2)
]

has_push : (xs : List (List ℕ)) (x t : List ℕ) → has (xs ++ x ∷ []) t ≡ (has xs t || bytes_eq x t)
has_push [] x t = or_nothing (bytes_eq x t)
  where
    or_nothing : (b : Bool) → (b || false) ≡ (false || b)
    or_nothing true = refl
    or_nothing false = refl
has_push (y ∷ xs) x t = ap (λ (b : Bool). bytes_eq y t || b) (has_push xs x t) ∙ or_assoc (bytes_eq y t) (has xs t) (bytes_eq x t)
  where
    or_assoc : (a b c : Bool) → (a || (b || c)) ≡ ((a || b) || c)
    or_assoc true b c = refl
    or_assoc false b c = refl

-- ---- what is added

pub adds_not : (old : List (List ℕ)) (path : List ℕ) (flag wanted : Bool) → (flag ≡ wanted → ⊥) → AddsJust old old (λ text. (text ≡ path) × (flag ≡ wanted))
adds_not old path flag wanted not t = (
  λ h. inl h,
  λ h. elim h [
    | inl was ↦ was
    | inr both ↦ absurd (not both.1)
  ],
)

pub adds_here : (old new : List (List ℕ)) (path : List ℕ) (n : ℕ) (flag wanted : Bool) → flag ≡ wanted → IsAdded old new path n → AddsJust old new (λ text. (text ≡ path) × (flag ≡ wanted))
adds_here old new path n flag wanted is added t = elim (cases_Bool (has old path)) [
  | inl known ↦
      let same : new ≡ old = added.grows ∙ ap (λ (b : Bool). if b then old else old ++ path ∷ []) known in (
        λ h. inl (subst (λ (l : List (List ℕ)). has l t ≡ true) same h),
        λ h. subst (λ (l : List (List ℕ)). has l t ≡ true) (sym same) (elim h [
          | inl was ↦ was
          | inr both ↦ subst (λ (q : List ℕ). has old q ≡ true) (sym both.0) known
        ]),
      )
  | inr unknown ↦
      let same : new ≡ old ++ path ∷ [] = added.grows ∙ ap (λ (b : Bool). if b then old else old ++ path ∷ []) unknown in (
        λ h. elim (or_cases (has old t) (bytes_eq path t) (sym (has_push old path t) ∙ subst (λ (l : List (List ℕ)). has l t ≡ true) same h)) [
          | inl was ↦ inl was
          | inr here ↦ inr (sym (same_text path t here), is)
        ],
        λ h.
            let either : (has old t || bytes_eq path t) ≡ true = elim h [
              | inl was ↦ or_left (has old t) (bytes_eq path t) was
              | inr both ↦ or_right (has old t) (bytes_eq path t) (subst (λ (q : List ℕ). bytes_eq path q ≡ true) (sym both.0) (text_same path))
            ] in
            subst (λ (l : List (List ℕ)). has l t ≡ true) (sym same) (has_push old path t ∙ either),
      )
]

-- a text that was not added stands there as it did
same_has : (old new : List (List ℕ)) (P : List ℕ → Type 0) (text : List ℕ) → AddsJust old new P → (P text → ⊥) → has new text ≡ has old text
same_has old new P text adds not = elim (cases_Bool (has old text)) [
  | inl was ↦ (adds text).1 (inl was) ∙ sym was
  | inr none ↦ false_from_ne_true (has new text) (λ h. elim ((adds text).0 h) [
    | inl was ↦ false≢true (sym none ∙ was)
    | inr p ↦ not p
  ]) ∙ sym none
]

-- ---- what was found stays so

sees_more : (so : List Moment → Option Measure) (seen : Option Measure) (old mid new more : List Moment) → Sees so seen old mid → new ≡ mid ++ more → Sees so seen old new
sees_more so seen old mid new more s behind = record {
  earlier = s.earlier;
  later = s.later ++ more;
  grows = behind ∙ (ap (λ (l : List Moment). l ++ more) s.grows ∙ (append_assoc old (s.earlier ++ s.later) more ∙ ap (λ (l : List Moment). old ++ l) (append_assoc s.earlier s.later more)));
  is = s.is;
}

sees_since : (so : List Moment → Option Measure) (seen : Option Measure) (old mid new more : List Moment) → mid ≡ old ++ more → Sees so seen mid new → Sees so seen old new
sees_since so seen old mid new more before s = record {
  earlier = more ++ s.earlier;
  later = s.later;
  grows = s.grows ∙ (ap (λ (l : List Moment). l ++ (s.earlier ++ s.later)) before ∙ (append_assoc old more (s.earlier ++ s.later) ∙ ap (λ (l : List Moment). old ++ l) (sym (append_assoc more s.earlier s.later))));
  is = s.is ∙ ap so (ap (λ (l : List Moment). l ++ s.earlier) before ∙ append_assoc old more s.earlier);
}

module _ (tells : Bool) (old mid new : World) (noted : Option Noted) (path : List ℕ) (written : Bool) where
  found_on : WasFound tells old mid noted path written → OnlyLooks tells mid new → WasFound tells old new noted path written
  found_on was looks = (
    was.0,
    was.1,
    λ tell. sees_more (λ history. measured_at (file_at history path)) was.0 old.history mid.history new.history (looks.history tell).more (was.2 tell) (looks.history tell).grows,
  )

  found_since : OnlyLooks tells old mid → WasFound tells mid new noted path written → WasFound tells old new noted path written
  found_since looks was = (
    was.0,
    was.1,
    λ tell. sees_since (λ history. measured_at (file_at history path)) was.0 old.history mid.history new.history (looks.history tell).more (looks.history tell).grows (was.2 tell),
  )

-- ---- place by place

-- the paths below a place were told apart
pub record ArePartedBelow (tells : Bool) (old new : World) (notes : List Note) (paths : List (List ℕ)) (i : ℕ) (parted : Parted) : Type 0 where
  pub found : (k : ℕ) (text : List ℕ) → k < i → slice_get paths k ≡ Some text → WasFound tells old new (noted_in_force notes text) text (has parted.others text)
  pub left : (k : ℕ) (text : List ℕ) → k < i → slice_get paths k ≡ Some text → has parted.left text ≡ not (has parted.others text)
  pub others_in : (text : List ℕ) → has parted.others text ≡ true → (k : ℕ) × (k < i) × (slice_get paths k ≡ Some text)
  pub left_in : (text : List ℕ) → has parted.left text ≡ true → (k : ℕ) × (k < i) × (slice_get paths k ≡ Some text)

-- so they were by what is kept, and there was only looked
pub record IsParting (tells : Bool) (old new : World) (notes : Log) (paths : List (List ℕ)) (i : ℕ) (parted : Parted) : Type 0 where
  pub looks : OnlyLooks tells old new
  pub below : (all : List Note) → Keeps all notes → ArePartedBelow tells old new all paths i parted

pub parting_none : (tells : Bool) (world : World) (notes : Log) (paths left others : List (List ℕ)) → left ≡ [] → others ≡ [] → IsParting tells world world notes paths 0 (record { left = left; others = others })
parting_none tells world notes paths left others no_left no_others = record {
  looks = looks_nothing tells world;
  below = λ all keeps. record {
    found = λ k text low at. absurd (omega (arith, low));
    left = λ k text low at. absurd (omega (arith, low));
    others_in = λ text h. absurd (false≢true (subst (λ (l : List (List ℕ)). has l text ≡ true) no_others h));
    left_in = λ text h. absurd (false≢true (subst (λ (l : List (List ℕ)). has l text ≡ true) no_left h));
  };
}

below_or : (k i : ℕ) → k < i + 1 → (k < i) ⊎ (k ≡ i)
below_or k i low = elim (cases_lt k i) [
  | inl less ↦ inl less
  | inr high ↦ inr (omega (arith, low, high))
]

module _ (tells : Bool) (old mid new : World) (notes : List Note) (paths : List (List ℕ)) (i : ℕ) (before : Parted) (first : OnlyLooks tells old mid) (second : OnlyLooks tells mid new) (was : ArePartedBelow tells old mid notes paths i before) where
  further : (k : ℕ) (text : List ℕ) → k < i → slice_get paths k ≡ Some text → WasFound tells old new (noted_in_force notes text) text (has before.others text)
  further k text low at = found_on tells old mid new (noted_in_force notes text) text (has before.others text) (was.found k text low at) second

  -- nothing stands at the place
  past : slice_get paths i ≡ None → ArePartedBelow tells old new notes paths (i + 1) before
  past none = record {
    found = λ k text low at. elim (below_or k i low) [
      | inl less ↦ further k text less at
      | inr same ↦ absurd (none-some text (sym none ∙ subst (λ (n : ℕ). slice_get paths n ≡ Some text) same at))
    ];
    left = λ k text low at. elim (below_or k i low) [
      | inl less ↦ was.left k text less at
      | inr same ↦ absurd (none-some text (sym none ∙ subst (λ (n : ℕ). slice_get paths n ≡ Some text) same at))
    ];
    others_in = λ text h. let place = was.others_in text h in (place.0, omega (arith, place.1), place.2);
    left_in = λ text h. let place = was.left_in text h in (place.0, omega (arith, place.1), place.2);
  }

  module _ (after : Parted) (once : HaveOnePlace paths) (p : List ℕ) (here : slice_get paths i ≡ Some p) (one : PartsOne tells mid new (noted_in_force notes p) p before after) where
    not_here : (k : ℕ) (text : List ℕ) → k < i → slice_get paths k ≡ Some text → text ≡ p → ⊥
    not_here k text low at is =
        let same : k ≡ i = once k i p (subst (λ (t : List ℕ). slice_get paths k ≡ Some t) is at) here in
        absurd (omega (arith, low, same))

    others_old : (k : ℕ) (text : List ℕ) → k < i → slice_get paths k ≡ Some text → has after.others text ≡ has before.others text
    others_old k text low at = same_has before.others after.others (λ t. (t ≡ p) × (one.written ≡ true)) text one.others (λ both. not_here k text low at both.0)

    left_old : (k : ℕ) (text : List ℕ) → k < i → slice_get paths k ≡ Some text → has after.left text ≡ has before.left text
    left_old k text low at = same_has before.left after.left (λ t. (t ≡ p) × (one.written ≡ false)) text one.left (λ both. not_here k text low at both.0)

    no_others : has before.others p ≡ false
    no_others = false_from_ne_true (has before.others p) (λ h.
        let place = was.others_in p h in
        not_here place.0 p place.1 place.2 refl)

    no_left : has before.left p ≡ false
    no_left = false_from_ne_true (has before.left p) (λ h.
        let place = was.left_in p h in
        not_here place.0 p place.1 place.2 refl)

    others_now : has after.others p ≡ one.written
    others_now = elim (cases_Bool one.written) [
      | inl so ↦ (one.others p).1 (inr (refl, so)) ∙ sym so
      | inr none ↦ same_has before.others after.others (λ t. (t ≡ p) × (one.written ≡ true)) p one.others (λ both. false≢true (sym none ∙ both.1)) ∙ (no_others ∙ sym none)
    ]

    left_now : has after.left p ≡ not one.written
    left_now = elim (cases_Bool one.written) [
      | inl so ↦ same_has before.left after.left (λ t. (t ≡ p) × (one.written ≡ false)) p one.left (λ both. false≢true (sym both.1 ∙ so)) ∙ (no_left ∙ ap not (sym so))
      | inr none ↦ (one.left p).1 (inr (refl, none)) ∙ ap not (sym none)
    ]

    found_now : WasFound tells old new (noted_in_force notes p) p (has after.others p)
    found_now =
        subst (λ (b : Bool). WasFound tells old new (noted_in_force notes p) p b) (sym others_now)
        (found_since tells old mid new (noted_in_force notes p) p one.written first one.found)

    at_is : (k : ℕ) (text : List ℕ) → k ≡ i → slice_get paths k ≡ Some text → p ≡ text
    at_is k text same at = same_Some p text (sym here ∙ subst (λ (n : ℕ). slice_get paths n ≡ Some text) same at)

    -- this path stands there
    more : ArePartedBelow tells old new notes paths (i + 1) after
    more = record {
      found = λ k text low at. elim (below_or k i low) [
        | inl less ↦ subst (λ (b : Bool). WasFound tells old new (noted_in_force notes text) text b) (sym (others_old k text less at)) (further k text less at)
        | inr same ↦ subst (λ (t : List ℕ). WasFound tells old new (noted_in_force notes t) t (has after.others t)) (at_is k text same at) found_now
      ];
      left = λ k text low at. elim (below_or k i low) [
        | inl less ↦ left_old k text less at ∙ (was.left k text less at ∙ ap not (sym (others_old k text less at)))
        | inr same ↦ subst (λ (t : List ℕ). has after.left t ≡ not (has after.others t)) (at_is k text same at) (left_now ∙ ap not (sym others_now))
      ];
      others_in = λ text h. elim ((one.others text).0 h) [
        | inl there ↦ let place = was.others_in text there in (place.0, omega (arith, place.1), place.2)
        | inr both ↦ (i, omega arith, subst (λ (t : List ℕ). slice_get paths i ≡ Some t) (sym both.0) here)
      ];
      left_in = λ text h. elim ((one.left text).0 h) [
        | inl there ↦ let place = was.left_in text there in (place.0, omega (arith, place.1), place.2)
        | inr both ↦ (i, omega arith, subst (λ (t : List ℕ). slice_get paths i ≡ Some t) (sym both.0) here)
      ];
    }

  pub some_more : (after : Parted) → HaveOnePlace paths → (log : Log) → Keeps notes log → (o : Option (List ℕ)) → o ≡ slice_get paths i → PartsSome tells mid new log o before after → ArePartedBelow tells old new notes paths (i + 1) after
  some_more after once log keeps None at same = subst (λ (parted : Parted). ArePartedBelow tells old new notes paths (i + 1) parted) (sym same) (past (sym at))
  some_more after once log keeps (Some p) at one = more after once p (sym at) (one notes keeps)

pub parted_all : (tells : Bool) (old new : World) (notes : List Note) (paths : List (List ℕ)) (i : ℕ) (parted : Parted) → i ≡ length paths → ArePartedBelow tells old new notes paths i parted → AreParted tells old new notes paths parted
parted_all tells old new notes paths i parted last below = record {
  found = λ text h. let at = place_of paths text h in below.found at.0 text (omega (arith, at.1, last)) at.2;
  among = λ text h. let at = below.others_in text h in has_at paths at.0 text at.2;
  left = λ text. (
    λ h.
        let at = below.left_in text h in
        (has_at paths at.0 text at.2, not_true (has parted.others text) (sym (below.left at.0 text at.1 at.2) ∙ h)),
    λ both.
        let at = place_of paths text both.0 in
        below.left at.0 text (omega (arith, at.1, last)) at.2 ∙ ap not both.1,
  );
}
