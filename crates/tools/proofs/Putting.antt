-- Lines that are put behind a text, and lists that grow while another is gone through.
use Rattle.std.proofs.Common.{◌≡◌, ℕ, zero, suc, ◌+◌, ◌<◌, ◌≤◌, ◌==◌, ◌||◌, Bool, true, false, cond, List, [], ◌∷◌, ◌++◌, Option, None, Some, length, take, drop, get_or, map, filter, IfOk, OnOk, Result, Ok, Err, refl, sym, ap, ◌∙◌, subst, arith, append_assoc, append-nil}
use Rattle.std.specs.List.{flat_map, list_any, range_with_len}
use Rattle.std.specs.Map.Iter.{deref}
use denote.Ref.{Bor}
use Rattle.std.proofs.lemmas.List.{length-map, map-append, take_more}
use Rattle.std.proofs.lemmas.List.Concat.{flat_map-append}
use Rattle.model.specs.Graph.{has_number}
use Rattle.tools.specs.Answers.{if_some, line, lines, Puts}
use Rattle.tools.specs.Showing.{unless_same, unrepeated}

-- ---- lines

pub puts_none : (text : List ℕ) → Puts text text []
puts_none text = sym (append-nil text)

pub puts_then : (old mid new : List ℕ) (one two : List (List ℕ)) → Puts old mid one → Puts mid new two → Puts old new (one ++ two)
puts_then old mid new one two first second =
    second ∙ (ap (λ (l : List ℕ). l ++ lines two) first ∙ (append_assoc old (lines one) (lines two) ∙ ap (λ (l : List ℕ). old ++ l) (sym (flat_map-append line one two))))

pub puts_line : (old new text : List ℕ) → new ≡ old ++ line text → Puts old new (text ∷ [])
puts_line old new text is = is ∙ ap (λ (l : List ℕ). old ++ l) (sym (append-nil (line text)))

-- a line of one part, two and three
pub one_part : (old new a text : List ℕ) → new ≡ old ++ line (a ++ []) → a ≡ text → Puts old new (text ∷ [])
one_part old new a text is same = puts_line old new text (is ∙ ap (λ (l : List ℕ). old ++ line l) (append-nil a ∙ same))

pub two_parts : (old new a b one two : List ℕ) → new ≡ old ++ line (a ++ (b ++ [])) → a ≡ one → b ≡ two → Puts old new ((one ++ two) ∷ [])
two_parts old new a b one two is first second =
    puts_line old new (one ++ two) (is ∙ ap (λ (l : List ℕ). old ++ line l) (ap (λ (l : List ℕ). a ++ l) (append-nil b ∙ second) ∙ ap (λ (l : List ℕ). l ++ two) first))

pub three_parts : (old new a b c one two three : List ℕ) → new ≡ old ++ line (a ++ (b ++ (c ++ []))) → a ≡ one → b ≡ two → c ≡ three → Puts old new (((one ++ two) ++ three) ∷ [])
three_parts old new a b c one two three is first second third =
    puts_line old new ((one ++ two) ++ three) (is ∙ ap (λ (l : List ℕ). old ++ line l)
    (ap (λ (l : List ℕ). a ++ (b ++ l)) (append-nil c ∙ third) ∙ (ap (λ (l : List ℕ). a ++ (l ++ three)) second ∙ (ap (λ (l : List ℕ). l ++ (two ++ three)) first ∙ sym (append_assoc one two three)))))

-- ---- lists that are gone through

take_at : {X : Type 0} (xs : List X) (i : ℕ) (x : X) → i < length xs → x ≡ get_or xs i x → take (i + 1) xs ≡ take i xs ++ x ∷ []
take_at xs i x low is = take_more xs i x low ∙ ap (λ y. take i xs ++ y ∷ []) (sym is)

module _ {X Y : Type 0} where
  pub map_next : (f : X → Y) (xs : List X) (i : ℕ) (x : X) → i < length xs → x ≡ get_or xs i x → map f (take (i + 1) xs) ≡ map f (take i xs) ++ f x ∷ []
  map_next f xs i x low is = ap (map f) (take_at xs i x low is) ∙ map-append f (take i xs) (x ∷ [])

  pub flat_next : (f : X → List Y) (xs : List X) (i : ℕ) (x : X) → i < length xs → x ≡ get_or xs i x → flat_map f (take (i + 1) xs) ≡ flat_map f (take i xs) ++ f x
  flat_next f xs i x low is =
      ap (flat_map f) (take_at xs i x low is) ∙ (flat_map-append f (take i xs) (x ∷ []) ∙ ap (λ (l : List Y). flat_map f (take i xs) ++ l) (append-nil (f x)))

  -- the same of what stands there, whatever that is called
  pub flat_at : (f : X → List Y) (xs : List X) (i : ℕ) (x : X) → i < length xs → flat_map f (take (i + 1) xs) ≡ flat_map f (take i xs) ++ f (get_or xs i x)
  flat_at f xs i x low =
      ap (flat_map f) (take_more xs i x low) ∙ (flat_map-append f (take i xs) (get_or xs i x ∷ []) ∙ ap (λ (l : List Y). flat_map f (take i xs) ++ l) (append-nil (f (get_or xs i x))))

pub filter-append : {X : Type 0} (test : X → Bool) (xs ys : List X) → filter test (xs ++ ys) ≡ filter test xs ++ filter test ys
filter-append test [] ys = refl
filter-append {X} test (x ∷ xs) ys = by (test x) (filter-append test xs ys)
  where
    by : (b : Bool) → filter test (xs ++ ys) ≡ filter test xs ++ filter test ys → cond b (x ∷ filter test (xs ++ ys)) (filter test (xs ++ ys)) ≡ cond b (x ∷ filter test xs) (filter test xs) ++ filter test ys
    by true rest = ap (λ (l : List X). x ∷ l) rest
    by false rest = rest

pub filter_next : (test : ℕ → Bool) (xs : List ℕ) (i x : ℕ) → i < length xs → x ≡ get_or xs i x → filter test (take (i + 1) xs) ≡ filter test (take i xs) ++ filter test (x ∷ [])
filter_next test xs i x low is = ap (filter test) (take_at xs i x low is) ∙ filter-append test (take i xs) (x ∷ [])

-- ---- numbers that are counted up

range_last : (from count : ℕ) → range_with_len from (suc count) ≡ range_with_len from count ++ (from + count) ∷ []
range_last from zero = let same : from ≡ from + 0 = omega arith in ap (λ (n : ℕ). n ∷ []) same
range_last from (suc count) =
    let same : from + 1 + count ≡ from + suc count = omega arith in
    ap (λ (l : List ℕ). from ∷ l) (range_last (from + 1) count ∙ ap (λ (n : ℕ). range_with_len (from + 1) count ++ n ∷ []) same)

pub range_next : (count : ℕ) → range_with_len 0 (count + 1) ≡ range_with_len 0 count ++ count ∷ []
range_next count =
    let more : count + 1 ≡ suc count = omega arith in
    let last : 0 + count ≡ count = omega arith in
    ap (range_with_len 0) more ∙ (range_last 0 count ∙ ap (λ (n : ℕ). range_with_len 0 count ++ n ∷ []) last)

pub flat_counted : {Y : Type 0} (f : ℕ → List Y) (count : ℕ) → flat_map f (range_with_len 0 (count + 1)) ≡ flat_map f (range_with_len 0 count) ++ f count
flat_counted {Y} f count =
    ap (flat_map f) (range_next count) ∙ (flat_map-append f (range_with_len 0 count) (count ∷ []) ∙ ap (λ (l : List Y). flat_map f (range_with_len 0 count) ++ l) (append-nil (f count)))

pub filter_counted : (test : ℕ → Bool) (count : ℕ) → filter test (range_with_len 0 (count + 1)) ≡ filter test (range_with_len 0 count) ++ filter test (count ∷ [])
filter_counted test count = ap (filter test) (range_next count) ∙ filter-append test (range_with_len 0 count) (count ∷ [])

pub filter_one_yes : {X : Type 0} (test : X → Bool) (x : X) → test x ≡ true → filter test (x ∷ []) ≡ x ∷ []
filter_one_yes test x passes = ap (λ (b : Bool). cond b (x ∷ []) []) passes

pub filter_one_no : {X : Type 0} (test : X → Bool) (x : X) → test x ≡ false → filter test (x ∷ []) ≡ []
filter_one_no test x fails = ap (λ (b : Bool). cond b (x ∷ []) []) fails

-- ---- answers that are passed on

pub on_ok : {T E : Type 0} (r : Result T E) {P Q : Type 0} → (P → Q) → OnOk r P → OnOk r Q
on_ok (Ok value) on is = on is
on_ok (Err error) on is = tt

pub if_ok_then : {T E : Type 0} {P Q : T → Type 0} (r : Result T E) → IfOk r P → ((x : T) → P x → Q x) → IfOk r Q
if_ok_then (Ok x) is on = on x is
if_ok_then (Err error) is on = tt

-- lines that stand only where there is one of those

pub if_some_none : (paths : List ℕ) (told : List (List ℕ)) → length paths ≡ 0 → if_some paths told ≡ []
if_some_none [] told none = refl
if_some_none (p ∷ paths) told none = absurd (omega (arith, none))

pub if_some_all : (paths : List ℕ) (told : List (List ℕ)) → (length paths ≡ 0 → ⊥) → if_some paths told ≡ told
if_some_all [] told some = absurd (some refl)
if_some_all (p ∷ paths) told some = refl

pub take_item : (paths : List ℕ) (i p : ℕ) → i < length paths → p ≡ get_or paths i p → take (i + 1) paths ≡ take i paths ++ p ∷ []
take_item paths i p low is = take_at paths i p low is

-- `contains` and `has_number`
pub any_has : (numbers : List ℕ) (p : ℕ) → list_any (λ n. n == p) numbers ≡ has_number numbers p
any_has [] p = refl
any_has (n ∷ numbers) p = ap (λ (b : Bool). (n == p) || b) (any_has numbers p)

-- ---- texts that are borrowed

drop_mapped : (texts : List (Bor (List ℕ))) (i : ℕ) (d : Bor (List ℕ)) → i < length texts → drop i (map deref texts) ≡ (get_or texts i d).now ∷ drop (i + 1) (map deref texts)
drop_mapped [] i d low = absurd (omega (arith, low))
drop_mapped (t ∷ texts) zero d low = let one : zero + 1 ≡ suc zero = omega arith in ap (λ (n : ℕ). t.now ∷ drop n (map deref (t ∷ texts))) (sym one)
drop_mapped (t ∷ texts) (suc i) d low =
    let more : suc i + 1 ≡ suc (i + 1) = omega arith in
    drop_mapped texts i d (omega (arith, low)) ∙ ap (λ (n : ℕ). (get_or texts i d).now ∷ drop n (map deref (t ∷ texts))) (sym more)

drop_past : (texts : List (List ℕ)) (i : ℕ) → length texts ≤ i → drop i texts ≡ []
drop_past [] zero past = refl
drop_past [] (suc i) past = refl
drop_past (t ∷ texts) zero past = absurd (omega (arith, past))
drop_past (t ∷ texts) (suc i) past = drop_past texts i (omega (arith, past))

-- one text more, of those that are told each once
pub told_next : (texts : List (Bor (List ℕ))) (i : ℕ) (d : Bor (List ℕ)) (last : Option (List ℕ)) (old new whole : List ℕ) → i < length texts → Puts old new (unless_same last (get_or texts i d).now)
    → old ++ lines (unrepeated last (drop i (map deref texts))) ≡ whole → new ++ lines (unrepeated (Some (get_or texts i d).now) (drop (i + 1) (map deref texts))) ≡ whole
told_next texts i d last old new whole low put was =
    let one = unless_same last (get_or texts i d).now in
    let rest = unrepeated (Some (get_or texts i d).now) (drop (i + 1) (map deref texts)) in
    ap (λ (l : List ℕ). l ++ lines rest) put ∙ (append_assoc old (lines one) (lines rest)
    ∙ (ap (λ (l : List ℕ). old ++ l) (sym (flat_map-append line one rest) ∙ ap (λ (l : List (List ℕ)). lines (unrepeated last l)) (sym (drop_mapped texts i d low))) ∙ was))

pub told_all : (texts : List (Bor (List ℕ))) (i : ℕ) (last : Option (List ℕ)) (told whole : List ℕ) → length texts ≤ i → told ++ lines (unrepeated last (drop i (map deref texts))) ≡ whole → told ≡ whole
told_all texts i last told whole past was =
    let count : length (map deref texts) ≡ length texts = length-map texts deref in
    let none = drop_past (map deref texts) i (omega (arith, past, count)) in
    sym (append-nil told) ∙ (ap (λ (l : List (List ℕ)). told ++ lines (unrepeated last l)) (sym none) ∙ was)
