-- What stands after one more step of a walk up to what is needed.
use Rattle.std.proofs.Common.{◌≡◌, ◌≢◌, ◌⊎◌, ◌↔◌, inl, inr, ℕ, zero, suc, ◌+◌, ◌-◌, ◌<◌, ◌≤◌, ◌==◌, ◌||◌, Bool, true, false, if◌then◌else◌, List, [], ◌∷◌, ◌++◌, Option, Some, None, length, take, slice_index, refl, sym, ◌∙◌, ap, subst, arith}
use Rattle.std.proofs.Math.ListN.{set}
use Rattle.std.proofs.lemmas.List.{get_or-set_same, get_or-set_other, length-set, length_push, length-take-le, get_or-take, get_or_past}
use Rattle.std.proofs.lemmas.Bool.{cases_Bool, cases_lt, eqb-true, eq-eqb, false≢true, or_cases, or_left, or_right}
use Rattle.model.specs.Graph.{has_number}
use Rattle.graph.specs.Links.{Links}
use Rattle.graph.specs.declared.cone.Mark.{Mark}
use Rattle.graph.specs.declared.cone.Mark.TheVariants.{Unseen, Open, Listed}
use Rattle.graph.specs.Cone.{mark_at, is_listed, is_unseen, maker_seen, IsLast, Keeps}
use Rattle.graph.specs.Held.{StandOnce, times}
use Rattle.tools.specs.Above.{AreBehindMakers, IsNeededFor, Makes, Further, MakesInputOf}
use Rattle.tools.specs.Rising.{IsNext, IsRiseAt}

-- ---- lists of numbers

pub has_push : (xs : List ℕ) (i j : ℕ) → has_number (xs ++ i ∷ []) j ≡ (has_number xs j || (i == j))
has_push [] i j = or_nothing (i == j)
  where
    or_nothing : (b : Bool) → (b || false) ≡ (false || b)
    or_nothing true = refl
    or_nothing false = refl
has_push (x ∷ xs) i j = ap (λ (b : Bool). (x == j) || b) (has_push xs i j) ∙ or_assoc (x == j) (has_number xs j) (i == j)
  where
    or_assoc : (a b c : Bool) → (a || (b || c)) ≡ ((a || b) || c)
    or_assoc true b c = refl
    or_assoc false b c = refl

pub has_at : (xs : List ℕ) (n : ℕ) → n < length xs → has_number xs (slice_index xs n) ≡ true
has_at [] n low = absurd (omega (arith, low))
has_at (x ∷ xs) zero low = or_left (x == x) (has_number xs x) (eq-eqb x x refl)
has_at (x ∷ xs) (suc n) low = or_right (x == slice_index xs n) (has_number xs (slice_index xs n)) (has_at xs n (omega (arith, low)))

pub place_of : (xs : List ℕ) (n : ℕ) → has_number xs n ≡ true → (k : ℕ) × (k < length xs) × (slice_index xs k ≡ n)
place_of [] n h = absurd (false≢true h)
place_of (x ∷ xs) n h = elim (or_cases (x == n) (has_number xs n) h) [
  | inl here ↦ (0, omega arith, eqb-true x n here)
  | inr later ↦ let rest = place_of xs n later in (suc rest.0, omega (arith, rest.1), rest.2)
]

push_old : (xs : List ℕ) (x k : ℕ) → k < length xs → slice_index (xs ++ x ∷ []) k ≡ slice_index xs k
push_old [] x k lt = absurd (omega (arith, lt))
push_old (y ∷ xs) x zero lt = refl
push_old (y ∷ xs) x (suc k) lt = push_old xs x k (omega (arith, lt))

push_new : (xs : List ℕ) (x k : ℕ) → k ≡ length xs → slice_index (xs ++ x ∷ []) k ≡ x
push_new [] x zero is = refl
push_new [] x (suc k) is = absurd (omega (arith, is))
push_new (y ∷ xs) x zero is = absurd (omega (arith, is))
push_new (y ∷ xs) x (suc k) is = push_new xs x k (omega (arith, is))

times_none : (xs : List ℕ) (n : ℕ) → has_number xs n ≡ false → times xs n ≡ 0
times_none [] n none = refl
times_none (x ∷ xs) n none = by (x == n) refl none (times_none xs n)
  where
    by : (b : Bool) → (x == n) ≡ b → (b || has_number xs n) ≡ false → (has_number xs n ≡ false → times xs n ≡ 0) → times (x ∷ xs) n ≡ 0
    by true is h rest = absurd (false≢true (sym h))
    by false is h rest = ap (λ (b : Bool). if b then suc (times xs n) else times xs n) is ∙ rest h

times_push : (xs : List ℕ) (i n : ℕ) → times (xs ++ i ∷ []) n ≡ times xs n + times (i ∷ []) n
times_push [] i n = zero_plus (times (i ∷ []) n)
  where
    zero_plus : (k : ℕ) → k ≡ 0 + k
    zero_plus k = omega arith
times_push (x ∷ xs) i n = by (x == n) refl (times_push xs i n)
  where
    by : (b : Bool) → (x == n) ≡ b → times (xs ++ i ∷ []) n ≡ times xs n + times (i ∷ []) n → times ((x ∷ xs) ++ i ∷ []) n ≡ times (x ∷ xs) n + times (i ∷ []) n
    by true is more =
        let one : times ((x ∷ xs) ++ i ∷ []) n ≡ suc (times (xs ++ i ∷ []) n) = ap (λ (b : Bool). if b then suc (times (xs ++ i ∷ []) n) else times (xs ++ i ∷ []) n) is in
        let two : times (x ∷ xs) n ≡ suc (times xs n) = ap (λ (b : Bool). if b then suc (times xs n) else times xs n) is in
        omega (arith, more, one, two)
    by false is more =
        let one : times ((x ∷ xs) ++ i ∷ []) n ≡ times (xs ++ i ∷ []) n = ap (λ (b : Bool). if b then suc (times (xs ++ i ∷ []) n) else times (xs ++ i ∷ []) n) is in
        let two : times (x ∷ xs) n ≡ times xs n = ap (λ (b : Bool). if b then suc (times xs n) else times xs n) is in
        omega (arith, more, one, two)

pub once_push : (xs : List ℕ) (i : ℕ) → StandOnce xs → has_number xs i ≡ false → StandOnce (xs ++ i ∷ [])
once_push xs i once none n = by (i == n) refl
  where
    by : (b : Bool) → (i == n) ≡ b → times (xs ++ i ∷ []) n ≤ 1
    by true is =
        let more = times_push xs i n in
        let one : times (i ∷ []) n ≡ 1 = ap (λ (b : Bool). if b then suc (times [] n) else times [] n) is in
        let old : times xs n ≡ 0 = times_none xs n (subst (λ (m : ℕ). has_number xs m ≡ false) (eqb-true i n is) none) in
        omega (arith, more, one, old)
    by false is =
        let more = times_push xs i n in
        let one : times (i ∷ []) n ≡ 0 = ap (λ (b : Bool). if b then suc (times [] n) else times [] n) is in
        let old : times xs n ≤ 1 = once n in
        omega (arith, more, one, old)

pub once_none : StandOnce []
once_none n = omega arith

-- where a list with one more is split, the split is in the old list, or at its end
data SplitsAt (xs before after : List ℕ) (x e : ℕ) : Type 0 where
  Inside : (rest : List ℕ) → xs ≡ before ++ e ∷ rest → SplitsAt xs before after x e
  AtEnd : before ≡ xs → e ≡ x → SplitsAt xs before after x e

splits : (xs before after : List ℕ) (x e : ℕ) → xs ++ x ∷ [] ≡ before ++ e ∷ after → SplitsAt xs before after x e
splits [] [] after x e is = AtEnd refl (sym (first x e [] after is))
  where
    first : (a b : ℕ) (l m : List ℕ) → a ∷ l ≡ b ∷ m → a ≡ b
    first a b l m same = cc
splits [] (b ∷ before) after x e is = absurd (longer before after e x b is)
  where
    nothing : (before after : List ℕ) (e : ℕ) → [] ≡ before ++ e ∷ after → ⊥
    nothing [] after e same = cc
    nothing (c ∷ before) after e same = cc

    longer : (before after : List ℕ) (e x b : ℕ) → x ∷ [] ≡ b ∷ (before ++ e ∷ after) → ⊥
    longer before after e x b same = let rest : [] ≡ before ++ e ∷ after = cc in nothing before after e rest
splits (y ∷ xs) [] after x e is = Inside xs (front y e (xs ++ x ∷ []) after is)
  where
    front : (a b : ℕ) (l m : List ℕ) → a ∷ l ≡ b ∷ m → a ∷ xs ≡ b ∷ xs
    front a b l m same = let heads : a ≡ b = cc in ap (λ (n : ℕ). n ∷ xs) heads
splits (y ∷ xs) (b ∷ before) after x e is = further (splits xs before after x e (tails y b (xs ++ x ∷ []) (before ++ e ∷ after) is))
  where
    tails : (a c : ℕ) (l m : List ℕ) → a ∷ l ≡ c ∷ m → l ≡ m
    tails a c l m same = cc

    heads : (a c : ℕ) (l m : List ℕ) → a ∷ l ≡ c ∷ m → a ≡ c
    heads a c l m same = cc

    further : SplitsAt xs before after x e → SplitsAt (y ∷ xs) (b ∷ before) after x e
    further (Inside rest same) = Inside rest (ap (λ (l : List ℕ). y ∷ l) same ∙ ap (λ (n : ℕ). n ∷ (before ++ e ∷ rest)) (heads y b (xs ++ x ∷ []) (before ++ e ∷ after) is))
    further (AtEnd same one) = AtEnd (ap (λ (n : ℕ). n ∷ before) (sym (heads y b (xs ++ x ∷ []) (before ++ e ∷ after) is)) ∙ ap (λ (l : List ℕ). y ∷ l) same) one

pub behind_none : (links : Links) → AreBehindMakers links []
behind_none links before after m e is makes apart = absurd (nothing before is)
  where
    nothing : (front : List ℕ) → [] ≡ front ++ e ∷ after → ⊥
    nothing [] same = cc
    nothing (c ∷ front) same = cc

pub behind_push : (links : Links) (order : List ℕ) (x : ℕ) → AreBehindMakers links order → ((m : ℕ) → MakesInputOf links m x → (IsNeededFor links (links.inputs m) x → ⊥) → has_number order m ≡ true) → AreBehindMakers links (order ++ x ∷ [])
behind_push links order x behind makers before after m e is makes apart = by (splits order before after x e is)
  where
    by : SplitsAt order before after x e → has_number before m ≡ true
    by (Inside rest same) = behind before rest m e same makes apart
    by (AtEnd same one) =
        subst (λ (l : List ℕ). has_number l m ≡ true) (sym same)
        (makers m (subst (λ (n : ℕ). MakesInputOf links m n) one makes) (λ needed. apart (subst (λ (n : ℕ). IsNeededFor links (links.inputs m) n) (sym one) needed)))

-- ---- marks

mark_here : (marks : List Mark) (e : ℕ) (m : Mark) → e < length marks → mark_at (set marks e m) e ≡ m
mark_here marks e m lt = get_or-set_same marks e m Unseen lt

mark_else : (marks : List Mark) (e j : ℕ) (m : Mark) → j ≢ e → mark_at (set marks e m) j ≡ mark_at marks j
mark_else marks e j m other = get_or-set_other marks e j m Unseen other

same_or_other : (i j : ℕ) → (j ≡ i) ⊎ (j ≢ i)
same_or_other i j = elim (cases_Bool (j == i)) [
  | inl is ↦ inl (eqb-true j i is)
  | inr not ↦ inr (λ is. false≢true (sym not ∙ eq-eqb j i is))
]

-- what one write of a mark changes in a test of marks
test_set : (test : Mark → Bool) (marks : List Mark) (e : ℕ) (m : Mark) → e < length marks → test m ≡ test (mark_at marks e) → (j : ℕ) → test (mark_at (set marks e m) j) ≡ test (mark_at marks j)
test_set test marks e m lt same j = elim (same_or_other e j) [
  | inl is ↦ subst (λ (n : ℕ). test (mark_at (set marks e m) n) ≡ test (mark_at marks n)) (sym is) (ap test (mark_here marks e m lt) ∙ same)
  | inr not ↦ ap test (mark_else marks e j m not)
]

-- what was seen stays so where a mark of something seen is written
pub keeps_set : (marks : List Mark) (e : ℕ) (m : Mark) → e < length marks → is_unseen m ≡ false → Keeps marks (set marks e m)
keeps_set marks e m lt not j seen = elim (same_or_other e j) [
  | inl is ↦ subst (λ (n : ℕ). is_unseen (mark_at (set marks e m) n) ≡ false) (sym is) (ap is_unseen (mark_here marks e m lt) ∙ not)
  | inr other ↦ ap is_unseen (mark_else marks e j m other) ∙ seen
]

pub seen_kept : (marks next : List Mark) → Keeps marks next → (o : Option ℕ) → maker_seen marks o → maker_seen next o
seen_kept marks next keeps None seen = tt
seen_kept marks next keeps (Some e) seen = keeps e seen

pub keeps_then : (one two three : List Mark) → Keeps one two → Keeps two three → Keeps one three
keeps_then one two three first second e seen = second e (first e seen)

open_seen : (m : Mark) → m ≡ Open → is_unseen m ≡ false
open_seen m is = ap is_unseen is

-- ---- steps

-- nothing was seen yet
pub rise_new : (links : Links) (paths : List ℕ) (marks : List Mark) (left : List ℕ) → length marks ≡ links.count → ((e : ℕ) → mark_at marks e ≡ Unseen) → length left ≡ links.count
    → ((e : ℕ) → e < links.count → slice_index left e ≡ length (links.inputs e)) → IsRiseAt links paths [] marks left []
rise_new links paths marks left fits unseen lefts counts = record {
  fits = fits;
  lefts = lefts;
  some_left = λ e low. let all = counts e low in omega (arith, all);
  within = λ k h. absurd (omega (arith, h));
  opened = λ k h. absurd (omega (arith, h));
  apart = λ j k less h. absurd (omega (arith, h));
  stacked = λ e is. absurd (not_open (mark_at marks e) (unseen e) is);
  chain = λ k h. absurd (omega (arith, h));
  looked = λ e k within low. let all = counts e within in absurd (omega (arith, low, all));
  listed = λ e. ap is_listed (unseen e);
  done = λ e h. absurd (false≢true h);
  once = once_none;
  ordered = behind_none links;
  needed = λ e seen. absurd (false≢true (sym seen ∙ ap is_unseen (unseen e)));
}
  where
    not_open : (m : Mark) → m ≡ Unseen → m ≡ Open → ⊥
    not_open m a b = cc

-- one path more was looked at
pub asked_next : (links : Links) (paths : List ℕ) (old new : List Mark) (i : ℕ) → ((k : ℕ) → k < i → maker_seen old (links.maker (slice_index paths k))) → Keeps old new
    → maker_seen new (links.maker (slice_index paths i)) → (k : ℕ) → k < i + 1 → maker_seen new (links.maker (slice_index paths k))
asked_next links paths old new i before keeps here k low = elim (cases_lt k i) [
  | inl below ↦ seen_kept old new keeps (links.maker (slice_index paths k)) (before k below)
  | inr above ↦ let same : i ≡ k = omega (arith, low, above) in subst (λ (n : ℕ). maker_seen new (links.maker (slice_index paths n))) same here
]

-- so all of them were
pub asked_all : (links : Links) (paths : List ℕ) (marks : List Mark) (i : ℕ) → ((k : ℕ) → k < i → maker_seen marks (links.maker (slice_index paths k))) → length paths ≤ i
    → (p : ℕ) → has_number paths p ≡ true → maker_seen marks (links.maker p)
asked_all links paths marks i each all p has =
    let place = place_of paths p has in
    subst (λ (q : ℕ). maker_seen marks (links.maker q)) place.2 (each place.0 (omega (arith, place.1, all)))

-- the maker of an edge's next input was seen, where nothing of the edge was passed since then
pub next_seen : (links now : Links) (marks : List Mark) (left after : List ℕ) (e p q : ℕ) → now ≡ links → after ≡ left → IsNext links (slice_index left e) e p → IsNext now (slice_index after e) e q → maker_seen marks (links.maker p)
    → maker_seen marks (now.maker q)
next_seen links now marks left after e p q same kept next other seen =
    let there : IsNext links (slice_index left e) e q = subst (λ (l : List ℕ). IsNext links (slice_index l e) e q) kept (subst (λ (k : Links). IsNext k (slice_index after e) e q) same other) in
    subst (λ (k : Links). maker_seen marks (k.maker q)) (sym same) (subst (λ (n : ℕ). maker_seen marks (links.maker n)) (sym next.is ∙ there.is) seen)

module _ (links : Links) (paths order : List ℕ) (marks : List Mark) (left stack : List ℕ) (at : IsRiseAt links paths order marks left stack) where
  pub rise_open : (e : ℕ) → e < links.count → mark_at marks e ≡ Unseen → IsNeededFor links paths e → ((last : ℕ) → IsLast stack last → MakesInputOf links e last) → IsRiseAt links paths order (set marks e Open) left (stack ++ e ∷ [])
  rise_open e lt unseen need waiting = record {
    fits = length-set marks e Open ∙ at.fits;
    lefts = at.lefts;
    some_left = at.some_left;
    within = λ k h. elim (was k h) [
      | inl old ↦ subst (λ (n : ℕ). n < links.count) (sym (push_old stack e k old)) (at.within k old)
      | inr new ↦ subst (λ (n : ℕ). n < links.count) (sym (push_new stack e k new)) lt
    ];
    opened = λ k h. elim (was k h) [
      | inl old ↦ subst (λ (n : ℕ). mark_at (set marks e Open) n ≡ Open) (sym (push_old stack e k old)) (mark_else marks e (slice_index stack k) Open (apart_from k old) ∙ at.opened k old)
      | inr new ↦ subst (λ (n : ℕ). mark_at (set marks e Open) n ≡ Open) (sym (push_new stack e k new)) (mark_here marks e Open in_marks)
    ];
    apart = λ j k less h. elim (was k h) [
      | inl old ↦ λ same. at.apart j k less old (sym (push_old stack e j (omega (arith, less, old))) ∙ (same ∙ push_old stack e k old))
      | inr new ↦
          let low : j < length stack = omega (arith, less, new) in
          λ same. apart_from j low (sym (push_old stack e j low) ∙ (same ∙ push_new stack e k new))
    ];
    stacked = λ j is. elim (same_or_other e j) [
      | inl here ↦ (length stack, omega (arith, length_push stack e), push_new stack e (length stack) refl ∙ sym here)
      | inr there ↦
          let old = at.stacked j (sym (mark_else marks e j Open there) ∙ is) in
          (old.0, omega (arith, old.1, length_push stack e), push_old stack e old.0 old.1 ∙ old.2)
    ];
    chain = λ k h. elim (was (suc k) h) [
      | inl old ↦
          subst (λ (n : ℕ). MakesInputOf links (slice_index (stack ++ e ∷ []) (suc k)) n) (sym (push_old stack e k (omega (arith, old))))
          (subst (λ (n : ℕ). MakesInputOf links n (slice_index stack k)) (sym (push_old stack e (suc k) old)) (at.chain k old))
      | inr new ↦
          let here : k ≡ length stack - 1 = omega (arith, new) in
          subst (λ (n : ℕ). MakesInputOf links (slice_index (stack ++ e ∷ []) (suc k)) n) (sym (push_old stack e k (omega (arith, new))))
          (subst (λ (n : ℕ). MakesInputOf links n (slice_index stack k)) (sym (push_new stack e (suc k) new))
          (waiting (slice_index stack k) record { some = omega (arith, new); is = ap (slice_index stack) (sym here) }))
    ];
    looked = λ j k within low. seen_kept marks (set marks e Open) (keeps_set marks e Open in_marks refl) (links.maker (slice_index (links.inputs j) k)) (at.looked j k within low);
    listed = λ j. test_set is_listed marks e Open in_marks (sym (ap is_listed unseen)) j ∙ at.listed j;
    done = at.done;
    once = at.once;
    ordered = at.ordered;
    needed = λ j seen. elim (same_or_other e j) [
      | inl here ↦ subst (IsNeededFor links paths) (sym here) need
      | inr there ↦ at.needed j (sym (ap is_unseen (mark_else marks e j Open there)) ∙ seen)
    ];
  }
    where
      in_marks : e < length marks
      in_marks = omega (arith, lt, at.fits)

      was : (k : ℕ) → k < length (stack ++ e ∷ []) → (k < length stack) ⊎ (k ≡ length stack)
      was k h = elim (same_or_other (length stack) k) [
        | inl last ↦ inr last
        | inr other ↦ inl (omega (arith, h, other, length_push stack e))
      ]

      apart_from : (k : ℕ) → k < length stack → slice_index stack k ≢ e
      apart_from k h same = unseen_open (mark_at marks e) unseen (sym (ap (mark_at marks) same) ∙ at.opened k h)
        where
          unseen_open : (m : Mark) → m ≡ Unseen → m ≡ Open → ⊥
          unseen_open m a b = cc

  pub last_within : (e : ℕ) → IsLast stack e → e < links.count
  last_within e last = subst (λ (n : ℕ). n < links.count) last.is (at.within (length stack - 1) (omega (arith, last.some)))

  pub last_needed : (e : ℕ) → IsLast stack e → IsNeededFor links paths e
  last_needed e last =
      subst (IsNeededFor links paths) last.is
      (at.needed (slice_index stack (length stack - 1)) (open_seen (mark_at marks (slice_index stack (length stack - 1))) (at.opened (length stack - 1) (omega (arith, last.some)))))

  -- the first of the inputs that are left
  next_makes : (e p m : ℕ) → IsNext links (slice_index left e) e p → links.maker p ≡ Some m → MakesInputOf links m e
  next_makes e p m next made =
      (p, subst (λ (n : ℕ). has_number (links.inputs e) n ≡ true) next.is (has_at (links.inputs e) (length (links.inputs e) - slice_index left e) (omega (arith, next.some, next.fits))), made)

  -- what makes the next input of the last open edge is needed, and makes an input of each last one
  pub next_needed : (e p m : ℕ) → IsLast stack e → IsNext links (slice_index left e) e p → links.maker p ≡ Some m → IsNeededFor links paths m
  next_needed e p m last next made = let makes = next_makes e p m next made in Further m e makes.0 (last_needed e last) makes.1 makes.2

  pub next_awaited : (e p m : ℕ) → IsLast stack e → IsNext links (slice_index left e) e p → links.maker p ≡ Some m → (other : ℕ) → IsLast stack other → MakesInputOf links m other
  next_awaited e p m last next made other is = subst (λ (n : ℕ). MakesInputOf links m n) (sym last.is ∙ is.is) (next_makes e p m next made)

  pub rise_pass : (e : ℕ) → e < links.count → 0 < slice_index left e → ((p : ℕ) → IsNext links (slice_index left e) e p → maker_seen marks (links.maker p)) → IsRiseAt links paths order marks (set left e (slice_index left e - 1)) stack
  rise_pass e lt some seen = record {
    fits = at.fits;
    lefts = length-set left e (slice_index left e - 1) ∙ at.lefts;
    some_left = λ j h. elim (same_or_other e j) [
      | inl here ↦ subst (λ (n : ℕ). slice_index (set left e (slice_index left e - 1)) n ≤ length (links.inputs n)) (sym here) (omega (arith, at.some_left e lt, here_left))
      | inr there ↦ omega (arith, at.some_left j h, else_left j there)
    ];
    within = at.within;
    opened = at.opened;
    apart = at.apart;
    stacked = at.stacked;
    chain = at.chain;
    looked = λ j k within low. elim (same_or_other e j) [
      | inl here ↦ subst (λ (n : ℕ). maker_seen marks (links.maker (slice_index (links.inputs n) k))) (sym here)
          (looked_here k (subst (λ (n : ℕ). k + slice_index (set left e (slice_index left e - 1)) n < length (links.inputs n)) here low))
      | inr there ↦ at.looked j k within (omega (arith, low, else_left j there))
    ];
    listed = at.listed;
    done = λ j h. elim (same_or_other e j) [
      | inl here ↦ let none : slice_index left e ≡ 0 = at.done e (subst (λ (n : ℕ). has_number order n ≡ true) here h) in absurd (omega (arith, none, some))
      | inr there ↦ else_left j there ∙ at.done j h
    ];
    once = at.once;
    ordered = at.ordered;
    needed = at.needed;
  }
    where
      in_left : e < length left
      in_left = omega (arith, lt, at.lefts)

      here_left : slice_index (set left e (slice_index left e - 1)) e ≡ slice_index left e - 1
      here_left = get_or-set_same left e (slice_index left e - 1) 0 in_left

      else_left : (j : ℕ) → j ≢ e → slice_index (set left e (slice_index left e - 1)) j ≡ slice_index left j
      else_left j other = get_or-set_other left e j (slice_index left e - 1) 0 other

      next : IsNext links (slice_index left e) e (slice_index (links.inputs e) (length (links.inputs e) - slice_index left e))
      next = record { some = some; fits = at.some_left e lt; is = refl }

      looked_here : (k : ℕ) → k + slice_index (set left e (slice_index left e - 1)) e < length (links.inputs e) → maker_seen marks (links.maker (slice_index (links.inputs e) k))
      looked_here k low = elim (same_or_other (length (links.inputs e) - slice_index left e) k) [
        | inl first ↦ subst (λ (n : ℕ). maker_seen marks (links.maker (slice_index (links.inputs e) n))) (sym first) (seen (slice_index (links.inputs e) (length (links.inputs e) - slice_index left e)) next)
        | inr before ↦ at.looked e k lt (in_front before)
      ]
        where
          in_front : k ≢ length (links.inputs e) - slice_index left e → k + slice_index left e < length (links.inputs e)
          in_front other = omega (arith, other, low, here_left, some, at.some_left e lt)

  -- an open edge is needed for the inputs of each that stands before it
  chained : (j d : ℕ) → suc (j + d) < length stack → IsNeededFor links (links.inputs (slice_index stack j)) (slice_index stack (suc (j + d)))
  chained j zero low =
      let same : j + zero ≡ j = omega arith in
      subst (λ (n : ℕ). IsNeededFor links (links.inputs (slice_index stack j)) (slice_index stack (suc n))) (sym same)
      (let makes = at.chain j (omega (arith, low)) in Makes (slice_index stack (suc j)) makes.0 makes.1 makes.2)
  chained j (suc d) low =
      let same : j + suc d ≡ suc (j + d) = omega arith in
      let before = chained j d (omega (arith, low)) in
      subst (λ (n : ℕ). IsNeededFor links (links.inputs (slice_index stack j)) (slice_index stack (suc n))) (sym same)
      (let makes = at.chain (suc (j + d)) (omega (arith, low)) in Further (slice_index stack (suc (suc (j + d)))) (slice_index stack (suc (j + d))) makes.0 before makes.1 makes.2)

  pub rise_list : (e : ℕ) → IsLast stack e → slice_index left e ≡ 0 → IsRiseAt links paths (order ++ e ∷ []) (set marks e Listed) left (take (length stack - 1) stack)
  rise_list e last none = record {
    fits = length-set marks e Listed ∙ at.fits;
    lefts = at.lefts;
    some_left = at.some_left;
    within = λ k h. subst (λ (n : ℕ). n < links.count) (sym (kept_at k h)) (at.within k (lower k h));
    opened = λ k h. subst (λ (n : ℕ). mark_at (set marks e Listed) n ≡ Open) (sym (kept_at k h)) (mark_else marks e (slice_index stack k) Listed (not_last k h) ∙ at.opened k (lower k h));
    apart = λ j k less h same. at.apart j k less (lower k h) (sym (kept_at j (omega (arith, less, h))) ∙ (same ∙ kept_at k h));
    stacked = λ j is. elim (same_or_other e j) [
      | inl here ↦ absurd (listed_open (mark_at (set marks e Listed) e) (mark_here marks e Listed in_marks) (sym (ap (mark_at (set marks e Listed)) here) ∙ is))
      | inr there ↦
          let old = at.stacked j (sym (mark_else marks e j Listed there) ∙ is) in
          let low : old.0 < length (take (length stack - 1) stack) = in_front old.0 old.1 (λ top. there (sym old.2 ∙ (ap (slice_index stack) top ∙ last.is))) in
          (old.0, low, kept_at old.0 low ∙ old.2)
    ];
    chain = λ k h.
        subst (λ (n : ℕ). MakesInputOf links (slice_index (take (length stack - 1) stack) (suc k)) n) (sym (kept_at k (omega (arith, h))))
        (subst (λ (n : ℕ). MakesInputOf links n (slice_index stack k)) (sym (kept_at (suc k) h)) (at.chain k (lower (suc k) h)));
    looked = λ j k within low. seen_kept marks (set marks e Listed) (keeps_set marks e Listed in_marks refl) (links.maker (slice_index (links.inputs j) k)) (at.looked j k within low);
    listed = listed;
    done = λ j h. elim (or_cases (has_number order j) (e == j) (sym (has_push order e j) ∙ h)) [
      | inl old ↦ at.done j old
      | inr here ↦ subst (λ (n : ℕ). slice_index left n ≡ 0) (eqb-true e j here) none
    ];
    once = once_push order e at.once not_listed;
    ordered = behind_push links order e at.ordered makers;
    needed = λ j seen. elim (same_or_other e j) [
      | inl here ↦ subst (IsNeededFor links paths) (sym here) (at.needed e (open_seen (mark_at marks e) open_here))
      | inr there ↦ at.needed j (sym (ap is_unseen (mark_else marks e j Listed there)) ∙ seen)
    ];
  }
    where
      top_is : length stack - 1 < length stack
      top_is = omega (arith, last.some)

      in_inputs : e < links.count
      in_inputs = subst (λ (n : ℕ). n < links.count) last.is (at.within (length stack - 1) top_is)

      in_marks : e < length marks
      in_marks = omega (arith, in_inputs, at.fits)

      open_here : mark_at marks e ≡ Open
      open_here = subst (λ (n : ℕ). mark_at marks n ≡ Open) last.is (at.opened (length stack - 1) top_is)

      not_listed : has_number order e ≡ false
      not_listed = sym (at.listed e) ∙ ap is_listed open_here

      front_len : length (take (length stack - 1) stack) ≡ length stack - 1
      front_len = length-take-le (length stack - 1) stack (omega arith)

      lower : (k : ℕ) → k < length (take (length stack - 1) stack) → k < length stack
      lower k h = omega (arith, h, front_len)

      kept_at : (k : ℕ) → k < length (take (length stack - 1) stack) → slice_index (take (length stack - 1) stack) k ≡ slice_index stack k
      kept_at k h = get_or-take (length stack - 1) stack k 0 (omega (arith, h, front_len))

      not_last : (k : ℕ) → k < length (take (length stack - 1) stack) → slice_index stack k ≢ e
      not_last k h same = at.apart k (length stack - 1) (omega (arith, h, front_len)) top_is (same ∙ sym last.is)

      in_front : (k : ℕ) → k < length stack → (k ≡ length stack - 1 → ⊥) → k < length (take (length stack - 1) stack)
      in_front k h other = elim (same_or_other (length stack - 1) k) [
        | inl same ↦ absurd (other same)
        | inr apart ↦ omega (arith, h, apart, front_len)
      ]

      listed_open : (m : Mark) → m ≡ Listed → m ≡ Open → ⊥
      listed_open m a b = cc

      -- an open edge that makes an input of the last one needs it itself
      round : (m : ℕ) → MakesInputOf links m e → mark_at marks m ≡ Open → IsNeededFor links (links.inputs m) e
      round m makes opened =
          let on = at.stacked m opened in
          elim (same_or_other (length stack - 1) on.0) [
            | inl top ↦
                let same : m ≡ e = sym on.2 ∙ (ap (slice_index stack) top ∙ last.is) in
                subst (λ (n : ℕ). IsNeededFor links (links.inputs n) e) (sym same) (let own = subst (λ (n : ℕ). MakesInputOf links n e) same makes in Makes e own.0 own.1 own.2)
            | inr below ↦
                let apart = length stack - 1 - on.0 - 1 in
                let there : suc (on.0 + apart) ≡ length stack - 1 = omega (arith, on.1, below) in
                subst (λ (n : ℕ). IsNeededFor links (links.inputs n) e) on.2
                (subst (λ (n : ℕ). IsNeededFor links (links.inputs (slice_index stack on.0)) n) (ap (slice_index stack) there ∙ last.is) (chained on.0 apart (omega (arith, there, top_is))))
          ]

      makers : (m : ℕ) → MakesInputOf links m e → (IsNeededFor links (links.inputs m) e → ⊥) → has_number order m ≡ true
      makers m makes apart =
          let at_place = place_of (links.inputs e) makes.0 makes.1 in
          let seen : maker_seen marks (links.maker makes.0) = subst (λ (p : ℕ). maker_seen marks (links.maker p)) at_place.2 (at.looked e at_place.0 in_inputs (omega (arith, at_place.1, none))) in
          by_mark (mark_at marks m) refl (subst (λ (o : Option ℕ). maker_seen marks o) makes.2 seen)
        where
          by_mark : (mark : Mark) → mark_at marks m ≡ mark → is_unseen (mark_at marks m) ≡ false → has_number order m ≡ true
          by_mark Unseen is seen = absurd (false≢true (sym seen ∙ ap is_unseen is))
          by_mark Open is seen = absurd (apart (round m makes is))
          by_mark Listed is seen = sym (at.listed m) ∙ ap is_listed is

      listed : (j : ℕ) → is_listed (mark_at (set marks e Listed) j) ≡ has_number (order ++ e ∷ []) j
      listed j = elim (same_or_other e j) [
        | inl here ↦ subst (λ (n : ℕ). is_listed (mark_at (set marks e Listed) n) ≡ has_number (order ++ e ∷ []) n) (sym here)
            (ap is_listed (mark_here marks e Listed in_marks) ∙ sym (has_push order e e ∙ or_right (has_number order e) (e == e) (eq-eqb e e refl)))
        | inr there ↦
            ap is_listed (mark_else marks e j Listed there) ∙ (at.listed j ∙ sym (has_push order e j ∙ other (has_number order j) (e == j) (λ is. there (sym (eqb-true e j is)))))
      ]
        where
          other : (a b : Bool) → (b ≡ true → ⊥) → (a || b) ≡ a
          other true b h = refl
          other false false h = refl
          other false true h = absurd (h refl)

  -- a walk that has ended lists what it has seen
  all_listed : length stack ≡ 0 → (e : ℕ) → is_unseen (mark_at marks e) ≡ false → has_number order e ≡ true
  all_listed empty e seen = sym (at.listed e) ∙ by_mark (mark_at marks e) refl seen
    where
      by_mark : (m : Mark) → mark_at marks e ≡ m → is_unseen m ≡ false → is_listed m ≡ true
      by_mark Unseen is h = absurd (false≢true (sym h))
      by_mark Open is h = let top = at.stacked e is in absurd (omega (arith, top.1, empty))
      by_mark Listed is h = refl

  listed_within : (e : ℕ) → has_number order e ≡ true → e < links.count
  listed_within e h = elim (cases_lt e (links.count)) [
    | inl within ↦ within
    | inr past ↦
        let none : mark_at marks e ≡ Unseen = get_or_past marks e Unseen (omega (arith, past, at.fits)) in
        absurd (false≢true (sym (ap is_listed none) ∙ (at.listed e ∙ h)))
  ]

  needed_listed : length stack ≡ 0 → ((p : ℕ) → has_number paths p ≡ true → maker_seen marks (links.maker p)) → (e : ℕ) → IsNeededFor links paths e → has_number order e ≡ true
  needed_listed empty asked e (Makes _ p has makes) = all_listed empty e (subst (λ (o : Option ℕ). maker_seen marks o) makes (asked p has))
  needed_listed empty asked e (Further _ d p needed has makes) =
      let above = needed_listed empty asked d needed in
      let place = place_of (links.inputs d) p has in
      let seen : maker_seen marks (links.maker p) =
      subst (λ (q : ℕ). maker_seen marks (links.maker q)) place.2 (at.looked d place.0 (listed_within d above) (omega (arith, place.1, at.done d above))) in
      all_listed empty e (subst (λ (o : Option ℕ). maker_seen marks o) makes seen)

  listed_seen : (m : Mark) → is_listed m ≡ true → is_unseen m ≡ false
  listed_seen Unseen h = absurd (false≢true h)
  listed_seen Open h = refl
  listed_seen Listed h = refl

  pub rise_end : length stack ≡ 0 → ((p : ℕ) → has_number paths p ≡ true → maker_seen marks (links.maker p))
      → ((e : ℕ) → has_number order e ≡ true ↔ IsNeededFor links paths e) × StandOnce order × AreBehindMakers links order
  rise_end empty asked = (
    λ e. (λ h. at.needed e (listed_seen (mark_at marks e) (at.listed e ∙ h)), λ needed. needed_listed empty asked e needed),
    at.once,
    at.ordered,
  )
