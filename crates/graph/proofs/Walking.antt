-- What stands after one more step of a walk.
use Rattle.std.proofs.Common.{◌≡◌, ◌≢◌, ◌⊎◌, inl, inr, ℕ, zero, suc, ◌+◌, ◌-◌, ◌<◌, ◌≤◌, ◌==◌, ◌||◌, Bool, true, false, List, [], ◌∷◌, ◌++◌, Option, Some, None, length, take, slice_index, refl, sym, ◌∙◌, ap, subst, arith, append_assoc}
use Rattle.std.proofs.Math.ListN.{set}
use Rattle.std.proofs.lemmas.List.{append-nil, get_or-set_same, get_or-set_other, length-set, length_push, length-take-le, get_or-take, get_or_past}
use Rattle.std.proofs.lemmas.Bool.{cases_Bool, cases_lt, eqb-true, eq-eqb, false≢true, or_cases, or_left, or_right}
use Rattle.model.specs.Graph.{has_number}
use Rattle.graph.specs.Links.{Links, needs_at}
use Rattle.graph.specs.declared.cone.Mark.{Mark}
use Rattle.graph.specs.declared.cone.Mark.TheVariants.{Unseen, Open, Listed}
use Rattle.graph.specs.Cone.{maker_at, validator_at, IsNeeded, Asked, Above, Beside, Awaits, made_by, Follows, IsOrder, mark_at, is_listed, is_unseen, IsCone, maker_listed, maker_seen, IsWalkAt, IsLast, Keeps, HasSeenMakers, HasSeenValidators}

has_number-push : (xs : List ℕ) (i j : ℕ) → has_number (xs ++ i ∷ []) j ≡ (has_number xs j || (i == j))
has_number-push [] i j = or_nothing (i == j)
  where
    or_nothing : (b : Bool) → (b || false) ≡ (false || b)
    or_nothing true = refl
    or_nothing false = refl
has_number-push (x ∷ xs) i j = ap (λ (b : Bool). (x == j) || b) (has_number-push xs i j) ∙ or_assoc (x == j) (has_number xs j) (i == j)
  where
    or_assoc : (a b c : Bool) → (a || (b || c)) ≡ ((a || b) || c)
    or_assoc true b c = refl
    or_assoc false b c = refl

order_push : (links : Links) (before es : List ℕ) (e : ℕ) → IsOrder links before es → Follows links (before ++ es) e → IsOrder links before (es ++ e ∷ [])
order_push links before [] e order next = (subst (λ (l : List ℕ). Follows links l e) (append-nil before) next, tt)
order_push links before (d ∷ es) e order next =
    (order.0, order_push links (before ++ d ∷ []) es e order.1 (subst (λ (l : List ℕ). Follows links l e) (sym (append_assoc before (d ∷ []) es)) next))

push_old : (xs : List ℕ) (x k : ℕ) → k < length xs → slice_index (xs ++ x ∷ []) k ≡ slice_index xs k
push_old [] x k lt = absurd (omega (arith, lt))
push_old (y ∷ xs) x zero lt = refl
push_old (y ∷ xs) x (suc k) lt = push_old xs x k (omega (arith, lt))

push_new : (xs : List ℕ) (x k : ℕ) → k ≡ length xs → slice_index (xs ++ x ∷ []) k ≡ x
push_new [] x zero is = refl
push_new [] x (suc k) is = absurd (omega (arith, is))
push_new (y ∷ xs) x zero is = absurd (omega (arith, is))
push_new (y ∷ xs) x (suc k) is = push_new xs x k (omega (arith, is))

-- where a mark is written, and elsewhere
mark_here : (marks : List Mark) (e : ℕ) (m : Mark) → e < length marks → mark_at (set marks e m) e ≡ m
mark_here marks e m lt = get_or-set_same marks e m Unseen lt

mark_else : (marks : List Mark) (e j : ℕ) (m : Mark) → j ≢ e → mark_at (set marks e m) j ≡ mark_at marks j
mark_else marks e j m other = get_or-set_other marks e j m Unseen other

pub same_or_other : (i j : ℕ) → (j ≡ i) ⊎ (j ≢ i)
same_or_other i j = elim (cases_Bool (j == i)) [
  | inl is ↦ inl (eqb-true j i is)
  | inr not ↦ inr (λ is. false≢true (sym not ∙ eq-eqb j i is))
]

-- what one write of a mark changes in a test of marks
test_set : (test : Mark → Bool) (marks : List Mark) (e : ℕ) (m : Mark) → e < length marks → test m ≡ test (mark_at marks e) → (j : ℕ) → test (mark_at (set marks e m) j) ≡ test (mark_at marks j)
test_set test marks e m lt same j = elim (same_or_other e j) [
  | inl is ↦ subst (λ (n : ℕ). test (mark_at (set marks e m) n) ≡ test (mark_at marks n)) (sym is) (ap test (mark_here marks e m lt) ∙ same)
  | inr not ↦ ap test (mark_else marks e j m not)
]

pub open_not_unseen : (m : Mark) → m ≡ Open → is_unseen m ≡ false
open_not_unseen m is = ap is_unseen is

module _ (links : Links) (requested order : List ℕ) (marks : List Mark) (left stack : List ℕ) (at : IsWalkAt links requested order marks left stack) where
  pub walk_open : (e : ℕ) → e < links.count → mark_at marks e ≡ Unseen → IsNeeded links requested e → ((last : ℕ) → IsLast stack last → Awaits links left last e) → IsWalkAt links requested order (set marks e Open) left (stack ++ e ∷ [])
  walk_open e lt unseen need waiting = record {
    fits = length-set marks e Open ∙ at.fits;
    lefts = at.lefts;
    some_left = at.some_left;
    within = λ k h. elim (was k h) [
      | inl old ↦ subst (λ (n : ℕ). n < links.count) (sym (push_old stack e k old)) (at.within k old)
      | inr new ↦ subst (λ (n : ℕ). n < links.count) (sym (push_new stack e k new)) lt
    ];
    opened = λ k h. elim (was k h) [
      | inl old ↦ subst (λ (n : ℕ). mark_at (set marks e Open) n ≡ Open) (sym (push_old stack e k old)) (mark_else marks e (slice_index stack k) Open (apart_from k old) ∙ at.opened k old)
      | inr new ↦ subst (λ (n : ℕ). mark_at (set marks e Open) n ≡ Open) (sym (push_new stack e k new)) (mark_here marks e Open in_marks)
    ];
    apart = λ j k less h. elim (was k h) [
      | inl old ↦ λ same. at.apart j k less old (sym (push_old stack e j (omega (arith, less, old))) ∙ (same ∙ push_old stack e k old))
      | inr new ↦
          let low : j < length stack = omega (arith, less, new) in
          λ same. apart_from j low (sym (push_old stack e j low) ∙ (same ∙ push_new stack e k new))
    ];
    stacked = λ j is. elim (same_or_other e j) [
      | inl here ↦ (length stack, omega (arith, length_push stack e), push_new stack e (length stack) refl ∙ sym here)
      | inr there ↦
          let old = at.stacked j (sym (mark_else marks e j Open there) ∙ is) in
          (old.0, omega (arith, old.1, length_push stack e), push_old stack e old.0 old.1 ∙ old.2)
    ];
    awaits = λ k h. elim (was (suc k) h) [
      | inl old ↦
          subst (λ (n : ℕ). Awaits links left n (slice_index (stack ++ e ∷ []) (suc k))) (sym (push_old stack e k (omega (arith, old))))
          (subst (λ (n : ℕ). Awaits links left (slice_index stack k) n) (sym (push_old stack e (suc k) old)) (at.awaits k old))
      | inr new ↦
          let here : k ≡ length stack - 1 = omega (arith, new) in
          subst (λ (n : ℕ). Awaits links left n (slice_index (stack ++ e ∷ []) (suc k))) (sym (push_old stack e k (omega (arith, new))))
          (subst (λ (n : ℕ). Awaits links left (slice_index stack k) n) (sym (push_new stack e (suc k) new))
          (waiting (slice_index stack k) record { some = omega (arith, new); is = ap (slice_index stack) (sym here) }))
    ];
    looked = λ j k within low high. kept (maker_at links j k) (at.looked j k within low high);
    listed = λ j. test_set is_listed marks e Open in_marks (sym (ap is_listed unseen)) j ∙ at.listed j;
    ordered = at.ordered;
    needed = λ j seen. elim (same_or_other e j) [
      | inl here ↦ subst (IsNeeded links requested) (sym here) need
      | inr there ↦ at.needed j (sym (ap is_unseen (mark_else marks e j Open there)) ∙ seen)
    ];
  }
    where
      in_marks : e < length marks
      in_marks = omega (arith, lt, at.fits)

      was : (k : ℕ) → k < length (stack ++ e ∷ []) → (k < length stack) ⊎ (k ≡ length stack)
      was k h = elim (same_or_other (length stack) k) [
        | inl last ↦ inr last
        | inr other ↦ inl (omega (arith, h, other, length_push stack e))
      ]

      apart_from : (k : ℕ) → k < length stack → slice_index stack k ≢ e
      apart_from k h same = unseen_open (mark_at marks e) unseen (sym (ap (mark_at marks) same) ∙ at.opened k h)
        where
          unseen_open : (m : Mark) → m ≡ Unseen → m ≡ Open → ⊥
          unseen_open m a b = cc

      kept : (o : Option ℕ) → maker_listed marks o ≡ true → maker_listed (set marks e Open) o ≡ true
      kept None h = refl
      kept (Some m) h = test_set is_listed marks e Open in_marks (sym (ap is_listed unseen)) m ∙ h

  pub last_within : (e : ℕ) → IsLast stack e → e < links.count
  last_within e last = subst (λ (n : ℕ). n < links.count) last.is (at.within (length stack - 1) (omega (arith, last.some)))

  pub walk_pass : (e : ℕ) → IsLast stack e → 0 < slice_index left e → maker_listed marks (maker_at links e (slice_index left e - 1)) ≡ true → IsWalkAt links requested order marks (set left e (slice_index left e - 1)) stack
  walk_pass e last some done = record {
    fits = at.fits;
    lefts = length-set left e (slice_index left e - 1) ∙ at.lefts;
    some_left = λ j h. elim (same_or_other e j) [
      | inl here ↦ subst (λ (n : ℕ). slice_index (set left e (slice_index left e - 1)) n ≤ length (needs_at links n)) (sym here) (omega (arith, at.some_left e lt, here_left))
      | inr there ↦ omega (arith, at.some_left j h, else_left j there)
    ];
    within = at.within;
    opened = at.opened;
    apart = at.apart;
    stacked = at.stacked;
    awaits = λ k h. else_awaits (slice_index stack k) (slice_index stack (suc k)) (not_last k h) (at.awaits k h);
    looked = λ j k within low high. elim (same_or_other e j) [
      | inl here ↦ subst (λ (n : ℕ). maker_listed marks (maker_at links n k) ≡ true) (sym here)
          (looked_here k (subst (λ (n : ℕ). slice_index (set left e (slice_index left e - 1)) n ≤ k) here low) (subst (λ (n : ℕ). k < length (needs_at links n)) here high))
      | inr there ↦ at.looked j k within (omega (arith, low, else_left j there)) high
    ];
    listed = at.listed;
    ordered = at.ordered;
    needed = at.needed;
  }
    where
      lt : e < links.count
      lt = last_within e last

      in_left : e < length left
      in_left = omega (arith, lt, at.lefts)

      not_last : (k : ℕ) → suc k < length stack → slice_index stack k ≢ e
      not_last k h same = at.apart k (length stack - 1) (omega (arith, h)) (omega (arith, h)) (same ∙ sym last.is)

      here_left : slice_index (set left e (slice_index left e - 1)) e ≡ slice_index left e - 1
      here_left = get_or-set_same left e (slice_index left e - 1) 0 in_left

      else_left : (j : ℕ) → j ≢ e → slice_index (set left e (slice_index left e - 1)) j ≡ slice_index left j
      else_left j other = get_or-set_other left e j (slice_index left e - 1) 0 other

      else_awaits : (j d : ℕ) → j ≢ e → Awaits links left j d → Awaits links (set left e (slice_index left e - 1)) j d
      else_awaits j d other waits = record {
        some = omega (arith, waits.some, else_left j other);
        made = ap (λ (n : ℕ). links.maker (slice_index (needs_at links j) (n - 1))) (else_left j other) ∙ waits.made;
      }

      looked_here : (k : ℕ) → slice_index (set left e (slice_index left e - 1)) e ≤ k → k < length (needs_at links e) → maker_listed marks (maker_at links e k) ≡ true
      looked_here k low high = elim (same_or_other (slice_index left e - 1) k) [
        | inl first ↦ subst (λ (n : ℕ). maker_listed marks (maker_at links e n) ≡ true) (sym first) done
        | inr later ↦ at.looked e k lt (above later) high
      ]
        where
          above : k ≢ slice_index left e - 1 → slice_index left e ≤ k
          above other = omega (arith, other, low, here_left, some)

  pub walk_list : (e : ℕ) → IsLast stack e → slice_index left e ≡ 0 → IsWalkAt links requested (order ++ e ∷ []) (set marks e Listed) left (take (length stack - 1) stack)
  walk_list e last none = record {
    fits = length-set marks e Listed ∙ at.fits;
    lefts = at.lefts;
    some_left = at.some_left;
    within = λ k h. subst (λ (n : ℕ). n < links.count) (sym (kept_at k h)) (at.within k (lower k h));
    opened = λ k h. subst (λ (n : ℕ). mark_at (set marks e Listed) n ≡ Open) (sym (kept_at k h)) (mark_else marks e (slice_index stack k) Listed (not_last k h) ∙ at.opened k (lower k h));
    apart = λ j k less h same. at.apart j k less (lower k h) (sym (kept_at j (omega (arith, less, h))) ∙ (same ∙ kept_at k h));
    stacked = λ j is. elim (same_or_other e j) [
      | inl here ↦ absurd (listed_open (mark_at (set marks e Listed) e) (mark_here marks e Listed in_marks) (sym (ap (mark_at (set marks e Listed)) here) ∙ is))
      | inr there ↦
          let old = at.stacked j (sym (mark_else marks e j Listed there) ∙ is) in
          let low : old.0 < length (take (length stack - 1) stack) = in_front old.0 old.1 (λ top. there (sym old.2 ∙ (ap (slice_index stack) top ∙ last.is))) in
          (old.0, low, kept_at old.0 low ∙ old.2)
    ];
    awaits = λ k h.
        subst (λ (n : ℕ). Awaits links left n (slice_index (take (length stack - 1) stack) (suc k))) (sym (kept_at k (omega (arith, h))))
        (subst (λ (n : ℕ). Awaits links left (slice_index stack k) n) (sym (kept_at (suc k) h)) (at.awaits k (lower (suc k) h)));
    looked = λ j k within low high. more (maker_at links j k) (at.looked j k within low high);
    listed = listed;
    ordered = order_push links [] order e at.ordered record {
      once = sym (at.listed e) ∙ ap is_listed open_here;
      made = λ k h. made (maker_at links e k) (at.looked e k in_inputs (omega (arith, none)) h);
    };
    needed = λ j seen. elim (same_or_other e j) [
      | inl here ↦ subst (IsNeeded links requested) (sym here) (at.needed e (open_not_unseen (mark_at marks e) open_here))
      | inr there ↦ at.needed j (sym (ap is_unseen (mark_else marks e j Listed there)) ∙ seen)
    ];
  }
    where
      top_is : length stack - 1 < length stack
      top_is = omega (arith, last.some)

      in_inputs : e < links.count
      in_inputs = subst (λ (n : ℕ). n < links.count) last.is (at.within (length stack - 1) top_is)

      in_marks : e < length marks
      in_marks = omega (arith, in_inputs, at.fits)

      open_here : mark_at marks e ≡ Open
      open_here = subst (λ (n : ℕ). mark_at marks n ≡ Open) last.is (at.opened (length stack - 1) top_is)

      front_len : length (take (length stack - 1) stack) ≡ length stack - 1
      front_len = length-take-le (length stack - 1) stack (omega arith)

      lower : (k : ℕ) → k < length (take (length stack - 1) stack) → k < length stack
      lower k h = omega (arith, h, front_len)

      kept_at : (k : ℕ) → k < length (take (length stack - 1) stack) → slice_index (take (length stack - 1) stack) k ≡ slice_index stack k
      kept_at k h = get_or-take (length stack - 1) stack k 0 (omega (arith, h, front_len))

      not_last : (k : ℕ) → k < length (take (length stack - 1) stack) → slice_index stack k ≢ e
      not_last k h same = at.apart k (length stack - 1) (omega (arith, h, front_len)) top_is (same ∙ sym last.is)

      in_front : (k : ℕ) → k < length stack → (k ≡ length stack - 1 → ⊥) → k < length (take (length stack - 1) stack)
      in_front k h other = elim (same_or_other (length stack - 1) k) [
        | inl same ↦ absurd (other same)
        | inr apart ↦ omega (arith, h, apart, front_len)
      ]

      listed_open : (m : Mark) → m ≡ Listed → m ≡ Open → ⊥
      listed_open m a b = cc

      more : (o : Option ℕ) → maker_listed marks o ≡ true → maker_listed (set marks e Listed) o ≡ true
      more None h = refl
      more (Some m) h = elim (same_or_other e m) [
        | inl here ↦ subst (λ (n : ℕ). is_listed (mark_at (set marks e Listed) n) ≡ true) (sym here) (ap is_listed (mark_here marks e Listed in_marks))
        | inr there ↦ ap is_listed (mark_else marks e m Listed there) ∙ h
      ]

      made : (o : Option ℕ) → maker_listed marks o ≡ true → made_by order o ≡ true
      made None h = refl
      made (Some m) h = sym (at.listed m) ∙ h

      listed : (j : ℕ) → is_listed (mark_at (set marks e Listed) j) ≡ has_number (order ++ e ∷ []) j
      listed j = elim (same_or_other e j) [
        | inl here ↦ subst (λ (n : ℕ). is_listed (mark_at (set marks e Listed) n) ≡ has_number (order ++ e ∷ []) n) (sym here)
            (ap is_listed (mark_here marks e Listed in_marks) ∙ sym (has_number-push order e e ∙ or_right (has_number order e) (e == e) (eq-eqb e e refl)))
        | inr there ↦
            ap is_listed (mark_else marks e j Listed there) ∙ (at.listed j ∙ sym (has_number-push order e j ∙ other (has_number order j) (e == j) (λ is. there (sym (eqb-true e j is)))))
      ]
        where
          other : (a b : Bool) → (b ≡ true → ⊥) → (a || b) ≡ a
          other true b h = refl
          other false false h = refl
          other false true h = absurd (h refl)

-- a walk that has ended lists what it has seen
pub all_listed : (links : Links) (requested order : List ℕ) (marks : List Mark) (left stack : List ℕ) → IsWalkAt links requested order marks left stack → length stack ≡ 0 → (e : ℕ) → is_unseen (mark_at marks e) ≡ false → is_listed (mark_at marks e) ≡ true
all_listed links requested order marks left stack at none e seen = by_mark (mark_at marks e) refl seen
  where
    by_mark : (m : Mark) → mark_at marks e ≡ m → is_unseen m ≡ false → is_listed m ≡ true
    by_mark Unseen is h = absurd (false≢true (sym h))
    by_mark Open is h = let top = at.stacked e is in absurd (omega (arith, top.1, none))
    by_mark Listed is h = refl

pub needed_last : (links : Links) (requested order : List ℕ) (marks : List Mark) (left stack : List ℕ) (e : ℕ) → IsWalkAt links requested order marks left stack → IsLast stack e → IsNeeded links requested e
needed_last links requested order marks left stack e at last =
    subst (IsNeeded links requested) last.is (at.needed (slice_index stack (length stack - 1)) (open_not_unseen (mark_at marks (slice_index stack (length stack - 1))) (at.opened (length stack - 1) (omega (arith, last.some)))))

-- an edge that the last open one waits for is needed
pub needed_awaited : (links : Links) (requested order : List ℕ) (marks : List Mark) (left stack : List ℕ) (e d : ℕ) → IsWalkAt links requested order marks left stack → IsLast stack e → Awaits links left e d → IsNeeded links requested d
needed_awaited links requested order marks left stack e d at last waits =
    Above e (slice_index left e - 1) d (needed_last links requested order marks left stack e at last)
    (omega (arith, waits.some, at.some_left e (last_within links requested order marks left stack at e last))) waits.made

pub needed_asked : (links other : Links) (requested others : List ℕ) (k : ℕ) → other ≡ links → others ≡ requested → k < length requested → IsNeeded other others (slice_index requested k)
needed_asked links other requested others k same asked lt =
    subst (λ (l : Links). IsNeeded l others (slice_index requested k)) (sym {A = Links} same) (subst (λ (r : List ℕ). IsNeeded links r (slice_index requested k)) (sym {A = List ℕ} asked) (Asked k lt))

-- ---- an order that grows

-- ---- the makers of validations

seen_kept : (marks next : List Mark) → Keeps marks next → (o : Option ℕ) → maker_seen marks o → maker_seen next o
seen_kept marks next keeps None seen = tt
seen_kept marks next keeps (Some e) seen = keeps e seen

-- one more validation of an edge
pub makers_turn : (links : Links) (marks next : List Mark) (e k : ℕ) → HasSeenMakers links marks e k → Keeps marks next → maker_seen next (validator_at links e k) → HasSeenMakers links next e (k + 1)
makers_turn links marks next e k before keeps here j lt = elim (cases_lt j k) [
  | inl below ↦ seen_kept marks next keeps (validator_at links e j) (before j below)
  | inr above ↦ let same : k ≡ j = omega (arith, lt, above) in subst (λ (n : ℕ). maker_seen next (validator_at links e n)) same here
]

pub needed_beside : (links other : Links) (requested others items : List ℕ) (e k m : ℕ) → other ≡ links → others ≡ requested → IsNeeded links requested e → items ≡ links.validations e → k < length items
    → Some m ≡ links.maker (slice_index items k) → IsNeeded other others m
needed_beside links other requested others items e k m same asked need is lt made =
    subst (λ (l : Links). IsNeeded l others m) (sym {A = Links} same) (subst (λ (r : List ℕ). IsNeeded links r m) (sym {A = List ℕ} asked)
    (Beside e k m need (subst (λ (l : List ℕ). k < length l) is lt) (sym (made ∙ ap (λ (l : List ℕ). links.maker (slice_index l k)) is))))

pub place_in : (xs : List ℕ) (n : ℕ) → has_number xs n ≡ true → (k : ℕ) × (k < length xs) × (slice_index xs k ≡ n)
place_in [] n h = absurd (false≢true h)
place_in (x ∷ xs) n h = elim (or_cases (x == n) (has_number xs n) h) [
  | inl here ↦ (0, omega arith, eqb-true x n here)
  | inr later ↦ let rest = place_in xs n later in (suc rest.0, omega (arith, rest.1), rest.2)
]

has_listed : (xs : List ℕ) (n : ℕ) → n < length xs → has_number xs (slice_index xs n) ≡ true
has_listed [] n low = absurd (omega (arith, low))
has_listed (x ∷ xs) zero low = or_left (x == x) (has_number xs x) (eq-eqb x x refl)
has_listed (x ∷ xs) (suc n) low = or_right (x == slice_index xs n) (has_number xs (slice_index xs n)) (has_listed xs n (omega (arith, low)))

-- a listed edge is needed
pub needed_listed : (links other : Links) (requested others order : List ℕ) (marks : List Mark) (left stack : List ℕ) → other ≡ links → others ≡ requested → IsWalkAt links requested order marks left stack
    → (k e : ℕ) → k < length order → e ≡ slice_index order k → IsNeeded other others e
needed_listed links other requested others order marks left stack same asked at k e lt is =
    subst (λ (l : Links). IsNeeded l others e) (sym {A = Links} same) (subst (λ (r : List ℕ). IsNeeded links r e) (sym {A = List ℕ} asked)
    (at.needed e (listed_seen (mark_at marks e) (at.listed e ∙ subst (λ (n : ℕ). has_number order n ≡ true) (sym is) (has_listed order k lt)))))
  where
    listed_seen : (m : Mark) → is_listed m ≡ true → is_unseen m ≡ false
    listed_seen Unseen h = absurd (false≢true h)
    listed_seen Open h = refl
    listed_seen Listed h = refl

pub listed_within : (links other : Links) (requested order : List ℕ) (marks : List Mark) (left stack : List ℕ) → other ≡ links → IsWalkAt links requested order marks left stack
    → (k e : ℕ) → k < length order → e ≡ slice_index order k → e < other.count
listed_within links other requested order marks left stack same at k e lt is =
    subst (λ (n : ℕ). n < other.count) (sym is) (elim (cases_lt (slice_index order k) (links.count)) [
      | inl within ↦ subst (λ (l : Links). slice_index order k < l.count) (sym {A = Links} same) within
      | inr past ↦
          let none : mark_at marks (slice_index order k) ≡ Unseen = get_or_past marks (slice_index order k) Unseen (omega (arith, past, at.fits)) in
          absurd (false≢true (sym (ap is_listed none) ∙ (at.listed (slice_index order k) ∙ has_listed order k lt)))
    ])

-- what a walk leaves that has ended
pub cone_at : (links : Links) (requested order : List ℕ) (marks : List Mark) (left stack : List ℕ) → IsWalkAt links requested order marks left stack → length stack ≡ 0
    → ((k : ℕ) → k < length requested → is_unseen (mark_at marks (slice_index requested k)) ≡ false) → HasSeenValidators links marks order (length order) → IsCone links requested order marks
cone_at links requested order marks left stack at none seen validators = record {
  fits = at.fits;
  ordered = at.ordered;
  asked = λ k lt. in_order (slice_index requested k) (seen k lt);
  validated = λ e h k lt.
      let place = place_in order e h in
      by_maker (validator_at links e k)
      (subst (λ (n : ℕ). HasSeenMakers links marks n (length (links.validations n))) place.2 (validators place.0 place.1) k lt);
  needed = λ e h. at.needed e (not_unseen (mark_at marks e) (at.listed e ∙ h));
  marked = at.listed;
}
  where
    in_order : (e : ℕ) → is_unseen (mark_at marks e) ≡ false → has_number order e ≡ true
    in_order e seen_e = sym (at.listed e) ∙ all_listed links requested order marks left stack at none e seen_e

    by_maker : (o : Option ℕ) → maker_seen marks o → made_by order o ≡ true
    by_maker None seen_o = refl
    by_maker (Some m) seen_o = in_order m seen_o

    not_unseen : (m : Mark) → is_listed m ≡ true → is_unseen m ≡ false
    not_unseen Unseen h = absurd (false≢true h)
    not_unseen Open h = refl
    not_unseen Listed h = refl

-- three steps of a walk: it began, listed what was asked for, and listed the makers of validations
pub cone_end : (links start one : Links) (requested none first : List ℕ) (before : List Mark) (order : List ℕ) (marks : List Mark) (left stack : List ℕ) → start ≡ links → one ≡ start → none ≡ requested → first ≡ none
    → IsWalkAt one first order marks left stack → length stack ≡ 0 → ((k : ℕ) → k < length none → is_unseen (mark_at before (slice_index none k)) ≡ false) → Keeps before marks
    → HasSeenValidators one marks order (length order) → IsCone links requested order marks
cone_end links start one requested none first before order marks left stack a b d f at empty seen keeps validators =
    cone_at links requested order marks left stack
    (subst (λ (l : Links). IsWalkAt l requested order marks left stack) {x = one} {y = links} links_same (subst (λ (r : List ℕ). IsWalkAt one r order marks left stack) {x = first} {y = requested} asked_same at))
    empty
    (subst (λ (r : List ℕ). (k : ℕ) → k < length r → is_unseen (mark_at marks (slice_index r k)) ≡ false) {x = none} {y = requested} d (λ k lt. keeps (slice_index none k) (seen k lt)))
    (subst (λ (l : Links). HasSeenValidators l marks order (length order)) {x = one} {y = links} links_same validators)
  where
    links_same : one ≡ links
    links_same = b ∙ a

    asked_same : first ≡ requested
    asked_same = f ∙ d
