-- The paths round a cycle of edges, each of which waits for the next one.
use Rattle.std.proofs.Common.{◌≡◌, ◌≢◌, ◌⊎◌, inl, inr, ℕ, zero, suc, ◌+◌, ◌-◌, ◌<◌, ◌≤◌, ◌==◌, true, List, [], ◌∷◌, ◌++◌, Option, Some, map, length, take, drop, slice_index, slice_index_or, nat_lt, Result, IfOk, add-suc, refl, sym, ◌∙◌, ap, subst, arith}
use Rattle.std.specs.List.{AllByRecursion, IsFirstBest}
use Rattle.std.proofs.lemmas.List.{get_or-drop, length-drop, length-append, map-append, take-append-drop, take_all}
use Rattle.std.proofs.lemmas.Result.{IfOk-weaker}
use Rattle.std.proofs.lemmas.Bool.{false≢true, or_cases, or_left, eqb-true, eq-eqb, ltb-false}
use Rattle.model.specs.Graph.{has_number}
use Rattle.theory.proofs.Lists.{all_append, all_parts, all_weaker, has_number-right}
use Rattle.graph.specs.Links.{Links, needs_at}
use Rattle.graph.specs.declared.cone.Mark.{Mark}
use Rattle.graph.specs.Cone.{mark_at, IsNeeded, IsChain, IsRound, awaited, IsLeft, Awaits, IsLast, IsWalkAt}
use Rattle.graph.proofs.Walking.{same_or_other, open_not_unseen}

-- ---- lists

pub all_of : (P : ℕ → Type 0) (xs : List ℕ) → ((k : ℕ) → k < length xs → P (slice_index xs k)) → AllByRecursion P xs
all_of P [] each = tt
all_of P (x ∷ xs) each = (each 0 (omega arith), all_of P xs (λ k lt. each (suc k) (omega (arith, lt))))

pub all_at : (P : ℕ → Type 0) (xs : List ℕ) → AllByRecursion P xs → (k : ℕ) → k < length xs → P (slice_index xs k)
all_at P [] all k lt = absurd (omega (arith, lt))
all_at P (x ∷ xs) all zero lt = all.0
all_at P (x ∷ xs) all (suc k) lt = all_at P xs all.1 k (omega (arith, lt))

pub all_turned : (P : ℕ → Type 0) (n : ℕ) (xs : List ℕ) → AllByRecursion P xs → AllByRecursion P (drop n xs ++ take n xs)
all_turned P n xs all =
    let parts = all_parts P (take n xs) (drop n xs) (subst (AllByRecursion P) (sym (take-append-drop n xs)) all) in
    all_append P (drop n xs) (take n xs) parts.1 parts.0

pub has_at : (xs : List ℕ) (k : ℕ) → k < length xs → has_number xs (slice_index xs k) ≡ true
has_at [] k lt = absurd (omega (arith, lt))
has_at (x ∷ xs) zero lt = or_left (x == x) (has_number xs x) (eq-eqb x x refl)
has_at (x ∷ xs) (suc k) lt = has_number-right (x ∷ []) xs (slice_index xs k) (has_at xs k (omega (arith, lt)))

-- the last of a list stands last in a longer one
top_more : (x y : ℕ) (ys : List ℕ) → slice_index (x ∷ y ∷ ys) (length (x ∷ y ∷ ys) - 1) ≡ slice_index (y ∷ ys) (length (y ∷ ys) - 1)
top_more x y ys = let later : length (x ∷ y ∷ ys) - 1 ≡ suc (length (y ∷ ys) - 1) = omega arith in ap (slice_index (x ∷ y ∷ ys)) later

split_last : (xs : List ℕ) → 0 < length xs → (front : List ℕ) × (xs ≡ front ++ slice_index xs (length xs - 1) ∷ [])
split_last [] some = absurd (omega (arith, some))
split_last (x ∷ []) some = ([], refl)
split_last (x ∷ y ∷ ys) some =
    let rest = split_last (y ∷ ys) (omega arith) in
    (x ∷ rest.0, ap (λ (l : List ℕ). x ∷ l) rest.1 ∙ ap (λ (n : ℕ). x ∷ (rest.0 ++ n ∷ [])) (sym (top_more x y ys)))

-- a slice from a place on
pub rest_of : (xs stack : List ℕ) (start : ℕ) → xs ≡ stack → take (length xs - start) (drop start xs) ≡ drop start stack
rest_of xs stack start same = take_all (length xs - start) (drop start xs) (omega (arith, length-drop start xs)) ∙ ap (drop start) same

-- the first of two lists
first_join : (xs ys : List ℕ) (f : ℕ) → slice_index_or (xs ++ ys) 0 f ≡ slice_index_or xs 0 (slice_index_or ys 0 f)
first_join [] ys f = refl
first_join (x ∷ xs) ys f = refl

all_first : (P : ℕ → Type 0) (es : List ℕ) (f : ℕ) → AllByRecursion P es → P f → P (slice_index_or es 0 f)
all_first P [] f all is = is
all_first P (e ∷ es) f all is = all.0

pub same_some : (m : Option ℕ) (i j : ℕ) → m ≡ Some i → m ≡ Some j → i ≡ j
same_some m i j a b = let both : Some i ≡ Some j = sym a ∙ b in cc

module _ (links : Links) (left : List ℕ) where
  -- each of these edges waits for the next one, and the last for this one
  abbrev LeadsTo : List ℕ → ℕ → Type 0
  LeadsTo [] f = Unit {0}
  LeadsTo (e ∷ es) f = Awaits links left e (slice_index_or es 0 f) × LeadsTo es f

  leads_join : (xs ys : List ℕ) (f : ℕ) → LeadsTo xs (slice_index_or ys 0 f) → LeadsTo ys f → LeadsTo (xs ++ ys) f
  leads_join [] ys f a b = b
  leads_join (x ∷ xs) ys f a b = (subst (λ (n : ℕ). Awaits links left x n) (sym (first_join xs ys f)) a.0, leads_join xs ys f a.1 b)

  leads_parts : (xs ys : List ℕ) (f : ℕ) → LeadsTo (xs ++ ys) f → LeadsTo xs (slice_index_or ys 0 f) × LeadsTo ys f
  leads_parts [] ys f a = (tt, a)
  leads_parts (x ∷ xs) ys f a = let rest = leads_parts xs ys f a.1 in ((subst (λ (n : ℕ). Awaits links left x n) (first_join xs ys f) a.0, rest.0), rest.1)

  -- a circle of edges may begin at each of them
  leads_turned : (xs ys : List ℕ) → 0 < length ys → LeadsTo (xs ++ ys) (slice_index (xs ++ ys) 0) → LeadsTo (ys ++ xs) (slice_index (ys ++ xs) 0)
  leads_turned xs [] some leads = absurd (omega (arith, some))
  leads_turned xs (y ∷ ys) some leads =
      let parts = leads_parts xs (y ∷ ys) (slice_index (xs ++ y ∷ ys) 0) leads in
      leads_join (y ∷ ys) xs y (subst (LeadsTo (y ∷ ys)) (first_join xs (y ∷ ys) 0) parts.1) parts.0

  leads_of : (es : List ℕ) (f : ℕ) → ((k : ℕ) → suc k < length es → Awaits links left (slice_index es k) (slice_index es (suc k))) → ((l : ℕ) → IsLast es l → Awaits links left l f) → LeadsTo es f
  leads_of [] f each closes = tt
  leads_of (e ∷ []) f each closes = (closes e record { some = omega arith; is = refl }, tt)
  leads_of (e ∷ d ∷ es) f each closes =
      (each 0 (omega arith), leads_of (d ∷ es) f (λ k lt. each (suc k) (omega (arith, lt))) (λ l last. closes l record { some = omega arith; is = top_more e d es ∙ last.is }))

  leads_last : (es : List ℕ) (f : ℕ) → 0 < length es → LeadsTo es f → Awaits links left (slice_index es (length es - 1)) f
  leads_last [] f some leads = absurd (omega (arith, some))
  leads_last (e ∷ []) f some leads = leads.0
  leads_last (e ∷ d ∷ es) f some leads = subst (λ (n : ℕ). Awaits links left n f) (sym (top_more e d es)) (leads_last (d ∷ es) f (omega arith) leads.1)

  -- the paths that they wait for
  chain_from : (p : ℕ) (es : List ℕ) (f : ℕ) → AllByRecursion (IsLeft links left) es → links.maker p ≡ Some (slice_index_or es 0 f) → LeadsTo es f → IsChain links (p ∷ map (awaited links left) es)
  chain_from p [] f lefts made leads = tt
  chain_from p (e ∷ es) f lefts made leads = (
    record { edge = e; made = made; needs = has_at (needs_at links e) (slice_index left e - 1) (omega (arith, lefts.0.some, lefts.0.fits)) },
    chain_from (awaited links left e) es f lefts.1 leads.0.made leads.1,
  )

  -- what holds of the edges holds of the makers of these paths
  of_makers : (P : ℕ → Type 0) (es : List ℕ) (f : ℕ) → LeadsTo es f → AllByRecursion P es → P f → (p m : ℕ) → has_number (map (awaited links left) es) p ≡ true → links.maker p ≡ Some m → P m
  of_makers P [] f leads all is p m h made = absurd (false≢true h)
  of_makers P (e ∷ es) f leads all is p m h made = elim (or_cases (awaited links left e == p) (has_number (map (awaited links left) es) p) h) [
    | inl here ↦
        let same : awaited links left e ≡ p = eqb-true (awaited links left e) p here in
        subst P (same_some (links.maker p) (slice_index_or es 0 f) m (subst (λ (n : ℕ). links.maker n ≡ Some (slice_index_or es 0 f)) same leads.0.made) made)
        (all_first P es f all.1 is)
    | inr later ↦ of_makers P es f leads.1 all.1 is p m later made
  ]

  -- A circle of edges that begins with the lowest is shown by what it makes, and what each of its edges waits for.
  round_of : (requested es : List ℕ) → 0 < length es → AllByRecursion (IsLeft links left) es → AllByRecursion (IsNeeded links requested) es → AllByRecursion (λ d. slice_index es 0 ≤ d) es
      → LeadsTo es (slice_index es 0) → IsRound links requested (awaited links left (slice_index es (length es - 1)) ∷ map (awaited links left) es)
  round_of requested [] some lefts needed lowest leads = absurd (omega (arith, some))
  round_of requested (e ∷ es) some lefts needed lowest leads = record {
    first = first;
    middle = map (awaited links left) split.0;
    round = ap (λ (l : List ℕ). first ∷ l) (ap (map (awaited links left)) split.1 ∙ map-append (awaited links left) split.0 (slice_index (e ∷ es) (length (e ∷ es) - 1) ∷ []));
    chain = chain_from first (e ∷ es) e lefts made leads;
    needed = λ p m h is. of_all (IsNeeded links requested) needed p m h is;
    lowest = λ p d m first_is h is. subst (λ (n : ℕ). n ≤ m) (same_some (links.maker first) e d made first_is) (of_all (λ x. e ≤ x) lowest p m h is);
  }
    where
      first : ℕ
      first = awaited links left (slice_index (e ∷ es) (length (e ∷ es) - 1))

      split : (front : List ℕ) × (e ∷ es ≡ front ++ slice_index (e ∷ es) (length (e ∷ es) - 1) ∷ [])
      split = split_last (e ∷ es) some

      made : links.maker first ≡ Some e
      made = (leads_last (e ∷ es) e some leads).made

      of_all : (P : ℕ → Type 0) → AllByRecursion P (e ∷ es) → (p m : ℕ) → has_number (first ∷ map (awaited links left) (e ∷ es)) p ≡ true → links.maker p ≡ Some m → P m
      of_all P all p m h is = elim (or_cases (first == p) (has_number (map (awaited links left) (e ∷ es)) p) h) [
        | inl here ↦ subst P (same_some (links.maker p) e m (subst (λ (n : ℕ). links.maker n ≡ Some e) (eqb-true first p here) made) is) all.0
        | inr later ↦ of_makers P (e ∷ es) e leads all all.0 p m later is
      ]

-- ---- the open edges of a walk

module _ (links : Links) (requested order : List ℕ) (marks : List Mark) (left stack : List ℕ) (at : IsWalkAt links requested order marks left stack) (last edge start : ℕ) (is_last : IsLast stack last) (closes : Awaits links left last edge) (within : start < length stack) (is : slice_index stack start ≡ edge) where
  -- an edge of a circle
  pub record IsRoundEdge (e : ℕ) : Type 0 where
    pub inside : e < links.count
    pub left_some : IsLeft links left e
    pub needed : IsNeeded links requested e

  stack_edge : (k : ℕ) → k < length stack → IsRoundEdge (slice_index stack k)
  stack_edge k lt = record {
    inside = at.within k lt;
    left_some = record { some = some_of (same_or_other (length stack - 1) k); fits = at.some_left (slice_index stack k) (at.within k lt) };
    needed = at.needed (slice_index stack k) (open_not_unseen (mark_at marks (slice_index stack k)) (at.opened k lt));
  }
    where
      some_of : (k ≡ length stack - 1) ⊎ (k ≢ length stack - 1) → 0 < slice_index left (slice_index stack k)
      some_of (inl top) = subst (λ (n : ℕ). 0 < slice_index left n) (sym is_last.is ∙ ap (slice_index stack) (sym top)) closes.some
      some_of (inr below) = (at.awaits k (omega (arith, lt, below))).some

  from_start : (k : ℕ) → slice_index (drop start stack) k ≡ slice_index stack (start + k)
  from_start k = get_or-drop start stack k 0

  start_len : length (drop start stack) ≡ length stack - start
  start_len = length-drop start stack

  all_edges : AllByRecursion IsRoundEdge (drop start stack)
  all_edges = all_of IsRoundEdge (drop start stack) (λ k lt. subst IsRoundEdge (sym (from_start k)) (stack_edge (start + k) (omega (arith, lt, start_len))))

  leads : LeadsTo links left (drop start stack) (slice_index (drop start stack) 0)
  leads = leads_of links left (drop start stack) (slice_index (drop start stack) 0)
      (λ k lt.
      subst (λ (n : ℕ). Awaits links left n (slice_index (drop start stack) (suc k))) (sym (from_start k))
      (subst (λ (n : ℕ). Awaits links left (slice_index stack (start + k)) n) (ap (slice_index stack) (sym (add-suc start k)) ∙ sym (from_start (suc k)))
      (at.awaits (start + k) (omega (arith, lt, start_len)))))
      (λ l top.
      subst (λ (n : ℕ). Awaits links left l n) (sym (from_start 0 ∙ (ap (slice_index stack) (add_zero start) ∙ is)))
      (subst (λ (n : ℕ). Awaits links left n edge) (sym is_last.is ∙ (ap (slice_index stack) (top_place l top) ∙ (sym (from_start (length (drop start stack) - 1)) ∙ top.is))) closes))
    where
      add_zero : (n : ℕ) → n + 0 ≡ n
      add_zero n = omega arith

      top_place : (l : ℕ) → IsLast (drop start stack) l → length stack - 1 ≡ start + (length (drop start stack) - 1)
      top_place l top = omega (arith, start_len, within)

  module _ (low : ℕ) (best : IsFirstBest nat_lt (drop start stack) (length (drop start stack)) low) where
    turned_some : 0 < length (drop low (drop start stack) ++ take low (drop start stack))
    turned_some = omega (arith, length-append (drop low (drop start stack)) (take low (drop start stack)), length-drop low (drop start stack), best.0)

    turned_edges : AllByRecursion IsRoundEdge (drop low (drop start stack) ++ take low (drop start stack))
    turned_edges = all_turned IsRoundEdge low (drop start stack) all_edges

    turned_first : slice_index (drop low (drop start stack) ++ take low (drop start stack)) 0 ≡ slice_index (drop start stack) low
    turned_first = first_of (drop low (drop start stack)) (omega (arith, length-drop low (drop start stack), best.0)) ∙ (get_or-drop low (drop start stack) 0 0 ∙ ap (slice_index (drop start stack)) (add_zero low))
      where
        add_zero : (n : ℕ) → n + 0 ≡ n
        add_zero n = omega arith

        first_of : (xs : List ℕ) → 0 < length xs → slice_index (xs ++ take low (drop start stack)) 0 ≡ slice_index xs 0
        first_of [] some = absurd (omega (arith, some))
        first_of (x ∷ xs) some = refl

    turned_lowest : AllByRecursion (λ d. slice_index (drop low (drop start stack) ++ take low (drop start stack)) 0 ≤ d) (drop low (drop start stack) ++ take low (drop start stack))
    turned_lowest = all_turned (λ d. slice_index (drop low (drop start stack) ++ take low (drop start stack)) 0 ≤ d) low (drop start stack)
        (all_of (λ d. slice_index (drop low (drop start stack) ++ take low (drop start stack)) 0 ≤ d) (drop start stack)
        (λ k lt. subst (λ (n : ℕ). n ≤ slice_index (drop start stack) k) (sym turned_first) (ltb-false (slice_index (drop start stack) k) (slice_index (drop start stack) low) (best.1 k 0 lt))))

    turned_leads : LeadsTo links left (drop low (drop start stack) ++ take low (drop start stack)) (slice_index (drop low (drop start stack) ++ take low (drop start stack)) 0)
    turned_leads = leads_turned links left (take low (drop start stack)) (drop low (drop start stack)) (omega (arith, length-drop low (drop start stack), best.0))
        (subst (λ (l : List ℕ). LeadsTo links left l (slice_index l 0)) (sym (take-append-drop low (drop start stack))) leads)

    round_of_walk : IsRound links requested (awaited links left (slice_index (drop low (drop start stack) ++ take low (drop start stack)) (length (drop low (drop start stack) ++ take low (drop start stack)) - 1)) ∷ map (awaited links left) (drop low (drop start stack) ++ take low (drop start stack)))
    round_of_walk = round_of links left requested (drop low (drop start stack) ++ take low (drop start stack)) turned_some
        (all_weaker IsRoundEdge (IsLeft links left) (λ e h. h.left_some) (drop low (drop start stack) ++ take low (drop start stack)) turned_edges)
        (all_weaker IsRoundEdge (IsNeeded links requested) (λ e h. h.needed) (drop low (drop start stack) ++ take low (drop start stack)) turned_edges)
        turned_lowest turned_leads

    -- the edges from the place on, turned so that they begin with the lowest
    module _ (edges : List ℕ) (turned : edges ≡ drop low (drop start stack) ++ take low (drop start stack)) where
      pub round_edge : (k : ℕ) → k < length edges → IsRoundEdge (slice_index edges k)
      round_edge k lt = all_at IsRoundEdge edges (subst (AllByRecursion IsRoundEdge) (sym {A = List ℕ} turned) turned_edges) k lt

      pub round_paths : {E : Type 0} (r : Result (List ℕ) E) → IfOk r (λ paths. paths ≡ awaited links left (slice_index edges (length edges - 1)) ∷ map (awaited links left) edges) → IfOk r (IsRound links requested)
      round_paths r found = IfOk-weaker r (λ paths. paths ≡ awaited links left (slice_index edges (length edges - 1)) ∷ map (awaited links left) edges) (IsRound links requested)
          (λ paths same. subst (IsRound links requested) (sym {A = List ℕ} (same ∙ ap (λ (l : List ℕ). awaited links left (slice_index l (length l - 1)) ∷ map (awaited links left) l) turned)) round_of_walk) found
