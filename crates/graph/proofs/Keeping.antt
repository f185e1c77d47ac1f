-- A cone stays right where the edges that a load changed are in their places.
use Rattle.std.proofs.Common.{◌≡◌, ◌⊎◌, inl, inr, ℕ, zero, suc, ◌+◌, ◌<◌, ◌≤◌, ◌==◌, ◌||◌, cond, Bool, true, false, List, [], ◌∷◌, ◌++◌, Option, Some, None, map, length, take, get_or, slice_index, refl, sym, ◌∙◌, ap, subst, arith, append_assoc}
use Rattle.std.proofs.Math.ListN.{set}
use Rattle.std.proofs.Math.Seq.{get_or-append_seam}
use Rattle.std.proofs.lemmas.Bool.{cases_Bool, cases_eq, cases_lt, false≢true, eqb-true, eq-eqb, or_left, or_right, or_cases}
use Rattle.std.proofs.lemmas.List.{append-nil, map-append, length-append, get_or_append_left, get_or-set_same, get_or-set_other, length-set, length-take-le, take_all}
use Rattle.model.specs.declared.graph.Edge.{Edge}
use Rattle.model.specs.Graph.{has, has_number, edge_at, inputs, outputs, maker}
use Rattle.model.specs.Reading.{needs, IsInCone, Wanted, Needed, Validating}
use Rattle.theory.specs.Order.{AreMakersFirst}
use Rattle.theory.proofs.Cones.{cone_within}
use Rattle.theory.proofs.Growth.{HasGrown, grown_by, cases_named, maker_still}
use Rattle.theory.proofs.Lists.{has-left, has-right, has-cases, has_number-left, has_number-cases, has_number-push_cases}
use Rattle.theory.proofs.Makers.{maker_has, maker_is}
use Rattle.graph.specs.declared.back.LoadedEdge.{LoadedEdge}
use Rattle.graph.specs.declared.cone.Cone.{Cone}
use Rattle.graph.specs.declared.graph.Graph.{Graph}
use Rattle.graph.specs.Cone.{mark_at, is_listed}
use Rattle.graph.specs.Extended.{dyndep_at}
use Rattle.graph.specs.Held.{times}
use Rattle.graph.specs.Linked.{HasMaker, IsMakerFor, IsConeOf, IsLinksOf}
use Rattle.graph.specs.Links.{links_of, needs_of, users_at}
use Rattle.graph.specs.LoadedEdges.{numbers_in}
use Rattle.graph.specs.Placed.{StandsBefore, IsInPlace, AreInPlace, HasGrownTo}
use Rattle.graph.specs.Places.{place_in, ArePlaces}
use Rattle.graph.specs.Statements.{is_place}
use Rattle.graph.specs.Told.{declared_by, recorded_by, AreSameInputs}
use Rattle.paths.specs.Told.{text_at}
use Rattle.graph.proofs.Choosing.{names_number, is_at}
use Rattle.graph.proofs.ConesOf.{has_suc, suc_has}
use Rattle.graph.proofs.Ends.{none_twice}
use Rattle.graph.proofs.GraphIs.{graph_is, links_are}
use Rattle.graph.proofs.Rounds.{has_at}
use Rattle.graph.proofs.Undoing.{number_there, item_at}

none_some : {X : Type 0} (x : X) → None ≡ Some x → ⊥
none_some x is = cc

same_some : {X : Type 0} (x y : X) → Some x ≡ Some y → x ≡ y
same_some x y is = cc

-- ---- places in an order

pub placed_none : (places : List ℕ) → ArePlaces [] places
placed_none places e there = absurd (false≢true there)

-- one edge more stands at its place
pub placed_next : (order places new : List ℕ) (e k : ℕ) → k ≡ length order → e < length places → new ≡ set places e k → ArePlaces order places → ArePlaces (order ++ e ∷ []) new
placed_next order places new e k last low is before d there = subst (λ (l : List ℕ). (place_in l d < length (order ++ e ∷ [])) × (get_or (order ++ e ∷ []) (place_in l d) 0 ≡ d)) (sym is) (elim (cases_eq d e) [
  | inl same ↦ subst (λ (n : ℕ). (place_in (set places e k) n < length (order ++ e ∷ [])) × (get_or (order ++ e ∷ []) (place_in (set places e k) n) 0 ≡ n)) (sym same)
      (subst (λ (n : ℕ). (n < length (order ++ e ∷ [])) × (get_or (order ++ e ∷ []) n 0 ≡ e)) (sym (get_or-set_same places e k 0 low))
      (omega (arith, last, more), ap (λ (n : ℕ). get_or (order ++ e ∷ []) n 0) last ∙ get_or-append_seam order e [] 0))
  | inr other ↦
      let was = before d (front d other (has_number-cases order (e ∷ []) d there)) in
      subst (λ (n : ℕ). (n < length (order ++ e ∷ [])) × (get_or (order ++ e ∷ []) n 0 ≡ d)) (sym (get_or-set_other places e d k 0 other))
      (let low_was = was.0 in omega (arith, low_was, more), get_or_append_left order (e ∷ []) 0 (place_in places d) was.0 ∙ was.1)
])
  where
    more : length (order ++ e ∷ []) ≡ length order + 1
    more = length-append order (e ∷ [])

    front : (d : ℕ) → (d ≡ e → ⊥) → (has_number order d ≡ true) ⊎ (has_number (e ∷ []) d ≡ true) → has_number order d ≡ true
    front d other (inl first) = first
    front d other (inr last_one) = absurd (other (sym (eqb-true e d (one (e == d) last_one))))
      where
        one : (b : Bool) → (b || false) ≡ true → b ≡ true
        one true h = refl
        one false h = h

-- one edge of the order more
pub order_next : (order : List ℕ) (k e : ℕ) → k < length order → e ≡ get_or order k 0 → take (k + 1) order ≡ take k order ++ e ∷ []
order_next order k e low is = ap (λ (n : ℕ). take n order) next ∙ by order k low is
  where
    next : k + 1 ≡ suc k
    next = omega arith

    by : (l : List ℕ) (j : ℕ) → j < length l → e ≡ get_or l j 0 → take (suc j) l ≡ take j l ++ e ∷ []
    by [] j lt read = absurd (omega (arith, lt))
    by (y ∷ l) zero lt read = ap (λ (n : ℕ). n ∷ []) (sym read)
    by (y ∷ l) (suc j) lt read = ap (λ (rest : List ℕ). y ∷ rest) (by l j (omega (arith, lt)) read)

pub order_front : (order : List ℕ) (k : ℕ) → k < length order → length (take k order) ≡ k
order_front order k low = length-take-le k order (omega (arith, low))

pub order_whole : (order : List ℕ) (k : ℕ) → length order ≤ k → take k order ≡ order
order_whole order k past = take_all k order past

-- the numbers of one loaded edge more
pub numbers_next : (edges : List LoadedEdge) (k : ℕ) (l : LoadedEdge) → k < length edges → l ≡ get_or edges k l → numbers_in (take (k + 1) edges) ≡ numbers_in (take k edges) ++ l.edge ∷ []
numbers_next edges k l low is = ap (λ (n : ℕ). numbers_in (take n edges)) next ∙ by edges k low is
  where
    next : k + 1 ≡ suc k
    next = omega arith

    by : (m : List LoadedEdge) (j : ℕ) → j < length m → l ≡ get_or m j l → numbers_in (take (suc j) m) ≡ numbers_in (take j m) ++ l.edge ∷ []
    by [] j lt read = absurd (omega (arith, lt))
    by (y ∷ m) zero lt read = ap (λ (x : LoadedEdge). x.edge ∷ []) (sym read)
    by (y ∷ m) (suc j) lt read = ap (λ (rest : List ℕ). y.edge ∷ rest) (by m j (omega (arith, lt)) read)

pub edges_whole : (edges : List LoadedEdge) (k : ℕ) → length edges ≤ k → take k edges ≡ edges
edges_whole edges k past = take_all k edges past

pub edge_there : (edges : List LoadedEdge) (k : ℕ) (l : LoadedEdge) → k < length edges → l ≡ get_or edges k l → has_number (numbers_in edges) l.edge ≡ true
edge_there edges k l low is = number_there edges k l (item_at edges k l low is)

pub in_place_none : (graph : Graph) (cone : Cone) → AreInPlace graph cone []
in_place_none graph cone e there = absurd (false≢true there)

pub in_place_next : (graph : Graph) (cone : Cone) (edges : List ℕ) (e : ℕ) → IsInPlace graph cone e → AreInPlace graph cone edges → AreInPlace graph cone (edges ++ e ∷ [])
in_place_next graph cone edges e here so_far d there = elim (has_number-push_cases edges e d there) [
  | inl front ↦ so_far d front
  | inr last ↦ subst (IsInPlace graph cone) last here
]

-- what stands in front by its place stands in front of it in the order
module _ (order places : List ℕ) (placed : ArePlaces order places) (once : (before after : List ℕ) (e : ℕ) → order ≡ before ++ e ∷ after → has_number before e ≡ false) where
  pub in_front : (before after : List ℕ) (e d : ℕ) → order ≡ before ++ e ∷ after → has_number order d ≡ true → place_in places d < place_in places e → has_number before d ≡ true
  in_front before after e d splits there less =
      let here : has_number order e ≡ true = subst (λ (l : List ℕ). has_number l e ≡ true) (sym splits) (middle before) in
      let mine = placed e here in
      let its = placed d there in
      let at_most = not_behind (place_in places e) mine.0 mine.1 in
      let low : place_in places d < length before = omega (arith, less, at_most) in
      subst (λ (n : ℕ). has_number before n ≡ true)
      (sym (get_or_append_left before (e ∷ after) 0 (place_in places d) low) ∙ (ap (λ (l : List ℕ). get_or l (place_in places d) 0) (sym splits) ∙ its.1)) (has_at before (place_in places d) low)
    where
      middle : (l : List ℕ) → has_number (l ++ e ∷ after) e ≡ true
      middle [] = or_left (e == e) (has_number after e) (eq-eqb e e refl)
      middle (x ∷ l) = or_right (x == e) (has_number (l ++ e ∷ after) e) (middle l)

      -- the edge stands nowhere behind this place
      not_behind : (k : ℕ) → k < length order → get_or order k 0 ≡ e → k ≤ length before
      not_behind k low is = elim (cases_lt (length before) k) [
        | inr past ↦ past
        | inl less ↦
            let parts = cut order k low in
            absurd (false≢true (sym (once parts.0 parts.1 e (parts.2 ∙ ap (λ (n : ℕ). parts.0 ++ n ∷ parts.1) is)) ∙ found parts.0 parts.1 (parts.2 ∙ ap (λ (n : ℕ). parts.0 ++ n ∷ parts.1) is) (let size = parts.3 in omega (arith, less, size))))
      ]
        where
          cut : (l : List ℕ) (j : ℕ) → j < length l → (front : List ℕ) × (back : List ℕ) × (l ≡ front ++ get_or l j 0 ∷ back) × (length front ≡ j)
          cut [] j lt = absurd (omega (arith, lt))
          cut (x ∷ l) zero lt = ([], l, refl, refl)
          cut (x ∷ l) (suc j) lt = let rest = cut l j (omega (arith, lt)) in (x ∷ rest.0, rest.1, ap (λ (m : List ℕ). x ∷ m) rest.2, ap suc rest.3)

          found : (front back : List ℕ) → order ≡ front ++ e ∷ back → length before < length front → has_number front e ≡ true
          found front back is_split shorter =
              subst (λ (n : ℕ). has_number front n ≡ true)
              (sym (get_or_append_left front (e ∷ back) 0 (length before) shorter) ∙ (ap (λ (l : List ℕ). get_or l (length before) 0) (sym is_split ∙ splits) ∙ get_or-append_seam before e after 0))
              (has_at front (length before) shorter)

-- ---- what uses a path

times_has : (xs : List ℕ) (n : ℕ) → 0 < times xs n → has_number xs n ≡ true
times_has [] n some = absurd (omega (arith, some))
times_has (x ∷ xs) n some = by (x == n) refl (times_has xs n)
  where
    by : (b : Bool) → (x == n) ≡ b → (0 < times xs n → has_number xs n ≡ true) → has_number (x ∷ xs) n ≡ true
    by true is rest = or_left (x == n) (has_number xs n) is
    by false is rest = or_right (x == n) (has_number xs n) (rest (let same : times (x ∷ xs) n ≡ times xs n = ap (λ (b : Bool). cond b (suc (times xs n)) (times xs n)) is in omega (arith, some, same)))

has_times : (xs : List ℕ) (n : ℕ) → has_number xs n ≡ true → 0 < times xs n
has_times [] n there = absurd (false≢true there)
has_times (x ∷ xs) n there = by (x == n) refl (has_times xs n)
  where
    by : (b : Bool) → (x == n) ≡ b → (has_number xs n ≡ true → 0 < times xs n) → 0 < times (x ∷ xs) n
    by true is rest = let same : times (x ∷ xs) n ≡ suc (times xs n) = ap (λ (b : Bool). cond b (suc (times xs n)) (times xs n)) is in omega (arith, same)
    by false is rest = let same : times (x ∷ xs) n ≡ times xs n = ap (λ (b : Bool). cond b (suc (times xs n)) (times xs n)) is in let some = rest (sym (ap (λ (b : Bool). b || has_number xs n) is) ∙ there) in omega (arith, same, some)

-- an edge that needs a path is one of its users
pub need_used : (graph : Graph) (e p : ℕ) → p < length graph.manifest.paths → has_number (needs_of graph e) p ≡ true → has_number (users_at graph p) e ≡ true
need_used graph e p low there = times_has (users_at graph p) e (let some = has_times (needs_of graph e) p there in let same = graph.using.counted p e low in omega (arith, some, same))

-- and its users need it
pub user_needs : (graph : Graph) (e p : ℕ) → p < length graph.manifest.paths → has_number (users_at graph p) e ≡ true → has_number (needs_of graph e) p ≡ true
user_needs graph e p low there = times_has (needs_of graph e) p (let some = has_times (users_at graph p) e there in let same = graph.using.counted p e low in omega (arith, some, same))

-- ---- makers come first, where they do so at each place

makers_by : (edges : List Edge) (recorded : ℕ → List (List ℕ)) (front es : List ℕ)
    → ((before after : List ℕ) (e : ℕ) → es ≡ before ++ e ∷ after → (p : List ℕ) (j : ℕ) → has (needs edges recorded (suc e)) p ≡ true → maker edges p ≡ Some j → has_number (map suc (front ++ before)) j ≡ true)
    → AreMakersFirst edges recorded (map suc front) (map suc es)
makers_by edges recorded front [] each = tt
makers_by edges recorded front (e ∷ es) each = (
  λ p j need is. subst (λ (l : List ℕ). has_number (map suc l) j ≡ true) (append-nil front) (each [] es e refl p j need is),
  subst (λ (l : List ℕ). AreMakersFirst edges recorded l (map suc es)) (map-append suc front (e ∷ []))
      (makers_by edges recorded (front ++ e ∷ []) es (λ before after d splits p j need is.
      subst (λ (l : List ℕ). has_number (map suc l) j ≡ true) (sym (append_assoc front (e ∷ []) before)) (each (e ∷ before) after d (ap (λ (l : List ℕ). e ∷ l) splits) p j need is))),
)

-- and so at each place, where they come first
makers_at : (edges : List Edge) (recorded : ℕ → List (List ℕ)) (front before : List ℕ) (e : ℕ) (rest : List ℕ) → AreMakersFirst edges recorded front (before ++ e ∷ rest) → (p : List ℕ) (j : ℕ) → has (needs edges recorded e) p ≡ true → maker edges p ≡ Some j → has_number (front ++ before) j ≡ true
makers_at edges recorded front [] e rest order p j need is = has_number-left front [] j (order.0 p j need is)
makers_at edges recorded front (x ∷ before) e rest order p j need is =
    subst (λ (l : List ℕ). has_number l j ≡ true) (append_assoc front (x ∷ []) before) (makers_at edges recorded (front ++ x ∷ []) before e rest order.1 p j need is)

-- ---- the cone

module _ (old new : Graph) (earlier later : ℕ → List (List ℕ)) (edges : List ℕ) (file : ℕ) (targets : List (List ℕ)) (cone : Cone) (grown : HasGrownTo old new earlier later edges file) (in_place : AreInPlace new cone edges)
    (was : IsConeOf (declared_by old).edges earlier targets cone.order.items cone.marks.items) where
  abbrev few : List Edge
  few = (declared_by old).edges

  abbrev many : List Edge
  many = (declared_by new).edges

  abbrev order : List ℕ
  order = cone.order.items

  abbrev path : List ℕ
  path = text_at old.manifest.paths file

  has_grown : HasGrown few many
  has_grown = grown_by path grown.additions few many grown.grown

  linked_old : IsLinksOf few earlier (links_of old)
  linked_old = links_are few earlier old.manifest.paths (links_of old) (graph_is old earlier grown.were)

  linked_new : IsLinksOf many later (links_of new)
  linked_new = links_are many later new.manifest.paths (links_of new) (graph_is new later grown.are)

  still_made : (p : List ℕ) (i : ℕ) → maker few p ≡ Some i → maker many p ≡ Some i
  still_made p i made = maker_still few many has_grown (none_twice new.manifest new.makers new.making new.apart) p i made

  listed_there : (d : ℕ) → is_listed (mark_at cone.marks.items d) ≡ true → has_number order d ≡ true
  listed_there d listed = sym (was.marked d) ∙ listed

  before_it : (before after : List ℕ) (e d : ℕ) → order ≡ before ++ e ∷ after → StandsBefore cone d e → has_number before d ≡ true
  before_it before after e d splits stands = in_front order cone.places.items cone.placed was.once before after e d splits (listed_there d stands.listed) stands.before

  -- what an edge needs is made in front of it
  made_in_front : (before after : List ℕ) (e : ℕ) → order ≡ before ++ e ∷ after → (j : ℕ) → HasMaker (links_of new) e j → has_number (map suc before) j ≡ true
  made_in_front before after e splits j found = subst (λ (n : ℕ). has_number (map suc before) n ≡ true) found.same (has_suc before found.number (elim (cases_Bool (has_number edges e)) [
    | inl there ↦ before_it before after e found.number splits ((in_place e there).needs found.place found.number found.within found.is)
    | inr absent ↦ of_other absent ((links_of old).maker (get_or (needs_of old e) found.place 0)) refl
  ]))
    where
      same_needs : has_number edges e ≡ false → needs_of new e ≡ needs_of old e
      same_needs absent = grown.alone.needs e absent

      within : has_number edges e ≡ false → found.place < length (needs_of old e)
      within absent = subst (λ (l : List ℕ). found.place < length l) (same_needs absent) found.within

      is_made : has_number edges e ≡ false → (links_of new).maker (get_or (needs_of old e) found.place 0) ≡ Some found.number
      is_made absent = subst (λ (l : List ℕ). (links_of new).maker (get_or l found.place 0) ≡ Some found.number) (same_needs absent) found.is

      place_split : map suc order ≡ map suc before ++ suc e ∷ map suc after
      place_split = ap (map suc) splits ∙ map-append suc before (e ∷ after)

      pred : (l : List ℕ) (n : ℕ) → has_number (map suc l) (suc n) ≡ true → has_number l n ≡ true
      pred l n there = let found_it = suc_has l (suc n) there in let same : found_it.0 ≡ n = omega (arith, found_it.1) in subst (λ (m : ℕ). has_number l m ≡ true) same found_it.2

      of_other : has_number edges e ≡ false → (o : Option ℕ) → (links_of old).maker (get_or (needs_of old e) found.place 0) ≡ o → has_number before found.number ≡ true
      of_other absent (Some m) made =
          let same : m ≡ found.number = same_some m found.number (sym (grown.alone.made (get_or (needs_of old e) found.place 0) m made) ∙ is_made absent) in
          let link = linked_old.linked e (suc found.number) record { place = found.place; number = found.number; within = within absent; is = made ∙ ap (λ (n : ℕ). Some n) same; same = refl } in
          pred before found.number
          (makers_at few earlier [] (map suc before) (suc e) (map suc after) (subst (AreMakersFirst few earlier []) place_split was.ordered) link.path (suc found.number) link.needed link.made)
      of_other absent None made = elim (grown.alone.makers (get_or (needs_of old e) found.place 0) found.number (is_made absent)) [
        | inl before_too ↦ absurd (none_some found.number (sym made ∙ before_too))
        | inr there ↦
            let q = get_or (needs_of old e) found.place 0 in
            let low = (graph_is new (recorded_by new) (λ i p. refl)).numbered e found.place found.within in
            let needed : has_number (needs_of new e) (get_or (needs_of new e) found.place 0) ≡ true = has_at (needs_of new e) found.place found.within in
            let used = need_used new e (get_or (needs_of new e) found.place 0) low needed in
            let used_q : has_number (users_at new q) e ≡ true = subst (λ (l : List ℕ). has_number (users_at new (get_or l found.place 0)) e ≡ true) (same_needs absent) used in
            let here : is_listed (mark_at cone.marks.items e) ≡ true = was.marked e ∙ subst (λ (l : List ℕ). has_number l e ≡ true) (sym splits) (middle before) in
            before_it before after e found.number splits ((in_place found.number there).users q e (new.making.made q found.number (is_made absent)) used_q here)
      ]
        where
          middle : (l : List ℕ) → has_number (l ++ e ∷ after) e ≡ true
          middle [] = or_left (e == e) (has_number after e) (eq-eqb e e refl)
          middle (x ∷ l) = or_right (x == e) (has_number (l ++ e ∷ after) e) (middle l)

  first : AreMakersFirst many later [] (map suc order)
  first = makers_by many later [] order (λ before after e splits p j need is. made_in_front before after e splits j (linked_new.complete e j record { path = p; needed = need; made = is }))

  -- what made a path makes it still, and what makes another is listed
  maker_cases : (p : List ℕ) (i : ℕ) → maker many p ≡ Some i → (maker few p ≡ Some i) ⊎ (has_number (map suc order) i ≡ true)
  maker_cases p i is = by (maker few p) refl
    where
      listed : (i : ℕ) → maker many p ≡ Some i → (edge_at few i).dyndep ≡ Some path → has_number (map suc order) i ≡ true
      listed zero is_it names = absurd (none_some path names)
      listed (suc e) is_it names = has_suc order e (listed_there e (in_place e (grown.alone.were e ∙ is_at (dyndep_at old e) file (names_number old e file grown.within names))).listed)

      by : (o : Option ℕ) → maker few p ≡ o → (maker few p ≡ Some i) ⊎ (has_number (map suc order) i ≡ true)
      by (Some k) made = inl (made ∙ (sym (still_made p k made) ∙ is))
      by None made = elim (cases_named (edge_at few i).dyndep path) [
        | inl names ↦ inr (listed i is names)
        | inr other ↦ absurd (none_some i (sym made ∙ maker_was i (subst (λ (x : Edge). has (outputs x) p ≡ true) (grown.grown.others i other) (maker_has many p i is))))
      ]
        where
          maker_was : (i : ℕ) → has (outputs (edge_at few i)) p ≡ true → maker few p ≡ Some i
          maker_was i makes = maker_is few p i (none_twice old.manifest old.makers old.making old.apart) makes

  still_needed : (j : ℕ) (p : List ℕ) → has (needs few earlier j) p ≡ true → has (needs many later j) p ≡ true
  still_needed j p need = elim (has-cases (inputs (edge_at few j)) (earlier j) p need) [
    | inl input ↦ has-left (inputs (edge_at many j)) (later j) p (has_grown.inputs j p input)
    | inr noted ↦ has-right (inputs (edge_at many j)) (later j) p (grown.stay j p noted)
  ]

  same_validations : (j : ℕ) → (edge_at many j).validations ≡ (edge_at few j).validations
  same_validations j = elim (cases_named (edge_at few j).dyndep path) [
    | inl named ↦ ap (λ (e : Edge). e.validations) (grown.grown.named j named).2
    | inr other ↦ ap (λ (e : Edge). e.validations) (grown.grown.others j other)
  ]

  still_in_cone : (i : ℕ) → IsInCone few earlier targets i → IsInCone many later targets i
  still_in_cone _ (Wanted i p wanted made) = Wanted i p wanted (still_made p i made)
  still_in_cone _ (Needed i j p below need made) = Needed i j p (still_in_cone j below) (still_needed j p need) (still_made p i made)
  still_in_cone _ (Validating i j p below named made) = Validating i j p (still_in_cone j below) (subst (λ (ps : List (List ℕ)). has ps p ≡ true) (sym (same_validations j)) named) (still_made p i made)

  pub cone_stays : IsConeOf many later targets order cone.marks.items
  cone_stays = record {
    fits = was.fits ∙ sym grown.grown.as_many;
    marked = was.marked;
    once = was.once;
    within = λ e there. still_in_cone (suc e) (was.within e there);
    all = λ i in_cone. cone_within many later targets (map suc order) first
        (λ p j target is. elim (maker_cases p j is) [
          | inl made ↦ was.all j (Wanted j p target made)
          | inr there ↦ there
        ])
        (λ k p j there named is. elim (maker_cases p j is) [
          | inl made ↦ was.all j (Validating j k p (inside k there) (subst (λ (ps : List (List ℕ)). has ps p ≡ true) (same_validations k) named) made)
          | inr listed ↦ listed
        ]) i in_cone;
    ordered = first;
  }
    where
      inside : (k : ℕ) → has_number (map suc order) k ≡ true → IsInCone few earlier targets k
      inside k there = let edge = suc_has order k there in subst (IsInCone few earlier targets) edge.1 (was.within edge.0 edge.2)
