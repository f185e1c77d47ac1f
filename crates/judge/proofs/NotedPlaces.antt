-- The places in the order of a cone that are noted, one edge more after another.
use Rattle.std.proofs.Common.{◌≡◌, inl, inr, ℕ, zero, suc, ◌+◌, ◌<◌, ◌==◌, Bool, true, false, List, [], ◌∷◌, ◌++◌, cond, length, take, get_or, refl, sym, ◌∙◌, ap, subst, arith}
use Rattle.std.proofs.Math.ListN.{set}
use Rattle.std.proofs.lemmas.Bool.{false≢true, cases_Bool, cases_lt, or_cases, or_left, or_right}
use Rattle.std.proofs.lemmas.List.{take_more, map-append, length-set, get_or_past, get_or-set_same, get_or-set_other}
use Rattle.model.specs.Graph.{has_number}
use Rattle.theory.proofs.Lists.{has_number-left, has_number-right, has_number-cases, has_number-is, has_number-one}
use Rattle.paths.specs.declared.line.Line.{Line}
use Rattle.paths.specs.Lists.{no_line, line_at, line_inputs}
use Rattle.graph.specs.declared.cone.Cone.{Cone}
use Rattle.graph.specs.declared.back.LoadedEdge.{LoadedEdge}
use Rattle.graph.specs.declared.graph.Graph.{Graph}
use Rattle.graph.specs.Cone.{mark_at, is_listed}
use Rattle.graph.specs.Held.{list_at, times}
use Rattle.graph.specs.Links.{links_of, needs_of, users_at}
use Rattle.graph.specs.LoadedEdges.{numbers_in}
use Rattle.plan.specs.Flags.{has}
use Rattle.judge.specs.declared.dues.Dues.{Dues}
use Rattle.judge.specs.Dues.{due_at}
use Rattle.judge.specs.KeptDues.{AreMarksOf, place_of, StandsAmong, NotesEdges, NotesUsers, NotesGrown, NotesFound}
use Rattle.judge.proofs.NumbersAsTexts.{same_or_other, has_here}

-- ---- how often a number stands in a list

one_time : (m n : ℕ) → (m == n) ≡ true → (ms : List ℕ) → times (m ∷ ms) n ≡ suc (times ms n)
one_time m n is ms = ap (λ (b : Bool). cond b (suc (times ms n)) (times ms n)) is

no_time : (m n : ℕ) → (m == n) ≡ false → (ms : List ℕ) → times (m ∷ ms) n ≡ times ms n
no_time m n is ms = ap (λ (b : Bool). cond b (suc (times ms n)) (times ms n)) is

pub times_of : (xs : List ℕ) (n : ℕ) → has_number xs n ≡ true → 0 < times xs n
times_of [] n h = absurd (false≢true h)
times_of (x ∷ xs) n h = elim (cases_Bool (x == n)) [
  | inl here ↦ let one = one_time x n here xs in omega (arith, one)
  | inr other ↦
      let later : has_number xs n ≡ true = elim (or_cases (x == n) (has_number xs n) h) [ inl here ↦ absurd (false≢true (sym other ∙ here)) | inr rest ↦ rest ] in
      let rest = times_of xs n later in
      let same = no_time x n other xs in
      omega (arith, rest, same)
]

pub has_times : (xs : List ℕ) (n : ℕ) → 0 < times xs n → has_number xs n ≡ true
has_times [] n some = absurd (omega (arith, some))
has_times (x ∷ xs) n some = elim (cases_Bool (x == n)) [
  | inl here ↦ or_left (x == n) (has_number xs n) here
  | inr other ↦ let same = no_time x n other xs in or_right (x == n) (has_number xs n) (has_times xs n (omega (arith, some, same)))
]

-- an edge that needs a path is one of the graph
pub needer_within : (graph : Graph) (e p : ℕ) → has_number (needs_of graph e) p ≡ true → e < length graph.manifest.lines
needer_within graph e p needed = elim (cases_lt e (length graph.manifest.lines)) [
  | inl lt ↦ lt
  | inr past ↦
      let line : line_at graph.manifest.lines e ≡ no_line = get_or_past graph.manifest.lines e no_line past in
      let recorded : list_at graph.recorded e ≡ [] = get_or_past graph.recorded e [] (let fit = graph.recording.fits in omega (arith, past, fit)) in
      absurd (false≢true (sym (ap (λ (l : Line). has_number (line_inputs l ++ list_at graph.recorded e) p) line ∙ ap (λ (l : List ℕ). has_number ([] ++ l) p) recorded) ∙ needed))
]

-- and so is each user of a path
pub user_needs : (graph : Graph) (p : ℕ) (users : List ℕ) → ((e : ℕ) → times users e ≡ times (needs_of graph e) p) → (e : ℕ) → has_number users e ≡ true → has_number (needs_of graph e) p ≡ true
user_needs graph p users counted e listed = has_times (needs_of graph e) p (let some = times_of users e listed in let same = counted e in omega (arith, some, same))

pub needs_user : (graph : Graph) (p : ℕ) (users : List ℕ) → ((e : ℕ) → times users e ≡ times (needs_of graph e) p) → (e : ℕ) → has_number (needs_of graph e) p ≡ true → has_number users e ≡ true
needs_user graph p users counted e needed = has_times users e (let some = times_of (needs_of graph e) p needed in let same = counted e in omega (arith, some, same))

-- the number of an edge of the list
pub numbers_has : (edges : List LoadedEdge) (k : ℕ) (d : LoadedEdge) → k < length edges → has_number (numbers_in edges) (get_or edges k d).edge ≡ true
numbers_has [] k d lt = absurd (omega (arith, lt))
numbers_has (x ∷ xs) zero d lt = has_here x.edge (numbers_in xs)
numbers_has (x ∷ xs) (suc k) d lt = or_right (x.edge == (get_or xs k d).edge) (has_number (numbers_in xs) (get_or xs k d).edge) (numbers_has xs k d (omega (arith, lt)))

-- ---- some edges

module _ (cone : Cone) where
  -- none
  pub notes_none : (dues : Dues) → NotesEdges cone [] dues dues
  notes_none dues = record { known = refl; flags = refl; fresh = refl; fits = refl; more = λ k was. was; all = λ e given. absurd (false≢true given); only = λ k now. inl now }

  -- one that is not in the cone
  pub notes_outside : AreMarksOf cone → (e : ℕ) → is_listed (mark_at cone.marks.items e) ≡ false → (dues : Dues) → NotesEdges cone (e ∷ []) dues dues
  notes_outside marks e outside dues = record {
    known = refl;
    flags = refl;
    fresh = refl;
    fits = refl;
    more = λ k was. was;
    all = λ q given listed. absurd (false≢true (sym outside ∙ (marks e ∙ subst (λ (n : ℕ). has_number cone.order.items n ≡ true) (sym {A = ℕ} (has_number-is e q given)) listed)));
    only = λ k now. inl now;
  }

  -- one that is
  pub notes_one : (e : ℕ) → has_number cone.order.items e ≡ true → (old new : Dues) → place_of cone e < length old.todo → new.known ≡ old.known → new.flags.items ≡ old.flags.items → new.fresh ≡ old.fresh → new.todo ≡ set old.todo (place_of cone e) true
      → NotesEdges cone (e ∷ []) old new
  notes_one e listed old new low known flags fresh is = record {
    known = known;
    flags = flags;
    fresh = fresh;
    fits = ap (λ (l : List Bool). length l) is ∙ length-set old.todo (place_of cone e) true;
    more = λ k was. elim (same_or_other (place_of cone e) k) [
      | inl here ↦ at_place k here
      | inr other ↦ elsewhere k other ∙ was
    ];
    all = λ q given there. at_place (place_of cone q) (ap (place_of cone) (sym {A = ℕ} (has_number-is e q given)));
    only = λ k now. elim (same_or_other (place_of cone e) k) [
      | inl here ↦ inr (record { edge = e; given = has_number-one e; listed = listed; place = sym {A = ℕ} here })
      | inr other ↦ inl (sym (elsewhere k other) ∙ now)
    ];
  }
    where
      at_place : (k : ℕ) → k ≡ place_of cone e → has new.todo k ≡ true
      at_place k here = ap (λ (l : List Bool). has l k) is ∙ (ap (λ (n : ℕ). has (set old.todo (place_of cone e) true) n) here ∙ get_or-set_same old.todo (place_of cone e) true false low)

      elsewhere : (k : ℕ) → (k ≡ place_of cone e → ⊥) → has new.todo k ≡ has old.todo k
      elsewhere k other = ap (λ (l : List Bool). has l k) is ∙ get_or-set_other old.todo (place_of cone e) k true false other

  among_more : (xs ys : List ℕ) (k : ℕ) → ((e : ℕ) → has_number xs e ≡ true → has_number ys e ≡ true) → StandsAmong cone xs k → StandsAmong cone ys k
  among_more xs ys k more at = record { edge = at.edge; given = more at.edge at.given; listed = at.listed; place = at.place }

  -- and one more
  pub notes_more : (edges : List ℕ) (k d : ℕ) → k < length edges → (old mid new : Dues) → NotesEdges cone (take k edges) old mid → NotesEdges cone (get_or edges k d ∷ []) mid new → NotesEdges cone (take (k + 1) edges) old new
  notes_more edges k d lt old mid new first second = record {
    known = second.known ∙ first.known;
    flags = second.flags ∙ first.flags;
    fresh = second.fresh ∙ first.fresh;
    fits = second.fits ∙ first.fits;
    more = λ n was. second.more n (first.more n was);
    all = λ e given listed. elim (has_number-cases (take k edges) (get_or edges k d ∷ []) e (subst (λ (l : List ℕ). has_number l e ≡ true) (take_more edges k d lt) given)) [
      | inl early ↦ second.more (place_of cone e) (first.all e early listed)
      | inr here ↦ second.all e here listed
    ];
    only = λ n now. elim (second.only n now) [
      | inl was ↦ elim (first.only n was) [
        | inl before ↦ inl before
        | inr among ↦ inr (among_more (take k edges) (take (k + 1) edges) n (λ e given. subst (λ (l : List ℕ). has_number l e ≡ true) (sym (take_more edges k d lt)) (left e given)) among)
      ]
      | inr among ↦ inr (among_more (get_or edges k d ∷ []) (take (k + 1) edges) n (λ e given. subst (λ (l : List ℕ). has_number l e ≡ true) (sym (take_more edges k d lt)) (right e given)) among)
    ];
  }
    where
      left : (e : ℕ) → has_number (take k edges) e ≡ true → has_number (take k edges ++ get_or edges k d ∷ []) e ≡ true
      left e given = has_number-left (take k edges) (get_or edges k d ∷ []) e given

      right : (e : ℕ) → has_number (get_or edges k d ∷ []) e ≡ true → has_number (take k edges ++ get_or edges k d ∷ []) e ≡ true
      right e given = has_number-right (take k edges) (get_or edges k d ∷ []) e given

-- ---- those that need some paths

module _ (graph : Graph) (cone : Cone) where
  pub users_none : (dues : Dues) → NotesUsers graph cone [] dues dues
  users_none dues = record { known = refl; flags = refl; fresh = refl; fits = refl; more = λ k was. was; all = λ p e given. absurd (false≢true given); only = λ k now. inl now }

  pub users_more : (paths : List ℕ) (k d : ℕ) → k < length paths → (old mid new : Dues) → NotesUsers graph cone (take k paths) old mid → NotesEdges cone (users_at graph (get_or paths k d)) mid new → NotesUsers graph cone (take (k + 1) paths) old new
  users_more paths k d lt old mid new first second = record {
    known = second.known ∙ first.known;
    flags = second.flags ∙ first.flags;
    fresh = second.fresh ∙ first.fresh;
    fits = second.fits ∙ first.fits;
    more = λ n was. second.more n (first.more n was);
    all = λ p e given uses listed. elim (has_number-cases (take k paths) (get_or paths k d ∷ []) p (subst (λ (l : List ℕ). has_number l p ≡ true) (take_more paths k d lt) given)) [
      | inl early ↦ second.more (place_of cone e) (first.all p e early uses listed)
      | inr here ↦ second.all e (subst (λ (q : ℕ). has_number (users_at graph q) e ≡ true) (sym {A = ℕ} (has_number-is (get_or paths k d) p here)) uses) listed
    ];
    only = λ n now. elim (second.only n now) [
      | inl was ↦ elim (first.only n was) [
        | inl before ↦ inl before
        | inr among ↦ inr (record { path = among.path; given = subst (λ (l : List ℕ). has_number l among.path ≡ true) (sym (take_more paths k d lt)) (has_number-left (take k paths) (get_or paths k d ∷ []) among.path among.given); user = among.user })
      ]
      | inr among ↦ inr (record { path = get_or paths k d; given = subst (λ (l : List ℕ). has_number l (get_or paths k d) ≡ true) (sym (take_more paths k d lt)) (has_number-right (take k paths) (get_or paths k d ∷ []) (get_or paths k d) (has_number-one (get_or paths k d))); user = among })
    ];
  }

  -- ---- edges whose file was loaded

  pub grown_none : (dues : Dues) → NotesGrown graph cone [] dues dues
  grown_none dues = record {
    known = refl;
    flags = refl;
    fresh = refl;
    fits = refl;
    more = λ k was. was;
    all = λ e given. absurd (false≢true given);
    users = λ e given. absurd (false≢true given);
    only = λ k now. inl now;
  }

  -- one more, and the edges that need what it makes
  pub grown_more : (edges : List ℕ) (e : ℕ) (old one two new : Dues) → NotesGrown graph cone edges old one → NotesEdges cone (e ∷ []) one two → NotesUsers graph cone ((links_of graph).outputs e) two new → NotesGrown graph cone (edges ++ e ∷ []) old new
  grown_more edges e old one two new first second third = record {
    known = third.known ∙ (second.known ∙ first.known);
    flags = third.flags ∙ (second.flags ∙ first.flags);
    fresh = third.fresh ∙ (second.fresh ∙ first.fresh);
    fits = third.fits ∙ (second.fits ∙ first.fits);
    more = λ k was. third.more k (second.more k (first.more k was));
    all = λ q given listed. elim (has_number-cases edges (e ∷ []) q given) [
      | inl early ↦ third.more (place_of cone q) (second.more (place_of cone q) (first.all q early listed))
      | inr here ↦ third.more (place_of cone q) (second.all q here listed)
    ];
    users = λ q given p r makes uses listed. elim (has_number-cases edges (e ∷ []) q given) [
      | inl early ↦ third.more (place_of cone r) (second.more (place_of cone r) (first.users q early p r makes uses listed))
      | inr here ↦ third.all p r (subst (λ (n : ℕ). has_number ((links_of graph).outputs n) p ≡ true) (sym {A = ℕ} (has_number-is e q here)) makes) uses listed
    ];
    only = λ k now. elim (third.only k now) [
      | inl two_is ↦ elim (second.only k two_is) [
        | inl one_is ↦ first.only k one_is
        | inr among ↦ inr (low among.edge among.listed k among.place)
      ]
      | inr among ↦ inr (low among.user.edge among.user.listed k among.user.place)
    ];
  }
    where
      low : (q : ℕ) → has_number cone.order.items q ≡ true → (k : ℕ) → place_of cone q ≡ k → k < length cone.order.items
      low q listed k same = subst (λ (n : ℕ). n < length cone.order.items) same (cone.placed q listed).0

  pub grown_next : (edges : List LoadedEdge) (k : ℕ) (d : LoadedEdge) → k < length edges → (old one two new : Dues) → NotesGrown graph cone (numbers_in (take k edges)) old one → NotesEdges cone ((get_or edges k d).edge ∷ []) one two
      → NotesUsers graph cone ((links_of graph).outputs (get_or edges k d).edge) two new → NotesGrown graph cone (numbers_in (take (k + 1) edges)) old new
  grown_next edges k d lt old one two new first second third =
      subst (λ (l : List ℕ). NotesGrown graph cone l old new) (sym (ap numbers_in (take_more edges k d lt) ∙ map-append (λ (l : LoadedEdge). l.edge) (take k edges) (get_or edges k d ∷ [])))
      (grown_more (numbers_in (take k edges)) (get_or edges k d).edge old one two new first second third)

  -- ---- one that was found again

  module _ (e : ℕ) (is : Bool) (old : Dues) (todo : List Bool) (low : place_of cone e < length old.todo) (gone : todo ≡ set old.todo (place_of cone e) false) where
    taken : has todo (place_of cone e) ≡ false
    taken = ap (λ (l : List Bool). has l (place_of cone e)) gone ∙ get_or-set_same old.todo (place_of cone e) false false low

    left : (k : ℕ) → (k ≡ place_of cone e → ⊥) → has todo k ≡ has old.todo k
    left k other = ap (λ (l : List Bool). has l k) gone ∙ get_or-set_other old.todo (place_of cone e) k false false other

    room_same : length todo ≡ length old.todo
    room_same = ap (λ (l : List Bool). length l) gone ∙ length-set old.todo (place_of cone e) false

    -- those that are noted were, and stand elsewhere
    noted_before : (k : ℕ) → has todo k ≡ true → (has old.todo k ≡ true) × ((k ≡ place_of cone e) → ⊥)
    noted_before k now = elim (same_or_other (place_of cone e) k) [
      | inl here ↦ absurd (false≢true (sym taken ∙ subst (λ (n : ℕ). has todo n ≡ true) here now))
      | inr other ↦ (sym (left k other) ∙ now, other)
    ]

    -- its flag is as it was
    pub found_same : due_at old.flags.items e ≡ is → (new : Dues) → new.known ≡ old.known → new.flags.items ≡ old.flags.items → new.todo ≡ todo → new.fresh ≡ set old.fresh e true → NotesFound graph cone e is old new
    found_same same new known flags is_todo fresh = record {
      known = known;
      fresh = fresh;
      fits = ap (λ (l : List Bool). length l) flags;
      room = ap (λ (l : List Bool). length l) is_todo ∙ room_same;
      flag = ap (λ (l : List Bool). due_at l e) flags ∙ same;
      others = λ q other. ap (λ (l : List Bool). due_at l q) flags;
      more = λ k other was. ap (λ (l : List Bool). has l k) is_todo ∙ (left k other ∙ was);
      users = inl (ap (λ (l : List Bool). due_at l e) flags);
      only = λ k now. inl (noted_before k (sym (ap (λ (l : List Bool). has l k) is_todo) ∙ now));
    }

    -- it has changed, and those that need what the edge makes were noted then
    pub found_other : e < length old.flags.items → (mid new : Dues) → mid.known ≡ old.known → mid.flags.items ≡ set old.flags.items e is → mid.todo ≡ todo → mid.fresh ≡ set old.fresh e true → NotesUsers graph cone ((links_of graph).outputs e) mid new
        → NotesFound graph cone e is old new
    found_other fits mid new known flags is_todo fresh notes = record {
      known = notes.known ∙ known;
      fresh = notes.fresh ∙ fresh;
      fits = ap (λ (l : List Bool). length l) (notes.flags ∙ flags) ∙ length-set old.flags.items e is;
      room = notes.fits ∙ (ap (λ (l : List Bool). length l) is_todo ∙ room_same);
      flag = ap (λ (l : List Bool). due_at l e) (notes.flags ∙ flags) ∙ get_or-set_same old.flags.items e is false fits;
      others = λ q other. ap (λ (l : List Bool). due_at l q) (notes.flags ∙ flags) ∙ get_or-set_other old.flags.items e q is false other;
      more = λ k other was. notes.more k (ap (λ (l : List Bool). has l k) is_todo ∙ (left k other ∙ was));
      users = inr notes.all;
      only = λ k now. elim (notes.only k now) [
        | inl was ↦ inl (noted_before k (sym (ap (λ (l : List Bool). has l k) is_todo) ∙ was))
        | inr among ↦ inr among
      ];
    }
