-- A graph that gets more paths keeps the numbers of those that it has.
use Rattle.std.proofs.Common.{◌≡◌, ◌<◌, ◌==◌, ◌||◌, ◌⊎◌, inl, inr, bytes_eq, cond, Bool, true, false, ℕ, zero, suc, List, [], ◌∷◌, ◌++◌, length, get_or, slice_get, Option, Some, None, refl, sym, ◌∙◌, ap, subst, append_assoc, append-nil, arith}
use Rattle.std.proofs.lemmas.Bool.{eqb-true, eq-eqb, or_left, or_right}
use Rattle.std.proofs.lemmas.List.{map-append, length-append, get_or_append_left}
use Rattle.std.proofs.lemmas.Option.{slice_get_within, get_or_from_slice_get}
use Rattle.model.specs.Graph.{has, has_number}
use Rattle.theory.proofs.Lists.{same_some, same_bytes}
use Rattle.paths.specs.declared.manifest.Manifest.{Manifest}
use Rattle.paths.specs.Told.{text_at, texts_at, graph_of}
use Rattle.graph.specs.Fronts.{FrontsStay}
use Rattle.graph.specs.Grown.{HasNumbered, HasGained}
use Rattle.graph.specs.Held.{list_at}
use Rattle.graph.specs.declared.graph.Graph.{Graph}
use Rattle.theory.proofs.Mapped.{has_mapped}
use Rattle.work.specs.Recorded.{HasMorePaths, HasOnlyMorePaths, AreNumbered, IsNumberedToo, HaveJust}

-- ---- more paths

has_here : (m : ℕ) (numbers : List ℕ) → has_number (m ∷ numbers) m ≡ true
has_here m numbers = or_left (m == m) (has_number numbers m) (eq-eqb m m refl)

pub text_before : (paths more : List (List ℕ)) (p : ℕ) → p < length paths → text_at (paths ++ more) p ≡ text_at paths p
text_before paths more p lt = get_or_append_left paths more [] p lt

-- each list of users is still in front
fronts_none : (lists : List (List ℕ)) → FrontsStay lists lists
fronts_none lists p = record { more = []; grows = sym (append-nil (list_at lists p)) }

fronts_same : (old new : List (List ℕ)) → ((p : ℕ) → list_at new p ≡ list_at old p) → FrontsStay old new
fronts_same old new same p = record { more = []; grows = same p ∙ sym (append-nil (list_at old p)) }

fronts_then : (a b c : List (List ℕ)) → FrontsStay a b → FrontsStay b c → FrontsStay a c
fronts_then a b c one two p = record {
  more = (one p).more ++ (two p).more;
  grows = (two p).grows ∙ (ap (λ (l : List ℕ). l ++ (two p).more) (one p).grows ∙ append_assoc (list_at a p) (one p).more (two p).more);
}

pub more_none : (graph : Graph) → HasMorePaths graph graph
more_none graph = record { more = []; paths = sym (append-nil graph.manifest.paths); declared = refl; named = refl; defaults = refl; lines = refl; actions = refl; makers = refl; users = fronts_none graph.users }

pub more_then : (a b c : Graph) → HasMorePaths a b → HasMorePaths b c → HasMorePaths a c
more_then a b c one two = record {
  more = one.more ++ two.more;
  paths = two.paths ∙ (ap (λ (l : List (List ℕ)). l ++ two.more) one.paths ∙ append_assoc a.manifest.paths one.more two.more);
  declared = two.declared ∙ one.declared;
  named = two.named ∙ one.named;
  defaults = two.defaults ∙ one.defaults;
  lines = two.lines ∙ one.lines;
  actions = two.actions ∙ one.actions;
  makers = two.makers ∙ one.makers;
  users = fronts_then a.users b.users c.users one.users two.users;
}

pub only_none : (graph : Graph) → HasOnlyMorePaths graph graph
only_none graph = record { grown = more_none graph; recorded = refl }

pub only_same : (old new : Graph) → new ≡ old → HasOnlyMorePaths old new
only_same old new same = subst (λ (g : Graph). HasOnlyMorePaths old g) (sym {A = Graph} same) (only_none old)

pub only_then : (a b c : Graph) → HasOnlyMorePaths a b → HasOnlyMorePaths b c → HasOnlyMorePaths a c
only_then a b c one two = record { grown = more_then a b c one.grown two.grown; recorded = two.recorded ∙ one.recorded }

module _ (old new : Graph) (more : HasMorePaths old new) where
  pub within_more : (n : ℕ) → n < length old.manifest.paths → n < length new.manifest.paths
  within_more n lt = let long = ap length more.paths ∙ length-append old.manifest.paths more.more in omega (arith, long, lt)

  pub text_more : (n : ℕ) → n < length old.manifest.paths → text_at new.manifest.paths n ≡ text_at old.manifest.paths n
  text_more n lt = ap (λ (l : List (List ℕ)). text_at l n) more.paths ∙ text_before old.manifest.paths more.more n lt

  pub texts_more : (numbers : List ℕ) → ((n : ℕ) → has_number numbers n ≡ true → n < length old.manifest.paths) → texts_at new.manifest.paths numbers ≡ texts_at old.manifest.paths numbers
  texts_more [] within = refl
  texts_more (m ∷ numbers) within =
      let first = text_more m (within m (has_here m numbers)) in
      let rest = texts_more numbers (λ n h. within n (or_right (m == n) (has_number numbers n) h)) in
      ap (λ (t : List ℕ). t ∷ texts_at new.manifest.paths numbers) first ∙ ap (λ (l : List (List ℕ)). text_at old.manifest.paths m ∷ l) rest

  pub numbered_more : (texts : List (List ℕ)) (numbers : List (Option ℕ)) → AreNumbered old texts numbers → AreNumbered new texts numbers
  numbered_more texts numbers are k n is =
      let was = are k n is in
      (within_more n was.0, was.1 ∙ ap (λ (t : List ℕ). Some t) (sym {A = List ℕ} (text_more n was.0)))

  pub just_more : (numbers : List ℕ) (paths : List (List ℕ)) → HaveJust old numbers paths → HaveJust new numbers paths
  just_more numbers paths just = record {
    within = λ k n is. within_more n (just.within k n is);
    same = λ p. ap (λ (l : List (List ℕ)). has l p) (texts_listed numbers just.within) ∙ just.same p;
  }
    where
      texts_listed : (numbers : List ℕ) → ((k n : ℕ) → slice_get numbers k ≡ Some n → n < length old.manifest.paths) → texts_at new.manifest.paths numbers ≡ texts_at old.manifest.paths numbers
      texts_listed [] within = refl
      texts_listed (m ∷ numbers) within =
          ap (λ (t : List ℕ). t ∷ texts_at new.manifest.paths numbers) (text_more m (within 0 m refl))
          ∙ ap (λ (l : List (List ℕ)). text_at old.manifest.paths m ∷ l) (texts_listed numbers (λ k n is. within (suc k) n is))

-- ---- an edge gets recorded inputs

pub more_gained : (old new : Graph) (edge : ℕ) (inputs : List ℕ) → HasGained old new edge inputs → HasMorePaths old new
more_gained old new edge inputs gained = record {
  more = [];
  paths = ap (λ (m : Manifest). m.paths) gained.manifest ∙ sym (append-nil old.manifest.paths);
  declared = ap graph_of gained.manifest;
  named = ap (λ (m : Manifest). m.named) gained.manifest;
  defaults = ap (λ (m : Manifest). m.defaults) gained.manifest;
  lines = ap (λ (m : Manifest). m.lines) gained.manifest;
  actions = ap (λ (m : Manifest). m.actions) gained.manifest;
  makers = gained.makers;
  users = gained.users;
}

-- ---- a path gets a number

pub only_numbered : (old new : Graph) (path : List ℕ) (number : ℕ) → HasNumbered old new path number → HasOnlyMorePaths old new
only_numbered old new path number has_numbered = record {
  grown = record {
    more = by_test.0;
    paths = by_test.1;
    declared = has_numbered.declared;
    named = has_numbered.named;
    defaults = has_numbered.defaults;
    lines = has_numbered.lines;
    actions = has_numbered.actions;
    makers = has_numbered.makers;
    users = fronts_same old.users new.users has_numbered.users;
  };
  recorded = has_numbered.recorded;
}
  where
    choose : (there : Bool) → (more : List (List ℕ)) × (cond there old.manifest.paths (old.manifest.paths ++ path ∷ []) ≡ old.manifest.paths ++ more)
    choose true = ([], sym (append-nil old.manifest.paths))
    choose false = (path ∷ [], refl)

    by_test : (more : List (List ℕ)) × (new.manifest.paths ≡ old.manifest.paths ++ more)
    by_test = let chosen = choose (has old.manifest.paths path) in (chosen.0, has_numbered.added.grows ∙ chosen.1)

pub has_its_number : (old new : Graph) (path : List ℕ) (number : ℕ) → HasNumbered old new path number → (number < length new.manifest.paths) × (text_at new.manifest.paths number ≡ path)
has_its_number old new path number has_numbered =
    (slice_get_within new.manifest.paths number path has_numbered.added.at, get_or_from_slice_get new.manifest.paths number path [] has_numbered.added.at)

-- ---- numbers of paths of a log

pub numbered_same : (graph : Graph) (texts : List (List ℕ)) (old new : List (Option ℕ)) → ((k : ℕ) → get_or new k None ≡ get_or old k None) → AreNumbered graph texts old → AreNumbered graph texts new
numbered_same graph texts old new same are k n is = are k n (sym (same k) ∙ is)

-- a path that has a number has its own
pub number_held : (graph : Graph) (texts : List (List ℕ)) (numbers : List (Option ℕ)) (path number : ℕ) (text : List ℕ) → AreNumbered graph texts numbers → get_or numbers path None ≡ Some number → slice_get texts path ≡ Some text
    → (number < length graph.manifest.paths) × (text_at graph.manifest.paths number ≡ text)
number_held graph texts numbers path number text are is there =
    let held = are path number is in
    (held.0, same_some (text_at graph.manifest.paths number) text (sym held.1 ∙ there))

pub numbered_too : (graph : Graph) (texts : List (List ℕ)) (old new : List (Option ℕ)) (path number : ℕ) (text : List ℕ) → slice_get texts path ≡ Some text → number < length graph.manifest.paths → text_at graph.manifest.paths number ≡ text
    → IsNumberedToo path number old new → AreNumbered graph texts old → AreNumbered graph texts new
numbered_too graph texts old new path number text there within named too are k n is = by_test (k == path) refl (sym (too k) ∙ is)
  where
    by_test : (b : Bool) → k == path ≡ b → cond b (Some number) (get_or old k None) ≡ Some n → (n < length graph.manifest.paths) × (slice_get texts k ≡ Some (text_at graph.manifest.paths n))
    by_test true same some =
        let is_number = same_some number n some in (
          subst (λ (m : ℕ). m < length graph.manifest.paths) is_number within,
          ap (slice_get texts) (eqb-true k path same) ∙ (there ∙ ap (λ (t : List ℕ). Some t) (sym {A = List ℕ} named ∙ ap (text_at graph.manifest.paths) is_number)),
        )
    by_test false other some = are k n some

-- ---- lists of numbers that have just some paths

-- whether a path is in either list
pub has_both : (ps qs : List (List ℕ)) (p : List ℕ) → has (ps ++ qs) p ≡ cond (has ps p) true (has qs p)
has_both [] qs p = refl
has_both (q ∷ ps) qs p = by_test (bytes_eq q p) (has_both ps qs p)
  where
    by_test : (b : Bool) → has (ps ++ qs) p ≡ cond (has ps p) true (has qs p) → (b || has (ps ++ qs) p) ≡ cond (b || has ps p) true (has qs p)
    by_test true rest = refl
    by_test false rest = rest

-- lists that have the same paths have the same where the same is put behind them
pub same_behind : (ps qs rs ss : List (List ℕ)) (p : List ℕ) → has ps p ≡ has qs p → has rs p ≡ has ss p → has (ps ++ rs) p ≡ has (qs ++ ss) p
same_behind ps qs rs ss p one two = has_both ps rs p ∙ (ap (λ (b : Bool). cond b true (has rs p)) one ∙ (ap (λ (b : Bool). cond (has qs p) true b) two ∙ sym (has_both qs ss p)))

pub just_push : (graph : Graph) (numbers new : List ℕ) (paths : List (List ℕ)) (number : ℕ) → HaveJust graph numbers paths → number < length graph.manifest.paths → new ≡ numbers ++ number ∷ []
    → HaveJust graph new (paths ++ text_at graph.manifest.paths number ∷ [])
just_push graph numbers new paths number just lt is =
    subst (λ (l : List ℕ). HaveJust graph l (paths ++ text_at graph.manifest.paths number ∷ [])) (sym {A = List ℕ} is) (
    record {
      within = λ k n at. listed numbers just.within k n at;
      same = λ p.
          ap (λ (l : List (List ℕ)). has l p) (map-append (text_at graph.manifest.paths) numbers (number ∷ []))
          ∙ same_behind (texts_at graph.manifest.paths numbers) paths (text_at graph.manifest.paths number ∷ []) (text_at graph.manifest.paths number ∷ []) p (just.same p) refl;
    }
    )
  where
    none_some : (n : ℕ) → None ≡ Some n → ⊥
    none_some n e = cc

    listed : (ns : List ℕ) → ((k n : ℕ) → slice_get ns k ≡ Some n → n < length graph.manifest.paths) → (k n : ℕ) → slice_get (ns ++ number ∷ []) k ≡ Some n → n < length graph.manifest.paths
    listed [] within zero n at = subst (λ (m : ℕ). m < length graph.manifest.paths) (same_some number n at) lt
    listed [] within (suc k) n at = absurd (none_some n at)
    listed (m ∷ ns) within zero n at = within 0 n at
    listed (m ∷ ns) within (suc k) n at = listed ns (λ j i is. within (suc j) i is) k n at

-- the same list of paths, written otherwise
pub just_as : (graph : Graph) (numbers : List ℕ) (paths others : List (List ℕ)) → ((p : List ℕ) → has paths p ≡ has others p) → HaveJust graph numbers paths → HaveJust graph numbers others
just_as graph numbers paths others same just = record { within = just.within; same = λ p. just.same p ∙ same p }

pub just_is : (graph : Graph) (numbers : List ℕ) (paths others : List (List ℕ)) → paths ≡ others → HaveJust graph numbers paths → HaveJust graph numbers others
just_is graph numbers paths others is just = subst (λ (l : List (List ℕ)). HaveJust graph numbers l) is just

-- ---- sets of numbers

-- a path more that is there already
pub has_again : (paths : List (List ℕ)) (text : List ℕ) → has paths text ≡ true → (p : List ℕ) → has paths p ≡ has (paths ++ text ∷ []) p
has_again paths text there p = by_test (bytes_eq text p) refl ∙ sym (has_both paths (text ∷ []) p)
  where
    or_true : (b : Bool) → b ≡ cond b true false
    or_true true = refl
    or_true false = refl

    by_test : (b : Bool) → bytes_eq text p ≡ b → has paths p ≡ cond (has paths p) true (b || false)
    by_test true same = let here = subst (λ (t : List ℕ). has paths t ≡ true) (same_bytes text p same) there in here ∙ sym (ap (λ (b : Bool). cond b true true) here)
    by_test false other = or_true (has paths p)

pub just_insert : (graph : Graph) (numbers new : List ℕ) (paths : List (List ℕ)) (number : ℕ) → HaveJust graph numbers paths → number < length graph.manifest.paths
    → ((has_number numbers number ≡ true) × (new ≡ numbers)) ⊎ (new ≡ numbers ++ number ∷ []) → HaveJust graph new (paths ++ text_at graph.manifest.paths number ∷ [])
just_insert graph numbers new paths number just lt put = elim put [
  | inl held ↦
      subst (λ (l : List ℕ). HaveJust graph l (paths ++ text ∷ [])) (sym {A = List ℕ} held.1)
      (just_as graph numbers paths (paths ++ text ∷ []) (has_again paths text (sym (just.same text) ∙ has_mapped (text_at graph.manifest.paths) numbers number held.0)) just)
  | inr fresh ↦ just_push graph numbers new paths number just lt fresh
]
  where
    text : List ℕ
    text = text_at graph.manifest.paths number
