-- Sources that were seen to be there: no target is missing, nor an input of a due edge.
use Rattle.std.proofs.Common.{◌≡◌, inl, inr, ℕ, ◌+◌, ◌<◌, ◌≤◌, ◌==◌, Bool, true, false, List, [], ◌∷◌, Option, Some, None, IfNone, take, get_or, length, sym, ◌∙◌, ap, subst, arith}
use Rattle.std.proofs.Math.ListN.{set}
use Rattle.std.proofs.lemmas.Bool.{false≢true, cases_Bool, cases_lt, or_right}
use Rattle.std.proofs.lemmas.List.{take_more, length-set, get_or_past, get_or-set_same, get_or-set_other}
use Rattle.model.specs.declared.event.Moment.{Moment}
use Rattle.model.specs.declared.graph.Edge.{Edge}
use Rattle.model.specs.World.{World, file_at}
use Rattle.model.specs.Graph.{has_number, inputs}
use Rattle.model.specs.OutOfDate.{IsMissing, NoneIsMissing}
use Rattle.theory.proofs.Lists.{has_number-cases, has_number-is, some_none}
use Rattle.paths.specs.Told.{text_at, texts_at}
use Rattle.graph.specs.declared.cone.Cone.{Cone}
use Rattle.graph.specs.declared.graph.Graph.{Graph}
use Rattle.graph.specs.Linked.{StandFor}
use Rattle.graph.specs.Links.{links_of}
use Rattle.graph.specs.Told.{declared_by}
use Rattle.plan.specs.Flags.{has, AreNone}
use Rattle.judge.specs.declared.dues.Dues.{Dues}
use Rattle.judge.specs.declared.lack.Lack.{Lack}
use Rattle.judge.specs.declared.looks.Looks.{Looks}
use Rattle.judge.specs.declared.looks.Look.{Look}
use Rattle.judge.specs.Looking.{HasLooked}
use Rattle.judge.specs.Seen.{AreSeenOf, StaysKnown}
use Rattle.judge.specs.Quiet.{AreSameOf, IfStill}
use Rattle.judge.specs.Dues.{due_at, AreListed, IsSourceIn, AreSourcesIn, HasAllSources}
use Rattle.judge.specs.Lacks.{NoneBelow, IsFirstIn, IsFoundOfDue}
use Rattle.judge.specs.Ruled.{IsAbsentAsked}
use Rattle.judge.specs.KeptDues.{place_of, edge_of_place, NotesEdges, NotesFound, IsSourceSeen, AreSourcesSeen, LacksNoneOf, LacksNoneBut}
use Rattle.judge.proofs.AliasDues.{there_none, no_number}
use Rattle.judge.proofs.AskedAny.{absent_stays}
use Rattle.judge.proofs.NumbersAsTexts.{same_or_other, has_here}
use Rattle.judge.proofs.RuledAliases.{absent_same}

-- ---- what was seen stays

module _ (graph : Graph) (seen new : List Look) (stays : StaysKnown seen new) where
  pub source_stays : (p : ℕ) → IsSourceSeen graph seen p → IsSourceSeen graph new p
  source_stays p was source =
      let is = was source in
      let both = absent_stays seen new stays p is.0 in
      (both.0, both.1 ∙ is.1)

  pub sources_stay : (paths : List ℕ) → AreSourcesSeen graph seen paths → AreSourcesSeen graph new paths
  sources_stay paths was p listed = source_stays p (was p listed)

  pub lacks_stay : (cone : Cone) (dues : Dues) → LacksNoneBut graph cone seen dues → LacksNoneBut graph cone new dues
  lacks_stay cone dues was = record {
    room = was.room;
    targets = sources_stay cone.targets.items was.targets;
    edges = λ e due out old. sources_stay ((links_of graph).inputs e) (was.edges e due out old);
  }

-- it was asked for just now
pub source_asked : (graph : Graph) (seen : List Look) (p : ℕ) (is : Bool) → IsAbsentAsked seen p is → is ≡ false → IsSourceSeen graph seen p
source_asked graph seen p is absent so source = (absent.asked, absent.same ∙ so)

pub if_none_then : {A P Q : Type 0} → (o : Option A) → IfNone o P → (P → Q) → IfNone o Q
if_none_then None p f = f p
if_none_then (Some x) p f = tt

pub none_given : {A P : Type 0} → (o : Option A) → o ≡ None → IfNone o P → P
none_given None none p = p
none_given (Some x) none p = absurd (some_none x none)

-- a due edge is one that has a flag
pub due_within : (due : List Bool) (e : ℕ) → due_at due e ≡ true → e < length due
due_within due e is = elim (cases_lt e (length due)) [
  | inl lt ↦ lt
  | inr past ↦ absurd (false≢true (sym (get_or_past due e false past) ∙ is))
]

-- so it is of one number more
pub each_more : (P : ℕ → Type 0) (k : ℕ) → ((n : ℕ) → n < k → P n) → P k → (n : ℕ) → n < k + 1 → P n
each_more P k was here n lt = elim (cases_lt n k) [
  | inl early ↦ was n early
  | inr past ↦ let same : n ≡ k = omega (arith, lt, past) in subst P (sym {A = ℕ} same) here
]

-- one path more
pub sources_more : (graph : Graph) (seen new : List Look) → StaysKnown seen new → (paths : List ℕ) (k d : ℕ) → k < length paths → AreSourcesSeen graph seen (take k paths) → IsSourceSeen graph new (get_or paths k d) → AreSourcesSeen graph new (take (k + 1) paths)
sources_more graph seen new stays paths k d lt was one p listed = elim (has_number-cases (take k paths) (get_or paths k d ∷ []) p (subst (λ (l : List ℕ). has_number l p ≡ true) (take_more paths k d lt) listed)) [
  | inl early ↦ source_stays graph seen new stays p (was p early)
  | inr here ↦ subst (λ (q : ℕ). IsSourceSeen graph new q) (has_number-is (get_or paths k d) p here) one
]

-- one edge more
pub inputs_more : (graph : Graph) (seen new : List Look) → StaysKnown seen new → (due : List Bool) (k : ℕ) → ((e : ℕ) → e < k → due_at due e ≡ true → AreSourcesSeen graph seen ((links_of graph).inputs e)) → (n : ℕ) → n ≡ k
    → (due_at due n ≡ true → AreSourcesSeen graph new ((links_of graph).inputs n)) → (e : ℕ) → e < k + 1 → due_at due e ≡ true → AreSourcesSeen graph new ((links_of graph).inputs e)
inputs_more graph seen new stays due k was n same one e lt is = elim (same_or_other n e) [
  | inl here ↦ subst (λ (q : ℕ). AreSourcesSeen graph new ((links_of graph).inputs q)) (sym {A = ℕ} here) (one (subst (λ (q : ℕ). due_at due q ≡ true) here is))
  | inr other ↦ sources_stay graph seen new stays ((links_of graph).inputs e) (was e (low other) is)
]
  where
    low : (e ≡ n → ⊥) → e < k
    low other = elim (cases_lt e k) [
      | inl early ↦ early
      | inr past ↦ let here : e ≡ n = omega (arith, lt, past, same) in absurd (other here)
    ]

-- ---- by the files that were seen

module _ (graph : Graph) (stands : StandFor (declared_by graph).edges graph.manifest.paths (links_of graph)) (quiet : List ℕ → Bool) (now files : List Moment) (seen : List Look) (are : AreSeenOf quiet graph.manifest.paths now seen) (alike : AreSameOf quiet now files) where
  abbrev all : List Edge
  all = (declared_by graph).edges

  -- what was seen to be there is not missing
  source_there : (p : ℕ) → p < length graph.manifest.paths → IsSourceIn quiet graph p → IsSourceSeen graph seen p → IsMissing all files (text_at graph.manifest.paths p) → ⊥
  source_there p lt inside was missing =
      let source : (links_of graph).maker p ≡ None = no_number ((links_of graph).maker p) (sym (stands.makers p lt) ∙ missing.source) in
      let is = was source in
      false≢true (sym is.1 ∙ (absent_same graph quiet now files seen are alike [] p (inside source) is.0 ∙ there_none (file_at files (text_at graph.manifest.paths p)) missing.absent))

  pub none_missing : (numbers : List ℕ) → ((p : ℕ) → has_number numbers p ≡ true → p < length graph.manifest.paths) → AreSourcesSeen graph seen numbers → AreSourcesIn quiet graph numbers → NoneIsMissing all files (texts_at graph.manifest.paths numbers)
  none_missing [] within was inside = tt
  none_missing (n ∷ ns) within was inside = (
    source_there n (within n (has_here n ns)) inside.0 (was n (has_here n ns)),
    none_missing ns (λ p h. within p (or_right (n == p) (has_number ns p) h)) (λ p h. was p (or_right (n == p) (has_number ns p) h)) inside.1,
  )

  pub none_below : (due fresh : List Bool) → ((e : ℕ) → due_at due e ≡ true → has fresh e ≡ false → AreSourcesSeen graph seen ((links_of graph).inputs e)) → HasAllSources quiet graph → (count : ℕ) → ((e : ℕ) → e < count → has fresh e ≡ false)
      → NoneBelow all due files count
  none_below due fresh was inside count old e lt is_due =
      subst (NoneIsMissing all files) (stands.inputs_are e) (none_missing ((links_of graph).inputs e) (stands.inputs_within e) (was e is_due (old e lt)) (inside e))

module _ (tells : Bool) (graph : Graph) (stands : StandFor (declared_by graph).edges graph.manifest.paths (links_of graph)) (a b : World) (first second : Looks) (looked : HasLooked tells graph a b first second) where
  -- none of these paths is missing
  pub first_none : (numbers : List ℕ) → ((p : ℕ) → has_number numbers p ≡ true → p < length graph.manifest.paths) → AreSourcesSeen graph second.seen.items numbers
      → IfStill tells graph a b first (λ quiet files. AreSourcesIn quiet graph numbers → IsFirstIn graph numbers files None)
  first_none numbers within was told quiet kept seen files same inside =
      none_missing graph stands quiet b.history files second.seen.items (looked.seen told quiet kept seen) same numbers within was inside

  -- no input of a due edge with so low a number is
  pub below_none : (dues : Dues) → LacksNoneOf graph second.seen.items dues → (count : ℕ) → ((e : ℕ) → e < count → has dues.fresh e ≡ false)
      → IfStill tells graph a b first (λ quiet files. HasAllSources quiet graph → NoneBelow (declared_by graph).edges dues.flags.items files count)
  below_none dues lacks count old told quiet kept seen files same inside =
      none_below graph stands quiet b.history files second.seen.items (looked.seen told quiet kept seen) same dues.flags.items dues.fresh lacks.edges inside count old

-- this is what is found of the due edges
abbrev pub FindsAt : Bool → Graph → World → World → Looks → List Bool → Option Lack → Type 0
FindsAt tells graph a b first due found = IfStill tells graph a b first (λ quiet files. HasAllSources quiet graph → IsFoundOfDue graph due files found)

-- ---- edges whose sources are to be asked for

pub lacks_of_stay : (graph : Graph) (seen new : List Look) → StaysKnown seen new → (dues : Dues) → LacksNoneOf graph seen dues → LacksNoneOf graph new dues
lacks_of_stay graph seen new stays dues was = record { room = was.room; edges = λ e due old. sources_stay graph seen new stays ((links_of graph).inputs e) (was.edges e due old) }

-- where no flag is to be found again
pub lacks_of : (graph : Graph) (cone : Cone) (seen : List Look) (dues : Dues) → LacksNoneBut graph cone seen dues → AreNone dues.todo → LacksNoneOf graph seen dues
lacks_of graph cone seen dues was none = record { room = was.room; edges = λ e due old. was.edges e due (none (place_of cone e)) old }

-- the flags, and those that are to be found again, are as they were
pub lacks_back : (graph : Graph) (cone : Cone) (seen new : List Look) → StaysKnown seen new → (old dues : Dues) → dues.flags.items ≡ old.flags.items → LacksNoneBut graph cone seen old → LacksNoneOf graph new dues → LacksNoneBut graph cone new dues
lacks_back graph cone seen new stays old dues flags was now = record {
  room = now.room;
  targets = sources_stay graph seen new stays cone.targets.items was.targets;
  edges = λ e due out fresh. now.edges e due fresh;
}

pub unset_before : (old new : List Bool) → ((k : ℕ) → has old k ≡ true → has new k ≡ true) → (k : ℕ) → has new k ≡ false → has old k ≡ false
unset_before old new more k out = elim (cases_Bool (has old k)) [
  | inl is ↦ absurd (false≢true (sym out ∙ more k is))
  | inr unset ↦ unset
]

-- more are to be found again
pub lacks_noted : (graph : Graph) (cone : Cone) (seen : List Look) (edges : List ℕ) (old new : Dues) → NotesEdges cone edges old new → LacksNoneBut graph cone seen old → LacksNoneBut graph cone seen new
lacks_noted graph cone seen edges old new notes was = record {
  room = record {
    room = subst (λ (l : List Bool). length graph.manifest.lines ≤ length l) (sym {A = List Bool} notes.fresh) was.room.room;
    within = λ e is. was.room.within e (sym (ap (λ (l : List Bool). has l e) notes.fresh) ∙ is);
  };
  targets = was.targets;
  edges = λ e due out fresh.
      was.edges e (sym (ap (λ (l : List Bool). due_at l e) notes.flags) ∙ due) (unset_before old.todo new.todo notes.more (place_of cone e) out) (sym (ap (λ (l : List Bool). has l e) notes.fresh) ∙ fresh);
}

-- the sources of the edge of this place are to be asked for, whose flag was found again
module _ (graph : Graph) (cone : Cone) (seen : List Look) (old new : Dues) (edge : ℕ) (listed : has_number cone.order.items edge ≡ true) (within : edge < length graph.manifest.lines) (is : Bool) (notes : NotesFound graph cone edge is old new)
    (flagged : AreListed cone.order.items old.flags.items) (was : LacksNoneBut graph cone seen old)
  where
    low : edge < length old.fresh
    low = let room = was.room.room in omega (arith, within, room)

    there : has new.fresh edge ≡ true
    there = ap (λ (l : List Bool). has l edge) notes.fresh ∙ get_or-set_same old.fresh edge true false low

    elsewhere : (e : ℕ) → (e ≡ edge → ⊥) → has new.fresh e ≡ has old.fresh e
    elsewhere e other = ap (λ (l : List Bool). has l e) notes.fresh ∙ get_or-set_other old.fresh edge e true false other

    -- another edge stands elsewhere
    apart : (e : ℕ) → has_number cone.order.items e ≡ true → (e ≡ edge → ⊥) → place_of cone e ≡ place_of cone edge → ⊥
    apart e h other same = other (sym {A = ℕ} (cone.placed e h).1 ∙ (ap (edge_of_place cone) same ∙ (cone.placed edge listed).1))

    others : (e : ℕ) → (e ≡ edge → ⊥) → due_at new.flags.items e ≡ true → has new.todo (place_of cone e) ≡ false → has new.fresh e ≡ false → AreSourcesSeen graph seen ((links_of graph).inputs e)
    others e other due out fresh =
        let before : due_at old.flags.items e ≡ true = sym (notes.others e other) ∙ due in
        let quiet : has old.todo (place_of cone e) ≡ false = elim (cases_Bool (has old.todo (place_of cone e))) [
          | inl noted ↦ absurd (false≢true (sym out ∙ notes.more (place_of cone e) (apart e (flagged e before) other) noted))
          | inr unset ↦ unset
        ] in
        was.edges e before quiet (sym (elsewhere e other) ∙ fresh)

    pub lacks_found : LacksNoneBut graph cone seen new
    lacks_found = record {
      room = record {
        room = let size = ap (λ (l : List Bool). length l) notes.fresh ∙ length-set old.fresh edge true in let room = was.room.room in omega (arith, size, room);
        within = λ e now. elim (same_or_other edge e) [
          | inl here ↦ subst (λ (n : ℕ). n < length graph.manifest.lines) (sym {A = ℕ} here) within
          | inr other ↦ was.room.within e (sym (elsewhere e other) ∙ now)
        ];
      };
      targets = was.targets;
      edges = λ e due out fresh. elim (same_or_other edge e) [
        | inl here ↦ absurd (false≢true (sym fresh ∙ subst (λ (n : ℕ). has new.fresh n ≡ true) (sym {A = ℕ} here) there))
        | inr other ↦ others e other due out fresh
      ];
    }

-- the sources of one edge were asked for
module _ (graph : Graph) (seen : List Look) (old new : Dues) (k : ℕ) (flags : new.flags.items ≡ old.flags.items) (gone : new.fresh ≡ set old.fresh k false) (sources : due_at old.flags.items k ≡ true → AreSourcesSeen graph seen ((links_of graph).inputs k))
    (was : LacksNoneOf graph seen old)
  where
    other_fresh : (e : ℕ) → (e ≡ k → ⊥) → has new.fresh e ≡ has old.fresh e
    other_fresh e other = ap (λ (l : List Bool). has l e) gone ∙ get_or-set_other old.fresh k e false false other

    low_here : k < length old.fresh → has new.fresh k ≡ false
    low_here lt = ap (λ (l : List Bool). has l k) gone ∙ get_or-set_same old.fresh k false false lt

    pub lacks_less : k < length old.fresh → LacksNoneOf graph seen new
    lacks_less lt = record {
      room = record {
        room = let size = ap (λ (l : List Bool). length l) gone ∙ length-set old.fresh k false in let room = was.room.room in omega (arith, size, room);
        within = λ e now. elim (same_or_other k e) [
          | inl here ↦ absurd (false≢true (sym (subst (λ (n : ℕ). has new.fresh n ≡ false) (sym {A = ℕ} here) (low_here lt)) ∙ now))
          | inr other ↦ was.room.within e (sym (other_fresh e other) ∙ now)
        ];
      };
      edges = λ e due fresh.
          let before : due_at old.flags.items e ≡ true = sym (ap (λ (l : List Bool). due_at l e) flags) ∙ due in
          elim (same_or_other k e) [
            | inl here ↦ subst (λ (n : ℕ). AreSourcesSeen graph seen ((links_of graph).inputs n)) (sym {A = ℕ} here) (sources (subst (λ (n : ℕ). due_at old.flags.items n ≡ true) here before))
            | inr other ↦ was.edges e before (sym (other_fresh e other) ∙ fresh)
          ];
    }
