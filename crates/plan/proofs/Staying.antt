-- A plan goes on in place: what else waits for is as it was.
use Rattle.std.proofs.Common.{◌≡◌, ◌⊎◌, inl, inr, ℕ, zero, suc, ◌+◌, ◌<◌, ◌≤◌, ◌==◌, ◌&&◌, not, cond, Bool, true, false, List, [], ◌∷◌, ◌++◌, Option, None, Some, length, take, drop, get_or, count_by, filter, Result, Ok, Err, OnOk, refl, sym, ◌∙◌, ap, subst, arith}
use Rattle.std.specs.Option.{is_none}
use Rattle.std.proofs.Math.ListN.{set}
use Rattle.std.proofs.lemmas.Bool.{false≢true, false_from_ne_true, cases_Bool, cases_eq, cases_lt, eqb-true, eq-eqb, or_left, or_right, or_cases}
use Rattle.std.proofs.lemmas.List.{get_or_default, get_or-set_same, get_or-set_other, length-append, length-set}
use Rattle.std.proofs.lemmas.List.Sums.{sum_by-cons}
use Rattle.model.specs.declared.graph.Edge.{Edge}
use Rattle.model.specs.Graph.{has, has_number, edge_at, inputs, maker, Addition}
use Rattle.model.specs.Reading.{IsInCone}
use Rattle.model.specs.Schedule.{Task, Step, IsSettled, Done, Alias as ByAlias, done_in, running_in}
use Rattle.theory.proofs.Growth.{HasGrown, grown_by, cases_named}
use Rattle.theory.proofs.Lists.{has-left, has-cases, has_number-left, has_number-push, has_number-push_cases, has_number-push_other}
use Rattle.paths.specs.declared.manifest.Action.{Action}
use Rattle.paths.specs.declared.manifest.Action.TheVariants as action
use Rattle.paths.specs.Commands.{no_action}
use Rattle.graph.specs.declared.back.Before.{Before}
use Rattle.graph.specs.declared.back.LoadedEdge.{LoadedEdge}
use Rattle.graph.specs.declared.cone.Cone.{Cone}
use Rattle.graph.specs.declared.cone.Mark.{Mark}
use Rattle.graph.specs.declared.cone.Mark.TheVariants.{Unseen}
use Rattle.graph.specs.declared.graph.Graph.{Graph}
use Rattle.graph.specs.Alone.{HasGrownAlone}
use Rattle.graph.specs.Cone.{mark_at, is_listed}
use Rattle.graph.specs.Extended.{FilesStand, HasLoaded, dyndep_at}
use Rattle.graph.specs.Held.{dyndep_of}
use Rattle.graph.specs.Links.{Links, is_alias as is_alias_action, links_of, needs_of}
use Rattle.graph.specs.Linked.{IsConeOf}
use Rattle.graph.specs.LoadedEdges.{numbers_in}
use Rattle.graph.specs.Statements.{is_place as is_file}
use Rattle.graph.specs.Told.{declared_by}
use Rattle.plan.specs.Coming.{AreAway, IsComing}
use Rattle.plan.specs.Flags.{has as has_flag, AreNone}
use Rattle.plan.specs.Turns.{Turns}
use Rattle.plan.specs.declared.plan.Plan.{Plan}
use Rattle.plan.specs.declared.step.Standing.{Standing}
use Rattle.plan.specs.declared.step.Standing.TheVariants.{Outside, Unjudged, Clean, OutOfDate, Running, Well, Failed, Alias, Known}
use Rattle.plan.specs.Standing.{standing_at, is_unjudged, is_alias, is_outside, is_phony, is_settled, awaits, maker_settled}
use Rattle.plan.specs.Plan.{IsReady, IsOver, IsPooled, is_missing}
use Rattle.plan.specs.Loads.{IsFirstToName, LoadsBefore, BySource, ByEdge, AreInOrder, AreLoads, IsLoading}
use Rattle.plan.specs.Planned.{is_grouped, IsPlanOver, IsPlanned, IsTaskOf, AreTaken}
use Rattle.plan.specs.Extended.{MayGoOn, IsGrownTask, GoesOnFrom}
use Rattle.plan.specs.Staying.{MayGoOnBy, AreInside, MayBeCounted, AreToCount, AreLongerThere, without, AreOnce, recounted_for, AreRecounted, OnlyCounts}
use Rattle.plan.proofs.Arriving.{still_more}
use Rattle.plan.proofs.Beginning.{longer, built}
use Rattle.plan.proofs.Begun.{has_later}
use Rattle.plan.proofs.FilesThere.{take_next}
use Rattle.plan.proofs.Grown.{past_end, all_pooled, pooled_grown, still_in_cone, still_taken}
use Rattle.plan.proofs.Loaded.{flag_range}
use Rattle.plan.proofs.Noting.{listed_at}

none_some : {X : Type 0} (x : X) → None ≡ Some x → ⊥
none_some x is = cc

pub ok_then : {T E : Type 0} {P Q : Type 0} (r : Result T E) → OnOk r P → (P → Q) → OnOk r Q
ok_then (Ok x) p f = f p
ok_then (Err e) p f = tt

-- ---- flags of more paths

-- the flags of so many paths: those that were, and behind them whether a path is a source
pub record IsLongerTo (links : Links) (there : List Bool) (count : ℕ) (flags : List Bool) : Type 0 where
  pub fits : length flags ≡ count
  pub low : length there ≤ count
  pub each : (p : ℕ) → p < count → (p < length there → has_flag flags p ≡ has_flag there p) × (length there ≤ p → has_flag flags p ≡ is_none (links.maker p))

pub longer_first : (links : Links) (there flags : List Bool) (count : ℕ) → flags ≡ there → count ≡ length there → IsLongerTo links there count flags
longer_first links there flags count is same = record {
  fits = ap (λ (l : List Bool). length l) is ∙ sym same;
  low = omega (arith, same);
  each = λ p within. ((λ less. ap (λ (l : List Bool). has_flag l p) is), (λ past. absurd (omega (arith, within, same, past))));
}

pub longer_next : (links : Links) (there old new : List Bool) (count : ℕ) (x : Bool) → new ≡ old ++ x ∷ [] → x ≡ is_none (links.maker count) → IsLongerTo links there count old → IsLongerTo links there (count + 1) new
longer_next links there old new count x is source so_far = record {
  fits = longer old new count x false so_far.fits is;
  low = let most = so_far.low in omega (arith, most);
  each = built old new count x false so_far.fits is (λ p b. (p < length there → b ≡ has_flag there p) × (length there ≤ p → b ≡ is_none (links.maker p)))
      ((λ less. let most = so_far.low in absurd (omega (arith, less, most))), (λ past. source)) so_far.each;
}

pub longer_all : (links : Links) (there flags : List Bool) (count paths : ℕ) → count ≡ paths → IsLongerTo links there count flags → AreLongerThere links paths there flags
longer_all links there flags count paths whole so_far = record {
  fits = so_far.fits ∙ whole;
  same = λ p within. (so_far.each p (let most = so_far.low in omega (arith, within, most))).0 within;
  sources = λ p past within. (so_far.each p (omega (arith, within, whole))).1 past;
}

-- ---- files but for one

-- no file goes before itself
before_itself : (graph : Graph) (file : ℕ) → LoadsBefore graph file file → ⊥
before_itself graph file (BySource d none made) = none_some d (sym none ∙ made)
before_itself graph file (ByEdge d e source first again less) = again.first d less first.names

pub once_ordered : (graph : Graph) (files : List ℕ) → AreInOrder graph files → AreOnce files
once_ordered graph [] ordered = tt
once_ordered graph (f ∷ files) ordered = (false_from_ne_true (has_number files f) (λ there. before_itself graph f (ordered.0 f there)), once_ordered graph files ordered.1)

pub without_none : (file : ℕ) (files : List ℕ) → has_number files file ≡ false → without file files ≡ files
without_none file [] none = refl
without_none file (f ∷ files) none = by (f == file) refl (without_none file files (false_from_ne_true (has_number files file) (λ there. false≢true (sym none ∙ or_right (f == file) (has_number files file) there))))
  where
    by : (b : Bool) → (f == file) ≡ b → without file files ≡ files → cond b (without file files) (f ∷ without file files) ≡ f ∷ files
    by true same rest = absurd (false≢true (sym none ∙ or_left (f == file) (has_number files file) same))
    by false other rest = ap (λ (l : List ℕ). f ∷ l) rest

pub without_at : (file k : ℕ) (files : List ℕ) → AreOnce files → k < length files → get_or files k 0 ≡ file → without file files ≡ take k files ++ drop (k + 1) files
without_at file k [] once low is = absurd (omega (arith, low))
without_at file zero (f ∷ files) once low is = by (f == file) (eq-eqb f file is)
  where
    by : (b : Bool) → b ≡ true → cond b (without file files) (f ∷ without file files) ≡ files
    by true same = without_none file files (subst (λ (n : ℕ). has_number files n ≡ false) is once.0)
    by false other = absurd (false≢true other)
without_at file (suc k) (f ∷ files) once low is =
    let next : suc k + 1 ≡ suc (k + 1) = omega arith in
    by (f == file) refl (without_at file k files once.1 (omega (arith, low)) is) ∙ ap (λ (n : ℕ). f ∷ (take k files ++ drop n (f ∷ files))) (sym next)
  where
    later : has_number files file ≡ true
    later = subst (λ (n : ℕ). has_number files n ≡ true) is (listed_at files k (omega (arith, low)))

    by : (b : Bool) → (f == file) ≡ b → without file files ≡ take k files ++ drop (k + 1) files → cond b (without file files) (f ∷ without file files) ≡ f ∷ (take k files ++ drop (k + 1) files)
    by true same rest = absurd (false≢true (sym once.0 ∙ subst (λ (n : ℕ). has_number files n ≡ true) (sym (eqb-true f file same)) later))
    by false other rest = ap (λ (l : List ℕ). f ∷ l) rest

pub absent_next : (file x k : ℕ) (files : List ℕ) → k < length files → x ≡ get_or files k 0 → (x ≡ file → ⊥) → has_number (take k files) file ≡ false → has_number (take (k + 1) files) file ≡ false
absent_next file x k files low is other absent = ap (λ (l : List ℕ). has_number l file) (take_next files k x low is) ∙ (has_number-push_other (take k files) x file other ∙ absent)

without_has : (file n : ℕ) (loads : List ℕ) → has_number (without file loads) n ≡ true → (has_number loads n ≡ true) × (n ≡ file → ⊥)
without_has file n [] there = absurd (false≢true there)
without_has file n (f ∷ loads) there = by (f == file) refl (without_has file n loads) there
  where
    by : (b : Bool) → (f == file) ≡ b → (has_number (without file loads) n ≡ true → (has_number loads n ≡ true) × (n ≡ file → ⊥)) → has_number (cond b (without file loads) (f ∷ without file loads)) n ≡ true
        → (has_number (f ∷ loads) n ≡ true) × (n ≡ file → ⊥)
    by true same rest has_it = let back = rest has_it in (or_right (f == n) (has_number loads n) back.0, back.1)
    by false other rest has_it = elim (or_cases (f == n) (has_number (without file loads) n) has_it) [
      | inl here ↦ (or_left (f == n) (has_number loads n) here, λ is. false≢true (sym other ∙ eq-eqb f file (eqb-true f n here ∙ is)))
      | inr later ↦ let back = rest later in (or_right (f == n) (has_number loads n) back.0, back.1)
    ]

without_keeps : (file n : ℕ) (loads : List ℕ) → has_number loads n ≡ true → (n ≡ file → ⊥) → has_number (without file loads) n ≡ true
without_keeps file n [] there other = there
without_keeps file n (f ∷ loads) there other = by (f == file) refl (λ later. without_keeps file n loads later other)
  where
    by : (b : Bool) → (f == file) ≡ b → (has_number loads n ≡ true → has_number (without file loads) n ≡ true) → has_number (cond b (without file loads) (f ∷ without file loads)) n ≡ true
    by true same rest = elim (or_cases (f == n) (has_number loads n) there) [
      | inl here ↦ absurd (other (sym (eqb-true f n here) ∙ eqb-true f file same))
      | inr later ↦ rest later
    ]
    by false differ rest = elim (or_cases (f == n) (has_number loads n) there) [
      | inl here ↦ or_left (f == n) (has_number (without file loads) n) here
      | inr later ↦ or_right (f == n) (has_number (without file loads) n) (rest later)
    ]

ordered_without : (before graph : Graph) (file : ℕ) (Good : ℕ → Type 0) → ((f o : ℕ) → Good f → Good o → LoadsBefore before f o → LoadsBefore graph f o) → (loads : List ℕ)
    → ((f : ℕ) → has_number loads f ≡ true → (f ≡ file → ⊥) → Good f) → AreInOrder before loads → AreInOrder graph (without file loads)
ordered_without before graph file Good carry [] good ordered = tt
ordered_without before graph file Good carry (f ∷ loads) good ordered = by (f == file) refl (ordered_without before graph file Good carry loads (λ g there. good g (or_right (f == g) (has_number loads g) there)) ordered.1)
  where
    by : (b : Bool) → (f == file) ≡ b → AreInOrder graph (without file loads) → AreInOrder graph (cond b (without file loads) (f ∷ without file loads))
    by true same rest = rest
    by false other rest = (
      λ o there.
          let back = without_has file o loads there in
          carry f o (good f (or_left (f == f) (has_number loads f) (eq-eqb f f refl)) (λ is. false≢true (sym other ∙ eq-eqb f file is))) (good o (or_right (f == o) (has_number loads o) back.0) back.1) (ordered.0 o back.0),
      rest,
    )

-- ---- where edges stand

pub not_true : (b : Bool) → not b ≡ true → b ≡ false
not_true true is = absurd (false≢true is)
not_true false is = refl

-- an edge that was not judged, or that is not in the cone, is not settled
fresh_unsettled : (s : Standing) → (is_unjudged s ≡ true) ⊎ (is_outside s ≡ true) → is_settled s ≡ false
fresh_unsettled Outside fresh = refl
fresh_unsettled Unjudged fresh = refl
fresh_unsettled Clean fresh = absurd (elim fresh [ inl a ↦ false≢true a | inr b ↦ false≢true b ])
fresh_unsettled OutOfDate fresh = refl
fresh_unsettled Running fresh = refl
fresh_unsettled Well fresh = absurd (elim fresh [ inl a ↦ false≢true a | inr b ↦ false≢true b ])
fresh_unsettled Failed fresh = refl
fresh_unsettled Alias fresh = refl
fresh_unsettled Known fresh = absurd (elim fresh [ inl a ↦ false≢true a | inr b ↦ false≢true b ])

-- and if it waits it is a command
fresh_command : (s : Standing) → (is_unjudged s ≡ true) ⊎ (is_outside s ≡ true) → awaits s ≡ true → is_unjudged s ≡ true
fresh_command Outside fresh waits = absurd (false≢true waits)
fresh_command Unjudged fresh waits = refl
fresh_command Clean fresh waits = absurd (false≢true waits)
fresh_command OutOfDate fresh waits = absurd (false≢true waits)
fresh_command Running fresh waits = absurd (false≢true waits)
fresh_command Well fresh waits = absurd (false≢true waits)
fresh_command Failed fresh waits = absurd (false≢true waits)
fresh_command Alias fresh waits = absurd (elim fresh [ inl a ↦ false≢true a | inr b ↦ false≢true b ])
fresh_command Known fresh waits = absurd (false≢true waits)

-- what was read at a place stands there
pub read_at : (standings : List Standing) (k : ℕ) (s : Standing) → s ≡ get_or standings k s → k < length standings → standing_at standings k ≡ s
read_at standings k s is low = sym (is ∙ get_or_default standings k s Outside low)

-- ---- what is counted anew

-- an edge is in its set where nothing is left of it
pub counted_set : (standings : List Standing) (left : List ℕ) (ready pending : List Bool) (e n : ℕ) → e < length left → e < length ready → is_unjudged (standing_at standings e) ≡ true → is_alias (standing_at standings e) ≡ false
    → IsReady standings left ready pending → IsReady standings (set left e n) (set ready e (n == 0)) pending
counted_set standings left ready pending e n low room fresh plain sets = record {
  ready = λ k. elim (cases_eq k e) [
    | inl same ↦ subst (λ (m : ℕ). has_flag (set ready e (n == 0)) m ≡ (is_unjudged (standing_at standings m) && (get_or (set left e n) m 0 == 0))) (sym same)
        (get_or-set_same ready e (n == 0) false room
        ∙ (sym (ap (λ (b : Bool). b && (n == 0)) fresh) ∙ ap (λ (m : ℕ). is_unjudged (standing_at standings e) && (m == 0)) (sym (get_or-set_same left e n 0 low))))
    | inr other ↦ get_or-set_other ready e k (n == 0) false other ∙ (sets.ready k ∙ ap (λ (m : ℕ). is_unjudged (standing_at standings k) && (m == 0)) (sym (get_or-set_other left e k n 0 other)))
  ];
  pending = λ k. elim (cases_eq k e) [
    | inl same ↦ subst (λ (m : ℕ). has_flag pending m ≡ (is_alias (standing_at standings m) && (get_or (set left e n) m 0 == 0))) (sym same)
        (sets.pending e ∙ (ap (λ (b : Bool). b && (get_or left e 0 == 0)) plain ∙ sym (ap (λ (b : Bool). b && (get_or (set left e n) e 0 == 0)) plain)))
    | inr other ↦ sets.pending k ∙ ap (λ (m : ℕ). is_alias (standing_at standings k) && (m == 0)) (sym (get_or-set_other left e k n 0 other))
  ];
}

pub counts_none : (graph : Graph) (standings : List Standing) (there : List Bool) (left : List ℕ) → AreRecounted graph standings there [] left left
counts_none graph standings there left = record { fits = refl; each = λ e there_e. absurd (false≢true there_e); others = λ e absent. refl }

module _ (graph : Graph) (standings : List Standing) (there : List Bool) (edges first old new : List ℕ) (e : ℕ) (low : e < length first) (is : new ≡ recounted_for graph standings there old e) (so_far : AreRecounted graph standings there edges first old) where
  abbrev count : ℕ
  count = count_by (is_missing there) (needs_of graph e)

  sized : (b : Bool) → length (cond b (set old e count) old) ≡ length old
  sized true = length-set old e count
  sized false = refl

  at_it : is_unjudged (standing_at standings e) ≡ true → get_or new e 0 ≡ count
  at_it fresh =
      ap (λ (l : List ℕ). get_or l e 0) (is ∙ ap (λ (b : Bool). cond b (set old e count) old) fresh)
      ∙ get_or-set_same old e count 0 (let size = so_far.fits in omega (arith, low, size))

  elsewhere : (k : ℕ) → (k ≡ e → ⊥) → get_or new k 0 ≡ get_or old k 0
  elsewhere k other = ap (λ (l : List ℕ). get_or l k 0) is ∙ by (is_unjudged (standing_at standings e))
    where
      by : (b : Bool) → get_or (cond b (set old e count) old) k 0 ≡ get_or old k 0
      by true = get_or-set_other old e k count 0 other
      by false = refl

  pub counts_next : AreRecounted graph standings there (edges ++ e ∷ []) first new
  counts_next = record {
    fits = ap (λ (l : List ℕ). length l) is ∙ (sized (is_unjudged (standing_at standings e)) ∙ so_far.fits);
    each = λ k there_k fresh. elim (cases_eq k e) [
      | inl same ↦ subst (λ (m : ℕ). get_or new m 0 ≡ count_by (is_missing there) (needs_of graph m)) (sym same) (at_it (ap (λ (m : ℕ). is_unjudged (standing_at standings m)) (sym same) ∙ fresh))
      | inr other ↦ elsewhere k other ∙ so_far.each k (by k other (has_number-push_cases edges e k there_k)) fresh
    ];
    others = λ k absent. elsewhere k (λ same. false≢true (sym absent ∙ (ap (has_number (edges ++ e ∷ [])) same ∙ has_number-push edges e)))
        ∙ so_far.others k (false_from_ne_true (has_number edges k) (λ there_k. false≢true (sym absent ∙ has_number-left edges (e ∷ []) k there_k)));
  }
    where
      by : (k : ℕ) → (k ≡ e → ⊥) → (has_number edges k ≡ true) ⊎ (e ≡ k) → has_number edges k ≡ true
      by k other (inl front) = front
      by k other (inr last) = absurd (other (sym last))

-- the numbers of one loaded edge more
pub numbers_next : (edges : List LoadedEdge) (k : ℕ) (l : LoadedEdge) → k < length edges → l ≡ get_or edges k l → numbers_in (take (k + 1) edges) ≡ numbers_in (take k edges) ++ l.edge ∷ []
numbers_next edges k l low is = ap (λ (n : ℕ). numbers_in (take n edges)) next ∙ by edges k low is
  where
    next : k + 1 ≡ suc k
    next = omega arith

    by : (m : List LoadedEdge) (j : ℕ) → j < length m → l ≡ get_or m j l → numbers_in (take (suc j) m) ≡ numbers_in (take j m) ++ l.edge ∷ []
    by [] j lt read = absurd (omega (arith, lt))
    by (y ∷ m) zero lt read = ap (λ (x : LoadedEdge). x.edge ∷ []) (sym read)
    by (y ∷ m) (suc j) lt read = ap (λ (rest : List ℕ). y.edge ∷ rest) (by m j (omega (arith, lt)) read)

pub taken_all : (edges : List LoadedEdge) (k : ℕ) → length edges ≤ k → take k edges ≡ edges
taken_all [] zero past = refl
taken_all [] (suc k) past = refl
taken_all (x ∷ edges) zero past = absurd (omega (arith, past))
taken_all (x ∷ edges) (suc k) past = ap (λ (l : List LoadedEdge). x ∷ l) (taken_all edges k (omega (arith, past)))

pub number_there : (edges : List LoadedEdge) (k : ℕ) (l : LoadedEdge) → k < length edges → l ≡ get_or edges k l → has_number (numbers_in edges) l.edge ≡ true
number_there [] k l low is = absurd (omega (arith, low))
number_there (x ∷ edges) zero l low is = or_left (x.edge == l.edge) (has_number (numbers_in edges) l.edge) (eq-eqb x.edge l.edge (ap (λ (y : LoadedEdge). y.edge) (sym is)))
number_there (x ∷ edges) (suc k) l low is = or_right (x.edge == l.edge) (has_number (numbers_in edges) l.edge) (number_there edges k l (omega (arith, low)) is)

pub only_none : (plan : Plan) → OnlyCounts plan plan
only_none plan = record { still = record { standings = refl; queue = refl; changed = refl; loads = refl; running = refl; failed = refl; well = refl; jobs = refl; keep = refl }; there = refl; pending = refl }

pub only_more : (first old new : Plan) → OnlyCounts first old → OnlyCounts old new → OnlyCounts first new
only_more first old new one two = record { still = still_more first old new one.still two.still; there = two.there ∙ one.there; pending = two.pending ∙ one.pending }

-- ---- what may be counted

pub counted_none : (graph : Graph) (standings : List Standing) (there : List Bool) → AreToCount graph standings there []
counted_none graph standings there e there_e = absurd (false≢true there_e)

pub counted_next : (graph : Graph) (standings : List Standing) (there : List Bool) (edges : List ℕ) (e : ℕ) → MayBeCounted graph standings there e → AreToCount graph standings there edges → AreToCount graph standings there (edges ++ e ∷ [])
counted_next graph standings there edges e may so_far k there_k = elim (has_number-push_cases edges e k there_k) [
  | inl front ↦ so_far k front
  | inr last ↦ subst (MayBeCounted graph standings there) last may
]

-- ---- the edges that stand in the cone

pub inside_next : (marks : List Mark) (standings : List Standing) (k : ℕ) → ((e : ℕ) → e < k → is_listed (mark_at marks e) ≡ not (is_outside (standing_at standings e))) → is_listed (mark_at marks k) ≡ not (is_outside (standing_at standings k))
    → (e : ℕ) → e < k + 1 → is_listed (mark_at marks e) ≡ not (is_outside (standing_at standings e))
inside_next marks standings k so_far here e low = elim (cases_eq e k) [
  | inl same ↦ subst (λ (n : ℕ). is_listed (mark_at marks n) ≡ not (is_outside (standing_at standings n))) (sym same) here
  | inr other ↦ so_far e (omega (arith, low, other))
]

pub inside_all : (marks : List Mark) (standings : List Standing) (k : ℕ) → length marks ≡ length standings → length standings ≤ k → ((e : ℕ) → e < k → is_listed (mark_at marks e) ≡ not (is_outside (standing_at standings e))) → AreInside marks standings
inside_all marks standings k fits past so_far e = elim (cases_lt e k) [
  | inl low ↦ so_far e low
  | inr behind ↦
      ap is_listed (past_end marks e Unseen (omega (arith, fits, past, behind)))
      ∙ sym (ap (λ (s : Standing). not (is_outside s)) (past_end standings e Outside (omega (arith, past, behind))))
]

-- ---- counts

abbrev one_if : Bool → ℕ
one_if b = cond b 1 0

count_same : (f g : ℕ → Bool) (xs : List ℕ) → ((k : ℕ) → k < length xs → f (get_or xs k 0) ≡ g (get_or xs k 0)) → count_by f xs ≡ count_by g xs
count_same f g [] each = refl
count_same f g (x ∷ xs) each =
    let rest = count_same f g xs (λ k low. each (suc k) (omega (arith, low))) in
    let one : count_by f (x ∷ xs) ≡ one_if (f x) + count_by f xs = sum_by-cons (λ (y : ℕ). one_if (f y)) x xs in
    let two : count_by g (x ∷ xs) ≡ one_if (g x) + count_by g xs = sum_by-cons (λ (y : ℕ). one_if (g y)) x xs in
    let here : one_if (f x) ≡ one_if (g x) = ap one_if (each 0 (omega arith)) in
    omega (arith, one, two, here, rest)

file_is : (o : Option ℕ) (n : ℕ) → is_file o n ≡ true → o ≡ Some n
file_is None n is = absurd (false≢true is)
file_is (Some m) n is = ap (λ (k : ℕ). Some k) (eqb-true m n is)

alias_names_none : (a : Action) → is_alias_action a ≡ true → dyndep_of a ≡ None
alias_names_none action.Alias is = refl
alias_names_none (action.Command command) is = absurd (false≢true is)

-- ---- the plan over the graph as it is

-- a plan may go on that may do so in place
abbrev pub may_of : (before graph : Graph) (plan : Plan) (load : Before) → MayGoOnBy before graph plan load → MayGoOn graph plan
may_of before graph plan load may = record { before = before; over = may.over; some = may.some; edges = may.edges; paths = may.paths; pools = may.pools; pool = may.pool }

-- what a caller knows once a file is loaded
pub may_go_on_by : (before after : Graph) (file : List ℕ) (additions : List Addition) (plan : Plan) (load : Before) → IsPlanOver before plan → 0 < length plan.loads.items → HasLoaded before after file additions
    → HasGrownAlone (numbers_in load.edges.items) load.file before after → MayGoOnBy before after plan load
may_go_on_by before after file additions plan load over some loaded alone = record {
  over = over;
  some = some;
  edges = loaded.lines;
  paths = let e = length-append before.manifest.paths loaded.added in omega (arith, ap (λ (ps : List (List ℕ)). length ps) loaded.paths, e);
  pools = loaded.pools;
  pool = λ i. elim (cases_named (edge_at (declared_by before).edges i).dyndep file) [
    | inl named ↦ ap (λ (e : Edge). e.pool) (loaded.grown.named i named).2
    | inr other ↦ ap (λ (e : Edge). e.pool) (loaded.grown.others i other)
  ];
  alone = alone;
}

-- ---- the files that are still to be loaded

has_without : (file p : ℕ) (loads : List ℕ) → has_number (without file loads) p ≡ true → has_number loads p ≡ true
has_without file p [] there = there
has_without file p (f ∷ loads) there = by (f == file) (has_without file p loads) there
  where
    by : (b : Bool) → (has_number (without file loads) p ≡ true → has_number loads p ≡ true) → has_number (cond b (without file loads) (f ∷ without file loads)) p ≡ true → has_number (f ∷ loads) p ≡ true
    by true held rest = or_right (f == p) (has_number loads p) (held rest)
    by false held rest = elim (or_cases (f == p) (has_number (without file loads) p) rest) [
      | inl here ↦ or_left (f == p) (has_number loads p) here
      | inr later ↦ or_right (f == p) (has_number loads p) (held later)
    ]

-- they are marked as they were
pub coming_still : FilesStand → (before graph : Graph) (plan : Plan) (load : Before) → MayGoOnBy before graph plan load → (left : List ℕ) (there files : List Bool) (any : Bool) → left ≡ without load.file plan.loads.items → files ≡ plan.coming.files.items
    → (any ≡ false → AreAway there left) → IsComing left there files any
coming_still stand before graph plan load may left there files any are same away = record {
  marked = λ p low has.
      let was = has_without load.file p plan.loads.items (subst (λ (l : List ℕ). has_number l p ≡ true) are has) in
      let wanted = may.over.loading.loads_are.named p was in
      let path = (stand before wanted.edge p wanted.names).1 in
      let known = may.over.over.known in
      subst (λ (l : List Bool). has_flag l p ≡ true) (sym same) (plan.come.marked p (omega (arith, path, known)) was);
  none = away;
}

-- the edges of the file are edges of the graph
pub edges_below : FilesStand → (before graph : Graph) (plan : Plan) (load : Before) → MayGoOnBy before graph plan load → (e : ℕ) → has_number (numbers_in load.edges.items) e ≡ true → e < length graph.manifest.lines
edges_below stand before graph plan load may e there_e =
    let names = file_is (dyndep_at before e) load.file (sym (may.alone.were e) ∙ there_e) in
    let low = (stand before e load.file names).0 in
    let size = may.edges in
    omega (arith, low, size)

module _ (stand : FilesStand) (before graph : Graph) (plan : Plan) (load : Before) (may : MayGoOnBy before graph plan load) (to_count : AreToCount graph plan.standings.items plan.there.items (numbers_in load.edges.items)) where
  abbrev edges : List ℕ
  edges = numbers_in load.edges.items

  abbrev file : ℕ
  file = load.file

  abbrev stood : List Standing
  stood = plan.standings.items

  -- who makes a path that was there made it before
  maker_was : (q m : ℕ) → q < length before.manifest.paths → (links_of graph).maker q ≡ Some m → (links_of before).maker q ≡ Some m
  maker_was q m low is = by ((links_of before).maker q) refl
    where
      by : (o : Option ℕ) → (links_of before).maker q ≡ o → (links_of before).maker q ≡ Some m
      by (Some k) was = was ∙ (sym (may.alone.made q k was) ∙ is)
      by None was = elim (may.alone.makers q m is) [
        | inl old ↦ old
        | inr there_m ↦ absurd (false≢true (sym ((to_count m there_m).none q (graph.making.made q m is)) ∙ may.over.over.complete q low (ap (maker_settled stood) was)))
      ]

  maker_same : (q : ℕ) → q < length before.manifest.paths → (links_of graph).maker q ≡ (links_of before).maker q
  maker_same q low = by ((links_of graph).maker q) refl ((links_of before).maker q) refl
    where
      by : (o : Option ℕ) → (links_of graph).maker q ≡ o → (u : Option ℕ) → (links_of before).maker q ≡ u → (links_of graph).maker q ≡ (links_of before).maker q
      by (Some m) is u was = is ∙ sym (maker_was q m low is)
      by None is None was = is ∙ sym was
      by None is (Some k) was = absurd (none_some k (sym is ∙ may.alone.made q k was))

  -- who makes a path that was not there is not settled
  new_unsettled : (q m : ℕ) → length before.manifest.paths ≤ q → (links_of graph).maker q ≡ Some m → is_settled (standing_at stood m) ≡ false
  new_unsettled q m past is = elim (may.alone.makers q m is) [
    | inl old ↦ absurd (none_some m (sym (past_end before.makers q None (let fits = before.making.fits in omega (arith, past, fits))) ∙ old))
    | inr there_m ↦ fresh_unsettled (standing_at stood m) (to_count m there_m).fresh
  ]

  settled_none : (o : Option ℕ) → is_none o ≡ true → maker_settled stood o ≡ true
  settled_none None is = refl
  settled_none (Some e) is = absurd (false≢true is)

  module _ (there : List Bool) (left : List ℕ) (more : AreLongerThere (links_of graph) (length graph.manifest.paths) plan.there.items there) (again : AreRecounted graph stood there edges plan.left.items left) where
    known : length plan.there.items ≡ length before.manifest.paths
    known = may.over.over.known

    -- what another edge waits for is as it was
    as_before : (e : ℕ) → has_number edges e ≡ false → count_by (is_missing plan.there.items) (needs_of before e) ≡ count_by (is_missing there) (needs_of graph e)
    as_before e absent =
        count_same (is_missing plan.there.items) (is_missing there) (needs_of before e)
        (λ k low. ap not (sym (more.same (get_or (needs_of before e) k 0) (let small = may.alone.below e k low in omega (arith, small, known)))))
        ∙ ap (count_by (is_missing there)) (sym (may.alone.needs e absent))

    over_now : IsOver (links_of graph) (length graph.manifest.paths) stood left there
    over_now = record {
      edges = may.over.over.edges ∙ sym may.edges;
      known = more.fits;
      counts = λ e waits. elim (cases_Bool (has_number edges e)) [
        | inl there_e ↦ again.each e there_e (fresh_command (standing_at stood e) (to_count e there_e).fresh waits)
        | inr absent ↦ again.others e absent ∙ (may.over.over.counts e waits ∙ as_before e absent)
      ];
      sound = λ p flag. elim (cases_lt p (length plan.there.items)) [
        | inl low ↦ ap (maker_settled stood) (maker_same p (omega (arith, low, known))) ∙ may.over.over.sound p (sym (more.same p low) ∙ flag)
        | inr past ↦ settled_none ((links_of graph).maker p) (sym (more.sources p past (let low = flag_range there p flag in let size = more.fits in omega (arith, low, size))) ∙ flag)
      ];
      complete = λ p within settled. elim (cases_lt p (length plan.there.items)) [
        | inl low ↦ more.same p low ∙ may.over.over.complete p (omega (arith, low, known)) (sym (ap (maker_settled stood) (maker_same p (omega (arith, low, known)))) ∙ settled)
        | inr past ↦ more.sources p past within ∙ source p (omega (arith, past, known)) ((links_of graph).maker p) refl settled
      ];
    }
      where
        source : (p : ℕ) → length before.manifest.paths ≤ p → (o : Option ℕ) → (links_of graph).maker p ≡ o → maker_settled stood ((links_of graph).maker p) ≡ true → is_none ((links_of graph).maker p) ≡ true
        source p past None is settled = ap is_none is
        source p past (Some m) is settled = absurd (false≢true (sym (new_unsettled p m past is) ∙ (sym (ap (maker_settled stood) is) ∙ settled)))

  -- ---- the files that are still to be loaded

  other_edge : (e f : ℕ) → dyndep_at before e ≡ Some f → (f ≡ file → ⊥) → has_number edges e ≡ false
  other_edge e f names differ = may.alone.were e ∙ (ap (λ (o : Option ℕ). is_file o file) names ∙ false_from_ne_true (f == file) (λ is. differ (eqb-true f file is)))

  other_file : (e f : ℕ) → has_number edges e ≡ false → dyndep_at before e ≡ Some f → f ≡ file → ⊥
  other_file e f absent names same = false≢true (sym absent ∙ (may.alone.were e ∙ (ap (λ (o : Option ℕ). is_file o file) names ∙ eq-eqb f file same)))

  first_still : (f d : ℕ) → (f ≡ file → ⊥) → IsFirstToName before f d → IsFirstToName graph f d
  first_still f d differ first = record {
    names = may.alone.files d (other_edge d f first.names differ) ∙ first.names;
    first = λ k low names. elim (cases_Bool (has_number edges k)) [
      | inl there_k ↦ none_some f (sym (may.alone.loaded k there_k) ∙ names)
      | inr absent ↦ first.first k low (sym (may.alone.files k absent) ∙ names)
    ];
  }

  abbrev Other : ℕ → Type 0
  Other f = (f ≡ file → ⊥) × (f < length before.manifest.paths)

  still_before : (f o : ℕ) → Other f → Other o → LoadsBefore before f o → LoadsBefore graph f o
  still_before f o one two (BySource d none made) = BySource d (maker_same f one.1 ∙ none) (may.alone.made o d made)
  still_before f o one two (ByEdge d e source first second less) =
      ByEdge d e (λ none. maker_same f one.1 ∙ source (sym (maker_same o two.1) ∙ none)) (first_still f d one.0 first) (first_still o e two.0 second) less

  loads_now : AreLoads graph stood (without file plan.loads.items)
  loads_now = record {
    named = λ f there_f.
        let back = without_has file f plan.loads.items there_f in
        let want = may.over.loading.loads_are.named f back.0 in
        record { edge = want.edge; inside = want.inside; names = may.alone.files want.edge (other_edge want.edge f want.names back.1) ∙ want.names };
    all = λ e f inside names. elim (cases_Bool (has_number edges e)) [
      | inl there_e ↦ absurd (none_some f (sym (may.alone.loaded e there_e) ∙ names))
      | inr absent ↦
          let was = sym (may.alone.files e absent) ∙ names in
          without_keeps file f plan.loads.items (may.over.loading.loads_are.all e f inside was) (other_file e f absent was)
    ];
    ordered = ordered_without before graph file Other still_before plan.loads.items
        (λ f there_f differ. let want = may.over.loading.loads_are.named f there_f in (differ, (stand before want.edge f want.names).1)) may.over.loading.loads_are.ordered;
  }

  -- the plan is one over the graph as it is
  pub over_by : (new : Plan) → new.standings.items ≡ stood → new.queue ≡ plan.queue → AreNone new.pending → length new.changed.items ≡ length graph.manifest.paths → new.loads.items ≡ without file plan.loads.items
      → AreLongerThere (links_of graph) (length graph.manifest.paths) plan.there.items new.there.items → AreRecounted graph stood new.there.items edges plan.left.items new.left.items → IsPlanOver graph new
  over_by new stands queue none flags loads more again = record {
    over = subst (λ (s : List Standing). IsOver (links_of graph) (length graph.manifest.paths) s new.left.items new.there.items) (sym stands) (over_now new.there.items new.left.items more again);
    settled = none;
    pooled = subst (λ (s : List Standing). IsPooled graph s new.queue) (sym stands) (subst (λ (t : Turns). IsPooled graph stood t) (sym {A = Turns} queue) (pooled_grown graph plan stood (may_of before graph plan load may)));
    flags = flags;
    loading = subst (λ (s : List Standing). IsLoading graph s new.queue new.loads.items) (sym stands)
        (subst (λ (t : Turns). IsLoading graph stood t new.loads.items) (sym {A = Turns} queue)
        (subst (λ (l : List ℕ). IsLoading graph stood plan.queue l) (sym loads) record { loads_are = loads_now; all = λ some. all_pooled graph plan (may_of before graph plan load may) }));
  }

  -- ---- it is that of the same steps

  module _ (earlier task : Task) (steps : List Step) (at : IsPlanned earlier before plan steps) (taken : AreTaken earlier steps) (stated : IsTaskOf task graph) (more : IsGrownTask earlier task) where
    has_grown : HasGrown earlier.graph.edges task.graph.edges
    has_grown = grown_by more.file more.additions earlier.graph.edges task.graph.edges more.grown

    -- what makes an input of an alias made one before
    pub record WasInput (i j : ℕ) : Type 0 where
      pub path : List ℕ
      pub input : has (inputs (edge_at earlier.graph.edges i)) path ≡ true
      pub made : maker earlier.graph.edges path ≡ Some j

    was_input : (i j : ℕ) (p : List ℕ) → (edge_at earlier.graph.edges i).phony ≡ true → has (inputs (edge_at task.graph.edges i)) p ≡ true → maker task.graph.edges p ≡ Some j → WasInput i j
    was_input zero j p phony input made = absurd (false≢true input)
    was_input (suc e) j p phony input made =
        let found = stated.linked.complete e j record { path = p; needed = has-left (inputs (edge_at task.graph.edges (suc e))) (task.recorded (suc e)) p input; made = made } in
        let needs = may.alone.needs e absent in
        let within : found.place < length (needs_of before e) = subst (λ (l : List ℕ). found.place < length l) needs found.within in
        let is : (links_of graph).maker (get_or (needs_of before e) found.place 0) ≡ Some found.number = subst (λ (l : List ℕ). (links_of graph).maker (get_or l found.place 0) ≡ Some found.number) needs found.is in
        let was = maker_was (get_or (needs_of before e) found.place 0) found.number (may.alone.below e found.place within) is in
        let old = at.stated.linked.linked e j record { place = found.place; number = found.number; within = within; is = was; same = found.same } in
        record {
          path = old.path;
          input = elim (has-cases (inputs (edge_at earlier.graph.edges (suc e))) (earlier.recorded (suc e)) old.path old.needed) [
            | inl declared ↦ declared
            | inr noted ↦ absurd (false≢true (ap (λ (l : List (List ℕ)). has l old.path) (sym (at.stated.bare (suc e) phony)) ∙ noted))
          ];
          made = old.made;
        }
      where
        absent : has_number edges e ≡ false
        absent = may.alone.were e ∙ ap (λ (o : Option ℕ). is_file o file) (alias_names_none (get_or before.manifest.actions e no_action) (at.stated.phony e ∙ phony))

    -- what was settled is so still
    same_settled : (i : ℕ) → IsSettled earlier.graph.edges (done_in steps) i → IsSettled task.graph.edges (done_in steps) i
    same_settled i (Done _ command done) = Done i (has_grown.phony i ∙ command) done
    same_settled i (ByAlias _ phony below) =
        ByAlias i (has_grown.phony i ∙ phony) (λ p j input made. same_settled j (below (was_input i j p phony input made).path j (was_input i j p phony input made).input (was_input i j p phony input made).made))

    module _ (cone : Cone) (cone_of : IsConeOf task.graph.edges task.recorded task.targets cone.order.items cone.marks.items) (inside : AreInside cone.marks.items stood) (new : Plan) (stands : new.standings.items ≡ stood) where
      same : {X : Type 0} (f : Standing → X) (e : ℕ) → f (standing_at new.standings.items e) ≡ f (standing_at stood e)
      same f e = ap (λ (s : List Standing). f (standing_at s e)) stands

      stays : (e : ℕ) → IsInCone task.graph.edges task.recorded task.targets (suc e) → is_outside (standing_at stood e) ≡ false
      stays e in_cone = not_true (is_outside (standing_at stood e)) (sym (inside e) ∙ (cone_of.marked e ∙ (sym (has_later cone.order.items e) ∙ cone_of.all (suc e) in_cone)))

      pub planned_by : new.queue ≡ plan.queue → new.jobs ≡ plan.jobs → new.keep ≡ plan.keep → IsPlanOver graph new → IsPlanned task graph new steps
      planned_by queue jobs keep over = record {
        stated = stated;
        limits = (jobs ∙ (at.limits.0 ∙ sym more.jobs), keep ∙ (at.limits.1 ∙ sym more.keep));
        over = over;
        within = λ e is. still_in_cone earlier task more (suc e) (at.within e (sym (same is_outside e) ∙ is));
        inside = λ e in_cone. same is_outside e ∙ stays e in_cone;
        kinds = λ e is. same is_phony e ∙ (at.kinds e (sym (same is_outside e) ∙ is) ∙ sym (has_grown.phony (suc e)));
        stands = λ e in_cone command. same (λ (s : Standing). s) e ∙ at.stands e (at.within e (stays e in_cone)) (sym (has_grown.phony (suc e)) ∙ command);
        settled = λ e is. same_settled (suc e) (at.settled e (sym (same is_settled e) ∙ is));
        runs = λ g. subst (λ (t : Turns). get_or t.running g 0 ≡ length (filter (is_grouped t g) (running_in steps))) (sym {A = Turns} queue) (at.runs g);
      }

  -- and goes on, over each cone with just the edges that stand in it
  pub goes_on_by : (new : Plan) → new.standings.items ≡ stood → new.queue ≡ plan.queue → new.jobs ≡ plan.jobs → new.keep ≡ plan.keep → IsPlanOver graph new → (cone : Cone) → AreInside cone.marks.items stood → GoesOnFrom before graph cone plan new
  goes_on_by new stands queue jobs keep over cone inside earlier task steps at taken stated more cone_of = (
    planned_by earlier task steps at taken stated more cone cone_of inside new stands queue jobs keep over,
    still_taken earlier task more steps taken,
  )
