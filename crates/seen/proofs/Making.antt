-- Which edge makes a path, and which paths are in a table.
use Rattle.std.proofs.Common.{◌≡◌, ◌<◌, ◌≤◌, ◌+◌, ℕ, zero, suc, Bool, true, false, ◌||◌, if◌then◌else◌, List, [], ◌∷◌, ◌++◌, take, length, get_or, Option, Some, None, is_some, slice_get, bytes_eq, nat_lt, refl, sym, ap, subst, ◌∙◌, append_assoc}
use Rattle.std.specs.Borrow.{Bor}
use Rattle.std.specs.Prelude.{MatchOption}
use Rattle.std.specs.List.{cons_option}
use Rattle.std.specs.Option.{option_map, option_or}
use Rattle.std.proofs.lemmas.List.{append-nil, map_push, take_all, take_more}
use Rattle.std.proofs.lemmas.List.Elements.{filter_map-append}
use Rattle.std.proofs.lemmas.Bool.{cond-true, false≢true, ltb-true, lt-ltb}
use Rattle.std.proofs.lemmas.Slice.Eq.{bytes_eq-Decides}
use Rattle.model.specs.Graph.{has}
use Rattle.std.specs.Map.{lookup}
use Rattle.seen.specs.declared.makers.Makers.{Makers}
use Rattle.seen.specs.declared.makers.Output.{Output}
use Rattle.seen.specs.Makers.{are_below, is_job, made_in, maker_in, maker_of, pairs_of, texts_with}

-- ---- a table of paths

or_true : (a b : Bool) → b ≡ true → a || b ≡ true
or_true true b e = refl
or_true false b e = e

in_has : (texts : List (List ℕ)) (n : ℕ) (p : List ℕ) → slice_get texts n ≡ Some p → has texts p ≡ true
in_has [] n p e = cc
in_has (t ∷ texts) zero p e =
    let same : t ≡ p = cc in
    ap (λ (b : Bool). b || has texts p) ((bytes_eq-Decides t p).1 same)
in_has (t ∷ texts) (suc n) p e = or_true (bytes_eq t p) (has texts p) (in_has texts n p e)

pub found_is : (texts : List (List ℕ)) (p : List ℕ) (found : Option ℕ) → MatchOption found (has texts p ≡ false) (λ n. slice_get texts n ≡ Some p) → is_some found ≡ has texts p
found_is texts p None is = sym is
found_is texts p (Some n) is = sym (in_has texts n p is)

-- ---- what is listed goes into the table

or_same : (a later : Option ℕ) (here : Bool) (job : ℕ) → option_or (option_or a (if here then Some job else None)) later ≡ option_or a (if here then Some job else later)
or_same (Some x) later here job = refl
or_same None later true job = refl
or_same None later false job = refl

if_or : (here : Bool) (job : ℕ) (rest later : Option ℕ) → option_or (if here then Some job else rest) later ≡ (if here then Some job else option_or rest later)
if_or true job rest later = refl
if_or false job rest later = refl

maker_last : (os : List Output) (o : Output) (p : List ℕ) → maker_in (os ++ o ∷ []) p ≡ option_or (maker_in os p) (if bytes_eq o.text.now p then Some o.job else None)
maker_last [] o p = refl
maker_last (x ∷ os) o p =
    ap (λ (rest : Option ℕ). if bytes_eq x.text.now p then Some x.job else rest) (maker_last os o p)
    ∙ sym (if_or (bytes_eq x.text.now p) x.job (maker_in os p) (if bytes_eq o.text.now p then Some o.job else None))

-- the last one is found in the table as it was in the list
pub moved : (rest listed : List Output) (o : Output) (p : List ℕ) (was now : Option ℕ) → listed ≡ rest ++ o ∷ [] → now ≡ (if bytes_eq o.text.now p then Some o.job else was)
    → option_or (maker_in rest p) now ≡ option_or (maker_in listed p) was
moved rest listed o p was now is_listed is_now =
    ap (λ (it : Option ℕ). option_or (maker_in rest p) it) is_now
    ∙ sym (ap (λ (m : Option ℕ). option_or m was) (ap (λ (l : List Output). maker_in l p) is_listed ∙ maker_last rest o p)
    ∙ or_same (maker_in rest p) was (bytes_eq o.text.now p) o.job)

-- nothing is listed any more
pub in_table : (listed : List Output) (p : List ℕ) (table before : Option ℕ) → option_or (maker_in listed p) table ≡ before → listed ≡ [] → table ≡ before
in_table listed p table before is none = sym (ap (λ (l : List Output). option_or (maker_in l p) table) none) ∙ is

-- ---- what an edge makes

has_here : (p : List ℕ) (ps : List (List ℕ)) (q : List ℕ) → bytes_eq q p ≡ true → has (q ∷ ps) p ≡ true
has_here p ps q is = ap (λ (b : Bool). b || has ps p) is

has_there : (p : List ℕ) (ps : List (List ℕ)) (q : List ℕ) → bytes_eq q p ≡ false → has (q ∷ ps) p ≡ has ps p
has_there p ps q is = ap (λ (b : Bool). b || has ps p) is

module _ (all : List Output) (job : ℕ) (p : List ℕ) where
  abbrev rest_with : (makes : Bool) → List ℕ → List (List ℕ) → List (List ℕ)
  rest_with makes text rest = if makes then text ∷ rest else rest

  apart : (text : List ℕ) → is_job job (maker_in all p) ≡ false → is_job job (maker_in all text) ≡ true → bytes_eq text p ≡ false
  apart text none makes = by (bytes_eq text p) refl
    where
      by : (b : Bool) → bytes_eq text p ≡ b → bytes_eq text p ≡ false
      by true same = absurd (false≢true (sym none ∙ (ap (λ (q : List ℕ). is_job job (maker_in all q)) (sym ((bytes_eq-Decides text p).0 same)) ∙ makes)))
      by false other = other

  not_with : (text : List ℕ) (rest : List (List ℕ)) → is_job job (maker_in all p) ≡ false → has rest p ≡ false → has (rest_with (is_job job (maker_in all text)) text rest) p ≡ false
  not_with text rest none not_there = by (is_job job (maker_in all text)) refl
    where
      by : (b : Bool) → is_job job (maker_in all text) ≡ b → has (rest_with (is_job job (maker_in all text)) text rest) p ≡ false
      by true makes = ap (λ (it : Bool). has (rest_with it text rest) p) makes ∙ (has_there p rest text (apart text none makes) ∙ not_there)
      by false other = ap (λ (it : Bool). has (rest_with it text rest) p) other ∙ not_there

  -- of a path that another edge makes, or none, nothing is made
  made_not : (os : List Output) → is_job job (maker_in all p) ≡ false → has (made_in all os job) p ≡ false
  made_not [] none = refl
  made_not (o ∷ os) none = not_with o.text.now (made_in all os job) none (made_not os none)

  -- what is there stays there
  with_more : (text : List ℕ) (rest : List (List ℕ)) → has rest p ≡ true → has (rest_with (is_job job (maker_in all text)) text rest) p ≡ true
  with_more text rest there = by (is_job job (maker_in all text)) (bytes_eq text p) refl refl
    where
      by : (b here : Bool) → is_job job (maker_in all text) ≡ b → bytes_eq text p ≡ here → has (rest_with (is_job job (maker_in all text)) text rest) p ≡ true
      by true true makes same = ap (λ (it : Bool). has (rest_with it text rest) p) makes ∙ has_here p rest text same
      by true false makes other = ap (λ (it : Bool). has (rest_with it text rest) p) makes ∙ (has_there p rest text other ∙ there)
      by false here other is = ap (λ (it : Bool). has (rest_with it text rest) p) other ∙ there

  -- this text is the path, which the edge makes
  with_here : (text : List ℕ) (rest : List (List ℕ)) → bytes_eq text p ≡ true → is_job job (maker_in all p) ≡ true → has (rest_with (is_job job (maker_in all text)) text rest) p ≡ true
  with_here text rest same makes =
      let one : text ≡ p = (bytes_eq-Decides text p).0 same in
      ap (λ (it : Bool). has (rest_with it text rest) p) (ap (λ (q : List ℕ). is_job job (maker_in all q)) one ∙ makes) ∙ has_here p rest text same

  found_in : (here : Bool) (text : List ℕ) (rest : List (List ℕ)) (o : ℕ) (later : Option ℕ) (found : ℕ) → bytes_eq text p ≡ here → (if here then Some o else later) ≡ Some found → is_job job (maker_in all p) ≡ true
      → (later ≡ Some found → has rest p ≡ true) → has (rest_with (is_job job (maker_in all text)) text rest) p ≡ true
  found_in true text rest o later found same is makes follows = with_here text rest same makes
  found_in false text rest o later found other is makes follows = with_more text rest (follows is)

  -- and of one that this edge makes, it is
  made_here : (os : List Output) (found : ℕ) → maker_in os p ≡ Some found → is_job job (maker_in all p) ≡ true → has (made_in all os job) p ≡ true
  made_here [] found is makes = absurd (none is)
    where
      none : None ≡ Some found → ⊥
      none e = cc
  made_here (o ∷ os) found is makes =
      found_in (bytes_eq o.text.now p) o.text.now (made_in all os job) o.job (maker_in os p) found refl is makes (λ so. made_here os found so makes)

some_job : (job : ℕ) (maker : Option ℕ) → is_job job maker ≡ true → (found : ℕ) × (maker ≡ Some found)
some_job job None makes = absurd (false≢true makes)
some_job job (Some found) makes = (found, refl)

made_has : (all : List Output) (job : ℕ) (p : List ℕ) → has (made_in all all job) p ≡ is_job job (maker_in all p)
made_has all job p = by (is_job job (maker_in all p)) refl
  where
    by : (b : Bool) → is_job job (maker_in all p) ≡ b → has (made_in all all job) p ≡ is_job job (maker_in all p)
    by true makes = (let found = some_job job (maker_in all p) makes in made_here all job p all found.0 found.1 makes ∙ sym makes)
    by false none = made_not all job p all none ∙ sym none

-- so it is where all is listed
or_none : (m : Option ℕ) → option_or m None ≡ m
or_none None = refl
or_none (Some job) = refl

pub made_of : (makers : Makers) → makers.table.entries ≡ [] → (job : ℕ) (p : List ℕ) → has (made_in makers.listed.items makers.listed.items job) p ≡ is_job job (maker_of makers p)
made_of makers none job p =
    made_has makers.listed.items job p
    ∙ ap (is_job job) (sym (ap (λ (es : List (Bor (List ℕ) × ℕ)). option_or (maker_in makers.listed.items p) (lookup (λ k. bytes_eq p k.now) es)) none ∙ or_none (maker_in makers.listed.items p)))

-- ---- edges

if_below : (b : Bool) (rest more : Bool) → (rest ≡ true → more ≡ true) → (if b then rest else false) ≡ true → (if b then more else false) ≡ true
if_below true rest more follows is = follows is
if_below false rest more follows is = absurd (false≢true is)

pub below_more : (jobs : ℕ) (os : List Output) (o : Output) → are_below jobs os ≡ true → o.job < jobs → are_below jobs (os ++ o ∷ []) ≡ true
below_more jobs [] o all here = cond-true (nat_lt o.job jobs) true false (lt-ltb o.job jobs here)
below_more jobs (x ∷ os) o all here = if_below (nat_lt x.job jobs) (are_below jobs os) (are_below jobs (os ++ o ∷ [])) (λ rest. below_more jobs os o rest here) all

below_rest : (b rest : Bool) → (if b then rest else false) ≡ true → (b ≡ true) × (rest ≡ true)
below_rest true rest is = (refl, is)
below_rest false rest is = absurd (false≢true is)

some_is : {a b : ℕ} → Some a ≡ Some b → a ≡ b
some_is e = cc

here_or : (b : Bool) (o jobs job : ℕ) (rest : Option ℕ) → o < jobs → (rest ≡ Some job → job < jobs) → (if b then Some o else rest) ≡ Some job → job < jobs
here_or true o jobs job rest low follows is = subst (λ (j : ℕ). j < jobs) (some_is is) low
here_or false o jobs job rest low follows is = follows is

pub are_jobs : (jobs : ℕ) (os : List Output) (p : List ℕ) (job : ℕ) → are_below jobs os ≡ true → maker_in os p ≡ Some job → job < jobs
are_jobs jobs [] p job all is = absurd (none is)
  where
    none : None ≡ Some job → ⊥
    none e = cc
are_jobs jobs (o ∷ os) p job all is =
    let parts = below_rest (nat_lt o.job jobs) (are_below jobs os) all in
    here_or (bytes_eq o.text.now p) o.job jobs job (maker_in os p) (ltb-true o.job jobs parts.0) (λ rest. are_jobs jobs os p job parts.1 rest) is

-- so they are in a table without entries
pub jobs_of_listed : (makers : Makers) → makers.table.entries ≡ [] → are_below makers.jobs makers.listed.items ≡ true → (p : List ℕ) (job : ℕ) → maker_of makers p ≡ Some job → job < makers.jobs
jobs_of_listed makers none all p job is =
    are_jobs makers.jobs makers.listed.items p job all
    (sym (ap (λ (es : List (Bor (List ℕ) × ℕ)). option_or (maker_in makers.listed.items p) (lookup (λ k. bytes_eq p k.now) es)) none ∙ or_none (maker_in makers.listed.items p)) ∙ is)

-- ---- what is listed

module _ (paths : List (List ℕ)) (job : ℕ) where
  abbrev with_job : Option (List ℕ) → Option (List ℕ × ℕ)
  with_job found = option_map (λ (text : List ℕ). (text, job)) found

  -- one path more
  path_more : (numbers : List ℕ) (i d : ℕ) (found : Option (List ℕ)) → i < length numbers → slice_get paths (get_or numbers i d) ≡ found
      → texts_with paths job (take (i + 1) numbers) ≡ texts_with paths job (take i numbers) ++ cons_option (with_job found) []
  path_more numbers i d found below is =
      ap (texts_with paths job) (take_more numbers i d below)
      ∙ (filter_map-append (λ (number : ℕ). with_job (slice_get paths number)) (take i numbers) (get_or numbers i d ∷ [])
      ∙ ap (λ (it : Option (List ℕ)). texts_with paths job (take i numbers) ++ cons_option (with_job it) []) is)

  -- its text is listed
  pub text_more : (numbers : List ℕ) (i d : ℕ) (os : List Output) (o : Output) (before : List (List ℕ × ℕ)) → i < length numbers → slice_get paths (get_or numbers i d) ≡ Some o.text.now → o.job ≡ job
      → pairs_of os ≡ before ++ texts_with paths job (take i numbers) → pairs_of (os ++ o ∷ []) ≡ before ++ texts_with paths job (take (i + 1) numbers)
  text_more numbers i d os o before below is same so_far =
      map_push (λ (o : Output). (o.text.now, o.job)) os o
      ∙ (ap (λ (l : List (List ℕ × ℕ)). l ++ (o.text.now, o.job) ∷ []) so_far
      ∙ (ap (λ (j : ℕ). (before ++ texts_with paths job (take i numbers)) ++ (o.text.now, j) ∷ []) same
      ∙ (append_assoc before (texts_with paths job (take i numbers)) ((o.text.now, job) ∷ [])
      ∙ sym (ap (λ (l : List (List ℕ × ℕ)). before ++ l) (path_more numbers i d (Some o.text.now) below is)))))

  -- or it has none
  pub none_more : (numbers : List ℕ) (i d : ℕ) (listed before : List (List ℕ × ℕ)) → i < length numbers → slice_get paths (get_or numbers i d) ≡ None
      → listed ≡ before ++ texts_with paths job (take i numbers) → listed ≡ before ++ texts_with paths job (take (i + 1) numbers)
  none_more numbers i d listed before below is so_far =
      so_far ∙ sym (ap (λ (l : List (List ℕ × ℕ)). before ++ l) (path_more numbers i d None below is ∙ append-nil (texts_with paths job (take i numbers))))

  -- all of them
  pub all_texts : (numbers : List ℕ) (i : ℕ) (listed before : List (List ℕ × ℕ)) → length numbers ≤ i
      → listed ≡ before ++ texts_with paths job (take i numbers) → listed ≡ before ++ texts_with paths job numbers
  all_texts numbers i listed before past so_far = so_far ∙ ap (λ (l : List ℕ). before ++ texts_with paths job l) (take_all i numbers past)
