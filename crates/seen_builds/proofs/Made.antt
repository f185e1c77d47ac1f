-- What is known to be made, by what is listed of a build file.
use Rattle.std.proofs.Common.{◌≡◌, ◌⊎◌, inl, inr, ℕ, zero, suc, Bool, true, false, if◌then◌else◌, List, [], ◌∷◌, ◌++◌, get_or, length, Option, Some, None, slice_get, bytes_eq, refl, sym, ◌∙◌, ap, subst}
use Rattle.std.specs.Borrow.{Bor}
use Rattle.std.specs.List.{cons_option}
use Rattle.std.specs.Map.{lookup}
use Rattle.std.specs.Option.{option_map, option_or}
use Rattle.std.proofs.lemmas.Bool.{eqb-true, false≢true, or_cases, or_left, or_right}
use Rattle.std.proofs.lemmas.List.{map-append}
use Rattle.std.proofs.lemmas.Slice.Eq.{bytes_eq-Decides}
use Rattle.indexmap.specs.IndexMap.{get_by}
use Rattle.model.specs.declared.graph.Edge.{Edge}
use Rattle.model.specs.Graph.{has, edge_at, no_edge, outputs}
use Rattle.paths.specs.declared.line.Line.{Line}
use Rattle.paths.specs.declared.manifest.Action.{Action}
use Rattle.paths.specs.declared.manifest.Action.TheVariants.{Alias, Command}
use Rattle.paths.specs.declared.manifest.Manifest.{Manifest}
use Rattle.paths.specs.Commands.{no_action}
use Rattle.paths.specs.Lists.{line_at, line_outputs, no_line}
use Rattle.paths.specs.Told.{edge_of, edges_of, graph_of, text_at, texts_at}
use Rattle.theory.proofs.Growth.{HasGrown}
use Rattle.theory.proofs.Lists.{same_bytes}
use Rattle.seen.specs.declared.makers.Makers.{Makers}
use Rattle.seen.specs.declared.makers.Output.{Output}
use Rattle.seen.specs.Makers.{command_outputs, is_job, listing, listing_at, made_in, maker_in, pairs_of, texts_with}
use Rattle.seen_builds.specs.Makes.{KnowsMakers, ListedAreMade}

no_some : {X : Type 0} {x : X} → None ≡ Some x → ⊥
no_some e = cc

some_is : {X : Type 0} {x y : X} → Some x ≡ Some y → x ≡ y
some_is e = cc

-- ---- what is listed

-- the text is listed with this number
abbrev HasPair : List (List ℕ × ℕ) → List ℕ → ℕ → Type 0
HasPair [] p job = ⊥
HasPair (x ∷ xs) p job = ((x.0 ≡ p) × (x.1 ≡ job)) ⊎ HasPair xs p job

-- the maker of a path is listed with it
maker_pair : (os : List Output) (p : List ℕ) (job : ℕ) → maker_in os p ≡ Some job → HasPair (pairs_of os) p job
maker_pair [] p job is = absurd (no_some is)
maker_pair (o ∷ os) p job is = by (bytes_eq o.text.now p) refl is (λ later. maker_pair os p job later)
  where
    by : (here : Bool) → bytes_eq o.text.now p ≡ here → (if here then Some o.job else maker_in os p) ≡ Some job
        → (maker_in os p ≡ Some job → HasPair (pairs_of os) p job) → HasPair (pairs_of (o ∷ os)) p job
    by true same found further = inl (same_bytes o.text.now p same, some_is found)
    by false other found further = inr (further found)

pair_cases : (xs ys : List (List ℕ × ℕ)) (p : List ℕ) (job : ℕ) → HasPair (xs ++ ys) p job → HasPair xs p job ⊎ HasPair ys p job
pair_cases [] ys p job h = inr h
pair_cases (x ∷ xs) ys p job (inl here) = inl (inl here)
pair_cases (x ∷ xs) ys p job (inr later) = elim (pair_cases xs ys p job later) [
  | inl left ↦ inl (inr left)
  | inr right ↦ inr right
]

-- ---- by the numbers of a line

has_first : (t p : List ℕ) (ts : List (List ℕ)) → t ≡ p → has (t ∷ ts) p ≡ true
has_first t p ts same = or_left (bytes_eq t p) (has ts p) ((bytes_eq-Decides t p).1 same)

has_later : (t p : List ℕ) (ts : List (List ℕ)) → has ts p ≡ true → has (t ∷ ts) p ≡ true
has_later t p ts there = or_right (bytes_eq t p) (has ts p) there

got : (ts : List (List ℕ)) (n : ℕ) (t : List ℕ) → slice_get ts n ≡ Some t → text_at ts n ≡ t
got [] n t is = absurd (no_some is)
got (x ∷ ts) zero t is = some_is is
got (x ∷ ts) (suc n) t is = got ts n t is

module _ (paths : List (List ℕ)) (job : ℕ) where
  -- the path is a text of one of these numbers
  abbrev IsOf : List ℕ → List ℕ → ℕ → Type 0
  IsOf numbers p j = (j ≡ job) × (has (texts_at paths numbers) p ≡ true)

  -- what is listed of numbers is a text of one
  pair_of : (numbers : List ℕ) (p : List ℕ) (j : ℕ) → HasPair (texts_with paths job numbers) p j → IsOf numbers p j
  pair_of [] p j h = absurd h
  pair_of (n ∷ numbers) p j h = by (slice_get paths n) refl h (λ later. further (pair_of numbers p j later))
    where
      further : IsOf numbers p j → IsOf (n ∷ numbers) p j
      further rest = (rest.0, has_later (text_at paths n) p (texts_at paths numbers) rest.1)

      by : (found : Option (List ℕ)) → slice_get paths n ≡ found → HasPair (cons_option (option_map (λ (text : List ℕ). (text, job)) found) (texts_with paths job numbers)) p j
          → (HasPair (texts_with paths job numbers) p j → IsOf (n ∷ numbers) p j) → IsOf (n ∷ numbers) p j
      by None is later rest = rest later
      by (Some text) is (inl here) rest = (sym here.1, has_first (text_at paths n) p (texts_at paths numbers) (got paths n text is ∙ here.0))
      by (Some text) is (inr later) rest = rest later

-- ---- by the lines

-- an edge with a command has the path among its outputs
abbrev Makes : Edge → List ℕ → Type 0
Makes e p = (has (outputs e) p ≡ true) × (e.phony ≡ false)

module _ (paths : List (List ℕ)) (job : ℕ) (p : List ℕ) (j : ℕ) where
  -- of one line with its action
  made_by : (line : Line) (action : Action) → HasPair (texts_with paths job (command_outputs action line)) p j → (j ≡ job) × Makes (edge_of paths line action) p
  made_by line Alias h = absurd h
  made_by line (Command command) h =
      let is = pair_of paths job (line_outputs line) p j h in (
        is.0,
        (subst (λ (ps : List (List ℕ)). has ps p ≡ true) (map-append (text_at paths) line.explicit_outputs line.implicit_outputs) is.1, refl),
      )

  none_listed : (action : Action) → HasPair (texts_with paths job (command_outputs action no_line)) p j → ⊥
  none_listed Alias h = h
  none_listed (Command command) h = h

  -- of the line at a place
  made_at : (lines : List Line) (actions : List Action) (place : ℕ) → HasPair (texts_with paths job (command_outputs (get_or actions place no_action) (line_at lines place))) p j
      → (j ≡ job) × Makes (get_or (edges_of paths lines actions) place no_edge) p
  made_at [] actions place h = absurd (none_listed (get_or actions place no_action) h)
  made_at (line ∷ lines) [] place h = absurd h
  made_at (line ∷ lines) (action ∷ actions) zero h = made_by line action h
  made_at (line ∷ lines) (action ∷ actions) (suc place) h = made_at lines actions place h

-- of the first lines
made_in_all : (manifest : Manifest) (count : ℕ) (p : List ℕ) (j : ℕ) → HasPair (listing manifest count) p j → Makes (edge_at (graph_of manifest).edges j) p
made_in_all manifest zero p j h = absurd h
made_in_all manifest (suc count) p j h = elim (pair_cases (listing manifest count) (listing_at manifest count) p j h) [
  | inl before ↦ made_in_all manifest count p j before
  | inr here ↦
      let is = made_at manifest.paths (suc count) p j manifest.lines manifest.actions count here in
      subst (λ (i : ℕ). Makes (edge_at (graph_of manifest).edges i) p) (sym is.0) is.1
]

or_none : (m : Option ℕ) → option_or m None ≡ m
or_none None = refl
or_none (Some job) = refl

pub listed_law : ListedAreMade
listed_law makers manifest empty lists p job is =
    let listed : maker_in makers.listed.items p ≡ Some job =
    sym (ap (λ (es : List (Bor (List ℕ) × ℕ)). option_or (maker_in makers.listed.items p) (lookup (λ k. bytes_eq p k.now) es)) empty ∙ or_none (maker_in makers.listed.items p)) ∙ is in
    made_in_all manifest (length manifest.lines) p job
    (subst (λ (ps : List (List ℕ × ℕ)). HasPair ps p job) lists (maker_pair makers.listed.items p job listed))

-- ---- what an edge is told to make

job_is : (job : ℕ) (maker : Option ℕ) → is_job job maker ≡ true → maker ≡ Some job
job_is job None is = absurd (false≢true is)
job_is job (Some it) is = ap (λ (n : ℕ). Some n) (eqb-true it job is)

made_maker : (all os : List Output) (job : ℕ) (p : List ℕ) → has (made_in all os job) p ≡ true → maker_in all p ≡ Some job
made_maker all [] job p h = absurd (false≢true h)
made_maker all (o ∷ os) job p h = by (is_job job (maker_in all o.text.now)) refl h (λ later. made_maker all os job p later)
  where
    by : (makes : Bool) → is_job job (maker_in all o.text.now) ≡ makes → has (if makes then o.text.now ∷ made_in all os job else made_in all os job) p ≡ true
        → (has (made_in all os job) p ≡ true → maker_in all p ≡ Some job) → maker_in all p ≡ Some job
    by true makes there further = elim (or_cases (bytes_eq o.text.now p) (has (made_in all os job) p) there) [
      | inl same ↦ ap (λ (q : List ℕ). maker_in all q) (sym (same_bytes o.text.now p same)) ∙ job_is job (maker_in all o.text.now) makes
      | inr later ↦ further later
    ]
    by false other there further = further there

-- by what is known to be made, what the command of an edge takes over is its output
pub makes_outputs : (makers : Makers) (edges : List Edge) → KnowsMakers makers edges → (job : ℕ) (p : List ℕ) → has (made_in makers.listed.items makers.listed.items job) p ≡ true
    → has (outputs (edge_at edges job)) p ≡ true
makes_outputs makers edges knows job p h =
    (knows p job (ap (λ (m : Option ℕ). option_or m (get_by (λ k. bytes_eq p k.now) makers.table)) (made_maker makers.listed.items makers.listed.items job p h))).0

-- ---- dyndep files

-- so it is with what dyndep files add
pub knows_grown : (makers : Makers) (few many : List Edge) → HasGrown few many → KnowsMakers makers few → KnowsMakers makers many
knows_grown makers few many grown knows p job is =
    let was = knows p job is in
    (grown.outputs job p was.0, grown.phony job ∙ was.1)
