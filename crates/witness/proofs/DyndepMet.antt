-- The rows with a dyndep file.
use Rattle.std.proofs.Common.{◌≡◌, inl, inr, ℕ, zero, suc, ◌<◌, ◌==◌, true, false, List, [], ◌∷◌, ◌++◌, Some, None, refl, sym, ◌∙◌, ap, subst, append_assoc, arith}
use Rattle.std.proofs.lemmas.Bool.{false≢true, cases_Bool}
use Rattle.std.proofs.lemmas.List.{append_cancel_left}
use Rattle.std.specs.Prelude.{codes, bytes_eq}
use Rattle.model.specs.declared.event.Moment.{Moment}
use Rattle.model.specs.declared.event.Moment.TheVariants.{Wrote, Happened}
use Rattle.model.specs.declared.graph.Edge.{Edge}
use Rattle.model.specs.World.{file_at, IsIdle}
use Rattle.model.specs.Calls.{OnlyLooks}
use Rattle.model.specs.Graph.{has, has_number, edge_at, maker, inputs, IsCommand, Addition, grown_edge}
use Rattle.model.specs.Reading.{Wanted, Needed, Validating}
use Rattle.model.specs.OutOfDate.{IsMissing, NoneIsMissing}
use Rattle.model.specs.Schedule.{Step, started_in, done_in}
use Rattle.model.specs.Phases.{IsLoad, IsOnlyFor, IsPointAfter, IsLawfulBuild}
use Rattle.model.specs.SingleBuild.{Asked, Success, IsShownCycle, NamesOther, InCone, asked_with, task_of}
use Rattle.witness.specs.Small.{no_records}
use Rattle.witness.specs.Dyndep.{declared, grown, without_dd, not_an_input, asked_of, says, text, texts, reads_dyndep, first_phase, last_phase, clean_first, clean_last, at_entry, after_all, command_ran, IsLawfulWith, DyndepRows}
use Rattle.witness.proofs.RowLists.{all_has, none_some}
use Rattle.witness.proofs.Written.{written_in, unwritten, from_append}
use Rattle.witness.proofs.ThreeEdges.{task_over, first_lawful, clean_lawful, load_due, load_next, names_dd}
use Rattle.witness.proofs.Grown.{clean_lawful_after, made_once, no_cycle, no_load, unsettled, last_lawful, all_judged, each_settled}
use Rattle.witness.proofs.ReadTooEarly.{read_beside, reported_beside, reported_through}

some_none : {A : Type 0} (x : A) → Some x ≡ None → ⊥
some_none x e = cc

some_same : (i j : ℕ) → Some i ≡ Some j → i ≡ j
some_same i j e = cc

-- ---- the load

module _ (s : List ℕ) where
  named : (i : ℕ) → (edge_at (declared s) i).dyndep ≡ Some (codes "dd") → (a : Addition) × IsOnlyFor (edge_at (declared s) i) (says ∷ []) a × (edge_at (grown s) i ≡ grown_edge (edge_at (declared s) i) a)
  named zero is = absurd (none_some (codes "dd") is)
  named (suc zero) is = absurd (none_some (codes "dd") is)
  named (suc (suc zero)) is = (says, record { before = []; after = []; splits = refl; fits = refl; earlier = tt; later = tt }, refl)
  named (suc (suc (suc zero))) is = absurd (none_some (codes "dd") is)
  named (suc (suc (suc (suc i)))) is = absurd (none_some (codes "dd") is)

  others : (i : ℕ) → ((edge_at (declared s) i).dyndep ≡ Some (codes "dd") → ⊥) → edge_at (grown s) i ≡ edge_at (declared s) i
  others zero other = refl
  others (suc zero) other = refl
  others (suc (suc zero)) other = absurd (other refl)
  others (suc (suc (suc zero))) other = refl
  others (suc (suc (suc (suc i)))) other = refl

  load : (before : List Step) → has_number (done_in before) 1 ≡ true → IsLoad reads_dyndep texts (task_over (declared s)) before (grown s)
  load before done = record {
    file = codes "dd";
    is_next = load_next s before done;
    content = text;
    holds = refl;
    additions = says ∷ [];
    read = refl;
    grown = record { as_many = refl; named = named; others = others; fit = ((2, refl, refl), tt) };
  }

-- ---- sources that stay

written_more : (p : List ℕ) (xs ys : List Moment) → has (written_in (xs ++ ys)) p ≡ false → has (written_in xs) p ≡ false
written_more p [] ys none = refl
written_more p (Wrote by path content stamp ∷ xs) ys none = elim (cases_Bool (bytes_eq path p)) [
  | inl same ↦ let no : true ≡ false = rw same at none in absurd (false≢true (sym no))
  | inr other ↦ let rest : has (written_in (xs ++ ys)) p ≡ false = rw other at none in rw other (written_more p xs ys rest)
]
written_more p (Happened event ∷ xs) ys none = written_more p xs ys none

still_there : (p : List ℕ) (before : List Step) (old more at : List Moment) → IsPointAfter before old (old ++ more) at → has (written_in more) p ≡ false → file_at at p ≡ file_at old p
still_there p before old more at point none =
    let whole : old ++ more ≡ old ++ (point.so_far ++ point.later) = point.grows ∙ (ap (λ (l : List Moment). l ++ point.later) point.is ∙ append_assoc old point.so_far point.later) in
    let parts : more ≡ point.so_far ++ point.later = append_cancel_left old more (point.so_far ++ point.later) whole in
    let unmoved : has (written_in point.so_far) p ≡ false = written_more p point.so_far point.later (subst (λ (l : List Moment). has (written_in l) p ≡ false) parts none) in
    ap (λ (l : List Moment). file_at l p) point.is ∙ (from_append p None old point.so_far ∙ unwritten p (file_at old p) point.so_far unmoved)

abbrev IsThere : List Moment → List ℕ → Type 0
IsThere at p = file_at at p ≡ None → ⊥

made_here : (edges : List Edge) (at : List Moment) (p : List ℕ) (i : ℕ) → maker edges p ≡ Some i → IsMissing edges at p → ⊥
made_here edges at p i made missing = some_none i (sym made ∙ missing.source)

declared_there : (at : List Moment) → IsThere at (codes "a") → IsThere at (codes "dd.src") → (i : ℕ) → NoneIsMissing (declared (codes "a")) at (inputs (edge_at (declared (codes "a")) i))
declared_there at a src zero = tt
declared_there at a src (suc zero) = (λ missing. src missing.absent, tt)
declared_there at a src (suc (suc zero)) = (λ missing. a missing.absent, (made_here (declared (codes "a")) at (codes "dd") 1 refl, tt))
declared_there at a src (suc (suc (suc zero))) = (λ missing. a missing.absent, tt)
declared_there at a src (suc (suc (suc (suc i)))) = tt

grown_there : (at : List Moment) → IsThere at (codes "a") → IsThere at (codes "dd.src") → (i : ℕ) → NoneIsMissing (grown (codes "a")) at (inputs (edge_at (grown (codes "a")) i))
grown_there at a src zero = tt
grown_there at a src (suc zero) = (λ missing. src missing.absent, tt)
grown_there at a src (suc (suc zero)) =
    (λ missing. a missing.absent, (made_here (grown (codes "a")) at (codes "h") 3 refl, (made_here (grown (codes "a")) at (codes "dd") 1 refl, tt)))
grown_there at a src (suc (suc (suc zero))) = (λ missing. a missing.absent, tt)
grown_there at a src (suc (suc (suc (suc i)))) = tt

abbrev all_more : List Moment
all_more = command_ran 1 (codes "dd") 3 ++ (command_ran 3 (codes "h") 4 ++ command_ran 2 (codes "o") 5)

there_at : (p : List ℕ) (before : List Step) (at : List Moment) → IsPointAfter before at_entry.history after_all.history at → IsThere at_entry.history p → has (written_in all_more) p ≡ false → IsThere at p
there_at p before at point there none absent = there (sym (still_there p before at_entry.history all_more at point none) ∙ absent)

-- ---- the build that succeeds

abbrev asked_a : Asked
asked_a = asked_of (grown (codes "a")) (declared (codes "a"))

idle : IsIdle after_all.events
idle job = elim (cases_Bool (1 == job)) [
  | inl one ↦ elim (cases_Bool (3 == job)) [
    | inl three ↦ elim (cases_Bool (2 == job)) [ inl two ↦ rw one (rw three (rw two refl)) | inr two ↦ rw one (rw three (rw two refl)) ]
    | inr three ↦ elim (cases_Bool (2 == job)) [ inl two ↦ rw one (rw three (rw two refl)) | inr two ↦ rw one (rw three (rw two refl)) ]
  ]
  | inr one ↦ elim (cases_Bool (3 == job)) [
    | inl three ↦ elim (cases_Bool (2 == job)) [ inl two ↦ rw one (rw three (rw two refl)) | inr two ↦ rw one (rw three (rw two refl)) ]
    | inr three ↦ elim (cases_Bool (2 == job)) [ inl two ↦ rw one (rw three (rw two refl)) | inr two ↦ rw one (rw three (rw two refl)) ]
  ]
]

names_no_other : (s file : List ℕ) → NamesOther (declared s) file → ⊥
names_no_other s file other =
    let two = names_dd s other.edge file other.names in
    let here : has (inputs (edge_at (declared s) 2)) (codes "dd") ≡ false =
    subst (λ (f : List ℕ). has (inputs (edge_at (declared s) 2)) f ≡ false) two.1 (subst (λ (n : ℕ). has (inputs (edge_at (declared s) n)) file ≡ false) two.0 other.other) in
    false≢true (sym here)

maker_command : (p : List ℕ) (i : ℕ) → maker (grown (codes "a")) p ≡ Some i → IsCommand (grown (codes "a")) i
maker_command p i made = elim (cases_Bool (has (codes "dd" ∷ []) p)) [
  | inl dd ↦ let is : Some 1 ≡ Some i = rw dd at made in subst (IsCommand (grown (codes "a"))) (some_same 1 i is) refl
  | inr no_dd ↦ elim (cases_Bool (has (codes "o" ∷ codes "x" ∷ []) p)) [
    | inl o ↦ let is : Some 2 ≡ Some i = rw o at (rw no_dd at made) in subst (IsCommand (grown (codes "a"))) (some_same 2 i is) refl
    | inr no_o ↦ elim (cases_Bool (has (codes "h" ∷ []) p)) [
      | inl h ↦ let is : Some 3 ≡ Some i = rw h at (rw no_o at (rw no_dd at made)) in subst (IsCommand (grown (codes "a"))) (some_same 3 i is) refl
      | inr no_h ↦ let is : None ≡ Some i = rw no_h at (rw no_o at (rw no_dd at made)) in absurd (none_some i is)
    ]
  ]
]

within_command : (i : ℕ) → InCone asked_a no_records i → IsCommand (grown (codes "a")) i
within_command i (Wanted _ p h made) = maker_command p i made
within_command i (Needed _ j p inner h made) = maker_command p i made
within_command i (Validating _ j p inner h made) = maker_command p i made

abbrev success_build : IsLawfulBuild reads_dyndep texts (declared (codes "a")) (task_of asked_a no_records) no_records (first_phase ++ last_phase)
success_build = record {
  earlier = record { edges = declared (codes "a"); steps = first_phase } ∷ [];
  last = last_phase;
  taken_in = [];
  whole = refl;
  begins = refl;
  phases = (first_lawful (codes "a"), load (codes "a") first_phase refl, record { once = made_once; acyclic = λ i within. no_cycle i }, tt);
  lawful = last_lawful;
  rest = tt;
  cause = inl refl;
}

a_there : IsThere at_entry.history (codes "a")
a_there none = some_none _ none

src_there : IsThere at_entry.history (codes "dd.src")
src_there none = some_none _ none

success : IsLawfulWith asked_a (first_phase ++ last_phase) at_entry after_all (Success 3)
success = record {
  build = success_build;
  answers = λ own. (
    record {
      made_once = made_once;
      dyndep = names_no_other (codes "a");
      named = (refl, tt);
      no_cycle = λ i within. no_cycle i;
      sources = λ told kept needed. (
        λ loads apart at point. record {
          of_targets = (made_here (declared (codes "a")) at (codes "o") 2 refl, tt);
          of_edges = λ i due. declared_there at (there_at (codes "a") [] at point a_there refl) (there_at (codes "dd.src") [] at point src_there refl) i;
        },
        λ loads apart at point. record {
          of_targets = (made_here (grown (codes "a")) at (codes "o") 2 refl, tt);
          of_edges = λ i due. grown_there at (there_at (codes "a") first_phase at point a_there refl) (there_at (codes "dd.src") first_phase at point src_there refl) i;
        },
      );
    },
    record {
      idle = idle;
      judged = all_judged (first_phase ++ last_phase) refl refl refl;
      started = λ k may. false≢true (sym may.once ∙ may.stale);
      loaded = no_load (first_phase ++ last_phase);
    },
    λ i within. each_settled (done_in (first_phase ++ last_phase)) refl refl refl i (within_command i within),
    refl,
    refl,
  );
}

-- ---- the build that has nothing to do

abbrev again_build : IsLawfulBuild reads_dyndep texts (declared (codes "a")) (task_of asked_a no_records) no_records (clean_first ++ clean_last)
again_build = record {
  earlier = record { edges = declared (codes "a"); steps = clean_first } ∷ [];
  last = clean_last;
  taken_in = [];
  whole = refl;
  begins = refl;
  phases = (clean_lawful (codes "a"), load (codes "a") clean_first refl, record { once = made_once; acyclic = λ i within. no_cycle i }, tt);
  lawful = clean_lawful_after;
  rest = tt;
  cause = inl refl;
}

-- at a point before every start the files are those of the entry
there_again : (p : List ℕ) (before : List Step) (at : List Moment) → started_in before ≡ [] → IsPointAfter before at_entry.history at_entry.history at → IsThere at_entry.history p → IsThere at p
there_again p before at none point there = subst (λ (l : List Moment). IsThere l p) (sym (point.entry none)) there

again : IsLawfulWith asked_a (clean_first ++ clean_last) at_entry at_entry (Success 0)
again = record {
  build = again_build;
  answers = λ own. (
    record {
      made_once = made_once;
      dyndep = names_no_other (codes "a");
      named = (refl, tt);
      no_cycle = λ i within. no_cycle i;
      sources = λ told kept needed. (
        λ loads apart at point. record {
          of_targets = (made_here (declared (codes "a")) at (codes "o") 2 refl, tt);
          of_edges = λ i due. declared_there at (there_again (codes "a") [] at refl point a_there) (there_again (codes "dd.src") [] at refl point src_there) i;
        },
        λ loads apart at point. record {
          of_targets = (made_here (grown (codes "a")) at (codes "o") 2 refl, tt);
          of_edges = λ i due. grown_there at (there_again (codes "a") clean_first at refl point a_there) (there_again (codes "dd.src") clean_first at refl point src_there) i;
        },
      );
    },
    record {
      idle = λ job. refl;
      judged = all_judged (clean_first ++ clean_last) refl refl refl;
      started = λ k may. false≢true may.stale;
      loaded = no_load (clean_first ++ clean_last);
    },
    λ i within. each_settled (done_in (clean_first ++ clean_last)) refl refl refl i (within_command i within),
    refl,
    refl,
  );
}

-- ---- what is refused

abbrev one_phase : (s : List ℕ) → IsLawfulBuild reads_dyndep texts (declared s) (task_of (asked_of (declared s) (declared s)) no_records) no_records first_phase
one_phase s = record { earlier = []; last = first_phase; taken_in = []; whole = refl; begins = refl; phases = tt; lawful = first_lawful s; rest = tt; cause = inl refl }

some_steps : {A : Type 0} → first_phase ≡ [] → A
some_steps none = absurd (let no : ⊥ = cc in no)

abbrev wanted_o : Asked
wanted_o = asked_with (asked_of (declared (codes "o")) (declared (codes "o"))) (grown (codes "o"))

second_wanted : InCone wanted_o no_records 2
second_wanted = Wanted 2 (codes "o") refl refl

abbrev Within : List ℕ → Type 0
Within p = (i : ℕ) → maker (grown (codes "o")) p ≡ Some i → InCone wanted_o no_records i

within_2 : (i : ℕ) → Some 2 ≡ Some i → InCone wanted_o no_records i
within_2 i is = subst (InCone wanted_o no_records) (some_same 2 i is) second_wanted

within_3 : (i : ℕ) → Some 3 ≡ Some i → InCone wanted_o no_records i
within_3 i is = subst (InCone wanted_o no_records) (some_same 3 i is) (Needed 3 2 (codes "h") second_wanted refl refl)

abbrev NotBelow : List ℕ → Type 0
NotBelow p = (j : ℕ) → maker (grown (codes "o")) p ≡ Some j → j < 2 → ⊥

not_below : (n j : ℕ) → (n < 2 → ⊥) → Some n ≡ Some j → j < 2 → ⊥
not_below n j high is lt = high (subst (λ (m : ℕ). m < 2) (sym (some_same n j is)) lt)

shown : IsShownCycle wanted_o no_records (codes "o" ∷ codes "h" ∷ codes "o" ∷ [])
shown = record {
  first = codes "o";
  middle = codes "h" ∷ [];
  round = refl;
  chain = ((2, refl, refl), ((3, refl, refl), tt));
  within = λ p i h made. all_has Within (codes "o" ∷ codes "h" ∷ codes "o" ∷ []) p (within_2, (within_3, (within_2, tt))) h i made;
  lowest = λ p i j first_made h made lt.
      all_has NotBelow (codes "o" ∷ codes "h" ∷ codes "o" ∷ []) p
      (λ k is less. not_below 2 k (λ no. omega (arith, no)) is less, (λ k is less. not_below 3 k (λ no. omega (arith, no)) is less, (λ k is less. not_below 2 k (λ no. omega (arith, no)) is less, tt)))
      h j made (subst (λ (n : ℕ). j < n) (sym (some_same 2 i first_made)) lt);
}

looks : OnlyLooks true at_entry at_entry
looks = record { events = refl; ticked = refl; at_start = refl; history = λ told. record { more = []; grows = refl; all = tt } }

abbrev nothing_done : (edges : List Edge) → IsLawfulBuild reads_dyndep texts edges (task_of (asked_of edges edges) no_records) no_records []
nothing_done edges = record { earlier = []; last = []; taken_in = []; whole = refl; begins = refl; phases = tt; lawful = record { lawful = tt; unloaded = tt }; rest = tt; cause = inl refl }

pub dyndep_rows : DyndepRows
dyndep_rows = record {
  success = success;
  again = again;
  before_the_input = λ phase. unsettled 3 (1 ∷ []) refl refl (phase.lawful.0.0.ready (codes "h") refl 3 refl);
  before_the_load = λ phase. phase.unloaded.0 (codes "dd") (load_due (codes "a") first_phase refl);
  cycle = record { build = one_phase (codes "o"); answers = λ own. (some_steps, (refl, tt), (wanted_o, inr (grown (codes "o"), refl, load (codes "o") first_phase refl), shown)) };
  refused = record { build = one_phase (codes "a"); answers = λ own. (some_steps, inr (codes "dd", load_next (codes "a") first_phase refl)) };
  absent = record { build = nothing_done without_dd; answers = λ own. (λ none. looks, inl refl) };
  no_input = record { build = nothing_done not_an_input; answers = λ own. (λ none. looks, refl, record { edge = 2; names = refl; other = refl }) };
  read_beside = read_beside;
  reported_beside = reported_beside;
  reported_through = reported_through;
}
