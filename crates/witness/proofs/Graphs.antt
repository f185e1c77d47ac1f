-- What is decided of a list of edges by going through them: who makes what, that there is no cycle, and what is settled.
use Rattle.std.proofs.Common.{◌≡◌, inl, inr, ℕ, zero, suc, ◌<◌, ◌≤◌, ◌==◌, nat_lt, not, Bool, true, false, if◌then◌else◌, List, [], ◌∷◌, ◌++◌, length, get_or, Some, is_some, refl, sym, ◌∙◌, ap, subst, arith}
use Rattle.std.specs.List.{list_all}
use Rattle.std.proofs.lemmas.Bool.{false≢true, cases_Bool, cases_lt, eqb-true, ltb-true, not-true}
use Rattle.std.proofs.lemmas.List.{append-nil}
use Rattle.model.specs.declared.graph.Edge.{Edge}
use Rattle.model.specs.declared.record.Record.{Record}
use Rattle.model.specs.Graph.{has, has_number, no_edge, edge_at, maker, inputs, outputs, IsCommand, IsMadeOnce}
use Rattle.model.specs.Reading.{IsAbove, Direct, Further, IsCycle, needs}
use Rattle.model.specs.Records.{recorded_inputs, recorded_of, all_paths_in, is_known, in_force, deps_in_force}
use Rattle.model.specs.Schedule.{IsSettled, Done, Alias}
use Rattle.witness.specs.Project.{store_of}
use Rattle.witness.proofs.RichLists.{some_same, has_middle, distinct, stands_once, every, every_number, every_path, every_from_has, below, below_has, if_there, is_there, if_there_at, if_there_from, is_there_at, choose, choose_first, choose_second, first_chosen, second_chosen}

-- ---- edges by number

get_beyond : (es : List Edge) (i : ℕ) → length es ≤ i → get_or es i no_edge ≡ no_edge
get_beyond [] i le = refl
get_beyond (e ∷ es) zero le = absurd (omega (arith, le))
get_beyond (e ∷ es) (suc i) le = get_beyond es i (omega (arith, le))

pub beyond : (es : List Edge) (i : ℕ) → length es < i → edge_at es i ≡ no_edge
beyond es zero lt = refl
beyond es (suc i) lt = get_beyond es i (omega (arith, lt))

-- the numbers of the edges, and 0
abbrev pub numbers : List Edge → List ℕ
numbers es = below (suc (length es))

-- an edge of which something is so that is not so of one with nothing
pub within : (es : List Edge) (P : Edge → Type 0) → (P no_edge → ⊥) → (i : ℕ) → P (edge_at es i) → has_number (numbers es) i ≡ true
within es P none i p = elim (cases_lt i (suc (length es))) [
  | inl lt ↦ below_has (suc (length es)) i lt
  | inr more ↦ absurd (none (subst P (beyond es i (omega (arith, more))) p))
]

pub command_within : (es : List Edge) (i : ℕ) → IsCommand es i → has_number (numbers es) i ≡ true
command_within es i command = within es (λ (e : Edge). e.phony ≡ false) (λ h. false≢true (sym h)) i command

-- ---- no recorded inputs, where the deps log tells nothing

no_paths : (os : List (List ℕ)) → all_paths_in [] os ≡ []
no_paths [] = refl
no_paths (o ∷ os) = no_paths os

if_some : (b : Bool) (paths : List (List ℕ)) → paths ≡ [] → (if b then paths else []) ≡ []
if_some true paths is = is
if_some false paths is = refl

if_none : (b : Bool) (paths : List (List ℕ)) → paths ≡ [] → (if b then [] else paths) ≡ []
if_none true paths is = refl
if_none false paths is = is

none_of : (records : List Record) (e : Edge) → recorded_of (store_of records) e ≡ []
none_of records e = if_some (list_all (λ o. is_known e.act (in_force records o) (deps_in_force [] o)) (outputs e)) (all_paths_in [] (outputs e)) (no_paths (outputs e))

pub none_recorded : (records : List Record) (es : List Edge) (i : ℕ) → recorded_inputs (store_of records) es i ≡ []
none_recorded records es i =
    if_none (edge_at es i).phony (if is_some (edge_at es i).dyndep then [] else recorded_of (store_of records) (edge_at es i))
    (if_none (is_some (edge_at es i).dyndep) (recorded_of (store_of records) (edge_at es i)) (none_of records (edge_at es i)))

module _ (es : List Edge) where
  -- ---- each path is made once

  abbrev pub makes_all : Bool
  makes_all = every (λ i. every (λ p. is_there (λ j. j == i) (maker es p)) (outputs (edge_at es i))) (numbers es)

  abbrev pub makes_once : Bool
  makes_once = every (λ i. distinct (outputs (edge_at es i))) (numbers es)

  output_within : (i : ℕ) (p : List ℕ) → has (outputs (edge_at es i)) p ≡ true → has_number (numbers es) i ≡ true
  output_within i p h = within es (λ (e : Edge). has (outputs e) p ≡ true) (λ none. false≢true none) i h

  pub made_by : makes_all ≡ true → (i : ℕ) (p : List ℕ) → has (outputs (edge_at es i)) p ≡ true → maker es p ≡ Some i
  made_by all i p h =
      let each = every_number (λ n. every (λ q. is_there (λ j. j == n) (maker es q)) (outputs (edge_at es n))) (numbers es) i all (output_within i p h) in
      let there = is_there_at (λ j. j == i) (maker es p) (every_path (λ q. is_there (λ j. j == i) (maker es q)) (outputs (edge_at es i)) p each h) in
      there.is ∙ ap Some (eqb-true there.value i there.passes)

  pub made_once : makes_all ≡ true → makes_once ≡ true → IsMadeOnce es
  made_once all once p (inl two) = two.2 (some_same two.0 two.1 (sym (made_by all two.0 p two.3) ∙ made_by all two.1 p two.4))
  made_once all once p (inr one) =
      let here = subst (λ (l : List (List ℕ)). has l p ≡ true) (sym one.1.splits) (has_middle one.1.before one.1.after p) in
      stands_once (outputs (edge_at es one.0)) p (every_number (λ n. distinct (outputs (edge_at es n))) (numbers es) one.0 once (output_within one.0 p here)) one.1

  -- ---- there is no cycle, where each edge needs what edges before it make

  module _ (recorded : ℕ → List (List ℕ)) (none : (i : ℕ) → recorded i ≡ []) where
    pub needs_input : (i : ℕ) (p : List ℕ) → has (needs es recorded i) p ≡ true → has (inputs (edge_at es i)) p ≡ true
    needs_input i p h = subst (λ (l : List (List ℕ)). has l p ≡ true) (ap (λ (l : List (List ℕ)). inputs (edge_at es i) ++ l) (none i) ∙ append-nil (inputs (edge_at es i))) h

    abbrev pub needs_earlier : Bool
    needs_earlier = every (λ i. every (λ p. if_there (λ j. nat_lt j i) (maker es p)) (inputs (edge_at es i))) (numbers es)

    under : needs_earlier ≡ true → (f e : ℕ) → IsAbove (needs es recorded) (maker es) f e → f < e
    under all f e (Direct _ _ p h made) =
        let input = needs_input e p h in
        let here = within es (λ (x : Edge). has (inputs x) p ≡ true) (λ no. false≢true no) e input in
        let each = every_number (λ i. every (λ q. if_there (λ j. nat_lt j i) (maker es q)) (inputs (edge_at es i))) (numbers es) e all here in
        ltb-true f e (if_there_at (λ j. nat_lt j e) (maker es p) f (every_path (λ q. if_there (λ j. nat_lt j e) (maker es q)) (inputs (edge_at es e)) p each input) made)
    under all f e (Further _ d _ first second) = let one = under all f d first in let two = under all d e second in omega (arith, one, two)

    pub no_cycle : needs_earlier ≡ true → (i : ℕ) → IsCycle es recorded i → ⊥
    no_cycle all i cycle = let less = under all i i cycle in omega (arith, less)

  -- ---- what is settled, where a phony stands for what commands make

  abbrev pub is_command : ℕ → Bool
  is_command j = not (edge_at es j).phony

  abbrev pub is_flat : Bool
  is_flat = every (λ i. choose (edge_at es i).phony (every (λ p. if_there is_command (maker es p)) (inputs (edge_at es i))) true) (numbers es)

  module _ (flat : is_flat ≡ true) where
    pub command_behind : (i : ℕ) (p : List ℕ) (j : ℕ) → (edge_at es i).phony ≡ true → has (inputs (edge_at es i)) p ≡ true → maker es p ≡ Some j → IsCommand es j
    command_behind i p j phony h made =
        let here = within es (λ (e : Edge). has (inputs e) p ≡ true) (λ no. false≢true no) i h in
        let test = every_number (λ n. choose (edge_at es n).phony (every (λ q. if_there is_command (maker es q)) (inputs (edge_at es n))) true) (numbers es) i flat here in
        let each = choose_first (edge_at es i).phony (every (λ q. if_there is_command (maker es q)) (inputs (edge_at es i))) true phony test in
        not-true (edge_at es j).phony (if_there_at is_command (maker es p) j (every_path (λ q. if_there is_command (maker es q)) (inputs (edge_at es i)) p each h) made)

  abbrev pub settles : List ℕ → ℕ → Bool
  settles done i = choose (edge_at es i).phony (every (λ p. if_there (has_number done) (maker es p)) (inputs (edge_at es i))) (has_number done i)

  module _ (flat : is_flat ≡ true) (done : List ℕ) where
    pub settled : (i : ℕ) → settles done i ≡ true → IsSettled es done i
    settled i test = elim (cases_Bool (edge_at es i).phony) [
      | inl phony ↦
          let each = choose_first (edge_at es i).phony (every (λ p. if_there (has_number done) (maker es p)) (inputs (edge_at es i))) (has_number done i) phony test in
          Alias i phony (λ p j h made. Done j (command_behind flat i p j phony h made)
          (if_there_at (has_number done) (maker es p) j (every_path (λ q. if_there (has_number done) (maker es q)) (inputs (edge_at es i)) p each h) made))
      | inr command ↦ Done i command (choose_second (edge_at es i).phony (every (λ p. if_there (has_number done) (maker es p)) (inputs (edge_at es i))) (has_number done i) command test)
    ]

    command_done : (j : ℕ) → IsCommand es j → IsSettled es done j → has_number done j ≡ true
    command_done j command (Done _ _ h) = h
    command_done j command (Alias _ phony each) = absurd (false≢true (sym command ∙ phony))

    pub is_settled : (i : ℕ) → IsSettled es done i → settles done i ≡ true
    is_settled i (Done _ command h) = second_chosen (edge_at es i).phony (every (λ p. if_there (has_number done) (maker es p)) (inputs (edge_at es i))) (has_number done i) command h
    is_settled i (Alias _ phony each) =
        first_chosen (edge_at es i).phony (every (λ p. if_there (has_number done) (maker es p)) (inputs (edge_at es i))) (has_number done i) phony
        (every_from_has (λ p. if_there (has_number done) (maker es p)) (inputs (edge_at es i))
        (λ p h. if_there_from (has_number done) (maker es p) (λ j made. command_done j (command_behind flat i p j phony h made) (each p j h made))))
