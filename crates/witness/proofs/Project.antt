-- The seven edges: their makers, cone and cycles, what they read, and that their files are apart.
use Rattle.std.proofs.Common.{◌≡◌, ◌≢◌, ◌⊎◌, inl, inr, ℕ, zero, suc, not, true, false, List, [], ◌∷◌, Option, Some, None, is_some, refl, sym, ◌∙◌, ap, subst, bytes_eq}
use Rattle.std.proofs.lemmas.Bool.{false≢true, cases_Bool, or_cases, or_left, or_right, not-true}
use Rattle.std.specs.Prelude.{codes}
use Rattle.model.specs.declared.graph.Edge.{Edge}
use Rattle.model.specs.World.{View}
use Rattle.model.specs.Graph.{has, edge_at, maker, later_number, inputs, outputs, IsCommand}
use Rattle.model.specs.Reading.{IsAlias, Counts, IsInCone, Wanted, Needed}
use Rattle.model.specs.Records.{IsOwnIn, output_name}
use Rattle.model.specs.Premises.{OwnFilesApart, LiesIn, SharesNone}
use Rattle.witness.specs.Project.{declared, edges, own, own_paths, begins_with}
use Rattle.witness.proofs.RichLists.{none_some, some_same, all_has, every, every_number, every_path}
use Rattle.witness.proofs.Graphs.{numbers, within}

-- ---- who makes a path makes it

made_next : (e : Edge) (es : List Edge) (p : List ℕ) (k : ℕ) → has (outputs (edge_at es k)) p ≡ true → has (outputs (edge_at (e ∷ es) (suc k))) p ≡ true
made_next e es p zero h = absurd (false≢true h)
made_next e es p (suc k) h = h

made_later : (e : Edge) (es : List Edge) (p : List ℕ) (o : Option ℕ) → ((k : ℕ) → o ≡ Some k → has (outputs (edge_at es k)) p ≡ true)
    → (j : ℕ) → later_number o ≡ Some j → has (outputs (edge_at (e ∷ es) j)) p ≡ true
made_later e es p None each j is = absurd (none_some j is)
made_later e es p (Some k) each j is = subst (λ (n : ℕ). has (outputs (edge_at (e ∷ es) n)) p ≡ true) (some_same (suc k) j is) (made_next e es p k (each k refl))

pub made_here : (es : List Edge) (p : List ℕ) (j : ℕ) → maker es p ≡ Some j → has (outputs (edge_at es j)) p ≡ true
made_here [] p j is = absurd (none_some j is)
made_here (e ∷ es) p j is = elim (cases_Bool (has (outputs e) p)) [
  | inl here ↦ let first : Some 1 ≡ Some j = rw here at is in subst (λ (n : ℕ). has (outputs (edge_at (e ∷ es) n)) p ≡ true) (some_same 1 j first) here
  | inr other ↦ let later : later_number (maker es p) ≡ Some j = rw other at is in made_later e es p (maker es p) (λ k made. made_here es p k made) j later
]

-- ---- no path of a phony counts by itself, where the file of `p` is not there

abbrev stands_for_p : List Edge → Type 0
stands_for_p es = (j : ℕ) (q : List ℕ) → has (outputs (edge_at es j)) q ≡ true → (edge_at es j).phony ≡ true → (j ≡ 4) × (q ≡ codes "p")

only_p : stands_for_p edges
only_p zero q h phony = absurd (false≢true h)
only_p (suc zero) q h phony = absurd (false≢true phony)
only_p (suc (suc zero)) q h phony = absurd (false≢true phony)
only_p (suc (suc (suc zero))) q h phony = absurd (false≢true phony)
only_p (suc (suc (suc (suc zero)))) q h phony = (refl, all_has (λ r. r ≡ codes "p") (codes "p" ∷ []) q (refl, tt) h)
only_p (suc (suc (suc (suc (suc zero))))) q h phony = absurd (false≢true phony)
only_p (suc (suc (suc (suc (suc (suc zero)))))) q h phony = absurd (false≢true phony)
only_p (suc (suc (suc (suc (suc (suc (suc zero))))))) q h phony = absurd (false≢true phony)
only_p (suc (suc (suc (suc (suc (suc (suc (suc i)))))))) q h phony = absurd (false≢true h)

only_p_declared : stands_for_p declared
only_p_declared zero q h phony = absurd (false≢true h)
only_p_declared (suc zero) q h phony = absurd (false≢true phony)
only_p_declared (suc (suc zero)) q h phony = absurd (false≢true phony)
only_p_declared (suc (suc (suc zero))) q h phony = absurd (false≢true phony)
only_p_declared (suc (suc (suc (suc zero)))) q h phony = (refl, all_has (λ r. r ≡ codes "p") (codes "p" ∷ []) q (refl, tt) h)
only_p_declared (suc (suc (suc (suc (suc zero))))) q h phony = absurd (false≢true phony)
only_p_declared (suc (suc (suc (suc (suc (suc zero)))))) q h phony = absurd (false≢true phony)
only_p_declared (suc (suc (suc (suc (suc (suc (suc zero))))))) q h phony = absurd (false≢true phony)
only_p_declared (suc (suc (suc (suc (suc (suc (suc (suc i)))))))) q h phony = absurd (false≢true h)

some_inputs : {A : Type 0} (x : A) (xs : List A) → x ∷ xs ≡ [] → ⊥
some_inputs x xs e = cc

silent_in : (es : List Edge) → stands_for_p es → (inputs (edge_at es 4) ≡ [] → ⊥) → (view : View) → view (codes "p") ≡ None → (q : List ℕ) (j : ℕ) → IsAlias es q j → Counts es view q → ⊥
silent_in es only fed view none q j alias counts =
    let is = only j q (made_here es q j alias.made) alias.phony in
    elim counts [
      | inl other ↦ other j alias
      | inr more ↦ elim more [
        | inl there ↦ false≢true (subst (λ (o : Option (List ℕ)). is_some o ≡ true) (ap view is.1 ∙ none) there)
        | inr empty ↦
            let four = only empty.0 q (made_here es q empty.0 empty.1.made) empty.1.phony in
            fed (subst (λ (n : ℕ). inputs (edge_at es n) ≡ []) four.0 empty.2)
      ]
    ]

pub silent : (view : View) → view (codes "p") ≡ None → (q : List ℕ) (j : ℕ) → IsAlias edges q j → Counts edges view q → ⊥
silent = silent_in edges only_p (some_inputs (codes "h") [])

pub silent_declared : (view : View) → view (codes "p") ≡ None → (q : List ℕ) (j : ℕ) → IsAlias declared q j → Counts declared view q → ⊥
silent_declared = silent_in declared only_p_declared (some_inputs (codes "h") [])

-- ---- no depfile, one response file, no pools, and no dyndep file once it is loaded

pub no_depfile : (i : ℕ) → (edge_at edges i).act.depfile ≡ []
no_depfile zero = refl
no_depfile (suc zero) = refl
no_depfile (suc (suc zero)) = refl
no_depfile (suc (suc (suc zero))) = refl
no_depfile (suc (suc (suc (suc zero)))) = refl
no_depfile (suc (suc (suc (suc (suc zero))))) = refl
no_depfile (suc (suc (suc (suc (suc (suc zero)))))) = refl
no_depfile (suc (suc (suc (suc (suc (suc (suc zero))))))) = refl
no_depfile (suc (suc (suc (suc (suc (suc (suc (suc i)))))))) = refl

one_response : (i : ℕ) → ((edge_at edges i).act.response_path ≡ []) ⊎ (i ≡ 6)
one_response zero = inl refl
one_response (suc zero) = inl refl
one_response (suc (suc zero)) = inl refl
one_response (suc (suc (suc zero))) = inl refl
one_response (suc (suc (suc (suc zero)))) = inl refl
one_response (suc (suc (suc (suc (suc zero))))) = inl refl
one_response (suc (suc (suc (suc (suc (suc zero)))))) = inr refl
one_response (suc (suc (suc (suc (suc (suc (suc zero))))))) = inl refl
one_response (suc (suc (suc (suc (suc (suc (suc (suc i)))))))) = inl refl

pub no_pools : (i : ℕ) (name : List ℕ) → (edge_at edges i).pool ≡ Some name → ⊥
no_pools zero name is = none_some name is
no_pools (suc zero) name is = none_some name is
no_pools (suc (suc zero)) name is = none_some name is
no_pools (suc (suc (suc zero))) name is = none_some name is
no_pools (suc (suc (suc (suc zero)))) name is = none_some name is
no_pools (suc (suc (suc (suc (suc zero))))) name is = none_some name is
no_pools (suc (suc (suc (suc (suc (suc zero)))))) name is = none_some name is
no_pools (suc (suc (suc (suc (suc (suc (suc zero))))))) name is = none_some name is
no_pools (suc (suc (suc (suc (suc (suc (suc (suc i)))))))) name is = none_some name is

pub no_pools_declared : (i : ℕ) (name : List ℕ) → (edge_at declared i).pool ≡ Some name → ⊥
no_pools_declared zero name is = none_some name is
no_pools_declared (suc zero) name is = none_some name is
no_pools_declared (suc (suc zero)) name is = none_some name is
no_pools_declared (suc (suc (suc zero))) name is = none_some name is
no_pools_declared (suc (suc (suc (suc zero)))) name is = none_some name is
no_pools_declared (suc (suc (suc (suc (suc zero))))) name is = none_some name is
no_pools_declared (suc (suc (suc (suc (suc (suc zero)))))) name is = none_some name is
no_pools_declared (suc (suc (suc (suc (suc (suc (suc zero))))))) name is = none_some name is
no_pools_declared (suc (suc (suc (suc (suc (suc (suc (suc i)))))))) name is = none_some name is

-- ---- commands, one by one

pub by_command : (P : ℕ → Type 0) → P 1 → P 2 → P 3 → P 5 → P 6 → P 7 → (i : ℕ) → IsCommand edges i → P i
by_command P one two three five six seven zero command = absurd (false≢true (sym command))
by_command P one two three five six seven (suc zero) command = one
by_command P one two three five six seven (suc (suc zero)) command = two
by_command P one two three five six seven (suc (suc (suc zero))) command = three
by_command P one two three five six seven (suc (suc (suc (suc zero)))) command = absurd (false≢true (sym command))
by_command P one two three five six seven (suc (suc (suc (suc (suc zero))))) command = five
by_command P one two three five six seven (suc (suc (suc (suc (suc (suc zero)))))) command = six
by_command P one two three five six seven (suc (suc (suc (suc (suc (suc (suc zero))))))) command = seven
by_command P one two three five six seven (suc (suc (suc (suc (suc (suc (suc (suc i)))))))) command = absurd (false≢true (sym command))

pub by_declared : (P : ℕ → Type 0) → P 1 → P 2 → P 3 → P 5 → P 6 → P 7 → (i : ℕ) → IsCommand declared i → P i
by_declared P one two three five six seven zero command = absurd (false≢true (sym command))
by_declared P one two three five six seven (suc zero) command = one
by_declared P one two three five six seven (suc (suc zero)) command = two
by_declared P one two three five six seven (suc (suc (suc zero))) command = three
by_declared P one two three five six seven (suc (suc (suc (suc zero)))) command = absurd (false≢true (sym command))
by_declared P one two three five six seven (suc (suc (suc (suc (suc zero))))) command = five
by_declared P one two three five six seven (suc (suc (suc (suc (suc (suc zero)))))) command = six
by_declared P one two three five six seven (suc (suc (suc (suc (suc (suc (suc zero))))))) command = seven
by_declared P one two three five six seven (suc (suc (suc (suc (suc (suc (suc (suc i)))))))) command = absurd (false≢true (sym command))

-- ---- the cone

abbrev pub targets : List (List ℕ)
targets = codes "b" ∷ codes "q" ∷ codes "z" ∷ []

module _ (recorded : ℕ → List (List ℕ)) where
  abbrev Cone : ℕ → Type 0
  Cone = IsInCone edges recorded targets

  abbrev Before : ℕ → Type 0
  Before = IsInCone declared recorded targets

  five : Cone 5
  five = Wanted 5 (codes "q") refl refl

  four : Cone 4
  four = Needed 4 5 (codes "p") five refl refl

  seven : Cone 7
  seven = Wanted 7 (codes "z") refl refl

  pub cone : (i : ℕ) → IsCommand edges i → IsInCone edges recorded targets i
  cone = by_command Cone (Needed 1 7 (codes "dd") seven refl refl) (Wanted 2 (codes "b") refl refl) (Needed 3 4 (codes "h") four refl refl) five (Needed 6 7 (codes "o") seven refl refl) seven

  five_before : Before 5
  five_before = Wanted 5 (codes "q") refl refl

  four_before : Before 4
  four_before = Needed 4 5 (codes "p") five_before refl refl

  pub seven_before : IsInCone declared recorded targets 7
  seven_before = Wanted 7 (codes "z") refl refl

  pub six_before : IsInCone declared recorded targets 6
  six_before = Needed 6 7 (codes "o") seven_before refl refl

  pub cone_before : (i : ℕ) → IsCommand declared i → IsInCone declared recorded targets i
  cone_before =
      by_declared Before (Needed 1 7 (codes "dd") seven_before refl refl) (Wanted 2 (codes "b") refl refl) (Needed 3 4 (codes "h") four_before refl refl) five_before six_before seven_before

-- ---- the program's own files, the response file, and all others

in_set : (p : List ℕ) → own.files p ≡ true → own.set p ≡ true
in_set p h = elim (or_cases (has own_paths p) (begins_with output_name p) h) [
  | inl here ↦ or_left (has ([] ∷ codes "o.rsp" ∷ own_paths) p) (begins_with output_name p)
      (or_right (bytes_eq [] p) (has (codes "o.rsp" ∷ own_paths) p) (or_right (bytes_eq (codes "o.rsp") p) (has own_paths p) here))
  | inr there ↦ or_right (has ([] ∷ codes "o.rsp" ∷ own_paths) p) (begins_with output_name p) there
]

apart_from : (f : Edge → List (List ℕ)) → ((p : List ℕ) → has (f (edge_at [] 0)) p ≡ true → ⊥) → every (λ i. every (λ p. not (own.set p)) (f (edge_at edges i))) (numbers edges) ≡ true
    → (i : ℕ) (p : List ℕ) → has (f (edge_at edges i)) p ≡ true → own.set p ≡ false
apart_from f none test i p h =
    not-true (own.set p) (every_path (λ q. not (own.set q)) (f (edge_at edges i)) p
    (every_number (λ n. every (λ q. not (own.set q)) (f (edge_at edges n))) (numbers edges) i test (within edges (λ (e : Edge). has (f e) p ≡ true) (none p) i h)) h)

inputs_apart : (i : ℕ) (p : List ℕ) → has (inputs (edge_at edges i)) p ≡ true → own.set p ≡ false
inputs_apart = apart_from inputs (λ p none. false≢true none) refl

outputs_apart : (i : ℕ) (p : List ℕ) → has (outputs (edge_at edges i)) p ≡ true → own.set p ≡ false
outputs_apart = apart_from outputs (λ p none. false≢true none) refl

responses_lie : (i : ℕ) → LiesIn own (edge_at edges i).act.response_path
responses_lie i = elim (one_response i) [
  | inl none ↦ subst (λ (p : List ℕ). LiesIn own p) (sym none) (refl, refl)
  | inr six ↦ subst (λ (n : ℕ). LiesIn own (edge_at edges n).act.response_path) (sym six) (refl, refl)
]

shares_none : (i j : ℕ) → i ≢ j → SharesNone (edge_at edges i).act.response_path (edge_at edges j).act.response_path
shares_none i j other = elim (one_response i) [
  | inl none ↦ λ some. absurd (some none)
  | inr first ↦ elim (one_response j) [
    | inl none ↦ λ some same. some (same ∙ none)
    | inr second ↦ absurd (other (first ∙ sym second))
  ]
]

pub own_files : OwnFilesApart own edges
own_files = record {
  within = in_set;
  build_log = refl;
  deps_log = refl;
  inputs = inputs_apart;
  outputs = outputs_apart;
  depfiles = λ i command. subst (λ (p : List ℕ). LiesIn own p) (sym (no_depfile i)) (refl, refl);
  responses = λ i command. responses_lie i;
  apart = λ i j command1 command2 other. ((λ some. absurd (some (no_depfile i))), shares_none i j other, (λ some. absurd (some (no_depfile i))));
}

-- the folder of these files is the working folder
pub own_fits : IsOwnIn own []
own_fits = record { build_log = refl; deps_log = refl; is_log = refl; is_deps = refl; tick = refl; new_log = refl; new_deps = refl; outputs = λ digits are. refl }
