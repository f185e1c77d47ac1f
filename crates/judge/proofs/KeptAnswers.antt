-- Answers that are kept by the numbers of edges.
use Rattle.std.proofs.Common.{◌≡◌, inl, inr, ℕ, ◌+◌, ◌<◌, ◌≤◌, ◌-◌, Bool, true, false, IfSome, List, [], ◌∷◌, ◌++◌, Option, Some, None, length, take, get_or, refl, sym, ◌∙◌, ap, subst, arith}
use Rattle.std.specs.Prelude.{slice_index_or}
use Rattle.std.proofs.Math.ListN.{replicate, set}
use Rattle.std.proofs.lemmas.Bool.{cases_lt, cases_Bool, false≢true}
use Rattle.std.proofs.lemmas.List.{take_more, map-append, get_or_past, get_or_append_left, get_or-append_right, get_or-replicate, length-replicate, get_or-set_same, get_or-set_other}
use Rattle.model.specs.Graph.{has_number}
use Rattle.theory.proofs.Lists.{has_number-left, has_number-right, has_number-cases}
use Rattle.graph.specs.declared.back.LoadedEdge.{LoadedEdge}
use Rattle.graph.specs.LoadedEdges.{numbers_in}
use Rattle.judge.specs.declared.answers.Answer.{Answer}
use Rattle.judge.specs.declared.answers.Answers.{Answers}
use Rattle.judge.specs.Answers.{answer_at, KnowsOthers}

abbrev pub at : List (Option Answer) → ℕ → Option Answer
at known e = slice_index_or known e None

-- none is in a list that has nothing
pub none_in : (known : List (Option Answer)) (e : ℕ) → known ≡ [] → at known e ≡ None
none_in known e none = ap (λ (l : List (Option Answer)). at l e) none ∙ get_or_past [] e None (omega arith)

-- more places that have none show what was shown before
filled : (n e : ℕ) → at (replicate n None) e ≡ None
filled n e = elim (cases_lt e n) [
  | inl lt ↦ get_or-replicate n e None None lt
  | inr past ↦ get_or_past (replicate n None) e None (let size = length-replicate {A = Option Answer} n None in omega (arith, size))
]

pub room_filled : (known : List (Option Answer)) (n e : ℕ) → at (known ++ replicate n None) e ≡ at known e
room_filled known n e = elim (cases_lt e (length known)) [
  | inl lt ↦ get_or_append_left known (replicate n None) None e lt
  | inr past ↦ get_or-append_right known (replicate n None) (length known) e None refl past ∙ (filled n (e - length known) ∙ sym (get_or_past known e None past))
]

-- the place of one edge
pub set_here : (known : List (Option Answer)) (e : ℕ) (answer : Option Answer) → e < length known → at (set known e answer) e ≡ answer
set_here known e answer lt = get_or-set_same known e answer None lt

pub set_there : (known : List (Option Answer)) (e q : ℕ) (answer : Option Answer) → (q ≡ e → ⊥) → at (set known e answer) q ≡ at known q
set_there known e q answer other = get_or-set_other known e q answer None other

-- an edge past the end has none
pub past_none : (known : List (Option Answer)) (e : ℕ) → length known ≤ e → at known e ≡ None
past_none known e past = get_or_past known e None past

-- what was found by such a depfile is the answer that is kept
pub due_of : (answers : Answers) (e : ℕ) (depfile : Bool) (answer : Answer) (found : Option Bool) → answer_at answers e ≡ Some answer → IfSome found (λ due. answer ≡ record { depfile = depfile; due = due })
    → IfSome found (λ due. answer_at answers e ≡ Some (record { depfile = depfile; due = due }))
due_of answers e depfile answer None is same = tt
due_of answers e depfile answer (Some due) is same = is ∙ ap (λ (a : Answer). Some a) same

-- ---- edges whose answers are forgotten, one more after another

neither_has : (xs ys : List ℕ) (e : ℕ) → has_number (xs ++ ys) e ≡ false → (has_number xs e ≡ false) × (has_number ys e ≡ false)
neither_has xs ys e none = (
  elim (cases_Bool (has_number xs e)) [
    | inl there ↦ absurd (false≢true (sym none ∙ has_number-left xs ys e there))
    | inr other ↦ other
  ],
  elim (cases_Bool (has_number ys e)) [
    | inl there ↦ absurd (false≢true (sym none ∙ has_number-right xs ys e there))
    | inr other ↦ other
  ],
)

forgets_both : (xs ys : List ℕ) (old mid new : Answers) → KnowsOthers xs old mid → KnowsOthers ys mid new → KnowsOthers (xs ++ ys) old new
forgets_both xs ys old mid new first second = record {
  gone = λ e listed. elim (has_number-cases xs ys e listed) [
    | inl early ↦ elim (cases_Bool (has_number ys e)) [
      | inl late ↦ second.gone e late
      | inr other ↦ second.others e other ∙ first.gone e early
    ]
    | inr late ↦ second.gone e late
  ];
  others = λ e other.
      let parts = neither_has xs ys e other in
      second.others e parts.1 ∙ first.others e parts.0;
}

pub forgets_more : (edges : List LoadedEdge) (k : ℕ) (d : LoadedEdge) → k < length edges → (old mid new : Answers) → KnowsOthers (numbers_in (take k edges)) old mid → KnowsOthers ((get_or edges k d).edge ∷ []) mid new
    → KnowsOthers (numbers_in (take (k + 1) edges)) old new
forgets_more edges k d lt old mid new first second =
    subst (λ (l : List ℕ). KnowsOthers l old new)
    (sym (ap numbers_in (take_more edges k d lt) ∙ map-append (λ (l : LoadedEdge). l.edge) (take k edges) (get_or edges k d ∷ [])))
    (forgets_both (numbers_in (take k edges)) ((get_or edges k d).edge ∷ []) old mid new first second)
