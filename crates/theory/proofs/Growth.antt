-- What later edges keep of earlier ones, when dyndep files are loaded.
use Rattle.std.proofs.Common.{◌≡◌, ◌⊎◌, inl, inr, ℕ, true, false, List, ◌∷◌, ◌++◌, Option, Some, None, bytes_eq, refl, sym, ◌∙◌, ap, subst, append_assoc}
use Rattle.std.proofs.lemmas.Bool.{false≢true, cases_Bool}
use Rattle.model.specs.declared.graph.Edge.{Edge}
use Rattle.model.specs.Graph.{has, edge_at, maker, outputs, inputs, StandsTwice, IsMadeOnce, Addition, grown_edge}
use Rattle.model.specs.Phases.{IsGrownBy}
use Rattle.theory.proofs.Lists.{has-left, has-right, has-cases, same_bytes, bytes_same}
use Rattle.theory.proofs.Makers.{maker_has, maker_is}

-- the later edges have what the earlier ones had, and more only where a dyndep file was loaded
pub record HasGrown (few many : List Edge) : Type 0 where
  pub same : (i : ℕ) → (edge_at few i).dyndep ≡ None → edge_at many i ≡ edge_at few i
  pub phony : (i : ℕ) → (edge_at many i).phony ≡ (edge_at few i).phony
  pub act : (i : ℕ) → (edge_at many i).act ≡ (edge_at few i).act
  pub twice : (i : ℕ) (q : List ℕ) → StandsTwice (outputs (edge_at few i)) q → StandsTwice (outputs (edge_at many i)) q
  pub outputs : (i : ℕ) (q : List ℕ) → has (outputs (edge_at few i)) q ≡ true → has (outputs (edge_at many i)) q ≡ true
  pub inputs : (i : ℕ) (q : List ℕ) → has (inputs (edge_at few i)) q ≡ true → has (inputs (edge_at many i)) q ≡ true
  pub names : (i : ℕ) → ((edge_at many i).dyndep ≡ None) ⊎ ((edge_at many i).dyndep ≡ (edge_at few i).dyndep)
  pub together : (i k : ℕ) (file : List ℕ) → (edge_at few i).dyndep ≡ Some file → (edge_at few k).dyndep ≡ Some file → (edge_at many i).dyndep ≡ None → (edge_at many k).dyndep ≡ None

pub grown_same : (edges : List Edge) → HasGrown edges edges
grown_same edges = record {
  same = λ i none. refl;
  phony = λ i. refl;
  act = λ i. refl;
  outputs = λ i q h. h;
  inputs = λ i q h. h;
  twice = λ i q h. h;
  names = λ i. inr refl;
  together = λ i k file a b none. absurd (differ file (sym a ∙ none));
}
  where
    differ : (file : List ℕ) → Some file ≡ None → ⊥
    differ file is = cc

-- the edge is loaded still
pub still_loaded : (few many : List Edge) → HasGrown few many → (i : ℕ) → (edge_at few i).dyndep ≡ None → (edge_at many i).dyndep ≡ None
still_loaded few many grown i none = ap (λ (e : Edge). e.dyndep) (grown.same i none) ∙ none

pub grown_further : (few some many : List Edge) → HasGrown few some → HasGrown some many → HasGrown few many
grown_further few some many first second = record {
  same = λ i none. second.same i (still_loaded few some first i none) ∙ first.same i none;
  phony = λ i. second.phony i ∙ first.phony i;
  act = λ i. second.act i ∙ first.act i;
  outputs = λ i q h. second.outputs i q (first.outputs i q h);
  inputs = λ i q h. second.inputs i q (first.inputs i q h);
  twice = λ i q h. second.twice i q (first.twice i q h);
  names = λ i. elim (second.names i) [
    | inl none ↦ inl none
    | inr is ↦ elim (first.names i) [
      | inl none ↦ inl (is ∙ none)
      | inr was ↦ inr (is ∙ was)
    ]
  ];
  together = λ i k file a b none. elim (first.names k) [
    | inl loaded ↦ still_loaded some many second k loaded
    | inr k_is ↦ elim (first.names i) [
      | inl loaded ↦ still_loaded some many second k (first.together i k file a b loaded)
      | inr i_is ↦ second.together i k file (i_is ∙ a) (k_is ∙ b) none
    ]
  ];
}

pub cases_named : (d : Option (List ℕ)) (file : List ℕ) → (d ≡ Some file) ⊎ (d ≡ Some file → ⊥)
cases_named None file = inr (λ is. cc)
cases_named (Some f) file = elim (cases_Bool (bytes_eq f file)) [
  | inl same ↦ inl (ap (λ (x : List ℕ). Some x) (same_bytes f file same))
  | inr other ↦ inr (λ is. different is other)
]
  where
    different : Some f ≡ Some file → bytes_eq f file ≡ false → ⊥
    different is other =
        let same : f ≡ file = cc in
        false≢true (sym other ∙ (ap (λ (x : List ℕ). bytes_eq f x) (sym same) ∙ bytes_same f))

-- one load
pub grown_by : (file : List ℕ) (additions : List Addition) (edges next : List Edge) → IsGrownBy file additions edges next → HasGrown edges next
grown_by file additions edges next grown = record {
  same = λ i none. grown.others i (λ is. differ (sym is ∙ none));
  phony = λ i. elim (cases_named (edge_at edges i).dyndep file) [
    | inl named ↦ ap (λ (e : Edge). e.phony) (grown.named i named).2
    | inr other ↦ ap (λ (e : Edge). e.phony) (grown.others i other)
  ];
  act = λ i. elim (cases_named (edge_at edges i).dyndep file) [
    | inl named ↦ ap (λ (e : Edge). e.act) (grown.named i named).2
    | inr other ↦ ap (λ (e : Edge). e.act) (grown.others i other)
  ];
  outputs = λ i q h. elim (cases_named (edge_at edges i).dyndep file) [
    | inl named ↦ subst (λ (e : Edge). has (outputs e) q ≡ true) (sym (grown.named i named).2) (more_outputs (edge_at edges i) (grown.named i named).0 q h)
    | inr other ↦ subst (λ (e : Edge). has (outputs e) q ≡ true) (sym (grown.others i other)) h
  ];
  inputs = λ i q h. elim (cases_named (edge_at edges i).dyndep file) [
    | inl named ↦ subst (λ (e : Edge). has (inputs e) q ≡ true) (sym (grown.named i named).2) (more_inputs (edge_at edges i) (grown.named i named).0 q h)
    | inr other ↦ subst (λ (e : Edge). has (inputs e) q ≡ true) (sym (grown.others i other)) h
  ];
  twice = λ i q h. elim (cases_named (edge_at edges i).dyndep file) [
    | inl named ↦ subst (λ (e : Edge). StandsTwice (outputs e) q) (sym (grown.named i named).2) (more_twice (edge_at edges i) (grown.named i named).0 q h)
    | inr other ↦ subst (λ (e : Edge). StandsTwice (outputs e) q) (sym (grown.others i other)) h
  ];
  names = λ i. elim (cases_named (edge_at edges i).dyndep file) [
    | inl named ↦ inl (ap (λ (e : Edge). e.dyndep) (grown.named i named).2)
    | inr other ↦ inr (ap (λ (e : Edge). e.dyndep) (grown.others i other))
  ];
  together = λ i k f a b none. elim (cases_named (edge_at edges k).dyndep file) [
    | inl named ↦ ap (λ (e : Edge). e.dyndep) (grown.named k named).2
    | inr other ↦ absurd (differ_from f (sym a ∙ (sym (ap (λ (e : Edge). e.dyndep) (grown.others i (λ is. other (b ∙ (sym a ∙ is))))) ∙ none)))
  ];
}
  where
    differ : Some file ≡ None → ⊥
    differ is = cc

    differ_from : (f : List ℕ) → Some f ≡ None → ⊥
    differ_from f is = cc

    more_outputs : (e : Edge) (a : Addition) (q : List ℕ) → has (outputs e) q ≡ true → has (outputs (grown_edge e a)) q ≡ true
    more_outputs e a q h = elim (has-cases e.explicit_outputs e.implicit_outputs q h) [
      | inl explicit ↦ has-left e.explicit_outputs (e.implicit_outputs ++ a.outputs) q explicit
      | inr implicit ↦ has-right e.explicit_outputs (e.implicit_outputs ++ a.outputs) q (has-left e.implicit_outputs a.outputs q implicit)
    ]

    more_twice : (e : Edge) (a : Addition) (q : List ℕ) → StandsTwice (outputs e) q → StandsTwice (outputs (grown_edge e a)) q
    more_twice e a q twice = record {
      before = twice.before;
      after = twice.after ++ a.outputs;
      splits = sym (append_assoc e.explicit_outputs e.implicit_outputs a.outputs)
          ∙ (ap (λ (l : List (List ℕ)). l ++ a.outputs) twice.splits ∙ append_assoc twice.before (q ∷ twice.after) a.outputs);
      earlier = twice.earlier;
    }

    more_inputs : (e : Edge) (a : Addition) (q : List ℕ) → has (inputs e) q ≡ true → has (inputs (grown_edge e a)) q ≡ true
    more_inputs e a q h = elim (has-cases (e.explicit_inputs ++ e.implicit_inputs) e.order_only_inputs q h) [
      | inl regular ↦ has-left (e.explicit_inputs ++ (e.implicit_inputs ++ a.inputs)) e.order_only_inputs q (elim (has-cases e.explicit_inputs e.implicit_inputs q regular) [
        | inl explicit ↦ has-left e.explicit_inputs (e.implicit_inputs ++ a.inputs) q explicit
        | inr implicit ↦ has-right e.explicit_inputs (e.implicit_inputs ++ a.inputs) q (has-left e.implicit_inputs a.inputs q implicit)
      ])
      | inr order_only ↦ has-right (e.explicit_inputs ++ (e.implicit_inputs ++ a.inputs)) e.order_only_inputs q order_only
    ]

-- a path that was made is made by the same edge
pub maker_still : (few many : List Edge) → HasGrown few many → IsMadeOnce many → (q : List ℕ) (d : ℕ) → maker few q ≡ Some d → maker many q ≡ Some d
maker_still few many grown once q d is = maker_is many q d once (grown.outputs d q (maker_has few q d is))

-- where no path is made twice later, none was before
pub once_back : (few many : List Edge) → HasGrown few many → IsMadeOnce many → IsMadeOnce few
once_back few many grown once p (inl (i, j, other, first, second)) = once p (inl (i, j, other, grown.outputs i p first, grown.outputs j p second))
once_back few many grown once p (inr (i, twice)) = once p (inr (i, grown.twice i p twice))
