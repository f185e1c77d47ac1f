-- The order of a cone, in which each edge comes after the edges that make what it needs, by numbers.
use Rattle.std.proofs.Common.{◌≡◌, inl, inr, ℕ, zero, suc, ◌+◌, ◌<◌, ◌≤◌, true, false, List, [], ◌∷◌, ◌++◌, Some, length, take, get_or, refl, sym, ◌∙◌, ap, subst, arith, append_assoc}
use Rattle.std.proofs.lemmas.Bool.{false≢true}
use Rattle.std.proofs.lemmas.List.{append-nil, take_more}
use Rattle.model.specs.declared.graph.Edge.{Edge}
use Rattle.model.specs.Graph.{has, has_number, edge_at, maker, later_number, inputs}
use Rattle.model.specs.Reading.{needs}
use Rattle.model.specs.Records.{Store, recorded_inputs}
use Rattle.model.specs.Schedule.{Step}
use Rattle.theory.proofs.Lists.{has-left, has-right, has_number-left, has_number-cases, has_number-is}
use Rattle.paths.specs.Told.{text_at}
use Rattle.graph.specs.declared.cone.Cone.{Cone}
use Rattle.graph.specs.declared.graph.Graph.{Graph}
use Rattle.graph.specs.Linked.{StandFor}
use Rattle.graph.specs.Links.{Links, links_of, needs_at}
use Rattle.graph.specs.Told.{declared_by}
use Rattle.plan.specs.declared.plan.Plan.{Plan}
use Rattle.records.specs.declared.records.Records.{Records}
use Rattle.judge.specs.UnderWay.{IsUnderWay}
use Rattle.judge.specs.Ruled.{ComeAfterMakers}
use Rattle.judge.proofs.DueEdges.{first_at}
use Rattle.judge.proofs.NumbersAsTexts.{has_text, suc_has}

-- ---- of a build under way

-- no edge stands among those before it
once_at : (front order : List ℕ) → ((before after : List ℕ) (e : ℕ) → front ++ order ≡ before ++ e ∷ after → has_number before e ≡ false) → (k : ℕ) → k < length order → has_number (front ++ take k order) (get_or order k 0) ≡ false
once_at front [] once k lt = absurd (omega (arith, lt))
once_at front (e ∷ order) once zero lt = subst (λ (l : List ℕ). has_number l e ≡ false) (sym (append-nil front)) (once front order e refl)
once_at front (e ∷ order) once (suc k) lt =
    subst (λ (l : List ℕ). has_number l (get_or order k 0) ≡ false) (append_assoc front (e ∷ []) (take k order))
    (once_at (front ++ e ∷ []) order (λ before after x is. once before after x (sym (append_assoc front (e ∷ []) order) ∙ is)) k (omega (arith, lt)))

module _ (graph : Graph) (stands : StandFor (declared_by graph).edges graph.manifest.paths (links_of graph)) (records : Records) (cone : Cone) (plan : Plan) (store : Store) (targets : List (List ℕ)) (before : List Step)
    (way : IsUnderWay graph records cone plan store targets before)
  where
    abbrev edges : List Edge
    edges = (declared_by graph).edges

    abbrev paths : List (List ℕ)
    paths = graph.manifest.paths

    -- what an edge needs by the numbers it needs by the texts
    needed : (e p : ℕ) → has_number (needs_at (links_of graph) e) p ≡ true → (p < length paths) × (has (needs edges (recorded_inputs store edges) (suc e)) (text_at paths p) ≡ true)
    needed e p listed = elim (has_number-cases ((links_of graph).inputs e) ((links_of graph).recorded e) p listed) [
      | inl input ↦ (
        stands.inputs_within e p input,
        has-left (inputs (edge_at edges (suc e))) (recorded_inputs store edges (suc e)) (text_at paths p)
            (subst (λ (l : List (List ℕ)). has l (text_at paths p) ≡ true) (stands.inputs_are e) (has_text paths ((links_of graph).inputs e) p input)),
      )
      | inr recorded ↦ (
        stands.recorded_within e p recorded,
        has-right (inputs (edge_at edges (suc e))) (recorded_inputs store edges (suc e)) (text_at paths p)
            (way.known.in_use (suc e) (text_at paths p) ∙ has_text paths ((links_of graph).recorded e) p recorded),
      )
    ]

    makers_at : (k p m : ℕ) → k < length cone.order.items → has_number (needs_at (links_of graph) (get_or cone.order.items k 0)) p ≡ true → (links_of graph).maker p ≡ Some m → has_number (take k cone.order.items) m ≡ true
    makers_at k p m lt listed made =
        let both = needed (get_or cone.order.items k 0) p listed in
        let by_text : maker edges (text_at paths p) ≡ Some (suc m) = stands.makers p both.0 ∙ ap later_number made in
        let found = suc_has (take k cone.order.items) (suc m) (first_at edges (recorded_inputs store edges) [] cone.order.items way.listed.ordered k lt (text_at paths p) (suc m) both.1 by_text) in
        let same : found.0 ≡ m = omega (arith, found.1) in
        subst (λ (q : ℕ). has_number (take k cone.order.items) q ≡ true) same found.2

    pub after_makers : ComeAfterMakers (links_of graph) cone.order.items
    after_makers = record { once = λ k lt. once_at [] cone.order.items way.listed.once k lt; makers = makers_at }

-- ---- the edges in front

module _ (links : Links) (order : List ℕ) (after : ComeAfterMakers links order) where
  -- the makers of what they need are among them
  pub makers_within : (k : ℕ) → k ≤ length order → (q : ℕ) → has_number (take k order) q ≡ true → (p m : ℕ) → has_number (needs_at links q) p ≡ true → links.maker p ≡ Some m → has_number (take k order) m ≡ true
  makers_within zero low q listed p m needed made = absurd (false≢true listed)
  makers_within (suc k) low q listed p m needed made =
      let more : suc k ≡ k + 1 = omega arith in
      let within : k < length order = omega (arith, low) in
      let longer = ap (λ (n : ℕ). take n order) more ∙ take_more order k 0 within in
      subst (λ (l : List ℕ). has_number l m ≡ true) (sym longer)
      (has_number-left (take k order) (get_or order k 0 ∷ []) m
      (elim (has_number-cases (take k order) (get_or order k 0 ∷ []) q (subst (λ (l : List ℕ). has_number l q ≡ true) longer listed)) [
        | inl early ↦ makers_within k (omega (arith, low)) q early p m needed made
        | inr here ↦ after.makers k p m within (subst (λ (n : ℕ). has_number (needs_at links n) p ≡ true) (sym {A = ℕ} (has_number-is (get_or order k 0) q here)) needed) made
      ]))

  -- none of them is the next one
  pub none_next : (k : ℕ) → k < length order → (q : ℕ) → has_number (take k order) q ≡ true → q ≡ get_or order k 0 → ⊥
  none_next k within q listed same = false≢true (sym (after.once k within) ∙ subst (λ (n : ℕ). has_number (take k order) n ≡ true) same listed)
