-- What an edge reads, through the phony edges that are met one after the other.
use Rattle.std.proofs.Common.{◌≡◌, ◌⊎◌, inl, inr, ℕ, suc, ◌+◌, ◌<◌, ◌≤◌, ◌==◌, ◌||◌, Bool, true, false, cond, nat_eq, get_or, List, [], ◌∷◌, ◌++◌, length, slice_get, Option, Some, None, refl, sym, ◌∙◌, ap, subst, arith, length-append}
use Rattle.std.specs.Prelude.{IsSome, option_to_list}
use Rattle.std.specs.Option.{is_some}
use Rattle.std.proofs.lemmas.Bool.{cases_Bool, cases_lt, eq-eqb, eqb-true, or_left, or_right, or_cases, false≢true, true≢false}
use Rattle.std.proofs.lemmas.Option.{slice_get_within}
use Rattle.indexmap.specs.IndexSet.{insert_key, insert_all}
use Rattle.model.specs.declared.graph.Edge.{Edge}
use Rattle.model.specs.World.{View}
use Rattle.model.specs.Graph.{has, has_number, edge_at, inputs, regular_inputs, later_number}
use Rattle.model.specs.Reading.{IsAlias, Counts, IsRead, Itself, Through}
use Rattle.theory.proofs.Lists.{has_number-left, has_number-right, has_number-cases, has_number-one, has_number-is}
use Rattle.paths.specs.Lists.{line_at, line_regular_inputs}
use Rattle.paths.specs.Commands.{no_action}
use Rattle.paths.specs.Told.{text_at, texts_at}
use Rattle.graph.specs.declared.graph.Graph.{Graph}
use Rattle.graph.specs.Held.{StandOnce}
use Rattle.graph.specs.Links.{Links, links_of}
use Rattle.graph.specs.Told.{declared_by}
use Rattle.graph.specs.Alias.{if_phony, alias_at, is_any, has_inputs, counts_if_present, aliases_of, any_alias}
use Rattle.graph.specs.ReadingOf.{IsCountedIn, IsReadingOf, IsReadNext, ReadingStands}
use Rattle.graph.proofs.GraphIs.{edge_is, inputs_are, maker_within}
use Rattle.graph.proofs.Lists.{once_none, once_push}
use Rattle.graph.proofs.Makes.{maker_is, input_below}
use Rattle.graph.proofs.Sets.{Gains, gains_all, slice_get_kept, listed_has, same_value, all_once}
use Rattle.graph.proofs.Texts.{regular_of, phony_of, number_of, has_text}

later_some : (o : Option ℕ) (i : ℕ) → later_number o ≡ Some i → (m : ℕ) × (o ≡ Some m) × (suc m ≡ i)
later_some None i is = cc
later_some (Some m) i is = (m, refl, cc)

-- the phony edges of a list of paths
pub alias_in : (links : Links) (ps : List ℕ) (p j : ℕ) → has_number ps p ≡ true → alias_at links p ≡ Some j → has_number (aliases_of links ps) j ≡ true
alias_in links [] p j h is = absurd (false≢true h)
alias_in links (q ∷ ps) p j h is = elim (or_cases (q == p) (has_number ps p) h) [
  | inl here ↦ by (alias_at links q) (subst (λ (n : ℕ). alias_at links n ≡ Some j) (sym (eqb-true q p here)) is)
  | inr later ↦ has_number-right (option_to_list (alias_at links q)) (aliases_of links ps) j (alias_in links ps p j later is)
]
  where
    by : (o : Option ℕ) → o ≡ Some j → has_number (option_to_list o ++ aliases_of links ps) j ≡ true
    by None same = cc
    by (Some d) same = let edge : d ≡ j = cc in or_left (d == j) (has_number (aliases_of links ps) j) (eq-eqb d j edge)

pub in_alias : (links : Links) (ps : List ℕ) (j : ℕ) → has_number (aliases_of links ps) j ≡ true → (p : ℕ) × (has_number ps p ≡ true) × (alias_at links p ≡ Some j)
in_alias links [] j h = absurd (false≢true h)
in_alias links (q ∷ ps) j h = elim (has_number-cases (option_to_list (alias_at links q)) (aliases_of links ps) j h) [
  | inl here ↦ (q, or_left (q == q) (has_number ps q) (eq-eqb q q refl), by (alias_at links q) here)
  | inr later ↦ let rest = in_alias links ps j later in (rest.0, or_right (q == rest.0) (has_number ps rest.0) rest.1, rest.2)
]
  where
    by : (o : Option ℕ) → has_number (option_to_list o) j ≡ true → o ≡ Some j
    by None none = absurd (false≢true none)
    by (Some d) there = ap (λ (n : ℕ). Some n) (has_number-is d j there)

-- where no path of the list is an alias
pub no_alias : (links : Links) (ps : List ℕ) (p j : ℕ) → any_alias links ps ≡ false → has_number ps p ≡ true → alias_at links p ≡ Some j → ⊥
no_alias links [] p j none h is = false≢true h
no_alias links (q ∷ ps) p j none h is = elim (or_cases (q == p) (has_number ps p) h) [
  | inl here ↦ by (alias_at links q) (subst (λ (n : ℕ). alias_at links n ≡ Some j) (sym (eqb-true q p here)) is) none
  | inr later ↦ no_alias links ps p j (rest (is_some (alias_at links q)) (any_alias links ps) none) later is
]
  where
    rest : (a b : Bool) → (a || b) ≡ false → b ≡ false
    rest true b h = absurd (true≢false h)
    rest false b h = h

    by : (o : Option ℕ) → o ≡ Some j → (is_some o || any_alias links ps) ≡ false → ⊥
    by None same none = cc
    by (Some d) same none = true≢false none

module _ (graph : Graph) where
  regular_are : (e : ℕ) → regular_inputs (edge_at (declared_by graph).edges (suc e)) ≡ texts_at graph.manifest.paths ((links_of graph).regular e)
  regular_are e = ap regular_inputs (edge_is graph e) ∙ regular_of graph.manifest.paths (line_at graph.manifest.lines e) (get_or graph.manifest.actions e no_action)

  phony_is : (e : ℕ) → (edge_at (declared_by graph).edges (suc e)).phony ≡ (links_of graph).phony e
  phony_is e = ap (λ (edge : Edge). edge.phony) (edge_is graph e) ∙ phony_of graph.manifest.paths (line_at graph.manifest.lines e) (get_or graph.manifest.actions e no_action)

  regular_within : (e p : ℕ) → has_number ((links_of graph).regular e) p ≡ true → p < length graph.manifest.paths
  regular_within e p h =
      let line = line_at graph.manifest.lines e in
      let low = input_below graph.manifest e p (has_number-left (line_regular_inputs line) line.order_only_inputs p h) in
      omega (arith, low, graph.manifest.names)

  alias_parts : (p j : ℕ) → alias_at (links_of graph) p ≡ Some j → ((links_of graph).maker p ≡ Some j) × ((links_of graph).phony j ≡ true)
  alias_parts p j is = by ((links_of graph).maker p) refl is
    where
      by : (o : Option ℕ) → (links_of graph).maker p ≡ o → if_phony (links_of graph) o ≡ Some j → ((links_of graph).maker p ≡ Some j) × ((links_of graph).phony j ≡ true)
      by None made alias = cc
      by (Some e) made alias = elim (cases_Bool ((links_of graph).phony e)) [
        | inl yes_phony ↦
            let same : Some e ≡ Some j = sym (ap (λ (b : Bool). cond b (Some e) None) yes_phony) ∙ alias in
            let edge : e ≡ j = cc in
            (made ∙ same, subst (λ (n : ℕ). (links_of graph).phony n ≡ true) edge yes_phony)
        | inr no_phony ↦
            let none : None ≡ Some j = sym (ap (λ (b : Bool). cond b (Some e) None) no_phony) ∙ alias in
            cc
      ]

  pub alias_within : (p j : ℕ) → alias_at (links_of graph) p ≡ Some j → j < length graph.manifest.lines
  alias_within p j is = maker_within graph p j (alias_parts p j is).0

  alias_text : (p j : ℕ) → p < length graph.manifest.paths → alias_at (links_of graph) p ≡ Some j → IsAlias (declared_by graph).edges (text_at graph.manifest.paths p) (suc j)
  alias_text p j lt is =
      let parts = alias_parts p j is in
      record {
        made = maker_is graph.manifest graph.makers graph.making graph.apart p lt ∙ ap later_number parts.0;
        phony = phony_is j ∙ parts.1;
      }

  text_alias : (p i : ℕ) → p < length graph.manifest.paths → IsAlias (declared_by graph).edges (text_at graph.manifest.paths p) i → (j : ℕ) × (suc j ≡ i) × (alias_at (links_of graph) p ≡ Some j)
  text_alias p i lt alias =
      let made = later_some ((links_of graph).maker p) i (sym (maker_is graph.manifest graph.makers graph.making graph.apart p lt) ∙ alias.made) in
      let phony : (links_of graph).phony made.0 ≡ true = sym (phony_is made.0) ∙ subst (λ (n : ℕ). (edge_at (declared_by graph).edges n).phony ≡ true) (sym made.2) alias.phony in
      (made.0, made.2, ap (if_phony (links_of graph)) made.1 ∙ ap (λ (b : Bool). cond b (Some made.0) None) phony)

  -- how a path counts
  counts_text : (view : View) (p : ℕ) → p < length graph.manifest.paths → Counts (declared_by graph).edges view (text_at graph.manifest.paths p)
      → (counts_if_present (links_of graph) p ≡ false) ⊎ IsSome (view (text_at graph.manifest.paths p))
  counts_text view p lt (inl plain) = inl (by (alias_at (links_of graph) p) refl)
    where
      by : (o : Option ℕ) → alias_at (links_of graph) p ≡ o → has_inputs (links_of graph) (alias_at (links_of graph) p) ≡ false
      by None is = ap (has_inputs (links_of graph)) is
      by (Some j) is = absurd (plain (suc j) (alias_text p j lt is))
  counts_text view p lt (inr (inl present)) = inr present
  counts_text view p lt (inr (inr (i, alias, empty))) =
      let edge = text_alias p i lt alias in
      let texts : texts_at graph.manifest.paths ((links_of graph).inputs edge.0) ≡ [] = sym (inputs_are graph edge.0) ∙ (ap (λ (n : ℕ). inputs (edge_at (declared_by graph).edges n)) edge.1 ∙ empty) in
      inl (ap (has_inputs (links_of graph)) edge.2 ∙ nothing ((links_of graph).inputs edge.0) texts)
    where
      nothing : (numbers : List ℕ) → texts_at graph.manifest.paths numbers ≡ [] → is_any numbers ≡ false
      nothing [] is = refl
      nothing (n ∷ numbers) is = cc

  text_counts : (view : View) (p : ℕ) → p < length graph.manifest.paths → (counts_if_present (links_of graph) p ≡ false) ⊎ IsSome (view (text_at graph.manifest.paths p))
      → Counts (declared_by graph).edges view (text_at graph.manifest.paths p)
  text_counts view p lt (inr present) = inr (inl present)
  text_counts view p lt (inl free) = by (alias_at (links_of graph) p) refl
    where
      by : (o : Option ℕ) → alias_at (links_of graph) p ≡ o → Counts (declared_by graph).edges view (text_at graph.manifest.paths p)
      by None is = inl (λ i alias. let edge = text_alias p i lt alias in let none : None ≡ Some edge.0 = sym is ∙ edge.2 in cc)
      by (Some j) is =
          let free_here : is_any ((links_of graph).inputs j) ≡ false = sym (ap (has_inputs (links_of graph)) is) ∙ free in
          inr (inr (suc j, alias_text p j lt is, inputs_are graph j ∙ none ((links_of graph).inputs j) free_here))
        where
          none : (numbers : List ℕ) → is_any numbers ≡ false → texts_at graph.manifest.paths numbers ≡ []
          none [] h = refl
          none (n ∷ numbers) h = absurd (true≢false h)

  -- ---- a set of edges that is closed

  abbrev IsReadBy : ℕ → ℕ → Type 0
  IsReadBy d e = (view : View) (p : List ℕ) → IsRead (declared_by graph).edges view (suc d) p → IsRead (declared_by graph).edges view (suc e) p

  counted : (edges : List ℕ) → ((d p j : ℕ) → has_number edges d ≡ true → has_number ((links_of graph).regular d) p ≡ true → alias_at (links_of graph) p ≡ Some j → has_number edges j ≡ true)
      → (view : View) (i : ℕ) (p : List ℕ) → IsRead (declared_by graph).edges view i p → (d : ℕ) → suc d ≡ i → has_number edges d ≡ true → IsCountedIn graph edges view p
  counted edges closed view _ _ (Itself i p regular counts) d same listed =
      let named : has (texts_at graph.manifest.paths ((links_of graph).regular d)) p ≡ true =
      subst (λ (l : List (List ℕ)). has l p ≡ true) (regular_are d) (subst (λ (n : ℕ). has (regular_inputs (edge_at (declared_by graph).edges n)) p ≡ true) (sym same) regular) in
      let number = number_of graph.manifest.paths ((links_of graph).regular d) p named in
      let low = regular_within d number.0 number.1 in
      record {
        edge = d;
        listed = listed;
        path = number.0;
        input = number.1;
        text = number.2;
        counts = subst (λ (t : List ℕ). (counts_if_present (links_of graph) number.0 ≡ false) ⊎ IsSome (view t)) number.2 (counts_text view number.0 low (subst (Counts (declared_by graph).edges view) (sym number.2) counts));
      }
  counted edges closed view _ _ (Through i j q p regular alias read) d same listed =
      let named : has (texts_at graph.manifest.paths ((links_of graph).regular d)) q ≡ true =
      subst (λ (l : List (List ℕ)). has l q ≡ true) (regular_are d) (subst (λ (n : ℕ). has (regular_inputs (edge_at (declared_by graph).edges n)) q ≡ true) (sym same) regular) in
      let number = number_of graph.manifest.paths ((links_of graph).regular d) q named in
      let low = regular_within d number.0 number.1 in
      let edge = text_alias number.0 j low (subst (λ (t : List ℕ). IsAlias (declared_by graph).edges t j) (sym number.2) alias) in
      counted edges closed view j p read edge.0 edge.1 (closed d number.0 edge.0 listed number.1 edge.2)

  -- an edge reads what is counted at it
  read_at : (view : View) (d p : ℕ) → has_number ((links_of graph).regular d) p ≡ true → (counts_if_present (links_of graph) p ≡ false) ⊎ IsSome (view (text_at graph.manifest.paths p))
      → IsRead (declared_by graph).edges view (suc d) (text_at graph.manifest.paths p)
  read_at view d p input counts =
      Itself (suc d) (text_at graph.manifest.paths p) (subst (λ (l : List (List ℕ)). has l (text_at graph.manifest.paths p) ≡ true) (sym (regular_are d)) (has_text graph.manifest.paths ((links_of graph).regular d) p input))
      (text_counts view p (regular_within d p input) counts)

  read_through : (d p j : ℕ) → has_number ((links_of graph).regular d) p ≡ true → alias_at (links_of graph) p ≡ Some j → IsReadBy j d
  read_through d p j input alias view t read =
      Through (suc d) (suc j) (text_at graph.manifest.paths p) t (subst (λ (l : List (List ℕ)). has l (text_at graph.manifest.paths p) ≡ true) (sym (regular_are d)) (has_text graph.manifest.paths ((links_of graph).regular d) p input))
      (alias_text p j (regular_within d p input) alias) read

  -- what is counted at some edge is read by that edge
  read_counted : (edges : List ℕ) (view : View) (p : List ℕ) (is : IsCountedIn graph edges view p) → IsRead (declared_by graph).edges view (suc is.edge) p
  read_counted edges view p is =
      subst (IsRead (declared_by graph).edges view (suc is.edge)) is.text
      (read_at view is.edge is.path is.input (subst (λ (t : List ℕ). (counts_if_present (links_of graph) is.path ≡ false) ⊎ IsSome (view t)) (sym is.text) is.counts))

  read_next : (view : View) (i : ℕ) (p : List ℕ) → IsRead (declared_by graph).edges view i p → (d : ℕ) → suc d ≡ i → IsReadNext graph view p d
  read_next view _ _ (Itself i p regular counts) d same =
      let named : has (texts_at graph.manifest.paths ((links_of graph).regular d)) p ≡ true =
      subst (λ (l : List (List ℕ)). has l p ≡ true) (regular_are d) (subst (λ (n : ℕ). has (regular_inputs (edge_at (declared_by graph).edges n)) p ≡ true) (sym same) regular) in
      let number = number_of graph.manifest.paths ((links_of graph).regular d) p named in
      let low = regular_within d number.0 number.1 in
      inl record {
        edge = d;
        listed = has_number-one d;
        path = number.0;
        input = number.1;
        text = number.2;
        counts = subst (λ (t : List ℕ). (counts_if_present (links_of graph) number.0 ≡ false) ⊎ IsSome (view t)) number.2 (counts_text view number.0 low (subst (Counts (declared_by graph).edges view) (sym number.2) counts));
      }
  read_next view _ _ (Through i j q p regular alias read) d same =
      let named : has (texts_at graph.manifest.paths ((links_of graph).regular d)) q ≡ true =
      subst (λ (l : List (List ℕ)). has l q ≡ true) (regular_are d) (subst (λ (n : ℕ). has (regular_inputs (edge_at (declared_by graph).edges n)) q ≡ true) (sym same) regular) in
      let number = number_of graph.manifest.paths ((links_of graph).regular d) q named in
      let low = regular_within d number.0 number.1 in
      let edge = text_alias number.0 j low (subst (λ (t : List ℕ). IsAlias (declared_by graph).edges t j) (sym number.2) alias) in
      inr (number.0, edge.0, number.1, edge.2, subst (λ (n : ℕ). IsRead (declared_by graph).edges view n p) (sym edge.1) read)

  read_by_step : (view : View) (d : ℕ) (p : List ℕ) → IsRead (declared_by graph).edges view (suc d) p → IsReadNext graph view p d
  read_by_step view d p read = read_next view (suc d) p read d refl

  pub reading_stands : ReadingStands graph
  reading_stands = record { next = read_by_step; counted = read_counted; through = read_through }

  -- a closed set of edges that are read through
  pub reading_of : (e : ℕ) (edges : List ℕ) → has_number edges e ≡ true → StandOnce edges → ((d : ℕ) → has_number edges d ≡ true → d < length graph.manifest.lines)
      → ((d : ℕ) → has_number edges d ≡ true → (view : View) (p : List ℕ) → IsRead (declared_by graph).edges view (suc d) p → IsRead (declared_by graph).edges view (suc e) p)
      → ((d p j : ℕ) → has_number edges d ≡ true → has_number ((links_of graph).regular d) p ≡ true → alias_at (links_of graph) p ≡ Some j → has_number edges j ≡ true)
      → IsReadingOf graph e edges
  reading_of e edges first once within reached closed = record {
    within = within;
    once = once;
    read = λ view p. (
      (λ read. counted edges closed view (suc e) p read e refl first),
      (λ is. reached is.edge is.listed view p (subst (IsRead (declared_by graph).edges view (suc is.edge)) is.text
          (read_at view is.edge is.path is.input (subst (λ (t : List ℕ). (counts_if_present (links_of graph) is.path ≡ false) ⊎ IsSome (view t)) (sym is.text) is.counts)))),
    );
  }

  -- an edge that reads through no alias
  pub reading_itself : (e : ℕ) → e < length graph.manifest.lines → any_alias (links_of graph) ((links_of graph).regular e) ≡ false → IsReadingOf graph e (e ∷ [])
  reading_itself e lt none = reading_of e (e ∷ []) (has_number-one e) (once_push [] e once_none refl)
      (λ d h. subst (λ (n : ℕ). n < length graph.manifest.lines) (has_number-is e d h) lt)
      (λ d h view p read. subst (λ (n : ℕ). IsRead (declared_by graph).edges view (suc n) p) (sym (has_number-is e d h)) read)
      (λ d p j h input alias.
      absurd (no_alias (links_of graph) ((links_of graph).regular e) p j none (subst (λ (n : ℕ). has_number ((links_of graph).regular n) p ≡ true) (sym (has_number-is e d h)) input) alias))

  -- ---- edges that are met

  pub record AreMet (e : ℕ) (edges : List ℕ) (place : ℕ) : Type 0 where
    pub first : has_number edges e ≡ true
    pub once : StandOnce edges
    pub within : (d : ℕ) → has_number edges d ≡ true → d < length graph.manifest.lines
    pub reached : (d : ℕ) → has_number edges d ≡ true → (view : View) (p : List ℕ) → IsRead (declared_by graph).edges view (suc d) p → IsRead (declared_by graph).edges view (suc e) p
    pub passed : (k d p j : ℕ) → k < place → slice_get edges k ≡ Some d → has_number ((links_of graph).regular d) p ≡ true → alias_at (links_of graph) p ≡ Some j → has_number edges j ≡ true
    pub low : place ≤ length edges

  pub first_met : (e : ℕ) (none edges : List ℕ) → e < length graph.manifest.lines → none ≡ [] → edges ≡ insert_key nat_eq none e → AreMet e edges 0
  first_met e none edges lt empty is =
      subst (λ (l : List ℕ). AreMet e l 0) (sym (is ∙ ap (λ (l : List ℕ). insert_key nat_eq l e) empty)) record {
        first = has_number-one e;
        once = once_push [] e once_none refl;
        within = λ d h. subst (λ (n : ℕ). n < length graph.manifest.lines) (has_number-is e d h) lt;
        reached = λ d h view p read. subst (λ (n : ℕ). IsRead (declared_by graph).edges view (suc n) p) (sym (has_number-is e d h)) read;
        passed = λ k d p j less. absurd (omega (arith, less));
        low = omega arith;
      }

  pub next_met : (e place d : ℕ) (edges new : List ℕ) → AreMet e edges place → slice_get edges place ≡ Some d → new ≡ insert_all nat_eq edges (aliases_of (links_of graph) ((links_of graph).regular d)) → AreMet e new (place + 1)
  next_met e place d edges new met at is = record {
    first = kept e met.first;
    once = subst StandOnce (sym is) (all_once edges (aliases_of (links_of graph) ((links_of graph).regular d)) met.once);
    within = λ j h. elim (gains.each j h) [
      | inl old ↦ met.within j old
      | inr more ↦ let alias = in_alias (links_of graph) ((links_of graph).regular d) j more in alias_within alias.0 j alias.2
    ];
    reached = λ j h view p read. elim (gains.each j h) [
      | inl old ↦ met.reached j old view p read
      | inr more ↦
          let alias = in_alias (links_of graph) ((links_of graph).regular d) j more in
          met.reached d (listed_has edges place d at) view p (read_through d alias.0 j alias.1 alias.2 view p read)
    ];
    passed = λ k c p j less listed input alias. elim (cases_lt k place) [
      | inl before ↦ kept j (met.passed k c p j before (before_is k c (omega (arith, before, in_edges)) listed) input alias)
      | inr after ↦
          let here : k ≡ place = omega (arith, less, after) in
          let same : d ≡ c = same_value (slice_get edges place) d c at (before_is place c in_edges (ap (slice_get new) (sym here) ∙ listed)) in
          gains.has j (alias_in (links_of graph) ((links_of graph).regular d) p j (subst (λ (n : ℕ). has_number ((links_of graph).regular n) p ≡ true) (sym same) input) alias)
    ];
    low = let longer = ap length gains.grows in let sizes = length-append edges gains.more in omega (arith, longer, sizes, in_edges);
  }
    where
      in_edges : place < length edges
      in_edges = slice_get_within edges place d at

      gains : Gains edges new (aliases_of (links_of graph) ((links_of graph).regular d))
      gains = subst (λ (l : List ℕ). Gains edges l (aliases_of (links_of graph) ((links_of graph).regular d))) (sym is) (gains_all edges (aliases_of (links_of graph) ((links_of graph).regular d)))

      kept : (j : ℕ) → has_number edges j ≡ true → has_number new j ≡ true
      kept j h = subst (λ (l : List ℕ). has_number l j ≡ true) (sym gains.grows) (has_number-left edges gains.more j h)

      before_is : (k c : ℕ) → k < length edges → slice_get new k ≡ Some c → slice_get edges k ≡ Some c
      before_is k c lt listed = sym (slice_get_kept edges gains.more k lt) ∙ (ap (λ (l : List ℕ). slice_get l k) (sym gains.grows) ∙ listed)

  place_in : (xs : List ℕ) (n : ℕ) → has_number xs n ≡ true → (k : ℕ) × (k < length xs) × (slice_get xs k ≡ Some n)
  place_in [] n h = absurd (false≢true h)
  place_in (x ∷ xs) n h = elim (or_cases (x == n) (has_number xs n) h) [
    | inl here ↦ (0, omega arith, ap (λ (m : ℕ). Some m) (eqb-true x n here))
    | inr there ↦ let rest = place_in xs n there in (suc rest.0, omega (arith, rest.1), rest.2)
  ]

  pub all_met : (e place : ℕ) (edges : List ℕ) → AreMet e edges place → length edges ≤ place → IsReadingOf graph e edges
  all_met e place edges met past = reading_of e edges met.first met.once met.within met.reached (λ d p j h input alias.
      let at = place_in edges d h in
      met.passed at.0 d p j (omega (arith, at.1, past)) at.2 input alias)
