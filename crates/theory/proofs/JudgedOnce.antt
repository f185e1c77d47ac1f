-- A verdict over the edges known when an edge was judged is one over the edges of the end.
use Rattle.std.proofs.Common.{◌≡◌, ◌⊎◌, inl, inr, ℕ, ◌&&◌, not, cond, is_some, Bool, true, false, List, [], map, Option, Some, None, refl, sym, ◌∙◌, ap, subst}
use Rattle.model.specs.declared.event.Moment.{Moment}
use Rattle.model.specs.declared.graph.Edge.{Edge}
use Rattle.model.specs.World.{View, file_at, stamp_of, view_of}
use Rattle.model.specs.Graph.{has, has_number, edge_at, maker, outputs, inputs, regular_inputs, IsMadeOnce}
use Rattle.model.specs.Reading.{IsAlias, Counts, IsRead, Itself, Through}
use Rattle.model.specs.Records.{Store, recorded_of, recorded_inputs}
use Rattle.model.specs.Judgement.{InputFacts, is_same_number, reason_of}
use Rattle.model.specs.OutOfDate.{is_made_anew, output_facts, input_facts, Counted, IsVerdict}
use Rattle.model.specs.Premises.{IsWalked, Input, Behind}
use Rattle.theory.proofs.Lists.{map_same, some_none}
use Rattle.theory.proofs.Growth.{HasGrown, maker_still}

-- `now` are the edges when edge i was judged, `last` those of the end. What edge i walks has the same maker in both; an alias among
-- them is loaded, and what it walks in turn is walked by edge i.
module _ (now last : List Edge) (store : Store) (i : ℕ) (grown : HasGrown now last) (once_last : IsMadeOnce last)
    (loaded : (edge_at now i).dyndep ≡ None)
    (known : (p : List ℕ) (m : ℕ) → IsWalked last i p ⊎ (has (recorded_inputs store last i) p ≡ true) → maker last p ≡ Some m → maker now p ≡ Some m)
    (aliases : (p : List ℕ) (j : ℕ) → IsWalked last i p → IsAlias last p j → (edge_at now j).dyndep ≡ None) where
  alias_last : (p : List ℕ) (j : ℕ) → IsAlias now p j → IsAlias last p j
  alias_last p j alias = record { made = maker_still now last grown once_last p j alias.made; phony = grown.phony j ∙ alias.phony }

  alias_now : (p : List ℕ) (j : ℕ) → IsWalked last i p → IsAlias last p j → IsAlias now p j
  alias_now p j walked alias = record { made = known p j (inl walked) alias.made; phony = sym (grown.phony j) ∙ alias.phony }

  counts_now : (view : View) (p : List ℕ) → IsWalked last i p → Counts last view p → Counts now view p
  counts_now view p walked (inl no_alias) = inl (λ j alias. no_alias j (alias_last p j alias))
  counts_now view p walked (inr (inl there)) = inr (inl there)
  counts_now view p walked (inr (inr (j, alias, none))) =
      inr (inr (j, alias_now p j walked alias, subst (λ (e : Edge). inputs e ≡ []) (grown.same j (aliases p j walked alias)) none))

  counts_last : (view : View) (p : List ℕ) → IsWalked last i p → Counts now view p → Counts last view p
  counts_last view p walked (inl no_alias) = inl (λ j alias. no_alias j (alias_now p j walked alias))
  counts_last view p walked (inr (inl there)) = inr (inl there)
  counts_last view p walked (inr (inr (j, alias, none))) =
      inr (inr (j, alias_last p j alias, subst (λ (e : Edge). inputs e ≡ []) (sym (grown.same j (aliases p j walked (alias_last p j alias)))) none))

  read_now : (view : View) (e : ℕ) (p : List ℕ) → IsRead last view e p → (edge_at now e).dyndep ≡ None → ((q : List ℕ) → has (regular_inputs (edge_at last e)) q ≡ true → IsWalked last i q) → IsRead now view e p
  read_now view e p (Itself _ _ h counts) here walk =
      Itself e p (subst (λ (x : Edge). has (regular_inputs x) p ≡ true) (grown.same e here) h) (counts_now view p (walk p h) counts)
  read_now view e p (Through _ j q _ h alias below) here walk =
      Through e j q p (subst (λ (x : Edge). has (regular_inputs x) q ≡ true) (grown.same e here) h) (alias_now q j (walk q h) alias)
      (read_now view j p below (aliases q j (walk q h) alias) (λ r among. Behind j q r (walk q h) alias among))

  read_last : (view : View) (e : ℕ) (p : List ℕ) → IsRead now view e p → (edge_at now e).dyndep ≡ None → ((q : List ℕ) → has (regular_inputs (edge_at last e)) q ≡ true → IsWalked last i q) → IsRead last view e p
  read_last view e p (Itself _ _ h counts) here walk =
      let among = subst (λ (x : Edge). has (regular_inputs x) p ≡ true) (sym (grown.same e here)) h in
      Itself e p among (counts_last view p (walk p among) counts)
  read_last view e p (Through _ j q _ h alias below) here walk =
      let among = subst (λ (x : Edge). has (regular_inputs x) q ≡ true) (sym (grown.same e here)) h in
      let alias_too = alias_last q j alias in
      Through e j q p among alias_too (read_last view j p below (aliases q j (walk q among) alias_too) (λ r in_alias. Behind j q r (walk q among) alias_too in_alias))

  -- a path that is read is walked
  read_walked : (view : View) (e : ℕ) (p : List ℕ) → IsRead last view e p → ((q : List ℕ) → has (regular_inputs (edge_at last e)) q ≡ true → IsWalked last i q) → IsWalked last i p
  read_walked view e p (Itself _ _ h counts) walk = walk p h
  read_walked view e p (Through _ j q _ h alias below) walk = read_walked view j p below (λ r among. Behind j q r (walk q h) alias among)

  recorded_same : recorded_inputs store last i ≡ recorded_inputs store now i
  recorded_same = ap (λ (x : Edge). cond x.phony [] (cond (is_some x.dyndep) [] (recorded_of store x))) (grown.same i loaded)

  counted_now : (files : List Moment) (p : List ℕ) → Counted last store files i p → Counted now store files i p
  counted_now files p (inl read) = inl (read_now (view_of files) i p read loaded (λ q h. Input q h))
  counted_now files p (inr recorded) = inr (subst (λ (ps : List (List ℕ)). has ps p ≡ true) recorded_same recorded)

  pub counted_last : (files : List Moment) (p : List ℕ) → Counted now store files i p → Counted last store files i p
  counted_last files p (inl read) = inl (read_last (view_of files) i p read loaded (λ q h. Input q h))
  counted_last files p (inr recorded) = inr (subst (λ (ps : List (List ℕ)). has ps p ≡ true) (sym recorded_same) recorded)

  walks : (files : List Moment) (p : List ℕ) → Counted last store files i p → IsWalked last i p ⊎ (has (recorded_inputs store last i) p ≡ true)
  walks files p (inl read) = inl (read_walked (view_of files) i p read (λ q h. Input q h))
  walks files p (inr recorded) = inr recorded

  module _ (ran : List ℕ) (ran_loaded : (j : ℕ) → has_number ran j ≡ true → (edge_at now j).dyndep ≡ None) where
    anew_by : (j : ℕ) (same t : Bool) → has_number ran j ≡ t → (t && not ((edge_at now j).restat && same)) ≡ (t && not ((edge_at last j).restat && same))
    anew_by j same false is = refl
    anew_by j same true is = ap (λ (x : Edge). not (x.restat && same)) (sym (grown.same j (ran_loaded j is)))

    anew_same : (p : List ℕ) (same : Bool) → IsWalked last i p ⊎ (has (recorded_inputs store last i) p ≡ true) → is_made_anew now ran same (maker now p) ≡ is_made_anew last ran same (maker last p)
    anew_same p same walked = by_last (maker last p) refl
      where
        by_now : (m : Option ℕ) → maker now p ≡ m → maker last p ≡ None → is_made_anew now ran same (maker now p) ≡ false
        by_now None is none = ap (λ (m : Option ℕ). is_made_anew now ran same m) is
        by_now (Some j) is none = absurd (some_none j (sym (maker_still now last grown once_last p j is) ∙ none))

        by_last : (m : Option ℕ) → maker last p ≡ m → is_made_anew now ran same (maker now p) ≡ is_made_anew last ran same (maker last p)
        by_last None is = by_now (maker now p) refl is ∙ sym (ap (λ (m : Option ℕ). is_made_anew last ran same m) is)
        by_last (Some j) is =
            ap (λ (m : Option ℕ). is_made_anew now ran same m) (known p j walked is)
            ∙ (anew_by j same (has_number ran j) refl ∙ sym (ap (λ (m : Option ℕ). is_made_anew last ran same m) is))

    pub verdict_last : (old files : List Moment) (b : Bool) → IsVerdict now store ran old files i b → IsVerdict last store ran old files i b
    verdict_last old files b verdict = record {
      read = verdict.read;
      counted = λ p. ((λ h. counted_last files p ((verdict.counted p).0 h)), (λ counted. (verdict.counted p).1 (counted_now files p counted)));
      verdict = verdict.verdict
          ∙ (ap (λ (fs : List InputFacts). is_some (reason_of (record {
            act = (edge_at now i).act;
            restat = (edge_at now i).restat;
            deps = (edge_at now i).deps;
            depfile = is_some (file_at old (edge_at now i).act.depfile);
            outputs = map (output_facts store old) (outputs (edge_at now i));
            inputs = fs;
          }))) (map_same (input_facts now ran old files) (input_facts last ran old files) verdict.read
          (λ p h. ap (λ (c : Bool). record { stamp = stamp_of (file_at files p); changed = c })
          (anew_same p (is_same_number (stamp_of (file_at old p)) (stamp_of (file_at files p))) (walks files p (counted_last files p ((verdict.counted p).0 h))))))
          ∙ ap (λ (e : Edge). is_some (reason_of (record {
            act = e.act;
            restat = e.restat;
            deps = e.deps;
            depfile = is_some (file_at old e.act.depfile);
            outputs = map (output_facts store old) (outputs e);
            inputs = map (input_facts last ran old files) verdict.read;
          }))) (sym (grown.same i loaded)));
    }
