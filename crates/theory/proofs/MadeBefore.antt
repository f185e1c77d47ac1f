-- In a build that loads dyndep files, commands that make what an edge reads were done when the edge was judged, over the edges of
-- the end: where outputs that only a dyndep file names are read only below that file.
use Rattle.std.proofs.Common.{◌≡◌, ◌⊎◌, inl, inr, ℕ, cond, is_some, Bool, true, List, [], ◌++◌, Option, Some, None, refl, sym, ◌∙◌, ap, subst}
use Rattle.std.proofs.lemmas.Bool.{false≢true, true≢false}
use Rattle.model.specs.declared.event.Moment.{Moment}
use Rattle.model.specs.declared.graph.Edge.{Edge}
use Rattle.model.specs.World.{view_of}
use Rattle.model.specs.Graph.{has, has_number, edge_at, maker, outputs, inputs, regular_inputs, IsCommand, IsMadeOnce}
use Rattle.model.specs.Outcome.{Behaviour}
use Rattle.model.specs.Reading.{needs, IsRead, Itself, Through, IsAbove, Direct, Further, IsInCone, Needed}
use Rattle.model.specs.Records.{Store, recorded_of, recorded_inputs}
use Rattle.model.specs.Schedule.{Task, Step, IsSettled, Done, Alias}
use Rattle.model.specs.Premises.{Matters, IsWalked, Input, Behind, IsBelowDyndep, IsKnown, IsKnownAbove, ByOne, ByMore, DyndepOutputsAreReadBelow}
use Rattle.theory.specs.Order.{IsReadAfter}
use Rattle.theory.proofs.Lists.{has-left, has-right, has-cases}
use Rattle.theory.proofs.Makers.{maker_has, maker_is}
use Rattle.theory.proofs.Nothing.{recorded_alias}
use Rattle.theory.proofs.Settled.{settled_command}
use Rattle.model.specs.OutOfDate.{Counted, IsVerdict}
use Rattle.theory.proofs.JudgedOnce.{counted_last, verdict_last}
use Rattle.theory.proofs.Growth.{HasGrown, grown_further, still_loaded, maker_still}

-- ---- the last link of a chain

record LastLink (needed : ℕ → List (List ℕ)) (makes : List ℕ → Option ℕ) (k e : ℕ) : Type 0 where
  edge : ℕ
  path : List ℕ
  need : has (needed e) path ≡ true
  made : makes path ≡ Some edge
  rest : (k ≡ edge) ⊎ IsAbove needed makes k edge

last_link : (needed : ℕ → List (List ℕ)) (makes : List ℕ → Option ℕ) (k e : ℕ) → IsAbove needed makes k e → LastLink needed makes k e
last_link needed makes k e (Direct _ _ p h is) = record { edge = k; path = p; need = h; made = is; rest = inl refl }
last_link needed makes k e (Further _ d _ first second) =
    let l = last_link needed makes d e second in
    record {
      edge = l.edge;
      path = l.path;
      need = l.need;
      made = l.made;
      rest = elim l.rest [
        | inl same ↦ inr (subst (λ (x : ℕ). IsAbove needed makes k x) same first)
        | inr up ↦ inr (Further k d l.edge first up)
      ];
    }

record LastKnown (declared edges : List Edge) (recorded : ℕ → List (List ℕ)) (k e : ℕ) : Type 0 where
  edge : ℕ
  path : List ℕ
  need : has (needs edges recorded e) path ≡ true
  made : maker edges path ≡ Some edge
  known : IsKnown declared edges recorded e path
  rest : (k ≡ edge) ⊎ IsKnownAbove declared edges recorded k edge

last_known : (declared edges : List Edge) (recorded : ℕ → List (List ℕ)) (k e : ℕ) → IsKnownAbove declared edges recorded k e → LastKnown declared edges recorded k e
last_known declared edges recorded k e (ByOne _ _ p h is known) = record { edge = k; path = p; need = h; made = is; known = known; rest = inl refl }
last_known declared edges recorded k e (ByMore _ d _ first second) =
    let l = last_known declared edges recorded d e second in
    record {
      edge = l.edge;
      path = l.path;
      need = l.need;
      made = l.made;
      known = l.known;
      rest = elim l.rest [
        | inl same ↦ inr (subst (λ (x : ℕ). IsKnownAbove declared edges recorded k x) same first)
        | inr up ↦ inr (ByMore k d l.edge first up)
      ];
    }

-- ---- what is above a judged edge

-- the edge has its dyndep file loaded and, with a command, is done
pub record IsGood (last now : List Edge) (done : List ℕ) (k : ℕ) : Type 0 where
  pub loaded : (edge_at now k).dyndep ≡ None
  pub is_done : IsCommand last k → has_number done k ≡ true

-- so are all edges above edge i whose makers are known
pub record IsRight (declared last : List Edge) (store : Store) (now : List Edge) (done : List ℕ) (i : ℕ) : Type 0 where
  pub loaded : (edge_at now i).dyndep ≡ None
  pub declared_above : (k : ℕ) → IsAbove (needs last (recorded_inputs store last)) (maker declared) k i → IsGood last now done k
  pub known_above : (k : ℕ) → IsKnownAbove declared last (recorded_inputs store last) k i → IsGood last now done k

pub right_more : (declared last : List Edge) (store : Store) (now next : List Edge) (few many : List ℕ) (i : ℕ) → HasGrown now next → ((k : ℕ) → has_number few k ≡ true → has_number many k ≡ true)
    → IsRight declared last store now few i → IsRight declared last store next many i
right_more declared last store now next few many i grown more right = record {
  loaded = still_loaded now next grown i right.loaded;
  declared_above = λ k chain. good (right.declared_above k chain);
  known_above = λ k chain. good (right.known_above k chain);
}
  where
    good : {k : ℕ} → IsGood last now few k → IsGood last next many k
    good {k} was = record { loaded = still_loaded now next grown k was.loaded; is_done = λ command. more k (was.is_done command) }

-- an alias that is settled has its inputs settled
alias_settled : (edges : List Edge) (done : List ℕ) (a : ℕ) → (edge_at edges a).phony ≡ true → IsSettled edges done a
    → (p : List ℕ) (j : ℕ) → has (inputs (edge_at edges a)) p ≡ true → maker edges p ≡ Some j → IsSettled edges done j
alias_settled edges done a phony (Done _ command is) p j h made = absurd (true≢false (sym phony ∙ command))
alias_settled edges done a phony (Alias _ also below) p j h made = below p j h made

module _ (declared last : List Edge) (store : Store) (task : Task) (done : List ℕ)
    (before_now : HasGrown declared task.graph.edges) (now_last : HasGrown task.graph.edges last)
    (once : IsMadeOnce declared) (once_now : IsMadeOnce task.graph.edges) (once_last : IsMadeOnce last)
    (recorded_is : (i : ℕ) → task.recorded i ≡ recorded_inputs store task.graph.edges i)
    (inputs_named : (i : ℕ) (file : List ℕ) → (edge_at declared i).dyndep ≡ Some file → has (inputs (edge_at declared i)) file ≡ true)
    (unloaded : (e : ℕ) (file : List ℕ) → IsInCone task.graph.edges task.recorded task.targets e → (edge_at task.graph.edges e).dyndep ≡ Some file
    → ((j : ℕ) → maker task.graph.edges file ≡ Some j → IsSettled task.graph.edges done j) → ⊥)
    (rights : (i : ℕ) → has_number done i ≡ true → IsRight declared last store task.graph.edges done i) where
  abbrev now : List Edge
  now = task.graph.edges

  abbrev Within : ℕ → Type 0
  Within e = IsInCone task.graph.edges task.recorded task.targets e

  abbrev needed : ℕ → List (List ℕ)
  needed e = needs last (recorded_inputs store last) e

  differ : (file : List ℕ) → Some file ≡ None → ⊥
  differ file is = cc

  -- an edge whose inputs are settled has its dyndep file loaded
  loaded_where_settled : (e : ℕ) → Within e → ((p : List ℕ) (j : ℕ) → has (inputs (edge_at task.graph.edges e)) p ≡ true → maker task.graph.edges p ≡ Some j → IsSettled task.graph.edges done j)
      → (edge_at task.graph.edges e).dyndep ≡ None
  loaded_where_settled e within settled = by_name (edge_at task.graph.edges e).dyndep refl
    where
      an_input : (file : List ℕ) → (edge_at task.graph.edges e).dyndep ≡ Some file → has (inputs (edge_at task.graph.edges e)) file ≡ true
      an_input file is = elim (before_now.names e) [
        | inl none ↦ absurd (differ file (sym is ∙ none))
        | inr same ↦ before_now.inputs e file (inputs_named e file (sym same ∙ is))
      ]

      by_name : (d : Option (List ℕ)) → (edge_at task.graph.edges e).dyndep ≡ d → (edge_at task.graph.edges e).dyndep ≡ None
      by_name None is = is
      by_name (Some file) is = absurd (unloaded e file within is (λ j made. settled file j (an_input file is) made))

  needs_same : (e : ℕ) → (edge_at task.graph.edges e).dyndep ≡ None → needs last (recorded_inputs store last) e ≡ needs task.graph.edges task.recorded e
  needs_same e none =
      ap (λ (x : Edge). inputs x ++ cond x.phony [] (cond (is_some x.dyndep) [] (recorded_of store x))) (now_last.same e none)
      ∙ ap (λ (ps : List (List ℕ)). inputs (edge_at task.graph.edges e) ++ ps) (sym (recorded_is e))

  need_now : (e : ℕ) → (edge_at task.graph.edges e).dyndep ≡ None → (p : List ℕ) → has (needs last (recorded_inputs store last) e) p ≡ true → has (needs task.graph.edges task.recorded e) p ≡ true
  need_now e none p h = subst (λ (ps : List (List ℕ)). has ps p ≡ true) (needs_same e none) h

  -- what an alias needs is an input
  alias_input : (d : ℕ) → (edge_at task.graph.edges d).phony ≡ true → (p : List ℕ) → has (needs task.graph.edges task.recorded d) p ≡ true → has (inputs (edge_at task.graph.edges d)) p ≡ true
  alias_input d phony p h = elim (has-cases (inputs (edge_at task.graph.edges d)) (task.recorded d) p h) [
    | inl input ↦ input
    | inr recorded ↦ absurd (false≢true (subst (λ (ps : List (List ℕ)). has ps p ≡ true) (recorded_is d ∙ recorded_alias store task.graph.edges d phony) recorded))
  ]

  not_command : (d : ℕ) → (edge_at task.graph.edges d).phony ≡ true → IsCommand last d → has_number done d ≡ true
  not_command d phony command = absurd (true≢false (sym phony ∙ (sym (now_last.phony d) ∙ command)))

  -- ---- by makers that the build files have

  abbrev HasDeclared : ℕ → Type 0
  HasDeclared d = IsGood last task.graph.edges done d × ((k : ℕ) → IsAbove (needs last (recorded_inputs store last)) (maker declared) k d → IsGood last task.graph.edges done k)

  declared_step : (d : ℕ) → (edge_at task.graph.edges d).dyndep ≡ None
      → ((p : List ℕ) (j : ℕ) → has (needs task.graph.edges task.recorded d) p ≡ true → maker task.graph.edges p ≡ Some j → HasDeclared j)
      → (k : ℕ) → IsAbove (needs last (recorded_inputs store last)) (maker declared) k d → IsGood last task.graph.edges done k
  declared_step d loaded each k chain = by_link (last_link (needs last (recorded_inputs store last)) (maker declared) k d chain)
    where
      by_link : LastLink (needs last (recorded_inputs store last)) (maker declared) k d → IsGood last task.graph.edges done k
      by_link l =
          let rest = each l.path l.edge (need_now d loaded l.path l.need) (maker_still declared task.graph.edges before_now once_now l.path l.edge l.made) in
          elim l.rest [
            | inl same ↦ subst (λ (x : ℕ). IsGood last task.graph.edges done x) (sym same) rest.0
            | inr up ↦ rest.1 k up
          ]

  declared_good : (d : ℕ) → IsSettled task.graph.edges done d → Within d → HasDeclared d
  declared_good d (Done _ command is) within = (record { loaded = (rights d is).loaded; is_done = λ c. is }, (rights d is).declared_above)
  declared_good d (Alias _ phony below) within =
      let loaded = loaded_where_settled d within below in (
        record { loaded = loaded; is_done = not_command d phony },
        declared_step d loaded (λ p j need made. declared_good j (below p j (alias_input d phony p need) made) (Needed j d p within need made)),
      )

  -- ---- by makers that are known

  -- the maker of a path that an edge may name is the one of the end
  maker_now : (e : ℕ) → (edge_at task.graph.edges e).dyndep ≡ None → ((k : ℕ) → IsAbove (needs last (recorded_inputs store last)) (maker declared) k e → IsGood last task.graph.edges done k)
      → (p : List ℕ) (m : ℕ) → maker last p ≡ Some m → IsKnown declared last (recorded_inputs store last) e p → maker task.graph.edges p ≡ Some m
  maker_now e loaded above p m made known = by_declared (maker declared p) refl
    where
      before_last : HasGrown declared last
      before_last = grown_further declared task.graph.edges last before_now now_last

      where_loaded : (edge_at task.graph.edges m).dyndep ≡ None → maker task.graph.edges p ≡ Some m
      where_loaded none = maker_is task.graph.edges p m once_now (subst (λ (x : Edge). has (outputs x) p ≡ true) (now_last.same m none) (maker_has last p m made))

      by_namer : (file : List ℕ) → (edge_at declared m).dyndep ≡ Some file → (k : ℕ) → (edge_at declared k).dyndep ≡ Some file → (edge_at task.graph.edges k).dyndep ≡ None → maker task.graph.edges p ≡ Some m
      by_namer file names k also none = where_loaded (before_now.together k m file also names none)

      below : (file : List ℕ) → (edge_at declared m).dyndep ≡ Some file → IsBelowDyndep declared last (recorded_inputs store last) file e → maker task.graph.edges p ≡ Some m
      below file names (inl itself) = by_namer file names e itself loaded
      below file names (inr (k, also, chain)) = by_namer file names k also (above k chain).loaded

      none_some : (j : ℕ) → None ≡ Some j → ⊥
      none_some j is = cc

      by_file : maker declared p ≡ None → (d : Option (List ℕ)) → (edge_at declared m).dyndep ≡ d → maker task.graph.edges p ≡ Some m
      by_file none None is =
          absurd (none_some m (sym none ∙ maker_is declared p m once (subst (λ (x : Edge). has (outputs x) p ≡ true) (before_last.same m is) (maker_has last p m made))))
      by_file none (Some file) is = below file is (known m file made none is)

      by_declared : (d : Option ℕ) → maker declared p ≡ d → maker task.graph.edges p ≡ Some m
      by_declared None none = by_file none (edge_at declared m).dyndep refl
      by_declared (Some j) is =
          maker_still declared task.graph.edges before_now once_now p j is
          ∙ (sym (maker_still declared last before_last once_last p j is) ∙ made)

  abbrev HasKnown : ℕ → Type 0
  HasKnown d = IsGood last task.graph.edges done d × ((k : ℕ) → IsKnownAbove declared last (recorded_inputs store last) k d → IsGood last task.graph.edges done k)

  known_step : (d : ℕ) → (edge_at task.graph.edges d).dyndep ≡ None → ((k : ℕ) → IsAbove (needs last (recorded_inputs store last)) (maker declared) k d → IsGood last task.graph.edges done k)
      → ((p : List ℕ) (j : ℕ) → has (needs task.graph.edges task.recorded d) p ≡ true → maker task.graph.edges p ≡ Some j → HasKnown j)
      → (k : ℕ) → IsKnownAbove declared last (recorded_inputs store last) k d → IsGood last task.graph.edges done k
  known_step d loaded above each k chain = by_link (last_known declared last (recorded_inputs store last) k d chain)
    where
      by_link : LastKnown declared last (recorded_inputs store last) k d → IsGood last task.graph.edges done k
      by_link l =
          let rest = each l.path l.edge (need_now d loaded l.path l.need) (maker_now d loaded above l.path l.edge l.made l.known) in
          elim l.rest [
            | inl same ↦ subst (λ (x : ℕ). IsGood last task.graph.edges done x) (sym same) rest.0
            | inr up ↦ rest.1 k up
          ]

  known_good : (d : ℕ) → IsSettled task.graph.edges done d → Within d → HasKnown d
  known_good d (Done _ command is) within = (record { loaded = (rights d is).loaded; is_done = λ c. is }, (rights d is).known_above)
  known_good d (Alias _ phony below) within =
      let declared_here = declared_good d (Alias d phony below) within in (
        declared_here.0,
        known_step d declared_here.0.loaded declared_here.1 (λ p j need made. known_good j (below p j (alias_input d phony p need) made) (Needed j d p within need made)),
      )

  -- ---- an edge whose turn has come

  module _ (i : ℕ) (within : Within i) (command : IsCommand task.graph.edges i) (ready : (p : List ℕ) (j : ℕ) → has (needs task.graph.edges task.recorded i) p ≡ true → maker task.graph.edges p ≡ Some j → IsSettled task.graph.edges done j) where
    loaded_here : (edge_at task.graph.edges i).dyndep ≡ None
    loaded_here = loaded_where_settled i within (λ p j h made. ready p j (has-left (inputs (edge_at task.graph.edges i)) (task.recorded i) p h) made)

    pub right_here : IsRight declared last store task.graph.edges done i
    right_here =
        let above = declared_step i loaded_here (λ p j need made. declared_good j (ready p j need made) (Needed j i p within need made)) in
        record {
          loaded = loaded_here;
          declared_above = above;
          known_above = known_step i loaded_here above (λ p j need made. known_good j (ready p j need made) (Needed j i p within need made));
        }

    command_done : (j : ℕ) → IsSettled task.graph.edges done j → IsCommand last j → has_number done j ≡ true
    command_done j settled is = settled_command task.graph.edges done j (sym (now_last.phony j) ∙ is) settled

    module _ (B : Behaviour) (steps : List Step) (old new : List Moment) (premise : DyndepOutputsAreReadBelow B declared last (recorded_inputs store last) steps old new) where
      known_here : (p : List ℕ) (m : ℕ) → maker last p ≡ Some m → IsKnown declared last (recorded_inputs store last) i p → maker task.graph.edges p ≡ Some m
      known_here p m made known = maker_now i right_here.loaded right_here.declared_above p m made known

      command_last : IsCommand last i
      command_last = now_last.phony i ∙ command

      read_done : (e : ℕ) (p : List ℕ) → IsRead last (view_of new) e p → ((q : List ℕ) → has (regular_inputs (edge_at last e)) q ≡ true → IsWalked last i q)
          → ((q : List ℕ) (m : ℕ) → has (regular_inputs (edge_at last e)) q ≡ true → maker task.graph.edges q ≡ Some m → IsSettled task.graph.edges done m × IsInCone task.graph.edges task.recorded task.targets m)
          → (j : ℕ) → maker last p ≡ Some j → IsCommand last j → has_number done j ≡ true
      read_done e p (Itself _ _ h counts) walk settled j made is =
          command_done j (settled p j h (known_here p j made (premise.inputs i p command_last (inl (walk p h))))).0 is
      read_done e p (Through _ a q _ h alias below) walk settled j made is =
          let here = settled q a h (known_here q a alias.made (premise.inputs i q command_last (inl (walk q h)))) in
          let loaded = (declared_good a here.0 here.1).0.loaded in
          let same = now_last.same a loaded in
          read_done a p below (λ r among. Behind a q r (walk q h) alias among)
          (λ r m among makes.
          let input : has (inputs (edge_at task.graph.edges a)) r ≡ true = has-left (regular_inputs (edge_at task.graph.edges a)) (edge_at task.graph.edges a).order_only_inputs r (subst (λ (x : Edge). has (regular_inputs x) r ≡ true) same among) in (
            alias_settled task.graph.edges done a (sym (now_last.phony a) ∙ alias.phony) here.0 r m input makes,
            Needed m a r here.1 (has-left (inputs (edge_at task.graph.edges a)) (task.recorded a) r input) makes,
          ))
          j made is

      -- the commands that make what it reads are done
      pub read_here : IsReadAfter last (Matters B last (recorded_inputs store last) steps old new) done i
      read_here p j (inl read) made is = read_done i p read (λ q h. Input q h)
          (λ q m h makes.
          let need = need_now i loaded_here q (has-left (inputs (edge_at last i)) (recorded_inputs store last i) q (has-left (regular_inputs (edge_at last i)) (edge_at last i).order_only_inputs q h)) in
          (ready q m need makes, Needed m i q within need makes))
          j made is
      read_here p j (inr (inl recorded)) made is =
          command_done j (ready p j (need_now i loaded_here p (has-right (inputs (edge_at last i)) (recorded_inputs store last i) p recorded))
          (known_here p j made (premise.inputs i p command_last (inr recorded)))) is
      read_here p j (inr (inr reported)) made is = (right_here.known_above j (premise.reports i j p reported made is)).is_done is

      -- ---- the verdict

      -- makers of what it walks are settled, and in the cone
      walked_settled : (p : List ℕ) → IsWalked last i p → (m : ℕ) → maker task.graph.edges p ≡ Some m → IsSettled task.graph.edges done m × IsInCone task.graph.edges task.recorded task.targets m
      walked_settled p (Input _ h) m made =
          let need = need_now i loaded_here p (has-left (inputs (edge_at last i)) (recorded_inputs store last i) p (has-left (regular_inputs (edge_at last i)) (edge_at last i).order_only_inputs p h)) in
          (ready p m need made, Needed m i p within need made)
      walked_settled p (Behind j q _ walked alias h) m made =
          let here = walked_settled q walked j (known_here q j alias.made (premise.inputs i q command_last (inl walked))) in
          let same = now_last.same j (declared_good j here.0 here.1).0.loaded in
          let input : has (inputs (edge_at task.graph.edges j)) p ≡ true = has-left (regular_inputs (edge_at task.graph.edges j)) (edge_at task.graph.edges j).order_only_inputs p (subst (λ (x : Edge). has (regular_inputs x) p ≡ true) same h) in (
            alias_settled task.graph.edges done j (sym (now_last.phony j) ∙ alias.phony) here.0 p m input made,
            Needed m j p here.1 (has-left (inputs (edge_at task.graph.edges j)) (task.recorded j) p input) made,
          )

      known_walked : (p : List ℕ) (m : ℕ) → IsWalked last i p ⊎ (has (recorded_inputs store last i) p ≡ true) → maker last p ≡ Some m → maker task.graph.edges p ≡ Some m
      known_walked p m walked made = known_here p m made (premise.inputs i p command_last walked)

      -- what counts over the edges of then counts over those of the end
      pub counted_here : (files : List Moment) (p : List ℕ) → Counted task.graph.edges store files i p → Counted last store files i p
      counted_here files p counted = counted_last task.graph.edges last store i now_last once_last loaded_here known_walked
          (λ p j walked alias.
          let here = walked_settled p walked j (known_walked p j (inl walked) alias.made) in
          (declared_good j here.0 here.1).0.loaded)
          files p counted

      -- a verdict over the edges of then is one over the edges of the end
      pub verdict_here : (ran : List ℕ) → ((j : ℕ) → has_number ran j ≡ true → has_number done j ≡ true) → (entry files : List Moment) (b : Bool)
          → IsVerdict task.graph.edges store ran entry files i b → IsVerdict last store ran entry files i b
      verdict_here ran ran_done entry files b verdict = verdict_last task.graph.edges last store i now_last once_last loaded_here known_walked
          (λ p j walked alias.
          let here = walked_settled p walked j (known_walked p j (inl walked) alias.made) in
          (declared_good j here.0 here.1).0.loaded)
          ran (λ j h. (rights j (ran_done j h)).loaded) entry files b verdict
