-- Which commands that were not judged are due.
use Rattle.std.proofs.Common.{IsSome, ◌≡◌, ◌⊎◌, ◌↔◌, inl, inr, ℕ, zero, suc, ◌<◌, ◌||◌, ◌&&◌, not, cond, Bool, true, false, List, [], ◌∷◌, ◌++◌, Option, Some, None, is_some, bytes_eq, map, length, refl, sym, ◌∙◌, ap, subst}
use Rattle.std.specs.Prelude.{is_none, find}
use Rattle.std.specs.List.{list_any}
use Rattle.std.proofs.lemmas.Bool.{false_from_ne_true, false≢true, or_cases, or_left, or_right, cases_Bool}
use Rattle.model.specs.declared.event.Moment.{Moment}
use Rattle.model.specs.declared.graph.Edge.{Edge}
use Rattle.model.specs.declared.reason.Reason.{Reason}
use Rattle.model.specs.declared.reason.Reason.TheVariants.{OutputAbsent, NoRecord, OtherAct, InputAbsent, InputChanged, InputLater, OutputOlder, DepsUnknown}
use Rattle.model.specs.World.{File, View, file_at, stamp_of, content_of, view_of}
use Rattle.model.specs.Graph.{has, has_number, edge_at, maker, later_number, regular_inputs, inputs, IsCommand}
use Rattle.model.specs.Judgement.{OutputFacts, InputFacts, Facts, is_later, is_same_number, start_of, holds, all_reasons, reason_of}
use Rattle.model.specs.OutOfDate.{IsDue, WasJudged, Stale, Below, AliasOfNothing, AliasOfAbsent, AliasOfDue, IsMissing, IsOutOfDate, Counted, ListsCounted, input_facts, facts_of, is_made_anew}
use Rattle.model.specs.Reading.{Counts, IsRead, Itself, Through, needs}
use Rattle.model.specs.Records.{Store, recorded_inputs}
use Rattle.model.specs.Schedule.{Step, judged_in, out_of_date_in}
use Rattle.theory.proofs.Lists.{bytes_same, same_bytes, has-left, has-right, same_some, some_none, map_same}
use Rattle.theory.proofs.Orderly.{IsKept}
use Rattle.paths.specs.Told.{text_at}
use Rattle.graph.specs.declared.graph.Graph.{Graph}
use Rattle.graph.specs.Linked.{StandFor}
use Rattle.graph.specs.Links.{links_of}
use Rattle.graph.specs.Told.{declared_by}
use Rattle.judge.specs.Facts.{flag_at}
use Rattle.judge.specs.Judged.{IsReasonBy, AreRecordedOf, MayBeJudgedBy, HasPathsOf, everything}
use Rattle.judge.specs.Quiet.{HasPathsFor, AreAlike}
use Rattle.judge.specs.Dues.{AreMakersKnown, due_by, is_made_due, reads_due}
use Rattle.judge.proofs.AliasDues.{some_number}
use Rattle.judge.proofs.NumbersAsTexts.{any_number, number_any, has_text, number_of}

-- ---- what is read of a due edge

-- edge k reads a missing source, or what a due edge makes
pub record ReadsDue (edges : List Edge) (store : Store) (before : List Step) (files : List Moment) (k : ℕ) : Type 0 where
  pub path : List ℕ
  pub read : IsRead edges (view_of files) k path
  pub why : IsMissing edges files path ⊎ ((j : ℕ) × (maker edges path ≡ Some j) × IsDue edges store before files j)

module _ (edges : List Edge) (store : Store) (before : List Step) (kept : IsKept edges before) (files : List Moment) where
  by_command : (k : ℕ) (q : List ℕ) (j : ℕ) → has (regular_inputs (edge_at edges k)) q ≡ true → maker edges q ≡ Some j → IsCommand edges j → IsDue edges store before files j → ReadsDue edges store before files k
  by_command k q j h made command due = record {
    path = q;
    read = Itself k q h (inl (λ l alias. false≢true (sym command ∙ (ap (λ (n : ℕ). (edge_at edges n).phony) (same_some j l (sym made ∙ alias.made)) ∙ alias.phony))));
    why = inr (j, made, due);
  }

  -- an edge that names what a due edge makes reads so
  through : (j : ℕ) → IsDue edges store before files j → (k : ℕ) (q : List ℕ) → has (regular_inputs (edge_at edges k)) q ≡ true → maker edges q ≡ Some j → ReadsDue edges store before files k
  through _ (WasJudged j judged) k q h made = by_command k q j h made (kept.judged j (kept.out_of_date j judged)) (WasJudged j judged)
  through _ (Stale j command unjudged stale) k q h made = by_command k q j h made command (Stale j command unjudged stale)
  through _ (Below j l p command unjudged counted below_made below) k q h made = by_command k q j h made command (Below j l p command unjudged counted below_made below)
  through _ (AliasOfNothing j o phony empty output absent) k q h made = record {
    path = q;
    read = Itself k q h (inr (inr (j, record { made = made; phony = phony }, empty)));
    why = inr (j, made, AliasOfNothing j o phony empty output absent);
  }
  through _ (AliasOfAbsent j p phony input source absent) k q h made = record {
    path = p;
    read = Through k j q p h (record { made = made; phony = phony }) (Itself j p input (inl (λ l alias. some_none l (sym alias.made ∙ source))));
    why = inl (record { source = source; absent = absent });
  }
  through _ (AliasOfDue j l p phony input below_made below) k q h made =
      let rest = through l below j p input below_made in
      record { path = rest.path; read = Through k j q rest.path h (record { made = made; phony = phony }) rest.read; why = rest.why }

  -- and an edge that reads what a due edge makes names such a path
  named : (view : View) (k : ℕ) (p : List ℕ) → IsRead edges view k p → (j : ℕ) → maker edges p ≡ Some j → IsDue edges store before files j
      → (q : List ℕ) × (l : ℕ) × (has (regular_inputs (edge_at edges k)) q ≡ true) × (maker edges q ≡ Some l) × IsDue edges store before files l
  named view k p (Itself _ _ h counts) j made due = (p, j, h, made, due)
  named view k p (Through _ m q _ h alias below) j made due =
      let rest = named view m p below j made due in
      (q, m, h, alias.made, AliasOfDue m rest.1 rest.0 alias.phony rest.2 rest.3 rest.4)

-- ---- what is read in a view

-- what an edge reads is an input of it, or of an alias
input_of : (edges : List Edge) (view : View) (i : ℕ) (p : List ℕ) → IsRead edges view i p → (k : ℕ) × (has (inputs (edge_at edges k)) p ≡ true)
input_of edges view i p (Itself _ _ h counts) = (i, has-left (regular_inputs (edge_at edges i)) (edge_at edges i).order_only_inputs p h)
input_of edges view i p (Through _ j q _ h alias below) = input_of edges view j p below

pub read_in_all : (edges : List Edge) (view : View) (i : ℕ) (p : List ℕ) → IsRead edges view i p → IsRead edges everything i p
read_in_all edges view i p (Itself _ _ h counts) = Itself i p h (inr (inl refl))
read_in_all edges view i p (Through _ j q _ h alias below) = Through i j q p h alias (read_in_all edges view j p below)

-- views that agree on all that may be read have the same paths read
pub read_alike : (edges : List Edge) (one two : View) (i : ℕ) (p : List ℕ) → ((q : List ℕ) → IsRead edges everything i q → one q ≡ two q) → IsRead edges one i p → IsRead edges two i p
read_alike edges one two i p agree (Itself _ _ h counts) = Itself i p h (by_counts counts)
  where
    by_counts : Counts edges one p → Counts edges two p
    by_counts (inl none) = inl none
    by_counts (inr (inl there)) = inr (inl (subst IsSome (agree p (Itself i p h (inr (inl refl)))) there))
    by_counts (inr (inr empty)) = inr (inr empty)
read_alike edges one two i p agree (Through _ j q _ h alias below) =
    Through i j q p h alias (read_alike edges one two j p (λ r read. agree r (Through i j q r h alias read)) below)

-- ---- reasons by lists of the same paths

found_among : (test : Reason → Bool) (before after : List Reason) (r : Reason) → test r ≡ true → is_some (find test (before ++ r ∷ after)) ≡ true
found_among test [] after r is = ap (λ (b : Bool). is_some (cond b (Some r) (find test after))) is
found_among test (x ∷ before) after r is = elim (cases_Bool (test x)) [
  | inl here ↦ ap (λ (b : Bool). is_some (cond b (Some x) (find test (before ++ r ∷ after)))) here
  | inr there ↦ ap (λ (b : Bool). is_some (cond b (Some x) (find test (before ++ r ∷ after)))) there ∙ found_among test before after r is
]

find_same : (f g : Reason → Bool) (reasons : List Reason) → ((r : Reason) → f r ≡ g r) → find f reasons ≡ find g reasons
find_same f g [] same = refl
find_same f g (r ∷ rs) same = ap (λ (b : Bool). cond b (Some r) (find f rs)) (same r) ∙ ap (λ (o : Option Reason). cond (g r) (Some r) o) (find_same f g rs same)

any_alike : {X : Type 0} (f g : X → Bool) (xs : List X) → ((x : X) → f x ≡ g x) → list_any f xs ≡ list_any g xs
any_alike f g [] same = refl
any_alike f g (x ∷ xs) same = ap (λ (b : Bool). b || list_any f xs) (same x) ∙ ap (λ (b : Bool). g x || b) (any_alike f g xs same)

any_text : {Y : Type 0} (test : Y → Bool) (f : List ℕ → Y) (ps : List (List ℕ)) → list_any test (map f ps) ≡ true → (p : List ℕ) × (has ps p ≡ true) × (test (f p) ≡ true)
any_text test f [] h = absurd (false≢true h)
any_text test f (p ∷ ps) h = elim (or_cases (test (f p)) (list_any test (map f ps)) h) [
  | inl here ↦ (p, has-left (p ∷ []) ps p (or_left (bytes_eq p p) false (bytes_same p)), here)
  | inr there ↦ let rest = any_text test f ps there in (rest.0, has-right (p ∷ []) ps rest.0 rest.1, rest.2)
]

text_any : {Y : Type 0} (test : Y → Bool) (f : List ℕ → Y) (ps : List (List ℕ)) (p : List ℕ) → has ps p ≡ true → test (f p) ≡ true → list_any test (map f ps) ≡ true
text_any test f [] p h is = absurd (false≢true h)
text_any test f (q ∷ ps) p h is = elim (or_cases (bytes_eq q p) (has ps p) h) [
  | inl here ↦ or_left (test (f q)) (list_any test (map f ps)) (ap (λ (x : List ℕ). test (f x)) (same_bytes q p here) ∙ is)
  | inr there ↦ or_right (test (f q)) (list_any test (map f ps)) (text_any test f ps p there is)
]

both_ways : (a b : Bool) → (a ≡ true → b ≡ true) → (b ≡ true → a ≡ true) → a ≡ b
both_ways true b to from = sym (to refl)
both_ways false true to from = from refl
both_ways false false to from = refl

module _ (edges : List Edge) (store : Store) (files : List Moment) (i : ℕ) (read other : List (List ℕ)) (counted : ListsCounted edges store files i read) (counted_too : ListsCounted edges store files i other) where
  abbrev ins : List (List ℕ) → List InputFacts
  ins ps = map (input_facts edges [] files files) ps

  any_input : (test : InputFacts → Bool) → list_any test (ins read) ≡ list_any test (ins other)
  any_input test =
      both_ways (list_any test (ins read)) (list_any test (ins other))
      (λ h. let p = any_text test (input_facts edges [] files files) read h in text_any test (input_facts edges [] files files) other p.0 ((counted_too p.0).1 ((counted p.0).0 p.1)) p.2)
      (λ h. let p = any_text test (input_facts edges [] files files) other h in text_any test (input_facts edges [] files files) read p.0 ((counted p.0).1 ((counted_too p.0).0 p.1)) p.2)

  abbrev facts : Facts
  facts = facts_of edges store [] files files i read

  abbrev others : Facts
  others = facts_of edges store [] files files i other

  holds_same : (r : Reason) → holds facts r ≡ holds others r
  holds_same OutputAbsent = refl
  holds_same NoRecord = refl
  holds_same OtherAct = refl
  holds_same InputAbsent = any_input (λ (p : InputFacts). is_none p.stamp)
  holds_same InputChanged = any_input (λ (p : InputFacts). p.changed)
  holds_same InputLater =
      any_alike (λ (o : OutputFacts). list_any (λ (p : InputFacts). is_later p.stamp (start_of o.made)) (ins read)) (λ (o : OutputFacts). list_any (λ (p : InputFacts). is_later p.stamp (start_of o.made)) (ins other)) facts.outputs
      (λ (o : OutputFacts). any_input (λ (p : InputFacts). is_later p.stamp (start_of o.made)))
  holds_same OutputOlder =
      ap (λ (b : Bool). not (edge_at edges i).restat && b)
      (any_alike (λ (o : OutputFacts). list_any (λ (p : InputFacts). is_later p.stamp o.stamp) (ins read)) (λ (o : OutputFacts). list_any (λ (p : InputFacts). is_later p.stamp o.stamp) (ins other)) facts.outputs (λ (o : OutputFacts). any_input (λ (p : InputFacts). is_later p.stamp o.stamp)))
  holds_same DepsUnknown = refl

  pub reason_alike : reason_of facts ≡ reason_of others
  reason_alike = find_same (λ r. holds facts r) (λ r. holds others r) all_reasons holds_same

-- ---- one command

module _ (graph : Graph) (stands : StandFor (declared_by graph).edges graph.manifest.paths (links_of graph)) (store : Store) (before : List Step) (kept : IsKept (declared_by graph).edges before) (files : List Moment) (due : List Bool)
    (e : ℕ) (in_use : AreRecordedOf graph store (suc e)) (command : IsCommand (declared_by graph).edges (suc e)) (unjudged : has_number (judged_in before) (suc e) ≡ false) (known : AreMakersKnown (declared_by graph).edges store before files due (suc e))
  where
    abbrev edges : List Edge
    edges = (declared_by graph).edges

    abbrev paths : List (List ℕ)
    paths = graph.manifest.paths

    abbrev Due : ℕ → Type 0
    Due i = IsDue edges store before files i

    abbrev made_due : ℕ → Bool
    made_due n = is_made_due (links_of graph) due n

    needs_regular : (p : List ℕ) → has (regular_inputs (edge_at edges (suc e))) p ≡ true → has (needs edges (recorded_inputs store edges) (suc e)) p ≡ true
    needs_regular p h =
        has-left (inputs (edge_at edges (suc e))) (recorded_inputs store edges (suc e)) p (has-left (regular_inputs (edge_at edges (suc e))) (edge_at edges (suc e)).order_only_inputs p h)

    needs_recorded : (p : List ℕ) → has (recorded_inputs store edges (suc e)) p ≡ true → has (needs edges (recorded_inputs store edges) (suc e)) p ≡ true
    needs_recorded p h = has-right (inputs (edge_at edges (suc e))) (recorded_inputs store edges (suc e)) p h

    -- a path that is flagged has a due maker
    flagged : (n : ℕ) → n < length paths → has (needs edges (recorded_inputs store edges) (suc e)) (text_at paths n) ≡ true → made_due n ≡ true → (j : ℕ) × (maker edges (text_at paths n) ≡ Some j) × Due j
    flagged n lt need is = by_maker ((links_of graph).maker n) refl
      where
        by_maker : (o : Option ℕ) → (links_of graph).maker n ≡ o → (j : ℕ) × (maker edges (text_at paths n) ≡ Some j) × Due j
        by_maker None none = absurd (false≢true (sym (ap (due_by due false) none) ∙ is))
        by_maker (Some m) some =
            let made : maker edges (text_at paths n) ≡ Some (suc m) = stands.makers n lt ∙ ap later_number some in
            (suc m, made, (known.makers (text_at paths n) m need made).0 (sym (ap (due_by due false) some) ∙ is))

    -- and one with a due maker is flagged
    flag_of : (n : ℕ) (j : ℕ) → n < length paths → has (needs edges (recorded_inputs store edges) (suc e)) (text_at paths n) ≡ true → maker edges (text_at paths n) ≡ Some j → Due j → made_due n ≡ true
    flag_of n j lt need made is =
        let m = some_number ((links_of graph).maker n) j (sym (stands.makers n lt) ∙ made) in
        ap (due_by due false) m.1 ∙ (known.makers (text_at paths n) m.0 need (made ∙ ap Some (sym m.2))).1 (subst (λ (q : ℕ). Due q) (sym m.2) is)

    regular_has : (n : ℕ) → has_number ((links_of graph).regular e) n ≡ true → has (regular_inputs (edge_at edges (suc e))) (text_at paths n) ≡ true
    regular_has n h = subst (λ (l : List (List ℕ)). has l (text_at paths n) ≡ true) (stands.regular_are e) (has_text paths ((links_of graph).regular e) n h)

    recorded_has : (n : ℕ) → has_number ((links_of graph).recorded e) n ≡ true → has (recorded_inputs store edges (suc e)) (text_at paths n) ≡ true
    recorded_has n h = in_use (text_at paths n) ∙ has_text paths ((links_of graph).recorded e) n h

    -- it reads a missing source
    stale_by : (p : List ℕ) → IsRead edges (view_of files) (suc e) p → IsMissing edges files p → Due (suc e)
    stale_by p read missing =
        Stale (suc e) command unjudged (
        record {
          read = known.read;
          counted = known.counted;
          verdict =
              sym (found_among (λ r. holds (facts_of edges store [] files files (suc e) known.read) r) (OutputAbsent ∷ NoRecord ∷ OtherAct ∷ []) (InputChanged ∷ InputLater ∷ OutputOlder ∷ DepsUnknown ∷ []) InputAbsent
              (text_any (λ (x : InputFacts). is_none x.stamp) (input_facts edges [] files files) known.read p ((known.counted p).1 (inl read)) (ap (λ (f : Option File). is_none (stamp_of f)) missing.absent)));
        })

    by_regular : (n : ℕ) → has_number ((links_of graph).regular e) n ≡ true → made_due n ≡ true → Due (suc e)
    by_regular n h is =
        let input = regular_has n h in
        let below = flagged n (stands.regular_within e n h) (needs_regular (text_at paths n) input) is in
        let reads = through edges store before kept files below.0 below.2 (suc e) (text_at paths n) input below.1 in
        elim reads.why [
          | inl missing ↦ stale_by reads.path reads.read missing
          | inr made ↦ Below (suc e) made.0 reads.path command unjudged (inl reads.read) made.1 made.2
        ]

    by_recorded : (n : ℕ) → has_number ((links_of graph).recorded e) n ≡ true → made_due n ≡ true → Due (suc e)
    by_recorded n h is =
        let input = recorded_has n h in
        let below = flagged n (stands.recorded_within e n h) (needs_recorded (text_at paths n) input) is in
        Below (suc e) below.0 (text_at paths n) command unjudged (inr input) below.1 below.2

    pub due_by_flags : reads_due (links_of graph) due e ≡ true → Due (suc e)
    due_by_flags is = elim (or_cases (list_any made_due ((links_of graph).regular e)) (list_any made_due ((links_of graph).recorded e)) is) [
      | inl regular ↦ let n = any_number made_due ((links_of graph).regular e) regular in by_regular n.0 n.1 n.2
      | inr recorded ↦ let n = any_number made_due ((links_of graph).recorded e) recorded in by_recorded n.0 n.1 n.2
    ]

    -- ---- where no due edge makes what it names

    module _ (none : reads_due (links_of graph) due e ≡ false) where
      no_regular : (q : List ℕ) (l : ℕ) → has (regular_inputs (edge_at edges (suc e))) q ≡ true → maker edges q ≡ Some l → Due l → ⊥
      no_regular q l h made is =
          let n = number_of paths ((links_of graph).regular e) q (subst (λ (t : List (List ℕ)). has t q ≡ true) (sym (stands.regular_are e)) h) in
          false≢true (sym none ∙ or_left (list_any made_due ((links_of graph).regular e)) (list_any made_due ((links_of graph).recorded e)) (number_any made_due ((links_of graph).regular e) n.0 n.1
          (flag_of n.0 l (stands.regular_within e n.0 n.1) (needs_regular (text_at paths n.0) (regular_has n.0 n.1)) (ap (maker edges) n.2 ∙ made) is)))

      no_recorded : (q : List ℕ) (l : ℕ) → has (recorded_inputs store edges (suc e)) q ≡ true → maker edges q ≡ Some l → Due l → ⊥
      no_recorded q l h made is =
          let n = number_of paths ((links_of graph).recorded e) q (sym (in_use q) ∙ h) in
          false≢true (sym none ∙ or_right (list_any made_due ((links_of graph).regular e)) (list_any made_due ((links_of graph).recorded e)) (number_any made_due ((links_of graph).recorded e) n.0 n.1
          (flag_of n.0 l (stands.recorded_within e n.0 n.1) (needs_recorded (text_at paths n.0) (recorded_has n.0 n.1)) (ap (maker edges) n.2 ∙ made) is)))

      -- what it reads no edge makes that was judged out of date, so that a set for sources has all paths of its judgement
      pub paths_of_clean : (targets : List (List ℕ)) (set : List ℕ → Bool) → HasPathsFor edges store targets before set → HasPathsOf edges store (suc e) set
      paths_of_clean targets set all = record {
        made = λ p h. all.made (suc e) p (false_from_ne_true (has_number (out_of_date_in before) (suc e)) (λ out. false≢true (sym unjudged ∙ kept.out_of_date (suc e) out))) h;
        read = λ p read.
            let at = input_of edges everything (suc e) p read in
            all.named at.0 p at.1 (λ j made. false_from_ne_true (has_number (out_of_date_in before) j) (λ out.
            let above = named edges store before kept files everything (suc e) p read j made (WasJudged j out) in
            no_regular above.0 above.1 above.2 above.3 above.4));
        recorded = λ p h. all.recorded (suc e) p h (λ j made. false_from_ne_true (has_number (out_of_date_in before) j) (λ out. no_recorded p j h made (WasJudged j out)));
      }

      module _ (reason : Option Reason) (so : IsReasonBy edges store [] files files (suc e) reason) where
        stale_said : IsOutOfDate edges store [] files files (suc e) → is_some reason ≡ true
        stale_said stale = ap is_some (so.is ∙ reason_alike edges store files (suc e) so.read stale.read so.counted stale.counted) ∙ sym stale.verdict

        due_said : (k : ℕ) → k ≡ suc e → Due k → is_some reason ≡ true
        due_said _ same (WasJudged k judged) = absurd (false≢true (sym unjudged ∙ subst (λ (q : ℕ). has_number (judged_in before) q ≡ true) same (kept.out_of_date k judged)))
        due_said _ same (Stale k is_command unjudged stale) = stale_said (subst (λ (q : ℕ). IsOutOfDate edges store [] files files q) same stale)
        due_said _ same (Below k j p is_command unjudged (inl read) made below) =
            let at = named edges store before kept files (view_of files) (suc e) p (subst (λ (q : ℕ). IsRead edges (view_of files) q p) same read) j made below in
            absurd (no_regular at.0 at.1 at.2 at.3 at.4)
        due_said _ same (Below k j p is_command unjudged (inr recorded) made below) = absurd (no_recorded p j (subst (λ (q : ℕ). has (recorded_inputs store edges q) p ≡ true) same recorded) made below)
        due_said _ same (AliasOfNothing k o phony empty output absent) = absurd (false≢true (sym command ∙ (ap (λ (q : ℕ). (edge_at edges q).phony) (sym same) ∙ phony)))
        due_said _ same (AliasOfAbsent k p phony input source absent) = absurd (false≢true (sym command ∙ (ap (λ (q : ℕ). (edge_at edges q).phony) (sym same) ∙ phony)))
        due_said _ same (AliasOfDue k j p phony input made below) = absurd (false≢true (sym command ∙ (ap (λ (q : ℕ). (edge_at edges q).phony) (sym same) ∙ phony)))

        pub due_by_reason : (is_some reason ≡ true) ↔ Due (suc e)
        due_by_reason = (
          (λ is. Stale (suc e) command unjudged (record { read = so.read; counted = so.counted; verdict = sym is ∙ ap is_some so.is })),
          (λ is. due_said (suc e) refl is),
        )

-- ---- the same judgement at each point

no_flag : (p : ℕ) → flag_at [] p ≡ false
no_flag zero = refl
no_flag (suc p) = refl

not_anew : (all : List Edge) (same : Bool) (o : Option ℕ) → is_made_anew all [] same o ≡ false
not_anew all same None = refl
not_anew all same (Some j) = refl

module _ (graph : Graph) (store : Store) (in_use : (i : ℕ) → AreRecordedOf graph store i) (before : List Step) (set : List ℕ → Bool) (now files : List Moment) (alike : AreAlike (declared_by graph).edges before set now files) (i : ℕ)
    (command : IsCommand (declared_by graph).edges i) (unjudged : has_number (judged_in before) i ≡ false) (paths : HasPathsOf (declared_by graph).edges store i set)
  where
    abbrev all : List Edge
    all = (declared_by graph).edges

    abbrev Facts_at : List Moment → List ℕ → InputFacts
    Facts_at at p = input_facts all [] files at p

    -- the edge may be judged by the files of a point, no command having run since then
    pub may_be_judged : MayBeJudgedBy graph store.records store.deps [] store [] files now i set
    may_be_judged = record {
      records = refl;
      deps = refl;
      recorded = in_use i;
      untouched = λ o h. ap stamp_of (sym (alike.paths o (paths.made o h)));
      depfile = λ named. sym (alike.depfiles i command unjudged named);
      flagged = λ p lt counted.
          no_flag p
          ∙ sym (not_anew all (is_same_number (stamp_of (file_at files (text_at graph.manifest.paths p))) (stamp_of (file_at now (text_at graph.manifest.paths p)))) (maker all (text_at graph.manifest.paths p)));
      paths = paths;
    }

    view_same : (p : List ℕ) → set p ≡ true → view_of now p ≡ view_of files p
    view_same p is = ap content_of (sym (alike.paths p is))

    read_now : (p : List ℕ) → IsRead all (view_of files) i p → IsRead all (view_of now) i p
    read_now p read = read_alike all (view_of files) (view_of now) i p (λ q every. sym (view_same q (paths.read q every))) read

    read_then : (p : List ℕ) → IsRead all (view_of now) i p → IsRead all (view_of files) i p
    read_then p read = read_alike all (view_of now) (view_of files) i p (λ q every. view_same q (paths.read q every)) read

    counted_in : (p : List ℕ) → Counted all store now i p → set p ≡ true
    counted_in p (inl read) = paths.read p (read_in_all all (view_of now) i p read)
    counted_in p (inr recorded) = paths.recorded p recorded

    counted_then : (p : List ℕ) → Counted all store now i p → Counted all store files i p
    counted_then p (inl read) = inl (read_then p read)
    counted_then p (inr recorded) = inr recorded

    counted_now : (p : List ℕ) → Counted all store files i p → Counted all store now i p
    counted_now p (inl read) = inl (read_now p read)
    counted_now p (inr recorded) = inr recorded

    abbrev facts_with : Option ℕ → Bool → InputFacts
    facts_with stamp changed = record { stamp = stamp; changed = changed }

    facts_same : (p : List ℕ) → set p ≡ true → Facts_at now p ≡ Facts_at files p
    facts_same p is =
        let old = stamp_of (file_at files p) in
        let new = stamp_of (file_at now p) in
        ap (λ (b : Bool). facts_with new b) (not_anew all (is_same_number old new) (maker all p) ∙ sym (not_anew all (is_same_number old old) (maker all p)))
        ∙ ap (λ (s : Option ℕ). facts_with s (is_made_anew all [] (is_same_number old old) (maker all p))) (ap stamp_of (sym (alike.paths p is)))

    abbrev with_inputs : List InputFacts → Facts
    with_inputs inputs = record (facts_of all store [] files files i []) { inputs = inputs }

    -- the reason that was found is that of the point
    pub reason_then : (reason : Option Reason) → IsReasonBy all store [] files now i reason → IsReasonBy all store [] files files i reason
    reason_then reason so = record {
      read = so.read;
      counted = λ p. ((λ h. counted_then p ((so.counted p).0 h)), (λ counted. (so.counted p).1 (counted_now p counted)));
      is = so.is ∙ ap (λ (l : List InputFacts). reason_of (with_inputs l)) (map_same (Facts_at now) (Facts_at files) so.read (λ p h. facts_same p (counted_in p ((so.counted p).0 h))));
    }
