-- What was found of commands is right after the load of a dyndep file, but for those that named it.
use Rattle.std.proofs.Common.{◌≡◌, inl, inr, ℕ, zero, suc, ◌<◌, ◌==◌, ◌||◌, not, Bool, true, false, List, [], ◌∷◌, ◌++◌, Option, Some, None, is_some, if◌then◌else◌, map, length, slice_get, arith, refl, sym, ◌∙◌, ap, subst}
use Rattle.std.specs.List.{list_any}
use Rattle.std.specs.Option.{option_and_then}
use Rattle.std.proofs.lemmas.Bool.{cases_Bool, or_left, or_right, eq-eqb}
use Rattle.std.proofs.lemmas.List.{length-append}
use Rattle.std.proofs.lemmas.Option.{slice_get-get_or}
use Rattle.model.specs.declared.graph.Edge.{Edge}
use Rattle.model.specs.declared.record.Record.{Record}
use Rattle.model.specs.declared.record.DepsRecord.{DepsRecord}
use Rattle.model.specs.World.{View}
use Rattle.model.specs.Graph.{has, has_number, edge_at, maker, later_number, outputs, inputs, regular_inputs}
use Rattle.model.specs.Judgement.{OutputFacts, InputFacts}
use Rattle.model.specs.OutOfDate.{deps_start}
use Rattle.model.specs.Reading.{IsAlias, Counts, IsRead, Itself, Through}
use Rattle.model.specs.Records.{Made, in_force, deps_in_force}
use Rattle.theory.proofs.Lists.{has_number-left, has_number-right}
use Rattle.theory.proofs.Growth.{HasGrown, grown_by, maker_still, once_back}
use Rattle.theory.proofs.Makers.{maker_has, maker_is}
use Rattle.paths.specs.Lists.{line_at, line_regular_inputs}
use Rattle.paths.specs.Numbers.{HaveOnePlace}
use Rattle.paths.specs.Told.{text_at}
use Rattle.graph.specs.declared.graph.Graph.{Graph}
use Rattle.graph.specs.Alias.{if_phony, is_any, has_inputs, counts_if_present}
use Rattle.graph.specs.Links.{links_of, needs_at}
use Rattle.graph.specs.Told.{declared_by}
use Rattle.log_text.specs.declared.deps.Deps.{Deps}
use Rattle.log_text.specs.declared.done.Done.{Done}
use Rattle.log_text.specs.Kept.{Saying, Telling, Table, AreTold, joined, tellings}
use Rattle.log_text.specs.BuildLog.{Keeps, made_of, makings, saying}
use Rattle.log_text.specs.DepsLog.{Keeps as KeepsDeps, AreSaidBy, tolds}
use Rattle.plan.specs.declared.plan.Plan.{Plan}
use Rattle.records.specs.declared.records.Records.{Records}
use Rattle.judge.specs.declared.answers.Answer.{Answer}
use Rattle.judge.specs.declared.answers.Answers.{Answers}
use Rattle.judge.specs.declared.input_facts.Inputs.{Inputs}
use Rattle.judge.specs.declared.looks.Look.{Look}
use Rattle.judge.specs.declared.output_facts.Outputs.{Outputs}
use Rattle.judge.specs.Seen.{look_at}
use Rattle.judge.specs.Summaries.{AreOutputs, AreInputs}
use Rattle.judge.specs.Facts.{flag_at, AreKnownOf, AreAsked, one_input, seen_stamp, seen_inputs, IsReadAmong}
use Rattle.judge.specs.Answers.{seen_output, AreReadSeen, AreMadeSeen, IsReasonWith, IsStaleWith, IsAnswerSeen, AreAnswers, KnowsOthers, HasGrownBy, StandBoth, AreKnownStill}
use Rattle.judge.specs.UnderWay.{judged_due}
use Rattle.judge.specs.Dues.{due_at, due_by, is_made_due, reads_due}
use Rattle.judge.specs.Ruled.{is_absent_seen, is_due_seen, WasSourceAsked, IsAnyAbsentAsked, IsAnyDueAsked, IsAliasRuled, IsRuled}
use Rattle.judge.proofs.Answered.{no_answer}
use Rattle.judge.proofs.Known.{text_in_front, known_of}
use Rattle.judge.proofs.RuledStays.{any_stays, any_where}

-- ---- what two lists of records that are known by the same log have in force

-- what is kept of records that tell something is what these tell
told_same : {T X : Type 0} (f : T → X) (texts : List (List ℕ)) (ks : List (List ℕ × T)) (ts : List (Telling T)) → AreTold texts ks ts → map (λ t. f t.1) ts ≡ map (λ k. f k.1) ks
told_same f texts [] [] are = refl
told_same f texts [] (t ∷ ts) are = absurd are
told_same f texts (k ∷ ks) [] are = absurd are
told_same {X = X} f texts (k ∷ ks) (t ∷ ts) are = ap (λ x. f x ∷ map (λ t. f t.1) ts) (sym are.1) ∙ ap (λ (l : List X). f k.1 ∷ l) (told_same f texts ks ts are.2)

makings_same : (one two : List Record) (log : Table Done) → Keeps one log → Keeps two log → makings one ≡ makings two
makings_same one two log first second =
    told_same made_of log.outputs log.told (tellings (map saying one)) first.told ∙ sym (told_same made_of log.outputs log.told (tellings (map saying two)) second.told)

abbrev starts : List DepsRecord → List ℕ
starts ds = map (λ (r : DepsRecord). r.start) ds

starts_said : (texts : List (List ℕ)) (all : List (Saying Deps)) (ds : List DepsRecord) → AreSaidBy texts all ds → starts ds ≡ map (λ t. t.1.start) (tellings all)
starts_said texts [] [] said = refl
starts_said texts [] (r ∷ ds) said = absurd said
starts_said texts (s ∷ all) [] said = absurd said
starts_said texts ((outputs, None) ∷ all) (r ∷ ds) said = absurd said.0
starts_said texts ((outputs, Some deps) ∷ all) (r ∷ ds) said = ap (λ (n : ℕ). n ∷ starts ds) (sym said.0.1) ∙ ap (λ (l : List ℕ). deps.start ∷ l) (starts_said texts all ds said.1)

starts_same : (one two : List DepsRecord) (log : Table Deps) → KeepsDeps one log → KeepsDeps two log → starts one ≡ starts two
starts_same one two log first second =
    (starts_said log.outputs first.all one first.said ∙ told_same (λ (d : Deps). d.start) log.outputs log.told (tellings first.all) first.table.told)
    ∙ sym (starts_said log.outputs second.all two second.said ∙ told_same (λ (d : Deps). d.start) log.outputs log.told (tellings second.all) second.table.told)

start_there : (ds : List DepsRecord) (n : ℕ) → deps_start (slice_get (tolds ds) n) ≡ slice_get (starts ds) n
start_there [] zero = refl
start_there [] (suc n) = refl
start_there (r ∷ ds) zero = refl
start_there (r ∷ ds) (suc n) = start_there ds n

start_at : (ds : List DepsRecord) (o : Option ℕ) → deps_start (option_and_then (slice_get (tolds ds)) o) ≡ option_and_then (slice_get (starts ds)) o
start_at ds None = refl
start_at ds (Some n) = start_there ds n

-- the text of a path in front
text_of : (paths : List (List ℕ)) (numbers : List ℕ) (rs : List Record) (ds : List DepsRecord) (records : Records) (of : AreKnownOf paths numbers rs ds records) (p : ℕ) → has_number numbers p ≡ true → text_at of.first p ≡ text_at paths p
text_of paths numbers rs ds records of p listed = sym (ap (λ (l : List (List ℕ)). text_at l p) of.grown ∙ text_in_front of.first of.more p (of.within p listed))

module _ (paths : List (List ℕ)) (numbers : List ℕ) (records : Records) (rs ss : List Record) (ds es : List DepsRecord) (one : AreKnownOf paths numbers rs ds records) (two : AreKnownOf paths numbers ss es records) (p : ℕ) (listed : has_number numbers p ≡ true) where
  made_alike : in_force rs (text_at paths p) ≡ in_force ss (text_at paths p)
  made_alike =
      sym (one.known.made p (one.within p listed) ∙ ap (in_force rs) (text_of paths numbers rs ds records one p listed))
      ∙ (ap (λ (l : List Made). option_and_then (slice_get l) (joined (slice_get records.places.items p))) (makings_same rs ss records.logs.build_log.log one.known.keeps two.known.keeps)
      ∙ (two.known.made p (two.within p listed) ∙ ap (in_force ss) (text_of paths numbers ss es records two p listed)))

  start_alike : deps_start (deps_in_force ds (text_at paths p)) ≡ deps_start (deps_in_force es (text_at paths p))
  start_alike =
      let place = joined (slice_get records.deps_places.items p) in
      sym (ap deps_start (one.told.told p (one.within p listed)) ∙ ap (λ (t : List ℕ). deps_start (deps_in_force ds t)) (text_of paths numbers rs ds records one p listed))
      ∙ (start_at ds place
      ∙ (ap (λ (l : List ℕ). option_and_then (slice_get l) place) (starts_same ds es records.logs.deps_log.log one.told.keeps two.told.keeps)
      ∙ (sym (start_at es place)
      ∙ (ap deps_start (two.told.told p (two.within p listed)) ∙ ap (λ (t : List ℕ). deps_start (deps_in_force es t)) (text_of paths numbers ss es records two p listed)))))

-- ---- lists of numbers

-- paths that have one place each have one list of numbers
same_numbers : (paths : List (List ℕ)) → HaveOnePlace paths → (xs ys : List ℕ) → ((p : ℕ) → has_number xs p ≡ true → p < length paths) → ((p : ℕ) → has_number ys p ≡ true → p < length paths)
    → map (text_at paths) xs ≡ map (text_at paths) ys → xs ≡ ys
same_numbers paths apart [] [] low high same = refl
same_numbers paths apart [] (y ∷ ys) low high same = absurd cc
same_numbers paths apart (x ∷ xs) [] low high same = absurd cc
same_numbers paths apart (x ∷ xs) (y ∷ ys) low high same =
    let head : text_at paths x ≡ text_at paths y = cc in
    let rest : map (text_at paths) xs ≡ map (text_at paths) ys = cc in
    let number : x ≡ y = apart x y (text_at paths x) (slice_get-get_or paths x [] (low x (or_left (x == x) (has_number xs x) (eq-eqb x x refl))))
    (slice_get-get_or paths y [] (high y (or_left (y == y) (has_number ys y) (eq-eqb y y refl))) ∙ ap (λ (t : List ℕ). Some t) (sym {A = List ℕ} head)) in
    ap (λ (n : ℕ). n ∷ xs) number
    ∙ ap (λ (l : List ℕ). y ∷ l) (same_numbers paths apart xs ys (λ p h. low p (or_right (x == p) (has_number xs p) h)) (λ p h. high p (or_right (y == p) (has_number ys p) h)) rest)

any_same : (f g : ℕ → List ℕ) (xs ys : List ℕ) → map f xs ≡ map g ys → is_any xs ≡ is_any ys
any_same f g [] [] same = refl
any_same f g [] (y ∷ ys) same = absurd cc
any_same f g (x ∷ xs) [] same = absurd cc
any_same f g (x ∷ xs) (y ∷ ys) same = refl

-- ---- the graph with what the file says

none_some : (file : List ℕ) → None ≡ Some file → ⊥
none_some file is = cc

none_job : (j : ℕ) → None ≡ Some j → ⊥
none_job j is = cc

same_job : (d e : ℕ) → Some (suc d) ≡ Some (suc e) → d ≡ e
same_job d e is = cc

module _ (edges : List ℕ) (old new : Graph) (grown : HasGrownBy edges old new) (both : StandBoth old new) where
  abbrev few : List Edge
  few = (declared_by old).edges

  abbrev many : List Edge
  many = (declared_by new).edges

  grow : HasGrown few many
  grow = grown_by grown.file grown.additions few many grown.grown

  -- another edge is what it was
  pub edge_same : (e : ℕ) → has_number edges e ≡ false → edge_at many (suc e) ≡ edge_at few (suc e)
  edge_same e other = grown.grown.others (suc e) (grown.others e other)

  -- and so is a phony one
  alias_same : (j : ℕ) → (edge_at few j).phony ≡ true → edge_at many j ≡ edge_at few j
  alias_same j phony = grown.grown.others j (λ named. none_some grown.file (sym (grown.aliases j phony) ∙ named))

  -- ---- what is read

  alias_then : (q : List ℕ) (j : ℕ) → IsAlias few q j → IsAlias many q j
  alias_then q j is = record { made = maker_still few many grow grown.once q j is.made; phony = grow.phony j ∙ is.phony }

  alias_back : (q : List ℕ) (j : ℕ) → IsAlias many q j → IsAlias few q j
  alias_back q j is =
      let phony : (edge_at few j).phony ≡ true = sym (grow.phony j) ∙ is.phony in
      record {
        made = maker_is few q j (once_back few many grow grown.once) (subst (λ (edge : Edge). has (outputs edge) q ≡ true) (alias_same j phony) (maker_has many q j is.made));
        phony = phony;
      }

  counts_then : (view : View) (p : List ℕ) → Counts few view p → Counts many view p
  counts_then view p (inl none) = inl (λ j is. none j (alias_back p j is))
  counts_then view p (inr (inl there)) = inr (inl there)
  counts_then view p (inr (inr (j, is, empty))) = inr (inr (j, alias_then p j is, ap inputs (alias_same j is.phony) ∙ empty))

  counts_back : (view : View) (p : List ℕ) → Counts many view p → Counts few view p
  counts_back view p (inl none) = inl (λ j is. none j (alias_then p j is))
  counts_back view p (inr (inl there)) = inr (inl there)
  counts_back view p (inr (inr (j, is, empty))) =
      let was = alias_back p j is in
      inr (inr (j, was, sym (ap inputs (alias_same j was.phony)) ∙ empty))

  reads_then : (view : View) (i : ℕ) (p : List ℕ) → edge_at many i ≡ edge_at few i → IsRead few view i p → IsRead many view i p
  reads_then view i p same (Itself _ _ input counts) = Itself i p (subst (λ (edge : Edge). has (regular_inputs edge) p ≡ true) (sym same) input) (counts_then view p counts)
  reads_then view i p same (Through _ j q _ input is below) =
      Through i j q p (subst (λ (edge : Edge). has (regular_inputs edge) q ≡ true) (sym same) input) (alias_then q j is) (reads_then view j p (alias_same j is.phony) below)

  reads_back : (view : View) (i : ℕ) (p : List ℕ) → edge_at many i ≡ edge_at few i → IsRead many view i p → IsRead few view i p
  reads_back view i p same (Itself _ _ input counts) = Itself i p (subst (λ (edge : Edge). has (regular_inputs edge) p ≡ true) same input) (counts_back view p counts)
  reads_back view i p same (Through _ j q _ input is below) =
      let was = alias_back q j is in
      Through i j q p (subst (λ (edge : Edge). has (regular_inputs edge) q ≡ true) same input) was (reads_back view j p (alias_same j was.phony) below)

  -- ---- numbers

  text_same : (p : ℕ) → p < length old.manifest.paths → text_at new.manifest.paths p ≡ text_at old.manifest.paths p
  text_same p lt = ap (λ (l : List (List ℕ)). text_at l p) grown.paths.grows ∙ text_in_front old.manifest.paths grown.paths.added p lt

  longer : (p : ℕ) → p < length old.manifest.paths → p < length new.manifest.paths
  longer p lt =
      let is = ap length grown.paths.grows in
      let sum = length-append old.manifest.paths grown.paths.added in
      omega (arith, lt, is, sum)

  texts_same : (ns : List ℕ) → ((p : ℕ) → has_number ns p ≡ true → p < length old.manifest.paths) → map (text_at new.manifest.paths) ns ≡ map (text_at old.manifest.paths) ns
  texts_same [] within = refl
  texts_same (n ∷ ns) within =
      ap (λ (t : List ℕ). t ∷ map (text_at new.manifest.paths) ns) (text_same n (within n (or_left (n == n) (has_number ns n) (eq-eqb n n refl))))
      ∙ ap (λ (l : List (List ℕ)). text_at old.manifest.paths n ∷ l) (texts_same ns (λ p h. within p (or_right (n == p) (has_number ns p) h)))

  pub made_same : (e : ℕ) → has_number edges e ≡ false → (links_of new).outputs e ≡ (links_of old).outputs e
  made_same e other =
      same_numbers new.manifest.paths new.apart ((links_of new).outputs e) ((links_of old).outputs e) (both.after.outputs_within e) (λ p h. longer p (both.before.outputs_within e p h))
      (both.after.outputs_are e ∙ (ap outputs (edge_same e other) ∙ (sym (both.before.outputs_are e) ∙ sym (texts_same ((links_of old).outputs e) (both.before.outputs_within e)))))

  -- ---- which paths count where they are present

  module _ (p : ℕ) (lt : p < length old.manifest.paths) where
    abbrev path : List ℕ
    path = text_at old.manifest.paths p

    made_then : (n : Option ℕ) → (links_of new).maker p ≡ n → maker many path ≡ later_number n
    made_then n is = ap (maker many) (sym (text_same p lt)) ∙ (both.after.makers p (longer p lt) ∙ ap later_number is)

    made_before : (m : Option ℕ) → (links_of old).maker p ≡ m → maker few path ≡ later_number m
    made_before m is = both.before.makers p lt ∙ ap later_number is

    -- a command makes it that was a source
    by_command : (d : ℕ) → (links_of old).maker p ≡ None → (links_of new).maker p ≡ Some d → (links_of new).phony d ≡ false
    by_command d was is = elim (cases_Bool ((links_of new).phony d)) [
      | inl phony ↦
          let alias = alias_back path (suc d) (record { made = made_then (Some d) is; phony = sym (both.after.phony_is d) ∙ phony }) in
          absurd (none_job (suc d) (sym (made_before None was) ∙ alias.made))
      | inr command ↦ command
    ]

    by_source : (n : Option ℕ) → (links_of old).maker p ≡ None → (links_of new).maker p ≡ n → has_inputs (links_of new) (if_phony (links_of new) n) ≡ false
    by_source None was is = refl
    by_source (Some d) was is = ap (λ (b : Bool). has_inputs (links_of new) (if b then Some d else None)) (by_command d was is)

    -- the same edge makes it that made it
    by_same : (e : ℕ) → (links_of old).maker p ≡ Some e → (b : Bool) → (links_of old).phony e ≡ b → has_inputs (links_of new) (if_phony (links_of new) (Some e)) ≡ has_inputs (links_of old) (if_phony (links_of old) (Some e))
    by_same e was b is =
        let phony : (links_of new).phony e ≡ b = both.after.phony_is e ∙ (grow.phony (suc e) ∙ (sym (both.before.phony_is e) ∙ is)) in
        ap (λ (b : Bool). has_inputs (links_of new) (if b then Some e else None)) phony ∙ (by_phony b is ∙ sym (ap (λ (b : Bool). has_inputs (links_of old) (if b then Some e else None)) is))
      where
        by_phony : (b : Bool) → (links_of old).phony e ≡ b → has_inputs (links_of new) (if b then Some e else None) ≡ has_inputs (links_of old) (if b then Some e else None)
        by_phony true phony =
            any_same (text_at new.manifest.paths) (text_at old.manifest.paths) ((links_of new).inputs e) ((links_of old).inputs e)
            (both.after.inputs_are e ∙ (ap inputs (alias_same (suc e) (sym (both.before.phony_is e) ∙ phony)) ∙ sym (both.before.inputs_are e)))
        by_phony false phony = refl

    by_maker : (m n : Option ℕ) → (links_of old).maker p ≡ m → (links_of new).maker p ≡ n → has_inputs (links_of new) (if_phony (links_of new) n) ≡ has_inputs (links_of old) (if_phony (links_of old) m)
    by_maker None n was is = by_source n was is
    by_maker (Some e) None was is = absurd (none_job (suc e) (sym (made_then None is) ∙ maker_still few many grow grown.once path (suc e) (made_before (Some e) was)))
    by_maker (Some e) (Some d) was is =
        let same : d ≡ e = same_job d e (sym (made_then (Some d) is) ∙ maker_still few many grow grown.once path (suc e) (made_before (Some e) was)) in
        ap (λ (n : ℕ). has_inputs (links_of new) (if_phony (links_of new) (Some n))) same ∙ by_same e was ((links_of old).phony e) refl

    counts_same : counts_if_present (links_of new) p ≡ counts_if_present (links_of old) p
    counts_same = by_maker ((links_of old).maker p) ((links_of new).maker p) refl refl

  inputs_same : (always : Bool) (seen : List Look) (ns : List ℕ) → ((p : ℕ) → has_number ns p ≡ true → p < length old.manifest.paths) → seen_inputs new [] always seen ns ≡ seen_inputs old [] always seen ns
  inputs_same always seen [] within = refl
  inputs_same always seen (n ∷ ns) within =
      let stamp = seen_stamp (look_at seen n) in
      ap (λ (b : Bool). (if always || (is_some stamp || not b) then record { stamp = stamp; changed = flag_at [] n } ∷ [] else []) ++ seen_inputs new [] always seen ns)
      (counts_same n (within n (or_left (n == n) (has_number ns n) (eq-eqb n n refl))))
      ∙ ap (λ (l : List InputFacts). one_input old [] always n stamp ++ l) (inputs_same always seen ns (λ p h. within p (or_right (n == p) (has_number ns p) h)))

  -- ---- one command

  read_again : (e : ℕ) → has_number edges e ≡ false → (numbers : List ℕ) → ((p : ℕ) → has_number numbers p ≡ true → p < length old.manifest.paths) → IsReadAmong old e numbers → IsReadAmong new e numbers
  read_again e other numbers within read view p = (
    (λ is.
        let at = (read view p).0 (reads_back view (suc e) p (edge_same e other) is) in
        let low = within at.path at.listed in
        record {
          path = at.path;
          listed = at.listed;
          text = text_same at.path low ∙ at.text;
          counts = elim at.counts [
            | inl always ↦ inl (counts_same at.path low ∙ always)
            | inr there ↦ inr there
          ];
        }),
    (λ at.
        let low = within at.path at.listed in
        reads_then view (suc e) p (edge_same e other) ((read view p).1 (record {
          path = at.path;
          listed = at.listed;
          text = sym (text_same at.path low) ∙ at.text;
          counts = elim at.counts [
            | inl always ↦ inl (sym (counts_same at.path low) ∙ always)
            | inr there ↦ inr there
          ];
        }))),
  )

  module _ (was is : Records) (still : AreKnownStill old new was is) (seen : List Look) (e : ℕ) (other : has_number edges e ≡ false) where
    abbrev made_by : List ℕ
    made_by = (links_of old).outputs e

    -- what is known now of an output is what was known of it
    outputs_same : (rs : List Record) (ds : List DepsRecord) → AreKnownOf new.manifest.paths made_by rs ds is → (ns : List ℕ) → ((p : ℕ) → has_number ns p ≡ true → has_number made_by p ≡ true)
        → map (seen_output old.manifest.paths still.rs still.ds seen) ns ≡ map (seen_output new.manifest.paths rs ds seen) ns
    outputs_same rs ds of [] among = refl
    outputs_same rs ds of (n ∷ ns) among =
        let here = among n (or_left (n == n) (has_number ns n) (eq-eqb n n refl)) in
        let earlier = known_of new still.rs still.ds is (still.stay still.rs still.ds still.known) e made_by (sym (made_same e other)) in
        let text : text_at old.manifest.paths n ≡ text_at new.manifest.paths n = sym (text_same n (both.before.outputs_within e n here)) in
        let stamp = seen_stamp (look_at seen n) in
        let made : in_force still.rs (text_at old.manifest.paths n) ≡ in_force rs (text_at new.manifest.paths n) =
        ap (in_force still.rs) text ∙ made_alike new.manifest.paths made_by is still.rs rs still.ds ds earlier of n here in
        let start : deps_start (deps_in_force still.ds (text_at old.manifest.paths n)) ≡ deps_start (deps_in_force ds (text_at new.manifest.paths n)) =
        ap (λ (t : List ℕ). deps_start (deps_in_force still.ds t)) text ∙ start_alike new.manifest.paths made_by is still.rs rs still.ds ds earlier of n here in
        ap (λ (m : Option Made). record { stamp = stamp; made = m; deps_start = deps_start (deps_in_force still.ds (text_at old.manifest.paths n)) } ∷ map (seen_output old.manifest.paths still.rs still.ds seen) ns) made
        ∙ (ap (λ (s : Option ℕ). record { stamp = stamp; made = in_force rs (text_at new.manifest.paths n); deps_start = s } ∷ map (seen_output old.manifest.paths still.rs still.ds seen) ns) start
        ∙ ap (λ (l : List OutputFacts). seen_output new.manifest.paths rs ds seen n ∷ l) (outputs_same rs ds of ns (λ p h. among p (or_right (n == p) (has_number ns p) h))))

    made_again : {outputs : Outputs} → AreMadeSeen old was (edge_at few (suc e)).act seen made_by outputs → AreMadeSeen new is (edge_at many (suc e)).act seen ((links_of new).outputs e) outputs
    made_again {outputs} made =
        subst (λ (edge : Edge). AreMadeSeen new is edge.act seen ((links_of new).outputs e) outputs) (sym (edge_same e other))
        (subst (λ (ns : List ℕ). AreMadeSeen new is (edge_at few (suc e)).act seen ns outputs) (sym (made_same e other))
        (record {
          asked = made.asked;
          are = λ rs ds of.
              subst (λ (l : List OutputFacts). AreOutputs (edge_at few (suc e)).act l outputs) (outputs_same rs ds of made_by (λ p h. h))
              (made.are still.rs still.ds (known_of old still.rs still.ds was still.known e made_by refl));
        }))

    inputs_again : {inputs : Inputs} → AreReadSeen old [] seen e inputs → AreReadSeen new [] seen e inputs
    inputs_again {inputs} read =
        let recorded : (links_of new).recorded e ≡ (links_of old).recorded e = grown.recorded e other in
        record {
          numbers = read.numbers;
          within = λ p h. longer p (read.within p h);
          read = read_again e other read.numbers read.within read.read;
          asked = read.asked;
          recorded = subst (AreAsked seen) (sym recorded) read.recorded;
          are =
              subst (λ (l : List ℕ). AreInputs (seen_inputs new [] false seen read.numbers ++ seen_inputs new [] true seen l) inputs) (sym recorded)
              (subst (λ (l : List InputFacts). AreInputs (l ++ seen_inputs new [] true seen ((links_of old).recorded e)) inputs) (sym (inputs_same false seen read.numbers read.within))
              (subst (λ (l : List InputFacts). AreInputs (seen_inputs old [] false seen read.numbers ++ l) inputs) (sym (inputs_same true seen ((links_of old).recorded e) (both.before.recorded_within e)))
              read.are));
        }

    answer_again : (answer : Answer) → IsAnswerSeen old was seen e answer → IsAnswerSeen new is seen e answer
    answer_again answer found =
        let by = found.seen in
        record {
          reason = found.reason;
          is = found.is;
          seen = record {
            outputs = by.outputs;
            inputs = by.inputs;
            made = made_again by.made;
            read = inputs_again by.read;
            told = subst (λ (edge : Edge). IsReasonWith edge answer.depfile by.outputs by.inputs found.reason) (sym (edge_same e other)) by.told;
            stale = subst (λ (edge : Edge). IsStaleWith edge answer.depfile by.outputs found.reason) (sym (edge_same e other)) by.stale;
          };
        }

  -- a load brings no line
  pub count_same : length new.manifest.lines ≡ length old.manifest.lines
  count_same = sym both.after.fits ∙ (grown.grown.as_many ∙ both.before.fits)

  -- ---- the rule of one edge

  later_back : (m : ℕ) (n : Option ℕ) → later_number n ≡ Some (suc m) → n ≡ Some m
  later_back m None is = absurd (none_job (suc m) is)
  later_back m (Some d) is = ap (λ (k : ℕ). Some k) (same_job d m is)

  -- what made a path makes it still
  pub maker_kept : (p m : ℕ) → p < length old.manifest.paths → (links_of old).maker p ≡ Some m → (links_of new).maker p ≡ Some m
  maker_kept p m lt is =
      later_back m ((links_of new).maker p) (sym (made_then p lt ((links_of new).maker p) refl) ∙ maker_still few many grow grown.once (text_at old.manifest.paths p) (suc m) (made_before p lt (Some m) is))

  module _ (e : ℕ) (other : has_number edges e ≡ false) where
    regular_same : (links_of new).regular e ≡ (links_of old).regular e
    regular_same =
        same_numbers new.manifest.paths new.apart ((links_of new).regular e) ((links_of old).regular e) (both.after.regular_within e) (λ p h. longer p (both.before.regular_within e p h))
        (both.after.regular_are e ∙ (ap regular_inputs (edge_same e other) ∙ (sym (both.before.regular_are e) ∙ sym (texts_same ((links_of old).regular e) (both.before.regular_within e)))))

    pub all_same : (links_of new).inputs e ≡ (links_of old).inputs e
    all_same =
        same_numbers new.manifest.paths new.apart ((links_of new).inputs e) ((links_of old).inputs e) (both.after.inputs_within e) (λ p h. longer p (both.before.inputs_within e p h))
        (both.after.inputs_are e ∙ (ap inputs (edge_same e other) ∙ (sym (both.before.inputs_are e) ∙ sym (texts_same ((links_of old).inputs e) (both.before.inputs_within e)))))

    pub phony_same : (links_of new).phony e ≡ (links_of old).phony e
    phony_same = both.after.phony_is e ∙ (grow.phony (suc e) ∙ sym (both.before.phony_is e))

    -- no source that it needs has got a maker
    module _ (untouched : (p : ℕ) → has_number (needs_at (links_of old) e) p ≡ true → (links_of old).maker p ≡ None → (links_of new).maker p ≡ None) (due : List Bool) where
      regular_needed : (p : ℕ) → has_number ((links_of old).regular e) p ≡ true → has_number (needs_at (links_of old) e) p ≡ true
      regular_needed p listed =
          has_number-left ((links_of old).inputs e) ((links_of old).recorded e) p
          (has_number-left (line_regular_inputs (line_at old.manifest.lines e)) (line_at old.manifest.lines e).order_only_inputs p listed)

      maker_same : (p : ℕ) → has_number (needs_at (links_of old) e) p ≡ true → p < length old.manifest.paths → (links_of new).maker p ≡ (links_of old).maker p
      maker_same p needed lt = by_old ((links_of old).maker p) refl
        where
          by_old : (m : Option ℕ) → (links_of old).maker p ≡ m → (links_of new).maker p ≡ (links_of old).maker p
          by_old None is = untouched p needed is ∙ sym is
          by_old (Some m) is = maker_kept p m lt is ∙ sym is

      made_flag : (source : Bool) (p : ℕ) → has_number (needs_at (links_of old) e) p ≡ true → p < length old.manifest.paths → due_by due source ((links_of new).maker p) ≡ due_by due source ((links_of old).maker p)
      made_flag source p needed lt = ap (due_by due source) (maker_same p needed lt)

      reads_again : reads_due (links_of new) due e ≡ reads_due (links_of old) due e
      reads_again =
          ap (λ (l : List ℕ). list_any (is_made_due (links_of new) due) l || list_any (is_made_due (links_of new) due) ((links_of new).recorded e)) regular_same
          ∙ (ap (λ (l : List ℕ). list_any (is_made_due (links_of new) due) ((links_of old).regular e) || list_any (is_made_due (links_of new) due) l) (grown.recorded e other)
          ∙ (ap (λ (b : Bool). b || list_any (is_made_due (links_of new) due) ((links_of old).recorded e))
          (any_where (is_made_due (links_of new) due) (is_made_due (links_of old) due) ((links_of old).regular e) (λ p listed. made_flag false p (regular_needed p listed) (both.before.regular_within e p listed)))
          ∙ ap (λ (b : Bool). list_any (is_made_due (links_of old) due) ((links_of old).regular e) || b)
          (any_where (is_made_due (links_of new) due) (is_made_due (links_of old) due) ((links_of old).recorded e)
          (λ p listed. made_flag false p (has_number-right ((links_of old).inputs e) ((links_of old).recorded e) p listed) (both.before.recorded_within e p listed)))))

      alias_again : (seen : List Look) (so : Bool) → IsAliasRuled (links_of old) seen due e so → IsAliasRuled (links_of new) seen due e so
      alias_again seen so ruled = record {
        of_nothing = λ empty.
            subst (λ (l : List ℕ). IsAnyAbsentAsked seen l so) (sym (made_same e other)) (ruled.of_nothing (sym (ap (λ (l : List ℕ). length l == 0) all_same) ∙ empty));
        of_inputs = λ some.
            subst (λ (l : List ℕ). IsAnyDueAsked (links_of new) seen due l so) (sym regular_same)
            (any_stays (WasSourceAsked (links_of old) seen) (WasSourceAsked (links_of new) seen) (is_due_seen (links_of old) seen due) (is_due_seen (links_of new) seen due) ((links_of old).regular e)
            (λ p listed asked.
            let lt = both.before.regular_within e p listed in
            let needed = regular_needed p listed in
            ((λ source. asked (sym (maker_same p needed lt) ∙ source)), made_flag (is_absent_seen seen p) p needed lt)) so (ruled.of_inputs (sym (ap (λ (l : List ℕ). length l == 0) all_same) ∙ some)));
      }

      -- of edges that named the file none is phony, and the others have what they had
      pub ruled_again : (was is : Records) → AreKnownStill old new was is → (plan next : Plan) → judged_due new next e ≡ judged_due old plan e → (seen : List Look) (depfile : Bool) → IsRuled old was plan seen due depfile e
          → IsRuled new is next seen due depfile e
      ruled_again was is still plan next judged seen depfile ruled = record {
        judged = λ d told. ruled.judged d (sym judged ∙ told);
        alias = λ none phony. alias_again seen (due_at due e) (ruled.alias (sym judged ∙ none) (sym phony_same ∙ phony));
        command = λ none plain.
            let command = ruled.command (sym judged ∙ none) (sym phony_same ∙ plain) in
            record {
              reads = λ so. command.reads (sym reads_again ∙ so);
              found = λ so. answer_again was is still seen e other (record { depfile = depfile; due = due_at due e }) (command.found (sym reads_again ∙ so));
            };
      }

  pub answers_again : (was is : Records) → AreKnownStill old new was is → (seen : List Look) (answers left : Answers) → KnowsOthers edges answers left → AreAnswers old was seen answers → AreAnswers new is seen left
  answers_again was is still seen answers left others right e answer at = elim (cases_Bool (has_number edges e)) [
    | inl there ↦ absurd (no_answer answer (sym (others.gone e there) ∙ at))
    | inr other ↦ answer_again was is still seen e other answer (right e answer (sym (others.others e other) ∙ at))
  ]
