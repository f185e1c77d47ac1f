-- Each output of an edge that was judged clean is explained: by the view of its own record.
use Rattle.std.proofs.Common.{◌≡◌, ◌≢◌, inl, inr, ℕ, ◌==◌, ◌&&◌, cond, is_some, Bool, true, false, List, [], ◌∷◌, ◌++◌, Option, Some, None, bytes_eq, refl, sym, ◌∙◌, ap, subst, arith}
use Rattle.std.specs.List.{list_all, AllByRecursion}
use Rattle.std.proofs.lemmas.Bool.{false≢true, eq-eqb, or_cases, cond-true, cond-false}
use Rattle.model.specs.declared.act.Act.{Act}
use Rattle.model.specs.declared.event.Moment.{Moment}
use Rattle.model.specs.declared.graph.Edge.{Edge}
use Rattle.model.specs.declared.record.DepsRecord.{DepsRecord}
use Rattle.model.specs.World.{View, file_at, content_of, view_of}
use Rattle.model.specs.Graph.{has, edge_at, outputs, IsCommand}
use Rattle.model.specs.Outcome.{Behaviour, ends_well, given, reports_of, listed, read_depfile, left}
use Rattle.model.specs.Records.{Told, Store, Made, in_force, deps_in_force, is_same_act, is_known, recorded_of, recorded_inputs, all_paths_in, ListsOnce}
use Rattle.model.specs.OutOfDate.{IsVerdict}
use Rattle.model.specs.Premises.{StampsGrow}
use Rattle.model.specs.Faithful.{IsFaithfulRecord}
use Rattle.theory.specs.Order.{IsExplained}
use Rattle.theory.proofs.Lists.{all_from_has, same_bytes, has-left, has-right, same_some}
use Rattle.theory.proofs.Stamps.{file_was}
use Rattle.theory.proofs.Verdicts.{IsOfRecord, of_record, read_early}

-- ---- acts

four : (a b c d : Bool) → (a && b && c && d) ≡ true → (a ≡ true) × (b ≡ true) × (c ≡ true) × (d ≡ true)
four true true true true is = (refl, refl, refl, refl)
four false b c d is = cc
four true false c d is = cc
four true true false d is = cc
four true true true false is = cc

-- acts with the same texts are the same
pub same_act : (a b : Act) → is_same_act a b ≡ true → a ≡ b
same_act a b is =
    let parts = four (bytes_eq a.command b.command) (bytes_eq a.depfile b.depfile) (bytes_eq a.response_path b.response_path) (bytes_eq a.response_content b.response_content) is in
    ap (λ (t : List ℕ). record { command = t; depfile = a.depfile; response_path = a.response_path; response_content = a.response_content }) (same_bytes a.command b.command parts.0)
    ∙ (ap (λ (t : List ℕ). record { command = b.command; depfile = t; response_path = a.response_path; response_content = a.response_content }) (same_bytes a.depfile b.depfile parts.1)
    ∙ (ap (λ (t : List ℕ). record { command = b.command; depfile = b.depfile; response_path = t; response_content = a.response_content }) (same_bytes a.response_path b.response_path parts.2)
    ∙ ap (λ (t : List ℕ). record { command = b.command; depfile = b.depfile; response_path = b.response_path; response_content = t }) (same_bytes a.response_content b.response_content parts.3)))

-- an act that names no depfile reports nothing
pub reports_none : (B : Behaviour) (act : Act) (view : View) → act.depfile ≡ [] → reports_of B act view ≡ []
reports_none B act view is = ap (λ (t : List ℕ). listed (elim t [ [] ↦ Some [] | q ∷ qs ↦ read_depfile B.depfile (left (B.outcome act view) act.depfile) ])) is

-- a text is empty or not
pub some_or_none : {X : Type 0} (t : List ℕ) → (t ≡ [] → X) → (t ≢ [] → X) → X
some_or_none [] none some = none refl
some_or_none (c ∷ cs) none some = some (λ is. cc)

-- ---- recorded inputs in use

known : (act : Act) (held : Option Made) (made : Made) (found : Option Told) (deps : Told) → held ≡ Some made → found ≡ Some deps
    → is_same_act made.act act ≡ true → deps.start ≡ made.start → is_known act held found ≡ true
known act None made found deps is there same start = cc
known act (Some m) made None deps is there same start = cc
known act (Some m) made (Some d) deps is there same start =
    let one : made ≡ m = cc in
    let two : deps ≡ d = cc in
    subst (λ (x : Made). (is_same_act x.act act && (d.start == x.start)) ≡ true) one
    (subst (λ (x : Told). (is_same_act made.act act && (x.start == made.start)) ≡ true) two
    (both (is_same_act made.act act) (deps.start == made.start) same (eq-eqb deps.start made.start start)))
  where
    both : (a b : Bool) → a ≡ true → b ≡ true → (a && b) ≡ true
    both true b x y = y
    both false b x y = absurd (false≢true x)

all_of : (test : List ℕ → Bool) (xs : List (List ℕ)) → AllByRecursion (λ x. test x ≡ true) xs → list_all test xs ≡ true
all_of test [] all = refl
all_of test (x ∷ xs) all = ap (λ (b : Bool). b && list_all test xs) all.0 ∙ all_of test xs all.1

among_paths : (deps : List DepsRecord) (outs : List (List ℕ)) (o : List ℕ) (d : Told) (p : List ℕ) → has outs o ≡ true → deps_in_force deps o ≡ Some d → has d.paths p ≡ true → has (all_paths_in deps outs) p ≡ true
among_paths deps [] o d p h is there = absurd (false≢true h)
among_paths deps (x ∷ outs) o d p h is there = elim (or_cases (bytes_eq x o) (has outs o) h) [
  | inl here ↦ has-left (paths_of_record (deps_in_force deps x)) (all_paths_in deps outs) p
      (in_record (deps_in_force deps x) (ap (λ (y : List ℕ). deps_in_force deps y) (same_bytes x o here) ∙ is))
  | inr later ↦ has-right (paths_of_record (deps_in_force deps x)) (all_paths_in deps outs) p (among_paths deps outs o d p later is there)
]
  where
    paths_of_record : Option Told → List (List ℕ)
    paths_of_record None = []
    paths_of_record (Some r) = r.paths

    in_record : (found : Option Told) → found ≡ Some d → has (paths_of_record found) p ≡ true
    in_record None is = cc
    in_record (Some r) is = let same : d ≡ r = cc in subst (λ (y : Told). has y.paths p ≡ true) same there

-- what an edge with known outputs recorded is in use
recorded_known : (store : Store) (e : Edge) (p : List ℕ) → list_all (λ o. is_known e.act (in_force store.records o) (deps_in_force store.deps o)) (outputs e) ≡ true → has (all_paths_in store.deps (outputs e)) p ≡ true
    → has (recorded_of store e) p ≡ true
recorded_known store e p is there =
    ap (λ (ps : List (List ℕ)). has ps p) (cond-true (list_all (λ o. is_known e.act (in_force store.records o) (deps_in_force store.deps o)) (outputs e)) (all_paths_in store.deps (outputs e)) [] is) ∙ there

-- the recorded inputs in use of a command that waits for no dyndep file
pub recorded_is : (store : Store) (edges : List Edge) (i : ℕ) → IsCommand edges i → (edge_at edges i).dyndep ≡ None → recorded_inputs store edges i ≡ recorded_of store (edge_at edges i)
recorded_is store edges i command loaded =
    cond-false (edge_at edges i).phony [] (cond (is_some (edge_at edges i).dyndep) [] (recorded_of store (edge_at edges i))) command
    ∙ cond-false (is_some (edge_at edges i).dyndep) [] (recorded_of store (edge_at edges i)) (ap (λ (d : Option (List ℕ)). is_some d) loaded)

-- ---- an edge that was judged clean

module _ (B : Behaviour) (edges : List Edge) (store : Store) (old new more : List Moment) (grows : new ≡ old ++ more) (stamps : StampsGrow old new)
    (faithful : (o : List ℕ) (made : Made) → in_force store.records o ≡ Some made → IsFaithfulRecord B store old o made)
    (ran : List ℕ) (i : ℕ) (command : IsCommand edges i) (loaded : (edge_at edges i).dyndep ≡ None) (verdict : IsVerdict edges store ran old new i false)
    (Reads : ℕ → List ℕ → Type 0) (as_recorded : (p : List ℕ) → has (recorded_inputs store edges i) p ≡ true → Reads i p) where
  of_output : (o : List ℕ) → has (outputs (edge_at edges i)) o ≡ true → IsOfRecord edges store old i o
  of_output o is_output = of_record edges store ran old new i verdict.read (sym verdict.verdict) o is_output

  -- a path that counts holds what the view of a record holds
  counted_same : (o p : List ℕ) (made : Made) (record_is : IsFaithfulRecord B store old o made) → has (outputs (edge_at edges i)) o ≡ true → in_force store.records o ≡ Some made → has verdict.read p ≡ true
      → record_is.seen p ≡ view_of new p
  counted_same o p made faith is_output force is_read =
      let early = read_early edges store ran old new i verdict.read (sym verdict.verdict) o p made is_output force is_read in
      let was : file_at old p ≡ Some early.file = file_was old new more grows stamps p early.file early.there (omega (arith, early.early, faith.clock)) in
      faith.older p early.file was early.early ∙ sym (ap content_of early.there)

  -- what the command reports in the view of a record is a recorded input in use
  report_recorded : (o p : List ℕ) (made : Made) (faith : IsFaithfulRecord B store old o made) → has (outputs (edge_at edges i)) o ≡ true → in_force store.records o ≡ Some made → made.act ≡ (edge_at edges i).act
      → has (reports_of B (edge_at edges i).act faith.seen) p ≡ true → has (recorded_inputs store edges i) p ≡ true
  report_recorded o p made faith is_output force act reported =
      some_or_none (edge_at edges i).act.depfile
      (λ none. absurd (false≢true (ap (λ (ps : List (List ℕ)). has ps p) (sym (reports_none B (edge_at edges i).act faith.seen none)) ∙ reported)))
      (λ some. in_use some)
    where
      in_use : (edge_at edges i).act.depfile ≢ [] → has (recorded_inputs store edges i) p ≡ true
      in_use some =
          let this = of_output o is_output in
          let deps = this.deps some in
          let same : this.made ≡ made = same_some this.made made (sym this.force ∙ force) in
          let lists : ListsOnce deps.0.paths (reports_of B made.act faith.seen) = faith.reports deps.0 deps.1 (deps.2 ∙ ap (λ (m : Made). m.start) same) in
          ap (λ (ps : List (List ℕ)). has ps p) (recorded_is store edges i command loaded)
          ∙ recorded_known store (edge_at edges i) p
          (all_of (λ x. is_known (edge_at edges i).act (in_force store.records x) (deps_in_force store.deps x)) (outputs (edge_at edges i))
          (all_from_has (λ x. is_known (edge_at edges i).act (in_force store.records x) (deps_in_force store.deps x) ≡ true) (outputs (edge_at edges i)) (λ x is_out. each_known x is_out)))
          (among_paths store.deps (outputs (edge_at edges i)) o deps.0 p is_output deps.1
          (lists.same p ∙ (ap (λ (a : Act). has (reports_of B a faith.seen) p) act ∙ reported)))
        where
          each_known : (x : List ℕ) → has (outputs (edge_at edges i)) x ≡ true → is_known (edge_at edges i).act (in_force store.records x) (deps_in_force store.deps x) ≡ true
          each_known x is_out =
              let that = of_output x is_out in
              let deps = that.deps some in
              known (edge_at edges i).act (in_force store.records x) that.made (deps_in_force store.deps x) deps.0 that.force deps.1 that.act deps.2

  -- where its outputs are as they were, they are explained
  pub explained_clean : (o : List ℕ) → has (outputs (edge_at edges i)) o ≡ true → file_at new o ≡ file_at old o → IsExplained B edges Reads (view_of new) i o
  explained_clean o is_output stays = by_record (of_output o is_output)
    where
      by_record : IsOfRecord edges store old i o → IsExplained B edges Reads (view_of new) i o
      by_record this = by_faith (faithful o this.made this.force)
        where
          act : this.made.act ≡ (edge_at edges i).act
          act = same_act this.made.act (edge_at edges i).act this.act

          by_faith : IsFaithfulRecord B store old o this.made → IsExplained B edges Reads (view_of new) i o
          by_faith faith = record {
            seen = faith.seen;
            well = subst (λ (a : Act). ends_well B a faith.seen ≡ true) act faith.well;
            reading = λ p read. counted_same o p this.made faith is_output this.force ((verdict.counted p).1 (inl read));
            reports = all_from_has (λ p. faith.seen p ≡ view_of new p) (reports_of B (edge_at edges i).act faith.seen)
                (λ p reported. counted_same o p this.made faith is_output this.force ((verdict.counted p).1 (inr (report_recorded o p this.made faith is_output this.force act reported))));
            told = all_from_has (Reads i) (reports_of B (edge_at edges i).act faith.seen)
                (λ p reported. as_recorded p (report_recorded o p this.made faith is_output this.force act reported));
            gives = ap content_of (stays ∙ this.there) ∙ sym (subst (λ (a : Act). given B a faith.seen o ≡ Some this.file.content) act (faith.holds this.file.content (ap content_of this.there)));
          }
