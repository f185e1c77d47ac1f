-- What it says of an edge that it was judged clean.
use Rattle.std.proofs.Common.{◌≡◌, ◌≢◌, ℕ, ◌≤◌, ◌==◌, ◌&&◌, ◌||◌, not, cond, Bool, true, false, List, [], ◌∷◌, map, Option, Some, None, is_some, refl, sym, ap, subst}
use Rattle.std.specs.Prelude.{is_none, find}
use Rattle.std.specs.List.{list_any, AllByRecursion}
use Rattle.std.proofs.lemmas.Bool.{false≢true, true≢false, eqb-true, ltb-false}
use Rattle.model.specs.declared.act.Act.{Act}
use Rattle.model.specs.declared.event.Moment.{Moment}
use Rattle.model.specs.declared.graph.Edge.{Edge}
use Rattle.model.specs.declared.reason.Reason.{Reason}
use Rattle.model.specs.World.{File, file_at, stamp_of}
use Rattle.model.specs.Graph.{has, edge_at, outputs}
use Rattle.model.specs.Records.{Told, Store, Made, in_force, deps_in_force, is_same_act}
use Rattle.model.specs.Judgement.{OutputFacts, InputFacts, Facts, is_later, start_of, has_other_act, is_same_number, is_empty_text, is_unset, holds, all_reasons, reason_of}
use Rattle.model.specs.OutOfDate.{deps_start, output_facts, input_facts, facts_of}
use Rattle.theory.proofs.Lists.{all_has}

-- ---- tests that fail

pub or_none : (a b : Bool) → (a || b) ≡ false → (a ≡ false) × (b ≡ false)
or_none true b is = absurd (true≢false is)
or_none false b is = (refl, is)

pub any_none : {X Y : Type 0} (test : Y → Bool) (f : X → Y) (xs : List X) → list_any test (map f xs) ≡ false → AllByRecursion (λ x. test (f x) ≡ false) xs
any_none test f [] is = tt
any_none test f (x ∷ xs) is =
    let both = or_none (test (f x)) (list_any test (map f xs)) is in
    (both.0, any_none test f xs both.1)

cond_none : {X : Type 0} (t : Bool) (x : X) (rest : Option X) → is_some (cond t (Some x) rest) ≡ false → (t ≡ false) × (is_some rest ≡ false)
cond_none true x rest is = absurd (true≢false is)
cond_none false x rest is = (refl, is)

-- where no reason is found, none holds
pub none_holds : (test : Reason → Bool) (reasons : List Reason) → is_some (find test reasons) ≡ false → AllByRecursion (λ r. test r ≡ false) reasons
none_holds test [] is = tt
none_holds test (r ∷ rs) is =
    let both = cond_none (test r) r (find test rs) is in
    (both.0, none_holds test rs both.1)

-- ---- what a clean verdict says of an output

-- the record in force for an output is of the present act, and its deps record is of its start
pub record IsOfRecord (edges : List Edge) (store : Store) (old : List Moment) (i : ℕ) (o : List ℕ) : Type 0 where
  pub file : File
  pub there : file_at old o ≡ Some file
  pub made : Made
  pub force : in_force store.records o ≡ Some made
  pub act : is_same_act made.act (edge_at edges i).act ≡ true
  pub deps : (edge_at edges i).act.depfile ≢ [] → (deps : Told) × (deps_in_force store.deps o ≡ Some deps) × (deps.start ≡ made.start)

-- a path that is read is there, and no later than the start of the record in force for an output
pub record IsReadEarly (new : List Moment) (start : ℕ) (p : List ℕ) : Type 0 where
  pub file : File
  pub there : file_at new p ≡ Some file
  pub early : file.stamp ≤ start

pub no_none : {X : Type 0} (m : Option X) → is_none m ≡ false → (x : X) × (m ≡ Some x)
no_none None is = absurd (true≢false is)
no_none (Some x) is = (x, refl)

file_there : (f : Option File) → is_none (stamp_of f) ≡ false → (file : File) × (f ≡ Some file)
file_there None is = absurd (true≢false is)
file_there (Some file) is = (file, refl)

not_false : (b : Bool) → not b ≡ false → b ≡ true
not_false true is = refl
not_false false is = absurd (true≢false is)

no_other : (act : Act) (held : Option Made) (made : Made) → held ≡ Some made → has_other_act act held ≡ false → is_same_act made.act act ≡ true
no_other act None made is none = cc
no_other act (Some m) made is none =
    let same : m ≡ made = cc in
    subst (λ (x : Made). is_same_act x.act act ≡ true) same (not_false (is_same_act m.act act) none)

not_later : (f : Option File) (file : File) (held : Option Made) (made : Made) → f ≡ Some file → held ≡ Some made → is_later (stamp_of f) (start_of held) ≡ false → file.stamp ≤ made.start
not_later None file held made there is none = cc
not_later (Some f) file None made there is none = cc
not_later (Some f) file (Some m) made there is none =
    let same : f ≡ file = cc in
    let also : m ≡ made = cc in
    let early : f.stamp ≤ m.start = ltb-false m.start f.stamp none in
    subst (λ (x : File). x.stamp ≤ made.start) same (subst (λ (x : Made). f.stamp ≤ x.start) also early)

of_start : (held : Option Made) (made : Made) (found : Option Told) → held ≡ Some made → not (is_same_number (start_of held) (deps_start found)) ≡ false
    → (deps : Told) × (found ≡ Some deps) × (deps.start ≡ made.start)
of_start None made found is none = cc
of_start (Some m) made None is none = absurd (true≢false none)
of_start (Some m) made (Some deps) is none =
    let same : m ≡ made = cc in
    (deps, refl, sym (subst (λ (x : Made). x.start ≡ deps.start) same (eqb-true m.start deps.start (not_false (m.start == deps.start) none))))

pub some_text : (t : List ℕ) → t ≢ [] → is_empty_text t ≡ false
some_text [] some = absurd (some refl)
some_text (c ∷ cs) some = refl

and_first : (a b : Bool) → a ≡ true → (a && b) ≡ false → b ≡ false
and_first true b is none = none
and_first false b is none = absurd (false≢true is)

module _ (edges : List Edge) (store : Store) (ran : List ℕ) (old new : List Moment) (i : ℕ) (read : List (List ℕ))
    (none : is_some (reason_of (facts_of edges store ran old new i read)) ≡ false) where
  abbrev facts : Facts
  facts = facts_of edges store ran old new i read

  each : AllByRecursion (λ r. holds facts r ≡ false) all_reasons
  each = none_holds (λ reason. holds facts reason) all_reasons none

  of_outputs : (test : OutputFacts → Bool) → list_any test facts.outputs ≡ false → (o : List ℕ) → has (outputs (edge_at edges i)) o ≡ true → test (output_facts store old o) ≡ false
  of_outputs test is o is_output = all_has (λ x. test (output_facts store old x) ≡ false) (outputs (edge_at edges i)) o (any_none test (output_facts store old) (outputs (edge_at edges i)) is) is_output

  of_inputs : (test : InputFacts → Bool) → list_any test facts.inputs ≡ false → (p : List ℕ) → has read p ≡ true → test (input_facts edges ran old new p) ≡ false
  of_inputs test is p is_read = all_has (λ x. test (input_facts edges ran old new x) ≡ false) read p (any_none test (input_facts edges ran old new) read is) is_read

  pub of_record : (o : List ℕ) → has (outputs (edge_at edges i)) o ≡ true → IsOfRecord edges store old i o
  of_record o is_output =
      let there = file_there (file_at old o) (of_outputs (λ x. is_none x.stamp) each.0 o is_output) in
      let made = no_none (in_force store.records o) (of_outputs (λ x. is_none x.made) each.1.0 o is_output) in
      record {
        file = there.0;
        there = there.1;
        made = made.0;
        force = made.1;
        act = no_other (edge_at edges i).act (in_force store.records o) made.0 made.1 (of_outputs (λ x. has_other_act facts.act x.made) each.1.1.0 o is_output);
        deps = λ some. of_start (in_force store.records o) made.0 (deps_in_force store.deps o) made.1
            (of_outputs (λ x. not (is_same_number (start_of x.made) x.deps_start))
            (or_none (list_any (λ x. not (is_same_number (start_of x.made) x.deps_start)) facts.outputs) (is_unset facts.deps && not facts.depfile)
            (and_first (not (is_empty_text facts.act.depfile)) (list_any (λ x. not (is_same_number (start_of x.made) x.deps_start)) facts.outputs || (is_unset facts.deps && not facts.depfile))
            (ap not (some_text (edge_at edges i).act.depfile some)) each.1.1.1.1.1.1.1.0)).0 o is_output);
      }

  pub read_early : (o p : List ℕ) (made : Made) → has (outputs (edge_at edges i)) o ≡ true → in_force store.records o ≡ Some made → has read p ≡ true → IsReadEarly new made.start p
  read_early o p made is_output force is_read =
      let there = file_there (file_at new p) (of_inputs (λ x. is_none x.stamp) each.1.1.1.0 p is_read) in
      record {
        file = there.0;
        there = there.1;
        early = not_later (file_at new p) there.0 (in_force store.records o) made there.1 force
            (of_inputs (λ x. is_later x.stamp (start_of (in_force store.records o)))
            (of_outputs (λ x. list_any (λ y. is_later y.stamp (start_of x.made)) facts.inputs) each.1.1.1.1.1.0 o is_output) p is_read);
      }
