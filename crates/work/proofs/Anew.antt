-- What this run made anew, by the stamps at the entry and now, and what was seen of outputs before their commands were started.
use Rattle.std.proofs.Common.{◌≡◌, inl, inr, ℕ, suc, ◌&&◌, not, Bool, true, false, List, [], ◌++◌, Option, Some, None, refl, sym, ◌∙◌, ap}
use Rattle.std.proofs.lemmas.List.{append-nil}
use Rattle.std.proofs.lemmas.Bool.{false≢true, false_from_ne_true}
use Rattle.model.specs.declared.event.Moment.{Moment}
use Rattle.model.specs.declared.graph.Edge.{Edge}
use Rattle.model.specs.World.{World, File, file_at, stamp_of}
use Rattle.model.specs.Judgement.{is_same_number}
use Rattle.model.specs.Graph.{has_number, edge_at, maker, IsCommand, IsMadeOnce}
use Rattle.model.specs.OutOfDate.{is_made_anew, input_facts}
use Rattle.model.specs.Records.{OwnFiles}
use Rattle.model.specs.Schedule.{Step as Done, well_in, failed_in, ended_in, out_of_date_in}
use Rattle.model.specs.Premises.{FreeApart, OwnFilesApart}
use Rattle.theory.proofs.Lists.{same_some}
use Rattle.theory.proofs.Makers.{maker_has, maker_is}
use Rattle.theory.proofs.Steps.{running_parts}
use Rattle.paths.specs.Told.{text_at}
use Rattle.graph.specs.declared.graph.Graph.{Graph}
use Rattle.judge.specs.Seen.{AreKept}
use Rattle.work.specs.declared.state.Work.{Work}
use Rattle.work.specs.Course.{Course, edges_of, is_quiet, AreAnew, AreSeenBefore}
use Rattle.work.proofs.Quiet.{KeepsQuiet, files_then, quiet_from}

-- ---- the path of an edge that has ended

-- what a command makes that has ended is quiet
pub made_quiet : (own : OwnFiles) (edges : List Edge) → OwnFilesApart own edges → (free : List ℕ → Bool) → FreeApart free own edges → IsMadeOnce edges → (steps : List Done) (j : ℕ) (p : List ℕ) → maker edges p ≡ Some j → IsCommand edges j → has_number (ended_in steps) j ≡ true → is_quiet free own edges steps p ≡ true
made_quiet own edges apart free free_apart once steps j p is ran ended = quiet_from free own edges steps p (record {
  bound = free_apart.outputs j p (inl ran) (maker_has edges p j is);
  foreign = false_from_ne_true (own.files p) (λ mine. false≢true (sym outside ∙ apart.within p mine));
  private = λ i command named. elim named [
    | inl same ↦ false≢true (sym outside ∙ (ap own.set same ∙ (apart.depfiles i command).0))
    | inr same ↦ false≢true (sym outside ∙ (ap own.set same ∙ (apart.responses i command).0))
  ];
  rests = λ i runs made.
      let same = same_some i j (sym (maker_is edges p i once made) ∙ is) in
      false≢true (sym (running_parts steps i runs).1 ∙ (ap (λ (n : ℕ). has_number (ended_in steps) n) same ∙ ended));
})
  where
    outside : own.set p ≡ false
    outside = apart.outputs j p (maker_has edges p j is)

-- a path of the set keeps its file in a call
pub file_still : (set : List ℕ → Bool) (old new more : List Moment) (p : List ℕ) → new ≡ old ++ more → AreKept set old new → set p ≡ true → file_at new p ≡ file_at old p
file_still set old new more p grows kept is = ap (λ (l : List Moment). file_at l p) grows ∙ kept p is more [] (grows ∙ ap (λ (l : List Moment). old ++ l) (sym (append-nil more)))

-- ---- one path

-- it is as new as before where its maker ran as before, and its file is the same if that ran
pub as_new : (edges : List Edge) (ran many : List ℕ) (first now new : List Moment) (p : List ℕ) → ((j : ℕ) → maker edges p ≡ Some j → has_number many j ≡ has_number ran j)
    → ((j : ℕ) → maker edges p ≡ Some j → has_number ran j ≡ true → file_at new p ≡ file_at now p) → (input_facts edges ran first now p).changed ≡ (input_facts edges many first new p).changed
as_new edges ran many first now new p same still = by_maker (maker edges p) refl
  where
    before : Bool
    before = is_same_number (stamp_of (file_at first p)) (stamp_of (file_at now p))

    after : Bool
    after = is_same_number (stamp_of (file_at first p)) (stamp_of (file_at new p))

    by_maker : (m : Option ℕ) → maker edges p ≡ m → is_made_anew edges ran before m ≡ is_made_anew edges many after m
    by_maker None is = refl
    by_maker (Some j) is = by_ran (has_number ran j) refl
      where
        restat : Bool
        restat = (edge_at edges j).restat

        by_ran : (r : Bool) → has_number ran j ≡ r → is_made_anew edges ran before (Some j) ≡ is_made_anew edges many after (Some j)
        by_ran true well =
            ap (λ (b : Bool). b && not (restat && before)) (sym (same j is))
            ∙ ap (λ (f : Option File). has_number many j && not (restat && is_same_number (stamp_of (file_at first p)) (stamp_of f))) (sym (still j is well))
        by_ran false none = ap (λ (b : Bool). b && not (restat && before)) none ∙ sym (ap (λ (b : Bool). b && not (restat && after)) (same j is ∙ none))

-- ---- over a call

module _ (tells : Bool) (course : Course) (graph : Graph) (steps many by : List Done) (state : Work) (now new : World) (quiet : KeepsQuiet tells course.own (edges_of course) by course.entry now new) where
  -- in which no command is taken in
  pub anew_over : IsMadeOnce (edges_of course) → ((j : ℕ) → has_number (well_in steps) j ≡ true → (has_number (ended_in by) j ≡ true) × IsCommand (edges_of course) j) → well_in many ≡ well_in steps → failed_in many ≡ failed_in steps
      → AreAnew tells course graph steps state now → AreAnew tells course graph many state new
  anew_over once ended well failed anew tell kept p lt unfailed =
      let call = quiet tell kept in
      anew tell (files_then course.own (edges_of course) course.entry now new call.0 kept) p lt (λ j made. ap (λ (l : List ℕ). has_number l j) (sym failed) ∙ unfailed j made)
      ∙ as_new (edges_of course) (well_in steps) (well_in many) course.entry.history now.history new.history (text_at graph.manifest.paths p)
      (λ j is. ap (λ (l : List ℕ). has_number l j) well)
      (λ j is ran. file_still (is_quiet kept.free course.own (edges_of course) by) now.history new.history call.0.0 (text_at graph.manifest.paths p) call.0.1 call.1
      (made_quiet course.own (edges_of course) kept.own_files kept.free kept.free_apart once by j (text_at graph.manifest.paths p) is (ended j ran).1 (ended j ran).0))

  -- in which no edge is found to be out of date
  pub before_over : ((e : ℕ) → has_number (out_of_date_in many) e ≡ true → has_number (ended_in many) e ≡ false → (has_number (out_of_date_in steps) e ≡ true) × (has_number (ended_in steps) e ≡ false))
      → AreSeenBefore tells course graph steps state now → AreSeenBefore tells course graph many state new
  before_over fewer before tell kept e stale unended =
      let was = fewer (suc e) stale unended in
      before tell (files_then course.own (edges_of course) course.entry now new (quiet tell kept).0 kept) e was.0 was.1
