-- Commands for which no reason was found: that is so as long as calls only look.
use Rattle.std.proofs.Common.{◌≡◌, inl, inr, ℕ, suc, ◌+◌, ◌<◌, Bool, true, false, List, [], Option, Some, None, is_some, bytes_eq, take, get_or, length, refl, sym, ◌∙◌, ap, subst}
use Rattle.std.proofs.Math.ListN.{set}
use Rattle.std.proofs.lemmas.Bool.{false≢true}
use Rattle.std.proofs.lemmas.List.{take_more, get_or-set_same, get_or-set_other}
use Rattle.model.specs.declared.event.Moment.{Moment}
use Rattle.model.specs.declared.graph.Edge.{Edge}
use Rattle.model.specs.declared.reason.Reason.{Reason}
use Rattle.model.specs.declared.record.Record.{Record}
use Rattle.model.specs.declared.record.DepsRecord.{DepsRecord}
use Rattle.model.specs.World.{World, File, file_at, stamp_of, content_of, view_of}
use Rattle.model.specs.Calls.{OnlyLooks}
use Rattle.model.specs.Graph.{has_number, edge_at, maker}
use Rattle.model.specs.Judgement.{InputFacts, Facts, is_same_number, reason_of}
use Rattle.model.specs.OutOfDate.{Counted, input_facts, facts_of, is_made_anew}
use Rattle.model.specs.Records.{Store}
use Rattle.theory.proofs.Lists.{bytes_same, map_same, has_number-push_other}
use Rattle.theory.proofs.SiteCalls.{looks_then}
use Rattle.paths.specs.Told.{text_at}
use Rattle.graph.specs.declared.graph.Graph.{Graph}
use Rattle.graph.specs.Told.{declared_by}
use Rattle.plan.specs.declared.plan.Plan.{Plan}
use Rattle.records.specs.declared.records.Records.{Records}
use Rattle.judge.specs.declared.looks.Looks.{Looks}
use Rattle.judge.specs.Judged.{IsReasonBy, MayBeJudgedBy, HasPathsOf, HasOldDepfile, IsAnswer, IsReasonFound}
use Rattle.judge.specs.Looking.{HasLooked}
use Rattle.judge.specs.Dues.{due_at, AwaitsJudgement, IsFoundClean, AreFoundClean}
use Rattle.judge.proofs.CommandDues.{read_in_all, read_alike}
use Rattle.judge.proofs.FilesStay.{Follow, Stay}
use Rattle.judge.proofs.NumbersAsTexts.{same_or_other}

-- nothing is there of which that is not so
pub nothing : {X : Type 0} (o : Option X) → is_some o ≡ false → o ≡ None
nothing None is = refl
nothing (Some x) is = absurd (false≢true (sym is))

-- ---- where the paths of a set and the depfile keep their files, the answer is right still

module _ (graph : Graph) (rs : List Record) (ds : List DepsRecord) (flags : List Bool) (e : ℕ) (reason : Option Reason) (set_of : List ℕ → Bool) (now later : List Moment)
    (same : (p : List ℕ) → set_of p ≡ true → file_at later p ≡ file_at now p) (depfile : HasOldDepfile (declared_by graph).edges now later (suc e))
  where
    abbrev all : List Edge
    all = (declared_by graph).edges

    -- what is read, with this file
    abbrev facts_by : List ℕ → List Moment → List ℕ → Option File → InputFacts
    facts_by ran old p file = record { stamp = stamp_of file; changed = is_made_anew all ran (is_same_number (stamp_of (file_at old p)) (stamp_of file)) (maker all p) }

    abbrev with_inputs : Store → List ℕ → List Moment → List InputFacts → Facts
    with_inputs store ran old inputs = record (facts_of all store ran old later (suc e) []) { inputs = inputs }

    module _ (store : Store) (paths : HasPathsOf all store (suc e) set_of) where
      view_same : (p : List ℕ) → set_of p ≡ true → view_of now p ≡ view_of later p
      view_same p is = ap content_of (sym (same p is))

      counted_in : (p : List ℕ) → Counted all store now (suc e) p → set_of p ≡ true
      counted_in p (inl read) = paths.read p (read_in_all all (view_of now) (suc e) p read)
      counted_in p (inr recorded) = paths.recorded p recorded

      counted_later : (p : List ℕ) → Counted all store now (suc e) p → Counted all store later (suc e) p
      counted_later p (inl read) = inl (read_alike all (view_of now) (view_of later) (suc e) p (λ q every. view_same q (paths.read q every)) read)
      counted_later p (inr recorded) = inr recorded

      counted_now : (p : List ℕ) → Counted all store later (suc e) p → Counted all store now (suc e) p
      counted_now p (inl read) = inl (read_alike all (view_of later) (view_of now) (suc e) p (λ q every. sym (view_same q (paths.read q every))) read)
      counted_now p (inr recorded) = inr recorded

      inputs_same : (ran : List ℕ) (old : List Moment) (p : List ℕ) → set_of p ≡ true → input_facts all ran old now p ≡ input_facts all ran old later p
      inputs_same ran old p is = ap (facts_by ran old p) (sym (same p is))

      may_now : (ran : List ℕ) (old : List Moment) → MayBeJudgedBy graph rs ds flags store ran old later (suc e) set_of → MayBeJudgedBy graph rs ds flags store ran old now (suc e) set_of
      may_now ran old may = record {
        records = may.records;
        deps = may.deps;
        recorded = may.recorded;
        untouched = λ o h. ap stamp_of (sym (same o (paths.made o h))) ∙ may.untouched o h;
        depfile = λ named. sym (depfile named) ∙ may.depfile named;
        flagged = λ p lt counted.
            may.flagged p lt (counted_later (text_at graph.manifest.paths p) counted)
            ∙ sym (ap (λ (x : InputFacts). x.changed) (inputs_same ran old (text_at graph.manifest.paths p) (counted_in (text_at graph.manifest.paths p) counted)));
        paths = may.paths;
      }

      reason_later : (ran : List ℕ) (old : List Moment) → IsReasonBy all store ran old now (suc e) reason → IsReasonBy all store ran old later (suc e) reason
      reason_later ran old so = record {
        read = so.read;
        counted = λ p. ((λ h. counted_later p ((so.counted p).0 h)), (λ counted. (so.counted p).1 (counted_now p counted)));
        is = so.is
            ∙ ap (λ (l : List InputFacts). reason_of (with_inputs store ran old l)) (map_same (input_facts all ran old now) (input_facts all ran old later) so.read (λ p h. inputs_same ran old p (counted_in p ((so.counted p).0 h))));
      }

    pub answer_later : IsAnswer graph rs ds flags e reason set_of now → IsAnswer graph rs ds flags e reason set_of later
    answer_later so = (
      (λ store ran old may. reason_later store may.paths ran old (so.0 store ran old (may_now store may.paths ran old may))),
      (λ store old may. so.1 store old (record {
        records = may.records;
        deps = may.deps;
        untouched = λ o h. ap stamp_of (sym (same o (may.made o h))) ∙ may.untouched o h;
        depfile = λ named. sym (depfile named) ∙ may.depfile named;
        made = may.made;
      })),
    )

-- ---- one edge, in one call after another

module _ (follow : Follow) (stay : Stay) (tells : Bool) (graph : Graph) (records : Records) (e : ℕ) where
  abbrev depfile_of : List ℕ
  depfile_of = (edge_at (declared_by graph).edges (suc e)).act.depfile

  -- what was found in one call
  pub clean_later : (a b : World) (looks : Looks) → OnlyLooks tells a b → IsReasonFound tells graph records a b looks [] e None → IsFoundClean tells graph records a b looks e
  clean_later a b looks call so later after rs ds known keeps told paths kept seen =
      answer_later graph rs ds [] e None paths b.history later.history (stay tells b later told paths after ((follow tells a b later).later told paths call after kept))
      (λ named. stay tells b later told (bytes_eq depfile_of) after ((follow tells a b later).later told (bytes_eq depfile_of) call after (keeps told named)) depfile_of (bytes_same depfile_of))
      (so rs ds known (λ tell named. (follow tells a b later).earlier tell (bytes_eq depfile_of) call after (keeps tell named)) told paths ((follow tells a b later).earlier told paths call after kept) seen)

  -- in the first of two
  pub clean_first : (a b c : World) (looks : Looks) → OnlyLooks tells b c → IsFoundClean tells graph records a b looks e → IsFoundClean tells graph records a c looks e
  clean_first a b c looks second so later after = so later (looks_then tells b c later second after)

  -- and in the second
  pub clean_second : (a b c : World) (one two : Looks) → HasLooked tells graph a b one two → OnlyLooks tells b c → IsFoundClean tells graph records b c two e → IsFoundClean tells graph records a c one e
  clean_second a b c one two first second so later after rs ds known keeps told paths kept seen =
      let both = looks_then tells b c later second after in
      so later after rs ds known (λ tell named. (follow tells a b later).later tell (bytes_eq depfile_of) first.looks both (keeps tell named)) told paths ((follow tells a b later).later told paths first.looks both kept)
      (first.seen told paths ((follow tells a b later).earlier told paths first.looks both kept) seen)

-- ---- one edge more

module _ (tells : Bool) (graph : Graph) (records : Records) (plan : Plan) (old new : World) (seen : Looks) (order : List ℕ) (k : ℕ) (within : k < length order) (due : List Bool)
    (fits : get_or order k 0 < length due) (is : Bool)
  where
    abbrev added : ℕ
    added = get_or order k 0

    -- of which that is known
    pub clean_added : AreFoundClean tells graph records plan old new seen (take k order) due → (is ≡ false → AwaitsJudgement graph plan added → IsFoundClean tells graph records old new seen added)
        → AreFoundClean tells graph records plan old new seen (take (k + 1) order) (set due added is)
    clean_added so_far found x listed not_due awaits = elim (same_or_other added x) [
      | inl here ↦
          subst (λ (q : ℕ). IsFoundClean tells graph records old new seen q) (sym here)
          (found (sym (get_or-set_same due added is false fits) ∙ subst (λ (q : ℕ). due_at (set due added is) q ≡ false) here not_due) (subst (λ (q : ℕ). AwaitsJudgement graph plan q) here awaits))
      | inr other ↦
          so_far x (sym (ap (λ (l : List ℕ). has_number l x) (take_more order k 0 within) ∙ has_number-push_other (take k order) added x (λ h. other (sym h))) ∙ listed)
          (sym (get_or-set_other due added x is false other) ∙ not_due) awaits
    ]

module _ (follow : Follow) (stay : Stay) (tells : Bool) (graph : Graph) (records : Records) (plan : Plan) (a b c : World) (one two : Looks) (first : HasLooked tells graph a b one two) (second : OnlyLooks tells b c)
    (order : List ℕ) (k : ℕ) (within : k < length order) (due : List Bool) (fits : get_or order k 0 < length due) (is : Bool)
  where
    abbrev edge : ℕ
    edge = get_or order k 0

    -- of which that was found in the second of two calls
    pub clean_one_more : AreFoundClean tells graph records plan a b one (take k order) due → (is ≡ false → AwaitsJudgement graph plan edge → IsFoundClean tells graph records b c two edge)
        → AreFoundClean tells graph records plan a c one (take (k + 1) order) (set due edge is)
    clean_one_more so_far found =
        clean_added tells graph records plan a c one order k within due fits is
        (λ x listed not_due awaits. clean_first follow stay tells graph records x a b c one second (so_far x listed not_due awaits))
        (λ not_due awaits. clean_second follow stay tells graph records edge a b c one two first second (found not_due awaits))
