-- What is answered is what is told.
use Rattle.std.proofs.Common.{◌≡◌, ◌⊎◌, ◌<◌, inl, inr, ℕ, Bool, true, false, if◌then◌else◌, ◌&&◌, not, is_some, List, Option, Some, None, length, max, refl, sym, ◌∙◌, ap, subst}
use Rattle.std.specs.Prelude.{IfOk, OnOk, Result, Ok, Err, bytes_eq}
use Rattle.std.specs.Option.{option_map}
use Rattle.std.proofs.lemmas.Bool.{cases_Bool, cond-true, cond-false}
use Rattle.model.specs.Graph.{has}
use Rattle.model.specs.World.{File, content_of, stamp_of}
use Rattle.seen_law.specs.Retold.{Telling, stamp_told, told_file, under}
use Rattle.seen_law.specs.Laws.{IsPlain, IsTold}
use Rattle.seen_log.specs.declared.note.Kind.TheVariants.{Source}
use Rattle.seen_log.specs.declared.note.Noted.{Noted}
use Rattle.seen_log.specs.Keeping.{last_of}
use Rattle.seen_log.specs.Log.{counts_of}
use Rattle.seen.specs.declared.answer.Looked.{Looked}
use Rattle.seen.specs.declared.counts.Counts.{Counts}
use Rattle.seen.specs.declared.judging.Judged.{Judged}
use Rattle.seen.specs.declared.judging.Past.{Past}
use Rattle.measure.specs.declared.measure.Measure.{Measure}
use Rattle.seen.specs.declared.own.Own.{Own}
use Rattle.seen.specs.Answered.{counted_by, own_stamp, placed_by}
use Rattle.seen.specs.Beginning.{counts_at, past_of, started_by}
use Rattle.seen_true.specs.Counting.{is_as_noted}
use Rattle.seen_true.specs.Laws.{is_late}
use Rattle.seen.specs.Judged.{judged, judged_new, judged_same, turned, under as noted_under}
use Rattle.seen.specs.Looking.{KnowsSame, MayWrite, judged_there, looked_at, looked_own, looked_there}
use Rattle.seen_true.specs.Counting.{telling}
use Rattle.seen.specs.Begun.{Begun}
use Rattle.seen.specs.Makers.{is_job, maker_of}
use Rattle.measure.specs.Measured.{measure_of, measured_at}
use Rattle.seen.specs.Own.{is_own}

under_stamp : (counts : Option ℕ) (content : List ℕ) → stamp_of (under counts content) ≡ counts
under_stamp None content = refl
under_stamp (Some stamp) content = refl

-- ---- a file of the model was put there when it was written

pub placed_there : (is_made : Bool) (file : File) → placed_by is_made (Some (measure_of file)) ≡ Some (measure_of file)
placed_there true file = refl
placed_there false file = refl

new_counts : (late is_output : Bool) (stamp : ℕ) (a : Judged) → a.counts ≡ Some stamp → (if late && not is_output then noted_under stamp Source else a).counts ≡ Some stamp
new_counts true true stamp a is = is
new_counts true false stamp a is = refl
new_counts false is_output stamp a is = is

new_own : (is_output : Bool) (since : Option ℕ) (stamp : ℕ) → (judged_new is_output since stamp stamp).counts ≡ Some stamp
new_own is_output since stamp = new_counts (is_late since stamp) is_output stamp _ refl

-- so it counts alike whatever was started before
since_alike : (noted : Option Noted) (is_output : Bool) (since : Option ℕ) (number : ℕ) (file : File)
    → (judged (record { noted = noted; is_output = is_output; since = since }) number (Some (measure_of file))).counts
    ≡ (judged (record { noted = noted; is_output = is_output; since = None }) number (Some (measure_of file))).counts
since_alike None is_output since number file = new_own is_output since file.stamp ∙ sym (new_own is_output None file.stamp)
since_alike (Some noted) is_output since number file = refl

module _ (k : Counts) (p : List ℕ) where
  judged_alike : (file : File) → is_own k.own p ≡ false → (judged_there k p (Some (measure_of file))).counts ≡ counts_at k.notes k.makers k.own k.number p file
  judged_alike file other =
      ap (λ (m : Option Measure). (judged (past_of k.notes k.makers k.first_start p) k.number m).counts) (placed_there (has k.made p) file)
      ∙ (since_alike (past_of k.notes k.makers k.first_start p).noted (is_some (maker_of k.makers p)) k.first_start k.number file
      ∙ sym (cond-false (is_own k.own p) (Some file.stamp) (judged (past_of k.notes k.makers None p) k.number (Some (measure_of file))).counts other))

  own_alike : (file : File) → is_own k.own p ≡ true → counts_at k.notes k.makers k.own k.number p file ≡ Some file.stamp
  own_alike file is = cond-true (is_own k.own p) (Some file.stamp) (judged (past_of k.notes k.makers None p) k.number (Some (measure_of file))).counts is

  -- what counts for a file, started or not, is what is told of it
  module _ (t : Telling) (counted : (file : File) → t.counts p file ≡ counts_at k.notes k.makers k.own k.number p file) where
    told_there : (started : Option ℕ) (file : Option File) → is_own k.own p ≡ false
        → counted_by (judged_there k p (measured_at file)) started (measured_at file) ≡ stamp_of (told_file t.counts started p file)
    told_there started None other = refl
    told_there started (Some file) other =
        ap (λ (c : Option ℕ). stamp_told c started file.stamp) (judged_alike file other ∙ sym (counted file))
        ∙ sym (under_stamp (stamp_told (t.counts p file) started file.stamp) file.content)

    told_own : (started : Option ℕ) (file : Option File) → is_own k.own p ≡ true → own_stamp (measured_at file) ≡ stamp_of (told_file t.counts started p file)
    told_own started None is = refl
    told_own started (Some file) is =
        ap (λ (c : Option ℕ). stamp_told c started file.stamp) (sym (counted file ∙ own_alike file is))
        ∙ sym (under_stamp (stamp_told (t.counts p file) started file.stamp) file.content)

    pub looked_told : (file : Option File) → (looked_at k p (measured_at file)).counts ≡ stamp_of (told_file t.counts (started_by k.starts.items (maker_of k.makers p)) p file)
    looked_told file = elim (cases_Bool (is_own k.own p)) [
      | inl own ↦ ap (λ (l : Looked). l.counts) (cond-true (is_own k.own p) (looked_own (measured_at file)) (looked_there k p (measured_at file)) own)
          ∙ told_own (started_by k.starts.items (maker_of k.makers p)) file own
      | inr other ↦ ap (λ (l : Looked). l.counts) (cond-false (is_own k.own p) (looked_own (measured_at file)) (looked_there k p (measured_at file)) other)
          ∙ told_there (started_by k.starts.items (maker_of k.makers p)) file other
    ]

    -- one of the program's own files is told as it is
    own_content : (c : Option ℕ) (started : Option ℕ) (file : File) → c ≡ Some file.stamp → content_of (under (stamp_told c started file.stamp) file.content) ≡ Some file.content
    own_content c started file is = ap (λ (it : Option ℕ). content_of (under (stamp_told it started file.stamp) file.content)) is

    pub content_own : (started : Option ℕ) (file : Option File) → is_own k.own p ≡ true → content_of file ≡ content_of (told_file t.counts started p file)
    content_own started None own = refl
    content_own started (Some file) own = sym (own_content (t.counts p file) started file (counted file ∙ own_alike file own))

    -- what no command makes always counts
    source_counts : (noted : Option Noted) (since : Option ℕ) (number : ℕ) (file : File)
        → (stamp : ℕ) × ((judged (record { noted = noted; is_output = false; since = since }) number (Some (measure_of file))).counts ≡ Some stamp)
    source_counts None since number file = (file.stamp, new_own false since file.stamp)
    source_counts (Some noted) since number file = by (is_as_noted noted file.stamp (length file.content))
      where
        by : (as_noted : Bool) → (stamp : ℕ) × ((if as_noted then judged_same noted false else noted_under (max number file.stamp) (turned noted.kind)).counts ≡ Some stamp)
        by true = (counts_of noted, refl)
        by false = (max number file.stamp, refl)

    pub may_be_told : t.hidden p ≡ bytes_eq k.own.seen p → MayWrite k p → IsTold t p
    may_be_told hidden (apart, inl own) = (hidden ∙ apart, λ file. (file.stamp, counted file ∙ own_alike file own))
    may_be_told hidden (apart, inr none) = (
      hidden ∙ apart,
      λ file. elim (cases_Bool (is_own k.own p)) [
        | inl own ↦ (file.stamp, counted file ∙ own_alike file own)
        | inr other ↦ (
            let made : is_some (maker_of k.makers p) ≡ false = ap (λ (m : Option ℕ). is_some m) none in
            let so = source_counts (past_of k.notes k.makers None p).noted None k.number file in (
              so.0,
              counted file ∙ (cond-false (is_own k.own p) (Some file.stamp) (judged (past_of k.notes k.makers None p) k.number (Some (measure_of file))).counts other
                  ∙ (ap (λ (b : Bool). (judged (record { noted = (past_of k.notes k.makers None p).noted; is_output = b; since = None }) k.number (Some (measure_of file))).counts) made ∙ so.1)),
            ))
      ],
    )

    pub own_is_plain : t.hidden p ≡ bytes_eq k.own.seen p → bytes_eq k.own.seen p ≡ false → is_own k.own p ≡ true → IsPlain t p
    own_is_plain hidden apart own = (hidden ∙ apart, λ file. counted file ∙ own_alike file own)

-- ---- what is known in another place is known so still

same_counts : (old new : Counts) → KnowsSame old new → (p : List ℕ) (file : File) → counts_at old.notes old.makers old.own old.number p file ≡ counts_at new.notes new.makers new.own new.number p file
same_counts old new same p file =
    λ i. if is_own (sym same.own i) p then Some file.stamp
    else (judged (record { noted = option_map (λ last. last.noted) (last_of (sym same.notes i) p); is_output = is_some (sym (same.makers p) i); since = None }) (sym same.number i) (Some (measure_of file))).counts

module _ (b : Begun) (old new : Counts) (same : KnowsSame old new) where
  pub counted_same : ((p : List ℕ) (file : File) → (telling b.knows).counts p file ≡ counts_at old.notes old.makers old.own old.number p file)
      → (p : List ℕ) (file : File) → (telling b.knows).counts p file ≡ counts_at new.notes new.makers new.own new.number p file
  counted_same is p file = is p file ∙ same_counts old new same p file

  pub hidden_same : ((p : List ℕ) → (telling b.knows).hidden p ≡ bytes_eq old.own.seen p) → (p : List ℕ) → (telling b.knows).hidden p ≡ bytes_eq new.own.seen p
  hidden_same is p = is p ∙ ap (λ (o : Own). bytes_eq o.seen p) (sym same.own)

  pub makes_same : ((job : ℕ) (p : List ℕ) → has ((telling b.knows).makes job) p ≡ is_job job (maker_of old.makers p)) → (job : ℕ) (p : List ℕ) → has ((telling b.knows).makes job) p ≡ is_job job (maker_of new.makers p)
  makes_same is job p = is job p ∙ ap (is_job job) (sym (same.makers p))

  pub room_same : ((p : List ℕ) (job : ℕ) → maker_of old.makers p ≡ Some job → job < length old.starts.items) → (p : List ℕ) (job : ℕ) → maker_of new.makers p ≡ Some job → job < length new.starts.items
  room_same is p job made = subst (λ (n : ℕ). job < n) (ap (λ starts. length starts.items) (sym same.starts)) (is p job (sym (same.makers p) ∙ made))

  pub started_same : (p : List ℕ) → started_by old.starts.items (maker_of old.makers p) ≡ started_by new.starts.items (maker_of new.makers p)
  started_same p = λ i. started_by (sym same.starts i).items (sym (same.makers p) i)
