-- What a run carries of the file of one log, call by call.
use Rattle.std.proofs.Common.{◌≡◌, ◌⊎◌, inl, inr, ℕ, Bool, true, IsTrue, List, [], ◌∷◌, ◌++◌, Option, Some, None, refl, sym, ◌∙◌, ap, subst, append_assoc}
use Rattle.std.specs.List.{AllByRecursion}
use Rattle.model.specs.declared.event.Event.{Event}
use Rattle.model.specs.declared.event.Moment.{Moment}
use Rattle.model.specs.declared.event.Moment.TheVariants.{Wrote}
use Rattle.model.specs.declared.event.Writer.TheVariants.{Program}
use Rattle.model.specs.declared.graph.Edge.{Edge}
use Rattle.model.specs.World.{World, File, file_at, content_of, view_of, runs, IsRunning}
use Rattle.model.specs.Calls.{Adds, Writes, WritesOrNot, Appends, AppendsOrNot, Extends, OnlyLooks, content_or_empty}
use Rattle.model.specs.Records.{OwnFiles}
use Rattle.model.specs.Premises.{FilesAreKept, IsWithinEdge, IsNoEdit}
use Rattle.theory.proofs.Lists.{all_parts}
use Rattle.theory.proofs.Files.{IsElsewhere, file_stays}
use Rattle.theory.proofs.Looks.{kept_before}
use Rattle.theory.proofs.Starting.{since}
use Rattle.log_text.specs.declared.form.Version.{Version}
use Rattle.log_text.specs.declared.form.Version.TheVariants.{Two}
use Rattle.log_text.specs.declared.tail.Tail.TheVariants.{Whole}
use Rattle.log_text.specs.Form.{Form, IsLineOf}
use Rattle.log_text.specs.Laws.{LineGrowsLog, FrontOfLines, KeepsInForce}
use Rattle.log_text.specs.Text.{IsLogOf}
use Rattle.theory.specs.Writes.{WritesAt}
use Rattle.theory.proofs.LoggedCalls.{log_elsewhere, log_written_at}
use Rattle.theory.proofs.Writing.{writes_at, appends_at}
use Rattle.records.specs.declared.file.State.{State}
use Rattle.records.specs.declared.file.State.TheVariants.{Usable, Stale}
use Rattle.site.specs.Files.{text_in}
use Rattle.records.specs.Held.{Held, HoldsStill, IsToldBy, behind, TellsMore, IsKeptOrWrittenAnew, MayTellMore}
use Rattle.records.specs.Carried.{WhereKept, IsHeldStill, IsCarriedLog}
use Rattle.records.proofs.Told.{torn_told}

held_content : (file : Option File) (text : List ℕ) → content_of file ≡ Some text → content_or_empty file ≡ text
held_content None text is = absurd (cc)
held_content (Some file) text is = cc

module _ {R T X : Type 0} (forms : Version → Form R) (Keeps : List R → T → Type 0) (in_force : List R → List ℕ → Option X)
    (tells : Bool) (own : OwnFiles) (edges : List Edge) (first now new : World) (file : Held T) (l : IsCarriedLog forms Keeps tells own edges first now file) where
  -- what the run carries after a call that leaves the events, of what the file holds behind it
  pub carried_on : (later : Held T) → later.path ≡ file.path → WritesAt tells file.path now new → IsHeldStill forms Keeps tells own edges first new later → IsCarriedLog forms Keeps tells own edges first new later
  carried_on later path writes held = record {
    path = elim l.path [ inl is ↦ inl (path ∙ is) | inr is ↦ inr (path ∙ is) ];
    commands = λ job is. l.commands job (subst (λ (es : List Event). runs job es ≡ true) writes.events is);
    grows = λ tell.
        let was = l.grows tell in
        let call = writes.history tell in
        (was.0 ++ call.more, call.grows ∙ (ap (λ (h : List Moment). h ++ call.more) was.1 ∙ append_assoc first.history was.0 call.more));
    held = held;
  }

  abbrev before : Option (List ℕ)
  before = view_of now.history file.path

  abbrev after : Option (List ℕ)
  after = view_of new.history file.path

  module _ (tell : IsTrue tells) (kept : FilesAreKept own edges first.history new.history) where
    mine : own.files file.path ≡ true
    mine = elim l.path [
      | inl is ↦ ap own.files is ∙ kept.own_files.build_log
      | inr is ↦ ap own.files is ∙ kept.own_files.deps_log
    ]

    within : (ms : List Moment) → new.history ≡ now.history ++ ms → AllByRecursion (IsWithinEdge kept.free edges) ms
    within ms grows = since (IsWithinEdge kept.free edges) first.history (l.grows tell).0 now.history ms new.history (l.grows tell).1 grows kept.commands

    edits : (ms : List Moment) → new.history ≡ now.history ++ ms → AllByRecursion (IsNoEdit kept.free) ms
    edits ms grows = since (IsNoEdit kept.free) first.history (l.grows tell).0 now.history ms new.history (l.grows tell).1 grows kept.edits

    pub held_now : (ms : List Moment) → new.history ≡ now.history ++ ms → HoldsStill forms Keeps file.state file.log before
    held_now ms grows = l.held tell (kept_before own edges first.history now.history new.history ms grows kept)

    -- a call that only looks
    pub looked : OnlyLooks tells now new → after ≡ before
    looked looks =
        let call = looks.history tell in
        ap content_of (ap (λ (h : List Moment). file_at h file.path) call.grows
        ∙ file_stays file.path now.history call.more (log_elsewhere own edges kept.own_files kept.free kept.free_apart file.path mine (IsRunning now.events) l.commands call.more call.all (within call.more call.grows) (edits call.more call.grows)))

    -- the log holds what the program wrote
    pub written_view : (content : List ℕ) (stamp : ℕ) → Adds (IsRunning now.events) (IsRunning now.events) (Wrote Program file.path (Some content) stamp) now.history new.history → after ≡ Some content
    written_view content stamp adds =
        let ms = adds.earlier ++ Wrote Program file.path (Some content) stamp ∷ adds.later in
        ap content_of (log_written_at own edges kept.own_files kept.free kept.free_apart file.path mine (IsRunning now.events) l.commands (Some content) stamp now.history new.history adds (within ms adds.grows) (edits ms adds.grows))

    -- ---- the log is replaced by what is in force

    module _ (compaction : List R → List R) (compacts : KeepsInForce in_force compaction) (text : List ℕ) (is_stale : file.state ≡ Stale) (compacted : (rs : List R) → Keeps rs file.log → IsLogOf (forms Two) text (compaction rs))
        (writes : Writes tells file.path (Some text) now new) where
      abbrev stamp : ℕ
      stamp = (writes.history tell).0

      adds : Adds (IsRunning now.events) (IsRunning now.events) (Wrote Program file.path (Some text) stamp) now.history new.history
      adds = (writes.history tell).1

      held : HoldsStill forms Keeps Stale file.log before
      held = subst (λ (s : State). HoldsStill forms Keeps s file.log before) is_stale (held_now (adds.earlier ++ Wrote Program file.path (Some text) stamp ∷ adds.later) adds.grows)

      pub replaced_more : TellsMore forms in_force None before after
      replaced_more = record {
        old = held.0;
        was = held.1;
        new = compaction held.0;
        same = compacts.same held.0;
        text = text;
        holds = written_view text stamp adds;
        told = inl (inr (compacted held.0 held.2));
      }

      pub replaced_held : HoldsStill forms Keeps Usable file.log after
      replaced_held = (text, compaction held.0, written_view text stamp adds, compacted held.0 held.2)

    -- ---- bytes are put behind it

    module _ (text : List ℕ) (holds : before ≡ Some text) (bytes : List ℕ) (appends : Appends tells file.path bytes now new) where
      abbrev content : List ℕ
      content = content_or_empty (file_at (now.history ++ (appends.history tell).earlier) file.path) ++ bytes

      abbrev wrote : Moment
      wrote = Wrote Program file.path (Some (content_or_empty (file_at (now.history ++ (appends.history tell).earlier) file.path) ++ bytes)) (appends.history tell).stamp

      elsewhere : AllByRecursion (IsElsewhere file.path) (appends.history tell).earlier
      elsewhere =
          let x = appends.history tell in
          log_elsewhere own edges kept.own_files kept.free kept.free_apart file.path mine (IsRunning now.events) l.commands x.earlier x.all_earlier
          (all_parts (IsWithinEdge kept.free edges) x.earlier (wrote ∷ x.later) (within (x.earlier ++ wrote ∷ x.later) x.grows)).0
          (all_parts (IsNoEdit kept.free) x.earlier (wrote ∷ x.later) (edits (x.earlier ++ wrote ∷ x.later) x.grows)).0

      content_is : content ≡ text ++ bytes
      content_is = ap (λ (t : List ℕ). t ++ bytes)
          (held_content (file_at (now.history ++ (appends.history tell).earlier) file.path) text
          (ap content_of (file_stays file.path now.history (appends.history tell).earlier elsewhere) ∙ holds))

      puts : Adds (IsRunning now.events) (IsRunning now.events) wrote now.history new.history
      puts =
          let x = appends.history tell in
          record { earlier = x.earlier; later = x.later; grows = x.grows; all_earlier = x.all_earlier; all_later = x.all_later }

      pub extended_view : after ≡ Some (text ++ bytes)
      extended_view = written_view content (appends.history tell).stamp puts ∙ ap (λ (t : List ℕ). Some t) content_is

  -- ---- in the words of the calls

  module _ (compaction : List R → List R) (compacts : KeepsInForce in_force compaction) (text : List ℕ) (is_stale : file.state ≡ Stale) (compacted : (rs : List R) → Keeps rs file.log → IsLogOf (forms Two) text (compaction rs)) where
    pub replaced : (later : Held T) → later.path ≡ file.path → later.log ≡ file.log → later.state ≡ Usable → Writes tells file.path (Some text) now new → IsCarriedLog forms Keeps tells own edges first new later
    replaced later path log state writes = carried_on later path (writes_at tells file.path (Some text) now new writes)
        (λ tell kept. subst (λ (p : List ℕ). HoldsStill forms Keeps later.state later.log (view_of new.history p)) (sym path)
        (subst (λ (s : State). HoldsStill forms Keeps s later.log after) (sym state) (replaced_held tell kept compaction compacts text is_stale compacted writes)))

    pub replaced_or_not : WritesOrNot tells file.path (Some text) now new → WhereKept tells own edges first new (IsKeptOrWrittenAnew forms in_force before after)
    replaced_or_not (inl looks) = λ tell kept. inl (looked tell kept looks)
    replaced_or_not (inr writes) = λ tell kept. inr (replaced_more tell kept compaction compacts text is_stale compacted writes)

  module _ (grows_log : LineGrowsLog forms) (front : FrontOfLines forms) (is_usable : file.state ≡ Usable) (r : R) (line : List ℕ) (is_line : IsLineOf (forms Two) r line) where
    abbrev IsUsableText : Type 0
    IsUsableText = (text : List ℕ) × (rs : List R) × (before ≡ Some text) × IsLogOf (forms Two) text rs

    held_before : (bytes : List ℕ) → Appends tells file.path bytes now new → (tell : IsTrue tells) → FilesAreKept own edges first.history new.history → IsUsableText
    held_before bytes appends tell kept =
        let call = (appends_at tells file.path bytes now new appends).history tell in
        subst (λ (s : State). HoldsStill forms Keeps s file.log before) is_usable (held_now tell kept call.more call.grows)

    more_of : (bytes : List ℕ) (appends : Appends tells file.path bytes now new) (added : Option R) (tell : IsTrue tells) (kept : FilesAreKept own edges first.history new.history) (h : IsUsableText) → IsToldBy forms (h.0 ++ bytes) (behind h.1 added)
        → TellsMore forms in_force added before after
    more_of bytes appends added tell kept h told = record {
      old = h.1;
      was = (Whole, inr (subst (λ (c : Option (List ℕ)). IsLogOf (forms Two) (text_in c) h.1) (sym h.2) h.3));
      new = h.1;
      same = λ o. refl;
      text = h.0 ++ bytes;
      holds = extended_view tell kept h.0 h.2 bytes appends;
      told = told;
    }

    module _ (appends : Appends tells file.path line now new) where
      log_after : (h : IsUsableText) → IsLogOf (forms Two) (h.0 ++ line) (h.1 ++ r ∷ [])
      log_after h = grows_log Two h.0 line h.1 r h.3 is_line

      pub appended : IsCarriedLog forms Keeps tells own edges first new file
      appended = carried_on file refl (appends_at tells file.path line now new appends)
          (λ tell kept.
          let h = held_before line appends tell kept in
          subst (λ (s : State). HoldsStill forms Keeps s file.log after) (sym is_usable) (h.0 ++ line, h.1 ++ r ∷ [], extended_view tell kept h.0 h.2 line appends, log_after h))

      pub appended_more : WhereKept tells own edges first new (TellsMore forms in_force (Some r) before after)
      appended_more tell kept =
          let h = held_before line appends tell kept in
          more_of line appends (Some r) tell kept h (inl (inr (log_after h)))

    torn : (part rest : List ℕ) → part ++ rest ≡ line → Appends tells file.path part now new → WhereKept tells own edges first new (MayTellMore forms in_force r before after)
    torn part rest split appends tell kept =
        let h = held_before part appends tell kept in
        elim (torn_told forms front h.0 part rest line h.1 r h.3 is_line split) [
          | inl none ↦ inl (inr (more_of part appends None tell kept h none))
          | inr one ↦ inr (more_of part appends (Some r) tell kept h one)
        ]

    pub appended_or_not : AppendsOrNot tells file.path line now new → WhereKept tells own edges first new (MayTellMore forms in_force r before after)
    appended_or_not (inl looks) = λ tell kept. inl (inl (looked tell kept looks))
    appended_or_not (inr (part, rest, split, appends)) = torn part rest split appends
