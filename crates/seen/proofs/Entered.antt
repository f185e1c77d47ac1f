-- What is known of notes when a build begins.
use Rattle.std.proofs.Common.{◌≡◌, inl, inr, ℕ, Bool, true, List, [], ◌∷◌, ◌++◌, Option, Some, None, refl, sym, ◌∙◌, ap, subst, append_assoc}
use Rattle.std.specs.Option.{option_map}
use Rattle.std.specs.Prelude.{IsTrue}
use Rattle.indexmap.specs.IndexMap.{get_by_text}
use Rattle.log_text.specs.declared.form.Version.TheVariants.{Two}
use Rattle.log_text.specs.declared.tail.Tail.{Tail}
use Rattle.log_text.specs.declared.tail.Tail.TheVariants.{Whole}
use Rattle.log_text.specs.Text.{IsEnded, IsRead}
use Rattle.std.specs.List.{AllByRecursion}
use Rattle.model.specs.declared.event.Moment.{Moment}
use Rattle.model.specs.declared.event.Moment.TheVariants.{Wrote, Happened}
use Rattle.model.specs.declared.event.Writer.TheVariants.{Program, Command, Someone}
use Rattle.model.specs.World.{World, File, content_of, file_at}
use Rattle.model.specs.Calls.{AllByOthers, IsByOthers, OthersWrote, Sees, content_or_empty}
use Rattle.theory.proofs.Lists.{all_parts, same_rest}
use Rattle.seen_log.specs.declared.log.Log.{Log}
use Rattle.seen_log.specs.declared.note.Last.{Last}
use Rattle.seen_log.specs.declared.note.Note.{Note}
use Rattle.seen_log.specs.declared.note.Noted.{Noted}
use Rattle.seen_log.specs.Keeping.{IsLast, Keeps, last_of}
use Rattle.seen_log.specs.Log.{noted_in_force}
use Rattle.seen_log.specs.Record.{forms}
use Rattle.seen_true.specs.Notes.{IsWhole}
use Rattle.seen_true.specs.Calls.{IsLeftByProgram}
use Rattle.seen_true.specs.Counting.{Knowing}
use Rattle.seen_true.specs.Going.{BaseIsWhole, EntersAt}
use Rattle.seen.specs.declared.counts.Counts.{Counts}
use Rattle.seen.specs.Beginning.{noted_of}
use Rattle.seen.specs.declared.notes.Entry.{Entry}
use Rattle.seen.specs.Begun.{Begun}
use Rattle.seen.specs.Entering.{EntersSince}
use Rattle.seen.specs.Known.{IsEntryOf, known_of}

-- ---- what the log has is what the records tell

last_noted : (records : List Note) (p : List ℕ) (last : Option Last) → IsLast records p last → option_map (λ l. l.noted) last ≡ noted_in_force records p
last_noted records p None is = sym is
last_noted records p (Some last) is = sym is.0

pub noted_so : (records : List Note) (log : Log) → Keeps records log → (p : List ℕ) → noted_of log p ≡ noted_in_force records p
noted_so records log keeps p = last_noted records p (last_of log p) (keeps.last p)

-- ---- the text behind which lines are put

pub whole_ended : (text : List ℕ) (records : List Note) (tail : Tail) → tail ≡ Whole → (text ≡ [] → ⊥) → IsRead forms text records tail → IsWhole text (noted_in_force records)
whole_ended text records tail whole some read = by (subst (λ (t : Tail). IsRead forms text records t) whole read)
  where
    by : IsEnded (forms Two) text records → IsWhole text (noted_in_force records)
    by (inl none) = absurd (some none.0)
    by (inr log) = record { records = records; log = log; same = λ p. refl }

whole_as : (text : List ℕ) (a b : List ℕ → Option Noted) → ((p : List ℕ) → a p ≡ b p) → IsWhole text a → IsWhole text b
whole_as text a b same is = record { records = is.records; log = is.log; same = λ p. is.same p ∙ same p }

base_as : (text : List ℕ) (a b : List ℕ → Option Noted) → ((p : List ℕ) → a p ≡ b p) → (base : Option (List ℕ)) → BaseIsWhole text a base → BaseIsWhole text b base
base_as text a b same None is = whole_as text a b same is
base_as text a b same (Some base) is = whole_as base a b same is

pub entry_is : (text : List ℕ) (k : Counts) (base : Option (List ℕ)) (records : List Note) (tail : Tail) → IsRead forms text records tail → Keeps records k.notes
    → BaseIsWhole text (noted_in_force records) base → IsEntryOf text k base
entry_is text k base records tail read keeps whole = record {
  records = records;
  tail = tail;
  read = read;
  is = noted_so records k.notes keeps;
  whole = base_as text (noted_in_force records) (noted_of k.notes) (λ p. sym (noted_so records k.notes keeps p)) base whole;
}

-- ---- as it stood there

pub text_some : (file : Option File) (text : List ℕ) → Some text ≡ content_of file → content_or_empty file ≡ text
text_some None text is = absurd (never is)
  where
    never : Some text ≡ None → ⊥
    never e = cc
text_some (Some file) text is = sym (same is)
  where
    same : Some text ≡ Some file.content → text ≡ file.content
    same e = cc

pub text_none : (file : Option File) → None ≡ content_of file → content_or_empty file ≡ []
text_none None is = refl
text_none (Some file) is = absurd (never is)
  where
    never : None ≡ Some file.content → ⊥
    never e = cc

-- where others alone wrote the program left the path
left_by : (running : ℕ → Type 0) (p : List ℕ) (ms : List Moment) → AllByOthers running ms → AllByRecursion (IsLeftByProgram p) ms
left_by running p [] all = tt
left_by running p (Wrote Program path content stamp ∷ ms) all = absurd all.0
left_by running p (Wrote (Command job) path content stamp ∷ ms) all = (tt, left_by running p ms all.1)
left_by running p (Wrote Someone path content stamp ∷ ms) all = (tt, left_by running p ms all.1)
left_by running p (Happened event ∷ ms) all = absurd all.0

-- so it did behind a moment of a call that only looked
left_then : (running : ℕ → Type 0) (p : List ℕ) (old new earlier later : List Moment) → OthersWrote running old new → new ≡ old ++ (earlier ++ later)
    → AllByRecursion (IsLeftByProgram p) later
left_then running p old new earlier later wrote grows =
    left_by running p later
    (all_parts (IsByOthers running) earlier later
    (subst (λ (ms : List Moment). AllByOthers running ms) (same_rest old wrote.more (earlier ++ later) (sym wrote.grows ∙ grows)) wrote.all)).1

-- it was read at this moment of a call, behind a look
pub entered_at : (k : Counts) (base : Option (List ℕ)) (x0 x1 x2 : World) (seen text : List ℕ) (content : Option (List ℕ)) (running still_running : ℕ → Type 0)
    → OthersWrote running x0.history x1.history → OthersWrote still_running x1.history x2.history
    → (sees : Sees (λ history. content_of (file_at history seen)) content x1.history x2.history) → k.own.seen ≡ seen
    → content_or_empty (file_at (x1.history ++ sees.earlier) seen) ≡ text → IsEntryOf text k base → EntersAt (known_of k) base x0.history x2.history
entered_at k base x0 x1 x2 seen text content running still_running before wrote sees here held entry =
    let joined : x1.history ++ sees.earlier ≡ x0.history ++ (before.more ++ sees.earlier) =
    ap (λ (h : List Moment). h ++ sees.earlier) before.grows ∙ append_assoc x0.history before.more sees.earlier in
    let text_is : content_or_empty (file_at (x0.history ++ (before.more ++ sees.earlier)) k.own.seen) ≡ text =
    ap (λ (h : List Moment). content_or_empty (file_at h k.own.seen)) (sym joined) ∙ (ap (λ (p : List ℕ). content_or_empty (file_at (x1.history ++ sees.earlier) p)) here ∙ held) in
    record {
      earlier = before.more ++ sees.earlier;
      later = sees.later;
      grows = sees.grows
          ∙ (sym (append_assoc x1.history sees.earlier sees.later)
          ∙ (ap (λ (h : List Moment). h ++ sees.later) joined
          ∙ append_assoc x0.history (before.more ++ sees.earlier) sees.later));
      enters = record {
        reads = record {
          records = entry.records;
          tail = entry.tail;
          read = subst (λ (t : List ℕ). IsRead forms t entry.records entry.tail) (sym text_is) entry.read;
          is = entry.is;
        };
        whole = subst (λ (t : List ℕ). BaseIsWhole t (noted_of k.notes) base) (sym text_is) entry.whole;
      };
      left = left_then still_running k.own.seen x1.history x2.history sees.earlier sees.later wrote sees.grows;
    }

-- what was read of notes, where it is what the beginning knows
pub enters_first : (tells : Bool) (b : Begun) (entry : Entry) (world : World) → IsTrue tells → b.knows ≡ known_of entry.counts → world.history ≡ b.first
    → EntersSince tells entry b.asked world → EntersAt b.knows (option_map (λ text. text.items) entry.base) b.asked b.first
enters_first tells b entry world is knows first enters =
    subst (λ (k : Knowing). EntersAt k (option_map (λ text. text.items) entry.base) b.asked b.first) (sym knows)
    (subst (λ (h : List Moment). EntersAt (known_of entry.counts) (option_map (λ text. text.items) entry.base) b.asked h) first (enters is))
