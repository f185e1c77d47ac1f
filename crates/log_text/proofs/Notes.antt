-- What is noted of texts, and fields that stand in front of bytes.
use Rattle.std.proofs.Common.{◌≡◌, ◌≢◌, inl, inr, ℕ, zero, suc, ◌+◌, ◌-◌, ◌<◌, ◌≤◌, ◌∷◌, ◌++◌, [], List, length, take, get_or, set, Option, Some, None, slice_get, Bor, refl, sym, ap, ◌∙◌, subst, arith}
use Rattle.std.specs.Prelude.{IfSome, IfNone, MatchOption}
use Rattle.std.specs.List.{flat_map}
use Rattle.std.specs.Str.{IsUtf8}
use Rattle.std.proofs.lemmas.Bool.Decides.{eqb_tells}
use Rattle.std.proofs.Math.Seq.{take-append_seam}
use Rattle.std.proofs.lemmas.List.{length-append, length-set, get_or-set_same, get_or-set_other, append-nil, append_assoc}
use Rattle.std.proofs.lemmas.List.Concat.{flat_map-append}
use Rattle.std.proofs.lemmas.Option.{slice_get_within, slice_get-get_or, slice_get_read, get_or_from_slice_get}
use Rattle.log_text.specs.Line.{field_and_tab, IsPlain, AreTexts}
use Rattle.log_text.specs.Kept.{AreNumbersOf}
use Rattle.log_text.specs.Noted.{IsPlainAt, IsGuessIn, IsNoteIn, AreNotesOf, AreRunsOf}
use Rattle.log_text.specs.Taken.{AreTakenFrom, SomeAreTakenBehind}
use Rattle.log_text.specs.declared.texts.Note.{Note}
use Rattle.log_text.specs.declared.texts.Guess.{Guess}
use Rattle.log_text.specs.declared.texts.Run.{Run}
use Rattle.log_text.proofs.Escapes.{field_text-plain}
use Rattle.log_text.proofs.KeptRecords.{get_grown, get_push, numbers_push, numbers_grown}

plain_grown : (texts more : List (List ℕ)) (n : ℕ) → IsPlainAt texts n → IsPlainAt (texts ++ more) n
plain_grown texts more n is = (is.0, get_grown texts more n is.0 is.1, is.2)

guess_grown : (texts more : List (List ℕ)) (guess : Option Guess) → IsGuessIn texts guess → IsGuessIn (texts ++ more) guess
guess_grown texts more None is = tt
guess_grown texts more (Some guess) is = plain_grown texts more guess.number is

pub same_some : (a b : List ℕ) → Some a ≡ Some b → a ≡ b
same_some a b e = cc

pub stripped : (bytes start : List ℕ) (found : Option (Bor (List ℕ))) → MatchOption found ((rest : List ℕ) → bytes ≢ start ++ rest) (λ rest. bytes ≡ start ++ rest.now) → IfSome found (λ rest. bytes ≡ start ++ rest.now)
stripped bytes start None is = tt
stripped bytes start (Some rest) is = is

pub at_some : {A : Type 0} (P : A → Type 0) (found : Option A) (x : A) → found ≡ Some x → IfSome found P → P x
at_some P found x e is = subst (λ (r : Option _). IfSome r P) e is

pub if_none : {A : Type 0} (found : Option A) {P : Type 0} → P → IfNone found P
if_none None p = p
if_none (Some x) p = tt

-- one text more, of which nothing is guessed
pub notes_push : (texts : List (List ℕ)) (notes : List Note) (text : List ℕ) → AreNotesOf texts notes → AreNotesOf (texts ++ text ∷ []) (notes ++ record { next = None; other = None } ∷ [])
notes_push texts notes text are n note at = elim (get_push notes (record { next = None; other = None }) n note at) [
  | inl old ↦
      let is = are n note old in
      record { next = guess_grown texts (text ∷ []) note.next is.next; other = guess_grown texts (text ∷ []) note.other is.other }
  | inr end ↦ subst (IsNoteIn (texts ++ text ∷ [])) end.1 (record { next = tt; other = tt })
]

-- a note more, in which nothing is guessed
pub notes_none : (texts : List (List ℕ)) (notes : List Note) → AreNotesOf texts notes → AreNotesOf texts (notes ++ record { next = None; other = None } ∷ [])
notes_none texts notes are n note at = elim (get_push notes (record { next = None; other = None }) n note at) [
  | inl old ↦ are n note old
  | inr end ↦ subst (IsNoteIn texts) end.1 (record { next = tt; other = tt })
]

-- notes of some texts are notes of these and more
pub notes_grown : (texts more : List (List ℕ)) (notes : List Note) → AreNotesOf texts notes → AreNotesOf (texts ++ more) notes
notes_grown texts more notes are n note at =
    let is = are n note at in
    record { next = guess_grown texts more note.next is.next; other = guess_grown texts more note.other is.other }

-- notes and others behind them
pub notes_append : (texts : List (List ℕ)) (xs ys : List Note) → AreNotesOf texts xs → AreNotesOf texts ys → AreNotesOf texts (xs ++ ys)
notes_append texts [] ys are others n note at = others n note at
notes_append texts (x ∷ xs) ys are others zero note at = are zero note at
notes_append texts (x ∷ xs) ys are others (suc n) note at = notes_append texts xs ys (λ m t here. are (suc m) t here) others n note at

-- what is guessed is the number of a plain text
pub guess_plain : (texts : List (List ℕ)) (guess : Option Guess) → IsGuessIn texts guess → IfSome guess (λ g. IsPlainAt texts g.number)
guess_plain texts None is = tt
guess_plain texts (Some guess) is = is

pub note_read : (notes slice : List Note) (n : ℕ) (note : Note) → n < length slice → note ≡ get_or slice n note → slice ≡ notes → slice_get notes n ≡ Some note
note_read notes slice n note within read same = subst (λ (l : List Note). slice_get l n ≡ Some note) same (slice_get_read slice (length slice) n note refl within read)

-- another note in the place of one
pub notes_set : (texts : List (List ℕ)) (notes : List Note) (k : ℕ) (new : Note) → AreNotesOf texts notes → k < length notes → IsNoteIn texts new → AreNotesOf texts (set notes k new)
notes_set texts notes k new are within is n note at =
    let read : get_or (set notes k new) n note ≡ note = get_or_from_slice_get (set notes k new) n note note at in
    elim (eqb_tells n k) [
      | inl here ↦
          let mine : new ≡ note = sym (get_or-set_same notes k new note within) ∙ (ap (λ (i : ℕ). get_or (set notes k new) i note) (sym here.1) ∙ read) in
          subst (IsNoteIn texts) mine is
      | inr other ↦
          let low : n < length notes = let len = length-set notes k new in let in_new = slice_get_within (set notes k new) n note at in omega arith in
          are n note (slice_get-get_or notes n note low ∙ ap (λ (x : Note). Some x) (sym (get_or-set_other notes k n new note other.1) ∙ read))
    ]

-- a guess more of a text: the newer of its two takes the place of the other
pub notes_put : (texts : List (List ℕ)) (notes : List Note) (k : ℕ) (old : Note) (guess : Option Guess) → AreNotesOf texts notes → k < length notes → slice_get notes k ≡ Some old → IsGuessIn texts guess → AreNotesOf texts (set notes k (record { next = guess; other = old.next }))
notes_put texts notes k old guess are within at is = notes_set texts notes k (record { next = guess; other = old.next }) are within (record { next = is; other = (are k old at).next })

-- a plain text and a tab are its field and the tab
pub field_in_front : (text after : List ℕ) → IsPlain text → text ++ 9 ∷ after ≡ field_and_tab text ++ after
field_in_front text after plain =
    sym (append_assoc text (9 ∷ []) after) ∙ ap (λ (l : List ℕ). (l ++ 9 ∷ []) ++ after) (sym (field_text-plain text plain.0 plain.1 plain.2))

texts_push : (texts : List (List ℕ)) (text : List ℕ) → AreTexts texts → IsUtf8 text → AreTexts (texts ++ text ∷ [])
texts_push [] text are utf8 = (utf8, tt)
texts_push (t ∷ texts) text are utf8 = (are.0, texts_push texts text are.1 utf8)

-- nothing is taken yet
pub taken_none : (known : List (List ℕ)) (bytes : List ℕ) → AreTakenFrom known bytes 0 [] bytes
taken_none known bytes = record { texts = []; spelled = refl; utf8 = tt; many = refl; numbered = tt }

pub taken_grown : (known more : List (List ℕ)) (bytes : List ℕ) (count : ℕ) (numbers rest : List ℕ) → AreTakenFrom known bytes count numbers rest → AreTakenFrom (known ++ more) bytes count numbers rest
taken_grown known more bytes count numbers rest are = record {
  texts = are.texts;
  spelled = are.spelled;
  utf8 = are.utf8;
  many = are.many;
  numbered = numbers_grown known more numbers are.texts are.numbered;
}

-- one field more
pub taken_more : (known : List (List ℕ)) (bytes : List ℕ) (count : ℕ) (numbers rest : List ℕ) (number : ℕ) (text after : List ℕ) → AreTakenFrom known bytes count numbers rest → slice_get known number ≡ Some text → IsUtf8 text → rest ≡ field_and_tab text ++ after
    → AreTakenFrom known bytes (count + 1) (numbers ++ number ∷ []) after
taken_more known bytes count numbers rest number text after are at utf8 e = record {
  texts = are.texts ++ text ∷ [];
  spelled =
      are.spelled
      ∙ (ap (λ (l : List ℕ). flat_map field_and_tab are.texts ++ l) e
      ∙ (sym (append_assoc (flat_map field_and_tab are.texts) (field_and_tab text) after)
      ∙ ap (λ (l : List ℕ). l ++ after) (ap (λ (l : List ℕ). flat_map field_and_tab are.texts ++ l) (sym (append-nil (field_and_tab text))) ∙ sym (flat_map-append field_and_tab are.texts (text ∷ [])))));
  utf8 = texts_push are.texts text are.utf8 utf8;
  many = length-append are.texts (text ∷ []) ∙ ap (λ (n : ℕ). n + 1) are.many;
  numbered = numbers_push known numbers are.texts number text are.numbered at;
}

pub taken_push : (known : List (List ℕ)) (bytes numbers new rest : List ℕ) (number : ℕ) (text after : List ℕ) → AreTakenFrom known bytes (length numbers) numbers rest → new ≡ numbers ++ number ∷ [] → slice_get known number ≡ Some text → IsUtf8 text → rest ≡ field_and_tab text ++ after
    → AreTakenFrom known bytes (length new) new after
taken_push known bytes numbers new rest number text after are pushed at utf8 e =
    subst (λ (ns : List ℕ). AreTakenFrom known bytes (length ns) ns after) (sym pushed)
    (subst (λ (n : ℕ). AreTakenFrom known bytes n (numbers ++ number ∷ []) after) (sym (length-append numbers (number ∷ []))) (taken_more known bytes (length numbers) numbers rest number text after are at utf8 e))

-- ---- runs

texts_append : (xs ys : List (List ℕ)) → AreTexts xs → AreTexts ys → AreTexts (xs ++ ys)
texts_append [] ys are others = others
texts_append (x ∷ xs) ys are others = (are.0, texts_append xs ys are.1 others)

numbers_append : (known : List (List ℕ)) (ns ms : List ℕ) (ts us : List (List ℕ)) → AreNumbersOf known ns ts → AreNumbersOf known ms us → AreNumbersOf known (ns ++ ms) (ts ++ us)
numbers_append known [] ms [] us are others = others
numbers_append known [] ms (t ∷ ts) us are others = absurd are
numbers_append known (n ∷ ns) ms [] us are others = absurd are
numbers_append known (n ∷ ns) ms (t ∷ ts) us are others = (are.0, numbers_append known ns ms ts us are.1 others)

-- what was taken, and what was taken behind it
pub taken_append : (known : List (List ℕ)) (bytes : List ℕ) (count : ℕ) (numbers rest : List ℕ) (more : ℕ) (others after : List ℕ) → AreTakenFrom known bytes count numbers rest → AreTakenFrom known rest more others after → AreTakenFrom known bytes (count + more) (numbers ++ others) after
taken_append known bytes count numbers rest more others after first then = record {
  texts = first.texts ++ then.texts;
  spelled =
      first.spelled
      ∙ (ap (λ (l : List ℕ). flat_map field_and_tab first.texts ++ l) then.spelled
      ∙ (sym (append_assoc (flat_map field_and_tab first.texts) (flat_map field_and_tab then.texts) after)
      ∙ ap (λ (l : List ℕ). l ++ after) (sym (flat_map-append field_and_tab first.texts then.texts))));
  utf8 = texts_append first.texts then.texts first.utf8 then.utf8;
  many = length-append first.texts then.texts ∙ (ap (λ (n : ℕ). n + length then.texts) first.many ∙ ap (λ (n : ℕ). count + n) then.many);
  numbered = numbers_append known numbers others first.texts then.texts first.numbered then.numbered;
}

-- the same behind numbers that were there
pub taken_behind : (known : List (List ℕ)) (bytes old new rest : List ℕ) (most : ℕ) (after : List ℕ) → AreTakenFrom known bytes (length old) old rest → SomeAreTakenBehind known old rest most new after → AreTakenFrom known bytes (length new) new after
taken_behind known bytes old new rest most after before is =
    subst (λ (ns : List ℕ). AreTakenFrom known bytes (length ns) ns after) (sym is.pushed)
    (subst (λ (n : ℕ). AreTakenFrom known bytes n (old ++ is.more) after) (sym (length-append old is.more)) (taken_append known bytes (length old) old rest (length is.more) is.more after before is.taken))

-- bytes that go on behind a run
pub taken_whole : (known : List (List ℕ)) (run : List ℕ) (count : ℕ) (numbers bytes after : List ℕ) → AreTakenFrom known run count numbers [] → bytes ≡ run ++ after → AreTakenFrom known bytes count numbers after
taken_whole known run count numbers bytes after are e = record {
  texts = are.texts;
  spelled = e ∙ ap (λ (l : List ℕ). l ++ after) (are.spelled ∙ append-nil (flat_map field_and_tab are.texts));
  utf8 = are.utf8;
  many = are.many;
  numbered = are.numbered;
}

pub taken_within : (known : List (List ℕ)) (bytes : List ℕ) (count : ℕ) (numbers after : List ℕ) → AreTakenFrom known bytes count numbers after → length after ≤ length bytes
taken_within known bytes count numbers after are =
    let len : length bytes ≡ length (flat_map field_and_tab are.texts) + length after = ap length are.spelled ∙ length-append (flat_map field_and_tab are.texts) after in
    omega arith

-- what stands in front of the rest is a run
pub front_taken : (known : List (List ℕ)) (bytes : List ℕ) (count : ℕ) (numbers after front : List ℕ) → AreTakenFrom known bytes count numbers after → front ≡ take (length bytes - length after) bytes → AreTakenFrom known front count numbers []
front_taken known bytes count numbers after front are e =
    let all = flat_map field_and_tab are.texts in
    let len : length bytes ≡ length all + length after = ap length are.spelled ∙ length-append all after in
    let many : length bytes - length after ≡ length all = omega arith in
    record {
      texts = are.texts;
      spelled = e ∙ (ap (λ (n : ℕ). take n bytes) many ∙ (ap (take (length all)) are.spelled ∙ (take-append_seam all after ∙ sym (append-nil all))));
      utf8 = are.utf8;
      many = are.many;
      numbered = are.numbered;
    }

pub runs_grown : (texts more : List (List ℕ)) (runs : List Run) → AreRunsOf texts runs → AreRunsOf (texts ++ more) runs
runs_grown texts more runs are n run at = taken_grown texts more run.bytes (length run.numbers) run.numbers [] (are n run at)

pub runs_push : (texts : List (List ℕ)) (runs : List Run) (new : Run) → AreRunsOf texts runs → AreTakenFrom texts new.bytes (length new.numbers) new.numbers [] → AreRunsOf texts (runs ++ new ∷ [])
runs_push texts runs new are taken n run at = elim (get_push runs new n run at) [
  | inl old ↦ are n run old
  | inr end ↦ subst (λ (r : Run). AreTakenFrom texts r.bytes (length r.numbers) r.numbers []) end.1 taken
]

pub run_read : (runs slice : List Run) (n : ℕ) (run : Run) → n < length slice → run ≡ get_or slice n run → slice ≡ runs → slice_get runs n ≡ Some run
run_read runs slice n run within read same = subst (λ (l : List Run). slice_get l n ≡ Some run) same (slice_get_read slice (length slice) n run refl within read)

pub taken_one : (known : List (List ℕ)) (bytes : List ℕ) (number : ℕ) (text after : List ℕ) → slice_get known number ≡ Some text → IsUtf8 text → bytes ≡ field_and_tab text ++ after → AreTakenFrom known bytes 1 (number ∷ []) after
taken_one known bytes number text after at utf8 e = taken_more known bytes 0 [] bytes number text after (taken_none known bytes) at utf8 e
