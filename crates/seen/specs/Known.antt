-- What is known when a build begins, in the words of the laws of notes, and what may be noted.
use Rattle.std.specs.Prelude.{◌≡◌, ℕ, Bool, is_some, List, Option, Some, Vec}
use Rattle.std.specs.Option.{option_map}
use Rattle.std.specs.declared.alloc.Global.{Global}
use Rattle.log_text.specs.declared.tail.Tail.{Tail}
use Rattle.log_text.specs.Text.{IsRead}
use Rattle.model.specs.World.{World}
use Rattle.seen_log.specs.declared.note.Note.{Note}
use Rattle.seen_log.specs.Log.{noted_in_force}
use Rattle.seen_log.specs.Record.{forms}
use Rattle.seen_true.specs.Counting.{Knowing, telling}
use Rattle.seen_true.specs.Laws.{found_number}
use Rattle.seen_true.specs.Going.{BaseIsWhole, Notes}
use Rattle.seen.specs.declared.answer.Looked.{Looked}
use Rattle.seen.specs.declared.counts.Counts.{Counts}
use Rattle.seen.specs.Beginning.{noted_of, past_of, telling_of}
use Rattle.seen.specs.Begun.{Begun}
use Rattle.seen.specs.Judged.{judged}
use Rattle.seen.specs.Makers.{made_in, maker_of}
use Rattle.seen.specs.Noting.{LeftOf, SeenOf}
use Rattle.seen.specs.Own.{is_own}

-- that which is known when a build begins
abbrev pub known_of : Counts → Knowing
known_of k = record {
  noted = noted_of k.notes;
  is_output = λ p. is_some (maker_of k.makers p);
  is_own = is_own k.own;
  number = k.number;
  makes = made_in k.makers.listed.items k.makers.listed.items;
  seen = k.own.seen;
}

-- ---- when a build begins

-- what is known is what this text of the notes tells, and behind that lines may be put, or behind the text that takes its place
pub record IsEntryOf (text : List ℕ) (k : Counts) (base : Option (List ℕ)) : Type 0 where
  pub records : List Note
  pub tail : Tail
  pub read : IsRead forms text records tail
  pub is : (p : List ℕ) → noted_of k.notes p ≡ noted_in_force records p
  pub whole : BaseIsWhole text (noted_of k.notes) base

-- the text, if there is one, may take the place of a text that tells these records
abbrev pub TakesPlace : List ℕ → List Note → Option (Vec ℕ Global) → Type 0
TakesPlace text records base = BaseIsWhole text (noted_in_force records) (option_map (λ (told : Vec ℕ Global). told.items) base)

-- ---- numbers

-- the number under which a file of this stamp and size is noted, if it is
abbrev pub number_by : Counts → (since : Option ℕ) → List ℕ → (stamp size : ℕ) → Option ℕ
number_by k since p stamp size = (judged (past_of k.notes k.makers since p) k.number (Some (record { stamp = stamp; size = Some size; placed = stamp }))).number

-- by what was known it is the same
abbrev pub NumbersSo : Knowing → Counts → Type 0
NumbersSo knows k = (p : List ℕ) (since : Option ℕ) (stamp size : ℕ) → found_number (knows.noted p) (knows.is_output p) knows.number since stamp size ≡ number_by k since p stamp size

-- What was seen of the path may be noted: a line of that keeps the notes true. So may what its command left.
abbrev pub MaySee : (tells : Bool) → Begun → World → List ℕ → Looked → Type 0
MaySee tells b world p looked =
    (base : Option (List ℕ)) (lines more : List ℕ) → SeenOf looked.found looked.how looked.last p lines more → Notes tells b base lines world → Notes tells b base more world

abbrev pub MayLeave : (tells : Bool) → Begun → World → List ℕ → Looked → Type 0
MayLeave tells b world p looked =
    (base : Option (List ℕ)) (lines more : List ℕ) → LeftOf looked.found looked.counts looked.last p lines more → Notes tells b base lines world → Notes tells b base more world

-- How files are told by what is known is as the laws of notes have it.
abbrev pub TellingsAreSame : Type 0
TellingsAreSame = (k : Counts) → telling_of k.notes k.makers k.own k.number ≡ telling (known_of k)
