-- What was read in a call was read in a longer one.
use Rattle.std.proofs.Common.{◌≡◌, ℕ, Bool, IsTrue, List, ◌++◌, sym, ◌∙◌, ap, append_assoc}
use Rattle.model.specs.declared.event.Moment.{Moment}
use Rattle.model.specs.World.{World}
use Rattle.model.specs.Calls.{OnlyLooks, Sees}
use Rattle.log_text.specs.declared.form.Version.{Version}
use Rattle.log_text.specs.Form.{Form}
use Rattle.records.specs.Held.{Held, WasRead}

sees_before : {A : Type 0} (so : List Moment → A) (seen : A) (a b c more : List Moment) → c ≡ b ++ more → Sees so seen a b → Sees so seen a c
sees_before so seen a b c more grows sees = record {
  earlier = sees.earlier;
  later = sees.later ++ more;
  grows = grows ∙ (ap (λ (h : List Moment). h ++ more) sees.grows ∙ (append_assoc a (sees.earlier ++ sees.later) more ∙ ap (λ (h : List Moment). a ++ h) (append_assoc sees.earlier sees.later more)));
  is = sees.is;
}

sees_after : {A : Type 0} (so : List Moment → A) (seen : A) (a b c more : List Moment) → b ≡ a ++ more → Sees so seen b c → Sees so seen a c
sees_after so seen a b c more grows sees = record {
  earlier = more ++ sees.earlier;
  later = sees.later;
  grows = sees.grows ∙ (ap (λ (h : List Moment). h ++ (sees.earlier ++ sees.later)) grows ∙ (append_assoc a more (sees.earlier ++ sees.later) ∙ ap (λ (h : List Moment). a ++ h) (sym (append_assoc more sees.earlier sees.later))));
  is = sees.is ∙ ap so (ap (λ (h : List Moment). h ++ sees.earlier) grows ∙ append_assoc a more sees.earlier);
}

module _ {R T : Type 0} (forms : Version → Form R) (Keeps : List R → T → Type 0) (compaction : List R → List R) (tells : Bool) (a b c : World) (rs : List R) (file : Held T) where
  pub read_before : WasRead forms Keeps compaction tells a b rs file → OnlyLooks tells b c → WasRead forms Keeps compaction tells a c rs file
  read_before read looks = record {
    content = read.content;
    read = read.read;
    seen = λ tell. let call = looks.history tell in sees_before _ read.content a.history b.history c.history call.more call.grows (read.seen tell);
  }

  pub read_after : OnlyLooks tells a b → WasRead forms Keeps compaction tells b c rs file → WasRead forms Keeps compaction tells a c rs file
  read_after looks read = record {
    content = read.content;
    read = read.read;
    seen = λ tell. let call = looks.history tell in sees_after _ read.content a.history b.history c.history call.more call.grows (read.seen tell);
  }
