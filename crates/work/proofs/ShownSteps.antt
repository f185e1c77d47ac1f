-- What a display keeps, from one call to the next.
use Rattle.std.proofs.Common.{◌≡◌, inl, inr, ℕ, ◌-◌, ◌==◌, ◌&&◌, List, [], ◌∷◌, ◌++◌, length, Bool, true, false, if◌then◌else◌, Option, None, Some, is_some, Result, Ok, Err, IfOk, OnOk, Vec, Global, refl, sym, ◌∙◌, ap, subst, arith}
use Rattle.std.proofs.lemmas.Bool.{cases_Bool, eqb-true, false≢true}
use Rattle.model.specs.declared.graph.Edge.{Edge}
use Rattle.status.specs.declared.counts.Counts.{Counts}
use Rattle.status.specs.declared.part.Part.{Part}
use Rattle.status.specs.Ending.{DepfileFault, ending_text}
use Rattle.status.specs.Screen.{held}
use Rattle.work.specs.declared.display.Progress.{Progress}
use Rattle.work.specs.Shown.{is_console, with_one_more, AreCounts, command_line, failure_of, end_text, Showing, with_unstarted, with_held, shown_now, behind, counted_off, released, shown_at_end, held_at_end, Ends, ends_silently}

module _ (old view : Showing) (same : view ≡ old) (n : ℕ) (less : n ≡ view.unstarted - 1) where
  pub counted_at_start : (progress one : Progress) (counts : Counts) → one ≡ with_one_more progress → AreCounts one n counts → AreCounts (with_one_more progress) (old.unstarted - 1) counts
  counted_at_start progress one counts is are =
      subst (λ (v : Showing). AreCounts (with_one_more progress) (v.unstarted - 1) counts) same
      (subst (λ (k : ℕ). AreCounts (with_one_more progress) k counts) less
      (subst (λ (p : Progress). AreCounts p n counts) is are))

  -- a line was handed in, and all behind it is held back
  pub held_behind : (line : List Part → Bool → List ℕ) (text : List ℕ) (shown after : Showing) (now : Option (List ℕ))
      → text ≡ line view.pattern view.verbose → shown ≡ after → after ≡ with_held (with_unstarted view n) (behind view.held text) → now ≡ Some (held shown.held)
      → with_held shown now ≡ with_held (counted_off old) (Some (held (behind old.held (line old.pattern old.verbose))))
  held_behind line text shown after now is kept shows holds =
      let counted : with_held (with_unstarted view n) (behind view.held text) ≡ with_held (counted_off view) (behind view.held text) = ap (λ (k : ℕ). with_held (with_unstarted view k) (behind view.held text)) less in
      let told : with_held (counted_off view) (behind view.held text) ≡ with_held (counted_off view) (behind view.held (line view.pattern view.verbose)) = ap (λ (t : List ℕ). with_held (counted_off view) (behind view.held t)) is in
      let from_old = ap (λ (v : Showing). with_held (counted_off v) (behind v.held (line v.pattern v.verbose))) same in
      ap (with_held shown) holds ∙ ap (λ (v : Showing). with_held v (Some (held v.held))) (kept ∙ (shows ∙ (counted ∙ (told ∙ from_old))))

-- ---- a command that has ended

pub both_ok : {T E : Type 0} {P R : T → Type 0} {Q : Type 0} (r : Result T E) → IfOk r P → OnOk r Q → ((x : T) → P x → Q → R x) → IfOk r R
both_ok (Ok x) p q f = f x p q
both_ok (Err e) p q f = tt

module _ (progress : Progress) (edge : Edge) (ok : Bool) (depfile : Option DepfileFault) (printed : List ℕ) (old new : Showing) (counts : Counts) (are : AreCounts progress old.unstarted counts)
    (text : List ℕ) (is : text ≡ end_text old.pattern old.verbose counts edge ok depfile printed) (shown : List ℕ) where
  pub ends_at_terminal : is_console edge ≡ true → shown ≡ held old.held ++ text → new ≡ released old → Ends progress edge ok depfile printed old new shown
  ends_at_terminal console now after = record {
    counts = counts;
    are = are;
    now = now ∙ (sym (ap (λ (b : Bool). if b then held old.held ++ text else shown_now old.held text) console) ∙ ap (shown_at_end edge old.held) is);
    after = after ∙ ap (with_held old) (sym (ap (λ (b : Bool). if b then None else behind old.held text) console) ∙ ap (held_at_end edge old.held) is);
  }

  pub ends_among_others : is_console edge ≡ false → shown ≡ shown_now old.held text → new ≡ with_held old (behind old.held text) → Ends progress edge ok depfile printed old new shown
  ends_among_others other now after = record {
    counts = counts;
    are = are;
    now = now ∙ (sym (ap (λ (b : Bool). if b then held old.held ++ text else shown_now old.held text) other) ∙ ap (shown_at_end edge old.held) is);
    after = after ∙ ap (with_held old) (sym (ap (λ (b : Bool). if b then None else behind old.held text) other) ∙ ap (held_at_end edge old.held) is);
  }

no_items : (xs : List ℕ) → (length xs == 0) ≡ true → xs ≡ []
no_items [] h = refl
no_items (x ∷ xs) h = let none = eqb-true (length (x ∷ xs)) 0 h in absurd (omega (arith, none))

shows_nothing : (texts : Option (List ℕ)) (text : List ℕ) → is_some texts ≡ true → shown_now texts text ≡ []
shows_nothing None text h = absurd (false≢true h)
shows_nothing (Some held) text h = refl

and_parts : (a b : Bool) → (a && b) ≡ true → (a ≡ true) × (b ≡ true)
and_parts true b h = (refl, h)
and_parts false b h = absurd (false≢true h)

module _ (progress : Progress) (edge : Edge) (ok : Bool) (depfile : Option DepfileFault) (printed : List ℕ) (old new : Showing) (shown : List ℕ) (ends : Ends progress edge ok depfile printed old new shown) (silent : ends_silently edge ok old.held ≡ true) where
  abbrev text : List ℕ
  text = end_text old.pattern old.verbose ends.counts edge ok depfile printed

  silent_at : (b : Bool) → is_console edge ≡ b → (if b then ok && (length (held old.held) == 0) else is_some old.held) ≡ true
  silent_at b is = sym (ap (λ (b : Bool). if b then ok && (length (held old.held) == 0) else is_some old.held) is) ∙ silent

  shown_at : (b : Bool) → is_console edge ≡ b → shown ≡ (if b then held old.held ++ text else shown_now old.held text)
  shown_at b is = ends.now ∙ ap (λ (b : Bool). if b then held old.held ++ text else shown_now old.held text) is

  no_text : is_console edge ≡ true → ok ≡ true → text ≡ []
  no_text console well =
      ap (λ (b : Bool). if b then ending_text (record { failure = failure_of edge ok depfile; output = [] }) else command_line old.pattern old.verbose ends.counts edge ++ ending_text (record { failure = failure_of edge ok depfile; output = printed })) console
      ∙ ap (λ (b : Bool). ending_text (record { failure = failure_of edge b depfile; output = [] })) well

  pub silent_end : shown ≡ []
  silent_end = elim (cases_Bool (is_console edge)) [
    | inl console ↦
        let both = and_parts ok (length (held old.held) == 0) (silent_at true console) in
        shown_at true console ∙ (ap (λ (l : List ℕ). l ++ text) (no_items (held old.held) both.1) ∙ no_text console both.0)
    | inr other ↦ shown_at false other ∙ shows_nothing old.held text (silent_at false other)
  ]

-- so it is of what a call gives
pub silent_ends : {E : Type 0} (progress : Progress) (edge : Edge) (ok : Bool) (depfile : Option DepfileFault) (printed : List ℕ) (old new : Showing) (r : Result (Vec ℕ Global) E)
    → IfOk r (λ shown. Ends progress edge ok depfile printed old new shown.items) → IfOk r (λ shown. ends_silently edge ok old.held ≡ true → shown.items ≡ [])
silent_ends progress edge ok depfile printed old new (Ok shown) ends = λ silent. silent_end progress edge ok depfile printed old new shown.items ends silent
silent_ends progress edge ok depfile printed old new (Err e) ends = tt
