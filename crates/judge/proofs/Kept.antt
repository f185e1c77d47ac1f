-- Paths that keep their files through calls that only look.
use Rattle.std.proofs.Common.{◌≡◌, ℕ, Bool, true, List, [], ◌++◌, Option, inl, inr, length, sym, ◌∙◌, ap, subst, append_assoc, slice_set, ◌<◌}
use Rattle.std.proofs.lemmas.List.{append-nil, get_or-set_same, get_or-set_other}
use Rattle.model.specs.declared.event.Moment.{Moment}
use Rattle.model.specs.World.{File, file_at, stamp_of}
use Rattle.model.specs.Calls.{Sees}
use Rattle.paths.specs.Told.{text_at}
use Rattle.judge.specs.declared.looks.Look.{Look}
use Rattle.judge.specs.declared.looks.Look.TheVariants.{Unasked}
use Rattle.judge.specs.Seen.{look_at, look_of, is_asked, AreKept, AreSeenOf, IsStampIn}
use Rattle.judge.proofs.Numbers.{same_or_other}

-- ---- one call after another

module _ (set : List ℕ → Bool) (a b c one two : List Moment) (first : b ≡ a ++ one) (second : c ≡ b ++ two) (kept : AreKept set a c) where
  pub kept_before : AreKept set a b
  kept_before p is earlier later grows =
      kept p is earlier (later ++ two) (second ∙ (ap (λ (l : List Moment). l ++ two) grows ∙ (append_assoc a (earlier ++ later) two ∙ ap (λ (l : List Moment). a ++ l) (append_assoc earlier later two))))

  pub kept_after : AreKept set b c
  kept_after p is earlier later grows =
      ap (λ (l : List Moment). file_at l p) (ap (λ (l : List Moment). l ++ earlier) first ∙ append_assoc a one earlier)
      ∙ (kept p is (one ++ earlier) later (grows ∙ (ap (λ (l : List Moment). l ++ (earlier ++ later)) first ∙ (append_assoc a one (earlier ++ later) ∙ ap (λ (l : List Moment). a ++ l) (sym (append_assoc one earlier later)))))
      ∙ (sym (kept p is one two (second ∙ (ap (λ (l : List Moment). l ++ two) first ∙ append_assoc a one two)))
      ∙ ap (λ (l : List Moment). file_at l p) (sym first)))

-- ---- one call

module _ (set : List ℕ → Bool) (old new more : List Moment) (grows : new ≡ old ++ more) (kept : AreKept set old new) where
  -- the file after the call is that before it
  pub file_kept : (p : List ℕ) → set p ≡ true → file_at new p ≡ file_at old p
  file_kept p is = ap (λ (l : List Moment). file_at l p) grows ∙ kept p is more [] (grows ∙ ap (λ (l : List Moment). old ++ l) (sym (append-nil more)))

  -- what was seen before is so after it
  pub seen_kept : (paths : List (List ℕ)) (seen : List Look) → AreSeenOf set paths old seen → AreSeenOf set paths new seen
  seen_kept paths seen are p asked is = are p asked is ∙ ap (λ (f : Option File). look_of (stamp_of f)) (sym (file_kept (text_at paths p) is))

pub seen_more : (set : List ℕ → Bool) (paths : List (List ℕ)) (files : List Moment) (seen : List Look) (p : ℕ) (stamp : Option ℕ) → p < length seen → AreSeenOf set paths files seen
    → IsStampIn (text_at paths p) stamp set files → AreSeenOf set paths files (slice_set seen p (look_of stamp))
seen_more set paths files seen p stamp lt are is_stamp q = elim (same_or_other p q) [
  | inl here ↦ subst (λ (n : ℕ). is_asked (look_at (slice_set seen p (look_of stamp)) n) ≡ true → set (text_at paths n) ≡ true → look_at (slice_set seen p (look_of stamp)) n ≡ look_of (stamp_of (file_at files (text_at paths n)))) (sym here)
      (λ asked is. get_or-set_same seen p (look_of stamp) Unasked lt ∙ ap look_of (is_stamp is))
  | inr other ↦
      let same : look_at (slice_set seen p (look_of stamp)) q ≡ look_at seen q = get_or-set_other seen p q (look_of stamp) Unasked other in
      (λ asked is. same ∙ are q (sym (ap is_asked same) ∙ asked) is)
]

-- a stamp that was seen in the call
pub stamp_kept : (set : List ℕ → Bool) (path : List ℕ) (stamp : Option ℕ) (old new : List Moment) → Sees (λ history. stamp_of (file_at history path)) stamp old new → AreKept set old new → IsStampIn path stamp set new
stamp_kept set path stamp old new sees kept is =
    sees.is ∙ ap stamp_of (kept path is sees.earlier sees.later sees.grows ∙ sym (file_kept set old new (sees.earlier ++ sees.later) sees.grows kept path is))
