-- What counts, by what is noted.
use Rattle.std.proofs.Common.{◌≡◌, ◌⊎◌, ◌≤◌, ℕ, Bool, true, false, inl, inr, None, Some, if◌then◌else◌, refl, arith, max, ◌&&◌}
use Rattle.seen_log.specs.declared.note.Noted.{Noted}
use Rattle.seen_log.specs.Log.{counts_of}
use Rattle.seen_true.specs.Counting.{is_as_noted, is_turned}
use Rattle.seen.specs.Between.{CountsEither, NumberIsLater}
use Rattle.seen.specs.Judged.{judged_noted, judged_same, plainly, turned, under as noted_under}

some_same : {a b : ℕ} → Some a ≡ Some b → b ≡ a
some_same e = cc

pub some_is : {X : Type 0} {a b : X} → Some a ≡ Some b → a ≡ b
some_is e = cc

pub none_some : {X : Type 0} {a : X} → None ≡ Some a → ⊥
none_some e = cc

-- ---- what is noted, and what is found

module _ (noted : Noted) (number placed counts : ℕ) where
  no_less : counts ≡ max number placed → number ≤ counts
  no_less is = omega (arith, is)

  by_turned : (over : Bool) → (if over then plainly None else plainly (Some (counts_of noted))).counts ≡ Some counts → counts ≡ counts_of noted
  by_turned true is = absurd (none_some is)
  by_turned false is = some_same is

  by_kind : (is_output : Bool) → (if is_output then plainly None else noted_under (max number placed) (turned noted.kind)).counts ≡ Some counts → (is_output ≡ false) × (number ≤ counts)
  by_kind true is = absurd (none_some is)
  by_kind false is = (refl, no_less (some_same is))

  by_note : (is_output as_noted : Bool) → (if as_noted then judged_same noted is_output else (if is_output then plainly None else noted_under (max number placed) (turned noted.kind))).counts ≡ Some counts
      → ((as_noted ≡ true) × (counts ≡ counts_of noted)) ⊎ ((is_output ≡ false) × (number ≤ counts))
  by_note is_output true is = inl (refl, by_turned (is_output && is_turned noted.kind) is)
  by_note is_output false is = inr (by_kind is_output is)

-- of what is noted: it is as noted and counts as before; or it is a source, and counts under the number at least
either : (noted : Noted) (is_output : Bool) (number stamp size placed counts : ℕ) → (judged_noted noted is_output number stamp size placed).counts ≡ Some counts
    → ((is_as_noted noted stamp size ≡ true) × (counts ≡ counts_of noted)) ⊎ ((is_output ≡ false) × (number ≤ counts))
either noted is_output number stamp size placed counts is = by_note noted number placed counts is_output (is_as_noted noted stamp size) is

pub counts_either_law : CountsEither
counts_either_law noted is_output number stamp size placed counts is = elim (either noted is_output number stamp size placed counts is) [
  | inl before ↦ inl before
  | inr source ↦ inr source.1
]

pub number_is_later_law : NumberIsLater
number_is_later_law start greatest a b = (omega (arith, a, b), omega (arith, a, b))
