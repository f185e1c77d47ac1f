-- What is as noted counts as before, whatever else is known.
use Rattle.std.proofs.Common.{◌≡◌, ℕ, Bool, true, false, if◌then◌else◌, ◌&&◌, not, max, is_some, List, Option, Some, None, refl, sym, ◌∙◌, ap}
use Rattle.std.specs.Option.{option_map}
use Rattle.model.specs.Graph.{has}
use Rattle.seen_law.specs.Retold.{stamp_told}
use Rattle.seen_log.specs.declared.note.Last.{Last}
use Rattle.seen_log.specs.declared.note.Noted.{Noted}
use Rattle.seen_log.specs.Keeping.{last_of}
use Rattle.seen_log.specs.Log.{counts_of}
use Rattle.seen.specs.declared.answer.Looked.{Looked}
use Rattle.seen.specs.declared.counts.Counts.{Counts}
use Rattle.seen.specs.declared.judging.Judged.{Judged}
use Rattle.measure.specs.declared.measure.Measure.{Measure}
use Rattle.seen.specs.Answered.{counted_by, placed_by}
use Rattle.seen.specs.Beginning.{past_of, started_by}
use Rattle.seen_true.specs.Counting.{is_as_noted, is_turned}
use Rattle.seen.specs.Judged.{already, judged, plainly, turned, under as noted_under}
use Rattle.seen.specs.Looking.{judged_there, looked_there}
use Rattle.seen.specs.Makers.{maker_of}
use Rattle.seen.proofs.Faith.{some_is, none_some}

by_known : (as_noted over is_output : Bool) (c : ℕ) (how : Judged) → (if as_noted && not over then Some (plainly (Some c)) else None) ≡ Some how → (b : Judged)
    → how ≡ (if as_noted then (if is_output && over then plainly None else plainly (Some c)) else b)
by_known true false true c how is b = sym (some_is is)
by_known true false false c how is b = sym (some_is is)
by_known true true is_output c how is b = absurd (none_some is)
by_known false over is_output c how is b = absurd (none_some is)

counts_so : (noted : Option Noted) (is_output : Bool) (since : Option ℕ) (number : ℕ) (found : Option Measure) (how : Judged) → already noted found ≡ Some how
    → how ≡ judged (record { noted = noted; is_output = is_output; since = since }) number found
counts_so noted is_output since number None how is = away noted is
  where
    away : (known : Option Noted) → already known None ≡ Some how → how ≡ judged (record { noted = known; is_output = is_output; since = since }) number None
    away None so = absurd (none_some so)
    away (Some n) so = sym (some_is so)
counts_so noted is_output since number (Some found) how is = sized noted found.size is
  where
    sized : (known : Option Noted) (size : Option ℕ) → already known (Some (record { stamp = found.stamp; size = size; placed = found.placed })) ≡ Some how
        → how ≡ judged (record { noted = known; is_output = is_output; since = since }) number (Some (record { stamp = found.stamp; size = size; placed = found.placed }))
    sized known None so = sym (some_is so)
    sized None (Some size) so = absurd (none_some so)
    sized (Some n) (Some size) so = by_known (is_as_noted n found.stamp size) (is_turned n.kind) is_output (counts_of n) how so
        (if is_output then plainly None else noted_under (max number found.placed) (turned n.kind))

-- when it was put there is not asked for
placed_same : (noted : Option Noted) (is_made : Bool) (found : Option Measure) → already noted (placed_by is_made found) ≡ already noted found
placed_same noted is_made None = refl
placed_same noted false (Some found) = refl
placed_same noted true (Some found) = refl

if_counts : (b : Bool) (c : ℕ) (how : Judged) → (if b then Some (plainly (Some c)) else None) ≡ Some how → (stamp : ℕ) × (how.counts ≡ Some stamp)
if_counts true c how is = (c, ap (λ (j : Judged). j.counts) (sym (some_is is)))
if_counts false c how is = absurd (none_some is)

-- a file that is there counts then
file_counts : (noted : Option Noted) (found : Measure) (how : Judged) → already noted (Some found) ≡ Some how → (stamp : ℕ) × (how.counts ≡ Some stamp)
file_counts noted found how is = sized noted found.size is
  where
    sized : (known : Option Noted) (size : Option ℕ) → already known (Some (record { stamp = found.stamp; size = size; placed = found.placed })) ≡ Some how → (stamp : ℕ) × (how.counts ≡ Some stamp)
    sized known None so = (found.stamp, ap (λ (j : Judged). j.counts) (sym (some_is so)))
    sized None (Some size) so = absurd (none_some so)
    sized (Some n) (Some size) so = if_counts (is_as_noted n found.stamp size && not (is_turned n.kind)) (counts_of n) how so

counted_so : (noted : Option Noted) (found : Option Measure) (how : Judged) (started : Option ℕ) → already noted found ≡ Some how → how.counts ≡ counted_by how started found
counted_so noted None how started is = away noted is
  where
    away : (known : Option Noted) → already known None ≡ Some how → how.counts ≡ None
    away None so = absurd (none_some so)
    away (Some n) so = ap (λ (j : Judged). j.counts) (sym (some_is so))
counted_so noted (Some found) how started is =
    let so = file_counts noted found how is in
    so.1 ∙ sym (ap (λ (c : Option ℕ). stamp_told c started found.stamp) so.1)

-- so it is seen of a path of which this is kept
pub already_there : (k : Counts) (p : List ℕ) (found : Option Measure) (last : Option Last) (noted : Option Noted) (how : Judged)
    → last ≡ last_of k.notes p → noted ≡ option_map (λ it. it.noted) last → Some how ≡ already noted found
    → record { counts = how.counts; found = found; last = last; how = how } ≡ looked_there k p found
already_there k p found last noted how last_is noted_is is =
    let counts = counted_so noted found how (started_by k.starts.items (maker_of k.makers p)) (sym is) in
    let so : how ≡ judged_there k p found =
    counts_so noted (is_some (maker_of k.makers p)) k.first_start k.number (placed_by (has k.made p) found) how (placed_same noted (has k.made p) found ∙ sym is)
    ∙ ap (λ (n : Option Noted). judged (record { noted = n; is_output = is_some (maker_of k.makers p); since = k.first_start }) k.number (placed_by (has k.made p) found))
    (noted_is ∙ ap (option_map (λ it. it.noted)) last_is) in
    (λ i. looked (counts i) last how)
    ∙ ((λ i. looked (counted_by (so i) (started_by k.starts.items (maker_of k.makers p)) found) (last_is i) (so i)))
  where
    looked : Option ℕ → Option Last → Judged → Looked
    looked counts l j = record { counts = counts; found = found; last = l; how = j }
