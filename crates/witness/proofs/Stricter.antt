-- The premises in stricter words imply those of today.
use Rattle.std.proofs.Common.{◌≡◌, ◌⊎◌, inl, inr, ℕ, zero, suc, ◌<◌, ◌≤◌, max, true, List, [], ◌∷◌, ◌++◌, Some, refl, sym, ◌∙◌, ap, subst, arith}
use Rattle.std.proofs.Math.Nat.{le-max_left, le-max_right, max-eq_left, max-eq_right}
use Rattle.std.proofs.lemmas.Bool.{false≢true}
use Rattle.model.specs.declared.event.Event.TheVariants.{Start, Finish}
use Rattle.model.specs.declared.event.Moment.{Moment}
use Rattle.model.specs.declared.event.Moment.TheVariants.{Wrote, Happened}
use Rattle.model.specs.declared.graph.Edge.{Edge}
use Rattle.model.specs.World.{latest, latest_from, next_stamp, next_from, view_of}
use Rattle.model.specs.Premises.{Increases, StampsGrow, FilesAreKept, KeepToOutputs, OwnFilesApart, NothingIsEdited, HasOneOutcome, LeftOutcome, LeaveOutcomes, none_free}
use Rattle.model.specs.Outcome.{Behaviour, given}
use Rattle.model.specs.Records.{OwnFiles}
use Rattle.model.specs.Graph.{edge_at, outputs}
use Rattle.theory.specs.Order.{LeftAsNow}
use Rattle.theory.proofs.Lists.{all_has, all_from_has}
use Rattle.theory.proofs.Looks.{logs_left, logs_unedited}
use Rattle.witness.specs.Stricter.{AreLater, AreOfWrites, StricterSuffice, LogsAreLeftByBoth}

below_or : (a b : ℕ) → (a < b) ⊎ (b ≤ a)
below_or zero zero = inr (omega arith)
below_or zero (suc b) = inl (omega arith)
below_or (suc a) zero = inr (omega arith)
below_or (suc a) (suc b) = elim (below_or a b) [
  | inl less ↦ inl (omega (arith, less))
  | inr more ↦ inr (omega (arith, more))
]

max_below : (a b c : ℕ) → a ≤ c → b ≤ c → max a b ≤ c
max_below a b c x y = elim (below_or a b) [
  | inl less ↦
      let within : a ≤ b = omega (arith, less) in
      subst (λ (k : ℕ). k ≤ c) (sym (max-eq_right within)) y
  | inr more ↦ subst (λ (k : ℕ). k ≤ c) (sym (max-eq_left more)) x
]

-- ---- stamps

-- what was written up to a point, and what starts may come behind it
parts : (n : ℕ) (xs ys : List Moment) → AreOfWrites n (xs ++ ys) → AreOfWrites n xs × AreOfWrites (latest_from n xs) ys
parts n [] ys all = (tt, all)
parts n (Wrote by path content stamp ∷ xs) ys all = parts (max n stamp) xs ys all
parts n (Happened (Start job act stamp) ∷ xs) ys all = let rest = parts n xs ys all.1 in ((all.0, rest.0), rest.1)
parts n (Happened (Finish job ok) ∷ xs) ys all = parts n xs ys all

-- so the stamp that may come next is at most one more than the latest
next_within : (next n : ℕ) (ms : List Moment) → next ≤ suc n → AreOfWrites n ms → next_from next ms ≤ suc (latest_from n ms)
next_within next n [] le all = le
next_within next n (Wrote by path content stamp ∷ ms) le all =
    let first = le-max_left n stamp in
    let second = le-max_right n stamp in
    next_within (max next stamp) (max n stamp) ms (max_below next stamp (suc (max n stamp)) (omega (arith, le, first)) (omega (arith, second))) all
next_within next n (Happened (Start job act stamp) ∷ ms) le all = let within = all.0 in next_within (max next (suc stamp)) n ms (max_below next (suc stamp) (suc n) le (omega (arith, within))) all.1
next_within next n (Happened (Finish job ok) ∷ ms) le all = next_within next n ms le all

-- stamps that are later than all before grow
grow : (next starts n : ℕ) (ms : List Moment) → next ≤ suc n → starts ≤ n → AreLater n ms → AreOfWrites starts ms → Increases next ms
grow next starts n [] le less later all = tt
grow next starts n (Wrote by path content stamp ∷ ms) le less later all =
    let after = later.0 in
    (omega (arith, le, after), grow stamp (max starts stamp) stamp ms (omega arith) (max_below starts stamp stamp (omega (arith, less, after)) (omega arith)) later.1 all)
grow next starts n (Happened (Start job act stamp) ∷ ms) le less later all =
    let within = all.0 in
    grow (max next (suc stamp)) starts n ms (max_below next (suc stamp) (suc n) le (omega (arith, within, less))) less later all.1
grow next starts n (Happened (Finish job ok) ∷ ms) le less later all = grow next starts n ms le less later all

stamps_grow : (old new : List Moment) → AreOfWrites 0 new → ((more : List Moment) → new ≡ old ++ more → AreLater (latest old) more) → StampsGrow old new
stamps_grow old new all later more grows =
    let split = parts 0 old more (subst (λ (l : List Moment). AreOfWrites 0 l) grows all) in
    grow (next_stamp old) (latest old) (latest old) more (next_within 0 0 old (omega arith) split.0) (omega arith) (later more grows) split.1

-- ---- what commands leave

-- what a command left as the files of the exit have it is what it left in a view of its own: that of these files
own_view : (B : Behaviour) (edges : List Edge) (since new at : List Moment) (i : ℕ) → HasOneOutcome B edges (view_of new) i → LeftAsNow B edges (view_of new) (view_of at) i → LeftOutcome B edges since new at i
own_view B edges since new at i one left =
    let same = one left.seen (view_of new) left.reading (λ p read. refl) left.well left.reports in
    record {
      seen = view_of new;
      well = same.ends ∙ left.well;
      unwritten = λ p none. refl;
      contents = all_from_has (λ o. view_of at o ≡ given B (edge_at edges i).act (view_of new) o) (outputs (edge_at edges i))
          (λ o h. all_has (λ q. view_of at q ≡ given B (edge_at edges i).act left.seen q) (outputs (edge_at edges i)) o left.contents h
          ∙ sym (all_has (λ q. given B (edge_at edges i).act (view_of new) q ≡ given B (edge_at edges i).act left.seen q) (outputs (edge_at edges i)) o same.contents h));
      depfile = left.depfile ∙ ap (λ (ps : List (List ℕ)). Some ps) (sym same.reports);
    }

-- ---- together

abbrev kept_by : (own : OwnFiles) (edges : List Edge) (old new : List Moment) → KeepToOutputs none_free edges old new → OwnFilesApart own edges → NothingIsEdited old new → FilesAreKept own edges old new
kept_by own edges old new commands own_files edits = record {
  free = none_free;
  free_apart = record { set = λ p h. refl; outputs = λ i p makes h. refl };
  commands = commands;
  own_files = own_files;
  edits = edits;
}

pub stricter_suffice : StricterSuffice
stricter_suffice B own declared edges recorded store steps old new judged ticked strict = record {
  premises = record {
    files = record {
      kept = kept_by own edges old new strict.commands strict.own_files strict.edits;
      quiet = λ i. true;
      alone = record { unread = λ i p quiet matters. refl; above = λ i j p quiet matters made command. refl };
      recorded_apart = strict.recorded_apart;
      stamps = stamps;
      reports = strict.reports;
      dyndep = strict.dyndep;
    };
    one_outcome = λ i quiet h. strict.one_outcome i refl h;
    left_outcomes = left;
  };
  none_free = λ p. refl;
  all_quiet = λ i. refl;
  faith = record { kept = kept_by own edges old new strict.commands strict.own_files strict.edits; unrecorded = λ p is_free. absurd (false≢true is_free); stamps = stamps; left_outcomes = left };
}
  where
    stamps : StampsGrow old new
    stamps = stamps_grow old new ticked strict.stamps

    left : LeaveOutcomes B edges steps old new
    left i at ended well before since act stamp splits = own_view B edges since new at i (strict.one_outcome i refl (judged i well)) (strict.left i at refl ended well)

pub left_by_both : LogsAreLeftByBoth
left_by_both own edges old new (inl kept) = logs_left own edges old new kept
left_by_both own edges old new (inr edits) = logs_unedited own old new edits
