-- The rows of what is not said where others edit.
use Rattle.std.proofs.Common.{◌≡◌, ◌⊎◌, inl, inr, ℕ, zero, suc, ◌==◌, true, false, List, [], ◌∷◌, ◌++◌, Option, Some, None, is_some, refl, sym, ◌∙◌, ap, subst, append_assoc, arith}
use Rattle.std.specs.Prelude.{codes}
use Rattle.std.proofs.lemmas.Bool.{false≢true, or_cases, eqb-true}
use Rattle.std.proofs.lemmas.List.{append_cancel_left}
use Rattle.model.specs.declared.event.Event.{Event}
use Rattle.model.specs.declared.event.Event.TheVariants.{Start, Finish}
use Rattle.model.specs.declared.event.Moment.{Moment}
use Rattle.model.specs.declared.event.Moment.TheVariants.{Wrote, Happened}
use Rattle.model.specs.declared.event.Writer.TheVariants.{Program, Someone}
use Rattle.model.specs.World.{File, content_of, file_at, view_of}
use Rattle.model.specs.Graph.{has, has_number, edge_at, outputs}
use Rattle.model.specs.Reading.{IsAlias, Itself, Wanted}
use Rattle.model.specs.Records.{Store, in_force}
use Rattle.model.specs.OutOfDate.{Counted, ListsCounted, IsVerdict, Stale}
use Rattle.model.specs.Phases.{happened_in}
use Rattle.model.specs.Premises.{none_free}
use Rattle.model.specs.SingleBuild.{MayChange, JudgedAt, IsCleanlyBuilt}
use Rattle.model.specs.Kept.{IsWritten, IsExcepted}
use Rattle.witness.specs.Small.{copy, edges, no_records, done_under}
use Rattle.witness.specs.Refused.{own, ran_well}
use Rattle.witness.specs.Edited.{entry, build}
use Rattle.witness.specs.Forbidden.{before, copied_over, put_back}
use Rattle.witness.specs.Dyndep.{text}
use Rattle.witness.specs.Unsaid.{saved, deleted, Judges, with_dd, rewritten, reads_x_early, reads_x_early_grown, z_recorded, with_z, starts_dd, behind_start, makes_x, at_first, copies_both, asked_both, copied_both, UnsaidOfOne, UnsaidOfLoads, UnsaidRows}
use Rattle.witness.proofs.RowLists.{all_has, none_some}
use Rattle.witness.proofs.Copied.{is_x, is_held}
use Rattle.witness.proofs.OneVerdict.{one_verdict, reads_one}
use Rattle.witness.proofs.ReadTooEarly.{inputs_beside}

some_none : {A : Type 0} (x : A) → Some x ≡ None → ⊥
some_none x is = cc

-- ---- the frame

is_first : (i : ℕ) → has_number (1 ∷ []) i ≡ true → i ≡ 1
is_first i h = elim (or_cases (1 == i) false h) [
  | inl same ↦ sym (eqb-true 1 i same)
  | inr other ↦ absurd (false≢true other)
]

no_text : codes "a" ≡ [] → ⊥
no_text is = cc

-- no output, depfile or response file of the one edge is `a`
not_made : MayChange own edges ran_well (codes "a") → ⊥
not_made (inl is_own) = false≢true is_own
not_made (inr (inl output)) = false≢true (subst (λ (n : ℕ). has (outputs (edge_at edges n)) (codes "a") ≡ true) (is_first output.0 output.1) output.2)
not_made (inr (inr (inl depfile))) = no_text (subst (λ (n : ℕ). codes "a" ≡ (edge_at edges n).act.depfile) (is_first depfile.0 depfile.1) depfile.2)
not_made (inr (inr (inr response))) = no_text (subst (λ (n : ℕ). codes "a" ≡ (edge_at edges n).act.response_path) (is_first response.0 response.1) response.2)

unchanged : (file_at (entry ++ build) (codes "a") ≡ file_at entry (codes "a")) ⊎ MayChange own edges ran_well (codes "a") → ⊥
unchanged (inl same) = false≢true (ap (λ (f : Option File). is_x (content_of f)) same)
unchanged (inr may) = not_made may

-- ---- verdicts

-- the edge has one input, and `b` has the record of a start under 9
of_record : (now : List Moment) → ListsCounted edges (done_under 9) now 1 (codes "a" ∷ [])
of_record now = reads_one edges (done_under 9) now 1 (codes "a") refl (λ j alias. none_some j alias.made) refl

clean : Judges copied_over copied_over false
clean = record { read = codes "a" ∷ []; counted = of_record copied_over; verdict = refl }

outdated : Judges copied_over (copied_over ++ saved) true
outdated = record { read = codes "a" ∷ []; counted = of_record (copied_over ++ saved); verdict = refl }

stale : Judges (copied_over ++ saved) (copied_over ++ saved) true
stale = record { read = codes "a" ∷ []; counted = of_record (copied_over ++ saved); verdict = refl }

renewed : Judges (copied_over ++ saved) (copied_over ++ saved ++ put_back) false
renewed = record { read = codes "a" ∷ []; counted = of_record (copied_over ++ saved ++ put_back); verdict = refl }

left_stale : Judges (entry ++ build) (entry ++ build) true
left_stale = record { read = codes "a" ∷ []; counted = of_record (entry ++ build); verdict = refl }

-- both verdicts on one edge
both : (old now : List Moment) → Judges old now false → Judges old now true → ⊥
both old now clean is = false≢true (one_verdict edges (done_under 9) [] old now 1 false true clean is)

counts_a : (store : Store) (now : List Moment) → Counted edges store now 1 (codes "a")
counts_a store now = inl (Itself 1 (codes "a") refl (inl (λ j alias. none_some j alias.made)))

-- ---- missing sources

names_none : (i : ℕ) (file : List ℕ) → (edge_at edges i).dyndep ≡ Some file → ⊥
names_none zero file is = none_some file is
names_none (suc zero) file is = none_some file is
names_none (suc (suc i)) file is = none_some file is

due_at_first : IsVerdict edges no_records [] [] [] 1 true
due_at_first = record { read = codes "a" ∷ []; counted = reads_one edges no_records [] 1 (codes "a") refl (λ j alias. none_some j alias.made) refl; verdict = refl }

-- ---- what is left

b_written : IsWritten 1 (codes "b") entry (entry ++ build)
b_written = record {
  before = Wrote Program (codes "t") (Some []) 9 ∷ Wrote Program (codes "l") (Some (codes "begun")) 9 ∷ Happened (Start 1 copy 9) ∷ Wrote Someone (codes "a") (Some (codes "y")) 10 ∷ [];
  after = Happened (Finish 1 true) ∷ Wrote Program (codes "l") (Some (codes "done")) 10 ∷ [];
  content = Some (codes "x");
  stamp = 10;
  splits = refl;
}

-- `a` and `b` are there, and `b` was written
not_excepted : IsExcepted edges (done_under 9) ran_well entry (entry ++ build) 1 → ⊥
not_excepted (inl (p, inl output, absent)) =
    all_has (λ q. file_at (entry ++ build) q ≡ None → ⊥) (codes "b" ∷ []) p (λ none. some_none _ none, tt) output absent
not_excepted (inl (p, inr counted, absent)) =
    all_has (λ q. file_at (entry ++ build) q ≡ None → ⊥) (codes "a" ∷ []) p (λ none. some_none _ none, tt) ((of_record (entry ++ build) p).1 counted) absent
not_excepted (inr (inl (restat, started, (o, output, unwritten)))) =
    all_has (λ q. (IsWritten 1 q entry (entry ++ build) → ⊥) → ⊥) (codes "b" ∷ []) o (λ none. none b_written, tt) output unwritten
not_excepted (inr (inr (some, unset, absent))) = some refl

-- ---- together

of_one : UnsaidOfOne
of_one = record {
  unchanged = unchanged;
  changes = λ files. (files.edits build refl).1.1.1.0;
  clean = clean;
  outdated = λ settled. both copied_over (copied_over ++ saved) settled outdated;
  reads_free = λ files none. false≢true (sym (none (codes "a") (counts_a (done_under 9) (copied_over ++ saved))) ∙ (files.edits saved refl).0);
  stale = stale;
  renewed = λ is. both (copied_over ++ saved) (copied_over ++ saved ++ put_back) renewed is;
  missing = record { source = refl; absent = refl };
  not_missing = λ here point it. some_none _ (subst (λ (l : List Moment). file_at l (codes "a") ≡ None) (point.entry refl) it.first.missing.absent);
  needs_free = λ files none. false≢true (sym (none.0 1 (codes "a") refl) ∙ (files.edits deleted refl).0);
  was_missing = λ none.
      let here = none (λ file due made. names_none due.edge file due.names) (inl refl) []
      (record { so_far = []; later = before; is = refl; grows = refl; happened = refl; entry = λ unstarted. refl; behind = tt }) in
      (here.of_edges 1 (record { within = Wanted 1 (codes "b") refl refl; due = Stale 1 refl refl due_at_first })).0 (record { source = refl; absent = refl });
  needs_it_free = λ files none. false≢true (sym (none.0 1 (codes "a") refl) ∙ (files.edits before refl).0);
  left = λ nothing. elim (nothing 1 refl (Wanted 1 (codes "b") refl refl) refl) [
    | inl excepted ↦ not_excepted excepted
    | inr settled ↦ both (entry ++ build) (entry ++ build) settled left_stale
  ];
  logs = λ same. false≢true (sym (ap (λ (s : Store). is_some (in_force s.records (codes "b"))) same));
}

-- ---- a dyndep file

-- a beginning of these moments in which nothing has happened is none
nothing_yet : (so_far later rest : List Moment) (event : Event) → (Happened event ∷ rest) ≡ so_far ++ later → happened_in so_far ≡ 0 → so_far ≡ []
nothing_yet [] later rest event is none = refl
nothing_yet (Wrote by path content stamp ∷ ms) later rest event is none = cc
nothing_yet (Happened other ∷ ms) later rest event is none = let no : suc (happened_in ms) ≡ 0 = none in absurd (omega (arith, no))

z_clean : IsVerdict reads_x_early z_recorded [] with_z with_z 3 false
z_clean = record { read = codes "x" ∷ []; counted = reads_one reads_x_early z_recorded with_z 3 (codes "x") refl (λ j alias. none_some j alias.made) refl; verdict = refl }

-- `x` is made by a command then
no_alias_x : (j : ℕ) → IsAlias reads_x_early_grown (codes "x") j → ⊥
no_alias_x j alias = false≢true (subst (λ (n : ℕ). (edge_at reads_x_early_grown n).phony ≡ true) (sym (same_number 2 j alias.made)) alias.phony)
  where
    same_number : (n k : ℕ) → Some n ≡ Some k → n ≡ k
    same_number n k is = cc

z_stale : IsVerdict reads_x_early_grown z_recorded [] with_z (with_z ++ makes_x) 3 true
z_stale = record { read = codes "x" ∷ []; counted = reads_one reads_x_early_grown z_recorded (with_z ++ makes_x) 3 (codes "x") refl no_alias_x refl; verdict = refl }

not_by_exit : JudgedAt none_free reads_x_early z_recorded at_first 3 true with_z (with_z ++ makes_x) → ⊥
not_by_exit judged =
    let moment = judged.moment in
    let whole : with_z ++ makes_x ≡ with_z ++ (moment.so_far ++ moment.later) = moment.grows ∙ (ap (λ (l : List Moment). l ++ moment.later) moment.is ∙ append_assoc with_z moment.so_far moment.later) in
    let none : moment.so_far ≡ [] = nothing_yet moment.so_far moment.later behind_start starts_dd (append_cancel_left with_z makes_x (moment.so_far ++ moment.later) whole) moment.happened in
    let here : judged.at ≡ with_z = moment.is ∙ ap (λ (l : List Moment). with_z ++ l) none in
    let by_then : IsVerdict reads_x_early z_recorded [] with_z with_z 3 true = subst (λ (l : List Moment). IsVerdict reads_x_early z_recorded [] with_z l 3 true) here (judged.right (λ p counted. refl)) in
    false≢true (one_verdict reads_x_early z_recorded [] with_z with_z 3 false true z_clean by_then)

of_loads : UnsaidOfLoads
of_loads = record {
  held = record { at = with_dd; moment = record { so_far = []; later = rewritten; is = refl; grows = refl; happened = refl }; holds = refl };
  not_held = λ is. false≢true (ap (is_held text) is);
  unknown = inputs_beside;
  all_clean = λ new judged. false≢true (judged.0.right (λ p counted. refl)).verdict;
  by_then = z_clean;
  by_exit = z_stale;
  not_by_exit = not_by_exit;
}

-- ---- two commands

below : IsCleanlyBuilt copies_both (λ i. i == 2) asked_both no_records (view_of copied_both) → ⊥
below clean = let same = clean 2 (codes "c") refl (Wanted 2 (codes "c") refl refl) refl refl in false≢true (sym (ap is_x same))

pub unsaid_rows : UnsaidRows
unsaid_rows = record { one_verdict = one_verdict; of_one = of_one; below = below; of_loads = of_loads }
