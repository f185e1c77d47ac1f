-- The rows with an edit.
use Rattle.std.proofs.Common.{◌≡◌, inl, inr, ℕ, zero, suc, ◌==◌, ◌<◌, ◌≤◌, Bool, true, false, List, [], ◌∷◌, ◌++◌, Option, Some, None, refl, sym, ◌∙◌, ap, subst, arith}
use Rattle.std.specs.List.{AllByRecursion}
use Rattle.std.specs.Prelude.{codes, bytes_eq}
use Rattle.std.proofs.lemmas.Bool.{false≢true, cases_Bool, or_cases, eqb-true, cond-false, false_from_ne_true}
use Rattle.std.proofs.lemmas.List.{append_cancel_left}
use Rattle.model.specs.declared.act.Act.{Act}
use Rattle.model.specs.declared.event.Event.TheVariants.{Start, Finish}
use Rattle.model.specs.declared.event.Moment.{Moment}
use Rattle.model.specs.declared.event.Moment.TheVariants.{Wrote, Happened}
use Rattle.model.specs.declared.event.Writer.TheVariants.{Program, Command, Someone}
use Rattle.model.specs.World.{File, IsNotAt, written, content_of, file_from, file_at, view_of}
use Rattle.model.specs.Graph.{has, has_number, edge_at, inputs, outputs}
use Rattle.model.specs.Premises.{FilesAreKept, Increases, IsNoEdit, IsWithinEdge, KeepsFaith, LeftOutcome, LiesIn, OwnFilesApart}
use Rattle.witness.specs.Small.{copy, edges, copies, no_records}
use Rattle.witness.specs.Refused.{own, ran_well}
use Rattle.witness.specs.Edited.{entry, behind, build, and_later, IsBelievedUnder}
use Rattle.witness.proofs.RowLists.{all_has, same_bytes}
use Rattle.witness.proofs.Written.{written_in, unwritten}
use Rattle.witness.proofs.Copied.{gives, is_x, stamp_in, no_told}

pub unmoved : (p : List ℕ) (f : Option File) (ms : List Moment) → AllByRecursion (IsNotAt p) ms → file_from p f ms ≡ f
unmoved p f [] all = refl
unmoved p f (Wrote by path content stamp ∷ ms) all =
    ap (λ (g : Option File). file_from p g ms) (cond-false (bytes_eq path p) (written content stamp) f all.0) ∙ unmoved p f ms all.1
unmoved p f (Happened event ∷ ms) all = unmoved p f ms all.1

-- ---- its files are apart

of_inputs : (i : ℕ) (p : List ℕ) → has (inputs (edge_at edges i)) p ≡ true → own.set p ≡ false
of_inputs zero p h = absurd (false≢true h)
of_inputs (suc zero) p h = all_has (λ q. own.set q ≡ false) (codes "a" ∷ []) p (refl, tt) h
of_inputs (suc (suc i)) p h = absurd (false≢true h)

of_outputs : (i : ℕ) (p : List ℕ) → has (outputs (edge_at edges i)) p ≡ true → own.set p ≡ false
of_outputs zero p h = absurd (false≢true h)
of_outputs (suc zero) p h = all_has (λ q. own.set q ≡ false) (codes "b" ∷ []) p (refl, tt) h
of_outputs (suc (suc i)) p h = absurd (false≢true h)

none_named : (i : ℕ) → ((edge_at edges i).act.depfile ≡ []) × ((edge_at edges i).act.response_path ≡ [])
none_named zero = (refl, refl)
none_named (suc zero) = (refl, refl)
none_named (suc (suc i)) = (refl, refl)

own_files : OwnFilesApart own edges
own_files = record {
  within = λ p h. all_has (λ q. own.set q ≡ true) (codes "l" ∷ codes "m" ∷ codes "t" ∷ []) p (refl, (refl, (refl, tt))) h;
  build_log = refl;
  deps_log = refl;
  inputs = of_inputs;
  outputs = of_outputs;
  depfiles = λ i command. subst (λ (p : List ℕ). LiesIn own p) (sym (none_named i).0) (refl, refl);
  responses = λ i command. subst (λ (p : List ℕ). LiesIn own p) (sym (none_named i).1) (refl, refl);
  apart = λ i j command1 command2 other. ((λ some. absurd (some (none_named i).0)), (λ some. absurd (some (none_named i).1)), (λ some. absurd (some (none_named i).0)));
}

-- ---- the source is free

abbrev pub a_free : List ℕ → Bool
a_free p = bytes_eq p (codes "a")

pub not_a : (set : List ℕ → Bool) (p : List ℕ) → set (codes "a") ≡ false → set p ≡ true → a_free p ≡ false
not_a set p none h = false_from_ne_true (bytes_eq p (codes "a")) (λ same. false≢true (sym none ∙ (ap set (sym (same_bytes p (codes "a") same)) ∙ h)))

free_outputs : (i : ℕ) (p : List ℕ) → has (outputs (edge_at edges i)) p ≡ true → a_free p ≡ false
free_outputs zero p h = absurd (false≢true h)
free_outputs (suc zero) p h = not_a (λ q. has (codes "b" ∷ []) q) p refl h
free_outputs (suc (suc i)) p h = absurd (false≢true h)

kept : FilesAreKept own edges entry (entry ++ build)
kept = record {
  free = a_free;
  free_apart = record { set = λ p h. not_a own.set p refl h; outputs = λ i p makes h. free_outputs i p h };
  commands = λ more is. subst (AllByRecursion (IsWithinEdge a_free edges)) (append_cancel_left entry build more is) (tt, (tt, (tt, (tt, (inl refl, (tt, (tt, tt)))))));
  own_files = own_files;
  edits = λ more is. subst (AllByRecursion (IsNoEdit a_free)) (append_cancel_left entry build more is) (tt, (tt, (tt, (refl, (tt, (tt, (tt, tt)))))));
}

-- ---- what the command left

which : (i : ℕ) → has_number (1 ∷ []) i ≡ true → i ≡ 1
which i h = elim (or_cases (1 == i) false h) [
  | inl same ↦ sym (eqb-true 1 i same)
  | inr other ↦ absurd (false≢true other)
]

is_behind : (before since : List Moment) (i : ℕ) (act : Act) (stamp : ℕ) → build ≡ before ++ Happened (Start i act stamp) ∷ since → since ≡ behind
is_behind [] since i act stamp is = cc
is_behind (a ∷ []) since i act stamp is = cc
is_behind (a ∷ b ∷ []) since i act stamp is = cc
is_behind (a ∷ b ∷ c ∷ []) since i act stamp is = cc
is_behind (a ∷ b ∷ c ∷ d ∷ []) since i act stamp is = cc
is_behind (a ∷ b ∷ c ∷ d ∷ e ∷ []) since i act stamp is = cc
is_behind (a ∷ b ∷ c ∷ d ∷ e ∷ f ∷ []) since i act stamp is = cc
is_behind (a ∷ b ∷ c ∷ d ∷ e ∷ f ∷ g ∷ before) since i act stamp is = let none : [] ≡ before ++ Happened (Start i act stamp) ∷ since = cc in absurd (empty before none)
  where
    empty : (xs : List Moment) → [] ≡ xs ++ Happened (Start i act stamp) ∷ since → ⊥
    empty [] e = cc
    empty (x ∷ xs) e = cc

abbrev up_to : List Moment
up_to = Wrote Program (codes "t") (Some []) 9 ∷ Wrote Program (codes "l") (Some (codes "begun")) 9 ∷ Happened (Start 1 copy 9) ∷ Wrote Someone (codes "a") (Some (codes "y")) 10 ∷ Wrote (Command 1) (codes "b") (Some (codes "x")) 10 ∷ []

is_end : (before after : List Moment) (i : ℕ) → build ≡ before ++ Happened (Finish i true) ∷ after → before ≡ up_to
is_end [] after i is = cc
is_end (a ∷ []) after i is = cc
is_end (a ∷ b ∷ []) after i is = cc
is_end (a ∷ b ∷ c ∷ []) after i is = cc
is_end (a ∷ b ∷ c ∷ d ∷ []) after i is = cc
is_end (a ∷ b ∷ c ∷ d ∷ e ∷ []) after i is = cc
is_end (a ∷ b ∷ c ∷ d ∷ e ∷ f ∷ []) after i is = cc
is_end (a ∷ b ∷ c ∷ d ∷ e ∷ f ∷ g ∷ before) after i is = let none : [] ≡ before ++ Happened (Finish i true) ∷ after = cc in absurd (empty before none)
  where
    empty : (xs : List Moment) → [] ≡ xs ++ Happened (Finish i true) ∷ after → ⊥
    empty [] e = cc
    empty (x ∷ xs) e = cc

abbrev started : List Moment
started = entry ++ (Wrote Program (codes "t") (Some []) 9 ∷ Wrote Program (codes "l") (Some (codes "begun")) 9 ∷ Happened (Start 1 copy 9) ∷ [])

-- it saw the files of its start
left : LeftOutcome copies edges behind (entry ++ build) (entry ++ up_to) 1
left = record {
  seen = view_of started;
  well = refl;
  unwritten = λ p none. at_start p none;
  contents = (refl, tt);
  depfile = refl;
}
  where
    at_start : (p : List ℕ) → AllByRecursion (IsNotAt p) behind → view_of started p ≡ view_of (entry ++ build) p
    at_start p none = sym (ap content_of (unmoved p (file_from p None started) behind none))

pub faith : KeepsFaith copies own edges no_records ran_well entry (entry ++ build)
faith = record {
  kept = kept;
  unrecorded = λ p is. refl;
  stamps = λ more is. subst (Increases 9) (append_cancel_left entry build more is) (omega arith, (omega arith, (omega arith, (omega arith, (omega arith, tt)))));
  left_outcomes = λ i at ended well before since act stamp is.
      subst (λ (n : ℕ). LeftOutcome copies edges since (entry ++ build) at n) (sym (which i well))
      (subst (λ (l : List Moment). LeftOutcome copies edges l (entry ++ build) at 1) (sym (is_behind before since i act stamp (append_cancel_left entry build (before ++ Happened (Start i act stamp) ∷ since) is)))
      (subst (λ (l : List Moment). LeftOutcome copies edges behind (entry ++ build) l 1)
      (sym (ended.is ∙ ap (λ (l : List Moment). entry ++ l) (is_end ended.before ended.after i (append_cancel_left entry build (ended.before ++ Happened (Finish i true) ∷ ended.after) ended.splits)))) left));
}

-- ---- what may be believed

abbrev since_start : List Moment
since_start = behind ++ Wrote Program (codes "t") (Some []) 11 ∷ []

-- the view of the start has what each file holds that is no later
abbrev Early : List ℕ → Type 0
Early p = (file : File) → file_at and_later p ≡ Some file → file.stamp ≤ 9 → view_of started p ≡ Some file.content

late_file : (held : Option File) (stamp : ℕ) → stamp_in held ≡ stamp → 9 < stamp → (file : File) → held ≡ Some file → file.stamp ≤ 9 → ⊥
late_file held stamp stamped late file is early = let same : stamp ≡ file.stamp = sym stamped ∙ ap stamp_in is in omega (arith, late, same, early)

each_early : (p : List ℕ) → Early p
each_early p = elim (cases_Bool (has (written_in since_start) p)) [
  | inl is_written ↦ all_has Early (codes "a" ∷ codes "b" ∷ codes "l" ∷ codes "t" ∷ []) p (
    λ file is early. absurd (late_file (file_at and_later (codes "a")) 10 refl (omega arith) file is early),
    (
      λ file is early. absurd (late_file (file_at and_later (codes "b")) 10 refl (omega arith) file is early),
      (
        λ file is early. absurd (late_file (file_at and_later (codes "l")) 10 refl (omega arith) file is early),
        (λ file is early. absurd (late_file (file_at and_later (codes "t")) 11 refl (omega arith) file is early), tt),
      ),
    ),
  ) is_written
  | inr none ↦ λ file is early. ap content_of (sym (unwritten p (file_from p None started) since_start none) ∙ is)
]

pub by_start : IsBelievedUnder 9
by_start = record {
  seen = view_of started;
  well = refl;
  holds = λ content is. is;
  reports = λ deps force start. absurd (no_told deps force);
  older = λ p file is early. each_early p file is early;
  clock = soon;
}
  where
    soon : 9 < 11
    soon = omega arith

-- `a` holds `y`, and counts as old
pub by_finish : IsBelievedUnder 10 → ⊥
by_finish made =
    let seen_a = made.older (codes "a") (record { content = codes "y"; stamp = 10 }) refl (omega arith) in
    let gave = made.holds (codes "x") refl in
    false≢true (ap is_x (sym (ap gives seen_a) ∙ gave))
