-- The rows with an edit beside another command, and all rows with an edit.
use Rattle.std.proofs.Common.{◌≡◌, inl, inr, ℕ, zero, suc, ◌==◌, ◌&&◌, if◌then◌else◌, true, false, List, [], ◌∷◌, ◌++◌, Option, Some, None, refl, sym, ◌∙◌, ap, subst, arith, append_assoc}
use Rattle.std.specs.List.{AllByRecursion}
use Rattle.std.specs.Prelude.{codes, bytes_eq}
use Rattle.std.proofs.lemmas.Bool.{false≢true, true≢false, eqb-true}
use Rattle.std.proofs.lemmas.List.{append-nil, append_cancel_left}
use Rattle.model.specs.declared.act.Act.{Act}
use Rattle.model.specs.declared.event.Event.TheVariants.{Start, Finish}
use Rattle.model.specs.declared.event.Moment.{Moment}
use Rattle.model.specs.declared.event.Moment.TheVariants.{Wrote, Happened}
use Rattle.model.specs.declared.event.Writer.TheVariants.{Program, Command, Someone}
use Rattle.model.specs.World.{View, IsNotAt, content_of, file_from, view_of}
use Rattle.model.specs.Clean.{clean_build}
use Rattle.model.specs.Graph.{has, edge_at, maker, regular_inputs, inputs, outputs}
use Rattle.model.specs.Outcome.{depfile_in, left, listed}
use Rattle.model.specs.Reading.{IsRead, Itself, Through, Wanted}
use Rattle.model.specs.Records.{recorded_inputs}
use Rattle.model.specs.Premises.{IsMaking, FilesAreKept, Increases, IsNoEdit, IsWithinEdge, IsFromAbove, HasOneOutcome, EndedAt, LeftOutcome, LiesIn, Matters, OwnFilesApart, Premises}
use Rattle.witness.specs.Small.{copy, no_records}
use Rattle.witness.specs.Refused.{own}
use Rattle.witness.specs.Edited.{EditedRows, EditedBeside, copy_c, copied_c, both, copy_both, both_ran, both_there, behind_first, behind_second, build_both, build}
use Rattle.witness.proofs.Edited.{unmoved, a_free, not_a, faith, by_start, by_finish}
use Rattle.witness.proofs.RowLists.{all_has, none_some}

abbrev ended_both : List Moment
ended_both = both_there ++ build_both

-- ---- its files are apart

of_inputs : (i : ℕ) (p : List ℕ) → has (inputs (edge_at both i)) p ≡ true → own.set p ≡ false
of_inputs zero p h = absurd (false≢true h)
of_inputs (suc zero) p h = all_has (λ q. own.set q ≡ false) (codes "a" ∷ []) p (refl, tt) h
of_inputs (suc (suc zero)) p h = all_has (λ q. own.set q ≡ false) (codes "c" ∷ []) p (refl, tt) h
of_inputs (suc (suc (suc zero))) p h = absurd (false≢true h)
of_inputs (suc (suc (suc (suc i)))) p h = absurd (false≢true h)

of_outputs : (i : ℕ) (p : List ℕ) → has (outputs (edge_at both i)) p ≡ true → own.set p ≡ false
of_outputs zero p h = absurd (false≢true h)
of_outputs (suc zero) p h = all_has (λ q. own.set q ≡ false) (codes "b" ∷ []) p (refl, tt) h
of_outputs (suc (suc zero)) p h = all_has (λ q. own.set q ≡ false) (codes "e" ∷ []) p (refl, tt) h
of_outputs (suc (suc (suc zero))) p h = all_has (λ q. own.set q ≡ false) (codes "a" ∷ []) p (refl, tt) h
of_outputs (suc (suc (suc (suc i)))) p h = absurd (false≢true h)

none_named : (i : ℕ) → ((edge_at both i).act.depfile ≡ []) × ((edge_at both i).act.response_path ≡ [])
none_named zero = (refl, refl)
none_named (suc zero) = (refl, refl)
none_named (suc (suc zero)) = (refl, refl)
none_named (suc (suc (suc zero))) = (refl, refl)
none_named (suc (suc (suc (suc i)))) = (refl, refl)

own_files : OwnFilesApart own both
own_files = record {
  within = λ p h. all_has (λ q. own.set q ≡ true) (codes "l" ∷ codes "m" ∷ codes "t" ∷ []) p (refl, (refl, (refl, tt))) h;
  build_log = refl;
  deps_log = refl;
  inputs = of_inputs;
  outputs = of_outputs;
  depfiles = λ i command. subst (λ (p : List ℕ). LiesIn own p) (sym (none_named i).0) (refl, refl);
  responses = λ i command. subst (λ (p : List ℕ). LiesIn own p) (sym (none_named i).1) (refl, refl);
  apart = λ i j command1 command2 other. ((λ some. absurd (some (none_named i).0)), (λ some. absurd (some (none_named i).1)), (λ some. absurd (some (none_named i).0)));
}

-- ---- the source is free, which a phony line without inputs names

makes_bound : (i : ℕ) (p : List ℕ) → IsMaking both i → has (outputs (edge_at both i)) p ≡ true → a_free p ≡ false
makes_bound zero p makes h = absurd (false≢true h)
makes_bound (suc zero) p makes h = not_a (λ q. has (codes "b" ∷ []) q) p refl h
makes_bound (suc (suc zero)) p makes h = not_a (λ q. has (codes "e" ∷ []) q) p refl h
makes_bound (suc (suc (suc zero))) p (inl command) h = absurd (true≢false command)
makes_bound (suc (suc (suc zero))) p (inr some) h = absurd (some refl)
makes_bound (suc (suc (suc (suc i)))) p makes h = absurd (false≢true h)

abbrev kept : FilesAreKept own both both_there ended_both
kept = record {
  free = a_free;
  free_apart = record { set = λ p h. not_a own.set p refl h; outputs = makes_bound };
  commands = λ more is. subst (AllByRecursion (IsWithinEdge a_free both)) (append_cancel_left both_there build_both more is) (tt, (tt, (tt, (tt, (inl refl, (tt, (tt, (tt, (tt, (inl refl, (tt, (tt, tt))))))))))));
  own_files = own_files;
  edits = λ more is. subst (AllByRecursion (IsNoEdit a_free)) (append_cancel_left both_there build_both more is) (tt, (tt, (tt, (refl, (tt, (tt, (tt, (tt, (tt, (tt, (tt, (tt, tt))))))))))));
}

-- ---- what the other command reads

read_c : (i : ℕ) (p : List ℕ) → IsRead both (view_of ended_both) i p → i ≡ 2 → p ≡ codes "c"
read_c i p (Itself _ _ h counts) same = all_has (λ q. q ≡ codes "c") (codes "c" ∷ []) p (refl, tt) (subst (λ (n : ℕ). has (regular_inputs (edge_at both n)) p ≡ true) same h)
read_c i p (Through _ j q _ h alias below) same =
    let is : q ≡ codes "c" = all_has (λ r. r ≡ codes "c") (codes "c" ∷ []) q (refl, tt) (subst (λ (n : ℕ). has (regular_inputs (edge_at both n)) q ≡ true) same h) in
    absurd (none_some j (subst (λ (r : List ℕ). maker both r ≡ Some j) is alias.made))

none_told : (i : ℕ) (files : View) → depfile_in copy_both (edge_at both i).act files ≡ Some []
none_told zero files = refl
none_told (suc zero) files = refl
none_told (suc (suc zero)) files = refl
none_told (suc (suc (suc zero))) files = refl
none_told (suc (suc (suc (suc i)))) files = refl

none_recorded : (i : ℕ) → recorded_inputs no_records both i ≡ []
none_recorded zero = refl
none_recorded (suc zero) = refl
none_recorded (suc (suc zero)) = refl
none_recorded (suc (suc (suc zero))) = refl
none_recorded (suc (suc (suc (suc i)))) = refl

no_record : (i : ℕ) (p : List ℕ) → has (recorded_inputs no_records both i) p ≡ true → ⊥
no_record i p h = false≢true (ap (λ (l : List (List ℕ)). has l p) (sym (none_recorded i)) ∙ h)

no_report : (i : ℕ) (p : List ℕ) (files : View) → has (listed (depfile_in copy_both (edge_at both i).act files)) p ≡ true → ⊥
no_report i p files h = false≢true (ap (λ (o : Option (List (List ℕ))). has (listed o) p) (sym (none_told i files)) ∙ h)

matters_c : (i : ℕ) (p : List ℕ) → (i == 2) ≡ true → Matters copy_both both (recorded_inputs no_records both) both_ran both_there ended_both i p → p ≡ codes "c"
matters_c i p is (inl read) = read_c i p read (eqb-true i 2 is)
matters_c i p is (inr (inl recorded)) = absurd (no_record i p recorded)
matters_c i p is (inr (inr reported)) = absurd (no_report i p (view_of reported.at) reported.told)

one_c : HasOneOutcome copy_both both (view_of ended_both) 2
one_c u v of_u of_v well agree = record {
  ends = ap (λ (h : Option (List ℕ)). (copied_c h).ok && true) same;
  reports = refl;
  contents = (ap (λ (h : Option (List ℕ)). if ((copied_c h).ok && true) then left (copied_c h) (codes "e") else None) same, tt);
}
  where
    read : IsRead both (view_of ended_both) 2 (codes "c")
    read = Itself 2 (codes "c") refl (inl (λ j alias. none_some j alias.made))

    same : v (codes "c") ≡ u (codes "c")
    same = of_v (codes "c") read ∙ sym (of_u (codes "c") read)

-- ---- what the commands left

-- so it is at each start among these moments, of what comes behind it
abbrev AllStarts : (ℕ → List Moment → Type 0) → List Moment → Type 0
AllStarts So [] = Unit {0}
AllStarts So (Wrote by path content stamp ∷ ms) = AllStarts So ms
AllStarts So (Happened (Start i act stamp) ∷ ms) = So i ms × AllStarts So ms
AllStarts So (Happened (Finish i ok) ∷ ms) = AllStarts So ms

start_in : (So : ℕ → List Moment → Type 0) (before since : List Moment) (i stamp : ℕ) (act : Act) → AllStarts So (before ++ Happened (Start i act stamp) ∷ since) → So i since
start_in So [] since i stamp act all = all.0
start_in So (Wrote by path content at ∷ before) since i stamp act all = start_in So before since i stamp act all
start_in So (Happened (Start j other at) ∷ before) since i stamp act all = start_in So before since i stamp act all.1
start_in So (Happened (Finish j ok) ∷ before) since i stamp act all = start_in So before since i stamp act all

-- so it is at each good end, of what comes before it
abbrev AllEnds : (ℕ → List Moment → Type 0) → List Moment → List Moment → Type 0
AllEnds So front [] = Unit {0}
AllEnds So front (Wrote by path content stamp ∷ ms) = AllEnds So (front ++ Wrote by path content stamp ∷ []) ms
AllEnds So front (Happened (Start i act stamp) ∷ ms) = AllEnds So (front ++ Happened (Start i act stamp) ∷ []) ms
AllEnds So front (Happened (Finish i true) ∷ ms) = So i front × AllEnds So (front ++ Happened (Finish i true) ∷ []) ms
AllEnds So front (Happened (Finish i false) ∷ ms) = AllEnds So (front ++ Happened (Finish i false) ∷ []) ms

end_in : (So : ℕ → List Moment → Type 0) (front before after : List Moment) (i : ℕ) → AllEnds So front (before ++ Happened (Finish i true) ∷ after) → So i (front ++ before)
end_in So front [] after i all = subst (λ (l : List Moment). So i l) (sym (append-nil front)) all.0
end_in So front (Wrote by path content stamp ∷ before) after i all =
    subst (λ (l : List Moment). So i l) (append_assoc front (Wrote by path content stamp ∷ []) before) (end_in So (front ++ Wrote by path content stamp ∷ []) before after i all)
end_in So front (Happened (Start j act stamp) ∷ before) after i all =
    subst (λ (l : List Moment). So i l) (append_assoc front (Happened (Start j act stamp) ∷ []) before) (end_in So (front ++ Happened (Start j act stamp) ∷ []) before after i all)
end_in So front (Happened (Finish j true) ∷ before) after i all =
    subst (λ (l : List Moment). So i l) (append_assoc front (Happened (Finish j true) ∷ []) before) (end_in So (front ++ Happened (Finish j true) ∷ []) before after i all.1)
end_in So front (Happened (Finish j false) ∷ before) after i all =
    subst (λ (l : List Moment). So i l) (append_assoc front (Happened (Finish j false) ∷ []) before) (end_in So (front ++ Happened (Finish j false) ∷ []) before after i all)

abbrev up_to_start : List Moment
up_to_start = Wrote Program (codes "t") (Some []) 9 ∷ Wrote Program (codes "l") (Some (codes "begun")) 9 ∷ Happened (Start 1 copy 9) ∷ []

abbrev up_to_first : List Moment
up_to_first = up_to_start ++ Wrote Someone (codes "a") (Some (codes "y")) 10 ∷ Wrote (Command 1) (codes "b") (Some (codes "x")) 10 ∷ []

abbrev up_to_second : List Moment
up_to_second =
    up_to_first
    ++ Happened (Finish 1 true) ∷ Wrote Program (codes "l") (Some (codes "done")) 10 ∷ Wrote Program (codes "t") (Some []) 10 ∷ Happened (Start 2 copy_c 10)
    ∷ Wrote (Command 2) (codes "e") (Some (codes "z")) 11 ∷ []

abbrev up_to : ℕ → List Moment
up_to i = if i == 1 then up_to_first else up_to_second

ends : AllEnds (λ i front. front ≡ up_to i) [] build_both
ends = (refl, (refl, tt))

at_end : (i : ℕ) (at : List Moment) → EndedAt i both_there ended_both at → at ≡ both_there ++ up_to i
at_end i at ended = ended.is ∙ ap (λ (l : List Moment). both_there ++ l)
    (end_in (λ j front. front ≡ up_to j) [] ended.before ended.after i (subst (AllEnds (λ j front. front ≡ up_to j) []) (append_cancel_left both_there build_both (ended.before ++ Happened (Finish i true) ∷ ended.after) ended.splits) ends))

-- the first saw the files of its start
left_first : LeftOutcome copy_both both behind_first ended_both (both_there ++ up_to_first) 1
left_first = record {
  seen = view_of (both_there ++ up_to_start);
  well = refl;
  unwritten = λ p none. at_start p none;
  contents = (refl, tt);
  depfile = refl;
}
  where
    at_start : (p : List ℕ) → AllByRecursion (IsNotAt p) behind_first → view_of (both_there ++ up_to_start) p ≡ view_of ended_both p
    at_start p none = sym (ap content_of (unmoved p (file_from p None (both_there ++ up_to_start)) behind_first none))

-- the second those of the exit
left_second : LeftOutcome copy_both both behind_second ended_both (both_there ++ up_to_second) 2
left_second = record { seen = view_of ended_both; well = refl; unwritten = λ p none. refl; contents = (refl, tt); depfile = refl }

abbrev LeavesAt : ℕ → List Moment → Type 0
LeavesAt i since = (at : List Moment) → EndedAt i both_there ended_both at → LeftOutcome copy_both both since ended_both at i

leaves : AllStarts LeavesAt build_both
leaves = (
  λ at ended. subst (λ (l : List Moment). LeftOutcome copy_both both behind_first ended_both l 1) (sym (at_end 1 at ended)) left_first,
  (λ at ended. subst (λ (l : List Moment). LeftOutcome copy_both both behind_second ended_both l 2) (sym (at_end 2 at ended)) left_second, tt),
)

-- ---- together

abbrev premises : Premises copy_both own both both (recorded_inputs no_records both) both_ran both_there ended_both
premises = record {
  files = record {
    kept = kept;
    quiet = λ i. i == 2;
    alone = record {
      unread = λ i p is matters. subst (λ (q : List ℕ). a_free q ≡ false) (sym (matters_c i p is matters)) refl;
      above = λ i j p is matters made command. absurd (none_some j (subst (λ (q : List ℕ). maker both q ≡ Some j) (matters_c i p is matters) made));
    };
    recorded_apart = λ i p h. absurd (no_record i p h);
    stamps = λ more is. subst (Increases 9) (append_cancel_left both_there build_both more is) (omega arith, (omega arith, (omega arith, (omega arith, (omega arith, (omega arith, (omega arith, (omega arith, tt))))))));
    reports = λ i at ended well.
        subst (λ (o : Option (List (List ℕ))). AllByRecursion (IsFromAbove own both (recorded_inputs no_records both) i) (listed o)) (sym (none_told i (view_of at))) tt;
    dyndep = record {
      inputs = λ i p command read j file made source named. absurd (none_some j (sym source ∙ made));
      reports = λ i j p reported made command. absurd (no_report i p (view_of reported.at) reported.told);
    };
  };
  one_outcome = λ i is judged. subst (λ (n : ℕ). HasOneOutcome copy_both both (view_of ended_both) n) (sym (eqb-true i 2 is)) one_c;
  left_outcomes = λ i at ended well before since act stamp is.
      start_in LeavesAt before since i stamp act (subst (AllStarts LeavesAt) (append_cancel_left both_there build_both (before ++ Happened (Start i act stamp) ∷ since) is) leaves) at ended;
}

differ : Some (codes "x") ≡ Some (codes "y") → ⊥
differ is = false≢true (ap (λ (o : Option (List ℕ)). elim o [ None ↦ false | Some q ↦ bytes_eq q (codes "x") ]) (sym is))

beside : EditedBeside
beside = record {
  premises = premises;
  free = refl;
  quiet = λ i. refl;
  clean = λ i o is within command h.
      all_has (λ p. view_of ended_both p ≡ clean_build copy_both both (view_of ended_both) p) (codes "e" ∷ []) o (refl, tt)
      (subst (λ (n : ℕ). has (outputs (edge_at both n)) o ≡ true) (eqb-true i 2 is) h);
  other = λ clean. let same = clean 1 (codes "b") refl (Wanted 1 (codes "b") refl refl) refl refl in differ same;
}

pub edited_rows : EditedRows
edited_rows = record {
  faith = faith;
  other = λ clean. let same = clean 1 (codes "b") refl (Wanted 1 (codes "b") refl refl) refl refl in differ same;
  loud = λ files quiet alone is. false≢true (sym (alone.unread 1 (codes "a") is (inl (Itself 1 (codes "a") refl (inl (λ j alias. none_some j alias.made))))) ∙ (files.edits build refl).1.1.1.0);
  by_start = by_start;
  by_finish = by_finish;
  beside = beside;
}
