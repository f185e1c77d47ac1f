-- The rows of what others may not do.
use Rattle.std.proofs.Common.{◌≡◌, inl, ◌<◌, ◌≤◌, [], ◌∷◌, ◌++◌, Some, None, refl, sym, ◌∙◌, ap, arith}
use Rattle.std.specs.Prelude.{codes}
use Rattle.std.proofs.lemmas.Bool.{false≢true}
use Rattle.model.specs.declared.event.Moment.TheVariants.{Wrote}
use Rattle.model.specs.declared.event.Writer.{Writer}
use Rattle.model.specs.declared.event.Writer.TheVariants.{Command, Someone}
use Rattle.model.specs.World.{content_of, view_of}
use Rattle.witness.specs.Forbidden.{before, ran, copied_over, patched, put_back, dated_back, failing, forged, scan, tells_h, scanned, retold, retold_over, told_k, paste, pastes, pasted, pasted_b, IsBelieved, IsBelievedOf, ForbiddenRows}
use Rattle.witness.proofs.Copied.{gives, ends, is_x, no_told}

believed : IsBelieved copied_over
believed = record {
  seen = view_of copied_over;
  well = refl;
  holds = λ content is. is;
  reports = λ deps force start. absurd (no_told deps force);
  older = λ p file is early. ap content_of is;
  clock = soon;
}
  where
    soon : 9 < 10
    soon = omega arith

-- `b` holds what the command does not give from `x`
patched_b : IsBelieved (copied_over ++ patched) → ⊥
patched_b made =
    let seen_a = made.older (codes "a") (record { content = codes "x"; stamp = 9 }) refl (omega arith) in
    let gave = made.holds (codes "z") refl in
    false≢true (ap is_x (sym gave ∙ ap gives seen_a))

-- `b` holds what the command does not give from `y`, which counts as old, whoever wrote it
old_a : (by : Writer) → IsBelieved (copied_over ++ Wrote by (codes "a") (Some (codes "y")) 8 ∷ []) → ⊥
old_a by made =
    let seen_a = made.older (codes "a") (record { content = codes "y"; stamp = 8 }) refl (omega arith) in
    let gave = made.holds (codes "x") refl in
    false≢true (ap is_x (sym (ap gives seen_a) ∙ gave))

-- the command fails where `a` holds `no`
forged_log : IsBelieved (failing ++ forged) → ⊥
forged_log made =
    let seen_a = made.older (codes "a") (record { content = codes "no"; stamp = 9 }) refl (omega arith) in
    false≢true (sym (ap ends seen_a) ∙ made.well)

-- the deps record lists `k`, and the command reports `h`
retold_d : IsBelievedOf tells_h told_k scan retold_over → ⊥
retold_d made =
    let lists = made.reports (record { start = 9; paths = codes "k" ∷ [] }) refl refl in
    false≢true (sym (lists.same (codes "k")))

-- `b` holds what the command does not give, whatever it sees
pasted_z : IsBelievedOf pastes pasted_b paste (before ++ pasted) → ⊥
pasted_z made = false≢true (sym (ap is_x (made.holds (codes "z") refl)))

none_some : {A : Type 0} (x : A) → Some x ≡ None → ⊥
none_some x is = cc

pub forbidden_rows : ForbiddenRows
forbidden_rows = record {
  believed = believed;
  output = ((λ files. false≢true (sym (files.free_apart.outputs 1 (codes "b") (inl refl) refl) ∙ (files.edits (ran ++ patched) refl).1.1.1.1.0)), patched_b);
  source = ((λ faith. none_some _ (faith.unrecorded (codes "b") (faith.kept.edits patched refl).0)), patched_b);
  log = ((λ files. false≢true (sym (files.free_apart.set (codes "l") refl) ∙ (files.edits forged refl).0)), forged_log);
  depfile = ((λ files. false≢true (sym (files.free_apart.set (codes "d") refl) ∙ (files.edits (scanned ++ retold) refl).1.1.1.1.1.0)), retold_d);
  response = ((λ files. false≢true (sym (files.free_apart.set (codes "r") refl) ∙ (files.edits pasted refl).1.0)), pasted_z);
  time = ((λ stamps. let low : 10 ≤ 8 = (stamps put_back refl).0 in absurd (omega (arith, low))), λ made. old_a Someone made);
  time_of_output = ((λ stamps. let low : 10 ≤ 8 = (stamps dated_back refl).0 in absurd (omega (arith, low))), λ made. old_a (Command 2) made);
}
