-- Whether a depfile is there that keeps its file.
use Rattle.std.proofs.Common.{◌≡◌, ℕ, List, [], ◌++◌, Option, Some, None, is_some, bytes_eq, refl, sym, ◌∙◌, ap}
use Rattle.std.proofs.lemmas.List.{append-nil}
use Rattle.model.specs.declared.event.Moment.{Moment}
use Rattle.model.specs.World.{File, file_at, stamp_of}
use Rattle.model.specs.Calls.{Sees}
use Rattle.theory.proofs.Lists.{bytes_same}
use Rattle.judge.specs.Seen.{AreKept}

there_by_stamp : (file : Option File) → is_some (stamp_of file) ≡ is_some file
there_by_stamp None = refl
there_by_stamp (Some file) = refl

-- a stamp that was seen in the call tells whether the file is there behind it
pub there_kept : (path : List ℕ) (stamp : Option ℕ) (old new : List Moment) → Sees (λ history. stamp_of (file_at history path)) stamp old new → AreKept (bytes_eq path) old new
    → is_some stamp ≡ is_some (file_at new path)
there_kept path stamp old new sees kept =
    let before : file_at (old ++ sees.earlier) path ≡ file_at old path = kept path (bytes_same path) sees.earlier sees.later sees.grows in
    let after : file_at (old ++ (sees.earlier ++ sees.later)) path ≡ file_at old path =
    kept path (bytes_same path) (sees.earlier ++ sees.later) [] (sees.grows ∙ ap (λ (l : List Moment). old ++ l) (sym (append-nil (sees.earlier ++ sees.later)))) in
    ap (λ (s : Option ℕ). is_some s) sees.is ∙ (there_by_stamp (file_at (old ++ sees.earlier) path)
    ∙ ap (λ (f : Option File). is_some f) (before ∙ sym (ap (λ (l : List Moment). file_at l path) sees.grows ∙ after)))
