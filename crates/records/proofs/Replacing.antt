-- The log is replaced by what is in force of what was read.
use Rattle.std.proofs.Common.{◌≡◌, ℕ, Bool, List, Option, Some, subst}
use Rattle.model.specs.declared.graph.Edge.{Edge}
use Rattle.model.specs.World.{World, view_of}
use Rattle.model.specs.Calls.{Writes, WritesOrNot}
use Rattle.model.specs.Records.{OwnFiles}
use Rattle.log_text.specs.declared.form.Version.{Version}
use Rattle.log_text.specs.declared.form.Version.TheVariants.{Two}
use Rattle.log_text.specs.Form.{Form}
use Rattle.log_text.specs.Laws.{KeepsInForce}
use Rattle.log_text.specs.Text.{IsLogOf}
use Rattle.theory.specs.Writes.{WritesAt}
use Rattle.theory.proofs.Writing.{writes_at}
use Rattle.records.specs.declared.file.State.TheVariants.{Usable, Stale}
use Rattle.records.specs.Held.{Held, IsKeptOrWrittenAnew}
use Rattle.records.specs.Carried.{WhereKept, IsCarriedLog}
use Rattle.records.proofs.Carrying.{replaced, replaced_or_not}

module _ {R T X : Type 0} (forms : Version → Form R) (Keeps : List R → T → Type 0) (in_force : List R → List ℕ → Option X) (compaction : List R → List R)
    (tells : Bool) (old new : World) (file : Held T) (path text : List ℕ) (at : path ≡ file.path) where
  pub replace_at : Writes tells path (Some text) old new → WritesAt tells file.path old new
  replace_at writes = subst (λ (p : List ℕ). WritesAt tells p old new) at (writes_at tells path (Some text) old new writes)

  module _ (compacts : KeepsInForce in_force compaction) (stale : file.state ≡ Stale) (kept : (rs : List R) → Keeps rs file.log → IsLogOf (forms Two) text (compaction rs))
      (own : OwnFiles) (edges : List Edge) (first : World) (l : IsCarriedLog forms Keeps tells own edges first old file) where
    pub replace_ok : (later : Held T) → later.path ≡ file.path → later.log ≡ file.log → later.state ≡ Usable → Writes tells path (Some text) old new → IsCarriedLog forms Keeps tells own edges first new later
    replace_ok later same log state writes =
        replaced forms Keeps in_force tells own edges first old new file l compaction compacts text stale kept later same log state (subst (λ (p : List ℕ). Writes tells p (Some text) old new) at writes)

    pub replace_anew : WritesOrNot tells path (Some text) old new → WhereKept tells own edges first new (IsKeptOrWrittenAnew forms in_force (view_of old.history file.path) (view_of new.history file.path))
    replace_anew writes = replaced_or_not forms Keeps in_force tells own edges first old new file l compaction compacts text stale kept (subst (λ (p : List ℕ). WritesOrNot tells p (Some text) old new) at writes)
