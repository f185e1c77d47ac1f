-- An append behind a log that was made usable first.
use Rattle.std.proofs.Common.{◌≡◌, ℕ, Bool, IsTrue, List, Option, Some, subst}
use Rattle.model.specs.declared.graph.Edge.{Edge}
use Rattle.model.specs.World.{World, view_of}
use Rattle.model.specs.Calls.{Appends, AppendsOrNot}
use Rattle.model.specs.Records.{OwnFiles}
use Rattle.model.specs.Premises.{FilesAreKept}
use Rattle.theory.proofs.Looks.{kept_before}
use Rattle.log_text.specs.declared.form.Version.{Version}
use Rattle.log_text.specs.declared.form.Version.TheVariants.{Two}
use Rattle.log_text.specs.Form.{Form, IsLineOf}
use Rattle.log_text.specs.Laws.{OneReading, LineGrowsLog, FrontOfLines}
use Rattle.theory.specs.Writes.{WritesAt}
use Rattle.theory.proofs.Writing.{appends_at, appends_or_not_at}
use Rattle.records.specs.declared.file.State.TheVariants.{Usable}
use Rattle.records.specs.Held.{Held, IsSameLog, TellsMore, IsKeptOrWrittenAnew, MayTellMore}
use Rattle.records.specs.Carried.{WhereKept, IsCarriedLog}
use Rattle.records.proofs.Carrying.{appended, appended_more, appended_or_not}
use Rattle.records.proofs.Composing.{then_more, then_may}

module _ {R T X : Type 0} (forms : Version → Form R) (Keeps : List R → T → Type 0) (in_force : List R → List ℕ → Option X)
    (tells : Bool) (own : OwnFiles) (edges : List Edge) (first old mid new : World) (a b : Held T)
    (same : IsSameLog a b) (is_usable : b.state ≡ Usable) (l : IsCarriedLog forms Keeps tells own edges first mid b)
    (anew : WhereKept tells own edges first mid (IsKeptOrWrittenAnew forms in_force (view_of old.history a.path) (view_of mid.history a.path)))
    (one : OneReading forms) (grows_log : LineGrowsLog forms) (front : FrontOfLines forms) (r : R) (line : List ℕ) (is_line : IsLineOf (forms Two) r line) where
  pub append_ok : Appends tells b.path line mid new → IsCarriedLog forms Keeps tells own edges first new b
  append_ok appends = appended forms Keeps in_force tells own edges first mid new b l grows_log front is_usable r line is_line appends

  anew_then : (w : WritesAt tells b.path mid new) → (tell : IsTrue tells) → FilesAreKept own edges first.history new.history → IsKeptOrWrittenAnew forms in_force (view_of old.history a.path) (view_of mid.history a.path)
  anew_then w tell kept = let call = w.history tell in anew tell (kept_before own edges first.history mid.history new.history call.more call.grows kept)

  pub append_more : Appends tells b.path line mid new → WhereKept tells own edges first new (TellsMore forms in_force (Some r) (view_of old.history a.path) (view_of new.history a.path))
  append_more appends tell kept =
      then_more forms in_force one (Some r) (view_of old.history a.path) (view_of mid.history a.path) (view_of new.history a.path)
      (anew_then (appends_at tells b.path line mid new appends) tell kept)
      (subst (λ (p : List ℕ). TellsMore forms in_force (Some r) (view_of mid.history p) (view_of new.history p)) same.path
      (appended_more forms Keeps in_force tells own edges first mid new b l grows_log front is_usable r line is_line appends tell kept))

  pub append_err : AppendsOrNot tells b.path line mid new → WhereKept tells own edges first new (MayTellMore forms in_force r (view_of old.history a.path) (view_of new.history a.path))
  append_err appends tell kept =
      then_may forms in_force one r (view_of old.history a.path) (view_of mid.history a.path) (view_of new.history a.path)
      (anew_then (appends_or_not_at tells b.path line mid new appends) tell kept)
      (subst (λ (p : List ℕ). MayTellMore forms in_force r (view_of mid.history p) (view_of new.history p)) same.path
      (appended_or_not forms Keeps in_force tells own edges first mid new b l grows_log front is_usable r line is_line appends tell kept))
