-- What a look found, with what stood there before it.
use Rattle.std.proofs.Common.{◌≡◌, ℕ, true, List, [], ◌++◌, Option, Some, None, append-nil, refl, sym, ◌∙◌, ap}
use Rattle.model.specs.declared.event.Moment.{Moment}
use Rattle.model.specs.Calls.{OnlyLooks, Sees}
use Rattle.model.specs.World.{World, File, content_of, file_at, stamp_of}
use Rattle.measure.specs.declared.measure.Measure.{Measure}
use Rattle.measure.specs.Measured.{measured_at, read_at}
use Rattle.sim_measured.specs.Found.{found_by, read_by, size_of}

-- what was so before it was so at a moment of the call
sees_first : {A : Type 0} (so : List Moment → A) (seen : A) (old new : World) → OnlyLooks true old new → seen ≡ so old.history → Sees so seen old.history new.history
sees_first so seen old new looks is =
    let others = looks.history refl in
    record { earlier = []; later = others.more; grows = others.grows; is = is ∙ ap so (sym (append-nil old.history)) }

found_there : (file : Option File) → found_by (stamp_of file) (size_of (content_of file)) ≡ measured_at file
found_there None = refl
found_there (Some file) = refl

read_there : (file : Option File) → read_by (stamp_of file) (content_of file) ≡ read_at file
read_there None = refl
read_there (Some file) = refl

module _ (p : List ℕ) (old new : World) (looks : OnlyLooks true old new) (stamp : Option ℕ) (of_stamp : stamp ≡ stamp_of (file_at old.history p)) where
  pub sees_measure : (size : Option ℕ) (found : Option Measure) → size ≡ size_of (content_of (file_at old.history p)) → found ≡ found_by stamp size
      → Sees (λ (h : List Moment). measured_at (file_at h p)) found old.history new.history
  sees_measure size found of_size is =
      sees_first (λ (h : List Moment). measured_at (file_at h p)) found old new looks
      (is ∙ ((λ i. found_by (of_stamp i) (of_size i)) ∙ found_there (file_at old.history p)))

  pub sees_content : (content : Option (List ℕ)) (found : Option (List ℕ × Measure)) → content ≡ content_of (file_at old.history p) → found ≡ read_by stamp content
      → Sees (λ (h : List Moment). read_at (file_at h p)) found old.history new.history
  sees_content content found of_content is =
      sees_first (λ (h : List Moment). read_at (file_at h p)) found old new looks
      (is ∙ ((λ i. read_by (of_stamp i) (of_content i)) ∙ read_there (file_at old.history p)))
