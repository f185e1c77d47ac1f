-- What a call saw of a file.
use Rattle.std.specs.Prelude.{ℕ, Bool, IsTrue, List, [], Option, Some, None}
use Rattle.model.specs.declared.event.Moment.{Moment}
use Rattle.model.specs.World.{World, file_at, content_of, stamp_of}
use Rattle.model.specs.Calls.{Sees}

-- this was the content of the file at the path, or its stamp, at some point between
abbrev pub SawContent : List ℕ → Option (List ℕ) → List Moment → List Moment → Type 0
SawContent path content old new = Sees (λ history. content_of (file_at history path)) content old new

abbrev pub SawStamp : List ℕ → Option ℕ → List Moment → List Moment → Type 0
SawStamp path stamp old new = Sees (λ history. stamp_of (file_at history path)) stamp old new

-- what a file holds; one that is absent holds nothing
abbrev pub text_in : Option (List ℕ) → List ℕ
text_in None = []
text_in (Some text) = text

-- Whoever had taken nothing has taken some content now, and no more; on a site that tells its files, what the file at the path held at
-- some point between.
abbrev pub TookFile : {T : Type 0} → (List ℕ → T → Type 0) → Bool → List ℕ → T × World → T × World → Type 0
TookFile Took tells path old new =
    Took [] old.0 → (content : Option (List ℕ)) × Took (text_in content) new.0 × (IsTrue tells → SawContent path content old.1.history new.1.history)
