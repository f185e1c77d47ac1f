-- What calls see and do on the site that is told, by the worlds of the one below.
use Rattle.std.specs.Prelude.{ℕ, Bool, List, Option}
use Rattle.model.specs.World.{World, content_of, file_at, stamp_of}
use Rattle.model.specs.Calls.{Appends, AppendsOrNot, Sees}
use Rattle.site.specs.Files.{TookFile}
use Rattle.seen.specs.declared.answer.Looked.{Looked}
use Rattle.seen.specs.Begun.{Begun, told_world}

-- in a call between these worlds the file at the path had the stamp under which what was seen counts
abbrev pub SeesCounted : Bool → Begun → List ℕ → World → World → Looked → Type 0
SeesCounted tells b path old new looked = Sees (λ history. stamp_of (file_at history path)) looked.counts (told_world tells b old).history (told_world tells b new).history

-- and this content
abbrev pub SeesContent : Bool → Begun → List ℕ → World → World → Option (List ℕ) → Type 0
SeesContent tells b path old new content = Sees (λ history. content_of (file_at history path)) content (told_world tells b old).history (told_world tells b new).history

-- whoever had taken nothing has taken such a content, and no more
abbrev pub TakesTold : {T : Type 0} → (List ℕ → T → Type 0) → Bool → Begun → List ℕ → T × World → T × World → Type 0
TakesTold Took tells b path old new = TookFile Took tells path (old.0, told_world tells b old.1) (new.0, told_world tells b new.1)

-- the bytes went behind the file at the path,
abbrev pub AppendsTold : Bool → Begun → List ℕ → List ℕ → World → World → Type 0
AppendsTold tells b path bytes old new = Appends tells path bytes (told_world tells b old) (told_world tells b new)

-- or a beginning of them
abbrev pub AppendsToldOrNot : Bool → Begun → List ℕ → List ℕ → World → World → Type 0
AppendsToldOrNot tells b path bytes old new = AppendsOrNot tells path bytes (told_world tells b old) (told_world tells b new)
