-- What is taken in, one path after another, while others write.
use Rattle.std.proofs.Common.{◌≡◌, ◌≢◌, ℕ, ◌+◌, ◌<◌, Bool, IsTrue, List, [], ◌∷◌, ◌++◌, Option, is_some, bytes_eq, length, take, get_or, refl, sym, ◌∙◌, ap}
use Rattle.std.specs.List.{flat_map}
use Rattle.std.proofs.lemmas.List.{append-nil, take_more}
use Rattle.std.proofs.lemmas.Grind.{flat_map-append}
use Rattle.model.specs.declared.act.Act.{Act}
use Rattle.model.specs.declared.graph.Deps.{Deps}
use Rattle.model.specs.World.{World, File, stamp_of}
use Rattle.model.specs.Calls.{OnlyLooks}
use Rattle.theory.proofs.Lists.{bytes_same}
use Rattle.paths.specs.Told.{text_at}
use Rattle.graph.specs.declared.graph.Graph.{Graph}
use Rattle.judge.specs.declared.looks.Looks.{Looks}
use Rattle.judge.specs.Seen.{look_of, AreKept}
use Rattle.judge.specs.Looking.{HasLooked, LooksFollow, FilesStay}
use Rattle.judge.specs.Facts.{HasDepfile}

-- a call that only looks asks for no path of the table
pub looked_still : (tells : Bool) (graph : Graph) (a b : World) (looks : Looks) → FilesStay tells a b → OnlyLooks tells a b → HasLooked tells graph a b looks looks
looked_still tells graph a b looks stay only = record {
  looks = only;
  fits = refl;
  stays = λ p asked. refl;
  seen = λ told set kept seen p asked is. seen p asked is ∙ ap (λ (f : Option File). look_of (stamp_of f)) (sym (stay told set only kept (text_at graph.manifest.paths p) is));
}

-- ---- one element more

pub flat_more : {X A : Type 0} (f : X → List A) (xs : List X) (k : ℕ) (d : X) → k < length xs → flat_map f (take (k + 1) xs) ≡ flat_map f (take k xs) ++ f (get_or xs k d)
flat_more f xs k d lt =
    ap (flat_map f) (take_more xs k d lt)
    ∙ (flat_map-append f (take k xs) (get_or xs k d ∷ []) ∙ ap (λ l. flat_map f (take k xs) ++ l) (append-nil (f (get_or xs k d))))

-- ---- one call after another

module _ (tells : Bool) (graph : Graph) (a b c : World) (one two : Looks) (follow : LooksFollow tells a b c) (stay : FilesStay tells b c) (first : HasLooked tells graph a b one two) (second : OnlyLooks tells b c) where
  -- whether the depfile is there, behind the second call too
  pub depfile_later : (act : Act) (deps : Deps) (is : Bool) → IsTrue tells → (act.depfile ≢ [] → AreKept (bytes_eq act.depfile) a.history c.history)
      → ((act.depfile ≢ [] → AreKept (bytes_eq act.depfile) a.history b.history) → HasDepfile act deps is b.history) → HasDepfile act deps is c.history
  depfile_later act deps is told keeps there named unset =
      there (λ named. follow.earlier told (bytes_eq act.depfile) first.looks second (keeps named)) named unset
      ∙ ap (λ (f : Option File). is_some f) (sym (stay told (bytes_eq act.depfile) second (follow.later told (bytes_eq act.depfile) first.looks second (keeps named)) act.depfile (bytes_same act.depfile)))
