-- The paths of a `default` statement, kept one after the other.
use Rattle.std.proofs.Common.{◌≡◌, ℕ, List, [], ◌∷◌, ◌++◌, map, append_assoc, ap, sym, ◌∙◌}
use Rattle.std.specs.List.{AllZip}
use Rattle.std.proofs.lemmas.List.{map-append}
use Rattle.manifest.specs.declared.kept.ReadDefault.{ReadDefault}
use Rattle.manifest.specs.Readings.{Place}
use Rattle.manifest.specs.States.{Default}
use Rattle.manifest.specs.Held.{IsDefaultOf}

abbrev pub default_at : Place → List ℕ → Default
default_at place path = record { place = place; path = path }

abbrev pub defaults_at : Place → List (List ℕ) → List Default
defaults_at place paths = map (default_at place) paths

zip_push : (kept : List ReadDefault) (said : List Default) (one : ReadDefault) (more : Default) → AllZip IsDefaultOf kept said → IsDefaultOf one more → AllZip IsDefaultOf (kept ++ one ∷ []) (said ++ more ∷ [])
zip_push [] [] one more all is = (is, tt)
zip_push [] (b ∷ said) one more all is = absurd all
zip_push (a ∷ kept) [] one more all is = absurd all
zip_push (a ∷ kept) (b ∷ said) one more all is = (all.0, zip_push kept said one more all.1 is)

pub defaults_push : (place : Place) (kept new : List ReadDefault) (said : List Default) (paths : List (List ℕ)) (one : ReadDefault) (path : List ℕ)
    → new ≡ kept ++ one ∷ [] → AllZip IsDefaultOf kept (said ++ defaults_at place paths) → IsDefaultOf one (default_at place path)
    → AllZip IsDefaultOf new (said ++ defaults_at place (paths ++ path ∷ []))
defaults_push place kept new said paths one path grown all is =
    let more : said ++ defaults_at place (paths ++ path ∷ []) ≡ (said ++ defaults_at place paths) ++ default_at place path ∷ [] =
    ap (λ (back : List Default). said ++ back) (map-append (default_at place) paths (path ∷ [])) ∙ sym (append_assoc said (defaults_at place paths) (default_at place path ∷ [])) in
    rw (more, grown) (zip_push kept (said ++ defaults_at place paths) one (default_at place path) all is)
