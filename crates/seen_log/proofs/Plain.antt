-- A line in which nothing is escaped.
use Rattle.std.proofs.Common.{◌≡◌, ◌<◌, ℕ, zero, suc, decimal, List, [], ◌∷◌, ◌++◌, refl, sym, ap, ◌∙◌, arith}
use Rattle.std.specs.Str.{IsUtf8, IsAscii}
use Rattle.std.proofs.lemmas.Str.{IsUtf8-from_ascii}
use Rattle.log_text.specs.declared.form.Version.{Version}
use Rattle.log_text.specs.Form.{HasLine}
use Rattle.log_text.specs.Line.{field_and_tab, line_text}
use Rattle.seen_log.specs.declared.note.Kind.{Kind}
use Rattle.seen_log.specs.declared.note.Kind.TheVariants.{Source, Made, Turned}
use Rattle.seen_log.specs.declared.note.Noted.{Noted}
use Rattle.seen_log.specs.Record.{fields_of, forms, letter, noting, IsLineOfNote, IsLow}

pub letter_field : (kind : Kind) → field_and_tab (letter kind ∷ []) ≡ letter kind ∷ 9 ∷ []
letter_field Source = refl
letter_field Made = refl
letter_field Turned = refl

ascii_one : (b : ℕ) → b < 128 → IsAscii (b ∷ [])
ascii_one b lt zero = lt
ascii_one b lt (suc i) = omega arith

pub letter_utf8 : (kind : Kind) → IsUtf8 (letter kind ∷ [])
letter_utf8 Source = IsUtf8-from_ascii (115 ∷ []) (ascii_one 115 (omega arith))
letter_utf8 Made = IsUtf8-from_ascii (109 ∷ []) (ascii_one 109 (omega arith))
letter_utf8 Turned = IsUtf8-from_ascii (116 ∷ []) (ascii_one 116 (omega arith))

module _ (line front named told sized numbered rest path : List ℕ) (noted : Noted) where
  line_is : line ≡ front ++ 46 ∷ [] → front ≡ letter noted.kind ∷ 9 ∷ named → named ≡ field_and_tab path ++ told → told ≡ field_and_tab (decimal noted.stamp) ++ sized
      → sized ≡ field_and_tab (decimal noted.size) ++ numbered → numbered ≡ field_and_tab (decimal noted.number) ++ rest → rest ≡ [] → line ≡ line_text (fields_of (noting path noted))
  line_is e kind first second third fourth none =
      let a = field_and_tab path in
      let b = field_and_tab (decimal noted.stamp) in
      let d = field_and_tab (decimal noted.size) in
      let f = field_and_tab (decimal noted.number) in
      let behind : named ≡ a ++ (b ++ (d ++ (f ++ []))) = first ∙ ap (λ (l : List ℕ). a ++ l) (second ∙ ap (λ (l : List ℕ). b ++ l) (third ∙ ap (λ (l : List ℕ). d ++ l) (fourth ∙ ap (λ (l : List ℕ). f ++ l) none))) in
      e ∙ ap (λ (l : List ℕ). l ++ 46 ∷ []) (kind ∙ (ap (λ (l : List ℕ). letter noted.kind ∷ 9 ∷ l) behind ∙ ap (λ (l : List ℕ). l ++ (a ++ (b ++ (d ++ (f ++ []))))) (sym (letter_field noted.kind))))

  has_line : IsUtf8 path → IsUtf8 (decimal noted.stamp) → IsUtf8 (decimal noted.size) → IsUtf8 (decimal noted.number) → IsLow noted → (version : Version) → HasLine (forms version) (noting path noted)
  has_line p s z n low version = record { fits = low; texts = (letter_utf8 noted.kind, (p, (s, (z, (n, tt))))) }

  pub line_of : line ≡ front ++ 46 ∷ [] → front ≡ letter noted.kind ∷ 9 ∷ named → named ≡ field_and_tab path ++ told → told ≡ field_and_tab (decimal noted.stamp) ++ sized
      → sized ≡ field_and_tab (decimal noted.size) ++ numbered → numbered ≡ field_and_tab (decimal noted.number) ++ rest → rest ≡ []
      → IsUtf8 path → IsUtf8 (decimal noted.stamp) → IsUtf8 (decimal noted.size) → IsUtf8 (decimal noted.number) → IsLow noted → IsLineOfNote line (noting path noted)
  line_of e kind first second third fourth none p s z n low = (line_is e kind first second third fourth none, has_line p s z n low)
