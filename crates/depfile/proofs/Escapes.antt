-- What the signs of a text are, by what stands first in it.
use Rattle.std.proofs.Common.{◌≡◌, ℕ, ◌+◌, ◌<◌, ◌≤◌, ◌==◌, ◌||◌, not, cond, Bool, true, false, List, [], ◌∷◌, ◌++◌, length, map, take, drop, arith, ap, sym, ◌∙◌, refl, length-take-le, ◌⊎◌, inl, inr, Option, Some, None, eqb-true}
use Prim.Native.Nat.{zero, suc}
use Rattle.std.specs.List.{AllByRecursion}
use Rattle.depfile.specs.declared.characters.Class.TheVariants as class
use Rattle.depfile.specs.Signs.{Sign, is_pair, characters, backslashes, is_escaped, behind_backslashes, signs_behind, signs, spelled}
use Rattle.depfile.specs.Signs.Sign.{letter, blank}
use Rattle.depfile.specs.Depfile.{is_some_word}
use Rattle.depfile.specs.Pieces.{is_of, AllBackslashes, behind, newline_of}

-- ---- bytes that stand first

pub behind_is : (wanted : ℕ) (text rest : List ℕ) → behind wanted text ≡ Some rest → text ≡ wanted ∷ rest
behind_is wanted [] rest e = absurd (cc)
behind_is wanted (b ∷ text) rest e = by (b == wanted) refl
  where
    by : (is : Bool) → (b == wanted) ≡ is → b ∷ text ≡ wanted ∷ rest
    by true same =
        let found : Some text ≡ Some rest = rw same at e in
        let same_text : text ≡ rest = cc in
        ap (λ (c : ℕ). c ∷ text) (eqb-true b wanted same) ∙ ap (λ (xs : List ℕ). wanted ∷ xs) same_text
    by false other = absurd (let none : None ≡ Some rest = rw other at e in cc)

pub not_behind : (wanted b : ℕ) (text : List ℕ) → behind wanted (b ∷ text) ≡ None → (b == wanted) ≡ false
not_behind wanted b text e = by (b == wanted) refl
  where
    by : (is : Bool) → (b == wanted) ≡ is → (b == wanted) ≡ false
    by true same = absurd (let some : Some text ≡ None = rw same at e in cc)
    by false other = other

-- LF or CR LF stands first
pub newline_is : (text rest : List ℕ) → newline_of text ≡ Some rest → (text ≡ 10 ∷ rest) ⊎ (text ≡ 13 ∷ 10 ∷ rest)
newline_is text rest e = by (behind 10 text) refl
  where
    carried : (more : Option (List ℕ)) → behind 10 text ≡ None → behind 13 text ≡ more → (text ≡ 10 ∷ rest) ⊎ (text ≡ 13 ∷ 10 ∷ rest)
    carried None none is = absurd (let n : None ≡ Some rest = rw (none, is) at e in cc)
    carried (Some more) none is =
        let there : behind 10 more ≡ Some rest = rw (none, is) at e in
        inr (behind_is 13 text more is ∙ ap (λ (xs : List ℕ). 13 ∷ xs) (behind_is 10 more rest there))

    by : (first : Option (List ℕ)) → behind 10 text ≡ first → (text ≡ 10 ∷ rest) ⊎ (text ≡ 13 ∷ 10 ∷ rest)
    by None is = carried (behind 13 text) is refl
    by (Some more) is =
        let same : Some more ≡ Some rest = rw is at e in
        let same_text : more ≡ rest = cc in
        inl (behind_is 10 text more is ∙ ap (λ (xs : List ℕ). 10 ∷ xs) same_text)

-- as characters, it is one LF
pub newline_characters : (text rest : List ℕ) → newline_of text ≡ Some rest → characters text ≡ 10 ∷ characters rest
newline_characters text rest e = by (newline_is text rest e)
  where
    one : (rest : List ℕ) → characters (10 ∷ rest) ≡ 10 ∷ characters rest
    one [] = refl
    one (c ∷ rest) = refl

    by : (text ≡ 10 ∷ rest) ⊎ (text ≡ 13 ∷ 10 ∷ rest) → characters text ≡ 10 ∷ characters rest
    by (inl is) = ap characters is ∙ one rest
    by (inr is) = ap characters is

pub newline_shorter : (text rest : List ℕ) → newline_of text ≡ Some rest → length rest < length text
newline_shorter text rest e = by (newline_is text rest e)
  where
    by : (text ≡ 10 ∷ rest) ⊎ (text ≡ 13 ∷ 10 ∷ rest) → length rest < length text
    by (inl is) = rw is (omega arith)
    by (inr is) = rw is (omega arith)

-- where no newline stands first, and no second dollar, the first byte is a character of its own
pub no_pair : (b c : ℕ) → (b == 13) ≡ false → (b == 36) ≡ false → is_pair b c ≡ false
no_pair b c cr dollar = rw (cr, dollar) refl

pub characters_alone : (b : ℕ) (text : List ℕ) → (b == 13) ≡ false → (b == 36) ≡ false → characters (b ∷ text) ≡ b ∷ characters text
characters_alone b [] cr dollar = refl
characters_alone b (c ∷ text) cr dollar = rw (no_pair b c cr dollar) refl

-- the first byte is the first character, also where CR stands alone, and where two dollars stand
pub characters_first : (b : ℕ) (text : List ℕ) → newline_of (b ∷ text) ≡ None → (more : List ℕ) × (characters (b ∷ text) ≡ b ∷ more)
characters_first b [] none = ([], refl)
characters_first b (c ∷ text) none = by (is_pair b c) refl
  where
    cr_lf : (b == 13) ≡ true → (c == 10) ≡ true → ⊥
    cr_lf cr lf =
        let is : b ≡ 13 = eqb-true b 13 cr in
        let ten : (b == 10) ≡ false = rw is refl in
        let some : Some text ≡ None = rw (ten, cr, lf) at none in cc

    same : (x y z w : Bool) → (b == 13) ≡ x → (c == 10) ≡ y → (b == 36) ≡ z → (c == 36) ≡ w → is_pair b c ≡ true → c ≡ b
    same true true z w cr lf d1 d2 pair = absurd (cr_lf cr lf)
    same true false true true cr lf d1 d2 pair = eqb-true c 36 d2 ∙ sym (eqb-true b 36 d1)
    same true false true false cr lf d1 d2 pair = absurd (let f : false ≡ true = rw (cr, lf, d1, d2) at pair in cc)
    same true false false w cr lf d1 d2 pair = absurd (let f : false ≡ true = rw (cr, lf, d1) at pair in cc)
    same false y true true cr lf d1 d2 pair = eqb-true c 36 d2 ∙ sym (eqb-true b 36 d1)
    same false y true false cr lf d1 d2 pair = absurd (let f : false ≡ true = rw (cr, d1, d2) at pair in cc)
    same false y false w cr lf d1 d2 pair = absurd (let f : false ≡ true = rw (cr, d1) at pair in cc)

    by : (is : Bool) → is_pair b c ≡ is → (more : List ℕ) × (characters (b ∷ c ∷ text) ≡ b ∷ more)
    by true pair = (characters text, rw pair (ap (λ (x : ℕ). x ∷ characters text) (same (b == 13) (c == 10) (b == 36) (c == 36) refl refl refl refl pair)))
    by false single = (characters (c ∷ text), rw single refl)

-- ---- characters that stand for themselves

pub record IsLone (b : ℕ) : Type 0 where
  pub space : (b == 32) ≡ false
  pub lf : (b == 10) ≡ false
  pub sharp_colon : is_escaped b ≡ false

-- backslashes before it stand for themselves
pub lone_behind : (n b : ℕ) → IsLone b → behind_backslashes n b ≡ backslashes n ++ behind_backslashes 0 b
lone_behind n b lone = rw (lone.space, lone.lf, lone.sharp_colon) (by (b == 9))
  where
    by : (tab : Bool) → cond tab (backslashes n ++ blank ∷ []) (backslashes n ++ letter b ∷ []) ≡ backslashes n ++ cond tab ([] ++ blank ∷ []) ([] ++ letter b ∷ [])
    by true = refl
    by false = refl

pub record IsPlainByte (b : ℕ) : Type 0 where
  pub tab : (b == 9) ≡ false
  pub lf : (b == 10) ≡ false
  pub cr : (b == 13) ≡ false
  pub space : (b == 32) ≡ false
  pub dollar : (b == 36) ≡ false
  pub colon : (b == 58) ≡ false
  pub backslash : (b == 92) ≡ false

none_true : (p q : Bool) → not (p || q) ≡ true → (not p ≡ true) × (q ≡ false)
none_true true q e = absurd (cc)
none_true false true e = absurd (cc)
none_true false false e = (refl, refl)

not_true : (p : Bool) → not p ≡ true → p ≡ false
not_true true e = absurd (cc)
not_true false e = refl

pub plain_byte : (b : ℕ) → is_of class.Plain b ≡ true → IsPlainByte b
plain_byte b e =
    let backslash = none_true (b == 9 || b == 10 || b == 13 || b == 32 || b == 36 || b == 58) (b == 92) e in
    let part = none_true (b == 9 || b == 10 || b == 13 || b == 32 || b == 36) (b == 58) backslash.0 in
    let dollar = none_true (b == 9 || b == 10 || b == 13 || b == 32) (b == 36) part.0 in
    let space = none_true (b == 9 || b == 10 || b == 13) (b == 32) dollar.0 in
    let cr = none_true (b == 9 || b == 10) (b == 13) space.0 in
    let lf = none_true (b == 9) (b == 10) cr.0 in
    record { tab = not_true (b == 9) lf.0; lf = lf.1; cr = cr.1; space = space.1; dollar = dollar.1; colon = part.1; backslash = backslash.1 }

-- with no backslash before it, it is a letter
pub letter_alone : (b : ℕ) → (b == 9) ≡ false → (b == 10) ≡ false → (b == 32) ≡ false → (b == 58) ≡ false → behind_backslashes 0 b ≡ letter b ∷ []
letter_alone b tab lf space part = rw (space, lf, part, tab) (by (b == 35))
  where
    by : (sharp : Bool) → cond (sharp || false) (cond false (Sign.colon ∷ []) (letter b ∷ [])) (cond false (blank ∷ []) (letter b ∷ [])) ≡ letter b ∷ []
    by true = refl
    by false = refl

pub plain_signs : (b : ℕ) (text : List ℕ) → IsPlainByte b → signs (b ∷ text) ≡ letter b ∷ signs text
plain_signs b text plain =
    ap (signs_behind 0) (characters_alone b text plain.cr plain.dollar)
    ∙ rw plain.backslash (ap (λ (xs : List Sign). xs ++ signs text) (letter_alone b plain.tab plain.lf plain.space plain.colon))

-- a run of them
pub plain_run_signs : (run text : List ℕ) → AllByRecursion (λ b. is_of class.Plain b ≡ true) run → signs (run ++ text) ≡ map letter run ++ signs text
plain_run_signs [] text all = refl
plain_run_signs (b ∷ run) text all = plain_signs b (run ++ text) (plain_byte b all.0) ∙ ap (λ (xs : List Sign). letter b ∷ xs) (plain_run_signs run text all.1)

-- ---- backslashes

pub backslashes_stay : (run text : List ℕ) → AllBackslashes run → characters (run ++ text) ≡ run ++ characters text
backslashes_stay [] text all = refl
backslashes_stay (b ∷ run) text all =
    let is : b ≡ 92 = eqb-true b 92 all.0 in
    characters_alone b (run ++ text) (rw is refl) (rw is refl) ∙ ap (λ (xs : List ℕ). b ∷ xs) (backslashes_stay run text all.1)

count_run : (n : ℕ) (run text : List ℕ) → AllBackslashes run → signs_behind n (run ++ text) ≡ signs_behind (n + length run) text
count_run n [] text all = ap (λ (k : ℕ). signs_behind k text) (omega arith)
count_run n (b ∷ run) text all = rw all.0 (count_run (suc n) run text all.1 ∙ ap (λ (k : ℕ). signs_behind k text) (omega arith))

-- a run of backslashes counts
pub run_signs : (run text : List ℕ) → AllBackslashes run → signs (run ++ text) ≡ signs_behind (length run) (characters text)
run_signs run text all = ap (signs_behind 0) (backslashes_stay run text all) ∙ count_run 0 run (characters text) all ∙ ap (λ (k : ℕ). signs_behind k (characters text)) (omega arith)

pub run_letters : (run : List ℕ) → AllBackslashes run → map letter run ≡ backslashes (length run)
run_letters [] all = refl
run_letters (b ∷ run) all = ap (λ (c : ℕ). letter c ∷ map letter run) (eqb-true b 92 all.0) ∙ ap (λ (xs : List Sign). letter 92 ∷ xs) (run_letters run all.1)

pub all_take : (k : ℕ) (run : List ℕ) → AllBackslashes run → AllBackslashes (take k run)
all_take zero run all = tt
all_take (suc k) [] all = tt
all_take (suc k) (b ∷ run) all = (all.0, all_take k run all.1)

pub all_drop : (k : ℕ) (run : List ℕ) → AllBackslashes run → AllBackslashes (drop k run)
all_drop zero run all = all
all_drop (suc k) [] all = tt
all_drop (suc k) (b ∷ run) all = all_drop k run all.1

pub front_letters : (k : ℕ) (run : List ℕ) → k ≤ length run → AllBackslashes run → map letter (take k run) ≡ backslashes k
front_letters k run le all = run_letters (take k run) (all_take k run all) ∙ ap backslashes (length-take-le k run le)

-- ---- letters

pub spelled_letters : (text : List ℕ) → spelled (map letter text) ≡ text
spelled_letters [] = refl
spelled_letters (b ∷ text) = ap (λ (xs : List ℕ). b ∷ xs) (spelled_letters text)

pub some_letters : (text : List ℕ) → 0 < length text → is_some_word (map letter text) ≡ true
some_letters [] lt = absurd (omega arith)
some_letters (b ∷ text) lt = refl
