-- Trees of paths, line by line.
use Rattle.std.proofs.Common.{◌≡◌, ℕ, zero, suc, ◌+◌, ◌-◌, ◌*◌, ◌<◌, ◌≤◌, inl, inr, List, [], ◌∷◌, ◌++◌, Option, None, Some, length, drop, get_or, refl, sym, ap, ◌∙◌, arith, append_assoc, append-nil}
use Rattle.std.specs.List.{flat_map}
use Rattle.std.proofs.lemmas.Bool.{cases_lt}
use Rattle.std.proofs.lemmas.List.{length-append}
use Rattle.std.proofs.lemmas.List.Concat.{flat_map-append}
use Rattle.graph.specs.Links.{links_of}
use Rattle.tools.specs.Answers.{branch, indented, levels, line, lines, tree, Puts}
use Rattle.tools.specs.Showing.{Opens, OpensAbove, Shows, head_line, indentation, left_from, left_lines, shown}
use Rattle.tools.specs.declared.declared.Declared.{Declared}
use Rattle.tools.specs.declared.listing.Level.{Level}

-- ---- spaces

pub indented_is : (level : ℕ) (text : List ℕ) → indented level text ≡ indentation level ++ text
indented_is zero text = refl
indented_is (suc level) text = ap (λ (l : List ℕ). 32 ∷ 32 ∷ l) (indented_is level text)

indentation_last : (level : ℕ) → indentation (suc level) ≡ indentation level ++ (32 ∷ 32 ∷ [])
indentation_last zero = refl
indentation_last (suc level) = ap (λ (l : List ℕ). 32 ∷ 32 ∷ l) (indentation_last level)

pub indented_next : (level : ℕ) (told before after : List ℕ) → before ≡ told ++ indentation level → after ≡ before ++ (32 ∷ 32 ∷ []) → after ≡ told ++ indentation (level + 1)
indented_next level told before after was pushed =
    let more : level + 1 ≡ suc level = omega arith in
    pushed ∙ (ap (λ (l : List ℕ). l ++ (32 ∷ 32 ∷ [])) was ∙ (append_assoc told (indentation level) (32 ∷ 32 ∷ [])
    ∙ ap (λ (l : List ℕ). told ++ l) (sym (indentation_last level) ∙ ap indentation (sym more))))

-- ---- lines

pub lines_both : (one two : List (List ℕ)) → lines (one ++ two) ≡ lines one ++ lines two
lines_both one two = flat_map-append line one two

-- a line behind spaces
pub line_indented : (level : ℕ) (told mid new text : List ℕ) → mid ≡ told ++ indentation level → Puts mid new (text ∷ []) → Puts told new (indented level text ∷ [])
line_indented level told mid new text spaces put =
    put ∙ (ap (λ (l : List ℕ). l ++ lines (text ∷ [])) spaces ∙ (append_assoc told (indentation level) (lines (text ∷ []))
    ∙ ap (λ (l : List ℕ). told ++ l)
    (sym (append_assoc (indentation level) (line text) []) ∙ ap (λ (l : List ℕ). l ++ []) (sym (append_assoc (indentation level) text (10 ∷ [])) ∙ ap line (sym (indented_is level text))))))

-- ---- levels

left_push : (declared : Declared) (depth level : ℕ) (levels : List Level) (one : Level)
    → left_from declared depth level (levels ++ one ∷ []) ≡ shown declared depth (level + length levels) (drop one.place one.paths.now) ++ left_from declared depth level levels
left_push declared depth level [] one =
    let same : level + 0 ≡ level = omega arith in
    ap (λ (n : ℕ). shown declared depth n (drop one.place one.paths.now)) (sym same) ∙ sym (append-nil (shown declared depth (level + 0) (drop one.place one.paths.now)))
left_push declared depth level (first ∷ levels) one =
    let same : suc level + length levels ≡ level + length (first ∷ levels) = omega arith in
    ap (λ (l : List (List ℕ)). l ++ shown declared depth level (drop first.place first.paths.now)) (left_push declared depth (suc level) levels one)
    ∙ (append_assoc (shown declared depth (suc level + length levels) (drop one.place one.paths.now)) (left_from declared depth (suc level) levels) (shown declared depth level (drop first.place first.paths.now))
    ∙ ap (λ (n : ℕ). shown declared depth n (drop one.place one.paths.now) ++ left_from declared depth level (first ∷ levels)) same)

-- the last level comes first
left_last : (declared : Declared) (depth : ℕ) (levels : List Level) (one : Level) → left_lines declared depth (levels ++ one ∷ []) ≡ shown declared depth (length levels) (drop one.place one.paths.now) ++ left_lines declared depth levels
left_last declared depth levels one =
    let same : 0 + length levels ≡ length levels = omega arith in
    left_push declared depth 0 levels one ∙ ap (λ (n : ℕ). shown declared depth n (drop one.place one.paths.now) ++ left_lines declared depth levels) same

flat_none : (declared : Declared) (level : ℕ) (paths : List ℕ) → flat_map (tree declared zero level) paths ≡ []
flat_none declared level [] = refl
flat_none declared level (p ∷ paths) = flat_none declared level paths

drop_at : (paths : List ℕ) (place p : ℕ) → place < length paths → p ≡ get_or paths place p → drop place paths ≡ p ∷ drop (place + 1) paths
drop_at [] place p low is = absurd (omega (arith, low))
drop_at (q ∷ paths) zero p low is = let one : zero + 1 ≡ suc zero = omega arith in ap (λ (n : ℕ). n ∷ paths) (sym is) ∙ ap (λ (n : ℕ). p ∷ drop n (q ∷ paths)) (sym one)
drop_at (q ∷ paths) (suc place) p low is = let same : suc place + 1 ≡ suc (place + 1) = omega arith in drop_at paths place p (omega (arith, low)) is ∙ ap (λ (n : ℕ). p ∷ drop n (q ∷ paths)) (sym same)

-- what is above a path
abbrev above_lines : Declared → (more level : ℕ) → Option ℕ → List (List ℕ)
above_lines declared more level None = []
above_lines declared more level (Some e) = flat_map (tree declared more (suc level)) ((links_of declared.graph).inputs e)

-- a path comes to its line, and that
branch_is : (declared : Declared) (more level p : ℕ) (o : Option ℕ) → branch declared (tree declared more (suc level)) level p o ≡ head_line declared level p o ∷ above_lines declared more level o
branch_is declared more level p None = refl
branch_is declared more level p (Some e) = refl

none_above : (declared : Declared) (level : ℕ) (o : Option ℕ) → above_lines declared zero level o ≡ []
none_above declared level None = refl
none_above declared level (Some e) = flat_none declared (suc level) ((links_of declared.graph).inputs e)

-- what was opened above a path comes to what is above it
opened_is : (declared : Declared) (depth level : ℕ) (o : Option ℕ) (old new : List Level) → length old ≡ suc level → OpensAbove declared o old new
    → left_lines declared depth new ≡ above_lines declared (depth - suc level) level o ++ left_lines declared depth old
opened_is declared depth level None old new count opens = ap (left_lines declared depth) opens
opened_is declared depth level (Some e) old new count (one, is, paths, place) =
    ap (left_lines declared depth) is ∙ (left_last declared depth old one
    ∙ ap (λ (l : List (List ℕ)). l ++ left_lines declared depth old)
    (ap (λ (n : ℕ). shown declared depth n (drop one.place one.paths.now)) count
    ∙ (ap (λ (n : ℕ). shown declared depth (suc level) (drop n one.paths.now)) place ∙ ap (shown declared depth (suc level)) paths)))

opened_length : (declared : Declared) (o : Option ℕ) (old new : List Level) → OpensAbove declared o old new → length new ≤ length old + 1
opened_length declared None old new opens = let same = ap length opens in omega (arith, same)
opened_length declared (Some e) old new (one, is, paths, place) = let same : length new ≡ length old + 1 = ap length is ∙ length-append old (one ∷ []) in omega (arith, same)

module _ (declared : Declared) (depth : ℕ) (level next : Level) (old new : List Level) (low : length old < depth) where
  -- one line was shown, and the rest is left
  left_step : (p : ℕ) → level.place < length level.paths.now → p ≡ get_or level.paths.now level.place p → next.paths.now ≡ level.paths.now → next.place ≡ level.place + 1
      → Opens declared depth p (old ++ next ∷ []) new
      → left_lines declared depth (old ++ level ∷ []) ≡ head_line declared (length old) p ((links_of declared.graph).maker p) ∷ left_lines declared depth new
  left_step p within is paths place opens =
      left_last declared depth old level ∙ (ap (λ (l : List (List ℕ)). l ++ left_lines declared depth old) one
      ∙ (append_assoc (head ∷ above) rest (left_lines declared depth old) ∙ ap (λ (l : List (List ℕ)). head ∷ l) (sym all)))
    where
      maker : Option ℕ
      maker = (links_of declared.graph).maker p

      head : List ℕ
      head = head_line declared (length old) p maker

      above : List (List ℕ)
      above = above_lines declared (depth - suc (length old)) (length old) maker

      rest : List (List ℕ)
      rest = shown declared depth (length old) (drop (level.place + 1) level.paths.now)

      deep : depth - length old ≡ suc (depth - suc (length old))
      deep = omega (arith, low)

      one : shown declared depth (length old) (drop level.place level.paths.now) ≡ (head ∷ above) ++ rest
      one =
          ap (shown declared depth (length old)) (drop_at level.paths.now level.place p within is)
          ∙ ap (λ (l : List (List ℕ)). l ++ rest) (ap (λ (n : ℕ). tree declared n (length old) p) deep ∙ branch_is declared (depth - suc (length old)) (length old) p maker)

      next_left : left_lines declared depth (old ++ next ∷ []) ≡ rest ++ left_lines declared depth old
      next_left =
          left_last declared depth old next
          ∙ ap (λ (l : List (List ℕ)). l ++ left_lines declared depth old)
          (ap (λ (n : ℕ). shown declared depth (length old) (drop n next.paths.now)) place ∙ ap (λ (l : List ℕ). shown declared depth (length old) (drop (level.place + 1) l)) paths)

      count : length (old ++ next ∷ []) ≡ suc (length old)
      count = let more = length-append old (next ∷ []) in omega (arith, more)

      all : left_lines declared depth new ≡ above ++ (rest ++ left_lines declared depth old)
      all = elim (cases_lt (length (old ++ next ∷ [])) depth) [
        | inl within ↦ opened_is declared depth (length old) maker (old ++ next ∷ []) new count (opens.above within) ∙ ap (λ (l : List (List ℕ)). above ++ l) next_left
        | inr shut ↦
            let last : depth - suc (length old) ≡ 0 = omega (arith, shut, count) in
            let none : above ≡ [] = ap (λ (n : ℕ). above_lines declared n (length old) maker) last ∙ none_above declared (length old) maker in
            ap (left_lines declared depth) (opens.deep (omega (arith, shut))) ∙ (next_left ∙ ap (λ (l : List (List ℕ)). l ++ (rest ++ left_lines declared depth old)) (sym none))
      ]

  pub shows_one : (p : ℕ) (told more : List ℕ) → level.place < length level.paths.now → p ≡ get_or level.paths.now level.place p → next.paths.now ≡ level.paths.now → next.place ≡ level.place + 1
      → Opens declared depth p (old ++ next ∷ []) new → more ≡ told ++ lines (head_line declared (length old) p ((links_of declared.graph).maker p) ∷ []) → Shows declared depth level old new told more
  shows_one p told more within is paths place opens put =
      let head = head_line declared (length old) p ((links_of declared.graph).maker p) in
      let left = left_lines declared depth new in
      let step = left_step p within is paths place opens in
      let size : length (left_lines declared depth (old ++ level ∷ [])) ≡ suc (length left) = ap length step in
      let count = length-append old (level ∷ []) in
      let one = length-append old (next ∷ []) in
      record {
        same = ap (λ (l : List ℕ). l ++ lines left) put ∙ (append_assoc told (lines (head ∷ [])) (lines left) ∙ ap (λ (l : List ℕ). told ++ l) (sym (lines_both (head ∷ []) left) ∙ ap lines (sym step)));
        nearer = let most = longest p opens in omega (arith, size, count, one, most);
        fits = fits p opens;
      }
    where
      longest : (p : ℕ) → Opens declared depth p (old ++ next ∷ []) new → length new ≤ length (old ++ next ∷ []) + 1
      longest p opens = elim (cases_lt (length (old ++ next ∷ [])) depth) [
        | inl within ↦ opened_length declared ((links_of declared.graph).maker p) (old ++ next ∷ []) new (opens.above within)
        | inr shut ↦ let same = ap length (opens.deep (omega (arith, shut))) in omega (arith, same)
      ]

      fits : (p : ℕ) → Opens declared depth p (old ++ next ∷ []) new → length new ≤ depth
      fits p opens = elim (cases_lt (length (old ++ next ∷ [])) depth) [
        | inl within ↦ let most = opened_length declared ((links_of declared.graph).maker p) (old ++ next ∷ []) new (opens.above within) in omega (arith, within, most)
        | inr shut ↦ let same = ap length (opens.deep (omega (arith, shut))) in let one = length-append old (next ∷ []) in omega (arith, same, one, low)
      ]

  -- nothing of the level is left
  pub shows_none : (told : List ℕ) → drop level.place level.paths.now ≡ [] → new ≡ old → Shows declared depth level old new told told
  shows_none told none same =
      let left : left_lines declared depth (old ++ level ∷ []) ≡ left_lines declared depth new =
      left_last declared depth old level ∙ (ap (λ (l : List ℕ). shown declared depth (length old) l ++ left_lines declared depth old) none ∙ ap (left_lines declared depth) (sym same)) in
      let size = ap length left in
      let count = length-append old (level ∷ []) in
      let kept = ap length same in
      record { same = ap (λ (l : List (List ℕ)). told ++ lines l) (sym left); nearer = omega (arith, size, count, kept); fits = omega (arith, kept, low) }

-- nothing was shown yet
pub left_first : (declared : Declared) (depth : ℕ) (one : Level) (paths : List ℕ) → one.paths.now ≡ paths → one.place ≡ 0 → left_lines declared depth (one ∷ []) ≡ flat_map (tree declared depth 0) paths
left_first declared depth one paths is place =
    let same : depth - 0 ≡ depth = omega arith in
    ap (λ (n : ℕ). shown declared depth 0 (drop n one.paths.now)) place ∙ (ap (shown declared depth 0) is ∙ ap (λ (n : ℕ). flat_map (tree declared n 0) paths) same)

pub levels_are : (declared : Declared) (depth : ℕ) → 0 < depth → depth ≡ levels declared depth
levels_are declared zero some = absurd (omega (arith, some))
levels_are declared (suc depth) some = refl

pub levels_some : (declared : Declared) (depth deepest : ℕ) → deepest ≡ levels declared depth → 0 < deepest
levels_some declared zero deepest is = omega (arith, is)
levels_some declared (suc depth) deepest is = omega (arith, is)

-- what is left where one level was put in
pub shown_first : (declared : Declared) (depth : ℕ) (before levels : List Level) (one : Level) (paths told : List ℕ) → told ≡ [] → before ≡ [] → levels ≡ before ++ one ∷ [] → one.paths.now ≡ paths → one.place ≡ 0
    → told ++ lines (left_lines declared depth levels) ≡ lines (flat_map (tree declared depth 0) paths)
shown_first declared depth before levels one paths told none empty is same place =
    ap (λ (l : List ℕ). l ++ lines (left_lines declared depth levels)) none
    ∙ (ap (λ (l : List Level). lines (left_lines declared depth l)) (is ∙ ap (λ (l : List Level). l ++ one ∷ []) empty) ∙ ap lines (left_first declared depth one paths same place))

-- nothing is left where there is no level
pub all_shown : (declared : Declared) (depth : ℕ) (levels : List Level) (told whole : List ℕ) → length levels ≡ 0 → told ++ lines (left_lines declared depth levels) ≡ whole → told ≡ whole
all_shown declared depth [] told whole none is = sym (append-nil told) ∙ is
all_shown declared depth (one ∷ levels) told whole none is = absurd (omega (arith, none))

-- a level of which nothing is left
pub level_past : (paths : List ℕ) (place : ℕ) → length paths ≤ place → drop place paths ≡ []
level_past [] zero past = refl
level_past [] (suc place) past = refl
level_past (q ∷ paths) zero past = absurd (omega (arith, past))
level_past (q ∷ paths) (suc place) past = level_past paths place (omega (arith, past))
