-- Flags that are kept, of which some are found again, the lowest place first.
use Rattle.std.proofs.Common.{◌≡◌, inl, inr, ℕ, zero, suc, ◌+◌, ◌<◌, ◌≤◌, ◌==◌, Bool, true, false, List, [], ◌∷◌, Some, cond, length, take, get_or, refl, sym, ◌∙◌, ap, subst, arith}
use Rattle.std.proofs.Math.ListN.{set}
use Rattle.std.proofs.lemmas.Bool.{false≢true, cases_Bool, cases_lt, eqb-true, or_cases, or_right}
use Rattle.std.proofs.lemmas.List.{get_or_past, length-set, get_or-set_same, get_or-set_other}
use Rattle.model.specs.World.{World}
use Rattle.model.specs.Calls.{OnlyLooks}
use Rattle.model.specs.Graph.{has_number}
use Rattle.graph.specs.declared.cone.Cone.{Cone}
use Rattle.graph.specs.declared.graph.Graph.{Graph}
use Rattle.graph.specs.Linked.{StandFor}
use Rattle.graph.specs.Links.{Links, links_of, needs_at, users_at}
use Rattle.graph.specs.Told.{declared_by}
use Rattle.plan.specs.declared.plan.Plan.{Plan}
use Rattle.plan.specs.Flags.{has, IsFirst, AreNone}
use Rattle.records.specs.declared.records.Records.{Records}
use Rattle.judge.specs.declared.dues.Dues.{Dues}
use Rattle.judge.specs.declared.looks.Look.{Look}
use Rattle.judge.specs.declared.looks.Looks.{Looks}
use Rattle.judge.specs.Looking.{HasLooked}
use Rattle.judge.specs.Dues.{due_at, AreListed}
use Rattle.judge.specs.Ruled.{IsFlagFound, IsRuledFound, AreRuledFound, ComeAfterMakers}
use Rattle.judge.specs.KeptDues.{place_of, edge_of_place, NotesFound, IsRoomFor, AreRuledBut, AskForNone}
use Rattle.judge.proofs.AfterMakers.{none_next}
use Rattle.judge.proofs.FilesStay.{Follow, Stay}
use Rattle.judge.proofs.Lacking.{listed_within}
use Rattle.judge.proofs.NotedPlaces.{needs_user, user_needs}
use Rattle.judge.proofs.NumbersAsTexts.{same_or_other, has_here, at_has}
use Rattle.judge.proofs.RuledMore.{found_first, found_flags, flag_second, flag_with}
use Rattle.judge.proofs.RuledStays.{KeepsMakers}

-- ---- the first that is noted, and how many places stand from there on

leading : List Bool → ℕ
leading [] = zero
leading (b ∷ bs) = cond b zero (suc (leading bs))

pub left_from : List Bool → ℕ
left_from [] = zero
left_from (b ∷ bs) = cond b (suc (length bs)) (left_from bs)

both_parts : (flags : List Bool) → leading flags + left_from flags ≡ length flags
unfolding leading left_from
both_parts [] = refl
both_parts (b ∷ bs) = elim (cases_Bool b) [
  | inl here ↦
      let one : leading (b ∷ bs) ≡ zero = ap (λ (x : Bool). cond x zero (suc (leading bs))) here in
      let two : left_from (b ∷ bs) ≡ suc (length bs) = ap (λ (x : Bool). cond x (suc (length bs)) (left_from bs)) here in
      omega (arith, one, two)
  | inr unset ↦
      let one : leading (b ∷ bs) ≡ suc (leading bs) = ap (λ (x : Bool). cond x zero (suc (leading bs))) unset in
      let two : left_from (b ∷ bs) ≡ left_from bs = ap (λ (x : Bool). cond x (suc (length bs)) (left_from bs)) unset in
      let rest = both_parts bs in
      omega (arith, one, two, rest)
]

leading_low : (flags : List Bool) (n : ℕ) → has flags n ≡ true → leading flags ≤ n
unfolding leading
leading_low [] n h = absurd (false≢true (sym (get_or_past [] n false (omega arith)) ∙ h))
leading_low (b ∷ bs) zero h = let one : leading (b ∷ bs) ≡ zero = ap (λ (x : Bool). cond x zero (suc (leading bs))) h in omega (arith, one)
leading_low (b ∷ bs) (suc n) h = elim (cases_Bool b) [
  | inl here ↦ let one : leading (b ∷ bs) ≡ zero = ap (λ (x : Bool). cond x zero (suc (leading bs))) here in omega (arith, one)
  | inr unset ↦
      let one : leading (b ∷ bs) ≡ suc (leading bs) = ap (λ (x : Bool). cond x zero (suc (leading bs))) unset in
      let rest = leading_low bs n h in
      omega (arith, one, rest)
]

leading_past : (flags : List Bool) (n : ℕ) → n < length flags → ((j : ℕ) → j ≤ n → has flags j ≡ false) → n < leading flags
unfolding leading
leading_past [] n lt none = absurd (omega (arith, lt))
leading_past (b ∷ bs) zero lt none = let one : leading (b ∷ bs) ≡ suc (leading bs) = ap (λ (x : Bool). cond x zero (suc (leading bs))) (none zero (omega arith)) in omega (arith, one)
leading_past (b ∷ bs) (suc n) lt none =
    let one : leading (b ∷ bs) ≡ suc (leading bs) = ap (λ (x : Bool). cond x zero (suc (leading bs))) (none zero (omega arith)) in
    let rest = leading_past bs n (omega (arith, lt)) (λ j low. none (suc j) (omega (arith, low))) in
    omega (arith, one, rest)

-- the first of them is taken out
pub removed_less : (flags : List Bool) (k : ℕ) → IsFirst flags k → k < length flags → left_from (set flags k false) < left_from flags
removed_less flags k first lt =
    let size = length-set flags k false in
    let was = leading_low flags k first.is in
    let now = leading_past (set flags k false) k (omega (arith, lt, size)) (λ j low. gone j low) in
    let old = both_parts flags in
    let new = both_parts (set flags k false) in
    omega (arith, size, was, now, old, new, lt)
  where
    gone : (j : ℕ) → j ≤ k → has (set flags k false) j ≡ false
    gone j low = elim (same_or_other k j) [
      | inl here ↦ ap (λ (n : ℕ). has (set flags k false) n) here ∙ get_or-set_same flags k false false lt
      | inr other ↦ get_or-set_other flags k j false false other ∙ first.lowest j (before other)
    ]
      where
        before : (j ≡ k → ⊥) → j < k
        before other = elim (cases_lt j k) [
          | inl early ↦ early
          | inr past ↦ let here : j ≡ k = omega (arith, low, past) in absurd (other here)
        ]

-- ---- places in an order

take_has : (order : List ℕ) (j k : ℕ) → j < k → j < length order → has_number (take k order) (get_or order j 0) ≡ true
take_has [] j k lt low = absurd (omega (arith, low))
take_has (x ∷ xs) j zero lt low = absurd (omega (arith, lt))
take_has (x ∷ xs) zero (suc k) lt low = has_here x (take k xs)
take_has (x ∷ xs) (suc j) (suc k) lt low = or_right (x == get_or xs j 0) (has_number (take k xs) (get_or xs j 0)) (take_has xs j k (omega (arith, lt)) (omega (arith, low)))

at_of : (order : List ℕ) (j n : ℕ) → has_number (take j order) n ≡ true → (i : ℕ) × (i < j) × (i < length order) × (get_or order i 0 ≡ n)
at_of order zero n h = absurd (false≢true h)
at_of [] (suc j) n h = absurd (false≢true h)
at_of (x ∷ xs) (suc j) n h = elim (or_cases (x == n) (has_number (take j xs) n) h) [
  | inl here ↦ (zero, omega arith, omega arith, eqb-true x n here)
  | inr later ↦ let rest = at_of xs j n later in (suc rest.0, omega (arith, rest.1), omega (arith, rest.2), rest.3)
]

module _ (links : Links) (cone : Cone) (after : ComeAfterMakers links cone.order.items) where
  abbrev order : List ℕ
  order = cone.order.items

  -- an edge stands at one place alone
  pub place_is : (k : ℕ) → k < length order → place_of cone (edge_of_place cone k) ≡ k
  place_is k lt =
      let q = edge_of_place cone k in
      let at = cone.placed q (at_has order k 0 lt) in
      elim (cases_lt (place_of cone q) k) [
        | inl earlier ↦
            absurd (false≢true (sym (after.once k lt) ∙ subst (λ (n : ℕ). has_number (take k order) n ≡ true) at.1 (take_has order (place_of cone q) k earlier at.0)))
        | inr high ↦ elim (cases_lt k (place_of cone q)) [
          | inl later ↦
              absurd (false≢true (sym (after.once (place_of cone q) at.0) ∙ subst (λ (n : ℕ). has_number (take (place_of cone q) order) n ≡ true) (sym {A = ℕ} at.1) (take_has order k (place_of cone q) later lt)))
          | inr low ↦ omega (arith, high, low)
        ]
      ]

  -- the maker of what an edge needs stands before it
  pub maker_before : (q p e : ℕ) → has_number order q ≡ true → has_number (needs_at links q) p ≡ true → links.maker p ≡ Some e → place_of cone e < place_of cone q
  maker_before q p e listed needed made =
      let at = cone.placed q listed in
      let there = after.makers (place_of cone q) p e at.0 (subst (λ (n : ℕ). has_number (needs_at links n) p ≡ true) (sym {A = ℕ} at.1) needed) made in
      let found = at_of order (place_of cone q) e there in
      let same : place_of cone e ≡ found.0 = ap (place_of cone) (sym {A = ℕ} found.3) ∙ place_is found.0 found.2 in
      omega (arith, found.1, same)

-- a listed edge is one of the graph
pub room_within : (graph : Graph) (cone : Cone) (dues : Dues) → IsRoomFor graph cone dues → (e : ℕ) → has_number cone.order.items e ≡ true → e < length graph.manifest.lines
room_within graph cone dues room e listed = let low = listed_within cone.marks.items e (room.marks e ∙ listed) in omega (arith, low, room.sized, cone.marks.ok.0)

-- ---- while flags are found again

-- each flag is right by the calls since then, but for those that are noted
pub record IsAgainAt (tells : Bool) (graph : Graph) (records : Records) (cone : Cone) (plan : Plan) (old new : World) (seen : List Look) (dues : Dues) : Type 0 where
  pub room : IsRoomFor graph cone dues
  pub flagged : AreListed cone.order.items dues.flags.items
  pub each : (k : ℕ) → k < length cone.order.items → has dues.todo k ≡ false → IsRuledFound tells graph records plan old new seen dues.flags.items (edge_of_place cone k)

module _ (tells : Bool) (graph : Graph) (records : Records) (cone : Cone) (plan : Plan) where
  -- at the beginning no depfile was asked for, and none is but for edges that are noted
  pub again_start : (world : World) (seen : List Look) (dues : Dues) → AreRuledBut graph records cone plan seen dues → AskForNone graph cone plan dues → IsAgainAt tells graph records cone plan world world seen dues
  again_start world seen dues but asks = record {
    room = but.room;
    flagged = but.flagged;
    each = λ k lt out.
        let was = but.each k lt out in
        record { depfile = was.depfile; ruled = was.ruled; there = λ anew told keeps named unset. absurd (asks k lt out anew anew.command named unset) };
  }

  -- what is so then stays
  pub again_kept : (old new : World) (seen : List Look) (dues : Dues) → IsAgainAt tells graph records cone plan old new seen dues → AreRuledBut graph records cone plan seen dues
  again_kept old new seen dues at = record {
    room = at.room;
    flagged = at.flagged;
    each = λ k lt out. let found = at.each k lt out in record { depfile = found.depfile; ruled = found.ruled };
  }

  -- at the end all flags are right
  pub again_end : (old new : World) (seen : List Look) (dues : Dues) → IsAgainAt tells graph records cone plan old new seen dues → AreNone dues.todo → AreRuledFound tells graph records plan old new seen dues.flags.items cone.order.items
  again_end old new seen dues at none = record {
    flagged = at.flagged;
    each = λ e listed.
        let stands = cone.placed e listed in
        subst (λ (n : ℕ). IsRuledFound tells graph records plan old new seen dues.flags.items n) stands.1 (at.each (place_of cone e) stands.0 (none (place_of cone e)));
  }

-- ---- one of them

module _ (follow : Follow) (stay : Stay) (tells : Bool) (graph : Graph) (stands : StandFor (declared_by graph).edges graph.manifest.paths (links_of graph)) (records : Records) (cone : Cone) (plan : Plan) (a b c : World) (one two : Looks)
    (first : OnlyLooks tells a b) (second : HasLooked tells graph b c one two) (dues next : Dues) (at : IsAgainAt tells graph records cone plan a b one.seen.items dues) (k : ℕ) (lowest : IsFirst dues.todo k) (is : Bool)
    (notes : NotesFound graph cone (edge_of_place cone k) is dues next)
  where
    abbrev edge : ℕ
    edge = edge_of_place cone k

    abbrev links : Links
    links = links_of graph

    low : k < length cone.order.items
    low = at.room.within k lowest.is

    here : place_of cone edge ≡ k
    here = place_is links cone at.room.ordered k low

    -- a listed edge that needs what this one makes is noted, where the flag has changed
    kept_or_noted : (q p : ℕ) → has_number cone.order.items q ≡ true → has next.todo (place_of cone q) ≡ false → has_number (needs_at links q) p ≡ true → links.maker p ≡ Some edge
        → due_at next.flags.items edge ≡ due_at dues.flags.items edge
    kept_or_noted q p listed out needed made = elim notes.users [
      | inl same ↦ same
      | inr noted ↦
          let makes = graph.making.made p edge made in
          let uses = needs_user graph p (users_at graph p) (λ e. graph.using.counted p e (stands.outputs_within edge p makes)) q needed in
          absurd (false≢true (sym out ∙ noted p q makes uses listed))
    ]

    -- the makers of what this edge needs have the flags that they had
    keeps_here : KeepsMakers graph dues.flags.items next.flags.items edge
    keeps_here p m needed made = notes.others m (none_next links cone.order.items at.room.ordered k low m (at.room.ordered.makers k p m low needed made))

    -- and so have those of one that is not noted
    keeps_there : (q : ℕ) → has_number cone.order.items q ≡ true → has next.todo (place_of cone q) ≡ false → KeepsMakers graph dues.flags.items next.flags.items q
    keeps_there q listed out p m needed made = elim (same_or_other edge m) [
      | inl same ↦
          subst (λ (n : ℕ). due_at next.flags.items n ≡ due_at dues.flags.items n) (sym {A = ℕ} same) (kept_or_noted q p listed out needed (made ∙ ap (λ (n : ℕ). Some n) same))
      | inr other ↦ notes.others m other
    ]

    room_then : IsRoomFor graph cone next
    room_then = record {
      fits = notes.fits ∙ at.room.fits;
      sized = at.room.sized;
      room = subst (λ (n : ℕ). length cone.order.items ≤ n) (sym {A = ℕ} notes.room) at.room.room;
      within = λ j now. elim (notes.only j now) [
        | inl was ↦ at.room.within j was.0
        | inr among ↦ subst (λ (n : ℕ). n < length cone.order.items) among.user.place (cone.placed among.user.edge among.user.listed).0
      ];
      marks = at.room.marks;
      ordered = at.room.ordered;
    }

    each_then : IsFlagFound tells graph records plan b c two.seen.items dues.flags.items edge is → (j : ℕ) → j < length cone.order.items → has next.todo j ≡ false
        → IsRuledFound tells graph records plan a c two.seen.items next.flags.items (edge_of_place cone j)
    each_then found j lt out = elim (same_or_other k j) [
      | inl same ↦
          subst (λ (n : ℕ). IsRuledFound tells graph records plan a c two.seen.items next.flags.items (edge_of_place cone n)) (sym {A = ℕ} same)
          (flag_with tells graph records plan a c two.seen.items dues.flags.items next.flags.items edge keeps_here is notes.flag
          (flag_second follow stay tells graph records plan a b c one two dues.flags.items two.seen.items edge is first second.looks found))
      | inr other ↦
          let q = edge_of_place cone j in
          let there : place_of cone q ≡ j = place_is links cone at.room.ordered j lt in
          let listed = at_has cone.order.items j 0 lt in
          let quiet : has dues.todo j ≡ false = elim (cases_Bool (has dues.todo j)) [
            | inl was ↦ absurd (false≢true (sym out ∙ notes.more j (λ same. other (same ∙ here)) was))
            | inr unset ↦ unset
          ] in
          let out_there : has next.todo (place_of cone q) ≡ false = subst (λ (n : ℕ). has next.todo n ≡ false) (sym {A = ℕ} there) out in
          found_flags tells graph records plan a c two.seen.items dues.flags.items next.flags.items q (keeps_there q listed out_there)
          (notes.others q (λ same. other (sym {A = ℕ} there ∙ (ap (place_of cone) same ∙ here))))
          (found_first follow stay tells graph records a b c one two dues.flags.items plan q first second (at.each j lt quiet))
    ]

    pub again_more : IsFlagFound tells graph records plan b c two.seen.items dues.flags.items edge is → IsAgainAt tells graph records cone plan a c two.seen.items next
    again_more found = record {
      room = room_then;
      flagged = λ q marked. elim (same_or_other edge q) [
        | inl same ↦ subst (λ (n : ℕ). has_number cone.order.items n ≡ true) (sym {A = ℕ} same) (at_has cone.order.items k 0 low)
        | inr other ↦ at.flagged q (sym (notes.others q other) ∙ marked)
      ];
      each = each_then found;
    }

    -- what is noted then stands behind it
    behind : (j : ℕ) → j ≤ k → has next.todo j ≡ false
    behind j early = elim (cases_Bool (has next.todo j)) [
      | inl now ↦ elim (notes.only j now) [
        | inl was ↦ elim (cases_lt j k) [
          | inl lt ↦ absurd (false≢true (sym (lowest.lowest j lt) ∙ was.0))
          | inr high ↦ let same : j ≡ k = omega (arith, early, high) in absurd (was.1 (same ∙ sym {A = ℕ} here))
        ]
        | inr among ↦
            let p = among.path in
            let q = among.user.edge in
            let needed = user_needs graph p (users_at graph p) (λ e. graph.using.counted p e (stands.outputs_within edge p among.given)) q among.user.given in
            let later = maker_before links cone at.room.ordered q p edge among.user.listed needed (graph.making.all p edge among.given) in
            absurd (omega (arith, later, here, among.user.place, early))
      ]
      | inr unset ↦ unset
    ]

    pub again_less : k < length dues.todo → left_from next.todo < left_from dues.todo
    again_less lt =
        let same = notes.room in
        let was = leading_low dues.todo k lowest.is in
        let now = leading_past next.todo k (omega (arith, lt, same)) behind in
        let old = both_parts dues.todo in
        let new = both_parts next.todo in
        omega (arith, same, was, now, old, new, lt)
