-- Parts of a path that are looked at 16 bytes at a time.
use Rattle.std.proofs.Common.{◌≡◌, ℕ, zero, suc, ◌+◌, ◌-◌, ◌%◌, ◌^◌, ◌<◌, ◌≤◌, Bool, true, false, not, cond, eqb, ◌&&◌, ◌||◌, ◌==◌, List, [], ◌∷◌, map, length, get_or, bit_and, bit_or, inl, inr, refl, sym, ap, ap₂, ◌∙◌, arith}
use Rattle.std.specs.List.{list_all, slice_split}
use Rattle.std.proofs.lemmas.Bool.{false≢true, cases_eq, ne_eqb}
use Rattle.std.proofs.lemmas.Simd.{mask_l-mod, length-zip2, get_or-zip2, length-chunk, get_or-chunk}
use lib.Lanes.{chunk, mask_l, top, zip2}
use Rattle.lexer.specs.Path.{is_plain}
use Rattle.lexer.specs.Beginnings.{is_fault, fault_at, AreFine, HasFault}
use Rattle.lexer.proofs.Plain.{slash, plain_from, plain_is, stops_at}

-- ---- what a mask tells of its bits

none_set : (bits : List Bool) (k : ℕ) → mask_l bits ≡ 0 → k < length bits → get_or bits k false ≡ false
none_set [] k none lt = absurd (omega (arith, lt))
none_set (true ∷ bits) k none lt = absurd (omega (arith, none))
none_set (false ∷ bits) zero none lt = refl
none_set (false ∷ bits) (suc k) none lt = none_set bits k (omega (arith, none)) (omega (arith, lt))

some_set : (bits : List Bool) → 0 < mask_l bits → (k : ℕ) × (k < length bits) × (get_or bits k false ≡ true)
some_set [] some = absurd (omega (arith, some))
some_set (true ∷ bits) some = (zero, omega arith, refl)
some_set (false ∷ bits) some = let rest = some_set bits (omega (arith, some)) in (suc rest.0, omega (arith, rest.1), rest.2)

pub nonzero : (m : ℕ) → not (m == 0) ≡ true → 0 < m
nonzero zero e = absurd (false≢true e)
nonzero (suc m) e = omega arith

pub is_zero : (m : ℕ) → not (m == 0) ≡ false → m ≡ 0
is_zero m e =
    elim (cases_eq m 0) [
      | inl none ↦ none
      | inr some ↦ absurd (false≢true (sym e ∙ ap not (ne_eqb m 0 some)))
    ]

-- ---- 16 bytes beside the 16 behind them

abbrev pub hit : ℕ → ℕ → ℕ
hit a b = cond (eqb a b) 255 0

abbrev pub is_slash : ℕ → ℕ
is_slash a = hit a 47

abbrev pub is_bad : ℕ → ℕ
is_bad b = bit_or (hit b 47) (hit b 46)

one_lane : (a b c : Bool) → top 7 (bit_and (cond a 255 0) (bit_or (cond b 255 0) (cond c 255 0))) ≡ (a && (b || c))
one_lane true true true = refl
one_lane true true false = refl
one_lane true false true = refl
one_lane true false false = refl
one_lane false true true = refl
one_lane false true false = refl
one_lane false false true = refl
one_lane false false false = refl

each_lane : (xs ys : List ℕ) → map (top 7) (zip2 bit_and (map is_slash xs) (map is_bad ys)) ≡ zip2 is_fault xs ys
each_lane [] ys = refl
each_lane (x ∷ xs) [] = refl
each_lane (x ∷ xs) (y ∷ ys) = ap₂ (λ b bs. b ∷ bs) (one_lane (x == 47) (y == 47) (y == 46)) (each_lane xs ys)

pub faults_mask : (xs ys z : List ℕ) → length xs ≡ 16 → length ys ≡ 16 → z ≡ zip2 bit_and (map is_slash xs) (map is_bad ys) → mask_l (map (top 7) z) % 2 ^ 64 ≡ mask_l (zip2 is_fault xs ys)
faults_mask xs ys z long as_long lanes =
    ap (λ bits. mask_l bits % 2 ^ 64) (ap (map (top 7)) lanes ∙ each_lane xs ys) ∙ mask_l-mod (zip2 is_fault xs ys) 64 (omega (arith, length-zip2 is_fault xs ys (long ∙ sym as_long), long))

module _ (bytes : List ℕ) (at : ℕ) (room : at + 17 ≤ length bytes) where
  abbrev faults : List Bool
  faults = zip2 is_fault (chunk at 16 bytes) (chunk (at + 1) 16 bytes)

  front_len : length (chunk at 16 bytes) ≡ 16
  front_len = length-chunk at 16 bytes (omega (arith, room))

  back_len : length (chunk (at + 1) 16 bytes) ≡ 16
  back_len = length-chunk (at + 1) 16 bytes (omega (arith, room))

  faults_len : length faults ≡ 16
  faults_len = length-zip2 is_fault (chunk at 16 bytes) (chunk (at + 1) 16 bytes) (front_len ∙ sym back_len) ∙ front_len

  fault_is : (k : ℕ) → k < 16 → get_or faults k false ≡ fault_at bytes (at + k)
  fault_is k lt =
      let next : at + 1 + k ≡ suc (at + k) = omega arith in
      get_or-zip2 is_fault (chunk at 16 bytes) (chunk (at + 1) 16 bytes) k 0 0 false (omega (arith, front_len, lt)) (omega (arith, back_len, lt))
      ∙ ap₂ is_fault (get_or-chunk at 16 bytes k 0 lt) (get_or-chunk (at + 1) 16 bytes k 0 lt ∙ ap (λ (j : ℕ). get_or bytes j 0) next)

  pub fault_found : 0 < mask_l faults → HasFault bytes
  fault_found some =
      let set = some_set faults some in
      let lt : set.0 < 16 = omega (arith, set.1, faults_len) in
      (at + set.0, omega (arith, lt, room), sym (fault_is set.0 lt) ∙ set.2)

  pub none_found : mask_l faults ≡ 0 → AreFine bytes at (at + 16)
  none_found none k from to =
      let place : at + (k - at) ≡ k = omega (arith, from) in
      ap (fault_at bytes) (sym place) ∙ (sym (fault_is (k - at) (omega (arith, from, to))) ∙ none_set faults (k - at) none (omega (arith, from, to, faults_len)))

-- ---- what is told of the parts

and_false : (x : Bool) {y : Bool} → y ≡ false → (x && y) ≡ false
and_false true e = e
and_false false e = refl

abbrev is_stop_byte : ℕ → Bool
is_stop_byte b = b == 47 || b == 46

fine_from : (begins : Bool) (bytes : List ℕ) (n : ℕ) → length bytes ≡ suc n → (begins && is_stop_byte (get_or bytes 0 0)) ≡ false → ((k : ℕ) → k < n → fault_at bytes k ≡ false) → (get_or bytes n 0 == 47) ≡ false → plain_from begins bytes ≡ true
fine_from begins [] n long first all last = absurd (omega (arith, long))
fine_from begins (a ∷ []) zero long first all last = ap₂ (λ (p q : Bool). not p && not q) first last
fine_from begins (a ∷ []) (suc n) long first all last = absurd (omega (arith, long))
fine_from begins (a ∷ b ∷ bytes) zero long first all last = absurd (omega (arith, long))
fine_from begins (a ∷ b ∷ bytes) (suc n) long first all last =
    ap (λ (p : Bool). not p && plain_from (a == 47) (b ∷ bytes)) first
    ∙ fine_from (a == 47) (b ∷ bytes) n (omega (arith, long)) (all zero (omega arith)) (λ k lt. all (suc k) (omega (arith, lt))) last

fault_from : (begins : Bool) (bytes : List ℕ) (k : ℕ) → suc k < length bytes → fault_at bytes k ≡ true → plain_from begins bytes ≡ false
fault_from begins [] k lt e = absurd (omega (arith, lt))
fault_from begins (a ∷ []) k lt e = absurd (omega (arith, lt))
fault_from begins (a ∷ b ∷ bytes) zero lt e = and_false (not (begins && is_stop_byte a)) (ap (λ (p : Bool). not p && plain_from (b == 47) bytes) e)
fault_from begins (a ∷ b ∷ bytes) (suc k) lt e = and_false (not (begins && is_stop_byte a)) (fault_from (a == 47) (b ∷ bytes) k (omega (arith, lt)) e)

slash_from : (begins : Bool) (bytes : List ℕ) (n : ℕ) → length bytes ≡ suc n → (get_or bytes n 0 == 47) ≡ true → plain_from begins bytes ≡ false
slash_from begins [] n long last = absurd (omega (arith, long))
slash_from begins (a ∷ []) zero long last = and_false (not (begins && is_stop_byte a)) (ap not last)
slash_from begins (a ∷ []) (suc n) long last = absurd (omega (arith, long))
slash_from begins (a ∷ b ∷ bytes) zero long last = absurd (omega (arith, long))
slash_from begins (a ∷ b ∷ bytes) (suc n) long last = and_false (not (begins && is_stop_byte a)) (slash_from (a == 47) (b ∷ bytes) n (omega (arith, long)) last)

pub bad_begin : (bytes : List ℕ) → 16 < length bytes → (get_or bytes 0 0 == 47 || get_or bytes 0 0 == 46) ≡ true → false ≡ list_all is_plain (slice_split slash bytes)
bad_begin bytes long first = sym (stops_at bytes 0 (get_or bytes 0 0) 0 (omega (arith, long)) refl first) ∙ plain_is bytes

pub bad_end : (bytes : List ℕ) (n : ℕ) → length bytes ≡ suc n → (get_or bytes n 0 == 47) ≡ true → false ≡ list_all is_plain (slice_split slash bytes)
bad_end bytes n long last = sym (slash_from true bytes n long last) ∙ plain_is bytes

pub bad_within : (bytes : List ℕ) → HasFault bytes → false ≡ list_all is_plain (slice_split slash bytes)
bad_within bytes fault = sym (fault_from true bytes fault.0 fault.1 fault.2) ∙ plain_is bytes

pub all_fine : (bytes : List ℕ) (n : ℕ) → length bytes ≡ suc n → (get_or bytes 0 0 == 47 || get_or bytes 0 0 == 46) ≡ false → ((k : ℕ) → k < n → fault_at bytes k ≡ false) → (get_or bytes n 0 == 47) ≡ false → true ≡ list_all is_plain (slice_split slash bytes)
all_fine bytes n long first all last = sym (fine_from true bytes n long first all last) ∙ plain_is bytes
