-- The program's own files.
use Rattle.std.specs.Prelude.{◌≡◌, ◌||◌, ℕ, Bool, List, [], ◌∷◌, bytes_eq}
use Rattle.model.specs.Records.{build_log_name, deps_log_name, file_in, tick_name}
use Rattle.seen.specs.declared.own.Own.{Own}

abbrev pub is_own : Own → List ℕ → Bool
is_own own p = bytes_eq own.log p || (bytes_eq own.deps_log p || (bytes_eq own.tick p || bytes_eq own.seen p))

-- .nj_seen
abbrev pub seen_name : List ℕ
seen_name = 46 ∷ 110 ∷ 106 ∷ 95 ∷ 115 ∷ 101 ∷ 101 ∷ 110 ∷ []

-- they are those that lie in this folder
pub record AreOwnIn (folder : List ℕ) (own : Own) : Type 0 where
  pub log : own.log ≡ file_in folder build_log_name
  pub deps_log : own.deps_log ≡ file_in folder deps_log_name
  pub tick : own.tick ≡ file_in folder tick_name
  pub seen : own.seen ≡ file_in folder seen_name
