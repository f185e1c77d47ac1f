-- What was seen where nothing was asked, and what stands for a stamp.
use Rattle.std.proofs.Common.{◌≡◌, ℕ, Bool, true, Option, Some, None, refl}
use Rattle.model.specs.World.{World}
use Rattle.theory.proofs.SiteCalls.{looks_none}
use Rattle.graph.specs.declared.graph.Graph.{Graph}
use Rattle.judge.specs.declared.looks.Looks.{Looks}
use Rattle.judge.specs.declared.sums.Sums.{Sums}
use Rattle.judge.specs.Looking.{HasLooked}
use Rattle.judge.specs.Seen.{is_asked, look_of}

pub saw_none : (tells : Bool) (graph : Graph) (w : World) (looks : Looks) → HasLooked tells graph w w looks looks
saw_none tells graph w looks = record { looks = looks_none tells w; fits = refl; seen = λ told set kept seen. seen; stays = λ p asked. refl }

-- the same looks, with other sums
abbrev pub with_sums : Looks → Sums → Looks
with_sums looks sums = record { seen = looks.seen; sums = sums }

-- sums are nothing that was seen
pub saw_sums : (tells : Bool) (graph : Graph) (w : World) (looks : Looks) (sums : Sums) → HasLooked tells graph w w looks (with_sums looks sums)
saw_sums tells graph w looks sums = record { looks = looks_none tells w; fits = refl; seen = λ told set kept seen. seen; stays = λ p asked. refl }

pub asked_stamp : (stamp : Option ℕ) → is_asked (look_of stamp) ≡ true
asked_stamp None = refl
asked_stamp (Some stamp) = refl
