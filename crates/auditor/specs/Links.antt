-- Links that a command made itself, and what was done through them.
use Rattle.std.specs.Prelude.{◌≡◌, ◌≢◌, ℕ, ◌&&◌, not, Bool, true, false, List, Option, Some, None, bytes_eq}
use Rattle.audit.specs.declared.lead.Way.{Way}
use Rattle.audit.specs.declared.lead.Way.TheVariants.{Own, At, Twin}
use Rattle.audit.specs.declared.standing.Stands.{Stands}
use Rattle.audit.specs.declared.standing.Stands.TheVariants.{File, Link}
use Rattle.audit.specs.declared.seen.By.{By}
use Rattle.audit.specs.declared.seen.By.TheVariants.{Name, Both}
use Rattle.audit.specs.declared.whole.Whole.{Whole}

-- the file has another path, by which it is known too
abbrev pub is_elsewhere : List ℕ → Option (List ℕ) → Bool
is_elsewhere path None = false
is_elsewhere path (Some real) = not (bytes_eq real path)

abbrev pub leads_at : Way → Bool
leads_at At = true
leads_at Twin = true
leads_at _ = false

abbrev pub leads_through : Way → Bool
leads_through Own = true
leads_through _ = false

-- the file has another path, and a link that the command made stands at the path itself, or the command gave it that path beside the other one
unfoldable pub is_at_own : Whole → Bool
is_at_own whole = is_elsewhere whole.path whole.real && leads_at whole.way

-- the file has another path, and a link to a folder that the command made stands on the way
unfoldable pub is_through_own : Whole → Bool
is_through_own whole = is_elsewhere whole.path whole.real && leads_through whole.way

-- What was done through a link of the command's own counts by where it leads: by both paths, where that stands at the path itself, and else not
-- by its name alone.
pub record CountsThrough (whole : Whole) (by : By) : Type 0 where
  pub at : is_at_own whole ≡ true → by ≡ Both
  pub through : is_through_own whole ≡ true → by ≢ Name

-- what stands at a path of which it is told where the link leads that stands there, or that none does
abbrev pub learned : Option (List ℕ) → Stands
learned None = File
learned (Some target) = Link target
