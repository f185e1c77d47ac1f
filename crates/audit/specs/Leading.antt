-- Where names lead, by the links on their way (what the kernel does with them is what the manual of Linux says, path_resolution(7)).
use Rattle.std.specs.Prelude.{ℕ, zero, suc, ◌-◌, ◌==◌, ◌&&◌, ◌||◌, not, Bool, true, false, List, [], ◌∷◌, ◌++◌, Option, Some, None, if◌then◌else◌, bytes_eq, codes, length, nat_eq, slice_get, take, unwrap_or}
use Rattle.std.specs.List.{ends_with, slice_split, starts_with}
use Rattle.audit.specs.declared.lead.Asks.{Asks}
use Rattle.audit.specs.declared.lead.Trail.{Trail}
use Rattle.audit.specs.declared.lead.Phase.{Phase}
use Rattle.audit.specs.declared.lead.Phase.TheVariants.{Walks, Magic, Met, Lost}
use Rattle.audit.specs.declared.lead.SoFar.{SoFar}
use Rattle.audit.specs.declared.lead.Target.{Target}
use Rattle.audit.specs.declared.lead.Way.{Way}
use Rattle.audit.specs.declared.lead.Way.TheVariants.{Plain, Own, At, Old, Twin}
use Rattle.audit.specs.declared.standing.Stands.{Stands}
use Rattle.audit.specs.declared.standing.Stands.TheVariants as standing
use Rattle.audit.specs.Came.{Came}
use Rattle.audit.specs.Stood.{Stood}
use Rattle.audit.specs.Standing.{is_gone, stand_at}

abbrev pub is_twin : Way → Bool
is_twin Twin = true
is_twin _ = false

abbrev pub is_lost : Phase → Bool
is_lost Lost = true
is_lost _ = false

abbrev pub has_met : Phase → Bool
has_met Met = true
has_met _ = false

-- ---- links

abbrev pub target_of : List ℕ → Bool → Option Target
target_of path own = Some (record { path = path; own = own })

abbrev pub old_target_so : Option Stands → Option Target
old_target_so (Some (standing.Link path)) = target_of path false
old_target_so _ = None

-- where a link leads that stands at a path and that the command did not make; such links count or do not
abbrev pub old_target : Stood → Bool → List ℕ → Option Target
old_target old sees place = if not sees then None else old_target_so (stand_at old place)

abbrev pub target_by : Option Stands → Option Target → Option Target
target_by None old = old
target_by (Some standing.Unknown) old = old
target_by (Some (standing.Twin path)) old = old
target_by (Some (standing.Link path)) old = target_of path true
target_by (Some _) old = None

-- where the link leads that stands at a path, if one does
abbrev pub target_at : Stood → Stood → Bool → List ℕ → Option Target
target_at own old sees place = target_by (stand_at own place) (old_target old sees place)

-- ---- a name, part by part, up to the first link

-- the mark stands in the text
abbrev pub has : List ℕ → List ℕ → Bool
has mark [] = false
has mark (b ∷ text) = if starts_with nat_eq (b ∷ text) mark then true else has mark text

-- the path is one of those by which processes tell what they have open, or where they are
abbrev pub is_magic : List ℕ → Bool
is_magic place =
    starts_with nat_eq place (codes "/proc/")
    && (ends_with nat_eq place (codes "/cwd") || (ends_with nat_eq place (codes "/root") || has (codes "/fd/") place))

abbrev pub phase_at : List ℕ → Phase
phase_at place = if is_magic place then Magic else Walks

-- the path of a name in a folder
abbrev pub joined : List ℕ → List ℕ → List ℕ
joined folder name = (folder ++ codes "/") ++ name

-- where a link in this folder leads, as it is written
abbrev pub behind_link : List ℕ → List ℕ → List ℕ
behind_link folder target = if starts_with nat_eq target (codes "/") then target else joined folder target

-- the path that was come to last
abbrev pub done : List (List ℕ) → List ℕ
done folders = unwrap_or (slice_get folders (length folders - 1)) []

abbrev pub nothing : Came
nothing = record { folders = []; next = []; phase = Walks; own = false; last = false }

-- a path was come to that leads nowhere else, or a link
abbrev pub entered : Came → List ℕ → Came
entered came place = record came { folders = came.folders ++ place ∷ []; phase = phase_at place }

abbrev pub met : Came → List ℕ → Target → Came
met came place target = record {
  folders = came.folders ++ place ∷ [];
  next = behind_link (done came.folders) target.path;
  phase = Met;
  own = target.own;
  last = true;
}

abbrev pub come_to : Came → List ℕ → Option Target → Came
come_to came place None = entered came place
come_to came place (Some target) = met came place target

-- the part names nothing, or what is above
abbrev pub is_here : List ℕ → Bool
is_here part = bytes_eq part [] || bytes_eq part (codes ".")

abbrev pub is_up : List ℕ → Bool
is_up part = bytes_eq part (codes "..")

-- one part of the name more, where these links stand at paths, and none was come to yet
abbrev pub passed : (List ℕ → Option Target) → Came → List ℕ → Came
passed links came part =
    if is_here part then came
    else (if is_up part then record came { folders = take (length came.folders - 1) came.folders }
    else come_to came (joined (done came.folders) part) (links (joined (done came.folders) part)))

abbrev pub step_by : Phase → (List ℕ → Option Target) → Came → List ℕ → Came
step_by Lost links came part = came
step_by Magic links came part = record came { phase = Lost }
step_by Met links came part = record came { next = joined came.next part; last = false }
step_by Walks links came part = passed links came part

abbrev pub step : (List ℕ → Option Target) → Came → List ℕ → Came
step links came part = step_by came.phase links came part

abbrev pub steps : (List ℕ → Option Target) → Came → List (List ℕ) → Came
steps links came [] = came
steps links came (part ∷ parts) = steps links (step links came part) parts

abbrev pub walked : (List ℕ → Option Target) → List ℕ → Came
walked links name = steps links nothing (slice_split (λ b. b == 47) name)

-- ---- one link after another

-- the link that was come to is followed, where those at the path itself are or are not
abbrev pub goes_on : Came → Bool → Bool
goes_on came follows = has_met came.phase && (follows || not came.last)

-- what stands on the way, with a link at the path itself, which the command made or did not make
abbrev pub way_at_own : Way → Way
way_at_own Own = Own
way_at_own _ = At

abbrev pub way_at_old : Way → Way
way_at_old Plain = Old
way_at_old way = way

-- and with one more, which stands at the path itself or not
abbrev pub way_after : Way → Bool → Bool → Way
way_after way own last =
    if own && not last then Own else (if own then way_at_own way else (if last then way_at_old way else way))

-- the other path of a file that the command gave this one, as long as that one has not gone
abbrev pub twin_so : Stood → Stands → Option (List ℕ)
twin_so own (standing.Twin path) = if is_gone (stand_at own path) then None else Some path
twin_so own _ = None

abbrev pub twin_in : Stood → Option Stands → Option (List ℕ)
twin_in own None = None
twin_in own (Some stands) = twin_so own stands

abbrev pub twin_of : Stood → List ℕ → Option (List ℕ)
twin_of own place = twin_in own (stand_at own place)

abbrev pub written_to : Bool → Stood → List ℕ → Option (List ℕ)
written_to writes own place = if writes then twin_of own place else None

abbrev pub ended_at : SoFar → List ℕ → Option (List ℕ) → Trail
ended_at so_far place None = record { path = if so_far.met then Some place else None; way = so_far.way }
ended_at so_far place (Some twin) = record { path = Some twin; way = Twin }

abbrev pub at_end : Stood → Bool → SoFar → List ℕ → Trail
at_end own writes so_far place = ended_at so_far place (written_to writes own place)

abbrev pub so_far : Bool → Way → SoFar
so_far met way = record { met = met; way = way }

-- it cannot be told where it leads; or it was come to its end; or to a link, behind which it goes on
abbrev pub lead_on : (Bool → Way → List ℕ → Option Trail) → Stood → Asks → SoFar → Came → Option Trail
lead_on go own asks so came =
    if is_lost came.phase then None
    else (if not (goes_on came asks.follows) then Some (at_end own asks.writes so (done came.folders))
    else go true (way_after so.way came.own came.last) came.next)

-- through no more links than so many
abbrev pub lead_in : ℕ → Stood → Stood → Asks → Bool → Way → List ℕ → Option Trail
lead_in zero own old asks met way name = None
lead_in (suc left) own old asks met way name =
    lead_on (lead_in left own old asks) own asks (so_far met way) (walked (target_at own old asks.sees) name)

-- so many walks are made, and a link less is followed; the kernel follows so many links
unfoldable pub most : ℕ
most = 40

-- where a name leads, which begins at the root; without a path where no link stands on its way
abbrev pub lead : Stood → Stood → Asks → List ℕ → Option Trail
lead own old asks name = lead_in most own old asks false Plain name
