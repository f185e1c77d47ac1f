-- What a command did at a path that breaks a premise, by what the path is to it (docs/AUDIT.md has the sentences).
use Rattle.std.specs.Prelude.{◌&&◌, ◌||◌, not, Bool, List, [], ◌∷◌, ◌++◌, if◌then◌else◌}
use Rattle.audit.specs.declared.place.Place.{Place}
use Rattle.audit.specs.declared.used.Use.{Use}
use Rattle.audit.specs.declared.finding.Finding.{Finding}
use Rattle.audit.specs.declared.finding.Finding.TheVariants as found

-- the path counts: it is below the folder of the build, or a build line names it, and it is no file of the program's own
unfoldable pub counts : Place → Bool
counts place = (place.around.inside || place.around.named) && not place.around.own

-- Something of before the command may stand there, where it writes into it. Below a folder for scratch files compilers write into files of names
-- that they have made up, where none stood there.
abbrev pub may_be_old : Place → Bool
may_be_old place = not place.around.scratch || place.around.left

-- a file was read or asked for; also one that was written into before, where an earlier run may have left it
unfoldable pub looks : Place → Use → Bool
looks place used = ((used.reads || (used.takes && may_be_old place)) || used.asks) && not used.is_folder

-- ---- reading: a command's outcome depends only on its inputs and on what it reports

unfoldable pub is_unreported : Place → Use → Bool
is_unreported place used =
    (((counts place && looks place used) && not (place.input || place.reported)) && not (place.output || place.side)) && not place.order_only

unfoldable pub is_order_only : Place → Use → Bool
is_order_only place used =
    (((counts place && looks place used) && not (place.input || place.reported)) && not (place.output || place.side)) && place.order_only

-- it is an output of its own that was read before it was made anew
abbrev pub is_read_itself : Place → Use → Bool
is_read_itself place used = place.output && used.takes

-- it is an output of its own that was written into, so that a part of what stood there may be left
abbrev pub is_kept : Place → Use → Bool
is_kept place used = (place.output && used.keeps) && not used.takes

-- It is an output of its own that keeps what stood there, under a stamp of now. Where that is read or written into, it is told so.
abbrev pub is_stamped : Place → Use → Bool
is_stamped place used = ((place.output && used.stamps) && place.around.filled) && not (used.takes || used.keeps)

-- what is read is a source, or made above, and so is what was not there yet
unfoldable pub is_not_above : Place → Use → Bool
is_not_above place used = ((looks place used || used.misses) && place.around.made) && not place.around.above

unfoldable pub is_listed : Place → Use → Bool
is_listed place used = (used.lists && counts place) && not (place.input || place.reported)

-- ---- writing: a command writes only its outputs, its depfile and scratch files

unfoldable pub is_strange : Place → Bool
is_strange place = counts place && not (place.output || place.side)

unfoldable pub spoils_made : Place → Bool
spoils_made place = is_strange place && place.around.made

unfoldable pub spoils_known : Place → Bool
spoils_known place = (is_strange place && not place.around.made) && (place.around.named || place.around.recorded)

unfoldable pub spoils_stray : Place → Bool
spoils_stray place =
    ((is_strange place && not place.around.made) && not (place.around.named || place.around.recorded)) && not place.around.scratch

-- what it wrote it has removed, and nothing stood there before: a scratch file
abbrev pub is_scratch : Use → Bool
is_scratch used = used.gone && not used.removes

-- of a folder nothing was done but to set its stamp, as who unpacks files sets that of each folder
abbrev pub only_stamps_folder : Use → Bool
only_stamps_folder used = used.is_folder && not (used.own || used.keeps)

-- an output was not written, or is gone; a folder that was made is one
unfoldable pub is_unwritten : Place → Use → Bool
is_unwritten place used = place.output && (used.gone || not ((place.restat || used.writes) || used.made_folder))

-- ---- what is told

abbrev pub when : Bool → Finding → List Finding
when is finding = if is then finding ∷ [] else []

unfoldable pub found_read : Place → Use → List Finding
found_read place used =
    (((((when (is_unreported place used) found.Unreported
    ++ when (is_order_only place used) found.OrderOnly)
    ++ when (is_read_itself place used) found.Itself)
    ++ when (is_kept place used) found.Kept)
    ++ when (is_stamped place used) found.Stamped)
    ++ when (is_not_above place used) found.NotAbove)
    ++ when (is_listed place used) found.Listed

unfoldable pub found_written : Place → Use → List Finding
found_written place used =
    (when (used.writes && spoils_made place) found.WritesMade
    ++ when (used.writes && spoils_known place) found.WritesKnown)
    ++ when (((used.writes && spoils_stray place) && not (is_scratch used)) && not (only_stamps_folder used)) found.WritesStray

unfoldable pub found_removed : Place → Use → List Finding
found_removed place used =
    (when (used.removes && spoils_made place) found.RemovesMade
    ++ when (used.removes && spoils_known place) found.RemovesKnown)
    ++ when (used.removes && spoils_stray place) found.RemovesStray

-- what a command did at a path that breaks a premise
unfoldable pub findings : Place → Use → List Finding
findings place used =
    ((found_read place used ++ found_written place used) ++ found_removed place used) ++ when (is_unwritten place used) found.Unwritten
