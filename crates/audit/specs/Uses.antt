-- What a command did at one path, in sum (this project's own).
use Rattle.std.specs.Prelude.{◌&&◌, ◌||◌, not, Bool, true, false, List, [], ◌∷◌}
use Rattle.trace.specs.declared.fact.Deed.{Deed}
use Rattle.trace.specs.declared.fact.Deed.TheVariants.{Read, Wrote, Into, Stamped, Linked, Moved, Led, Emptied, Removed, Left, Listed, Asked, Missed, Sought, Folder, Made, Connected}
use Rattle.audit.specs.declared.used.Use.{Use}

abbrev pub unused : Use
unused = record {
  reads = false;
  asks = false;
  misses = false;
  lists = false;
  writes = false;
  removes = false;
  gone = false;
  own = false;
  takes = false;
  keeps = false;
  stamps = false;
  is_folder = false;
  made_folder = false;
}

-- nothing of an earlier run stands there: it made the file anew, or saw none there, or removed it
abbrev pub is_new : Use → Bool
is_new used = ((used.own || used.misses) || used.removes) || used.gone

-- a file stands there, as far as it was seen
abbrev pub stands : Use → Bool
stands used = ((used.writes || used.reads) || used.asks) && not used.gone

-- the same, and what stands there was made anew
abbrev pub with_written : Use → Use
with_written use_so_far = record use_so_far { writes = true; gone = false; own = true; keeps = false; stamps = false }

-- The same, and this deed after it. What a command reads, asks for or removes once it has written it is its own, and what a folder that it
-- made itself holds depends on nothing else. But what it writes into a file that is not new may leave a part of that there, until it makes it
-- anew, and one whose stamp it sets keeps what stood there; so it is told apart what it read that was not new. A folder that it gives another
-- path takes all along that stands in it, as if it was listed.
abbrev pub with_deed : Use → Deed → Use
with_deed use_so_far Read = record use_so_far {
  reads = use_so_far.reads || not use_so_far.writes;
  takes = use_so_far.takes || not (is_new use_so_far);
}
with_deed use_so_far Asked = record use_so_far { asks = use_so_far.asks || not use_so_far.writes }
with_deed use_so_far Missed = record use_so_far { misses = true }
with_deed use_so_far Sought = use_so_far
with_deed use_so_far Listed = record use_so_far { lists = use_so_far.lists || not use_so_far.made_folder }
with_deed use_so_far Wrote = with_written use_so_far
with_deed use_so_far Linked = with_written use_so_far
with_deed use_so_far Moved = with_written use_so_far
with_deed use_so_far Led = with_written use_so_far
with_deed use_so_far Emptied = with_written use_so_far
with_deed use_so_far Into = record use_so_far {
  writes = true;
  gone = false;
  own = is_new use_so_far;
  keeps = use_so_far.keeps || not (is_new use_so_far);
}
with_deed use_so_far Stamped = record use_so_far {
  writes = true;
  gone = false;
  stamps = use_so_far.stamps || not (is_new use_so_far);
}
with_deed use_so_far Removed = record use_so_far {
  removes = use_so_far.removes || not use_so_far.writes;
  gone = true;
  stamps = false;
}
with_deed use_so_far Left = record use_so_far {
  removes = use_so_far.removes || not (use_so_far.writes || use_so_far.made_folder);
  gone = true;
  stamps = false;
  lists = use_so_far.lists || (use_so_far.is_folder && not use_so_far.made_folder);
}
with_deed use_so_far Folder = record use_so_far { is_folder = true }
with_deed use_so_far Made = record use_so_far { is_folder = true; made_folder = true }
with_deed use_so_far Connected = use_so_far

-- these deeds, one after another
abbrev pub with_deeds : Use → List Deed → Use
with_deeds so_far [] = so_far
with_deeds so_far (deed ∷ deeds) = with_deeds (with_deed so_far deed) deeds
