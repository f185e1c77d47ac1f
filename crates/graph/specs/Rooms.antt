-- Lists in flat memory that have room to grow.
use Rattle.std.specs.Prelude.{◌≡◌, ◌≢◌, ◌⊎◌, ℕ, ◌+◌, ◌≤◌, List, ◌++◌, length, get_or}
use Rattle.paths.specs.Lists.{between}
use Rattle.graph.specs.declared.users.Room.{Room}

-- what stands in a room
abbrev pub room_of : List ℕ → Room → List ℕ
room_of items room = between items room.start room.stop

pub record IsRoomIn (count : ℕ) (room : Room) : Type 0 where
  pub in_order : room.start ≤ room.stop
  pub used : room.stop ≤ room.end
  pub within : room.end ≤ count

abbrev pub AreApart : Room → Room → Type 0
AreApart one other = (one.end ≤ other.start) ⊎ (other.end ≤ one.start)

-- a room of no place
abbrev pub no_room : Room
no_room = record { start = 0; stop = 0; end = 0 }

-- the list stands behind the others now, and ends here
pub record IsMoved (old new list : List ℕ) (stop : ℕ) : Type 0 where
  pub more : List ℕ
  pub grows : new ≡ old ++ (list ++ more)
  pub at : stop ≡ length old + length list

-- no two rooms share a place
pub record AreRooms (items : List ℕ) (rooms : List Room) : Type 0 where
  pub within : (k : ℕ) → IsRoomIn (length items) (get_or rooms k no_room)
  pub apart : (j k : ℕ) → j ≢ k → AreApart (get_or rooms j no_room) (get_or rooms k no_room)

-- so many empty rooms, each of which begins where the one before it ends
pub record AreLaid (count end : ℕ) (rooms : List Room) : Type 0 where
  pub fits : length rooms ≡ count
  pub empty : (k : ℕ) → (get_or rooms k no_room).stop ≡ (get_or rooms k no_room).start
  pub in_order : (k : ℕ) → (get_or rooms k no_room).stop ≤ (get_or rooms k no_room).end
  pub within : (k : ℕ) → (get_or rooms k no_room).end ≤ end
  pub apart : (j k : ℕ) → j ≢ k → AreApart (get_or rooms j no_room) (get_or rooms k no_room)
