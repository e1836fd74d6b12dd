-- Document 01, "Placement": the two occupancy maps, and the taking of room in them. Shadow and work places lie in one map.
use Rattle.std.specs.Prelude.{Bool, true, List, ◌++◌, ℕ, ◌-◌, replicate}
use Rattle.storages.specs.declared.Space.{Space}
use Rattle.storages.specs.declared.Space.TheVariants.{App, Work}
use Rattle.storages.specs.declared.Room.{Room}
use Rattle.storages.specs.declared.Room.TheVariants.{Nowhere, Bytes, OneBit}
use Rattle.places.specs.declared.memory.Floor.{Floor}
use Rattle.maps.specs.Maps.{TakenBelow, clear_bytes, clear_bit, fill, set_bit}

pub record Maps : Type 0 where
  pub app : List ℕ
  pub wrk : List ℕ

abbrev pub map_of : Space → Maps → List ℕ
map_of App m = m.app
map_of Work m = m.wrk

abbrev pub put_map : Space → List ℕ → Maps → Maps
put_map App x m = record { app = x; wrk = m.wrk }
put_map Work x m = record { app = m.app; wrk = x }

-- Before anything is placed, the application bytes below F are full and all others clear.
unfoldable pub fresh : ℕ → ℕ → ℕ → Maps
fresh a f w = record { app = replicate f 255 ++ replicate (a - f) 0; wrk = replicate w 0 }

-- A room is free if it lies inside its map and all of it is clear.
unfoldable pub clear_room : Maps → Room → Bool
clear_room m Nowhere = true
clear_room m (Bytes sp o n) = clear_bytes o n (map_of sp m)
clear_room m (OneBit sp o k) = clear_bit o k (map_of sp m)

unfoldable pub reserve : Room → Maps → Maps
reserve Nowhere m = m
reserve (Bytes sp o n) m = put_map sp (fill o n (map_of sp m)) m
reserve (OneBit sp o k) m = put_map sp (set_bit o k (map_of sp m)) m

-- No byte below the floor is clear, in either map.
abbrev pub Solid : Floor → List ℕ → List ℕ → Type 0
Solid f app wrk = TakenBelow app f.app × TakenBelow wrk f.work
