-- What the definition finds from the front on is what it finds from the cursor on (`Going`), in the function behind the last function record.
-- The measure is what is left of the file.
use Rattle.std.proofs.Common.{◌≡◌, List, ℕ, ◌-◌, ◌≤◌, length}
use Rattle.fields.specs.Edition.{one}
use Rattle.records.specs.Check.{units, check}
use Rattle.units.specs.Along.{Sound}
use Rattle.units.proofs.Finding.{Going}
use Rattle.units.proofs.locate.locate.Given as goal

abbrev pub invariant-loop-len : goal.invariant-loop-len
invariant-loop-len l = record {
  inside : l.here.at ≤ length l.file;
  own_sound : Sound l.own;
  sound : Sound l.here;
  going : (us : List ℕ) → check one l.file ≡ units us → Going l.file l.place l.own l.here.at l.here.k;
}

abbrev pub decreases-loop-len : goal.decreases-loop-len
decreases-loop-len l = length l.file - l.here.at
