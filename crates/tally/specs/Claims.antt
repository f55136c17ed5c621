-- What is claimed of a tally. The proof is `tallied` in proofs/TallyLaws.
use Rattle.std.specs.Prelude.{◌≤◌, ◌<◌, ◌≡◌, true, false, length}
use mathlib.Core.List.{List, Memᴰ}
use Rattle.register.specs.Register.{register_of}
use Rattle.register.specs.declared.Department.{Department}
use Rattle.register.specs.declared.StorageBox.{StorageBox}
use Rattle.tally.specs.Tally.{not_away, tally_of}
use Rattle.tally.specs.declared.Tally.{Tally}

-- a box of a run that is not away
pub record Counts (ys : List StorageBox) (y : StorageBox) : Type 0 where
  pub member : Memᴰ y ys
  pub going : y.away ≡ false

-- the tally of a department as facts
pub record Tallied (d : Department) (ys : List StorageBox) (t : Tally) : Type 0 where
  -- "how many have not stopped", wish 8: are not away
  pub count : t.count ≡ length (not_away ys)
  -- "the highest write rank among those", of the department's records: none of them has a higher one, and one of them has it
  pub most : (y : StorageBox) → Counts ys y → (register_of d y).write ≤ t.highest
  pub reached : 0 < t.count → (y : StorageBox) × (Counts ys y × ((register_of d y).write ≡ t.highest))
  -- "a run with none of these, or empty, gives 0 and 0"
  pub none : ((y : StorageBox) → Memᴰ y ys → y.away ≡ true) → (t.count ≡ 0) × (t.highest ≡ 0)

-- It holds of each department and every run.
abbrev pub TallyTheorem : Type 0
TallyTheorem = (d : Department) (ys : List StorageBox) → Tallied d ys (tally_of d ys)
