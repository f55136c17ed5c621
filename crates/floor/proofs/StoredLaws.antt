-- What is stored on a sound floor is read back.
use Prim.Native.Nat.{ℕ, ◌<◌}
use native.Mathlib.Omega.{arith}
use mathlib.Core.Path.{◌≡◌}
use lib.ListN.{get_or, set}
use lib.Seq.{get_or-set_same}
use Rattle.register.specs.declared.StorageBox.{StorageBox}
use Rattle.register.specs.Register.{box0}
use Rattle.attempts.specs.Stations.{station0}
use Rattle.attempts.specs.Rows.{row0}
use Rattle.floor.specs.Floors.{row_at, InUse}
use Rattle.floor.specs.Soundness.{Sound, Lengths}
use Rattle.attempts.specs.declared.Station.{Station}
use Rattle.attempts.specs.declared.Row.{Row}
use Rattle.floor.specs.declared.Floor.{Floor}
use Rattle.floor.proofs.UseLaws.{in_use_most}

-- what is stored is read back
module _ (f : Floor) (y : Lengths f) (z : Sound f) where
  pub row_stored : (a : ℕ) (w : Row) → a < 128 → get_or (set f.rows a w) a row0 ≡ w
  row_stored a w h = get_or-set_same f.rows a w row0 (omega (arith, y.rows))

  pub station_stored : (s : ℕ) (x : Station) → s < f.m → get_or (set f.stations s x) s station0 ≡ x
  station_stored s x h = get_or-set_same f.stations s x station0 (omega (arith, y.stations, z.station_most))

  pub owner_stored : (a : ℕ) (x : Station) → InUse f a → get_or (set f.stations (row_at f a).station x) (row_at f a).station station0 ≡ x
  owner_stored a x h = station_stored (row_at f a).station x (z.stations a h)

  pub box_stored : (b : ℕ) (x : StorageBox) → b < f.n → get_or (set f.boxes b x) b box0 ≡ x
  box_stored b x h = get_or-set_same f.boxes b x box0 (omega (arith, y.boxes, z.box_most))

  pub used_stored : (a : ℕ) (w : Row) → InUse f a → get_or (set f.rows a w) a row0 ≡ w
  used_stored a w h = row_stored a w (in_use_most f z a h)
