-- Document 01, "The floor": how many boxes and stations a floor may have, how many boxes make a quorum, and what a rank is.
use Rattle.std.specs.Prelude.{ℕ, ◌+◌, ◌*◌, ◌/◌, Bool, ◌&&◌, leb}

-- "A floor has n boxes (1 to 9, numbered from 0) and m stations (1 to 16, numbered from 0)"; refusal 3 where this fails.
unfoldable pub sizes_right : (n m : ℕ) → Bool
sizes_right n m = leb 1 n && leb n 9 && leb 1 m && leb m 16

-- "q = n / 2 rounded down, plus 1": the size of a quorum, a majority of all boxes.
abbrev pub quorum : (n : ℕ) → ℕ
quorum n = n / 2 + 1

-- "Rank = round × 16 + station number": the paper's rank, totally ordered and never shared by two stations.
abbrev pub rank_of : (round station : ℕ) → ℕ
rank_of round station = round * 16 + station
