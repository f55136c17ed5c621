-- The claims of demand 3 for a played file.
use Rattle.std.proofs.Common.{None, Some}
use Prim.Native.Nat.{ℕ}
use native.Mathlib.Omega.{arith}
use native.Mathlib.Decide.{ℕ_discrete}
use mathlib.Core.Path.{◌≡◌, sym, ap, subst, ◌∙◌}
use mathlib.Core.List.{List, []}
use lib.ListN.{length}
use lib.Seq.{length-take-le}
use Rattle.suits.specs.declared.Suit.{Suit}
use Rattle.register.specs.declared.Department.{Department}
use Rattle.floor.specs.Floors.{station_at, department_at, empty_floor}
use Rattle.floor.proofs.EmptyFloors.{told_at}
use Rattle.floor.specs.Runs.{floor_left}
use Rattle.floor.specs.RunClaims.{PlayedOver}
use Rattle.floor.specs.declared.Floor.{Floor}
use Rattle.attempts.specs.declared.Station.{Station}
use Rattle.drill_file.specs.DrillFile.{boxes_of, stations_of, file_refusal, records_of}
use Rattle.player.specs.Play.{told_in, played_of}
use Rattle.player.proofs.PlayLaws.{played_refused, player_claims}
use Rattle.floor.specs.declared.Played.{Played}
use Rattle.agreement.specs.Words.{DecidesAt, DecidedIn}
use Rattle.agreement.specs.Demand.{Demand3, trace_of}
use Rattle.chain.specs.Files.{decided_in, start_of, department_in, accepted_in, PlayedFile, PlayedFileTheorem}
use Rattle.base.specs.Positions.{Before}
use Rattle.base.proofs.Cases.{clash}
use Rattle.floor.proofs.ListLaws.{left_taken}
use Rattle.agreement.proofs.Safety.{is_none}
use Rattle.agreement.proofs.Demand.{demand3}

-- the floor of one box and one station has decided nothing
none_decided : (s : ℕ) → (station_at (empty_floor 1 1 []) s).decided ≡ None
none_decided s = ap (λ (x : Station). x.decided) (told_at [] 0 s)

refused_file : (file : List ℕ) → ¬ (file_refusal file ≡ 0) → PlayedFile file
refused_file file e =
    record { agreement = λ s j u v _ h _. absurd (nothing s u h); validity = λ s v h. absurd (nothing s v h) }
  where
    nothing : (s : ℕ) (v : Suit) → decided_in file s ≡ Some v → ⊥
    nothing s v h = clash (ap is_none (ap (λ (x : Played). (station_at x.floor s).decided) (played_refused file e) ∙ none_decided s)) (ap is_none h)

module _ (file : List ℕ) (e : file_refusal file ≡ 0) where
  abbrev first : Floor
  first = start_of file

  over : PlayedOver first (records_of file) (played_of file)
  over = player_claims.accepted file e

  size : length (accepted_in file) ≡ (played_of file).accepted
  size = length-take-le (played_of file).accepted (records_of file) over.within

  left : (played_of file).floor ≡ floor_left first (accepted_in file)
  left = over.left ∙ sym (left_taken first (records_of file) (played_of file).accepted over.within)

  safe : Demand3 first (accepted_in file)
  safe = demand3 (boxes_of file) (stations_of file) (told_in file) (accepted_in file)

  decides : (s : ℕ) (v : Suit) → decided_in file s ≡ Some v → Before (DecidesAt (trace_of first (accepted_in file)) s v) (length (accepted_in file))
  decides s v h = (safe.shown s (length (accepted_in file))).decided v (ap (λ (g : Floor). (station_at g s).decided) (sym left) ∙ h)

  -- what a station decided was decided in its department
  decided : (s : ℕ) (v : Suit) (i : ℕ) → DecidesAt (trace_of first (accepted_in file)) s v i → DecidedIn (trace_of first (accepted_in file)) (department_in file s) v i
  decided s v i x = record {
    number = x.attempt.number;
    of = safe.own x.attempt ∙ ap (department_at first) x.station;
    says = x.by.says;
  }

  accepted_file : PlayedFile file
  accepted_file =
      record {
        agreement = λ s j u v e h i.
            let x = decides s u h in
            let y = decides j v i in
            (safe.safety (department_in file j)).agreement x.at y.at u v
            (subst (λ (d : Department). DecidedIn (trace_of first (accepted_in file)) d u x.at) e (decided s u x.at x.holds)) (decided j v y.at y.holds);
        validity = λ s v h.
            let x = decides s v h in
            let y = (safe.safety (department_in file s)).validity x.at v (decided s v x.at x.holds) in
            let earlier = y.earlier in
            let before = x.earlier in
            (y.at, omega (arith, size), y.holds);
      }

pub played_file : PlayedFileTheorem
played_file file = elim (ℕ_discrete (file_refusal file) 0) [ yes e ↦ accepted_file file e | no e ↦ refused_file file e ]
