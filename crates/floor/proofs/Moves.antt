-- What a step may do to a station, to a box, to a row and to a request of the floor, seen at any one number: nothing, or one of few things,
-- each with the tests that the step passed.
use Prim.Native.Nat.{ℕ, ◌<◌}
use mathlib.Core.Path.{◌≡◌, refl}
use mathlib.Core.Bool.{true, false}
use lib.ListN.{get_or, set}
use Rattle.suits.specs.declared.Suit.{Suit}
use Rattle.requests.specs.Requests.{Standing, waiting, on_the_way, received, at_quorum, all_yes}
use Rattle.requests.specs.declared.Phase.{Phase}
use Rattle.requests.specs.declared.Phase.TheVariants.{Read, Write}
use Rattle.register.specs.declared.StorageBox.{StorageBox}
use Rattle.register.specs.Register.{box0}
use Rattle.attempts.specs.Stations.{station0, is_reading}
use Rattle.attempts.specs.Rows.{row0, new_row, revision_of, row_served}
use Rattle.attempts.specs.Rows as rows
use Rattle.floor.specs.Floors.{box_at, station_at, row_at, owner_at}
use Rattle.floor.specs.Step.{apply_of}
use Rattle.attempts.specs.declared.Station.{Station}
use Rattle.attempts.specs.declared.Row.{Row}
use Rattle.floor.specs.Moves.{StationMove, station_kept, station_begins, station_issues, station_decides, station_aborts, station_leaves, BoxMove, box_kept, box_serves, box_stops, box_returns}
use Rattle.floor.specs.declared.Floor.{Floor}
use Rattle.floor.specs.declared.Stepped.{Stepped}
use Rattle.commands.specs.Outcomes.{is_refused}
use Rattle.commands.specs.declared.Outcome.{Outcome}
use Rattle.commands.specs.declared.Outcome.TheVariants.{Begun, Served, WriteIssued}
use Rattle.commands.specs.declared.Command.{Command}
use Rattle.commands.specs.declared.Command.TheVariants.{Begin, Serve, Deliver}
use Rattle.base.proofs.Stores.{set_all}
use Rattle.floor.specs.Tests.{CanServe, CanDeliver}
use Rattle.floor.specs.Effects.{row_taken, served_by, heard_row}
use Rattle.floor.proofs.StepCases.{StepCase, turned, began, served, heard, issued, decided, aborted, stopped, left, returned, apply_case}

-- What the step with the command c may do to the row j of the floor f; an answer is received, whatever comes of it.
module _ (f : Floor) (c : Command) (j : ℕ) where
  pub data RowMove : Outcome → Row → Type 0 where
    row_kept : {o : Outcome} → RowMove o (row_at f j)
    row_begins : {s round : ℕ} {v : Suit} → c ≡ Begin s round v → s < f.m → j ≡ row_taken f s → RowMove (Begun (row_taken f s)) (new_row f.n s round v)
    row_served_lem : {p : Phase} {b : ℕ} → c ≡ Serve p j b → CanServe f p j b → RowMove (Served j) (row_served p (row_at f j) (served_by f j b) b)
    row_heard_lem : {p : Phase} {b : ℕ} {o : Outcome} → c ≡ Deliver p j b → CanDeliver f p j b → is_refused o ≡ false → RowMove o (heard_row f p j b)
    row_issues : {b : ℕ} {v : Suit} → c ≡ Deliver Read j b → CanDeliver f Read j b → is_reading (owner_at f j).state j ≡ true
        → at_quorum (heard_row f Read j b).read f.n ≡ true → all_yes (heard_row f Read j b).read f.n ≡ true → v ≡ revision_of (heard_row f Read j b) f.n
        → RowMove (WriteIssued v) (rows.issued (heard_row f Read j b) v f.n)

-- Where the request of a phase of the row a stands at the box b, before and after the step: it waits, is served, and its answer is received,
-- or the row is another attempt's from then on.
module _ (f : Floor) (c : Command) (a : ℕ) (p : Phase) (b : ℕ) where
  pub data StandingMove : Outcome → Standing → Standing → Type 0 where
    stands_kept : {o : Outcome} {s : Standing} → StandingMove o s s
    stands_new : {k : ℕ} {s t : Standing} → k ≡ a → StandingMove (Begun k) s t
    stands_served : c ≡ Serve p a b → StandingMove (Served a) waiting on_the_way
    stands_received : {o : Outcome} → c ≡ Deliver p a b → is_refused o ≡ false → StandingMove o on_the_way received
    stands_issued : {j : ℕ} {v : Suit} {s : Standing} → p ≡ Write → c ≡ Deliver Read a j → is_reading (owner_at f a).state a ≡ true → StandingMove (WriteIssued v) s waiting

-- the station s is stored; the others are kept
stations_moved : (f : Floor) (c : Command) (o : Outcome) (s : ℕ) (x : Station) → StationMove f c s o x → (j : ℕ) → StationMove f c j o (get_or (set f.stations s x) j station0)
stations_moved f c o s x m = set_all station0 (λ j. StationMove f c j o) f.stations s x (λ j. station_kept) m

boxes_moved : (f : Floor) (c : Command) (o : Outcome) (b : ℕ) (x : StorageBox) → BoxMove f c b o x → (j : ℕ) → BoxMove f c j o (get_or (set f.boxes b x) j box0)
boxes_moved f c o b x m = set_all box0 (λ j. BoxMove f c j o) f.boxes b x (λ j. box_kept) m

rows_moved : (f : Floor) (c : Command) (o : Outcome) (a : ℕ) (w : Row) → RowMove f c a o w → (j : ℕ) → RowMove f c j o (get_or (set f.rows a w) j row0)
rows_moved f c o a w m = set_all row0 (λ j. RowMove f c j o) f.rows a w (λ j. row_kept) m

station_moves : {f : Floor} {c : Command} {s : Stepped} → StepCase f c s → (j : ℕ) → StationMove f c j s.outcome (station_at s.floor j)
station_moves (turned k t) j = station_kept
station_moves {f} (began {s = s} z d) j = stations_moved f _ _ s _ (station_begins refl d.here d.not_busy d.later) j
station_moves (served z d) j = station_kept
station_moves (heard z d q) j = station_kept
station_moves {f} (issued {a = a} z d r q t) j = stations_moved f _ _ (row_at f a).station _ (station_issues refl d.used refl r) j
station_moves {f} (decided {a = a} z d r q t) j = stations_moved f _ _ (row_at f a).station _ (station_decides refl d.used refl r refl) j
station_moves {f} (aborted {a = a} z d r q t) j = stations_moved f _ _ (row_at f a).station _ (station_aborts refl d.used refl r) j
station_moves (stopped z d) j = station_kept
station_moves {f} (left {s = s} z d) j = stations_moved f _ _ s _ (station_leaves refl d.here) j
station_moves (returned z d) j = station_kept

box_moves : {f : Floor} {c : Command} {s : Stepped} → StepCase f c s → (j : ℕ) → BoxMove f c j s.outcome (box_at s.floor j)
box_moves (turned k t) j = box_kept
box_moves (began z d) j = box_kept
box_moves {f} (served {b = b} z d) j = boxes_moved f _ _ b _ (box_serves refl d.used d.not_away) j
box_moves (heard z d q) j = box_kept
box_moves (issued z d r q t) j = box_kept
box_moves (decided z d r q t) j = box_kept
box_moves (aborted z d r q t) j = box_kept
box_moves {f} (stopped {b = b} z d) j = boxes_moved f _ _ b _ (box_stops refl d.not_away) j
box_moves (left z d) j = box_kept
box_moves {f} (returned {b = b} z d) j = boxes_moved f _ _ b _ (box_returns refl d.away) j

row_moves : {f : Floor} {c : Command} {s : Stepped} → StepCase f c s → (j : ℕ) → RowMove f c j s.outcome (row_at s.floor j)
row_moves (turned k t) j = row_kept
row_moves {f} (began {s = s} z d) j = rows_moved f _ _ (row_taken f s) _ (row_begins refl d.station refl) j
row_moves {f} (served {a = a} z d) j = rows_moved f _ _ a _ (row_served_lem refl d) j
row_moves {f} (heard {a = a} z d q) j = rows_moved f _ _ a _ (row_heard_lem refl d refl) j
row_moves {f} (issued {a = a} z d r q t) j = rows_moved f _ _ a _ (row_issues refl d r q t refl) j
row_moves {f} (decided {a = a} z d r q t) j = rows_moved f _ _ a _ (row_heard_lem refl d refl) j
row_moves {f} (aborted {a = a} z d r q t) j = rows_moved f _ _ a _ (row_heard_lem refl d refl) j
row_moves (stopped z d) j = row_kept
row_moves (left z d) j = row_kept
row_moves (returned z d) j = row_kept

module _ (f : Floor) (c : Command) (j : ℕ) where
  pub apply_station : StationMove f c j (apply_of f c).outcome (station_at (apply_of f c).floor j)
  apply_station = station_moves (apply_case f c) j

  pub apply_box : BoxMove f c j (apply_of f c).outcome (box_at (apply_of f c).floor j)
  apply_box = box_moves (apply_case f c) j

  pub apply_row : RowMove f c j (apply_of f c).outcome (row_at (apply_of f c).floor j)
  apply_row = row_moves (apply_case f c) j
