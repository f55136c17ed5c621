-- Document 01, "The floor": a station, and the tests of its state.
use Rattle.std.specs.Prelude.{ℕ, Bool, true, false, eqb, None}
use Rattle.requests.specs.Requests.{of_phase}
use Rattle.requests.specs.declared.Phase.{Phase}
use Rattle.register.specs.declared.Department.TheVariants.{Sails}
use Rattle.attempts.specs.declared.State.{State}
use Rattle.attempts.specs.declared.State.TheVariants.{Idle, Reading, Writing, Decided, Gone}
use Rattle.attempts.specs.declared.Station.{Station}

-- "On a new floor places not in use are 0, idle, not issued." Wish 7 of document 02: "A station keeps whether it decided", which it has not.
-- It is also what a read past the end of an array gives by the language's own rule.
abbrev pub station0 : Station
station0 = record { department = Sails; state = Idle; last = 0; decided = None }

-- the station x in another state; its department, its last round and what it decided stay
abbrev pub with_state : (x : Station) (state : State) → Station
with_state x state = record { department = x.department; state = state; last = x.last; decided = x.decided }

-- "A station has a state that is idle, reading, writing, decided or gone, with the attempt it is in."
abbrev pub is_gone : (state : State) → Bool
is_gone Idle = false
is_gone (Reading a) = false
is_gone (Writing a) = false
is_gone (Decided a) = false
is_gone Gone = true

-- reading, writing or decided
abbrev pub is_busy : (state : State) → Bool
is_busy Idle = false
is_busy (Reading a) = true
is_busy (Writing a) = true
is_busy (Decided a) = true
is_busy Gone = false

-- reading in that attempt
abbrev pub is_reading : (state : State) (attempt : ℕ) → Bool
is_reading Idle attempt = false
is_reading (Reading a) attempt = eqb a attempt
is_reading (Writing a) attempt = false
is_reading (Decided a) attempt = false
is_reading Gone attempt = false

-- writing in that attempt
abbrev pub is_writing : (state : State) (attempt : ℕ) → Bool
is_writing Idle attempt = false
is_writing (Reading a) attempt = false
is_writing (Writing a) attempt = eqb a attempt
is_writing (Decided a) attempt = false
is_writing Gone attempt = false

-- reading or writing in that attempt. Wish 5 of document 02: "An attempt is over when its station no longer reads or writes in it"
abbrev pub is_active : (state : State) (attempt : ℕ) → Bool
is_active Idle attempt = false
is_active (Reading a) attempt = eqb a attempt
is_active (Writing a) attempt = eqb a attempt
is_active (Decided a) attempt = false
is_active Gone attempt = false

-- in that phase of the attempt
abbrev pub is_in : (phase : Phase) (state : State) (attempt : ℕ) → Bool
is_in phase state attempt = of_phase phase (is_reading state attempt) (is_writing state attempt)
