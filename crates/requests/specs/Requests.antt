-- Document 01, "The floor": of one phase of an attempt, for each box where its request stands, and the answers that were received.
use Rattle.std.specs.Prelude.{ℕ, zero, suc, List, [], Bool, true, false, get_or, set, replicate, eqb}
use Rattle.base.specs.Choice.{when◌then◌else◌}
use Rattle.base.specs.Numbers.{quorum}
use Rattle.base.specs.Mask.{bit, set_bit, count_below}
use Rattle.requests.specs.declared.Phase.{Phase}
use Rattle.requests.specs.declared.Phase.TheVariants.{Read, Write}
use Rattle.requests.specs.declared.Stage.{Stage}
use Rattle.requests.specs.declared.Stage.TheVariants.{Unissued, Waiting, Answered}
use Rattle.requests.specs.declared.Slot.{Slot}
use Rattle.requests.specs.declared.Requests.{Requests}
use Rattle.requests.specs.declared.Verdict.{Verdict}
use Rattle.requests.specs.declared.Verdict.TheVariants.{Open, Yes, No}

-- of two things, the one that belongs to the phase
abbrev pub of_phase : {A : Type 0} (phase : Phase) (reading writing : A) → A
of_phase Read reading writing = reading
of_phase Write reading writing = writing

-- What a read past the end of an array gives by the language's own rule, and what a row not in use holds: not issued.
abbrev pub slot0 : Slot
slot0 = record { stage = Unissued; ok = false }

-- the same of a whole phase: an array of no slots
abbrev pub requests0 : Requests
requests0 = record { slots = []; heard = 0 }

-- no request is issued
abbrev pub none_issued : Requests
none_issued = record { slots = replicate 9 slot0; heard = 0 }

abbrev pub slot_at : (q : Requests) (box : ℕ) → Slot
slot_at q box = get_or q.slots box slot0

-- the answer of the box was received
abbrev pub heard_from : (q : Requests) (box : ℕ) → Bool
heard_from q box = bit q.heard box

-- "for each box where its read and its write request stand: not issued, waiting, on the way back with an answer, received with
-- that answer". A bit of the mask alone says that an answer was received; where it is not set the slot's stage tells the other
-- three apart. So on every floor, a hand-built one too, a request has exactly one standing at each box.
pub data Standing : Type 0 where
  not_issued : Standing
  waiting : Standing
  on_the_way : Standing
  received : Standing

abbrev pub not_received : (stage : Stage) → Standing
not_received Unissued = not_issued
not_received Waiting = waiting
not_received Answered = on_the_way

unfoldable pub standing : (stage : Stage) (mask box : ℕ) → Standing
standing stage mask box = when bit mask box then received else not_received stage

abbrev pub standing_of : (q : Requests) (box : ℕ) → Standing
standing_of q box = standing (slot_at q box).stage q.heard box

abbrev pub is_waiting : (standing : Standing) → Bool
is_waiting not_issued = false
is_waiting waiting = true
is_waiting on_the_way = false
is_waiting received = false

abbrev pub is_on_the_way : (standing : Standing) → Bool
is_on_the_way not_issued = false
is_on_the_way waiting = false
is_on_the_way on_the_way = true
is_on_the_way received = false

abbrev pub slot_waiting : Slot
slot_waiting = record { stage = Waiting; ok = false }

-- a request waits at each of the first k boxes
unfoldable pub waiting_below : (k : ℕ) → List Slot
waiting_below zero = replicate 9 slot0
waiting_below (suc k) = set (waiting_below k) k slot_waiting

-- "a read request waiting at every box"; "waits at every box": none of it answered
abbrev pub issued_to : (n : ℕ) → Requests
issued_to n = record { slots = waiting_below n; heard = 0 }

-- "the routine runs and its answer is on the way"; a read's answer is a yes unless it is outranked, a write's if it was taken
abbrev pub served_at : (q : Requests) (box : ℕ) (ok : Bool) → Requests
served_at q box ok = record { slots = set q.slots box (record { stage = Answered; ok = ok }); heard = q.heard }

-- "it becomes received"
abbrev pub received_from : (q : Requests) (box : ℕ) → Requests
received_from q box = record { slots = q.slots; heard = set_bit q.heard box }

-- "the answers of that phase received from boxes below n, this one included, are exactly q"
unfoldable pub at_quorum : (q : Requests) (n : ℕ) → Bool
at_quorum q n = eqb (count_below q.heard n) (quorum n)

-- one answer more, if it was received
unfoldable pub still_yes : (before heard : Bool) (slot : Slot) → Bool
still_yes before heard slot = when heard then (when slot.ok then before else false) else before

-- "all q say taken"; none "received from a box below n is outranked": each of the first k boxes whose answer was received said yes
unfoldable pub all_yes : (q : Requests) (k : ℕ) → Bool
all_yes q zero = true
all_yes q (suc k) = still_yes (all_yes q k) (heard_from q k) (slot_at q k)

-- What the answers received come to. Of reads, wish 2: "A reading station aborts at a read answer of its current attempt if any received
-- from a box below n is outranked", however few were received; otherwise the phase ends "When the q-th read answer" is.
unfoldable pub read_verdict : (q : Requests) (n : ℕ) → Verdict
read_verdict q n = when all_yes q n then (when at_quorum q n then Yes else Open) else No

-- Of writes: "When the q-th write answer reaches a writing station, it decides if all q say taken; otherwise it aborts".
unfoldable pub write_verdict : (q : Requests) (n : ℕ) → Verdict
write_verdict q n = when at_quorum q n then (when all_yes q n then Yes else No) else Open

abbrev pub verdict_of : (phase : Phase) (q : Requests) (n : ℕ) → Verdict
verdict_of phase q n = of_phase phase (read_verdict q n) (write_verdict q n)
