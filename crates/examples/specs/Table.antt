-- Document 01, "Floors worked through": the lettered examples, one row or more for each; F as wish 2 of document 02 has it.
use Rattle.std.specs.Prelude.{ℕ, true, false, List, [], ◌∷◌, Some, None}
use Rattle.suits.specs.Suits.{single}
use Rattle.base.specs.Numbers.{quorum, rank_of}
use Rattle.register.specs.Register.{rmw_read, rmw_write}
use Rattle.register.specs.declared.Register.{Register}
use Rattle.requests.specs.declared.Phase.TheVariants.{Read}
use Rattle.attempts.specs.declared.State.TheVariants as state
use Rattle.commands.specs.declared.Outcome.{Outcome}
use Rattle.commands.specs.declared.Outcome.TheVariants.{Begun, Served, Received, Aborted, WriteIssued, Decided, Refused}
use Rattle.commands.specs.declared.Command.TheVariants.{Deliver, Stop}
use Rattle.examples.specs.Row.{Letter, A, B, C, D, E, F, G, H, I, J, K, Printed, Shown, number, read, wrote, gathered, said, taken, held, drove, printed, Row, AllHold}
use Rattle.examples.specs.WorkedRuns.{floor_after, said_after, gathered_by, solo_after, taken_at, held_on, printed_of, run_g, run_h, run_i, file_k}

abbrev row : Letter → Shown → Shown → Row
row l x y = record { letter = l; given = x; expected = y }

-- a box's register: read rank, write rank, value
abbrev box : ℕ → ℕ → ℕ → Register
box r w v = record { read = r; write = w; value = single v }

-- I: what each step of the run says
abbrev said_i : List Outcome
said_i = Begun 0 ∷ Served 0 ∷ Received 0 ∷ Served 0 ∷ WriteIssued (single 7)
    ∷ Begun 1 ∷ Served 1 ∷ Received 1 ∷ Served 1 ∷ WriteIssued (single 9)
    ∷ Served 1 ∷ Received 1 ∷ Served 1 ∷ Decided (single 9)
    ∷ Served 0 ∷ Received 0 ∷ Served 0 ∷ Aborted 0 ∷ Served 0 ∷ []

-- K: "panel luff boxes 1 stations 1", "station 0 decided 16 7", "end 5 0"; the label's bytes are 6C 75 66 66
abbrev luff : Printed
luff =
    record {
      label = 0x6C ∷ 0x75 ∷ 0x66 ∷ 0x66 ∷ [];
      boxes = 1;
      stations = 1;
      lines = record { number = 0; state = state.Decided 0; rank = 16; decided = Some (single 7) } ∷ [];
      accepted = 5;
      refusal = 0;
    }

abbrev pub table : List Row
table =
    -- "A: n = 1, 4, 5, 9 give q = 1, 3, 3, 5."
    row A (number (quorum 1)) (number 1)
    ∷ row A (number (quorum 4)) (number 3)
    ∷ row A (number (quorum 5)) (number 3)
    ∷ row A (number (quorum 9)) (number 5)
    -- "B: station 0 round 1 is rank 16; station 15 round 65,535 is 1,048,575."
    ∷ row B (number (rank_of 1 0)) (number 16)
    ∷ row B (number (rank_of 65535 15)) (number 1048575)
    -- "C: box (read 16, write 0, value 0), write 16 of 7: taken, (16, 16, 7)."
    ∷ row C (wrote (rmw_write (box 16 0 0) 16 (single 7))) (wrote (record { register = box 16 16 7; taken = true }))
    -- "D: box (17, 0, 0), write 16: not taken, unchanged."
    ∷ row D (wrote (rmw_write (box 17 0 0) 16 (single 7))) (wrote (record { register = box 17 0 0; taken = false }))
    -- "E: box (16, 16, 7), write 16 of 9: not taken."
    ∷ row E (wrote (rmw_write (box 16 16 7) 16 (single 9))) (wrote (record { register = box 16 16 7; taken = false }))
    -- "F: box (33, 16, 7), read 18: .. unchanged"; wish 2 of document 02: "example F now answers outranked"
    ∷ row F (read (rmw_read (box 33 16 7) 18)) (read (record { register = box 33 16 7; answer = None }))
    -- "G: n = 3, answers (0, 0) and (16, 7) to rank 33: it writes 7."
    ∷ row G (gathered_by 3 run_g (Deliver Read 1 1) 1) (gathered 33 ((0, single 0) ∷ (16, single 7) ∷ []) (WriteIssued (single 7)))
    -- "H: n = 3, two answers (0, 0) from two boxes: a majority."
    ∷ row H (gathered_by 3 run_h (Deliver Read 0 1) 0) (gathered 16 ((0, single 0) ∷ (0, single 0) ∷ []) (WriteIssued (single 7)))
    -- "I: n = 3. Attempt 0 (rank 16, 7) has read at boxes 0 and 1. Attempt 1 (rank 17, 9) reads and writes at 1 and 2 and decides
    -- 9. Attempt 0's write is taken at 0, not at 1: it aborts. Its write at 2, served after that, is not taken."
    ∷ row I (said (said_after 3 run_i)) (said said_i)
    ∷ row I (taken (taken_at (floor_after 3 run_i) 0)) (taken (true ∷ false ∷ false ∷ []))
    ∷ row I (held (held_on (floor_after 3 run_i))) (held (box 16 16 7 ∷ box 17 17 9 ∷ box 17 17 9 ∷ []))
    -- "J: solo on a new floor of 5: 13 steps; with 2 stopped, 13; with 3 stopped, refusal 15."
    ∷ row J (solo_after 5 []) (drove 13 (Decided (single 7)))
    ∷ row J (solo_after 5 (Stop 0 ∷ Stop 3 ∷ [])) (drove 13 (Decided (single 7)))
    ∷ row J (solo_after 5 (Stop 0 ∷ Stop 3 ∷ Stop 4 ∷ [])) (drove 0 (Refused 15))
    -- "K: the drill file above."
    ∷ row K (printed (printed_of file_k)) (printed luff)
    ∷ []

-- what is claimed: each row gives what it expects
abbrev pub Claim : Type 0
Claim = AllHold table
