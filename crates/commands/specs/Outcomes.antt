-- Document 01, "Steps": "Each accepted step says one thing that came of it"; "A refusal gives its number."
use Rattle.std.specs.Prelude.{ℕ, Bool, true, false, List, [], ◌∷◌, get_or, Option, Some, None}
use Rattle.base.specs.Refusals.{named}
use Rattle.base.specs.declared.Refusal.{Refusal}
use Rattle.suits.specs.Suits.{revisions_of}
use Rattle.commands.specs.declared.Outcome.{Outcome}
use Rattle.commands.specs.declared.Outcome.TheVariants.{Begun, Served, Received, Aborted, WriteIssued, Decided, Stopped, Gone, Back, Refused}

-- Document 01's number for each case of an outcome: "A refusal gives its number", 0 where the step was accepted.
abbrev pub number_of : (o : Outcome) → ℕ
number_of (Begun a) = 0
number_of (Served a) = 0
number_of (Received a) = 0
number_of (Aborted a) = 0
number_of (WriteIssued v) = 0
number_of (Decided v) = 0
number_of (Stopped b) = 0
number_of (Gone s) = 0
number_of (Back b) = 0
number_of (Refused k) = k

-- the refusal by its name, where the step was refused
abbrev pub refusal_said : (o : Outcome) → Option Refusal
refusal_said (Begun a) = None
refusal_said (Served a) = None
refusal_said (Received a) = None
refusal_said (Aborted a) = None
refusal_said (WriteIssued v) = None
refusal_said (Decided v) = None
refusal_said (Stopped b) = None
refusal_said (Gone s) = None
refusal_said (Back b) = None
refusal_said (Refused k) = Some (named k)

-- Document 01's values for each case: "begun, served, received or aborted with the attempt; write issued or decided with the
-- revision .. stopped with the box; gone with the station". Wish 8 of document 02: "Kind 8 says stopped and kind 9 back, with the box." A
-- refusal has none; a later outcome may have several.
abbrev pub values_of : (o : Outcome) → List ℕ
values_of (Begun a) = a ∷ []
values_of (Served a) = a ∷ []
values_of (Received a) = a ∷ []
values_of (Aborted a) = a ∷ []
values_of (WriteIssued v) = revisions_of v
values_of (Decided v) = revisions_of v
values_of (Stopped b) = b ∷ []
values_of (Gone s) = s ∷ []
values_of (Back b) = b ∷ []
values_of (Refused k) = []

-- the first of them, 0 where there is none
abbrev pub value_of : (o : Outcome) → ℕ
value_of o = get_or (values_of o) 0 0

abbrev pub is_refused : (o : Outcome) → Bool
is_refused (Begun a) = false
is_refused (Served a) = false
is_refused (Received a) = false
is_refused (Aborted a) = false
is_refused (WriteIssued v) = false
is_refused (Decided v) = false
is_refused (Stopped b) = false
is_refused (Gone s) = false
is_refused (Back b) = false
is_refused (Refused k) = true

-- an attempt began
abbrev pub is_begun : (o : Outcome) → Bool
is_begun (Begun a) = true
is_begun (Served a) = false
is_begun (Received a) = false
is_begun (Aborted a) = false
is_begun (WriteIssued v) = false
is_begun (Decided v) = false
is_begun (Stopped b) = false
is_begun (Gone s) = false
is_begun (Back b) = false
is_begun (Refused k) = false

-- an attempt ended: its station decided, or it aborted
abbrev pub is_end : (o : Outcome) → Bool
is_end (Begun a) = false
is_end (Served a) = false
is_end (Received a) = false
is_end (Aborted a) = true
is_end (WriteIssued v) = false
is_end (Decided v) = true
is_end (Stopped b) = false
is_end (Gone s) = false
is_end (Back b) = false
is_end (Refused k) = false
