-- The requests of a phase, as floors keep them (crate `requests`), seen as the machine's.
use Rattle.requests.specs.Requests.{slot_at, heard_from}
use Rattle.requests.specs.declared.Requests.{Requests}
use Rattle.machine.specs.Machine.{Asked}

abbrev pub asks : Requests → Asked
asks q = record { slot = slot_at q; heard = heard_from q }
