-- What is claimed of a solo finish, proved.
use Rattle.solo.specs.Claims.{SoloClaims}
use Rattle.solo.proofs.PlanLaws.{plan_begins}
use Rattle.solo.proofs.FrontLaws.{solo_turned, solo_number_lem, solo_value_lem, solo_named}
use Rattle.solo.proofs.RoundLaws.{round_smallest}
use Rattle.solo.proofs.CountLaws.{solo_counted}
use Rattle.solo.proofs.LawfulLaws.{step_lawful, new_lawful}
use Rattle.solo.proofs.Decides.{solo_decides, solo_ends}

pub solo_claims : SoloClaims
solo_claims = record {
  smallest = round_smallest;
  begins = plan_begins;
  refusal = solo_turned;
  number = solo_number_lem;
  value = solo_value_lem;
  named = solo_named;
  counted = solo_counted;
  ends = solo_ends;
  decides = solo_decides;
  new_lawful = new_lawful;
  lawful = step_lawful;
}
