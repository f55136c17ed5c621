-- The claims on one phase, proved.
use Rattle.requests.specs.Claims.{RequestClaims}
use Rattle.requests.proofs.StandingTests.{standing_received, standing_clear}
use Rattle.requests.proofs.RequestLaws.{issued_waits, served_comes, served_other, received_same, received_other, quorum_majority, yes_means, yes_not, verdict_yes, verdict_no, verdict_open, read_no}

pub request_claims : RequestClaims
request_claims = record {
  heard = standing_received;
  unheard = standing_clear;
  waits = issued_waits;
  on_the_way = served_comes;
  served_other = served_other;
  received_same = received_same;
  received_other = received_other;
  majority = λ q n P. quorum_majority q n;
  all_yes_lem = yes_means;
  not_all = yes_not;
  yes = verdict_yes;
  no = verdict_no;
  still = verdict_open;
  early = read_no;
}
