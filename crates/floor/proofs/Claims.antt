-- The claims on steps and runs, proved.
use Prim.Native.Nat.{ℕ}
use Rattle.std.specs.Prelude.{Ok, Err}
use Rattle.base.specs.declared.Refusal.TheVariants.{Unsound, Records}
use mathlib.Core.Path.{refl, sym, subst}
use Rattle.base.specs.Records.{records_in}
use Rattle.floor.specs.Runs.{played_on}
use Rattle.floor.proofs.RunCalls.{run_6, run_5, run_0, played_refused, played_whole}
use Rattle.commands.specs.Commands.{command_of}
use Rattle.floor.specs.Step.{step_of}
use Rattle.floor.specs.RunClaims.{PlayedOver, RunClaims}
use Rattle.floor.specs.Claims.{StepClaims}
use Rattle.floor.proofs.Keeps.{step_refused_same, step_keeps, step_sizes}
use Rattle.floor.proofs.EmptyFloors.{new_sound, new_lengths}
use Rattle.floor.proofs.LengthLaws.{step_lengths}
use Rattle.floor.proofs.Numbered.{refused_number, apply_number}
use Rattle.floor.proofs.Outcomes.{step_means}
use Rattle.floor.proofs.Moves.{apply_station, apply_box}
use Rattle.floor.proofs.BoxLaws.{record_from, away_keeps, box_grown}
use Rattle.floor.proofs.AwayLaws.{row_held, waits_until, waits_on, away_moves}
use Rattle.floor.proofs.StationLaws.{gone_stays, department_stays, last_from, decided_from}
use Rattle.floor.proofs.RowLaws.{apply_share, row_same, step_counted}
use Rattle.floor.proofs.FreeLaws.{free_means, free_holds, takes_row}
use Rattle.floor.proofs.RunMeans.{run_ran, run_played, step_named, run_named, driven_named}

pub step_claims : StepClaims
unfolding step_of
step_claims = record {
  refused_same = step_refused_same;
  refused_number = λ f r. refused_number f (command_of r);
  number = λ f r. apply_number f (command_of r);
  named = step_named;
  new_sound = new_sound;
  new_lengths = new_lengths;
  sound = step_keeps;
  lengths = step_lengths;
  sizes = step_sizes;
  means = step_means;
  station = λ f r. apply_station f (command_of r);
  storage = λ f r. apply_box f (command_of r);
  record_from = λ f r d b. record_from f (command_of r) b d;
  waits_until = λ f r z y p a b w. waits_until f (command_of r) y p a b w z;
  waits_keeps = λ f r y p a b w. row_held f (command_of r) y p a b w;
  away_keeps = λ f r d b. away_keeps f (command_of r) b d;
  away_waits = λ f r z y p a b e w. waits_on f (command_of r) y p a b w z e;
  away_moves = λ f r. away_moves f (command_of r);
  gone_stays = λ f r. gone_stays f (command_of r);
  grown = λ f r d j. box_grown f (command_of r) j d;
  last_from = λ f r. last_from f (command_of r);
  decided_from = λ f r. decided_from f (command_of r);
  department = λ f r. department_stays f (command_of r);
  attempt = λ f r. row_same f (command_of r);
  free = free_means;
  free_holds = free_holds;
  takes = takes_row;
  share_from = λ f r. apply_share f (command_of r);
  counted = step_counted;
}

pub run_claims : RunClaims
run_claims = record {
  ran = run_ran;
  played = run_played;
  named = run_named;
  driven_named = driven_named;
  played_6 = λ f l z. sym (played_refused f l {A = ℕ} (Err Unsound) (run_6 f l z) Unsound refl);
  played_5 = λ f l z h. sym (played_refused f l {A = ℕ} (Err Records) (run_5 f l z h) Records refl);
  played_whole = λ f l z h. subst (PlayedOver f (records_in l)) (played_whole f l {A = ℕ} (Ok 0) (run_0 f l z h) 0 refl (played_on f (records_in l)) refl) (run_played f (records_in l));
}
