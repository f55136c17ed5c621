-- The claims on a register, proved.
use Rattle.register.specs.Claims.{RegisterClaims}
use Rattle.register.proofs.RegisterLaws.{outranks_means, outranks_not, outranks_none, read_outranked, read_answered, read_rises, read_leaves, takes_means, takes_both, takes_not, write_taken, write_refused, write_answers, write_keeps_read}

pub register_claims : RegisterClaims
register_claims = record {
  outranks_means = outranks_means;
  outranks_not = outranks_not;
  outranks_none = outranks_none;
  read_outranked = read_outranked;
  read_answered = read_answered;
  read_rises = read_rises;
  read_leaves = read_leaves;
  takes_means = takes_means;
  takes_both = takes_both;
  takes_not = takes_not;
  write_taken = write_taken;
  write_refused = write_refused;
  write_answers = write_answers;
  write_keeps_read = write_keeps_read;
}
