-- The claims on records and outcomes, proved.
use Rattle.commands.specs.Claims.{CommandClaims}
use Rattle.commands.proofs.Encodings.{decode_encode, six_as_eight, encode_length, encode_bytes, decode_fielded}
use Rattle.commands.proofs.OutcomeLaws.{accepted_number, refusal_named}

pub command_claims : CommandClaims
command_claims = record {
  decodes = decode_encode;
  eight = encode_length;
  bytes = encode_bytes;
  fields = decode_fielded;
  six = six_as_eight;
  accepted = accepted_number;
  named = refusal_named;
}
