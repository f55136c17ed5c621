-- The claims, proved.
use Rattle.base.specs.Claims.{RefusalClaims, SizeClaims, DepartmentClaims, Spelling, PartClaims, Quorums, Masks}
use Rattle.base.proofs.RefusalLaws.{named_number, number_named}
use Rattle.base.proofs.SizeLaws.{sizes_mean, sizes_hold}
use Rattle.base.proofs.DepartmentLaws.{departments_mean, departments_hold}
use Rattle.base.proofs.ByteLaws.{word16_of_bytes, word32_of_bytes, bytes16_of_word, bytes32_of_word, bytes16_length, bytes32_length, bytes16_bytes, bytes32_bytes}
use Rattle.base.proofs.PartLaws.{part_length, part_whole, part_part, part_same, part_once}
use Rattle.base.proofs.QuorumLaws.{more_than_half, majority_of, majority_meet}
use Rattle.base.proofs.MaskLaws.{bit_zero, bit_same, bit_other, count_bits, count_more, count_present, count_past, count_at_most, count_agree, set_bit_fits, mask_majority}

pub refusals : RefusalClaims
refusals = record { back = named_number; forth = number_named }

pub sizes : SizeClaims
sizes = record { means = sizes_mean; holds = sizes_hold }

pub departments : DepartmentClaims
departments = record { means = departments_mean; holds = departments_hold }

pub spelling : Spelling
spelling = record {
  number16 = word16_of_bytes;
  number32 = word32_of_bytes;
  spelt16 = bytes16_of_word;
  spelt32 = bytes32_of_word;
  two = bytes16_length;
  four = bytes32_length;
  fits16 = bytes16_bytes;
  fits32 = bytes32_bytes;
}

pub part_claims : PartClaims
part_claims = record { whole = part_whole; inner = part_part; same = part_same; once = part_once; sized = part_length }

pub quorums : Quorums
quorums = record { more_than_half = more_than_half; enough = λ n P s. majority_of s; shared = λ n P Q. majority_meet }

pub masks : Masks
masks = record {
  empty = bit_zero;
  same = bit_same;
  other = bit_other;
  counted = count_bits;
  more = count_more;
  present = count_present;
  past = count_past;
  bounded = count_at_most;
  agree = count_agree;
  fits = set_bit_fits;
  enough = λ P m n. mask_majority m n;
}
