-- The claims on files and on the writer, proved.
use lib.ListN.{length}
use Rattle.drill_file.specs.Claims.{FileClaims, WriterClaims}
use Rattle.drill_file.proofs.TestLaws.{accepted_passed, passed_accepted, file_turned}
use Rattle.drill_file.proofs.FileLaws.{header_number, header_values_lem, no_values_lem, accepted_values}
use Rattle.drill_file.proofs.LayoutLaws.{header_layout, written_accepted, written_version, written_label, written_departments, written_records, one_listed, none_in_one, each_in_two}
use Rattle.drill_file.proofs.WriterLaws.{unrefused, refused_none, write_turned}
use Rattle.drill_file.proofs.WrittenLaws.{left_filled, left_untouched, reads_back, writes_again, writes_short, writes_stops, parts_apart}

pub file_claims : FileClaims
file_claims = record {
  passes = accepted_passed;
  accepted = passed_accepted;
  turned = file_turned;
  number = header_number;
  given = header_values_lem;
  no_values_lem = no_values_lem;
  values = accepted_values;
  layout = header_layout;
  reads = written_accepted;
  version = written_version;
  label = written_label;
  departments = written_departments;
  records = written_records;
  listed = one_listed;
  one = none_in_one;
  two = each_in_two;
}

pub writer_claims : WriterClaims
writer_claims = record {
  writable = λ b p. unrefused (length b) p;
  writes = λ b p. refused_none (length b) p;
  turned = write_turned;
  filled = left_filled;
  untouched = left_untouched;
  back = reads_back;
  again = λ s b bytes e. writes_again s bytes e b;
  short = λ s b bytes e. writes_short s bytes e b;
  stops = λ s room bytes e. writes_stops s bytes e room;
  apart = parts_apart;
}
