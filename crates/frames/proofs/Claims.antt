-- The claims on frames, proved.
use mathlib.Core.Path.{refl}
use Rattle.frames.specs.Claims.{FrameClaims}
use Rattle.frames.proofs.MessageLaws.{frame_size}
use Rattle.frames.proofs.ReaderLaws.{gives_19, gives_20, gives_message}
use Rattle.frames.proofs.FrameLaws.{frame_apart, frame_begins, frame_bytes, formed_unknown, known_means, wrong_means, wrong_holds, formed_named, frame_zero, frame_back, accepted_exactly, accepted_right, stream_read, stream_is, write_means, write_holds, write_turned, left_filled, left_untouched, written_back, writes_again, writes_short}

pub frame_claims : FrameClaims
frame_claims = record {
  apart = frame_apart;
  begins = frame_begins;
  size = frame_size;
  bytes = frame_bytes;
  gives_19 = gives_19;
  gives_20 = gives_20;
  gives_message = gives_message;
  unknown = formed_unknown;
  known_means = known_means;
  wrong_means = wrong_means;
  wrong_holds = wrong_holds;
  named = formed_named;
  zero = frame_zero;
  refused_blank = λ k. (refl, refl, refl);
  back = frame_back;
  exactly = λ s m b. accepted_exactly s b m;
  right = accepted_right;
  stream = stream_read;
  streamed = stream_is;
  writable = write_means;
  writes = write_holds;
  turned = write_turned;
  filled = left_filled;
  untouched = left_untouched;
  written_back = λ b m t e. written_back b m e t;
  again = writes_again;
  short = writes_short;
}
