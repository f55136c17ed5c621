-- The claims on the calls for C, proved.
use Rattle.firmware.specs.Claims.{FirmwareClaims, ServeClaims}
use Rattle.firmware.proofs.BoxRecordLaws.{decode_encode, encode_length, encode_decode, decode_fits, reply_words}
use Rattle.firmware.proofs.CallLaws.{read_16, read_17, read_0, read_100, read_routine, read_reply, read_zeroed, write_16, write_17, write_0, write_100, write_routine, read_bytes, reply_bytes, write_bytes}
use Rattle.firmware.proofs.WireLaws.{frame_turned}
use Rattle.firmware.proofs.ServeLaws.{says_unread, says_no_request, says_16, says_read_room, says_write_room, turned_kept, serves_read, serves_write, as_box_read, as_box_write}

pub firmware_claims : FirmwareClaims
firmware_claims = record {
  decodes = decode_encode;
  twelve = encode_length;
  encodes = encode_decode;
  fits = decode_fits;
  reply = reply_words;
  read_16 = read_16;
  read_17 = read_17;
  read_0 = read_0;
  read_100 = read_100;
  read_routine = read_routine;
  read_reply = read_reply;
  read_zeroed = read_zeroed;
  write_16 = write_16;
  write_17 = write_17;
  write_0 = write_0;
  write_100 = write_100;
  write_routine = write_routine;
  read_bytes = read_bytes;
  reply_bytes = reply_bytes;
  write_bytes = write_bytes;
}

pub serve_claims : ServeClaims
serve_claims = record {
  frame_turned = frame_turned;
  unread = says_unread;
  no_request = says_no_request;
  serve_16 = says_16;
  read_room = λ s input room r e. says_read_room s input r e room;
  write_room = λ s input room r v e. says_write_room s input r v e room;
  kept = turned_kept;
  read = λ s input b r e. serves_read s input r e b;
  write = λ s input b r v e. serves_write s input r v e b;
  as_read = λ s r p b h l n. as_box_read s r b h n p l;
  as_write = λ s r v b h n. as_box_write s r b h n v;
}
