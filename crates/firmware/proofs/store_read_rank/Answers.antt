use Rattle.firmware.proofs.BoxRecordLaws.{all_bytes, rank_stored}
use Rattle.firmware.proofs.store_read_rank.Goals as goal

pub returns : goal.returns
returns c = rank_stored c.args.bytes.now (all_bytes c.args.bytes.now c.fits-bytes) c.put_u32.new.s c.args.rank c.told-bytes c.put_u32.ensures
