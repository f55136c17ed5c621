use Rattle.firmware.proofs.BoxRecordLaws.{record_stored}
use Rattle.firmware.proofs.store.Goals as goal

pub returns : goal.returns
returns c = record_stored c.args.bytes.now _ _ _ c.args.x c.told-bytes c.put_u32.ensures c.put_u32-2.ensures c.put_u32-3.ensures
