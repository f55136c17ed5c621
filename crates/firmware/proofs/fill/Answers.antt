use Rattle.firmware.proofs.BoxRecordLaws.{reply_stored}
use Rattle.firmware.proofs.fill.Goals as goal

pub returns : goal.returns
returns c = reply_stored c.args.reply.now _ _ c.args.rank c.args.value c.told-reply c.put_u32.ensures c.put_u32-2.ensures
