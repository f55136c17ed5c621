use Rattle.base.specs.Bytes.{with_word, bytes_put}
use Rattle.base.proofs.put_u32.Goals as goal

pub returns : goal.returns
unfolding with_word bytes_put
returns c = rw c.split32.ensures at c.put_bytes.ensures
