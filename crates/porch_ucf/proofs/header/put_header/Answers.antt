use Rattle.std.proofs.Common.{append_assoc}
use Rattle.porch_ucf.proofs.header.put_header.Goals as goal

pub returns-clause-items : goal.returns-clause-items
returns-clause-items c =
    simp (c.put-2.ensures.items, c.put_u64-5.ensures.items, c.put_u64-4.ensures.items, c.put_u32-4.ensures.items, c.put_u32-3.ensures.items, c.put_u64-3.ensures.items, c.put_u64-2.ensures.items, c.put_u64.ensures.items, c.put_u32-2.ensures.items, c.put_u32.ensures.items, c.put.ensures.items, append_assoc)
