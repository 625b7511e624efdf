use Rattle.std.proofs.Common.{refl, sym, length-take-le}
use Rattle.command.proofs.Laws.{refusal_ok, refusal_bytes}
use Rattle.command.proofs.refuse.Goals as goal

pub unwrap-bytes-requires : goal.unwrap-bytes-requires
unwrap-bytes-requires c = refusal_ok _ _ c.put_refusal.ensures refl

pub slice_bounds-text-end : goal.slice_bounds-text-end
slice_bounds-text-end c = refusal_bytes _ _ c.put_refusal.ensures refl c.unwrap-bytes.ensures

pub slice_bounds-print-end : goal.slice_bounds-print-end
slice_bounds-print-end c = sym (length-take-le _ _ (refusal_bytes _ _ c.put_refusal.ensures refl c.unwrap-bytes.ensures))
