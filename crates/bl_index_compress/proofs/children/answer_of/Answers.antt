use Rattle.std.proofs.Common.{◌≡◌, Some, refl, sym, subst}
use Rattle.bl_proc_compress.specs.declared.compress.CompressReply.TheVariants as reply
use Rattle.bl_proc_compress.specs.Compresses.{compress_reply}
use Rattle.bl_index_compress.proofs.children.answer_of.Goals as goal

pub returns-in-Merged : goal.returns-in-Merged
returns-in-Merged c = let h = c.in-Merged.hint in (reply.Merged h, subst (λ d. compress_reply d ≡ Some (reply.Merged h)) (sym c.in-Merged.is) refl, refl)

pub returns-in-Unposted : goal.returns-in-Unposted
returns-in-Unposted c = let h = c.in-Unposted.hint in (reply.Unposted h, subst (λ d. compress_reply d ≡ Some (reply.Unposted h)) (sym c.in-Unposted.is) refl, refl)
