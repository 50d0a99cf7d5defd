use Rattle.std.proofs.Common.{◌≡◌, ◌<◌, ◌++◌, ◌∙◌, ap, sym, subst, suc, arith, false, ℕ, List, length}
use Rattle.std.specs.Prelude.{All, Option, flat_map}
use Rattle.bl_serve_lines.specs.declared.request.Request.{Request}
use Rattle.bl_index.specs.Calls.{first_of, pages_of}
use Rattle.bl_serve_worker.specs.declared.chunk.Slot.{Slot}
use Rattle.bl_serve_worker.specs.Answering.{joined_text}
use Rattle.bl_serve.specs.Chunks.{Collects, WorkOn}
use Rattle.bl_serve.specs.Dealing.{AreDealt}
use Rattle.bl_serve.specs.Joining.{IsOutputOf, IsWhole}
use Rattle.bl_serve_ground.proofs.Gathered.{own_together}
use Rattle.bl_serve.proofs.Keeping.{all_low}
use Rattle.bl_serve.proofs.Shares.{chunk, collected_whole, turns_long, lent}
use Rattle.bl_serve.proofs.Noting.{notes_more}
use Rattle.bl_serve.proofs.Together.{all_began}
use Rattle.bl_serve.proofs.chunks.answer_chunk.Goals as goal

pub join_outputs-requires-clause-whole : goal.join_outputs-requires-clause-whole
join_outputs-requires-clause-whole g c =
    let index = c.args.index.now in let session = c.args.session in let deals = c.in_ok-deals.deals.items in
    let t = subst (λ (z : List ℕ × List (Option Request)). WorkOn c.args.service.now.keeps (suc session.totals.requests) z.0 z.1 session.handles.items c.work_abreast.new.handles.items c.work_abreast.new.slots) (λ i. (c.as_slice-3.ensures.value i, c.as_slice-2.ensures i)) c.in_ok-work_abreast.ensures.turns in
    let long = (turns_long _ _ _ _ _ _ _ t).1 in let slots = session.paired in let a = session.handles.ok in
    subst (λ (z : List ℕ). All (IsWhole z) c.in_ok-outputs.outputs.items) (sym c.as_slice-dealt.ensures.value)
    (collected_whole c.args.service.now.keeps (first_of index) (pages_of index) (suc session.totals.requests) deals c.args.lines.now session.handles.items c.work_abreast.new.handles.items c.work_abreast.new.slots c.in_ok-outputs.outputs.items
    (sym (c.in_ok-deals.ensures.long ∙ ap length c.as_slice.ensures)) (all_began index session.handles.items (own_together _ _ _ c.requires.met)) t
    (subst (λ (z : List Slot). Collects z c.in_ok-outputs.outputs.items) (lent _ _ c.work_abreast.new.slots (omega (arith, long, slots, a))) c.in_ok-outputs.ensures.collects))

pub join_outputs-requires-clause-low : goal.join_outputs-requires-clause-low
join_outputs-requires-clause-low g c = let d = c.in_ok-deals.ensures.dealt in
    subst (All (λ s. s < c.shares_for-shares.result)) (sym c.as_slice-dealt.ensures.value) (all_low c.shares_for-shares.result d.share_of c.in_ok-deals.deals.items c.as_slice.result.now d.each)

pub returns-clause-chunk : goal.returns-clause-chunk
returns-clause-chunk g c =
    let index = c.args.index.now in let session = c.args.session in let deals = c.in_ok-deals.deals.items in
    let t = subst (λ (z : List ℕ × List (Option Request)). WorkOn c.args.service.now.keeps (suc session.totals.requests) z.0 z.1 session.handles.items c.work_abreast.new.handles.items c.work_abreast.new.slots) (λ i. (c.as_slice-3.ensures.value i, c.as_slice-2.ensures i)) c.in_ok-work_abreast.ensures.turns in
    let long = (turns_long _ _ _ _ _ _ _ t).1 in let slots = session.paired in let a = session.handles.ok in
    let joins = c.in_ok-join_outputs.ensures.text in
    chunk c.args.service.now.keeps (first_of index) (pages_of index) (suc session.totals.requests) deals c.args.lines.now c.shares_for-shares.result c.join_outputs.new.text.items session.text.items session.handles.items c.work_abreast.new.handles.items c.work_abreast.new.slots c.in_ok-outputs.outputs.items joins.0
    (sym (c.in_ok-deals.ensures.long ∙ ap length c.as_slice.ensures)) (subst (λ (z : List (Option Request)). AreDealt c.shares_for-shares.result z deals) c.as_slice.ensures c.in_ok-deals.ensures.dealt)
    (all_began index session.handles.items (own_together _ _ _ c.requires.met)) t
    (subst (λ (z : List Slot). Collects z c.in_ok-outputs.outputs.items) (lent _ _ c.work_abreast.new.slots (omega (arith, long, slots, a))) c.in_ok-outputs.ensures.collects) joins.1 joins.2
    (subst (λ (z : List ℕ). (texts : List (List ℕ)) → length texts ≡ length z → All (IsOutputOf z texts) joins.0 → c.join_outputs.new.text.items ≡ session.text.items ++ joined_text texts) c.as_slice-dealt.ensures.value joins.3)

pub invariant_of-result : goal.invariant_of-result
invariant_of-result g c =
    let t = turns_long _ _ _ _ _ _ _ c.in_ok-work_abreast.ensures.turns in
    let a = c.args.session.some in let b = c.args.session.paired in let d = c.args.session.handles.ok in let e = c.work_abreast.new.handles.ok in
    record { some = omega (arith, t, a, b, d, e); paired = omega (arith, t, a, b, d, e); counted = c.args.session.counted; synced = c.args.session.synced }

-- what was read stays read, however the chunk ends
pub returns-clause-consumes : goal.returns-clause-consumes
returns-clause-consumes g c = let r = c.work_abreast.ensures.reads in (r.more, r.consumed)

pub returns-in_err-work_abreast-clause-consumes : goal.returns-in_err-work_abreast-clause-consumes
returns-in_err-work_abreast-clause-consumes g c = let r = c.work_abreast.ensures.reads in (r.more, r.consumed)

pub returns-in_err-outputs-clause-consumes : goal.returns-in_err-outputs-clause-consumes
returns-in_err-outputs-clause-consumes g c = let r = c.work_abreast.ensures.reads in (r.more, r.consumed)

pub returns-in_err-join_outputs-clause-consumes : goal.returns-in_err-join_outputs-clause-consumes
returns-in_err-join_outputs-clause-consumes g c = let r = c.work_abreast.ensures.reads in (r.more, r.consumed)

-- what the slots hold is what the passes have changed
pub returns-clause-noted : goal.returns-clause-noted
returns-clause-noted g c keeps =
    let session = c.args.session in
    let t = rw keeps at c.in_ok-work_abreast.ensures.turns in
    let long = (turns_long _ _ _ _ _ _ _ t).1 in let slots = session.paired in let a = session.handles.ok in
    let same = c.as_slice-4.ensures.value ∙ lent _ _ c.work_abreast.new.slots (omega (arith, long, slots, a)) in
    notes_more _ _ _ session.handles.items c.work_abreast.new.handles.items c.work_abreast.new.slots session.changes c.collect_changes.new.changes t
    (subst (All (λ (s : Slot). s.failed ≡ false)) (lent _ _ c.work_abreast.new.slots (omega (arith, long, slots, a))) c.in_ok-outputs.ensures.collects.none_failed)
    (c.in_ok-collect_changes.ensures.came ∙ ap (λ (z : List Slot). session.changes.came.items ++ flat_map (λ s. s.changes.came.items) z) same)
    (c.in_ok-collect_changes.ensures.went ∙ ap (λ (z : List Slot). session.changes.went.items ++ flat_map (λ s. s.changes.went.items) z) same)
