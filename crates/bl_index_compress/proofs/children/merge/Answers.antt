use Rattle.std.proofs.Common.{rules, ℕ, ◌≡◌, refl, sym, ap, ◌∙◌, subst, inl, arith}
use Rattle.bl_page.specs.declared.page.Page.TheVariants.{Inner}
use Rattle.bl_proc_steps.specs.declared.acts.Seen.TheVariants as seen
use Rattle.bl_proc_compress.specs.declared.compression.Compression.{Compression}
use Rattle.bl_proc_compress.specs.declared.compression.Compression.TheVariants.{PuttingFirst, Retiring, OpeningRight, OpeningLeft}
use Rattle.bl_proc_compress.specs.declared.compression.Decision.TheVariants.{Merged, Refused}
use Rattle.bl_rearrange.specs.declared.families.Siblings.{Siblings}
use Rattle.bl_proc_compress.specs.Compressions.{IsBuried, merge_hint}
use Rattle.bl_proc.specs.Processes.{next_of}
use Rattle.bl_store.specs.Hands.{known}
use Rattle.bl_index_events.specs.Runs.{IsOn}
use Rattle.bl_index_events.proofs.Standing.{on_itself, same_all, same_goes}
use Rattle.bl_index_compress.specs.CompressStands.{compression_of}
use Rattle.bl_index_compress.proofs.CompressionCourses.{decided_since, compression_course, compression_runs}
use Rattle.bl_index_compress.proofs.Puts.{lists_key, merges_some, merge_puts, merge_next, merge_pages}
use Rattle.bl_index_compress.proofs.children.merge.Goals as goal

pub merged_words-merged-requires : goal.merged_words-merged-requires
merged_words-merged-requires c = record { pages = (let t = c.requires.both in (t.0.lower, t.0.upper, t.1, t.2, t.0.left_is, t.0.right_is)) }

pub buried_words-dead-requires : goal.buried_words-dead-requires
buried_words-dead-requires c = (let t = c.requires.both in (t.0.upper, t.0.right_is))

pub words_without-requires-clause-page : goal.words_without-requires-clause-page
words_without-requires-clause-page c = let b = c.requires.both.0 in (Inner b.family.parent, tt, b.are.parent, lists_key b.family c.args.kin.key b.are.key)

pub merge_hint_in-hint-requires-clause-most : goal.merge_hint_in-hint-requires-clause-most
merge_hint_in-hint-requires-clause-most c = let b = c.requires.both.0 in let limit = b.family.parent.below_limit in let level = b.are.level in omega (arith, limit, level)

pub put_three-requires-clause-process : goal.put_three-requires-clause-process
put_three-requires-clause-process c =
    let t = c.requires.both in let b = t.0 in let f = b.family in
    let m = merges_some f b.lower b.upper t.1 t.2 in
    let into = ap (λ (z : Siblings). z.left) b.are.at in
    let left = c.merged_words-merged.ensures b.lower b.upper m.0.left b.left_is b.right_is m.1.left in
    let right = c.buried_words-dead.ensures b.upper m.0.right b.right_is (subst (λ (x : ℕ). IsBuried x b.upper m.0.right) into m.1.right) in
    (c.args.target, m.0, merge_puts c.args.target c.args.kin c.args.parent.now f b.lower b.upper m.0 b.are m.1 _ _ _ left (c.words_without.ensures.words (Inner f.parent) b.are.parent) right, b.decides (PuttingFirst m.0) (inl (t.1, m.1)))

pub retire-requires-clause-runs : goal.retire-requires-clause-runs
retire-requires-clause-runs c = record {
  own = search rules;
  running = search rules;
  on = (let t = c.requires.both in let b = t.0 in let m = merges_some b.family b.lower b.upper t.1 t.2 in
      on_itself _ _ _ (c.put_three.ensures.done c.if-put_three.true c.args.target m.0 (b.decides (PuttingFirst m.0) (inl (t.1, m.1)))));
}

pub retire-requires-clause-next : goal.retire-requires-clause-next
retire-requires-clause-next c =
    let t = c.requires.both in let b = t.0 in let m = merges_some b.family b.lower b.upper t.1 t.2 in
    let on = c.put_three.ensures.done c.if-put_three.true c.args.target m.0 (b.decides (PuttingFirst m.0) (inl (t.1, m.1))) in
    ap next_of (on.state ∙ ap (compression_of c.args.target) (merge_next b.family b.lower b.upper m.0 c.args.target c.args.kin c.args.parent.now _ b.are m.1 refl))

pub retire-requires-clause-course : goal.retire-requires-clause-course
retire-requires-clause-course c =
    let t = c.requires.both in let b = t.0 in let m = merges_some b.family b.lower b.upper t.1 t.2 in
    let on = c.put_three.ensures.done c.if-put_three.true c.args.target m.0 (b.decides (PuttingFirst m.0) (inl (t.1, m.1))) in
    let hint = merge_hint b.family.parent.level m.0.parent m.0.left in
    compression_course c.args.target (Retiring c.args.kin.at (Merged hint)) seen.Done _ (on.state ∙ ap (compression_of c.args.target) (merge_next b.family b.lower b.upper m.0 c.args.target c.args.kin c.args.parent.now hint b.are m.1 refl)) tt

pub returns-then-put_three : goal.returns-then-put_three
returns-then-put_three c =
    let t = c.requires.both in let b = t.0 in let f = b.family in let j = c.args.target in let m = merges_some f b.lower b.upper t.1 t.2 in
    let on = c.put_three.ensures.done c.if-put_three.true j m.0 (b.decides (PuttingFirst m.0) (inl (t.1, m.1))) in
    let trees = merge_pages f b.lower b.upper m.0 m.1 in
    let p = merge_puts j c.args.kin c.args.parent.now f b.lower b.upper m.0 b.are m.1 _ _ _ (c.merged_words-merged.ensures b.lower b.upper m.0.left b.left_is b.right_is m.1.left) (c.words_without.ensures.words (Inner f.parent) b.are.parent) (c.buried_words-dead.ensures b.upper m.0.right b.right_is (subst (λ (x : ℕ). IsBuried x b.upper m.0.right) (ap (λ (z : Siblings). z.left) b.are.at) m.1.right)) in
    let hint : c.merge_hint_in-hint.result ≡ merge_hint f.parent.level m.0.parent m.0.left = c.merge_hint_in-hint.ensures m.0.parent m.0.left trees.0 trees.1 p.parent_is p.left_is ∙ ap (λ (n : ℕ). merge_hint n m.0.parent m.0.left) (sym b.are.level) in
    let retiring = subst (λ (z : Compression). IsOn c.args.tree.now.store.layout (known c.put_three.new.hand.seat) (compression_of j z)) (merge_next f b.lower b.upper m.0 j c.args.kin c.args.parent.now c.merge_hint_in-hint.result b.are m.1 hint) on in
    let one = c.put_three.ensures.same.0 in let two = c.retire.ensures.same.0 in
    record {
      same = (two.0 ∙ one.0, two.1 ∙ one.1, two.2 ∙ one.2);
      empty = c.retire.ensures.empty;
      runs = record { own = search rules; running = search rules; on = compression_runs c.args.tree.now.store.layout j (Retiring c.args.kin.at (Merged c.merge_hint_in-hint.result)) (OpeningLeft c.args.kin.at (Merged c.merge_hint_in-hint.result)) seen.Done _ _ retiring c.retire.ensures.goes refl };
      since = same_all _ _ _ c.put_three.ensures.since (same_goes _ _ _ c.retire.ensures.goes);
      no_room = λ e. absurd (let z : Merged c.merge_hint_in-hint.result ≡ Refused = e in cc);
    }

pub open_right-requires-clause-runs : goal.open_right-requires-clause-runs
open_right-requires-clause-runs c = record {
  own = search rules;
  running = search rules;
  on = (let t = c.requires.both in let b = t.0 in let j = c.args.target in let m = merges_some b.family b.lower b.upper t.1 t.2 in
      subst (λ (z : Siblings). IsOn c.args.tree.now.store.layout (known c.put_three.new.hand.seat) (compression_of j (OpeningRight z Refused))) (m.1.at ∙ b.are.at) (c.put_three.ensures.refused c.if-put_three.false j m.0 (b.decides (PuttingFirst m.0) (inl (t.1, m.1)))));
}

pub open_right-requires-clause-no_room : goal.open_right-requires-clause-no_room
open_right-requires-clause-no_room c = λ e. c.put_three.ensures.asked c.if-put_three.false

pub returns-else-put_three : goal.returns-else-put_three
returns-else-put_three c = decided_since _ _ c.put_three.new.hand.seat _ _ _ _ c.put_three.ensures.same.0 c.put_three.ensures.since c.open_right.ensures
