use Rattle.std.proofs.Common.{rules, refl, ap, ◌∙◌, subst, inr}
use Rattle.bl_proc_compress.specs.declared.compression.Compression.TheVariants.{PuttingFirst, OpeningRight}
use Rattle.bl_proc_compress.specs.declared.compression.Compression.{Compression}
use Rattle.bl_proc_compress.specs.declared.compression.Decision.TheVariants.{Lost, Refused}
use Rattle.bl_rearrange.specs.declared.families.Siblings.{Siblings}
use Rattle.bl_store.specs.Hands.{known}
use Rattle.bl_index_events.specs.Runs.{IsOn}
use Rattle.bl_index_compress.specs.CompressStands.{compression_of}
use Rattle.bl_index_compress.specs.Shares.{IsRelisted}
use Rattle.bl_index_compress.proofs.CompressionCourses.{decided_since, on_opening}
use Rattle.bl_index_compress.proofs.Puts.{evening, relisting, relisted_at, evens_some, unlisted, even_puts, even_next}
use Rattle.bl_index_compress.proofs.children.even.Goals as goal

pub evened_words-shares-requires : goal.evened_words-shares-requires
evened_words-shares-requires c = record { pages = (let t = c.requires.both in (t.0.lower, t.0.upper, t.1.neighbours, t.1.past, t.0.left_is, t.0.right_is)) }

pub relisted_words-requires : goal.relisted_words-requires
relisted_words-requires c = record { family = (let b = c.requires.both.0 in (b.family, b.are.parent, b.are.key, ap (λ (z : Siblings). z.right) b.are.at)) }

pub open_right-requires-clause-runs : goal.open_right-requires-clause-runs
open_right-requires-clause-runs c = record {
  own = search rules;
  running = search rules;
  on = (let t = c.requires.both in let b = t.0 in let f = b.family in
      let e = evening f b.lower b.upper t.1 in
      let shares = c.evened_words-shares.ensures b.lower b.upper e.0 b.left_is b.right_is e.1 in
      let right = ap (λ (z : Siblings). z.right) b.are.at in
      let listed = relisted_at f b.lower b.upper t.1 _ _ _ c.relisted_words.new.words c.relisted_words.result b.are.key shares.separator right (λ r s. c.relisted_words.ensures f r b.are.parent b.are.key right s) in
      let none = unlisted f b.lower b.upper t.1 c.relisted_words.new.words (subst (IsRelisted (relisting f b.lower b.upper t.1).0 c.relisted_words.new.words) c.if-not-relisted_words.true listed) in
      on_opening _ c.args.target c.args.kin c.args.parent.now f _ Lost b.are c.requires.runs.on (b.decides (OpeningRight f.at Lost) (refl, inr (t.1, (e.0, e.1, none)))));
}

pub put_three-requires-clause-process : goal.put_three-requires-clause-process
put_three-requires-clause-process c =
    let t = c.requires.both in let b = t.0 in let f = b.family in
    let e = evening f b.lower b.upper t.1 in
    let shares = c.evened_words-shares.ensures b.lower b.upper e.0 b.left_is b.right_is e.1 in
    let right = ap (λ (z : Siblings). z.right) b.are.at in
    let listed = relisted_at f b.lower b.upper t.1 _ _ _ c.relisted_words.new.words c.relisted_words.result b.are.key shares.separator right (λ r s. c.relisted_words.ensures f r b.are.parent b.are.key right s) in
    let h = evens_some f b.lower b.upper t.1 c.relisted_words.new.words (subst (IsRelisted (relisting f b.lower b.upper t.1).0 c.relisted_words.new.words) c.if-not-relisted_words.false listed) in
    (c.args.target, h.puts, even_puts c.args.target c.args.kin c.args.parent.now f b.lower b.upper e.0 c.relisted_words.new.words h b.are c.evened_words-shares.result shares, b.decides (PuttingFirst h.puts) (inr h.evens))

pub open_right-requires-then-put_three-clause-runs : goal.open_right-requires-then-put_three-clause-runs
open_right-requires-then-put_three-clause-runs c = record {
  own = search rules;
  running = search rules;
  on = (let t = c.requires.both in let b = t.0 in let f = b.family in let j = c.args.target in
      let e = evening f b.lower b.upper t.1 in
      let shares = c.evened_words-shares.ensures b.lower b.upper e.0 b.left_is b.right_is e.1 in
      let right = ap (λ (z : Siblings). z.right) b.are.at in
      let listed = relisted_at f b.lower b.upper t.1 _ _ _ c.relisted_words.new.words c.relisted_words.result b.are.key shares.separator right (λ r s. c.relisted_words.ensures f r b.are.parent b.are.key right s) in
      let h = evens_some f b.lower b.upper t.1 c.relisted_words.new.words (subst (IsRelisted (relisting f b.lower b.upper t.1).0 c.relisted_words.new.words) c.if-not-relisted_words.false listed) in
      subst (λ (z : Compression). IsOn c.args.tree.now.store.layout (known c.put_three.new.hand.seat) (compression_of j z)) (even_next f b.lower b.upper e.0 c.relisted_words.new.words h j c.args.kin c.args.parent.now b.are) (c.put_three.ensures.done c.if-put_three.true j h.puts (b.decides (PuttingFirst h.puts) (inr h.evens))));
}

pub open_right-requires-else-put_three-clause-runs : goal.open_right-requires-else-put_three-clause-runs
open_right-requires-else-put_three-clause-runs c = record {
  own = search rules;
  running = search rules;
  on = (let t = c.requires.both in let b = t.0 in let f = b.family in let j = c.args.target in
      let e = evening f b.lower b.upper t.1 in
      let shares = c.evened_words-shares.ensures b.lower b.upper e.0 b.left_is b.right_is e.1 in
      let right = ap (λ (z : Siblings). z.right) b.are.at in
      let listed = relisted_at f b.lower b.upper t.1 _ _ _ c.relisted_words.new.words c.relisted_words.result b.are.key shares.separator right (λ r s. c.relisted_words.ensures f r b.are.parent b.are.key right s) in
      let h = evens_some f b.lower b.upper t.1 c.relisted_words.new.words (subst (IsRelisted (relisting f b.lower b.upper t.1).0 c.relisted_words.new.words) c.if-not-relisted_words.false listed) in
      subst (λ (z : Siblings). IsOn c.args.tree.now.store.layout (known c.put_three.new.hand.seat) (compression_of j (OpeningRight z Refused))) (h.at ∙ b.are.at) (c.put_three.ensures.refused c.if-put_three.false j h.puts (b.decides (PuttingFirst h.puts) (inr h.evens))));
}

pub returns-then-put_three : goal.returns-then-put_three
returns-then-put_three c = decided_since _ _ c.put_three.new.hand.seat _ _ _ _ c.put_three.ensures.same.0 c.put_three.ensures.since c.open_right-then-put_three.ensures

pub returns-else-put_three : goal.returns-else-put_three
returns-else-put_three c = decided_since _ _ c.put_three.new.hand.seat _ _ _ _ c.put_three.ensures.same.0 c.put_three.ensures.since c.open_right-else-put_three.ensures
