use Rattle.std.proofs.Common.{ℕ, ◌≡◌, sym, ap, subst, ◌∙◌}
use Rattle.bl_model.specs.declared.deciding.Decided.{Decided}
use Rattle.bl_model.specs.Rows.{map_of}
use Rattle.bl_model.specs.Writes.{effect_of}
use Rattle.bl_page.specs.Faults.{HasPairs, pairs_of}
use Rattle.bl_proc_routes.proofs.Spellings.{tree_pairs}
use Rattle.bl_store.specs.Hands.{known, read_words, IsSameHand}
use Rattle.bl_store.specs.declared.store.Hand.{Hand}
use Rattle.bl_index_rule.specs.declared.known.PassState.{PassState}
use Rattle.bl_index_events.specs.Runs.{IsSameProcess}
use Rattle.bl_index_edit.specs.declared.writers.Left.TheVariants.{Kept, Refused}
use Rattle.bl_index_edit.proofs.Written.{at_leaf, entering_none, stands_keeping, opens_kept}
use Rattle.bl_index_edit.proofs.leaves.write_there.Goals as goal

pub place_in-place-requires-clause-pairs : goal.place_in-place-requires-clause-pairs
place_in-place-requires-clause-pairs g c = let there = c.requires.there in
    subst (λ (h : Hand PassState). HasPairs (read_words h.seat)) (sym c.word-head.ensures.same) (tree_pairs there.page (read_words c.args.hand.now.seat) there.leads.0 there.is)

pub listed_at-there-requires-clause-pairs : goal.listed_at-there-requires-clause-pairs
listed_at-there-requires-clause-pairs g c = let there = c.requires.there in
    subst (λ (h : Hand PassState). HasPairs (read_words h.seat)) (sym (c.place_in-place.ensures.same ∙ c.word-head.ensures.same)) (tree_pairs there.page (read_words c.args.hand.now.seat) there.leads.0 there.is)

pub open_leaf-requires-clause-opens : goal.open_leaf-requires-clause-opens
open_leaf-requires-clause-opens g c =
    let w = c.args.writer.now in let there = c.listed_at-there.result in
    let listed = c.listed_at-there.ensures.listed ∙ ap (λ (k : ℕ). map_of (pairs_of (read_words c.place_in-place.new.hand.seat)) k) c.key-key.ensures in
    let leaf = at_leaf (g.W.Writer.key_of w) (g.W.Writer.staged w) c.args.at _ _ _ _ _ c.word-head.ensures.same c.place_in-place.ensures.same c.listed_at-there.ensures.same c.requires.there listed in
    let effect = ap (λ z. effect_of z there) (sym c.write.ensures) ∙ (ap (λ (z : Decided). z.effect) (sym c.decide.ensures.is) ∙ c.in-Keep.is) in
    let stands = stands_keeping (g.W.Writer.key_of w) (g.W.Writer.write_of w) (g.W.Writer.staged w) (g.W.Writer.opened w) (g.W.Writer.writes w) c.args.at there _ _ leaf effect in
    opens_kept (g.W.Writer.key_of w) (g.W.Writer.write_of w) (g.W.Writer.staged w) (g.W.Writer.opened w) (g.W.Writer.writes w) c.args.at there _ stands

pub returns-in-Keep : goal.returns-in-Keep
returns-in-Keep g c =
    let e = c.open_leaf.ensures in
    let same = c.listed_at-there.ensures.same ∙ (c.place_in-place.ensures.same ∙ c.word-head.ensures.same) in
    record {
      same = subst (λ (h : Hand PassState). IsSameHand h.seat c.open_leaf.new.hand.seat) same e.same;
      empty = e.empty;
      runs = e.runs;
      since = subst (λ (h : Hand PassState). IsSameProcess (known h.seat) (known c.open_leaf.new.hand.seat)) same e.since;
      no_room = λ none. absurd (let f : Kept c.listed_at-there.result ≡ Refused = sym e.left ∙ none in cc);
    }

pub remove-requires-clause-leaf : goal.remove-requires-clause-leaf
remove-requires-clause-leaf g c =
    let w = c.args.writer.now in
    let listed = c.listed_at-there.ensures.listed ∙ ap (λ (k : ℕ). map_of (pairs_of (read_words c.place_in-place.new.hand.seat)) k) c.key-key.ensures in
    at_leaf (g.W.Writer.key_of w) (g.W.Writer.staged w) c.args.at _ _ _ _ _ c.word-head.ensures.same c.place_in-place.ensures.same c.listed_at-there.ensures.same c.requires.there listed

pub remove-requires-clause-effect : goal.remove-requires-clause-effect
remove-requires-clause-effect g c = ap (λ z. effect_of z c.listed_at-there.result) (sym c.write.ensures) ∙ (ap (λ (z : Decided). z.effect) (sym c.decide.ensures.is) ∙ c.in-Remove.is)

pub replace_value-requires-clause-leaf : goal.replace_value-requires-clause-leaf
replace_value-requires-clause-leaf g c =
    let w = c.args.writer.now in
    let listed = c.listed_at-there.ensures.listed ∙ ap (λ (k : ℕ). map_of (pairs_of (read_words c.place_in-place.new.hand.seat)) k) c.key-key.ensures in
    at_leaf (g.W.Writer.key_of w) (g.W.Writer.staged w) c.args.at _ _ _ _ _ c.word-head.ensures.same c.place_in-place.ensures.same c.listed_at-there.ensures.same c.requires.there listed

pub replace_value-requires-clause-effect : goal.replace_value-requires-clause-effect
replace_value-requires-clause-effect g c = ap (λ z. effect_of z c.listed_at-there.result) (sym c.write.ensures) ∙ (ap (λ (z : Decided). z.effect) (sym c.decide.ensures.is) ∙ c.in-Replace.is)

pub enter-requires-clause-leaf : goal.enter-requires-clause-leaf
enter-requires-clause-leaf g c =
    let w = c.args.writer.now in let there = c.listed_at-there.result in
    let listed = c.listed_at-there.ensures.listed ∙ ap (λ (k : ℕ). map_of (pairs_of (read_words c.place_in-place.new.hand.seat)) k) c.key-key.ensures in
    let effect = ap (λ z. effect_of z there) (sym c.write.ensures) ∙ (ap (λ (z : Decided). z.effect) (sym c.decide.ensures.is) ∙ c.in-Enter.is) in
    entering_none (g.W.Writer.key_of w) (g.W.Writer.write_of w) (g.W.Writer.staged w) c.args.at _ _ _ c.in-Enter.value effect (at_leaf (g.W.Writer.key_of w) (g.W.Writer.staged w) c.args.at _ _ _ _ _ c.word-head.ensures.same c.place_in-place.ensures.same c.listed_at-there.ensures.same c.requires.there listed)

pub split_leaf-requires-clause-leaf : goal.split_leaf-requires-clause-leaf
split_leaf-requires-clause-leaf g c =
    let w = c.args.writer.now in let there = c.listed_at-there.result in
    let listed = c.listed_at-there.ensures.listed ∙ ap (λ (k : ℕ). map_of (pairs_of (read_words c.place_in-place.new.hand.seat)) k) c.key-key.ensures in
    let effect = ap (λ z. effect_of z there) (sym c.write.ensures) ∙ (ap (λ (z : Decided). z.effect) (sym c.decide.ensures.is) ∙ c.in-Enter.is) in
    entering_none (g.W.Writer.key_of w) (g.W.Writer.write_of w) (g.W.Writer.staged w) c.args.at _ _ _ c.in-Enter.value effect (at_leaf (g.W.Writer.key_of w) (g.W.Writer.staged w) c.args.at _ _ _ _ _ c.word-head.ensures.same c.place_in-place.ensures.same c.listed_at-there.ensures.same c.requires.there listed)
