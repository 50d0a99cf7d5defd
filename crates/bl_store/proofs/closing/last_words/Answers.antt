use Rattle.std.proofs.Common.{arith, ℕ, ◌≡◌, ◌%◌, List, ap, sym, ◌∙◌, inl, inr, ⊎_elim, get_or, length-set, refl}
use Rattle.std.specs.Slots.{slots_items}
use Rattle.bl_store_rule.specs.Frames.{page_at, owner_at}
use Rattle.bl_store.specs.Closing.{IsGone}
use Rattle.bl_store.proofs.Ending.{word_on}
use Rattle.bl_store_rule.proofs.Lists.{index_of}
use Rattle.bl_store.proofs.closing.last_words.Goals as goal
use Rattle.bl_store.proofs.closing.last_words.Goals.{then-owner-eq0-via-then-owner-eq0, then-owner-eq0-via-else-owner-eq0+then-owner-eq3, then-owner-eq0-via-else-owner-eq0+else-owner-eq3+then-found-eq0}

pub returns-then-owner-eq0-clause-here : goal.returns-then-owner-eq0-clause-here
returns-then-owner-eq0-clause-here g c = λ not. let ws : List ℕ = slots_items c.args.closed.now.words in let at_owner = c.page_owner_cell.ensures.cell in let at_page = c.page_cell.ensures.cell in
    let owner : get_or ws (owner_at c.args.layout c.args.page) 0 ≡ c.word-owner.result = ap (λ (z : ℕ). get_or ws z 0) (sym at_owner) ∙ index_of ws c.page_owner_cell.result 0 c.word-owner.result c.word-owner.ensures in
    let found : get_or ws (page_at c.args.layout c.args.page) 0 ≡ c.word-found.result = ap (λ (z : ℕ). get_or ws z 0) (sym at_page) ∙ index_of ws c.page_cell.result 0 c.word-found.result c.word-found.ensures in
    let gone : IsGone ws c.args.layout c.args.page = elim c.then-owner-eq0.branch [
      | then-owner-eq0-via-then-owner-eq0 w ↦ inl (owner ∙ w.if-owner-eq0.true)
      | then-owner-eq0-via-else-owner-eq0+then-owner-eq3 w ↦ inr (inl (ap (λ (z : ℕ). z % 4) owner ∙ w.if-owner-eq3.true))
      | then-owner-eq0-via-else-owner-eq0+else-owner-eq3+then-found-eq0 w ↦ inr (inr (found ∙ w.if-found-eq0.true))
    ] in absurd (not gone)

pub overflow_cast-found : goal.overflow_cast-found
overflow_cast-found g c = let ws : List ℕ = slots_items c.args.closed.now.words in let at_page = c.page_cell.ensures.cell in let found : get_or ws (page_at c.args.layout c.args.page) 0 ≡ c.word-found.result = ap (λ (z : ℕ). get_or ws z 0) (sym at_page) ∙ index_of ws c.page_cell.result 0 c.word-found.result c.word-found.ensures in
    let low = c.requires.frame in let pages = c.args.layout.pages_within.1 in let passes = c.args.layout.passes_within.1 in let spare = c.args.layout.spare_within.1 in record { fits = omega arith }

pub frame_word_cell-first-requires-clause-frame : goal.frame_word_cell-first-requires-clause-frame
frame_word_cell-first-requires-clause-frame g c = let ws : List ℕ = slots_items c.args.closed.now.words in let at_page = c.page_cell.ensures.cell in let found : get_or ws (page_at c.args.layout c.args.page) 0 ≡ c.word-found.result = ap (λ (z : ℕ). get_or ws z 0) (sym at_page) ∙ index_of ws c.page_cell.result 0 c.word-found.result c.word-found.ensures in
    let low = c.requires.frame in let some_frame = c.if-found-eq0.false in omega arith

pub loop-place-preserved : goal.loop-place-preserved
loop-place-preserved g c = let inv = c.loop-place.invariant in let auto = c.loop-place.auto in let on = c.loop-place-test.true in record {
  long = length-set c.loop-place.words c.loop-place.place c.word.result ∙ inv.long;
  here = word_on (slots_items c.args.closed.now.words) c.loop-place.words c.frame_word_cell-first.result c.loop-place.place _ c.word.result inv.long (omega arith) refl c.word.ensures inv.here;
}

pub returns-clause-gone : goal.returns-clause-gone
returns-clause-gone g c = λ gone. let ws : List ℕ = slots_items c.args.closed.now.words in let at_owner = c.page_owner_cell.ensures.cell in let at_page = c.page_cell.ensures.cell in
    let owner : get_or ws (owner_at c.args.layout c.args.page) 0 ≡ c.word-owner.result = ap (λ (z : ℕ). get_or ws z 0) (sym at_owner) ∙ index_of ws c.page_owner_cell.result 0 c.word-owner.result c.word-owner.ensures in
    let found : get_or ws (page_at c.args.layout c.args.page) 0 ≡ c.word-found.result = ap (λ (z : ℕ). get_or ws z 0) (sym at_page) ∙ index_of ws c.page_cell.result 0 c.word-found.result c.word-found.ensures in
    absurd (⊎_elim (λ e. c.if-owner-eq0.false (sym owner ∙ e)) (⊎_elim (λ e. c.if-owner-eq3.false (ap (λ (z : ℕ). z % 4) (sym owner) ∙ e)) (λ e. c.if-found-eq0.false (sym found ∙ e))) gone)

pub returns-clause-here : goal.returns-clause-here
returns-clause-here g c = λ not k low. let ws : List ℕ = slots_items c.args.closed.now.words in let at_page = c.page_cell.ensures.cell in let first = c.frame_word_cell-first.ensures.cell in let inv = c.loop-place.invariant in let auto = c.loop-place.auto in let over = c.loop-place-test.false in
    let found : get_or ws (page_at c.args.layout c.args.page) 0 ≡ c.word-found.result = ap (λ (z : ℕ). get_or ws z 0) (sym at_page) ∙ index_of ws c.page_cell.result 0 c.word-found.result c.word-found.ensures in
    inv.here k (omega arith) ∙ ap (λ (z : ℕ). get_or ws z 0) (omega arith)

-- each of the 32 words of the frame is in the table
pub word-requires : goal.word-requires
word-requires g c = let ws : List ℕ = slots_items c.args.closed.now.words in let at_page = c.page_cell.ensures.cell in let found : get_or ws (page_at c.args.layout c.args.page) 0 ≡ c.word-found.result = ap (λ (z : ℕ). get_or ws z 0) (sym at_page) ∙ index_of ws c.page_cell.result 0 c.word-found.result c.word-found.ensures in
    let low = c.requires.frame in let some_frame = c.if-found-eq0.false in let first = c.frame_word_cell-first.ensures.cell in let here = c.loop-place-test.true in let wide = c.requires.full.1 in (omega arith, c.requires.full.0)
