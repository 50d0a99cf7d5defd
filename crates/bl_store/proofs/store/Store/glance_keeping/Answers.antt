use Rattle.std.proofs.Common.{rules, arith, length, ◌≡◌, ℕ, List, ◌∙◌, ap, sym, subst}
use Rattle.bl_layout.specs.declared.layout.Layout.{Layout}
use Rattle.bl_layout.specs.Words.{frame_count}
use Rattle.bl_store_rule.specs.Pages.{GetsAs}
use Rattle.bl_store.specs.Hands.{words_in}
use Rattle.bl_store_rule.specs.declared.view.Reading.TheVariants.{At}
use Rattle.bl_store_rule.proofs.Time.{looks_kept}
use Rattle.bl_store.proofs.Living.{live_hand}
use Rattle.bl_store.proofs.store.Store.glance_keeping.Goals as goal
use Rattle.std.specs.Prelude.{Option, None, Some}
use Rattle.bl_store.specs.declared.store.Glance.{Glance}

abbrev first_of : Option Glance → ℕ
first_of None = 0
first_of (Some glance) = glance.first

pub load-found-requires : goal.load-found-requires
load-found-requires g c = let st = c.args.self.now in let wide = st.wide in let heads = st.heads_at in let own = c.args.hand.now.own in let passes = ap (λ (z : Layout). z.passes) st.key in let spare_of = ap (λ (z : Layout). z.spare) st.key in let pages = ap (λ (z : Layout). z.pages) st.key in (
  search rules,
  omega arith,
  looks_kept _ _ _ g.M.KeepPlay.then _ _ _ _ c.args.page _ (omega arith) (omega arith) (c.requires.own.1 ∙ sym st.key) c.requires.running.1
      (subst (λ (z : Layout × ℕ). GetsAs g.R.PageRule.holds z.0 z.1 c.args.hand.now.seat.me.0.known c.args.page g.M.KeepPlay.then) (λ i. (sym st.key i, own.0 i)) c.requires.rule) (live_hand c.args.hand.now),
)

pub overflow_mul-first : goal.overflow_mul-first
overflow_mul-first g c =
    let l = c.args.hand.now.seat.me.0.layout in let pages = l.pages_within.1 in let passes = l.passes_within.1 in let spare = l.spare_within.1 in let m = c.requires.own.1 in let same = ap (λ (z : Layout). z.passes) m in let spare_of = ap (λ (z : Layout). z.spare) m in let same_pages = ap (λ (z : Layout). z.pages) m in let spare_of = ap (λ (z : Layout). z.spare) m in let e = c.load-found.ensures.2 in let heads = c.args.self.now.heads_at in let t = e.3 c.args.page (omega arith) in
    let f = t.3.1 c.if-found-eq0.false in let low = f.2 in let up = f.1 in let layout = e.0.0 in let count = ap (λ (z : Layout). frame_count z) layout in let at = c.args.self.now.firsts_at in omega arith

pub overflow_add-first : goal.overflow_add-first
overflow_add-first g c =
    let l = c.args.hand.now.seat.me.0.layout in let pages = l.pages_within.1 in let passes = l.passes_within.1 in let spare = l.spare_within.1 in let m = c.requires.own.1 in let same = ap (λ (z : Layout). z.passes) m in let spare_of = ap (λ (z : Layout). z.spare) m in let same_pages = ap (λ (z : Layout). z.pages) m in let spare_of = ap (λ (z : Layout). z.spare) m in let e = c.load-found.ensures.2 in let heads = c.args.self.now.heads_at in let t = e.3 c.args.page (omega arith) in
    let f = t.3.1 c.if-found-eq0.false in let low = f.2 in let up = f.1 in let layout = e.0.0 in let count = ap (λ (z : Layout). frame_count z) layout in let at = c.args.self.now.firsts_at in omega arith

pub returns-then-found-eq0-clause-observed : goal.returns-then-found-eq0-clause-observed
returns-then-found-eq0-clause-observed g c = let same = ap (λ (z : Layout). z.passes) c.requires.own.1 in let spare_of = ap (λ (z : Layout). z.spare) c.requires.own.1 in let heads = c.args.self.now.heads_at in let t = c.load-found.ensures.2.3 c.args.page (omega arith) in
    (t.0, t.1, t.2, t.3.0 c.if-found-eq0.true, t.4, λ glance e. cc)

pub returns-else-found-eq0-clause-observed : goal.returns-else-found-eq0-clause-observed
returns-else-found-eq0-clause-observed g c = let same = ap (λ (z : Layout). z.passes) c.requires.own.1 in let spare_of = ap (λ (z : Layout). z.spare) c.requires.own.1 in let e = c.load-found.ensures.2 in let heads = c.args.self.now.heads_at in let t = e.3 c.args.page (omega arith) in
    let f = t.3.1 c.if-found-eq0.false in let up = f.1 in let xs : words_in c.load-found.new.seat.me.0.reading ≡ t.1 = ap words_in f.4 in
    let layout = e.0.0 ∙ c.requires.own.1 in let passes = ap (λ (z : Layout). z.passes) layout in let spare_of = ap (λ (z : Layout). z.spare) layout in let pages = ap (λ (z : Layout). z.pages) layout in let spare_of = ap (λ (z : Layout). z.spare) layout in let at = c.args.self.now.firsts_at in let old_pages = ap (λ (z : Layout). z.pages) c.requires.own.1 in let old_spare = ap (λ (z : Layout). z.spare) c.requires.own.1 in let old_passes = ap (λ (z : Layout). z.passes) c.requires.own.1 in
    (t.0, t.1, t.2, ((f.0, f.4 ∙ ap (λ (z : List ℕ). At f.0 z) (sym xs), f.2, ap length xs ∙ f.3, omega arith), sym xs), t.4, λ glance e. (f.0, t.5 f.0 f.1, ap (λ (z : Option Glance). first_of z) (sym e) ∙ omega arith))
