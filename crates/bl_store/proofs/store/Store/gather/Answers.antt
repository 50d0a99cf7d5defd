use Rattle.std.proofs.Common.{rules, arith, ◌∙◌, ap, sym, get_or-set_other, ext_get_or, length-set}
use mathlib.Core.Logic.{dite}
use native.Mathlib.Decide.{ℕ_discrete}
use Rattle.std.proofs.lemmas.Grind.{get_or-set_at}
use Rattle.atomic_table.specs.Table.{Me}
use Rattle.bl_layout.specs.declared.layout.Layout.{Layout}
use Rattle.bl_store_rule.specs.declared.view.View.{View}
use Rattle.bl_store_rule.proofs.Time.{copies}
use Rattle.bl_store.proofs.Living.{live_hand}
use Rattle.bl_store.proofs.store.Store.gather.Goals as goal

pub load-requires : goal.load-requires
load-requires g c = let st = c.args.self.now in let wide = st.wide in let inv = c.loop-i.invariant in let passes = ap (λ (z : Layout). z.passes) st.key in let spare_of = ap (λ (z : Layout). z.spare) st.key in let pages = ap (λ (z : Layout). z.pages) st.key in let spare_of = ap (λ (z : Layout). z.spare) st.key in
    let reading = ap (λ (m : Me (Unit {0}) (View g.row.D.Denot)). m.0.reading) inv.me in let layout = ap (λ (m : Me (Unit {0}) (View g.row.D.Denot)). m.0.layout) inv.me in
    (search rules, omega arith, copies _ _ _ _ _ _ c.args.frame c.loop-i.i _ c.requires.reads.0 (omega arith) (reading ∙ c.requires.reads.2) (layout ∙ (c.requires.own.1 ∙ sym st.key)) (omega arith) (live_hand c.loop-i.hand))

pub loop-i-preserved : goal.loop-i-preserved
loop-i-preserved g c = let inv = c.loop-i.invariant in let long = inv.long in
    let reading = ap (λ (m : Me (Unit {0}) (View g.row.D.Denot)). m.0.reading) inv.me in let layout = ap (λ (m : Me (Unit {0}) (View g.row.D.Denot)). m.0.layout) inv.me in
    let passes = ap (λ (z : Layout). z.passes) (layout ∙ c.requires.own.1) in let spare_of = ap (λ (z : Layout). z.spare) (layout ∙ c.requires.own.1) in let pages = ap (λ (z : Layout). z.pages) (layout ∙ c.requires.own.1) in let spare_of = ap (λ (z : Layout). z.spare) (layout ∙ c.requires.own.1) in record {
      table = search rules;
      me = c.load.ensures.2.0 ∙ inv.me;
      long = length-set c.loop-i.words c.loop-i.i c.load.result ∙ inv.long;
      read = λ xs reads k low. dite (ℕ_discrete k c.loop-i.i)
          (λ e. get_or-set_at c.loop-i.words c.loop-i.i k c.load.result 0 e (omega arith) ∙ c.load.ensures.2.1 c.args.frame xs k (reading ∙ reads) (omega arith) (omega arith))
          (λ ne. get_or-set_other c.loop-i.words c.loop-i.i k c.load.result 0 ne ∙ inv.read xs reads k (omega arith));
    }

pub returns-clause-words : goal.returns-clause-words
returns-clause-words g c = λ xs long reads. let size = c.loop-i.invariant.long in ext_get_or 0 c.loop-i.words xs (size ∙ sym long) (λ k low. c.loop-i.invariant.read xs reads k (omega arith))
