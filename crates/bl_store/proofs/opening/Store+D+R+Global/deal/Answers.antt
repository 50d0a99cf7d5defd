use Rattle.std.proofs.Common.{rules, arith, ◌≡◌, ℕ, ◌+◌, ◌-◌, [], sym, ap, subst, ◌∙◌}
use Rattle.atomic_table.specs.Table.{Me, Splits}
use Rattle.atomic_table.specs.declared.shared.Seat.{Seat}
use Rattle.bl_layout.specs.declared.layout.Layout.{Layout}
use Rattle.bl_store_rule.specs.Frames.{Kept, share, own_share, next_share}
use Rattle.bl_store_rule.specs.declared.view.View.{View}
use Rattle.bl_store.proofs.Dealing.{deals, dealt_on}
use Rattle.bl_store.proofs.opening.Store+D+R+Global.deal.Goals as goal

pub split_seat-rest-requires : goal.split_seat-rest-requires
split_seat-rest-requires g c = let st = c.args.self.now in let wide = st.wide in let inv = c.loop-number.invariant in let low = c.loop-number.auto in let view = ap (λ (m : Me (Unit {0}) (View g.row.D.Denot)). m.0) inv.view in let passes = ap (λ (z : Layout). z.passes) st.key in (
  search rules,
  omega arith,
  subst (λ (z : Layout × View g.row.D.Denot). Splits (Kept {S = Unit {0}} z.0 c.args.self.now.table.shared.key.known.value g.R.PageRule.holds) c.loop-number.seat.id z.1 (own_share z.1) (next_share z.1)) (λ i. (sym st.key i, sym view i))
      (deals st.layout c.args.self.now.table.shared.key.known.value g.R.PageRule.holds c.loop-number.seat.id (c.loop-number.number - 1) st.layout.passes (omega arith) (omega arith)),
)

pub loop-number-preserved : goal.loop-number-preserved
loop-number-preserved g c = let inv = c.loop-number.invariant in let low = c.loop-number.auto.number in let l : Layout = c.args.self.now.layout in let first : g.row.D.Denot = c.args.self.now.table.shared.key.known.value in let n : ℕ = c.loop-number.number - 1 in
    let view = ap (λ (m : Me (Unit {0}) (View g.row.D.Denot)). m.0) inv.view in let cut = c.split_seat-rest.ensures in let seat : c.of.result.seat ≡ c.split_seat-rest.new.seat = c.of.ensures.1 ∙ c.replace-mine.ensures.value in let rest = c.replace-mine.ensures.after in
    let up : c.loop-number.number + 1 - 1 ≡ n + 1 = omega arith in record {
      dealt = dealt_on c.args.self.now.table.shared.table_id l first n (c.loop-number.number + 1 - 1) c.loop-number.hands.items c.push.new.self.items c.of.result c.in_ok-push.ensures.items up c.of.ensures.0
          (ap (λ (z : Seat (Unit {0}) (View g.row.D.Denot)). z.table_id) seat ∙ (cut.0 ∙ inv.table))
          (ap (λ (z : Seat (Unit {0}) (View g.row.D.Denot)). z.me.0) seat ∙ (ap (λ (m : Me (Unit {0}) (View g.row.D.Denot)). m.0) cut.2 ∙ ap (λ (z : View g.row.D.Denot). own_share z) view)) inv.dealt;
      table = ap (λ (z : Seat (Unit {0}) (View g.row.D.Denot)). z.table_id) rest ∙ (cut.3 ∙ inv.table);
      view = ap (λ (z : Seat (Unit {0}) (View g.row.D.Denot)). z.me) rest ∙ (cut.4 ∙ (λ i. (next_share (view i), [])) ∙ ap (λ (z : ℕ). (share l first z l.passes, [])) (sym up));
    }

pub returns : goal.returns
returns g c = let inv = c.loop-number.invariant in let low = c.loop-number.auto.number in let st = c.args.self.now in let l : Layout = st.layout in let first : g.row.D.Denot = c.args.self.now.table.shared.key.known.value in let some_pass = l.passes_within.0 in let high = c.loop-number.auto.number-end in
    let over = c.loop-number-test.false in let n : ℕ = c.loop-number.number - 1 in let all : c.loop-number.number ≡ l.passes = omega arith in let up : l.passes ≡ n + 1 = omega arith in let view = ap (λ (m : Me (Unit {0}) (View g.row.D.Denot)). m.0) inv.view in
    let seat = c.of-2.ensures.1 in
    dealt_on st.table.shared.table_id l first n l.passes c.loop-number.hands.items c.push-2.new.self.items c.of-2.result c.in_ok-push-2.ensures.items up (c.of-2.ensures.0 ∙ ap (λ (z : ℕ). z - 1) (sym all))
    (ap (λ (z : Seat (Unit {0}) (View g.row.D.Denot)). z.table_id) seat ∙ inv.table)
    (ap (λ (z : Seat (Unit {0}) (View g.row.D.Denot)). z.me.0) seat ∙ (view ∙ ap (λ (z : ℕ). share l first n z) up)) inv.dealt
