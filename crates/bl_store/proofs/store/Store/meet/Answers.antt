use Rattle.std.proofs.Common.{rules, arith, ◌≡◌, ℕ, sym, ap, ◌∙◌, subst}
use Rattle.atomic_table.specs.Table.{Me}
use Rattle.bl_layout.specs.declared.layout.Layout.{Layout}
use Rattle.bl_store_rule.specs.Pages.{Meets}
use Rattle.bl_store_rule.specs.Frames.{joined, taking_in}
use Rattle.atomic_table.specs.declared.shared.Seat.{Seat}
use Rattle.bl_store_rule.specs.declared.view.View.{View}
use Rattle.bl_store_rule.specs.declared.view.Joined.{Joined}
use Rattle.bl_store_rule.proofs.Joining.{blanks, takes_in, meets, gives_back}
use Rattle.bl_store.proofs.Living.{live_on}
use Rattle.bl_store.proofs.store.Store.meet.Goals as goal

pub split_seat-blank-requires : goal.split_seat-blank-requires
split_seat-blank-requires g c = let wide = c.args.self.now.wide in (search rules, omega arith, blanks _ _ _ _ _)

pub join_seat-requires : goal.join_seat-requires
join_seat-requires g c = let wide = c.args.self.now.wide in let cut = c.split_seat-blank.ensures in let theirs : c.replace-theirs.result ≡ c.args.other.now.seat = c.replace-theirs.ensures.value in let me : c.split_seat-blank.new.seat.me ≡ c.args.hand.now.seat.me = cut.2 in (
  search rules,
  ap (λ (z : Seat (Unit {0}) (View g.row.D.Denot)). z.table_id) theirs ∙ c.requires.own.1.0,
  ap (λ (z : Seat (Unit {0}) (View g.row.D.Denot)). z.me.1) theirs ∙ c.args.other.now.own.3,
  omega arith,
  takes_in _ _ _ g.R.PageRule.gone _ _ c.split_seat-blank.new.seat.me.0 c.replace-theirs.result.me.0
      (live_on c.args.hand.now c.split_seat-blank.new.seat.me (ap (λ (m : Me (Unit {0}) (View g.row.D.Denot)). m.0.layout) me) (ap (λ (m : Me (Unit {0}) (View g.row.D.Denot)). m.0.number) me))
      (live_on c.args.other.now c.replace-theirs.result.me (ap (λ (z : Seat (Unit {0}) (View g.row.D.Denot)). z.me.0.layout) theirs) (ap (λ (z : Seat (Unit {0}) (View g.row.D.Denot)). z.me.0.number) theirs))
      (ap (λ (z : Seat (Unit {0}) (View g.row.D.Denot)). z.me.0.stamp) theirs ∙ c.requires.other.0) (ap (λ (z : Seat (Unit {0}) (View g.row.D.Denot)). z.me.0.sealing) theirs ∙ c.args.other.now.own.2),
)

pub load-requires : goal.load-requires
load-requires g c = let st = c.args.self.now in let wide = st.wide in let cut = c.split_seat-blank.ensures in let both = c.join_seat.ensures.2 in let theirs : c.replace-theirs.result ≡ c.args.other.now.seat = c.replace-theirs.ensures.value in let me : c.split_seat-blank.new.seat.me ≡ c.args.hand.now.seat.me = cut.2 in
    let view : c.join_seat.new.seat.me.0 ≡ taking_in c.args.hand.now.seat.me.0 c.args.other.now.seat.me.0 = ap (λ (m : Me (Unit {0}) (View g.row.D.Denot)). m.0) both ∙ (λ i. taking_in ((me i).0) ((theirs i).me.0)) in
    let j : Joined g.row.D.Denot = joined c.args.other.now.seat.me.0.number c.args.other.now.seat.me.0.known in (
      search rules,
      omega arith,
      meets _ _ _ g.M.MeetPlay.then _ _ _ _ j _ (ap (λ (v : View g.row.D.Denot). v.joined) view) (live_on c.args.hand.now c.join_seat.new.seat.me (ap (λ (v : View g.row.D.Denot). v.layout) view) (ap (λ (v : View g.row.D.Denot). v.number) view))
          (subst (λ (z : Layout × ℕ × g.row.D.Denot × ℕ). Meets g.R.PageRule.holds z.0 z.1 z.2 z.3 c.args.other.now.seat.me.0.known g.M.MeetPlay.then)
          (λ i. (sym st.key i, (c.args.hand.now.own.0 ∙ ap (λ (v : View g.row.D.Denot). v.number) (sym view)) i, sym (ap (λ (v : View g.row.D.Denot). v.known) view) i, c.args.other.now.own.0 i)) c.requires.rule),
    )

pub split_seat-requires : goal.split_seat-requires
split_seat-requires g c = let st = c.args.self.now in let wide = st.wide in let cut = c.split_seat-blank.ensures in let both = c.join_seat.ensures.2 in let theirs : c.replace-theirs.result ≡ c.args.other.now.seat = c.replace-theirs.ensures.value in let me : c.split_seat-blank.new.seat.me ≡ c.args.hand.now.seat.me = cut.2 in
    let view : c.join_seat.new.seat.me.0 ≡ taking_in c.args.hand.now.seat.me.0 c.args.other.now.seat.me.0 = ap (λ (m : Me (Unit {0}) (View g.row.D.Denot)). m.0) both ∙ (λ i. taking_in ((me i).0) ((theirs i).me.0)) in
    let e = c.load.ensures.2 in let j : Joined g.row.D.Denot = joined c.args.other.now.seat.me.0.number c.args.other.now.seat.me.0.known in let layout = e.0.0 ∙ ap (λ (v : View g.row.D.Denot). v.layout) view in (
      search rules,
      omega arith,
      gives_back _ _ _ _ _ j c.args.hand.now.seat.me.0.joined (live_on c.args.hand.now c.load.new.seat.me layout (e.0.1 ∙ ap (λ (v : View g.row.D.Denot). v.number) view)) (layout ∙ (c.requires.own.0.1 ∙ sym st.key)) (e.3 ∙ ap (λ (v : View g.row.D.Denot). v.joined) view),
    )

pub returns-clause-observed : goal.returns-clause-observed
returns-clause-observed g c = let both = c.join_seat.ensures.2 in let theirs : c.replace-theirs.result ≡ c.args.other.now.seat = c.replace-theirs.ensures.value in let me : c.split_seat-blank.new.seat.me ≡ c.args.hand.now.seat.me = c.split_seat-blank.ensures.2 in
    let view : c.join_seat.new.seat.me.0 ≡ taking_in c.args.hand.now.seat.me.0 c.args.other.now.seat.me.0 = ap (λ (m : Me (Unit {0}) (View g.row.D.Denot)). m.0) both ∙ (λ i. taking_in ((me i).0) ((theirs i).me.0)) in
    let j : Joined g.row.D.Denot = joined c.args.other.now.seat.me.0.number c.args.other.now.seat.me.0.known in let t = c.load.ensures.2.4 j c.args.hand.now.seat.me.0.joined (ap (λ (v : View g.row.D.Denot). v.joined) view) in
    let after : c.split_seat.new.seat.me.0.known ≡ c.load.new.seat.me.0.known = ap (λ (m : Me (Unit {0}) (View g.row.D.Denot)). m.0.known) c.split_seat.ensures.2 in
    subst (λ (z : g.row.D.Denot × g.row.D.Denot). g.M.MeetPlay.then z.0 c.args.other.now.seat.me.0.known z.1) (λ i. (ap (λ (v : View g.row.D.Denot). v.known) view i, sym after i)) t
