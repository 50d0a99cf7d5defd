-- Latches and opens keep the world good.
use Rattle.std.proofs.Common.{None, ℕ, ◌≡◌, ◌≢◌, ◌⊎◌, arith, ap, sym, ◌∙◌, inl, inr}
use Rattle.std.proofs.lemmas.Bool.{cases_eq}
use Rattle.bl_page.specs.Machine.{Name, Owner, Act}
use Rattle.bl_page.specs.Machine.Owner.{Released, Held, Retired}
use Rattle.bl_page.specs.Machine.Act.{Latch}
use Rattle.bl_tree.specs.Trees.Status.{Fresh, Live, Uprooted, Gone, Anchored}
use Rattle.bl_tree_worlds.specs.Worlds.{Know, World, HoldsPage, IsGood, Extends, silent}
use Rattle.bl_tree_worlds.proofs.Ghosts.{Still, still_keeps, held_step}
use Rattle.bl_tree_worlds.proofs.Watches.{Learns, SameGhost, learns_sure, may_say}

-- p latches page x
pub record Latches {P : Type 0} (know : P → Know) (w w' : World P) (p : Name) (x : ℕ) (b : P) : Type 0 where
  pub extends : Extends w w' (silent p (Latch x)) b
  pub ghost : SameGhost w w'
  pub middle : (know b).middle ≡ (know (w.proc p)).middle
  pub here : HoldsPage (know b).holds x
  pub places : (y : ℕ) → HoldsPage (know (w.proc p)).holds y → HoldsPage (know b).holds y
  pub learns : Learns w w' (silent p (Latch x)) (know b)

pub Latches-keeps : {P : Type 0} (know : P → Know) (w w' : World P) (p : Name) (x : ℕ) (b : P) → Latches know w w' p x b → IsGood know w → IsGood know w'
Latches-keeps know w w' p x b s g =
    let change = s.extends.steps.changes in
    let owner = change.1 in
    let was : w.now.owner x ≡ Owner.Open = s.extends.steps.enabled in
    let on = s.extends.steps.on in
    let back : (y : ℕ) → y ≢ x → w'.now.owner y ≡ w.now.owner y = owner.others in
    let not_x : (y : ℕ) (o : Owner) → w'.now.owner y ≡ o → o ≢ Held p → y ≢ x = λ y o h n i. n (sym h ∙ (ap w'.now.owner i ∙ owner.at)) in
    let was_not_x : (y : ℕ) (o : Owner) → w.now.owner y ≡ o → o ≢ Owner.Open → y ≢ x = λ y o h n i. n (sym h ∙ (ap w.now.owner i ∙ was)) in
    let not_gone : w.status x ≢ Gone = λ e. elim (g.owned.opened x was) [ inl o ↦ cc | inr o ↦ cc ] in
    let still : Still know w w' (silent p (Latch x)) b = record {
      extends = s.extends;
      inner = (λ e. cc, λ a e. cc);
      ghosts = record { contents = change.0; status = s.ghost.status; sep = s.ghost.sep; map = s.ghost.map };
      retired = λ y t h. back y (was_not_x y (Retired t) h (λ e. cc)) ∙ h;
      retired_back = λ y t h. sym (back y (not_x y (Retired t) h (λ e. cc))) ∙ h;
      others = λ q y n h. back y (was_not_x y (Held q) h (λ e. cc)) ∙ h;
      middle = s.middle;
      paired = λ a y h d z k l. back z (was_not_x z (Held h.by) k (λ e. cc)) ∙ k;
      dead = λ y q d h. (sym (back y (λ i. not_gone (ap w.status (sym i) ∙ d))) ∙ h, λ e. back _ (was_not_x _ (Held q) e (λ v. cc)) ∙ e);
    } in
    still_keeps know w w' (silent p (Latch x)) b still (may_say know w (silent p (Latch x)) still.inner (λ said h. cc) g) (λ k. ap (λ f. f 0 k) s.ghost.map)
    (record {
      fresh = λ y h.
          let f : w.status y ≡ Fresh = rw s.ghost.status at h in
          inr (
            f,
            λ q e. back y (was_not_x y (Held q) e (λ v. cc)) ∙ e,
            λ e. cc,
            λ e. (
                let i : x ≡ y = cc in
                elim (g.owned.opened x was) [ inl o ↦ (let v : w.status x ≡ Fresh = rw i f in cc) | inr o ↦ (let v : w.status x ≡ Fresh = rw i f in cc) ]),
            λ z c n e o. cc,
          );
      not_taken = λ y h e. cc;
      live = λ y h. inl (
        rw s.ghost.status at h,
        λ q e. elim (cases_eq y x) [
          | inl i ↦ inr (ap Latch (sym i), (let v : Held q ≡ Held p = sym e ∙ (ap w'.now.owner i ∙ owner.at) in cc))
          | inr i ↦ inl (sym (back y i) ∙ e)
        ],
      );
    })
    (record {
      released = λ y h. rw s.ghost.status (g.owned.released y (sym (back y (not_x y Released h (λ e. cc))) ∙ h));
      free = λ y h. let o = g.owned.free y (rw s.ghost.status at h) in back y (was_not_x y Released o (λ e. cc)) ∙ o;
      opened = λ y h. rw s.ghost.status (g.owned.opened y (sym (back y (not_x y Owner.Open h (λ e. cc))) ∙ h));
      retired = λ y t h. let o = g.owned.retired y t (sym (back y (not_x y (Retired t) h (λ e. cc))) ∙ h) in (rw s.ghost.status o.0, omega (arith, o.1));
      held = held_step know w w' (silent p (Latch x)) b s.extends
          (λ y h. elim (cases_eq y x) [ inl i ↦ rw i s.here | inr i ↦ s.places y (g.owned.held y p (sym (back y i) ∙ h)) ])
          (λ y q n h. sym (back y (not_x y (Held q) h (λ e. n cc))) ∙ h) g.owned;
      small = λ y h. rw s.extends.size (g.owned.small y (rw s.ghost.status at h));
      one_anchor = λ y h. g.owned.one_anchor y (rw s.ghost.status at h);
      uprooted = λ y h.
          let k = g.owned.uprooted y (rw s.ghost.status at h) in
          record { by = k.by; held = back y (was_not_x y (Held k.by) k.held (λ e. cc)) ∙ k.held; anchor_held = back 0 (was_not_x 0 (Held k.by) k.anchor_held (λ e. cc)) ∙ k.anchor_held };
    })
    (learns_sure know w w' (silent p (Latch x)) b (know b) still s.learns)
    g

-- p opens page x
pub record Opens {P : Type 0} (know : P → Know) (w w' : World P) (p : Name) (x : ℕ) (b : P) : Type 0 where
  pub extends : Extends w w' (silent p (Act.Open x)) b
  pub ghost : SameGhost w w'
  pub named : (w.status x ≡ Live) ⊎ (w.status x ≡ Anchored)
  -- p opens no page in the middle of a compression
  pub no_middle : (know (w.proc p)).middle ≡ None
  -- a page that p has marked dead it retires before it opens another
  pub no_dead : (y : ℕ) → w.status y ≡ Gone → w.now.owner y ≢ Held p
  -- and a top page that the anchor names no longer it makes dead
  pub no_uprooted : (y : ℕ) → w.status y ≡ Uprooted → w.now.owner y ≢ Held p
  pub middle : (know b).middle ≡ (know (w.proc p)).middle
  pub places : (y : ℕ) → y ≢ x → HoldsPage (know (w.proc p)).holds y → HoldsPage (know b).holds y
  pub learns : Learns w w' (silent p (Act.Open x)) (know b)

pub Opens-keeps : {P : Type 0} (know : P → Know) (w w' : World P) (p : Name) (x : ℕ) (b : P) → Opens know w w' p x b → IsGood know w → IsGood know w'
Opens-keeps know w w' p x b s g =
    let change = s.extends.steps.changes in
    let owner = change.1 in
    let was : w.now.owner x ≡ Held p = s.extends.steps.enabled in
    let on = s.extends.steps.on in
    let back : (y : ℕ) → y ≢ x → w'.now.owner y ≡ w.now.owner y = owner.others in
    let not_x : (y : ℕ) (o : Owner) → w'.now.owner y ≡ o → o ≢ Owner.Open → y ≢ x = λ y o h n i. n (sym h ∙ (ap w'.now.owner i ∙ owner.at)) in
    let was_not_x : (y : ℕ) (o : Owner) → w.now.owner y ≡ o → o ≢ Held p → y ≢ x = λ y o h n i. n (sym h ∙ (ap w.now.owner i ∙ was)) in
    let not_fresh : w.status x ≢ Fresh = λ e. elim s.named [ inl o ↦ cc | inr o ↦ cc ] in
    let not_gone : w.status x ≢ Gone = λ e. elim s.named [ inl o ↦ cc | inr o ↦ cc ] in
    let still : Still know w w' (silent p (Act.Open x)) b = record {
      extends = s.extends;
      inner = (λ e. cc, λ a e. cc);
      ghosts = record { contents = change.0; status = s.ghost.status; sep = s.ghost.sep; map = s.ghost.map };
      retired = λ y t h. back y (was_not_x y (Retired t) h (λ e. cc)) ∙ h;
      retired_back = λ y t h. sym (back y (not_x y (Retired t) h (λ e. cc))) ∙ h;
      others = λ q y n h. back y (was_not_x y (Held q) h (λ e. n cc)) ∙ h;
      middle = s.middle;
      paired = λ a y h d z k l. back z (was_not_x z (Held h.by) k (λ e. (let i : h.by ≡ p = cc in let f : (know (w.proc h.by)).middle ≡ None = rw i s.no_middle in cc (h.is)))) ∙ k;
      dead = λ y q d h.
          let was_held : w.now.owner y ≡ Held q = sym (back y (λ i. not_gone (ap w.status (sym i) ∙ d))) ∙ h in
          (was_held, λ e. back _ (was_not_x _ (Held q) e (λ v. s.no_dead y d (let i : q ≡ p = cc in was_held ∙ ap Held i))) ∙ e);
    } in
    still_keeps know w w' (silent p (Act.Open x)) b still (may_say know w (silent p (Act.Open x)) still.inner (λ said h. cc) g) (λ k. ap (λ f. f 0 k) s.ghost.map)
    (record {
      fresh = λ y h.
          let f : w.status y ≡ Fresh = rw s.ghost.status at h in
          inr (f, λ q e. back y (λ i. not_fresh (ap w.status (sym i) ∙ f)) ∙ e, λ e. cc, λ e. cc, λ z c n e o. cc);
      not_taken = λ y h e. cc;
      live = λ y h. inl (rw s.ghost.status at h, λ q e. inl (sym (back y (not_x y (Held q) e (λ v. cc))) ∙ e));
    })
    (record {
      released = λ y h. rw s.ghost.status (g.owned.released y (sym (back y (not_x y Released h (λ e. cc))) ∙ h));
      free = λ y h. let o = g.owned.free y (rw s.ghost.status at h) in back y (was_not_x y Released o (λ e. cc)) ∙ o;
      opened = λ y h. rw s.ghost.status (elim (cases_eq y x) [
        | inl i ↦ rw i s.named
        | inr i ↦ g.owned.opened y (sym (back y i) ∙ h)
      ]);
      retired = λ y t h. let o = g.owned.retired y t (sym (back y (not_x y (Retired t) h (λ e. cc))) ∙ h) in (rw s.ghost.status o.0, omega (arith, o.1));
      held = held_step know w w' (silent p (Act.Open x)) b s.extends
          (λ y h. let n = not_x y (Held p) h (λ e. cc) in s.places y n (g.owned.held y p (sym (back y n) ∙ h)))
          (λ y q n h. sym (back y (not_x y (Held q) h (λ e. cc))) ∙ h) g.owned;
      small = λ y h. rw s.extends.size (g.owned.small y (rw s.ghost.status at h));
      one_anchor = λ y h. g.owned.one_anchor y (rw s.ghost.status at h);
      uprooted = λ y h.
          let o : w.status y ≡ Uprooted = rw s.ghost.status at h in
          let k = g.owned.uprooted y o in
          let other : k.by ≢ p = λ i. s.no_uprooted y o (k.held ∙ ap Held i) in
          record { by = k.by; held = back y (was_not_x y (Held k.by) k.held (λ e. other cc)) ∙ k.held; anchor_held = back 0 (was_not_x 0 (Held k.by) k.anchor_held (λ e. other cc)) ∙ k.anchor_held };
    })
    (learns_sure know w w' (silent p (Act.Open x)) b (know b) still s.learns)
    g
