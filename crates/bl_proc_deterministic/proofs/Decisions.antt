-- What is done with two children that are held and were got: there is one thing to do.
use Rattle.std.proofs.Common.{ℕ, ◌≡◌, ◌≢◌, ◌<◌, ◌≤◌, length, Option, Some, None, refl, sym, ap, ◌∙◌, subst, inl, inr, arith}
use Rattle.std.specs.Prelude.{◌⊎◌}
use Rattle.std.proofs.lemmas.Bool.{cases_lt, cases_eq}
use Rattle.bl_page.specs.declared.page.Page.{Page}
use Rattle.bl_page.specs.declared.page.Page.TheVariants.{Inner as InnerPage}
use Rattle.bl_rearrange.specs.declared.sides.Side.TheVariants as side
use Rattle.bl_rearrange.specs.declared.sides.Evened.{Evened}
use Rattle.bl_rearrange.specs.Neighbours.{AreNeighbours, together, IsEvened}
use Rattle.bl_rearrange.specs.Rearranged.{pairs_of, high_of, right_of}
use Rattle.bl_answers.specs.declared.answers.Hint.TheVariants as hint
use Rattle.bl_rearrange.specs.declared.families.Siblings.{Siblings}
use Rattle.bl_rearrange.specs.declared.families.Family.{Family}
use Rattle.bl_proc_compress.specs.declared.compression.Puts.{Puts}
use Rattle.bl_proc_compress.specs.declared.compression.Decision.{Decision}
use Rattle.bl_proc_compress.specs.declared.compression.Decision.TheVariants.{Merged, Evened as EvenedOut, Enough, Unposted, Lost}
use Rattle.bl_proc_compress.specs.declared.compression.Compression.{Compression}
use Rattle.bl_proc_compress.specs.declared.compression.Compression.TheVariants.{LatchingRight, PuttingFirst, OpeningRight, OpeningLeft}
use Rattle.bl_proc_compress.specs.Compressions.{merge_hint, Merges, Relists, IsFew, MayEven, Evens, Decides, Links}
use Rattle.bl_proc_deterministic.specs.One.{One}
use Rattle.bl_proc_deterministic.proofs.Pages.{without_one, without_some}
use Rattle.bl_proc_deterministic.proofs.Neighbours.{neighbours_or, merged_one, merged_some, buried_one, buried_some, evened_one, evened_some}
use Rattle.bl_proc_deterministic.proofs.Relistings.{relist_one, relist_apart, relist_some}

puts_same : (p q : Puts) → p.at ≡ q.at → p.gains ≡ q.gains → p.left ≡ q.left → p.parent ≡ q.parent → p.right ≡ q.right → p.decision ≡ q.decision → p ≡ q
puts_same p q at gains left parent right decision = λ i. record { at = at i; gains = gains i; left = left i; parent = parent i; right = right i; decision = decision i }

few_or : (c d : Page) → (IsFew c ⊎ IsFew d) ⊎ ((¬ IsFew c) × (¬ IsFew d))
few_or c d = elim (cases_lt (length (pairs_of c)) 7) [
  | inl few ↦ inl (inl few)
  | inr many ↦ elim (cases_lt (length (pairs_of d)) 7) [
    | inl few ↦ inl (inr few)
    | inr also ↦ inr (λ few. omega arith, λ few. omega arith)
  ]
]

-- At the left child.
module _ (f : Family) (c : Page) where
  links_by : (Goal : Compression → Type 0) → ((g : Family) (page : Page) → g ≡ f → page ≡ c → right_of c ≡ f.at.right → Goal (LatchingRight g page)) → ((at : Siblings) (decision : Decision) → at ≡ f.at → right_of c ≢ f.at.right → decision ≡ Unposted (hint.Post f.parent.level (high_of c)) → Goal (OpeningLeft at decision)) → (other : Compression) → Links f c other → Goal other
  links_by Goal right left (LatchingRight g page) t = right g page t.0 t.1 t.2
  links_by Goal right left (OpeningLeft at decision) t = left at decision t.0 t.1 t.2
  links_by old right left what t = absurd t

  pub link_one : One (Links f c)
  link_one = elim (cases_eq (right_of c) f.at.right) [
    | inl is ↦ record {
      new = LatchingRight f c;
      goes = (refl, refl, is);
      only = links_by (λ z. z ≡ LatchingRight f c) (λ g page a b h. λ i. LatchingRight (a i) (b i)) (λ at decision a differ h. absurd (differ is));
    }
    | inr differ ↦ record {
      new = OpeningLeft f.at (Unposted (hint.Post f.parent.level (high_of c)));
      goes = (refl, differ, refl);
      only = links_by (λ z. z ≡ OpeningLeft f.at (Unposted (hint.Post f.parent.level (high_of c)))) (λ g page a b is. absurd (differ is)) (λ at decision a h b. λ i. OpeningLeft (a i) (b i));
    }
  ]

-- At the right child.
module _ (f : Family) (c d : Page) where
  merges_one : (p q : Puts) → Merges f c d p → Merges f c d q → p ≡ q
  merges_one p q a b =
      let left = merged_one c d p.left q.left a.left b.left in
      let parent = without_one (InnerPage f.parent) f.key p.parent q.parent a.parent b.parent in
      let right = buried_one f.at.left d p.right q.right a.right b.right in
      let hint_one : Merged (merge_hint f.parent.level p.parent p.left) ≡ Merged (merge_hint f.parent.level q.parent q.left) = λ i. Merged (merge_hint f.parent.level (parent i) (left i)) in
      puts_same p q (a.at ∙ sym b.at) (a.gains ∙ sym b.gains) left parent right (a.decision ∙ (hint_one ∙ sym b.decision))

  abbrev evened_of : (p : Puts) → Evens f c d p → Evened
  evened_of p v = record { left = p.left; right = p.right; separator = v.separator; gains = p.gains }

  evens_one : (p q : Puts) → Evens f c d p → Evens f c d q → p ≡ q
  evens_one p q a b =
      let is = evened_one c d (evened_of p a) (evened_of q b) a.evened b.evened in
      let key : a.separator ≡ b.separator = ap (λ (z : Evened). z.separator) is in
      let left : p.left ≡ q.left = ap (λ (z : Evened). z.left) is in
      let right : p.right ≡ q.right = ap (λ (z : Evened). z.right) is in
      let gains : p.gains ≡ q.gains = ap (λ (z : Evened). z.gains) is in
      let parent = relist_one f.parent f.key a.separator f.at.right p.parent q.parent a.parent (subst (λ (z : ℕ). Relists f.parent f.key z f.at.right (Some q.parent)) (sym key) b.parent) in
      puts_same p q (a.at ∙ sym b.at) gains left parent right (a.decision ∙ sym b.decision)

  -- what the parent cannot do with the evened children
  abbrev IsUnlisted : Type 0
  IsUnlisted = (e : Evened) × IsEvened c d e × Relists f.parent f.key e.separator f.at.right None

  evens_apart : (p : Puts) → Evens f c d p → IsUnlisted → ⊥
  evens_apart p v u =
      let key : v.separator ≡ u.0.separator = ap (λ (z : Evened). z.separator) (evened_one c d (evened_of p v) u.0 v.evened u.1) in
      relist_apart f.parent f.key v.separator f.at.right p.parent v.parent (subst (λ (z : ℕ). Relists f.parent f.key z f.at.right None) (sym key) u.2)

  decides_by : (Goal : Compression → Type 0) → ((p : Puts) → AreNeighbours c d → Merges f c d p → Goal (PuttingFirst p)) → ((p : Puts) → Evens f c d p → Goal (PuttingFirst p)) → ((at : Siblings) → at ≡ f.at → AreNeighbours c d → 14 < together c d → ¬ IsFew c → ¬ IsFew d → Goal (OpeningRight at Enough)) → ((at : Siblings) → at ≡ f.at → ¬ AreNeighbours c d → Goal (OpeningRight at Lost)) → ((at : Siblings) → at ≡ f.at → MayEven c d → IsUnlisted → Goal (OpeningRight at Lost)) → (other : Compression) → Decides f c d other → Goal other
  decides_by Goal merge even enough apart unlisted (PuttingFirst p) t = elim t [ inl s ↦ merge p s.0 s.1 | inr v ↦ even p v ]
  decides_by Goal merge even enough apart unlisted (OpeningRight at Enough) t = enough at t.0 t.1 t.2 t.3 t.4
  decides_by Goal merge even enough apart unlisted (OpeningRight at Lost) t = elim t.1 [ inl differ ↦ apart at t.0 differ | inr u ↦ unlisted at t.0 u.0 u.1 ]
  decides_by old merge even enough apart unlisted what t = absurd t

  both_few : IsFew c ⊎ IsFew d → ¬ IsFew c → ¬ IsFew d → ⊥
  both_few few left right = elim few [ inl l ↦ left l | inr r ↦ right r ]

  decide_apart : ¬ AreNeighbours c d → One (Decides f c d)
  decide_apart differ = record {
    new = OpeningRight f.at Lost;
    goes = (refl, inl differ);
    only = decides_by (λ z. z ≡ OpeningRight f.at Lost)
        (λ p n m. absurd (differ n))
        (λ p v. absurd (differ v.may.neighbours))
        (λ at a n past left right. absurd (differ n))
        (λ at a n. ap (λ (z : Siblings). OpeningRight z Lost) a)
        (λ at a may u. ap (λ (z : Siblings). OpeningRight z Lost) a);
  }

  decide_merge : AreNeighbours c d → together c d ≤ 14 → One (Decides f c d)
  decide_merge n fit =
      let left = merged_some c d n fit in
      let parent = without_some (InnerPage f.parent) f.key f.covers (λ e. (let above = f.above in omega arith)) in
      let right = buried_some f.at.left d f.left_child in
      let p : Puts = record { at = f.at; gains = side.Left; left = left.0; parent = parent.0; right = right.0; decision = Merged (merge_hint f.parent.level parent.0 left.0) } in
      let m : Merges f c d p = record { at = refl; gains = refl; left = left.1; parent = parent.1; right = right.1; decision = refl } in
      record {
        new = PuttingFirst p;
        goes = inl (n, m);
        only = decides_by (λ z. z ≡ PuttingFirst p)
            (λ q also s. ap PuttingFirst (merges_one q p s m))
            (λ q v. absurd (let past = v.may.past in omega arith))
            (λ at a also past left_many right_many. absurd (omega arith))
            (λ at a differ. absurd (differ n))
            (λ at a may u. absurd (let past = may.past in omega arith));
      }

  decide_even : MayEven c d → (p : Puts) → Evens f c d p → One (Decides f c d)
  decide_even may p v = record {
    new = PuttingFirst p;
    goes = inr v;
    only = decides_by (λ z. z ≡ PuttingFirst p)
        (λ q n m. absurd (let fit = m.left.0 in let past = may.past in omega arith))
        (λ q u. ap PuttingFirst (evens_one q p u v))
        (λ at a n past left right. absurd (both_few may.few left right))
        (λ at a differ. absurd (differ may.neighbours))
        (λ at a also u. absurd (evens_apart p v u));
  }

  decide_lost : MayEven c d → IsUnlisted → One (Decides f c d)
  decide_lost may u = record {
    new = OpeningRight f.at Lost;
    goes = (refl, inr (may, u));
    only = decides_by (λ z. z ≡ OpeningRight f.at Lost)
        (λ q n m. absurd (let fit = m.left.0 in let past = may.past in omega arith))
        (λ q v. absurd (evens_apart q v u))
        (λ at a n past left right. absurd (both_few may.few left right))
        (λ at a differ. ap (λ (z : Siblings). OpeningRight z Lost) a)
        (λ at a also w. ap (λ (z : Siblings). OpeningRight z Lost) a);
  }

  decide_enough : AreNeighbours c d → 14 < together c d → ¬ IsFew c → ¬ IsFew d → One (Decides f c d)
  decide_enough n past left right = record {
    new = OpeningRight f.at Enough;
    goes = (refl, n, past, left, right);
    only = decides_by (λ z. z ≡ OpeningRight f.at Enough)
        (λ q also m. absurd (let fit = m.left.0 in omega arith))
        (λ q v. absurd (both_few v.may.few left right))
        (λ at a also more l r. ap (λ (z : Siblings). OpeningRight z Enough) a)
        (λ at a differ. absurd (differ n))
        (λ at a may u. absurd (both_few may.few left right));
  }

  decide_by : MayEven c d → (e : Evened) → IsEvened c d e → (r : Option Page) → Relists f.parent f.key e.separator f.at.right r → One (Decides f c d)
  decide_by may e is None t = decide_lost may (e, is, t)
  decide_by may e is (Some parent) t =
      let p : Puts = record { at = f.at; gains = e.gains; left = e.left; parent = parent; right = e.right; decision = EvenedOut } in
      decide_even may p (record { may = may; separator = e.separator; at = refl; evened = is; parent = t; decision = refl })

  pub decide_one : One (Decides f c d)
  decide_one = elim (neighbours_or c d) [
    | inr differ ↦ decide_apart differ
    | inl n ↦ elim (cases_lt 14 (together c d)) [
      | inr fit ↦ decide_merge n fit
      | inl past ↦ elim (few_or c d) [
        | inr many ↦ decide_enough n past many.0 many.1
        | inl few ↦ (
            let e = evened_some c d n past in
            let r = relist_some f.parent f.key e.0.separator f.at.right f.covers f.above f.lists f.right_child in
            decide_by (record { neighbours = n; past = past; few = few }) e.0 e.1 r.0 r.1)
      ]
    ]
  ]
