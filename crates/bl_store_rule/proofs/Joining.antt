-- A hand is taken in by another seat and given back.
use Rattle.std.proofs.Common.{◌≡◌, ◌≢◌, ◌⊎◌, ℕ, zero, suc, ◌+◌, ◌<◌, ◌≤◌, List, [], ◌∷◌, ◌++◌, length, set, sym, refl, ap, ◌∙◌, subst, inl, inr, ⊎_elim, arith, length-set, add-one, lt_of_not-le}
use mathlib.Core.Logic.{dite}
use mathlib.Core.Option.{some, some-injective, some-ne-none, none}
use native.Mathlib.Decide.{dec_le, ℕ_discrete}
use lib.ListN.{get_elem?}
use Rattle.atomic_table.specs.Table.{State, Me, step, keeps, Allows, Splits, Joins}
use Rattle.atomic_table.proofs.Lists.{at_set, set_else, at_snoc, at_longer, at_last}
use Rattle.std.proofs.lemmas.List.{length-append}
use Rattle.bl_layout.specs.declared.layout.Layout.{Layout}
use Rattle.bl_store_rule.specs.Pages.{Idle, Pages, Meets}
use Rattle.bl_store_rule.specs.Frames.{IsTakenIn, IsLive, Knows, IsApart, Kept, stage_of, joined, share, spent_view, without_hand, taking_in, giving_back, given_back, others, last_of}
use Rattle.bl_store_rule.specs.Observed.{met}
use Rattle.bl_store_rule.specs.declared.view.View.{View}
use Rattle.bl_store_rule.specs.declared.view.Joined.{Joined}
use Rattle.bl_store_rule.specs.declared.view.Stamp.{Stamp}
use Rattle.bl_store_rule.specs.declared.view.Stamp.TheVariants.{Out}
use Rattle.bl_store_rule.specs.declared.view.Sealing.TheVariants.{Unsealed, Sealed}
use Rattle.bl_store_rule.proofs.Lists.{at_below, there, one_there, set_there, total_set}
use Rattle.bl_store_rule.proofs.Keeps.{sealed_on}
use Rattle.bl_store_rule.proofs.Time.{observed_load}

module _ {D : Type 0} (l : Layout) (first : D) (holds : Pages D → Type 0) where
  abbrev St : Type 0
  St = State (Unit {0}) (View D)

  abbrev M : Type 0
  M = Me (Unit {0}) (View D)

  abbrev Rule : St → Type 0
  Rule = Kept l first holds

  -- what a seat was that has a hand once a seat without one has come
  was_live : (vs : List (View D)) (blank : View D) → (IsLive blank → ⊥) → (i : ℕ) (v : View D) → get_elem? (vs ++ blank ∷ []) i ≡ some v → IsLive v → get_elem? vs i ≡ some v
  was_live vs blank dead i v at live = ⊎_elim (λ (h : get_elem? vs i ≡ some v). h) (λ (t : blank ≡ v). absurd (dead (subst (λ (z : View D). IsLive z) (sym t) live))) (at_snoc vs blank v i at)

  -- a seat without a hand comes
  pub blanks : (id : ℕ) (v : View D) → Splits Rule id v v (without_hand v)
  blanks id v st r at = let blank : View D = without_hand v in let dead : IsLive blank → ⊥ = (λ low. omega arith) in
      let back : (i : ℕ) (u : View D) → get_elem? (set st.views id v ++ blank ∷ []) i ≡ some u → IsLive u → get_elem? st.views i ≡ some u
      = (λ i u e live. ⊎_elim (λ (t : (i ≡ id) × (v ≡ u)). ap (get_elem? st.views) t.0 ∙ (at ∙ ap (λ (z : View D). some z) t.1)) (λ (t : (i ≢ id) × (get_elem? st.views i ≡ some u)). t.1) (at_set st.views id i v u (was_live (set st.views id v) blank dead i u e live))) in record {
        pages = r.pages;
        frames = r.frames;
        budgets = r.budgets;
        orderly = r.orderly;
        shows = r.shows;
        budgeted = r.budgeted;
        seats = λ i u e live. r.seats i u (back i u e live) live;
        apart = record {
          hands = λ i j u w at_i at_j a b other. r.apart.hands i j u w (back i u at_i a) (back j w at_j b) a b other;
          joined = λ i j u w at_i at_j a b. r.apart.joined i j u w (back i u at_i a) (back j w at_j b) a b;
          taken = λ i j u w at_i at_j a b. r.apart.taken i j u w (back i u at_i a) (back j w at_j b) a b;
        };
        sealing = λ x t e. ⊎_elim inl (λ (h : (j : ℕ) × (u : View D) × (get_elem? st.views j ≡ some u) × IsLive u × (u.sealing ≡ Sealed x t)). let k = sealed_on st.views id v v at refl (λ k. k) x t h in inr (k.0, k.1, at_longer (set st.views id v) (blank ∷ []) k.0 k.1 k.2, k.3, k.4)) (r.sealing x t e);
        kept = r.kept;
      }

  -- the hand of another seat is taken in
  pub takes_in : (d : D) (id other : ℕ) (v w : View D) → IsLive v → IsLive w → w.stamp ≡ Out → w.sealing ≡ Unsealed → Joins Rule id v other w (taking_in v w) (spent_view d)
  takes_in d id other v w live_v live_w out unsealed st r at apart_id at_other = let both : View D = taking_in v w in let gone : View D = spent_view d in
      let ne : other ≢ id = (λ e. apart_id e) in let at_w : get_elem? st.views other ≡ some w = sym (set_else st.views id other both ne) ∙ at_other in
      let mine = r.seats id v at live_v in let theirs = r.seats other w at_w live_w in let vs : List (View D) = set (set st.views id both) other gone in
      let q : ℕ = w.number in let bs' : List ℕ = set r.budgets q 0 in let counted_v = mine.counted in let counted_w = theirs.counted in let dead : IsLive gone → ⊥ = (λ low. omega arith) in
      let back : (i : ℕ) (u : View D) → get_elem? vs i ≡ some u → IsLive u → ((i ≡ id) × (both ≡ u)) ⊎ ((i ≢ id) × (i ≢ other) × (get_elem? st.views i ≡ some u))
      = (λ i u e live. ⊎_elim (λ (t : (i ≡ other) × (gone ≡ u)). absurd (dead (subst (λ (z : View D). IsLive z) (sym t.1) live)))
      (λ (t : (i ≢ other) × (get_elem? (set st.views id both) i ≡ some u)). ⊎_elim (λ (k : (i ≡ id) × (both ≡ u)). inl k) (λ (k : (i ≢ id) × (get_elem? st.views i ≡ some u)). inr (k.0, t.0, k.1)) (at_set st.views id i both u t.1))
      (at_set (set st.views id both) other i gone u e)) in
      let outside : (i : ℕ) (u : View D) → get_elem? st.views i ≡ some u → IsLive u → i ≢ other → (w.upto ≤ u.number) ⊎ (u.upto ≤ q)
      = (λ i u e live other_i. ⊎_elim (λ (h : w.upto ≤ u.number). inl h) (λ (h : u.upto ≤ w.number). inr h) (r.apart.hands other i w u at_w e live_w live (λ z. other_i (sym z)))) in
      let not_taken : (i : ℕ) (u : View D) → get_elem? st.views i ≡ some u → IsLive u → (k : ℕ) (h : Joined D) → get_elem? u.joined k ≡ some h → h.number ≢ q
      = (λ i u e live k h at_k same. ⊎_elim (λ (c : h.number < w.number). omega arith) (λ (c : w.upto ≤ h.number). omega arith) (r.apart.joined i other u w e at_w live live_w k h at_k)) in
      let stays : (i : ℕ) (u : View D) → get_elem? st.views i ≡ some u → (live : IsLive u) → i ≢ other → Knows l first st.words r.pages r.frames bs' u
      = (λ i u e live other_i. let k = r.seats i u e live in let counted_u = k.counted in record {
        layout = k.layout;
        counted = k.counted;
        dealt = k.dealt;
        stands = k.stands;
        undealt = λ n low high. let was = k.undealt n low high in (was.0, set_else r.budgets q n 0 (λ z. ⊎_elim (λ (h : w.upto ≤ u.number). omega arith) (λ (h : u.upto ≤ q). omega arith) (outside i u e live other_i)) ∙ was.1);
        clocked = k.clocked;
        reads = k.reads;
        stocks = k.stocks;
        drops = k.drops;
        seals = k.seals;
        sweeps = k.sweeps;
        budget = set_else r.budgets q u.number 0 (λ z. ⊎_elim (λ (h : w.upto ≤ u.number). omega arith) (λ (h : u.upto ≤ q). omega arith) (outside i u e live other_i)) ∙ k.budget;
        joined = λ m h at_m. let was = k.joined m h at_m in (was.0, set_else r.budgets q h.number 0 (not_taken i u e live m h at_m) ∙ was.1);
      }) in
      let ours = stays id v at live_v (λ z. ne (sym z)) in
      let taken_new : IsTakenIn r.pages bs' (joined q w.known) = (theirs.stands ∙ ap (λ (z : Stamp). some (stage_of z, w.known)) out, set_there r.budgets q (w.puts + w.retires) 0 theirs.budget) in
      let small = r.budgeted.small in let total = r.budgeted.total in let less = total_set r.budgets q (w.puts + w.retires) 0 theirs.budget in record {
        pages = r.pages;
        frames = r.frames;
        budgets = bs';
        orderly = r.orderly;
        shows = r.shows;
        budgeted = record {
          count = length-set r.budgets q 0 ∙ r.budgeted.count;
          small = λ k b e. ⊎_elim (λ (t : (k ≡ q) × (0 ≡ b)). let same = t.1 in omega arith) (λ (t : (k ≢ q) × (get_elem? r.budgets k ≡ some b)). small k b t.1) (at_set r.budgets q k 0 b e);
          total = omega arith;
        };
        seats = λ i u e live. ⊎_elim
            (λ (t : (i ≡ id) × (both ≡ u)). subst (Knows l first st.words r.pages r.frames bs') t.1 record {
              layout = ours.layout;
              counted = ours.counted;
              dealt = ours.dealt;
              stands = ours.stands;
              undealt = ours.undealt;
              clocked = ours.clocked;
              reads = ours.reads;
              stocks = ours.stocks;
              drops = ours.drops;
              seals = ours.seals;
              sweeps = ours.sweeps;
              budget = ours.budget;
              joined = both_joined bs' r.pages v w taken_new ours.joined;
            })
            (λ (t : (i ≢ id) × (i ≢ other) × (get_elem? st.views i ≡ some u)). stays i u t.2 live t.1) (back i u e live);
        apart = apart_taken st r id other v w at at_w live_v live_w ne vs back;
        sealing = λ x t e. ⊎_elim inl
            (λ (h : (j : ℕ) × (u : View D) × (get_elem? st.views j ≡ some u) × IsLive u × (u.sealing ≡ Sealed x t)). let k = sealed_on st.views id v both at refl (λ k. k) x t h in dite (ℕ_discrete k.0 other)
            (λ same. let one : w ≡ k.1 = one_there (set st.views id both) other w k.1 at_other (ap (get_elem? (set st.views id both)) (sym same) ∙ k.2) in let no : Unsealed ≡ Sealed x t = sym unsealed ∙ (ap (λ (z : View D). z.sealing) one ∙ k.4) in cc)
            (λ apart. inr (k.0, k.1, set_else (set st.views id both) other k.0 gone apart ∙ k.2, k.3, k.4))) (r.sealing x t e);
        kept = r.kept;
      }
    where
      both_joined : (bs : List ℕ) (s : Pages D) (v w : View D) → IsTakenIn s bs (joined w.number w.known) → ((k : ℕ) (h : Joined D) → get_elem? v.joined k ≡ some h → IsTakenIn s bs h) → (k : ℕ) (h : Joined D) → get_elem? (joined w.number w.known ∷ v.joined) k ≡ some h → IsTakenIn s bs h
      both_joined bs s v w new old zero h e = subst (λ (z : Joined D). IsTakenIn s bs z) (some-injective (joined w.number w.known) h e) new
      both_joined bs s v w new old (suc k) h e = old k h e

      -- the first of them, or one of the others
      first_or : (v w : View D) (k : ℕ) (h : Joined D) → get_elem? (joined w.number w.known ∷ v.joined) k ≡ some h → ((k ≡ 0) × (w.number ≡ h.number)) ⊎ ((m : ℕ) × (k ≡ m + 1) × (get_elem? v.joined m ≡ some h))
      first_or v w zero h e = inl (refl, ap (λ (z : Joined D). z.number) (some-injective (joined w.number w.known) h e))
      first_or v w (suc k) h e = inr (k, omega arith, e)

      apart_taken : (st : St) (r : Rule st) (id other : ℕ) (v w : View D) → get_elem? st.views id ≡ some v → get_elem? st.views other ≡ some w → IsLive v → IsLive w → other ≢ id → (vs : List (View D))
          → ((i : ℕ) (u : View D) → get_elem? vs i ≡ some u → IsLive u → ((i ≡ id) × (taking_in v w ≡ u)) ⊎ ((i ≢ id) × (i ≢ other) × (get_elem? st.views i ≡ some u))) → IsApart vs
      apart_taken st r id other v w at at_w live_v live_w ne vs back = let counted_w = (r.seats other w at_w live_w).counted in record {
        hands = λ i j x y at_i at_j live_x live_y apart. let a = was i x at_i live_x in let b = was j y at_j live_y in let an = a.3 in let au = a.4 in let bn = b.3 in let bu = b.4 in
            ⊎_elim (λ (h : a.0.upto ≤ b.0.number). inl (omega arith)) (λ (h : b.0.upto ≤ a.0.number). inr (omega arith)) (r.apart.hands i j a.0 b.0 a.1 b.1 (a.2) (b.2) apart);
        joined = λ i j x y at_i at_j live_x live_y k h at_k. let b = was j y at_j live_y in let bn = b.3 in let bu = b.4 in
            ⊎_elim (λ (c : h.number < b.0.number). inl (omega arith)) (λ (c : b.0.upto ≤ h.number). inr (omega arith)) (⊎_elim
            (λ (c : (m : ℕ) × (z : View D) × (get_elem? st.views i ≡ some z) × IsLive z × (get_elem? z.joined m ≡ some h) × ((i ≡ id) → k ≡ m + 1) × ((i ≢ id) → k ≡ m)). r.apart.joined i j c.1 b.0 c.2 b.1 c.3 b.2 c.0 h c.4)
            (λ (c : (i ≡ id) × (k ≡ 0) × (w.number ≡ h.number)). let is = c.2 in ⊎_elim (λ (z : w.upto ≤ b.0.number). inl (omega arith)) (λ (z : b.0.upto ≤ w.number). inr (omega arith)) (r.apart.hands other j w b.0 at_w b.1 live_w b.2 (λ z. b.5 (sym z))))
            (which i x at_i live_x k h at_k));
        taken = λ i j x y at_i at_j live_x live_y k m g h at_k at_m apart. ⊎_elim
            (λ (c : (n : ℕ) × (z : View D) × (get_elem? st.views i ≡ some z) × IsLive z × (get_elem? z.joined n ≡ some g) × ((i ≡ id) → k ≡ n + 1) × ((i ≢ id) → k ≡ n)). ⊎_elim
            (λ (d : (n : ℕ) × (z : View D) × (get_elem? st.views j ≡ some z) × IsLive z × (get_elem? z.joined n ≡ some h) × ((j ≡ id) → m ≡ n + 1) × ((j ≢ id) → m ≡ n)). r.apart.taken i j c.1 d.1 c.2 d.2 c.3 d.3 c.0 d.0 g h c.4 d.4 (still i j id k m c.0 d.0 c.5 c.6 d.5 d.6 apart))
            (λ (d : (j ≡ id) × (m ≡ 0) × (w.number ≡ h.number)). λ same. let is = d.2 in ⊎_elim (λ (z : g.number < w.number). omega arith) (λ (z : w.upto ≤ g.number). omega arith) (r.apart.joined i other c.1 w c.2 at_w c.3 live_w c.0 g c.4))
            (which j y at_j live_y m h at_m))
            (λ (c : (i ≡ id) × (k ≡ 0) × (w.number ≡ g.number)). ⊎_elim
            (λ (d : (n : ℕ) × (z : View D) × (get_elem? st.views j ≡ some z) × IsLive z × (get_elem? z.joined n ≡ some h) × ((j ≡ id) → m ≡ n + 1) × ((j ≢ id) → m ≡ n)). λ same. let is = c.2 in ⊎_elim (λ (z : h.number < w.number). omega arith) (λ (z : w.upto ≤ h.number). omega arith) (r.apart.joined j other d.1 w d.2 at_w d.3 live_w d.0 h d.4))
            (λ (d : (j ≡ id) × (m ≡ 0) × (w.number ≡ h.number)). ⊎_elim (λ (z : i ≢ j). absurd (z (c.0 ∙ sym d.0))) (λ (z : k ≢ m). absurd (z (c.1 ∙ sym d.1))) apart)
            (which j y at_j live_y m h at_m))
            (which i x at_i live_x k g at_k);
      }
        where
          was : (i : ℕ) (x : View D) → get_elem? vs i ≡ some x → IsLive x → (z : View D) × (get_elem? st.views i ≡ some z) × IsLive z × (z.number ≡ x.number) × (z.upto ≡ x.upto) × (i ≢ other)
          was i x e live = ⊎_elim (λ (t : (i ≡ id) × (taking_in v w ≡ x)). (v, ap (get_elem? st.views) t.0 ∙ at, live_v, ap (λ (z : View D). z.number) t.1, ap (λ (z : View D). z.upto) t.1, λ z. ne (sym z ∙ t.0)))
              (λ (t : (i ≢ id) × (i ≢ other) × (get_elem? st.views i ≡ some x)). (x, t.2, live, refl, refl, t.1)) (back i x e live)

          which : (i : ℕ) (x : View D) → get_elem? vs i ≡ some x → IsLive x → (k : ℕ) (h : Joined D) → get_elem? x.joined k ≡ some h
              → ((m : ℕ) × (z : View D) × (get_elem? st.views i ≡ some z) × IsLive z × (get_elem? z.joined m ≡ some h) × ((i ≡ id) → k ≡ m + 1) × ((i ≢ id) → k ≡ m)) ⊎ ((i ≡ id) × (k ≡ 0) × (w.number ≡ h.number))
          which i x e live k h at_k = ⊎_elim
              (λ (t : (i ≡ id) × (taking_in v w ≡ x)). ⊎_elim (λ (c : (k ≡ 0) × (w.number ≡ h.number)). inr (t.0, c.0, c.1))
              (λ (c : (m : ℕ) × (k ≡ m + 1) × (get_elem? v.joined m ≡ some h)). inl (c.0, v, ap (get_elem? st.views) t.0 ∙ at, live_v, c.2, (λ _. c.1), λ no. absurd (no t.0)))
              (first_or v w k h (ap (λ (z : View D). get_elem? z.joined k) t.1 ∙ at_k)))
              (λ (t : (i ≢ id) × (i ≢ other) × (get_elem? st.views i ≡ some x)). inl (k, x, t.2, live, at_k, (λ z. absurd (t.0 z)), λ _. refl)) (back i x e live)

          still : (i j d k m a b : ℕ) → ((i ≡ d) → k ≡ a + 1) → ((i ≢ d) → k ≡ a) → ((j ≡ d) → m ≡ b + 1) → ((j ≢ d) → m ≡ b) → (i ≢ j) ⊎ (k ≢ m) → (i ≢ j) ⊎ (a ≢ b)
          still i j d k m a b up same up' same' = ⊎_elim inl (λ apart. dite (ℕ_discrete i j)
              (λ e. inr (λ ab. apart (dite (ℕ_discrete i d) (λ is. let x = up is in let y = up' (sym e ∙ is) in omega arith) (λ no. let x = same no in let y = same' (λ z. no (e ∙ z)) in omega arith))))
              (λ no. inl no))

  -- a load at which the hand learns of the one that it took in last
  pub meets : (then' : D → D → D → Type 0) (slots id i : ℕ) (me : M) (j : Joined D) (js : List (Joined D)) → me.0.joined ≡ j ∷ js → IsLive me.0 → Meets holds l me.0.number me.0.known j.number j.known then'
      → Allows Rule slots id me i (λ n. n) (met then' (step slots i 0 0 none) me)
  meets then' slots id i me j js has live asked st r _ at _ = let mine = r.seats id me.0 at live in let counted = mine.counted in let here : get_elem? me.0.joined 0 ≡ some j = ap (λ (z : List (Joined D)). get_elem? z 0) has in
      let apart : j.number ≢ me.0.number = (λ e. ⊎_elim (λ (h : j.number < me.0.number). omega arith) (λ (h : me.0.upto ≤ j.number). omega arith) (r.apart.joined id id me.0 me.0 at at live live 0 j here)) in
      let t = asked r.pages (stage_of me.0.stamp) r.kept r.orderly mine.stands (mine.joined 0 j here).0 apart in (
        record me.0 { reading = me.0.reading; refused = me.0.refused; known = t.0 },
        keeps,
        tt,
        observed_load l first holds st r i id me.1 me.0 me.0.reading me.0.refused t.0 at live mine.reads t.1,
        ((refl, refl, refl, refl), refl, (refl, refl, refl), refl, λ g gs e. let same : j ≡ g = some-injective j g (ap (λ (z : List (Joined D)). get_elem? z 0) (sym has ∙ e)) in subst (λ (z : Joined D). then' me.0.known z.known t.0) same t.2),
      )

  -- the seat u with a hand was z, which had each hand that u has taken in, one place later where its last one is given back
  abbrev Was : St → ℕ → ℕ → View D → Type 0
  Was st id i u = (z : View D) × (get_elem? st.views i ≡ some z) × IsLive z × (z.number ≡ u.number) × (z.upto ≡ u.upto)
      × ((k : ℕ) (h : Joined D) → get_elem? u.joined k ≡ some h → (a : ℕ) × (get_elem? z.joined a ≡ some h) × (i ≡ id → a ≡ k + 1) × (i ≢ id → a ≡ k))

  -- the hand that was taken in last has a seat of its own again
  gives : (id : ℕ) (v : View D) (j : Joined D) (js : List (Joined D)) → IsLive v → v.joined ≡ j ∷ js → Splits Rule id v (record v { joined = js }) (share l j.known j.number (j.number + 1))
  gives id v j js live has st r at = let left : View D = record v { joined = js } in let right : View D = share l j.known j.number (j.number + 1) in let mine = r.seats id v at live in let orderly = r.orderly in let hands = orderly.hands in
      let here : get_elem? v.joined 0 ≡ some j = ap (λ (z : List (Joined D)). get_elem? z 0) has in let old = mine.joined 0 j here in let low = at_below r.pages.hands j.number (Idle, j.known) old.0 in
      let next : (k : ℕ) (h : Joined D) → get_elem? js k ≡ some h → get_elem? v.joined (k + 1) ≡ some h = (λ k h e. later_in v.joined j js has k h e) in
      let knows_left : Knows l first st.words r.pages r.frames r.budgets left = record {
        layout = mine.layout;
        counted = mine.counted;
        dealt = mine.dealt;
        stands = mine.stands;
        undealt = mine.undealt;
        clocked = mine.clocked;
        reads = mine.reads;
        stocks = mine.stocks;
        drops = mine.drops;
        seals = mine.seals;
        sweeps = mine.sweeps;
        budget = mine.budget;
        joined = λ k h e. mine.joined (k + 1) h (next k h e);
      } in
      let knows_right : Knows l first st.words r.pages r.frames r.budgets right = record {
        layout = refl;
        counted = omega arith;
        dealt = omega arith;
        stands = old.0;
        undealt = λ k above below. absurd (omega arith);
        clocked = tt;
        reads = (tt, tt);
        stocks = tt;
        drops = tt;
        seals = tt;
        sweeps = tt;
        budget = old.1;
        joined = λ k h e. absurd (some-ne-none h (sym e));
      } in record {
        pages = r.pages;
        frames = r.frames;
        budgets = r.budgets;
        orderly = r.orderly;
        shows = r.shows;
        budgeted = r.budgeted;
        seats = λ i u e live_u. ⊎_elim
            (λ (was : get_elem? (set st.views id left) i ≡ some u). ⊎_elim (λ (t : (i ≡ id) × (left ≡ u)). subst (Knows l first st.words r.pages r.frames r.budgets) t.1 knows_left) (λ (t : (i ≢ id) × (get_elem? st.views i ≡ some u)). r.seats i u t.1 live_u) (at_set st.views id i left u was))
            (λ (t : right ≡ u). subst (Knows l first st.words r.pages r.frames r.budgets) t knows_right) (at_snoc (set st.views id left) right u i e);
        apart = apart_given st r id v j js live has at next;
        sealing = λ x t e. ⊎_elim inl (λ (h : (k : ℕ) × (u : View D) × (get_elem? st.views k ≡ some u) × IsLive u × (u.sealing ≡ Sealed x t)). let k = sealed_on st.views id v left at refl (λ k. k) x t h in inr (k.0, k.1, at_longer (set st.views id left) (right ∷ []) k.0 k.1 k.2, k.3, k.4)) (r.sealing x t e);
        kept = r.kept;
      }
    where
      later_in : (gs : List (Joined D)) (j : Joined D) (js : List (Joined D)) → gs ≡ j ∷ js → (k : ℕ) (h : Joined D) → get_elem? js k ≡ some h → get_elem? gs (k + 1) ≡ some h
      later_in gs j js is k h e = ap (λ (z : List (Joined D)). get_elem? z (k + 1)) is ∙ (ap (get_elem? (j ∷ js)) (add-one k) ∙ e)

      apart_given : (st : St) (r : Rule st) (id : ℕ) (v : View D) (j : Joined D) (js : List (Joined D)) → IsLive v → v.joined ≡ j ∷ js → get_elem? st.views id ≡ some v → ((k : ℕ) (h : Joined D) → get_elem? js k ≡ some h → get_elem? v.joined (k + 1) ≡ some h)
          → IsApart (set st.views id (record v { joined = js }) ++ share l j.known j.number (j.number + 1) ∷ [])
      apart_given st r id v j js live has at next = let right : View D = share l j.known j.number (j.number + 1) in let num : View D → ℕ = λ z. z.number in let up : View D → ℕ = λ z. z.upto in record {
        hands = λ a b x y at_a at_b live_x live_y other. ⊎_elim
            (λ (c : Was st id a x). let c3 = c.3 in let c4 = c.4 in ⊎_elim
            (λ (d : Was st id b y). let d3 = d.3 in let d4 = d.4 in ⊎_elim (λ (h : c.0.upto ≤ d.0.number). inl (omega arith)) (λ (h : d.0.upto ≤ c.0.number). inr (omega arith)) (r.apart.hands a b c.0 d.0 c.1 d.1 c.2 d.2 other))
            (λ (d : (b ≡ length st.views) × (right ≡ y)). let n = ap num d.1 in let u = ap up d.1 in
            ⊎_elim (λ (h : j.number < c.0.number). inr (omega arith)) (λ (h : c.0.upto ≤ j.number). inl (omega arith)) (r.apart.joined id a v c.0 at c.1 live c.2 0 j here))
            (back b y at_b live_y))
            (λ (c : (a ≡ length st.views) × (right ≡ x)). let n = ap num c.1 in let u = ap up c.1 in ⊎_elim
            (λ (d : Was st id b y). let d3 = d.3 in let d4 = d.4 in ⊎_elim (λ (h : j.number < d.0.number). inl (omega arith)) (λ (h : d.0.upto ≤ j.number). inr (omega arith)) (r.apart.joined id b v d.0 at d.1 live d.2 0 j here))
            (λ (d : (b ≡ length st.views) × (right ≡ y)). absurd (other (c.0 ∙ sym d.0)))
            (back b y at_b live_y))
            (back a x at_a live_x);
        joined = λ a b x y at_a at_b live_x live_y k h at_k. ⊎_elim
            (λ (c : Was st id a x). let p = c.5 k h at_k in ⊎_elim
            (λ (d : Was st id b y). let d3 = d.3 in let d4 = d.4 in ⊎_elim (λ (z : h.number < d.0.number). inl (omega arith)) (λ (z : d.0.upto ≤ h.number). inr (omega arith)) (r.apart.joined a b c.0 d.0 c.1 d.1 c.2 d.2 p.0 h p.1))
            (λ (d : (b ≡ length st.views) × (right ≡ y)). let n = ap num d.1 in let u = ap up d.1 in
            let ne : h.number ≢ j.number = r.apart.taken a id c.0 v c.1 at c.2 live p.0 0 h j p.1 here (not_first a id k p.0 p.2) in
            ⊎_elim (λ (z : h.number < j.number). inl (omega arith)) (λ (z : j.number < h.number). inr (omega arith)) (one_side h.number j.number ne))
            (back b y at_b live_y))
            (λ (c : (a ≡ length st.views) × (right ≡ x)). absurd (some-ne-none h (sym at_k ∙ ap (λ (z : View D). get_elem? z.joined k) (sym c.1))))
            (back a x at_a live_x);
        taken = λ a b x y at_a at_b live_x live_y k m g h at_k at_m apart. ⊎_elim
            (λ (c : Was st id a x). ⊎_elim
            (λ (d : Was st id b y). let p = c.5 k g at_k in let q = d.5 m h at_m in r.apart.taken a b c.0 d.0 c.1 d.1 c.2 d.2 p.0 q.0 g h p.1 q.1 (still a b id k m p.0 q.0 p.2 p.3 q.2 q.3 apart))
            (λ (d : (b ≡ length st.views) × (right ≡ y)). absurd (some-ne-none h (sym at_m ∙ ap (λ (z : View D). get_elem? z.joined m) (sym d.1))))
            (back b y at_b live_y))
            (λ (c : (a ≡ length st.views) × (right ≡ x)). absurd (some-ne-none g (sym at_k ∙ ap (λ (z : View D). get_elem? z.joined k) (sym c.1))))
            (back a x at_a live_x);
      }
        where
          here : get_elem? v.joined 0 ≡ some j
          here = ap (λ (z : List (Joined D)). get_elem? z 0) has

          back : (i : ℕ) (u : View D) → get_elem? (set st.views id (record v { joined = js }) ++ share l j.known j.number (j.number + 1) ∷ []) i ≡ some u → IsLive u → Was st id i u ⊎ ((i ≡ length st.views) × (share l j.known j.number (j.number + 1) ≡ u))
          back i u e live_u = let lefts : View D = record v { joined = js } in let right : View D = share l j.known j.number (j.number + 1) in let vs : List (View D) = set st.views id lefts in let long : length vs ≡ length st.views = length-set st.views id lefts in
              let all = at_below (vs ++ right ∷ []) i u e in let size = length-append vs (right ∷ []) in dite (ℕ_discrete i (length st.views))
              (λ is. inr (is, some-injective right u (sym (at_last vs right (length st.views) long) ∙ (ap (get_elem? (vs ++ right ∷ [])) (sym is) ∙ e))))
              (λ ne. let c = there vs i (omega arith) in let same : c.0 ≡ u = some-injective c.0 u (sym (at_longer vs (right ∷ []) i c.0 c.1) ∙ e) in ⊎_elim
              (λ (t : (i ≡ id) × (lefts ≡ c.0)). let is : lefts ≡ u = t.1 ∙ same in inl (v, ap (get_elem? st.views) t.0 ∙ at, live, ap (λ (z : View D). z.number) is, ap (λ (z : View D). z.upto) is, λ k h at_k. (k + 1, next k h (ap (λ (z : View D). get_elem? z.joined k) is ∙ at_k), (λ _. refl), λ no. absurd (no t.0))))
              (λ (t : (i ≢ id) × (get_elem? st.views i ≡ some c.0)). inl (u, t.1 ∙ ap (λ (z : View D). some z) same, live_u, refl, refl, λ k h at_k. (k, at_k, (λ is. absurd (t.0 is)), λ _. refl)))
              (at_set st.views id i lefts c.0 c.1))

          not_first : (i d k a : ℕ) → (i ≡ d → a ≡ k + 1) → (i ≢ d) ⊎ (a ≢ 0)
          not_first i d k a up = dite (ℕ_discrete i d) (λ e. let is = up e in inr (λ z. omega arith)) (λ no. inl no)

          one_side : (x y : ℕ) → x ≢ y → (x < y) ⊎ (y < x)
          one_side x y ne = dite (dec_le x y) (λ h. inl (omega arith)) (λ h. let more = lt_of_not-le h in inr more)

          still : (i j d k m a b : ℕ) → (i ≡ d → a ≡ k + 1) → (i ≢ d → a ≡ k) → (j ≡ d → b ≡ m + 1) → (j ≢ d → b ≡ m) → (i ≢ j) ⊎ (k ≢ m) → (i ≢ j) ⊎ (a ≢ b)
          still i j d k m a b up same up' same' = ⊎_elim inl (λ apart. dite (ℕ_discrete i j)
              (λ e. inr (λ ab. apart (dite (ℕ_discrete i d) (λ is. let x = up is in let y = up' (sym e ∙ is) in omega arith) (λ no. let x = same no in let y = same' (λ z. no (e ∙ z)) in omega arith))))
              (λ no. inl no))

  pub gives_back : (id : ℕ) (v : View D) (j : Joined D) (js : List (Joined D)) → IsLive v → v.layout ≡ l → v.joined ≡ j ∷ js → Splits Rule id v (giving_back v) (given_back v)
  gives_back id v j js live layout has = let left_is : giving_back v ≡ record v { joined = js } = ap (λ (z : List (Joined D)). record v { joined = others z }) has in
      let right_is : given_back v ≡ share l j.known j.number (j.number + 1) = ap (λ (z : List (Joined D)). last_of v z) has ∙ ap (λ (z : Layout). share z j.known j.number (j.number + 1)) layout in
      subst (λ (z : View D × View D). Splits Rule id v z.0 z.1) (λ i. (sym left_is i, sym right_is i)) (gives id v j js live has)
