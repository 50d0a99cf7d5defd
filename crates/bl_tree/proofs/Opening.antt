-- The opening tree: one empty leaf, page 1, that covers every key.
use Rattle.std.proofs.Common.{ℕ, ◌≡◌, ◌<◌, ◌==◌, true, None, arith, ap, sym, ◌∙◌, refl}
use Rattle.bl_page.specs.Nodes.{Node, Roots, unbounded}
use Rattle.bl_tree.specs.Trees.{IsLive, Tree, IsTree}
use Rattle.bl_tree.proofs.Statuses.{live_live}
use Rattle.bl_tree.proofs.SoundStarts.{start_status, start_zero, alive, none_paired, none_uprooted}

abbrev pub empty_leaf : Node
empty_leaf = record { shape = record { level = 0; low = 0; end = unbounded; right = 0 }; look = λ k. None }

abbrev pub opening_tree : (ℕ → Node) → Roots → Tree
opening_tree node roots = record { node = node; roots = roots; status = start_status (λ x. x == 1); sep = λ x. 0; map = λ l k. None }

pub opens : (node : ℕ → Node) (roots : Roots) → node 1 ≡ empty_leaf → roots.levels ≡ 1 → roots.leftmost 0 ≡ 1 → IsTree unbounded (opening_tree node roots)
opens node roots e levels first =
    let one : (x : ℕ) → IsLive (start_status (λ x. x == 1) x) → x ≡ 1 = λ x h. (let a : (x == 1) ≡ true = alive (λ x. x == 1) x h in grind arith) in
    let is : (x : ℕ) → IsLive (start_status (λ x. x == 1) x) → node x ≡ empty_leaf = λ x h. ap node (one x h) ∙ e in
    let live_1 : IsLive (start_status (λ x. x == 1) 1) = live_live in
    record {
      side = record {
        wide = λ x h. rw (is x h) (omega arith);
        within = λ x h. rw (is x h) (omega arith);
        last = λ x h. rw (is x h) (λ f. refl);
        link_live = λ x h. rw (is x h) (λ f. absurd (omega arith));
        link_level = λ x h f. absurd (let i : unbounded < unbounded = rw (is x h) at f in omega arith);
        link_low = λ x h f. absurd (let i : unbounded < unbounded = rw (is x h) at f in omega arith);
        link_rise = λ x h f. absurd (let i : unbounded < unbounded = rw (is x h) at f in omega arith);
        link_same = λ x h f. absurd (let i : unbounded < unbounded = rw (is x h) at f in omega arith);
        left = λ x y h. absurd ((none_paired (λ x. x == 1) x y).0 h);
        right = λ x y h. absurd ((none_paired (λ x. x == 1) y x).1 h);
        apart = λ x y k h i l c d m n. one x h ∙ sym (one y i);
        sep_low = λ x h. rw (is x h) (omega arith);
        sep_same = λ x h n. rw (is x h) refl;
      };
      agree = λ x k h c. rw (is x h) refl;
      listed = λ l k c h. cc;
      anchored = start_zero (λ x. x == 1);
      some_level = rw levels (omega arith);
      few_levels = rw levels (omega arith);
      leftmost = λ l h. let i : l ≡ 0 = (let j : l < 1 = rw levels at h in omega arith) in rw (i, first) (record { alive = live_1; level_is = rw e refl; sep_is = refl });
      below = λ x h n. rw (is x h, levels) (omega arith);
      uprooted = λ x h. absurd (none_uprooted (λ x. x == 1) x h);
      empty = λ l k c h e. cc;
    }
