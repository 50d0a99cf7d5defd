-- Sound pages are told by what the live pages say alone.
use Rattle.std.proofs.Common.{◌≡◌, ℕ, suc, ◌<◌, ◌≤◌, Bool, sym, subst, ap, ◌∙◌}
use Rattle.std.specs.Prelude.{IsTrue}
use Rattle.bl_page.specs.Nodes.{Node, Roots, unbounded}
use Rattle.bl_tree.specs.Starts.{IsReached, AreSound}

module _ (live : ℕ → Bool) (node other : ℕ → Node) (roots : Roots) (same : (x : ℕ) → IsTrue (live x) → other x ≡ node x) (g : AreSound live node roots) where
  reached : (x y : ℕ) → IsTrue (live x) → IsReached node x y → IsReached other x y
  reached x y alive IsReached.Here = IsReached.Here
  reached x y alive (IsReached.Next lt r) =
      let e = sym (same x alive) in
      IsReached.Next (subst (λ n. n.shape.end < unbounded) e lt) (subst (λ n. IsReached other n.shape.right y) e (reached (node x).shape.right y (g.linked x alive lt).0 r))

  pub same_sound : AreSound live other roots
  same_sound = record {
    anchor = g.anchor;
    some_level = g.some_level;
    few_levels = g.few_levels;
    leftmost = λ l lt. let h = g.leftmost l lt in let e = same (roots.leftmost l) h.0 in (h.0, ap (λ n. n.shape.level) e ∙ h.1, ap (λ n. n.shape.low) e ∙ h.2);
    wide = λ x alive. subst (λ n. n.shape.low < n.shape.end) (sym (same x alive)) (g.wide x alive);
    within = λ x alive. subst (λ n. n.shape.end ≤ unbounded) (sym (same x alive)) (g.within x alive);
    linked = λ x alive lt. let e = same x alive in let h = g.linked x alive (subst (λ n. n.shape.end < unbounded) e lt) in let f = same (node x).shape.right h.0 in
        subst (λ z. IsTrue (live z) × ((other z).shape.level ≡ (other x).shape.level) × ((other z).shape.low ≡ (other x).shape.end)) (sym (ap (λ n. n.shape.right) e))
        (h.0, ap (λ n. n.shape.level) f ∙ h.1 ∙ sym (ap (λ n. n.shape.level) e), ap (λ n. n.shape.low) f ∙ h.2 ∙ sym (ap (λ n. n.shape.end) e));
    last = λ x alive end. let e = same x alive in ap (λ n. n.shape.right) e ∙ g.last x alive (sym (ap (λ n. n.shape.end) e) ∙ end);
    on_chain = λ x alive. let h = g.on_chain x alive in
        subst (λ n. (n.shape.level < roots.levels) × IsReached other (roots.leftmost n.shape.level) x) (sym (same x alive)) (h.0, reached (roots.leftmost (node x).shape.level) x (g.leftmost (node x).shape.level h.0).0 h.1);
    children = λ x k c alive above is. let e = same x alive in
        let h = g.children x k c alive (subst (λ n. 0 < n.shape.level) e above) (sym (ap (λ n. n.look k) e) ∙ is) in let f = same c h.0 in
        (h.0, ap (λ n. suc n.shape.level) f ∙ h.1 ∙ sym (ap (λ n. n.shape.level) e), ap (λ n. n.shape.low) f ∙ h.2);
  }
