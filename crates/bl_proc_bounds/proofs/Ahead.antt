-- How many gets are still ahead of a search, if nothing changes any more.
use Rattle.std.proofs.Common.{ℕ, ◌≡◌, ◌<◌, suc, List, length, arith, refl, inl, inr, subst}
use Rattle.bl_page.specs.declared.page.Page.{Page}
use Rattle.bl_page.specs.Nodes.{node_of, IsTreePage}
use Rattle.bl_claims.specs.Walks.{IsWalk, Each}
use Rattle.bl_claims.specs.Walks.IsWalk.{Ends, Right, Down}
use Rattle.bl_proc_steps.specs.declared.descent.Descent.{Descent}
use Rattle.bl_proc_steps.specs.declared.descent.Descent.TheVariants.{At}
use Rattle.bl_proc_steps.specs.declared.descent.Descended.TheVariants as descended
use Rattle.bl_proc_steps.specs.Descents.{descent_page, Descends}
use Rattle.bl_proc_deterministic.proofs.Descents.{on_one, on_here}
use Rattle.bl_proc_bounds.specs.Paces.{IsAhead}
use Rattle.bl_proc_bounds.specs.Paces.IsAhead.{Last, On}

pub ahead_some : (contents : ℕ → Page) (k : ℕ) (d : Descent) (n : ℕ) → IsAhead contents k d n → 0 < n
ahead_some contents k d n (Last h) = omega arith
ahead_some contents k d n (On h a) = omega arith

-- what is ahead after the page has told where it leads

pub record AheadOf (contents : ℕ → Page) (k : ℕ) (e : Descent) (n : ℕ) : Type 0 where
  pub left : ℕ
  pub ahead : IsAhead contents k e left
  pub less : n ≡ suc left

pub ahead_on : (contents : ℕ → Page) (k : ℕ) (d e : Descent) (n : ℕ) → Descends k d (contents (descent_page d)) (descended.On e) → IsAhead contents k d n → AheadOf contents k e n
ahead_on contents k d e n h (Last i) = absurd (on_here k d (contents (descent_page d)) e h i)
ahead_on contents k d e n h (On {e = f} {n = m} i a) = record { left = m; ahead = subst (λ v. IsAhead contents k v m) (on_one k d (contents (descent_page d)) e f h i) a; less = refl }

-- a lone walk over leaves and inner pages
pub walk_ahead : (contents : ℕ → Page) (k x leaf : ℕ) (pages : List ℕ) → Each (λ y. IsTreePage (contents y)) pages → IsWalk (λ y. node_of (contents y)) k x pages leaf → IsAhead contents k (At x) (length pages)
walk_ahead contents k x leaf pages h (Ends level covers) = Last (h.0, covers, level)
walk_ahead contents k x leaf pages h (Right {leaf = l} {pages = rest} beyond walk) = On (inl (refl, inr (h.0, beyond))) (walk_ahead contents k _ l rest h.1 walk)
walk_ahead contents k x leaf pages h (Down {c = c} {leaf = l} {pages = rest} above covers of walk) = On (inr (h.0, covers, above, of)) (walk_ahead contents k c l rest h.1 walk)
