-- What a search has got, and what is still ahead of it, together stay within its bound.
use Rattle.std.proofs.Common.{ℕ, ◌≡◌, ◌≤◌, ◌+◌, ◌*◌, ◌++◌, suc, [], ◌∷◌, length, arith, ap, sym, ◌∙◌}
use Rattle.std.proofs.Math.Nat.{mul-le-mul_left}
use Rattle.bl_page.specs.declared.page.Page.{Page}
use Rattle.bl_page.specs.Machine.{Name}
use Rattle.bl_page.specs.Machine.Act.{Begin}
use Rattle.bl_claims.specs.Trails.{Mark, Trail, DoesAt}
use Rattle.bl_tree_worlds.proofs.Pushes.{DoesAt-push, DoesAt-last}
use Rattle.bl_claims.specs.Bounds.{gets_by, puts_beside, gets_of, puts_near, most_gets}
use Rattle.bl_proc_bounds.specs.Paces.{Place, AreLeft, Spends}
use Rattle.bl_proc_bounds.proofs.Counts.{since_first, own_gets, other_puts, gets_on, puts_on, within_on, within_none}

pub most_rises : (pages a b : ℕ) → a ≤ b → most_gets pages a ≤ most_gets pages b
most_rises pages a b h = mul-le-mul_left pages (let i : 2 * a + 1 ≤ 2 * b + 1 = omega arith in i)

most_more : (pages a : ℕ) → most_gets pages a + 2 * pages ≡ most_gets pages (a + 1)
most_more pages a = omega arith

most_first : (pages : ℕ) → most_gets pages 0 ≡ pages
most_first pages = omega arith

module _ (size : ℕ) (contents contents' : ℕ → Page) (trail : Trail) (m : Mark) (p : Name) (k : ℕ) (old : Place) (s : Spends size contents trail p k old) where
  go_on : (new : Place) (left : ℕ) → AreLeft contents' k new left → gets_of p (trail ++ m ∷ []) + left ≤ most_gets size (puts_near p (trail ++ m ∷ [])) → Spends size contents' (trail ++ m ∷ []) p k new
  go_on new left ahead enough = record {
    begin = s.begin;
    begun = DoesAt-push trail m s.begun;
    within = within_on size p trail m s.within (omega (arith, enough));
    left = left;
    ahead = ahead;
    enough = enough;
  }

  -- an event at which it gets nothing, and after which as much is ahead
  pub spends_still : own_gets p m ≡ 0 → AreLeft contents' k old s.left → Spends size contents' (trail ++ m ∷ []) p k old
  spends_still none ahead =
      let gets = gets_on p trail m s.begin s.begun in
      let puts = puts_on p trail m s.begin s.begun in
      let more = most_rises size (puts_near p trail) (puts_near p (trail ++ m ∷ [])) (omega (arith, puts)) in
      let enough = s.enough in
      go_on old s.left ahead (omega (arith, gets, none, more, enough))

  -- a put of another, after which at most twice as many gets are ahead as there are pages
  pub spends_put : own_gets p m ≡ 0 → other_puts p m ≡ 1 → (left : ℕ) → left ≤ 2 * size → AreLeft contents' k old left → Spends size contents' (trail ++ m ∷ []) p k old
  spends_put none one left few ahead =
      let gets = gets_on p trail m s.begin s.begun in
      let puts : puts_near p (trail ++ m ∷ []) ≡ puts_near p trail + 1 = puts_on p trail m s.begin s.begun ∙ ap (λ v. puts_near p trail + v) one in
      let more : most_gets size (puts_near p trail) + 2 * size ≡ most_gets size (puts_near p (trail ++ m ∷ [])) = most_more size (puts_near p trail) ∙ ap (most_gets size) (sym puts) in
      let enough = s.enough in
      go_on old left ahead (omega (arith, gets, none, more, enough, few))

  -- its own get, after which one is ahead less
  pub spends_get : own_gets p m ≡ 1 → other_puts p m ≡ 0 → (new : Place) (left : ℕ) → suc left ≤ s.left → AreLeft contents' k new left → Spends size contents' (trail ++ m ∷ []) p k new
  spends_get one none new left less ahead =
      let gets = gets_on p trail m s.begin s.begun in
      let puts : puts_near p (trail ++ m ∷ []) ≡ puts_near p trail = puts_on p trail m s.begin s.begun ∙ (let z : puts_near p trail + other_puts p m ≡ puts_near p trail = omega (arith, none) in z) in
      let same : most_gets size (puts_near p trail) ≡ most_gets size (puts_near p (trail ++ m ∷ [])) = ap (most_gets size) (sym puts) in
      let enough = s.enough in
      go_on new left ahead (omega (arith, gets, one, same, enough, less))

  -- it has looked at a page, and has got none so far; no more gets are ahead than there are pages
  pub spends_first : own_gets p m ≡ 0 → gets_of p trail ≡ 0 → (new : Place) (left : ℕ) → left ≤ size → AreLeft contents' k new left → Spends size contents' (trail ++ m ∷ []) p k new
  spends_first none zero new left few ahead =
      let gets = gets_on p trail m s.begin s.begun in
      let more = most_rises size 0 (puts_near p (trail ++ m ∷ [])) (omega arith) in
      let first = most_first size in
      go_on new left ahead (omega (arith, gets, none, zero, few, more, first))

-- at its begin it has got nothing
pub none_got : (trail : Trail) (m : Mark) (p : Name) → ((i : ℕ) → DoesAt trail i p Begin → ⊥) → gets_of p (trail ++ m ∷ []) ≡ 0
none_got trail m p none = ap (gets_by p) (since_first p trail m none)

-- its begin, where no more gets are ahead than there are pages
pub spends_begin : (size : ℕ) (contents : ℕ → Page) (trail : Trail) (m : Mark) (p : Name) (k : ℕ) (place : Place) (left : ℕ) → m.event.process ≡ p → m.event.act ≡ Begin → ((i : ℕ) → DoesAt trail i p Begin → ⊥) → left ≤ size → AreLeft contents k place left → Spends size contents (trail ++ m ∷ []) p k place
spends_begin size contents trail m p k place left own begin none few ahead =
    let e = since_first p trail m none in
    let gets : gets_of p (trail ++ m ∷ []) ≡ 0 = ap (gets_by p) e in
    let puts : puts_near p (trail ++ m ∷ []) ≡ 0 = ap (puts_beside p) e in
    let first : most_gets size (puts_near p (trail ++ m ∷ [])) ≡ size = ap (most_gets size) puts ∙ most_first size in
    record {
      begin = length trail;
      begun = rw (sym own, sym begin) (DoesAt-last trail m);
      within = within_on size p trail m (within_none size p trail none) (omega (arith, gets));
      left = left;
      ahead = ahead;
      enough = omega (arith, gets, first, few);
    }
