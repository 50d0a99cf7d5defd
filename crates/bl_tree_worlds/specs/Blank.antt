-- A world in which nothing has happened.
use Rattle.std.specs.Prelude.{◌≡◌, ◌≢◌, ◌⊎◌, ℕ, ◌<◌, None, []}
use Rattle.bl_page.specs.Machine.{Name, Owner}
use Rattle.bl_page.specs.Machine.Owner.{Released}
use Rattle.bl_page.specs.Machine.Phase.{Waiting}
use Rattle.bl_page.specs.Nodes.{unbounded}
use Rattle.bl_tree.specs.Trees.{IsTree}
use Rattle.bl_tree.specs.Trees.Status.{Free, Live, Anchored}
use Rattle.bl_tree_worlds.specs.Worlds.{Stage, Know, World, tree_of, IsBounded}

-- the process has done nothing, and has nothing
pub record IsBlank (k : Know) : Type 0 where
  pub stage : k.stage ≡ Stage.Early
  pub said : k.said ≡ None
  pub holds : k.holds ≡ []
  pub goes : k.goes ≡ []
  pub children : k.children ≡ []
  pub passed : k.passed ≡ None
  pub sound : k.sound

-- Its pages are a tree that says what the first map says; those of the tree are open and all others released.
pub record IsStart {P : Type 0} (know : P → Know) (w : World P) : Type 0 where
  pub start : w.now ≡ w.start
  pub trail : w.trail ≡ []
  pub waiting : (p : Name) → w.now.phase p ≡ Waiting
  pub tree : IsTree unbounded (tree_of w)
  pub map : (k : ℕ) → w.map 0 k ≡ w.first k
  pub bounded : IsBounded (w.map 0)
  pub owned : (x : ℕ) → ((w.now.owner x ≡ Owner.Open) × ((w.status x ≡ Live) ⊎ (w.status x ≡ Anchored))) ⊎ ((w.now.owner x ≡ Released) × (w.status x ≡ Free))
  pub small : (x : ℕ) → w.status x ≢ Free → x < w.size
  pub one_anchor : (x : ℕ) → w.status x ≡ Anchored → x ≡ 0
  pub blank : (p : Name) → IsBlank (know (w.proc p))
