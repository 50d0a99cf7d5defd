-- What one process does leaves to all others what they know.
use Rattle.std.proofs.Common.{ℕ, ◌≡◌, ◌≢◌, true, Option, Some, None, List, [], ◌∷◌, sym, ◌∙◌, inl, inr}
use Rattle.bl_page.specs.Machine.{Name}
use Rattle.bl_page.specs.Machine.Owner.{Held}
use Rattle.bl_tree.specs.Trees.{IsLive}
use Rattle.bl_claims.specs.Trails.{Mark}
use Rattle.bl_tree_worlds.specs.Worlds.{Hold, Goes, Child, Passed, Know, World, nodes, was_in, MayGet, IsHeld, IsGoes, IsRelied, IsPassed, IsSure, Extends}
use Rattle.bl_claims.specs.Walks.{Each}
use Rattle.bl_tree_worlds.proofs.Pushes.{name_cases, HasSaid-other}

pub Each-map : {A : Type 0} (P Q : A → Type 0) (xs : List A) → ((x : A) → P x → Q x) → Each P xs → Each Q xs
Each-map P Q [] f h = tt
Each-map P Q (x ∷ xs) f h = (f x h.0, Each-map P Q xs f h.1)

-- what an event of p leaves to the other processes
pub record Leaves {P : Type 0} (w w' : World P) (p : Name) : Type 0 where
  pub owner : (q : Name) (x : ℕ) → q ≢ p → w.now.owner x ≡ Held q → w'.now.owner x ≡ Held q
  pub contents : (q : Name) (x : ℕ) → q ≢ p → w.now.owner x ≡ Held q → w'.now.contents x ≡ w.now.contents x
  pub status : (q : Name) (x : ℕ) → q ≢ p → w.now.owner x ≡ Held q → w'.status x ≡ w.status x
  pub sep : (q : Name) (x : ℕ) → q ≢ p → w.now.owner x ≡ Held q → w'.sep x ≡ w.sep x
  pub relied : (q : Name) (c : Child) → q ≢ p → IsRelied w q c → IsLive (w'.status c.at) × (w'.sep c.at ≡ w.sep c.at)
  -- a page that was in the tree has its level until it is released, which no process that may get it can meet
  pub may : (q : Name) (x : ℕ) → q ≢ p → MayGet w q x → MayGet w' q x
  pub level : (x : ℕ) → was_in (w.status x) ≡ true → (nodes w'.now x).shape.level ≡ (nodes w.now x).shape.level
  pub live_was : (x : ℕ) → IsLive (w.status x) → was_in (w.status x) ≡ true
  pub phase : (q : Name) → q ≢ p → w'.now.phase q ≡ w.now.phase q
  pub passed : (s : Passed) → IsPassed w (Some s) → IsPassed w' (Some s)

held_kept : {P : Type 0} (p q : Name) (w w' : World P) → q ≢ p → Leaves w w' p → (h : Hold) → IsHeld w q h → IsHeld w' q h
held_kept p q w w' n f h i = record {
  owner = f.owner q h.at n i.owner;
  status = f.status q h.at n i.owner ∙ i.status;
  sep = rw (f.sep q h.at n i.owner) i.sep;
  page = rw (f.contents q h.at n i.owner) i.page;
}

goes_kept : {P : Type 0} (p q : Name) (w w' : World P) → q ≢ p → Leaves w w' p → (g : Goes) → IsGoes w q g → IsGoes w' q g
goes_kept p q w w' n f g i = record {
  may = f.may q g.page n i.may;
  least = rw (f.level g.page i.may.was) i.least;
  most = rw (f.level g.page i.may.was) i.most;
}

relied_kept : {P : Type 0} (p q : Name) (w w' : World P) → q ≢ p → Leaves w w' p → (c : Child) → IsRelied w q c → IsRelied w' q c
relied_kept p q w w' n f c i =
    let o = f.relied q c n i in
    record {
      owner = f.owner q c.parent n i.owner;
      status = f.status q c.parent n i.owner ∙ i.status;
      covers = rw (f.contents q c.parent n i.owner) i.covers;
      level = rw (f.contents q c.parent n i.owner, f.level c.at (f.live_was c.at i.alive)) i.level;
      alive = o.0;
      sep = o.1 ∙ i.sep;
    }

passed_kept : {P : Type 0} (p : Name) (w w' : World P) → Leaves w w' p → (s : Option Passed) → IsPassed w s → IsPassed w' s
passed_kept p w w' f None h = tt
passed_kept p w w' f (Some s) h = f.passed s h

-- the frame
pub others_sure : {P : Type 0} (w w' : World P) (m : Mark) (b : P) (q : Name) (k : Know) → Extends w w' m b → Leaves w w' m.event.process → q ≢ m.event.process → IsSure w q k → IsSure w' q k
others_sure w w' m b q k e f n h = record {
  stage = rw (f.phase q n) h.stage;
  said = rw e.trail (HasSaid-other w.trail m q k.said (λ i. n (sym i)) h.said);
  holds = Each-map (IsHeld w q) (IsHeld w' q) k.holds (held_kept m.event.process q w w' n f) h.holds;
  goes = Each-map (IsGoes w q) (IsGoes w' q) k.goes (goes_kept m.event.process q w w' n f) h.goes;
  children = Each-map (IsRelied w q) (IsRelied w' q) k.children (relied_kept m.event.process q w w' n f) h.children;
  passed = passed_kept m.event.process w w' f k.passed h.passed;
  sound = h.sound;
}

pub all_sure : {P : Type 0} (know : P → Know) (w w' : World P) (m : Mark) (b : P) → Extends w w' m b → Leaves w w' m.event.process → ((q : Name) → IsSure w q (know (w.proc q))) → IsSure w' m.event.process (know b) → (q : Name) → IsSure w' q (know (w'.proc q))
all_sure know w w' m b e f h own q = elim (name_cases q m.event.process) [
  | inl i ↦ rw (i, e.proc.at) own
  | inr n ↦ rw (e.proc.others q n) (others_sure w w' m b q (know (w.proc q)) e f n (h q))
]
