-- The world after an event, given from the world before it.
use Rattle.std.proofs.Common.{ℕ, ◌≡◌, ◌≢◌, ◌++◌, ◌==◌, true, false, if◌then◌else◌, [], ◌∷◌, arith, refl}
use Rattle.bl_page.specs.declared.page.Page.{Page}
use Rattle.bl_page.specs.Machine.{Name, State, Steps, IsAt}
use Rattle.bl_model.specs.Map.{Map}
use Rattle.bl_tree.specs.Trees.{Status}
use Rattle.bl_tree.specs.Moves.{IsAtTwo}
use Rattle.bl_claims.specs.Trails.{Mark, same_name, Saw}
use Rattle.bl_tree_worlds.proofs.Pushes.{same_self, not_same}
use Rattle.bl_tree_worlds.specs.Worlds.{World, Extends}

-- a function changed at one place, and at two
abbrev pub put_at : {A : Type 0} → ℕ → A → (ℕ → A) → ℕ → A
put_at x a f z = if z == x then a else f z

pub is_put_at : {A : Type 0} (x : ℕ) (a : A) (f : ℕ → A) → IsAt x a f (put_at x a f)
is_put_at x a f = record { at = grind arith; others = λ z n. grind arith }

pub is_put_two : {A : Type 0} (x y : ℕ) (a b : A) (f : ℕ → A) → x ≢ y → IsAtTwo x y a b f (put_at x a (put_at y b f))
is_put_two x y a b f n = record { at = grind arith; at_two = grind arith; others = λ z i j. grind arith }

abbrev pub put_name : {P : Type 0} → Name → P → (Name → P) → Name → P
put_name p b f q = if same_name q p then b else f q

pub is_put_name : {P : Type 0} (p : Name) (b : P) (f : Name → P) → IsAt p b f (put_name p b f)
is_put_name p b f = record {
  at = (let e : same_name p p ≡ true = same_self p in grind arith);
  others = λ q n. (let e : same_name q p ≡ false = not_same q p n in grind arith);
}

abbrev pub after : {P : Type 0} → World P → State Page → Mark → P → (ℕ → Status) → (ℕ → ℕ) → (ℕ → Map) → World P
after w now m b status sep map = record {
  start = w.start;
  first = w.first;
  size = w.size;
  now = now;
  trail = w.trail ++ m ∷ [];
  proc = put_name m.event.process b w.proc;
  status = status;
  sep = sep;
  map = map;
}

pub Extends-after : {P : Type 0} (w : World P) (now : State Page) (m : Mark) (b : P) (status : ℕ → Status) (sep : ℕ → ℕ) (map : ℕ → Map) → Steps w.now m.event now → Saw w.now m.event.act m.saw → Extends w (after w now m b status sep map) m b
Extends-after w now m b status sep map steps saw = record {
  start = refl;
  first = refl;
  size = refl;
  steps = steps;
  saw = saw;
  trail = refl;
  proc = is_put_name m.event.process b w.proc;
}
