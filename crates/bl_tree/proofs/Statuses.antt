-- Which statuses are live.
use Rattle.std.proofs.Common.{ℕ, ◌≡◌, ◌≢◌, ◌<◌, false, true, refl, ap, sym, subst, ◌∙◌}
use Rattle.std.proofs.lemmas.Bool.{false≢true}
use Rattle.std.proofs.Math.Path.{fun_ext}
use Rattle.bl_page.specs.Machine.{IsAt}
use Rattle.bl_page.specs.Nodes.{Shape, Node, Roots, Covers}
use Rattle.bl_tree.specs.Trees.{Status, is_live, IsLive, IsShape, Tree, shapes, IsChild}
use Rattle.bl_tree.specs.Trees.Status.{Free, Fresh, Live, Left, Right, Uprooted, Gone, Anchored}

pub live_live : is_live Live ≡ true
unfolding is_live
live_live = refl

pub left_live : (y : ℕ) → is_live (Left y) ≡ true
unfolding is_live
left_live y = refl

pub right_live : (y : ℕ) → is_live (Right y) ≡ true
unfolding is_live
right_live y = refl

pub uprooted_live : is_live Uprooted ≡ true
unfolding is_live
uprooted_live = refl

pub gone_dead : is_live Gone ≡ false
unfolding is_live
gone_dead = refl

pub fresh_dead : is_live Fresh ≡ false
unfolding is_live
fresh_dead = refl

pub free_dead : is_live Free ≡ false
unfolding is_live
free_dead = refl

pub anchored_dead : is_live Anchored ≡ false
unfolding is_live
anchored_dead = refl

-- a live page is not one that is dead
pub not_dead : (st : ℕ → Status) (x z : ℕ) → is_live (st x) ≡ false → IsLive (st z) → z ≢ x
not_dead st x z d h i = absurd (false≢true (sym d ∙ (ap (λ v. is_live (st v)) (sym i) ∙ h)))

pub shape_at : {x : ℕ} {b : Node} {f f' : ℕ → Node} → IsAt x b f f' → IsAt x b.shape (shapes f) (shapes f')
shape_at w = record { at = ap (λ v. v.shape) w.at; others = λ z n. ap (λ v. v.shape) (w.others z n) }

-- the shapes matter one by one
pub same_shapes : {top : ℕ} {st st' : ℕ → Status} {shape shape' : ℕ → Shape} {sep sep' : ℕ → ℕ} → st' ≡ st → ((z : ℕ) → shape' z ≡ shape z) → sep' ≡ sep → IsShape top st shape sep → IsShape top st' shape' sep'
same_shapes a b c g = rw (a, fun_ext b, c) g

-- the leftmost pages where page 0 says what it said
pub same_leftmost : {r r' : Roots} {t : Tree} → r' ≡ r → ((l : ℕ) → l < r.levels → IsChild t l 0 (r.leftmost l)) → (l : ℕ) → l < r'.levels → IsChild t l 0 (r'.leftmost l)
same_leftmost {t = t} e f = subst (λ (q : Roots). (l : ℕ) → l < q.levels → IsChild t l 0 (q.leftmost l)) (sym e) f

-- what another page covers on the same level is another key
pub not_here : {top : ℕ} {st : ℕ → Status} {shape : ℕ → Shape} {sep : ℕ → ℕ} (x z k j : ℕ) → IsShape top st shape sep → st x ≡ Live → IsLive (st z) → (shape z).level ≡ (shape x).level → Covers (shape x) k → Covers (shape z) j → z ≢ x → j ≢ k
not_here {st = st} {shape = shape} x z k j g s h same c d zx jk = zx (g.apart z x k h (rw s live_live) same (rw jk at d) c (λ i. cc (g.left z x i)) (λ i. cc (g.right x z i)))

-- page 0 is no page of a level
pub not_anchor : (st : ℕ → Status) (x : ℕ) → IsLive (st x) → st 0 ≡ Anchored → 0 ≢ x
not_anchor st x h a i = not_dead st 0 x (rw a anchored_dead) h (sym i)
