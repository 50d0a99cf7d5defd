-- What the store shows of pages and their owners.
use Rattle.std.proofs.Common.{ℕ, ◌≡◌, ◌≢◌, ◌⊎◌, ◌<◌, zero, suc, List, [], ◌∷◌, set, length, refl, sym, ap, ◌∙◌, inl, inr, arith}
use mathlib.Core.Option.{Option, some, some-ne-none}
use mathlib.Core.Logic.{dite}
use native.Mathlib.Decide.{ℕ_discrete}
use lib.ListN.{get_elem?}
use Rattle.atomic_table.proofs.Lists.{set_here, set_else}
use Rattle.bl_page.specs.declared.page.Page.{Page}
use Rattle.bl_page.specs.declared.page.Page.TheVariants.{Anchor, Leaf, Inner, Dead}
use Rattle.bl_page.specs.Words.{words_of}
use Rattle.bl_page.specs.Machine.{Name}
use Rattle.bl_page.specs.Machine as machine
use Rattle.bl_page.specs.Nodes.{node_of}
use Rattle.bl_tree_worlds.specs.Worlds.{World, MayGet, IsGood}
use Rattle.bl_tree_worlds.proofs.Descents.{is_dead_page}
use Rattle.bl_proc_invariant.specs.Knowing.{Run, know}
use Rattle.bl_store_rule.specs.Pages.{Owner, Released, Open, Held, Retired, Stage}
use Rattle.bl_index_rule.specs.declared.known.PassState.{PassState}
use Rattle.bl_claims.specs.Seeing.{name}
use Rattle.bl_index_rule.specs.Simulation.{IsAnchor, Shows, number_in, owner_in}

module _ {A : Type 0} where
  pub at_below : (l : List A) (i : ℕ) (a : A) → get_elem? l i ≡ some a → i < length l
  at_below [] i a e = absurd (some-ne-none a (sym e))
  at_below (x ∷ xs) zero a e = omega arith
  at_below (x ∷ xs) (suc i) a e = let h = at_below xs i a e in omega arith

  pub set_there : (l : List A) (i : ℕ) (a b : A) → get_elem? l i ≡ some a → get_elem? (set l i b) i ≡ some b
  set_there l i a b e = set_here l i b (at_below l i a e)

pub shows_words : (x : ℕ) (words : List ℕ) (c : Page) → words ≡ words_of c → Shows x words c
shows_words zero words c e = e
shows_words (suc x) words c e = inl e

-- an anchor leads nowhere and is of no level above the leaves, so no process may get one as a page of the tree
anchor_end : (c : Page) → IsAnchor c → ((node_of c).shape.end ≡ 0) × ((node_of c).shape.right ≡ 0) × ((node_of c).shape.level ≡ 0)
anchor_end (Anchor a) h = (refl, refl, refl)
anchor_end (Leaf l) h = absurd h
anchor_end (Inner i) h = absurd h
anchor_end (Dead d) h = absurd h

no_anchor : (w : World Run) (p : Name) (x : ℕ) → IsGood know w → MayGet w p x → IsAnchor (w.now.contents x) → ⊥
no_anchor w p x good may is =
    let end = anchor_end (w.now.contents x) is in
    let gone = is_dead_page know w good p x may end.0 in
    absurd (let above = (good.gone x gone).above end.1 in omega (arith, end.2))

-- the words of a page that a process gets are the page's
pub got_words : (w : World Run) (p : Name) (x : ℕ) (words : List ℕ) → IsGood know w → (x ≡ 0) ⊎ MayGet w p x → Shows x words (w.now.contents x) → words ≡ words_of (w.now.contents x)
got_words w p zero words good may e = e
got_words w p (suc x) words good may e = elim e [
  | inl is ↦ is
  | inr blank ↦ elim may [
    | inl z ↦ absurd (omega arith)
    | inr m ↦ absurd (no_anchor w p (suc x) good m blank.1)
  ]
]

-- the hand at one place goes on, with as many processes begun
pub same_owner : (hands : List (Stage × PassState)) (n : ℕ) (h v : Stage × PassState) (o : Owner) → get_elem? hands n ≡ some h → v.1.number ≡ h.1.number → owner_in (set hands n v) o ≡ owner_in hands o
same_owner hands n h v Released at e = refl
same_owner hands n h v Open at e = refl
same_owner hands n h v (Retired t) at e = refl
same_owner hands n h v (Held k) at e = dite (ℕ_discrete k n)
    (λ is. ap (λ (z : ℕ). machine.Held (name k z)) (ap (λ (z : ℕ). number_in (get_elem? (set hands n v) z)) is ∙ (ap number_in (set_there hands n h v at) ∙ (e ∙ (ap number_in (sym at) ∙ ap (λ (z : ℕ). number_in (get_elem? hands z)) (sym is))))))
    (λ ne. ap (λ (z : Option (Stage × PassState)). machine.Held (name k (number_in z))) (set_else hands n k v ne))

-- or with another process, where it had no page
pub other_owner : (hands : List (Stage × PassState)) (n : ℕ) (v : Stage × PassState) (o : Owner) → o ≢ Held n → owner_in (set hands n v) o ≡ owner_in hands o
other_owner hands n v Released ne = refl
other_owner hands n v Open ne = refl
other_owner hands n v (Retired t) ne = refl
other_owner hands n v (Held k) ne = ap (λ (z : Option (Stage × PassState)). machine.Held (name k (number_in z))) (set_else hands n k v (λ e. ne (ap Held e)))

-- whose pages they are
pub is_held : (hands : List (Stage × PassState)) (n m : ℕ) (o : Owner) → owner_in hands o ≡ machine.Held (name n m) → o ≡ Held n
is_held hands n m Released e = (let z : machine.Released ≡ machine.Held (name n m) = e in cc)
is_held hands n m Open e = (let z : machine.Owner.Open ≡ machine.Held (name n m) = e in cc)
is_held hands n m (Held k) e = (let z : name k (number_in (get_elem? hands k)) ≡ name n m = cc in ap (λ (q : Name). Held q.pass) z)
is_held hands n m (Retired t) e = (let z : machine.Retired t ≡ machine.Held (name n m) = e in cc)

pub is_open : (hands : List (Stage × PassState)) (o : Owner) → o ≡ Open → owner_in hands o ≡ machine.Owner.Open
is_open hands o e = ap (owner_in hands) e

pub is_released : (hands : List (Stage × PassState)) (o : Owner) → o ≡ Released → owner_in hands o ≡ machine.Released
is_released hands o e = ap (owner_in hands) e

pub held_by : (hands : List (Stage × PassState)) (n : ℕ) (h : Stage × PassState) → get_elem? hands n ≡ some h → owner_in hands (Held n) ≡ machine.Held (name n h.1.number)
held_by hands n h at = ap (λ (z : Option (Stage × PassState)). machine.Held (name n (number_in z))) at
