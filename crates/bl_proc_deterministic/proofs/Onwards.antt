-- A page leads somewhere, and to one place alone.
use Rattle.std.proofs.Common.{ℕ, ◌≡◌, ◌<◌, ◌^◌, Some, arith, ap, sym, ◌∙◌, refl, inl, inr}
use Rattle.std.proofs.lemmas.Bool.{cases_lt, cases_eq}
use Rattle.bl_page.specs.declared.page.Page.{Page}
use Rattle.bl_page.specs.declared.page.Inner.{Inner as InnerPage}
use Rattle.bl_page.specs.declared.page.Page.TheVariants.{Anchor, Leaf, Inner, Dead}
use Rattle.bl_page.specs.Pairs.{IsChildFor, IsWithin, end_of, place}
use Rattle.bl_page.proofs.Lookups.{child_before, child_at_place, place-some}
use Rattle.bl_model.specs.Rows.{map_of}
use Rattle.bl_model.specs.Map.{Map}
use Rattle.bl_page.specs.Nodes.{Covers, node_of, IsTreePage, IsChildOf}
use Rattle.bl_proc_routes.specs.declared.routes.Step.{Step}
use Rattle.bl_proc_routes.specs.declared.routes.Step.TheVariants.{Again, Right, Down, Here}
use Rattle.bl_proc_routes.specs.Routes.{IsDead, Leads}

-- no page is dead and of the tree
dead_tree : (c : Page) → IsDead c → IsTreePage c → ⊥
dead_tree (Anchor a) d t = t
dead_tree (Leaf l) d t = d
dead_tree (Inner i) d t = d
dead_tree (Dead e) d t = t

-- a page of the tree covers its low
low_below : (c : Page) → IsTreePage c → (node_of c).shape.low < (node_of c).shape.end
low_below (Anchor a) t = absurd t
low_below (Leaf l) t = l.bounds
low_below (Inner i) t = i.bounds
low_below (Dead e) t = absurd t

-- the greatest listed key not above a key has one child
pub child_one : (look : Map) (k x y : ℕ) → IsChildOf look k x → IsChildOf look k y → x ≡ y
child_one look k x y a b =
    let up = a.greatest b.key y b.listed b.reached in
    let down = b.greatest a.key x a.listed a.reached in
    let same : a.key ≡ b.key = omega arith in
    let both : Some x ≡ Some y = sym a.listed ∙ (ap look same ∙ b.listed) in
    cc

module _ (c : Page) (key level : ℕ) where
  again_right : (x : ℕ) → Leads c key level Again → Leads c key level (Right x) → ⊥
  again_right x a b = elim b.1 [
    | inl d ↦ d.1 (a.0 d.0)
    | inr t ↦ elim (a.1 t.0) [ inl low ↦ (let w = low_below c t.0 in omega arith) | inr in_it ↦ omega arith ]
  ]

  again_down : (x : ℕ) → Leads c key level Again → Leads c key level (Down x) → ⊥
  again_down x a b = elim (a.1 b.0) [ inl low ↦ (let h = b.1 in omega arith) | inr in_it ↦ omega arith ]

  again_here : Leads c key level Again → Leads c key level Here → ⊥
  again_here a b = elim (a.1 b.0) [ inl low ↦ (let h = b.1 in omega arith) | inr in_it ↦ omega arith ]

  right_covers : (x : ℕ) → Leads c key level (Right x) → IsTreePage c → Covers (node_of c).shape key → ⊥
  right_covers x a t in_it = elim a.1 [ inl d ↦ dead_tree c d.0 t | inr b ↦ omega arith ]

  down_here : (x : ℕ) → Leads c key level (Down x) → Leads c key level Here → ⊥
  down_here x a b = omega arith

  pub leads_one : (o o' : Step) → Leads c key level o → Leads c key level o' → o ≡ o'
  leads_one Again Again a b = refl
  leads_one Again (Right y) a b = absurd (again_right y a b)
  leads_one Again (Down y) a b = absurd (again_down y a b)
  leads_one Again Here a b = absurd (again_here a b)
  leads_one (Right x) Again a b = absurd (again_right x b a)
  leads_one (Right x) (Right y) a b = ap Right (a.0 ∙ sym b.0)
  leads_one (Right x) (Down y) a b = absurd (right_covers x a b.0 b.1)
  leads_one (Right x) Here a b = absurd (right_covers x a b.0 b.1)
  leads_one (Down x) Again a b = absurd (again_down x b a)
  leads_one (Down x) (Right y) a b = absurd (right_covers y b a.0 a.1)
  leads_one (Down x) (Down y) a b = ap Down (child_one (node_of c).look key x y a.3 b.3)
  leads_one (Down x) Here a b = absurd (down_here x a b)
  leads_one Here Again a b = absurd (again_here b a)
  leads_one Here (Right y) a b = absurd (right_covers y b a.0 a.1)
  leads_one Here (Down y) a b = absurd (down_here y b a)
  leads_one Here Here a b = refl

pub child_of : (i : InnerPage) (key : ℕ) → IsWithin i.low i.high key → (x : ℕ) × IsChildOf (map_of i.children.items) key x
child_of i key in_it =
    let some = place-some i.low key i.children.items i.first in_it.0 in
    let is : IsChildFor i.children.items key (child_before (place key i.children.items) i.children.items) = child_at_place 0 key i.children.items i.order some in
    (child_before (place key i.children.items) i.children.items, record { key = is.key; listed = is.listed; reached = is.reached; greatest = is.greatest })

pub leads_some : (c : Page) (key level : ℕ) → (o : Step) × Leads c key level o
leads_some (Anchor a) key level = (Again, (λ d. absurd d, λ t. absurd t))
leads_some (Leaf l) key level = elim (cases_lt key l.low) [
  | inl low ↦ (Again, (λ d. absurd d, λ t. inl low))
  | inr from ↦ elim (cases_lt key (end_of l.high)) [
    | inl in_it ↦ elim (cases_eq level 0) [
      | inl e ↦ (Here, (tt, (from, in_it), sym e))
      | inr ne ↦ (Again, (λ d. absurd d, λ t. inr ((from, in_it), omega arith)))
    ]
    | inr past ↦ (Right l.right, (refl, inr (tt, past)))
  ]
]
leads_some (Inner i) key level = elim (cases_lt key i.low) [
  | inl low ↦ (Again, (λ d. absurd d, λ t. inl low))
  | inr from ↦ elim (cases_lt key (end_of i.high)) [
    | inl in_it ↦ elim (cases_lt level i.level) [
      | inl above ↦ (let c = child_of i key (from, in_it) in (Down c.0, (tt, (from, in_it), above, c.1)))
      | inr le ↦ elim (cases_eq i.level level) [
        | inl e ↦ (Here, (tt, (from, in_it), e))
        | inr ne ↦ (Again, (λ d. absurd d, λ t. inr ((from, in_it), omega arith)))
      ]
    ]
    | inr past ↦ (Right i.right, (refl, inr (tt, past)))
  ]
]
leads_some (Dead d) key level = elim (cases_eq d.right 0) [
  | inl e ↦ (Again, (λ t. e, λ t. absurd t))
  | inr n ↦ (Right d.right, (refl, inl (tt, n)))
]

-- a link to the right is a page's number, or 0
pub right_small : (c : Page) (key level y : ℕ) → Leads c key level (Right y) → y < 2 ^ 32
right_small (Anchor a) key level y h = elim h.1 [ inl d ↦ absurd d.0 | inr t ↦ absurd t.0 ]
right_small (Leaf l) key level y h = (let e = h.0 in let link = l.link in omega arith)
right_small (Inner i) key level y h = (let e = h.0 in let link = i.link in omega arith)
right_small (Dead d) key level y h = (let e = h.0 in let link = d.link in omega arith)
