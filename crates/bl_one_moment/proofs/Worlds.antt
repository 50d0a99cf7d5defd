-- Each moment of good worlds is firm, since processes get pages that they may get, and these are not fresh.
use Rattle.std.proofs.Common.{ℕ, ◌≡◌, ◌≢◌, ◌⊎◌, ◌<◌, ◌++◌, [], ◌∷◌, length, length-append, refl, arith, ap, sym, subst, ◌∙◌, inl, inr}
use Rattle.bl_model.specs.Map.{Map}
use Rattle.bl_model.specs.declared.operation.Reply.{Reply}
use Rattle.bl_page.specs.declared.page.Page.{Page}
use Rattle.bl_page.specs.declared.page.Page.TheVariants.{Anchor, Leaf, Inner, Dead}
use Rattle.bl_page.specs.Machine.{State, Act, Changes, Steps}
use Rattle.bl_page.specs.Nodes.{roots_of, IsTreePage}
use Rattle.bl_tree.specs.Trees.{Status}
use Rattle.bl_tree.specs.Trees.Status.{Free, Fresh, Live, Left, Right, Uprooted, Gone, Anchored}
use Rattle.bl_tree.proofs.Statuses.{live_live, left_live, right_live, uprooted_live}
use Rattle.bl_claims.specs.Trails.{Mark, Trail}
use Rattle.bl_claims.specs.Moments.{IsFresh}
use Rattle.std.proofs.lemmas.Bool.{false≢true}
use Rattle.bl_page.specs.Machine.{Name}
use Rattle.bl_tree_worlds.specs.Worlds.{Know, World, was_in, MayGet, IsGood}
use Rattle.bl_tree_worlds.proofs.Steady.{fresh_not}
use Rattle.bl_tree_worlds.proofs.WorldLaws.{wide_bound}
use Rattle.bl_one_moment.specs.Moments.{IsFirm, FirmMoment, HasFirmMoments}
use Rattle.bl_one_moment.proofs.Living.{fresh_step}
use Rattle.bl_one_moment.proofs.Living.Becomes.{Same}

no_roots : (c : Page) → 0 < (roots_of c).levels → IsTreePage c → ⊥
no_roots (Anchor a) h k = k
no_roots (Leaf l) h k = absurd (omega arith)
no_roots (Inner i) h k = absurd (omega arith)
no_roots (Dead d) h k = k

-- the first mark of a trail, or another one where it has none; and the trail behind it
abbrev first_of : Mark → Trail → Mark
first_of other [] = other
first_of other (m ∷ ms) = m

abbrev rest_of : Trail → Trail
rest_of [] = []
rest_of (m ∷ ms) = ms

last_same : (xs ys : Trail) (a b : Mark) → xs ++ a ∷ [] ≡ ys ++ b ∷ [] → a ≡ b
last_same [] [] a b e = ap (first_of a) e
last_same [] (y ∷ ys) a b e = absurd (let none : length (ys ++ b ∷ []) ≡ 0 = ap (λ (l : Trail). length (rest_of l)) (sym e) in let some = length-append ys (b ∷ []) in omega (arith, none, some))
last_same (x ∷ xs) [] a b e = absurd (let none : length (xs ++ a ∷ []) ≡ 0 = ap (λ (l : Trail). length (rest_of l)) e in let some = length-append xs (a ∷ []) in omega (arith, none, some))
last_same (x ∷ xs) (y ∷ ys) a b e = last_same xs ys a b (ap rest_of e)

no_gone : {P : Type 0} (know : P → Know) (w : World P) (x : ℕ) → IsGood know w → w.status x ≡ Gone → IsTreePage (w.now.contents x) → ⊥
no_gone know w x g gone kind = let end = (g.gone x gone).end in let wide = wide_bound (w.now.contents x) kind in absurd (omega arith)

-- a leaf or an inner page that is not fresh in the tree is none that nothing leads to yet
none_fresh : {P : Type 0} (know : P → Know) (w : World P) (x : ℕ) → IsGood know w → IsTreePage (w.now.contents x) → IsFresh w.now w.trail x → w.status x ≢ Fresh → ⊥
none_fresh know w x g kind f other = by_status x kind f other (w.status x) refl
  where
    by_status : (x : ℕ) → IsTreePage (w.now.contents x) → IsFresh w.now w.trail x → w.status x ≢ Fresh → (s : Status) → w.status x ≡ s → ⊥
    by_status x kind f other Free e = let o = g.owned.free x e in let k = f.held in cc
    by_status x kind f other Fresh e = other e
    by_status x kind f other Live e = g.names.named x (rw e live_live) f
    by_status x kind f other (Left y) e = g.names.named x (rw e (left_live y)) f
    by_status x kind f other (Right y) e = g.names.named x (rw e (right_live y)) f
    by_status x kind f other Uprooted e = g.names.named x (rw e uprooted_live) f
    by_status x kind f other Gone e = no_gone know w x g e kind
    by_status x kind f other Anchored e = no_roots (w.now.contents 0) g.tree.some_level (rw (g.owned.one_anchor x e) at kind)

-- before anything has happened
pub firm_first : {P : Type 0} (know : P → Know) (w : World P) → IsGood know w → w.trail ≡ [] → IsFirm w.now w.trail
firm_first know w g none = record {
  retired = λ x time e kind. no_gone know w x g (g.owned.retired x time e).0 kind;
  got = λ before m x split act kind f. absurd (none_ends before m (sym split ∙ none));
}
  where
    none_ends : (before : Trail) (m : Mark) → before ++ m ∷ [] ≡ [] → ⊥
    none_ends [] m e = cc
    none_ends (k ∷ ks) m e = cc

-- the pages that a process may get are not fresh
may_get_not_fresh : {P : Type 0} (w : World P) (p : Name) (x : ℕ) → MayGet w p x → w.status x ≢ Fresh
may_get_not_fresh w p x may e = false≢true (sym fresh_not ∙ (ap was_in (sym e) ∙ may.was))

anchor_not_fresh : {P : Type 0} (know : P → Know) (w : World P) → IsGood know w → w.status 0 ≢ Fresh
anchor_not_fresh know w g e = let a = g.tree.anchored in cc

-- After one event more a good world is firm, if the page that the event gets is one that its process may get.
pub firm_push : {P : Type 0} (know : P → Know) (w v : World P) (mark : Mark) → IsGood know w → IsGood know v → Steps w.now mark.event v.now → v.trail ≡ w.trail ++ mark ∷ []
    → ((x : ℕ) → mark.event.act ≡ Act.Get x → (x ≡ 0) ⊎ MayGet w mark.event.process x) → IsFirm v.now v.trail
firm_push know w v mark g h steps is may = record {
  retired = λ x time e kind. no_gone know v x h (h.owned.retired x time e).0 kind;
  got = λ before m x split act kind f.
      let same : m ≡ mark = last_same before w.trail m mark (sym split ∙ is) in
      let did : mark.event.act ≡ Act.Get x = ap (λ (k : Mark). k.event.act) (sym same) ∙ act in
      let changes : Changes {A = Reply} w.now mark.event.process (Act.Get x) v.now = subst (λ (z : Act Page Reply). Changes w.now mark.event.process z v.now) did steps.changes in
      let no_take : mark.event.act ≢ Act.Take x = λ e. (let both = sym did ∙ e in cc) in
      let was : IsFresh w.now w.trail x = fresh_step w.now v.now w.trail mark x no_take (Same (changes.1 x)) (subst (λ (l : Trail). IsFresh v.now l x) is f) in
      none_fresh know w x g (subst IsTreePage (changes.0 x) kind) was (elim (may x did) [
        | inl zero_is ↦ λ e. anchor_not_fresh know w g (ap w.status (sym zero_is) ∙ e)
        | inr can ↦ may_get_not_fresh w mark.event.process x can
      ]);
}

-- a beginning of a trail that has one event more
prefix_cases : (before after trail : Trail) (m : Mark) → trail ++ m ∷ [] ≡ before ++ after → (before ≡ trail ++ m ∷ []) ⊎ ((rest : Trail) × (trail ≡ before ++ rest))
prefix_cases [] after trail m e = inr (trail, refl)
prefix_cases (b ∷ bs) after [] m e =
    let ends : [] ≡ bs ++ after = ap rest_of e in
    let none : bs ≡ [] = empty_front bs after (sym ends) in
    inl (sym (ap (λ (z : Mark × Trail). z.0 ∷ z.1) (λ i. (ap (first_of m) e i, sym none i))))
  where
    empty_front : (xs ys : Trail) → xs ++ ys ≡ [] → xs ≡ []
    empty_front [] ys e = refl
    empty_front (x ∷ xs) ys e = absurd cc
prefix_cases (b ∷ bs) after (t ∷ ts) m e =
    let head : t ≡ b = ap (first_of t) e in
    elim (prefix_cases bs after ts m (ap rest_of e)) [
      | inl all ↦ inl (ap (λ (z : Mark × Trail). z.0 ∷ z.1) (λ i. (sym head i, all i)))
      | inr r ↦ inr (r.0, ap (λ (z : Mark × Trail). z.0 ∷ z.1) (λ i. (head i, r.1 i)))
    ]

pub firm_on : (first : Map) (start later : State Page) (trail longer : Trail) (m : Mark) → later ≡ start → longer ≡ trail ++ m ∷ [] → HasFirmMoments first start trail → FirmMoment first later longer → HasFirmMoments first later longer
firm_on first start later trail longer m es et all last before after split = elim (prefix_cases before after trail m (sym et ∙ split)) [
  | inl whole ↦ subst (λ (l : Trail). FirmMoment first later l) (et ∙ sym whole) last
  | inr r ↦ subst (λ (s : State Page). FirmMoment first s before) (sym es) (all before r.0 r.1)
]

pub firm_alone : (first : Map) (start : State Page) → FirmMoment first start [] → HasFirmMoments first start []
firm_alone first start m [] after split = m
firm_alone first start m (k ∷ ks) after split = absurd cc
