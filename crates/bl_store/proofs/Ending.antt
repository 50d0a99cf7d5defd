-- What is left of the pages at the end of a store.
use Rattle.std.proofs.Common.{◌≡◌, ◌≢◌, ◌⊎◌, ℕ, ◌+◌, ◌-◌, ◌*◌, ◌%◌, ◌<◌, ◌≤◌, List, [], ◌∷◌, ◌++◌, length, replicate, get_or, sym, refl, ap, ◌∙◌, subst, inl, inr, ⊎_elim, arith, ext_get_or, add-one, set, get_or-set_other}
use mathlib.Core.Logic.{dite}
use mathlib.Core.Option.{some, some-injective}
use native.Mathlib.Decide.{ℕ_discrete}
use lib.ListN.{get_elem?}
use Rattle.std.proofs.lemmas.Grind.{get_or-set_at}
use Rattle.std.proofs.lemmas.List.{length-append}
use Rattle.atomic_table.specs.Table.{State, Final, Seen}
use Rattle.atomic_table.proofs.Lists.{at_longer, at_last}
use Rattle.bl_layout.specs.declared.layout.Layout.{Layout}
use Rattle.bl_layout.specs.Words.{frame_count}
use Rattle.bl_store_rule.specs.Pages.{Owner, Released, Open, Held, Retired, Pages, Stands}
use Rattle.bl_store_rule.specs.Frames.{page_at, owner_at, place_at, shown, used, OwnerIs, stage_of, IsLive, Kept, joined, taking_in}
use Rattle.bl_store.specs.Hands.{known}
use Rattle.bl_store.specs.Closing.{HasEach, left_of, IsClosed, IsGone}
use Rattle.bl_store.specs.declared.store.Hand.{Hand}
use Rattle.bl_store_rule.specs.declared.view.View.{View}
use Rattle.bl_store_rule.specs.declared.view.Stamp.{Stamp}
use Rattle.bl_store_rule.specs.declared.view.Stamp.TheVariants.{Out}
use Rattle.bl_store_rule.specs.declared.view.Sealing.TheVariants.{Unsealed, Sealed}
use Rattle.bl_store_rule.proofs.Lists.{at_below, there, one_there, index_of}

-- what was read of the page x
pub record IsLeft (ws : List ℕ) (l : Layout) (x : ℕ) (xs : List ℕ) : Type 0 where
  pub long : length xs ≡ 32
  pub gone : IsGone ws l x → xs ≡ replicate 32 0
  pub here : (IsGone ws l x → ⊥) → (k : ℕ) → k < 32 → get_or xs k 0 ≡ get_or ws (place_at l (get_or ws (page_at l x) 0 - 1) k) 0

-- one word more was read
pub word_on : (ws words : List ℕ) (first place i n : ℕ) → length words ≡ 32 → place < 32 → i ≡ first + place → get_elem? ws i ≡ some n → ((k : ℕ) → k < place → get_or words k 0 ≡ get_or ws (first + k) 0) → (k : ℕ) → k < place + 1 → get_or (set words place n) k 0 ≡ get_or ws (first + k) 0
word_on ws words first place i n long low i_is at old k less = dite (ℕ_discrete k place)
    (λ e. get_or-set_at words place k n 0 e (omega arith) ∙ (sym (index_of ws i 0 n at) ∙ ap (λ (z : ℕ). get_or ws z 0) (omega arith)))
    (λ ne. get_or-set_other words place k n 0 ne ∙ old k (omega arith))

-- one page more was read
pub left_on : (ws : List ℕ) (l : Layout) (page : ℕ) (room more : List (List ℕ)) (xs : List ℕ) → more ≡ room ++ xs ∷ [] → length room ≡ page → IsLeft ws l page xs → ((x : ℕ) (ys : List ℕ) → get_elem? room x ≡ some ys → IsLeft ws l x ys)
    → (x : ℕ) (ys : List ℕ) → get_elem? more x ≡ some ys → IsLeft ws l x ys
left_on ws l page room more xs is size new old x ys at = let at' : get_elem? (room ++ xs ∷ []) x ≡ some ys = ap (λ (z : List (List ℕ)). get_elem? z x) (sym is) ∙ at in let low = at_below (room ++ xs ∷ []) x ys at' in let long = length-append room (xs ∷ []) in dite (ℕ_discrete x page)
    (λ e. let same : xs ≡ ys = some-injective xs ys (sym (at_last room xs page size) ∙ (ap (get_elem? (room ++ xs ∷ [])) (sym e) ∙ at')) in subst (λ (z : ℕ × List ℕ). IsLeft ws l z.0 z.1) (λ i. (sym e i, same i)) new)
    (λ ne. let c = there room x (omega arith) in let same : c.0 ≡ ys = some-injective c.0 ys (sym (at_longer room (xs ∷ []) x c.0 c.1) ∙ at') in old x ys (c.1 ∙ ap (λ (z : List ℕ). some z) same))

module _ {D : Type 0} where
  -- the seat has the hand n, which knows d, or has taken it in
  abbrev pub IsWith : View D → ℕ → D → Type 0
  IsWith v n d = ((v.number ≡ n) × (v.known ≡ d)) ⊎ ((i : ℕ) × (get_elem? v.joined i ≡ some (joined n d)))

  pub with_more : (v w : View D) (n : ℕ) (d : D) → IsWith v n d → IsWith (taking_in v w) n d
  with_more v w n d = ⊎_elim inl (λ (h : (i : ℕ) × (get_elem? v.joined i ≡ some (joined n d))). inr (h.0 + 1, ap (get_elem? (joined w.number w.known ∷ v.joined)) (add-one h.0) ∙ h.1))

  -- the hands of a beginning stand where they stood
  pub still_there : (all hands rest : List (Hand D)) (last : Hand D) → hands ≡ rest ++ last ∷ [] → ((k : ℕ) (h : Hand D) → get_elem? hands k ≡ some h → get_elem? all k ≡ some h) → (k : ℕ) (h : Hand D) → get_elem? rest k ≡ some h → get_elem? all k ≡ some h
  still_there all hands rest last is old k h at = old k h (ap (λ (z : List (Hand D)). get_elem? z k) is ∙ at_longer rest (last ∷ []) k h at)

  -- the last hand of a beginning has been taken
  pub last_taken : (all hands rest : List (Hand D)) (last : Hand D) (v : View D) → hands ≡ rest ++ last ∷ [] → ((k : ℕ) (h : Hand D) → get_elem? hands k ≡ some h → get_elem? all k ≡ some h) → IsWith v last.number (known last.seat)
      → ((k : ℕ) (h : Hand D) → length hands ≤ k → get_elem? all k ≡ some h → IsWith v h.number (known h.seat)) → (k : ℕ) (h : Hand D) → length rest ≤ k → get_elem? all k ≡ some h → IsWith v h.number (known h.seat)
  last_taken all hands rest last v is old with old_with k h low at = let size = length-append rest (last ∷ []) in let count : length hands ≡ length (rest ++ last ∷ []) = ap length is in dite (ℕ_discrete k (length rest))
      (λ e. let here : get_elem? hands k ≡ some last = ap (λ (z : List (Hand D)). get_elem? z k) is ∙ (ap (get_elem? (rest ++ last ∷ [])) e ∙ at_last rest last (length rest) refl) in let same : last ≡ h = one_there all k last h (old k last here) at in
      subst (λ (z : Hand D). IsWith v z.number (known z.seat)) same with)
      (λ ne. old_with k h (omega arith) at)

  module _ (l : Layout) (first : D) (holds : Pages D → Type 0) where
    abbrev Rule : State (Unit {0}) (View D) → Type 0
    Rule = Kept l first holds

    -- a page's word names a frame, or none
    pub framed : (id : ℕ) (v : View D) (ws : List ℕ) (xs : List (Unit {0})) → Final (Seen Rule id v) ws xs → (x : ℕ) → x < l.pages → get_or ws (page_at l x) 0 ≤ frame_count l
    framed id v ws xs f x low = let r = f.1.0 in let orderly = r.orderly in let counts = orderly.contents in let total = r.shows.frame_total in let counted = orderly.versions in let page = there r.pages.contents x (omega arith) in let put = there r.pages.versions x (omega arith) in
        subst (λ (z : List ℕ). get_or z (page_at l x) 0 ≤ frame_count l) f.2
        (⊎_elim (λ (e : (get_or f.0.words (page_at l x) 0 ≡ 0) × (page.0 ≡ replicate 32 0)). let none = e.0 in omega arith)
        (λ (e : (g : ℕ) × (get_or f.0.words (page_at l x) 0 ≡ g + 1) × (get_elem? r.frames g ≡ some (used (shown x put.0) page.0))). let is = e.1 in let inside = at_below r.frames e.0 (used (shown x put.0) page.0) e.2 in omega arith)
        (r.shows.page x put.0 page.0 page.1 put.1))

    -- no page is retired but by its word
    shown_retired : (s : State (Unit {0}) (View D)) (r : Rule s) (id : ℕ) (v : View D) (hands : List (Hand D)) → get_elem? s.views id ≡ some v → IsLive v → v.sealing ≡ Unsealed → HasEach l.passes hands → ((k : ℕ) (h : Hand D) → get_elem? hands k ≡ some h → IsWith v h.number (known h.seat))
        → (x t : ℕ) → get_elem? r.pages.owners x ≡ some (Retired t) → get_or s.words (owner_at l x) 0 ≡ 4 * t + 3
    shown_retired s r id v hands at live unsealed each with x t e = ⊎_elim (λ h. h)
        (λ (h : (j : ℕ) × (u : View D) × (get_elem? s.views j ≡ some u) × IsLive u × (u.sealing ≡ Sealed x t)). let u : View D = h.1 in let mine = r.seats id v at live in let theirs = r.seats h.0 u h.2 h.3 in let a = mine.counted in let b = theirs.counted in let c = theirs.dealt in
        let hand = each u.number (omega arith) in let number = hand.3 in absurd (⊎_elim
        (λ (w : (v.number ≡ hand.1.number) × (v.known ≡ known hand.1.seat)). let same = w.0 in dite (ℕ_discrete h.0 id)
        (λ is. let one : v ≡ u = one_there s.views id v u at (ap (get_elem? s.views) (sym is) ∙ h.2) in let no : Unsealed ≡ Sealed x t = sym unsealed ∙ (ap (λ (z : View D). z.sealing) one ∙ h.4) in cc)
        (λ ne. ⊎_elim (λ (z : u.upto ≤ v.number). omega arith) (λ (z : v.upto ≤ u.number). omega arith) (r.apart.hands h.0 id u v h.2 at h.3 live ne)))
        (λ (w : (i : ℕ) × (get_elem? v.joined i ≡ some (joined hand.1.number (known hand.1.seat)))). ⊎_elim (λ (z : hand.1.number < u.number). omega arith) (λ (z : u.upto ≤ hand.1.number). omega arith) (r.apart.joined id h.0 v u at h.2 live h.3 w.0 (joined hand.1.number (known hand.1.seat)) w.1))
        (with hand.0 hand.1 hand.2)))
        (r.sealing x t e)

    in_use : (s : State (Unit {0}) (View D)) (r : Rule s) (x : ℕ) (words xs : List ℕ) → get_elem? r.pages.contents x ≡ some words → (get_or s.words (owner_at l x) 0 ≢ 0) → (get_or s.words (owner_at l x) 0 % 4 ≢ 3) → IsLeft s.words l x xs → xs ≡ words
    in_use s r x words xs here some_owner unretired left = let orderly = r.orderly in let counts = orderly.contents in let counted = orderly.versions in let inside = at_below r.pages.contents x words here in let put = there r.pages.versions x (omega arith) in let n : ℕ = get_or s.words (page_at l x) 0 in let size = left.long in ⊎_elim
        (λ (e : (n ≡ 0) × (words ≡ replicate 32 0)). left.gone (inr (inr e.0)) ∙ sym e.1)
        (λ (e : (f : ℕ) × (n ≡ f + 1) × (get_elem? r.frames f ≡ some (used (shown x put.0) words))). let up = e.1 in let was = r.shows.frame e.0 (used (shown x put.0) words) e.2 in let back : n - 1 ≡ e.0 = omega arith in let full = was.1 in
        ext_get_or 0 xs words (size ∙ sym full)
        (λ k low. left.here (⊎_elim some_owner (⊎_elim unretired (λ (z : n ≡ 0). omega arith))) k (omega arith) ∙ (ap (λ (z : ℕ). get_or s.words (place_at l z k) 0) back ∙ was.3 k (omega arith))))
        (r.shows.page x put.0 words here put.1)

    pub closes : (id : ℕ) (v : View D) (ws : List ℕ) (xs : List (Unit {0})) (hands : List (Hand D)) (result : List (List ℕ)) → IsLive v → v.stamp ≡ Out → v.sealing ≡ Unsealed → Final (Seen Rule id v) ws xs → HasEach l.passes hands
        → ((k : ℕ) (h : Hand D) → get_elem? hands k ≡ some h → IsWith v h.number (known h.seat)) → length result ≡ l.pages → ((x : ℕ) (words : List ℕ) → get_elem? result x ≡ some words → IsLeft ws l x words) → IsClosed holds l hands result
    closes id v ws xs hands result live out unsealed f each with size left = let s : State (Unit {0}) (View D) = f.0 in let r : Rule s = f.1.0 in let at = f.1.1 in let mine = r.seats id v at live in record {
      pages = r.pages;
      orderly = r.orderly;
      kept = r.kept;
      stand = λ k h at_k. ⊎_elim
          (λ (w : (v.number ≡ h.number) × (v.known ≡ known h.seat)). subst (λ (z : ℕ × Stamp × D). Stands r.pages z.0 (stage_of z.1) z.2) (λ i. (w.0 i, out i, w.1 i)) mine.stands)
          (λ (w : (i : ℕ) × (get_elem? v.joined i ≡ some (joined h.number (known h.seat)))). (mine.joined w.0 (joined h.number (known h.seat)) w.1).0)
          (with k h at_k);
      count = size;
      words = λ x words owner page. let orderly = r.orderly in let counts = orderly.contents in let low = at_below r.pages.contents x words page.0 in let here = there result x (omega arith) in
          let left_x : IsLeft s.words l x here.0 = subst (λ (z : List ℕ). IsLeft z l x here.0) (sym f.2) (left x here.0 here.1) in
          here.1 ∙ ap (λ (z : List ℕ). some z) (what s r x words here.0 page.0 owner (λ t e. shown_retired s r id v hands at live unsealed each with x t (page.1 ∙ ap (λ (z : Owner). some z) e)) left_x (r.shows.owner x owner page.1));
    }
      where
        what : (s : State (Unit {0}) (View D)) (r : Rule s) (x : ℕ) (words xs : List ℕ) → get_elem? r.pages.contents x ≡ some words → (owner : Owner) → ((t : ℕ) → owner ≡ Retired t → get_or s.words (owner_at l x) 0 ≡ 4 * t + 3) → IsLeft s.words l x xs → OwnerIs (get_or s.words (owner_at l x) 0) owner → xs ≡ left_of owner words
        what s r x words xs here Released retired left is = left.gone (inl is)
        what s r x words xs here Open retired left is = in_use s r x words xs here (λ e. omega arith) (λ e. omega arith) left
        what s r x words xs here (Held n) retired left is = in_use s r x words xs here (λ e. omega arith) (λ e. omega arith) left
        what s r x words xs here (Retired t) retired left is = let word = retired t refl in left.gone (inr (inl (omega arith)))
