-- The words of a store at its start, and the dealing of hands.
use Rattle.std.proofs.Common.{◌≡◌, ◌≢◌, ◌⊎◌, ℕ, zero, suc, ◌+◌, ◌-◌, ◌<◌, ◌≤◌, Bool, eqb, List, [], ◌∷◌, ◌++◌, length, replicate, get_or, set, sym, refl, ap, ◌∙◌, subst, inl, inr, ⊎_elim, arith, le_refl, length-set, get_or-set_other}
use mathlib.Core.Logic.{dite}
use mathlib.Core.Option.{some, some-injective}
use native.Mathlib.Decide.{ℕ_discrete}
use lib.ListN.{get_elem?}
use Rattle.std.proofs.lemmas.Grind.{get_or-set_at}
use Rattle.std.proofs.lemmas.List.{get_or_append_left, get_or-append_right, length-append}
use Rattle.atomic_table.specs.Table.{State, opening, Splits}
use Rattle.atomic_table.proofs.Lists.{at_set, set_else, set_again}
use Rattle.bl_layout.specs.declared.layout.Layout.{Layout}
use Rattle.bl_layout.specs.Words.{frame_count}
use Rattle.bl_layout.specs.Cells.{cell_count}
use Rattle.bl_store_rule.specs.Pages.{Owner, Released, Open, Retired, Stage, Idle, Running, Pages, IsOrderly, owned, written_as}
use Rattle.bl_store_rule.specs.Frames.{process_at, page_at, owner_at, state_at, place_at, drafted, shown, Frame, free, used, FrameIs, OwnerIs, ProcessIs, Knows, total_of, Shows, IsLive, Kept, share, starting}
use Rattle.bl_store_rule.specs.declared.view.View.{View}
use Rattle.bl_store_rule.specs.declared.view.Joined.{Joined}
use Rattle.bl_store_rule.proofs.Lists.{at_below, there, one_there, set_there}
use Rattle.bl_store_rule.specs.declared.view.Sealing.TheVariants.{Sealed}
use Rattle.bl_store_rule.proofs.Keeps.{shows_frame, shows_owner, orderly_owned, orderly_written, sealed_on}
use Rattle.std.proofs.Common.{map, take, take_all, length-take-le, true, false, ◌&&◌, if◌then◌else◌}
use Rattle.std.proofs.lemmas.Bool.{eqb-true}
use Rattle.std.proofs.lemmas.List.{take_more, length-map, length-replicate}
use mathlib.Core.Option.{some-ne-none}
use Rattle.atomic_table.proofs.Lists.{at_snoc, at_map, at_longer, at_last}
use Rattle.atomic_table.specs.Seated.{TableId}
use Rattle.bl_store.specs.declared.store.Hand.{Hand}
use Rattle.bl_room.specs.Blanks.{is_blank}
use Rattle.bl_store.specs.Opening.{first_owner, first_pages, padded, Laid, IsDealt}
use Rattle.bl_store_rule.proofs.Putting.{first_put, shows_put}

module _ {A : Type 0} where
  pub at_all : (n : ℕ) (a : A) (k : ℕ) → k < n → get_elem? (replicate n a) k ≡ some a
  at_all zero a k low = absurd (omega arith)
  at_all (suc n) a zero low = refl
  at_all (suc n) a (suc k) low = at_all n a k (omega arith)

  pub of_all : (n : ℕ) (a : A) (k : ℕ) (b : A) → get_elem? (replicate n a) k ≡ some b → a ≡ b
  of_all zero a k b e = absurd (some-ne-none b (sym e))
  of_all (suc n) a zero b e = some-injective a b e
  of_all (suc n) a (suc k) b e = of_all n a k b e

  -- two lists of one length that have the same elements are one list
  pub same_list : (xs ys : List A) → length xs ≡ length ys → ((i : ℕ) (a : A) → get_elem? ys i ≡ some a → get_elem? xs i ≡ some a) → xs ≡ ys
  same_list [] [] e each = refl
  same_list [] (y ∷ ys) e each = absurd (omega arith)
  same_list (x ∷ xs) [] e each = absurd (omega arith)
  same_list (x ∷ xs) (y ∷ ys) e each = let here : x ≡ y = some-injective x y (each 0 y refl) in let rest = same_list xs ys (omega arith) (λ i a at. each (suc i) a at) in λ k. here k ∷ rest k

  -- an element of two lists stands in the first one or in the second
  pub at_append : (xs ys : List A) (i : ℕ) (a : A) → get_elem? (xs ++ ys) i ≡ some a → ((i < length xs) × (get_elem? xs i ≡ some a)) ⊎ ((length xs ≤ i) × (j : ℕ) × (get_elem? ys j ≡ some a))
  at_append [] ys i a e = inr (omega arith, i, e)
  at_append (x ∷ xs) ys zero a e = inl (omega arith, e)
  at_append (x ∷ xs) ys (suc i) a e = ⊎_elim (λ (h : (i < length xs) × (get_elem? xs i ≡ some a)). inl (omega (arith, h.0), h.1)) (λ (h : (length xs ≤ i) × (j : ℕ) × (get_elem? ys j ≡ some a)). inr (omega (arith, h.0), h.1, h.2)) (at_append xs ys i a e)

whole : (a b : ℕ) → a ≤ b → a + (b - a) ≡ b
whole a b few = omega (arith, few)

-- so many pages have so many words
pub padded_long : (pages : ℕ) (cs : List (List ℕ)) → length cs ≤ pages → length (padded pages cs) ≡ pages
padded_long pages cs few = length-append cs (replicate (pages - length cs) (replicate 32 0)) ∙ (ap (λ (n : ℕ). length cs + n) (length-replicate (pages - length cs) (replicate 32 0)) ∙ whole (length cs) pages few)

unmap : {A B : Type 0} (f : A → B) (l : List A) (i : ℕ) (y : B) → get_elem? (map f l) i ≡ some y → (x : A) × (get_elem? l i ≡ some x) × (f x ≡ y)
unmap f [] i y e = absurd (some-ne-none y (sym e))
unmap f (x ∷ xs) zero y e = (x, refl, some-injective (f x) y e)
unmap f (x ∷ xs) (suc i) y e = unmap f xs i y e

not_retired : (b : Bool) (t : ℕ) → (if b then Released else Open) ≢ Retired t
not_retired true t e = cc
not_retired false t e = cc

first_unretired : (words : List ℕ) (t : ℕ) → first_owner words ≢ Retired t
first_unretired words t e = not_retired (is_blank words) t e

total_zeros : (n : ℕ) → total_of (replicate n 0) ≡ 0
total_zeros zero = refl
total_zeros (suc n) = let rest = total_zeros n in omega arith

zero_at : (n i : ℕ) → ◌≡◌ {A = ℕ} (get_or (replicate n 0) i 0) 0
zero_at zero i = refl
zero_at (suc n) zero = refl
zero_at (suc n) (suc i) = zero_at n i

blank_words : (xs : List ℕ) (n : ℕ) → length xs ≡ n → is_blank xs ≡ true → xs ≡ replicate n 0
blank_words [] zero size e = refl
blank_words [] (suc n) size e = absurd (omega arith)
blank_words (x ∷ xs) zero size e = absurd (omega arith)
blank_words (x ∷ xs) (suc n) size e = elim (eqb x 0) as (λ b. eqb x 0 ≡ b → (b && is_blank xs) ≡ true → x ∷ xs ≡ replicate (suc n) 0) [
  | true ↦ λ here rest. let first : x ≡ 0 = eqb-true x 0 here in let others = blank_words xs n (omega arith) rest in λ k. first k ∷ others k
  | false ↦ λ here rest. cc
] refl e

module _ (l : Layout) (cs : List (List ℕ)) where
  -- all words are 0, and no page is laid
  pub laid_none : Laid l cs (replicate (cell_count l) 0) 0
  laid_none = let zeros = zero_at (cell_count l) in record {
    pages = record { contents = replicate l.pages (replicate 32 0); owners = replicate l.pages Released; versions = replicate l.pages 0; clock = 0; hands = replicate l.passes (Idle, tt) };
    frames = replicate (frame_count l) free;
    orderly = record {
      contents = length-replicate l.pages (replicate 32 0);
      owners = length-replicate l.pages Released;
      versions = length-replicate l.pages 0;
      hands = length-replicate l.passes (Idle, tt);
      begun = λ n since d at. let no : Idle ≡ Running since = ap (λ (z : Stage × Unit {0}). z.0) (of_all l.passes (Idle, tt) n (Running since, d) at) in cc;
    };
    shows = record {
      wide = length-replicate (cell_count l) 0;
      frame_total = length-replicate (frame_count l) free;
      clock = zeros 0;
      process = λ q st d low at. subst (ProcessIs (get_or (replicate (cell_count l) 0) (process_at l q) 0)) (ap (λ (z : Stage × Unit {0}). z.0) (of_all l.passes (Idle, tt) q (st, d) at)) (zeros (process_at l q));
      page = λ x v xs e ev. inl (zeros (page_at l x), sym (of_all l.pages (replicate 32 0) x xs e));
      owner = λ x o e. subst (OwnerIs (get_or (replicate (cell_count l) 0) (owner_at l x) 0)) (of_all l.pages Released x o e) (zeros (owner_at l x));
      frame = λ f st e. subst (FrameIs l (replicate (cell_count l) 0) f) (of_all (frame_count l) free f st e) (zeros (state_at l f));
    };
    hands = refl;
    versions = refl;
    clock = refl;
    done = λ y words low at. absurd (omega arith);
    rest = λ y low high. (at_all l.pages (replicate 32 0) y high, at_all l.pages Released y high);
    free = λ f low high. at_all (frame_count l) free f high;
  }

  -- a page with only zeros is laid
  pub laid_blank : (ws : List ℕ) (x : ℕ) (xs : List ℕ) → x < l.pages → get_elem? cs x ≡ some xs → length xs ≡ 32 → is_blank xs ≡ true → Laid l cs ws x → Laid l cs ws (x + 1)
  laid_blank ws x xs inside here size is r = record {
    pages = r.pages;
    frames = r.frames;
    orderly = r.orderly;
    shows = r.shows;
    hands = r.hands;
    versions = r.versions;
    clock = r.clock;
    done = λ y words low at. dite (ℕ_discrete y x)
        (λ e. let same : xs ≡ words = one_there cs x xs words here (ap (get_elem? cs) (sym e) ∙ at) in let zeros : xs ≡ replicate 32 0 = blank_words xs 32 size is in let was = r.rest x (le_refl x) inside in
        let released : Released ≡ first_owner words = ap (λ (b : Bool). if b then Released else Open) (sym is) ∙ ap first_owner same in
        (ap (get_elem? r.pages.contents) e ∙ (was.0 ∙ ap (λ (z : List ℕ). some z) (sym zeros ∙ same)), ap (get_elem? r.pages.owners) e ∙ (was.1 ∙ ap (λ (z : Owner). some z) released)))
        (λ ne. r.done y words (omega arith) at);
    rest = λ y low high. r.rest y (omega arith) high;
    free = λ f low high. r.free f (omega arith) high;
  }

  -- the page x has the frame x, in which the first i of its words stand
  pub record Drafting (ws : List ℕ) (x i : ℕ) (xs : List ℕ) : Type 0 where
    pub pages : Pages (Unit {0})
    pub frames : List Frame
    pub orderly : IsOrderly l pages
    pub shows : Shows l ws pages frames
    pub hands : pages.hands ≡ replicate l.passes (Idle, tt)
    pub versions : pages.versions ≡ replicate l.pages 0
    pub clock : pages.clock ≡ 0
    pub done : (y : ℕ) (words : List ℕ) → y < x → get_elem? cs y ≡ some words → (get_elem? pages.contents y ≡ some words) × (get_elem? pages.owners y ≡ some (first_owner words))
    pub rest : (y : ℕ) → x ≤ y → y < l.pages → (get_elem? pages.contents y ≡ some (replicate 32 0)) × (get_elem? pages.owners y ≡ some Released)
    pub free : (f : ℕ) → x + 1 ≤ f → f < frame_count l → get_elem? frames f ≡ some free
    pub here : get_elem? frames x ≡ some (used (drafted 0 0) (take i xs))

  pub drafting : (ws : List ℕ) (x i : ℕ) (xs : List ℕ) → x < l.pages → i ≡ state_at l x → Laid l cs ws x → Drafting (set ws i 2) x 0 xs
  drafting ws x i xs inside i_is r = let wide = r.shows.wide in let was = r.free x (le_refl x) (omega arith) in let new : Frame = used (drafted 0 0) [] in record {
    pages = r.pages;
    frames = set r.frames x new;
    orderly = r.orderly;
    shows = shows_frame l ws r.pages r.frames x i 2 free new r.orderly r.shows was (inl i_is) (get_or-set_at ws i (state_at l x) 2 0 (sym i_is) (omega arith), tt, omega arith, λ k low. absurd (omega arith)) (λ y w ys e. cc);
    hands = r.hands;
    versions = r.versions;
    clock = r.clock;
    done = r.done;
    rest = r.rest;
    free = λ f low high. set_else r.frames x f new (λ e. omega arith) ∙ r.free f (omega arith) high;
    here = set_there r.frames x free new was;
  }

  pub drafts_on : (ws : List ℕ) (x i k : ℕ) (xs : List ℕ) → x < l.pages → i ≡ place_at l x k → k < 32 → length xs ≡ 32 → Drafting ws x k xs → Drafting (set ws i (get_or xs k 0)) x (k + 1) xs
  drafts_on ws x i k xs inside i_is small size r = let wide = r.shows.wide in let total = r.shows.frame_total in let old : Frame = used (drafted 0 0) (take k xs) in let n : ℕ = get_or xs k 0 in let so_far : length (take k xs) ≡ k = length-take-le k xs (omega arith) in
      let more : take (k + 1) xs ≡ take k xs ++ n ∷ [] = take_more xs k 0 (omega arith) in let new : Frame = used (drafted 0 0) (take k xs ++ n ∷ []) in let was = r.shows.frame x old r.here in
      let long : length (take k xs ++ n ∷ []) ≡ k + 1 = omega (arith, length-append (take k xs) (n ∷ [])) in record {
        pages = r.pages;
        frames = set r.frames x new;
        orderly = r.orderly;
        shows = shows_frame l ws r.pages r.frames x i n old new r.orderly r.shows r.here (inr (omega arith, omega arith)) (
          get_or-set_other ws i (state_at l x) n 0 (λ e. omega arith) ∙ was.0,
          tt,
          omega arith,
          λ j low. dite (ℕ_discrete j k)
              (λ e. get_or-set_at ws i (place_at l x j) n 0 (omega arith) (omega arith) ∙ (sym (get_or-append_right (take k xs) (n ∷ []) k k 0 so_far (le_refl k) ∙ last n k) ∙ ap (λ (z : ℕ). get_or (take k xs ++ n ∷ []) z 0) (sym e)))
              (λ ne. get_or-set_other ws i (place_at l x j) n 0 (λ e. ne (omega arith)) ∙ (was.3 j (omega arith) ∙ sym (get_or_append_left (take k xs) (n ∷ []) 0 j (omega arith)))),
        )
            (λ y w ys e. cc);
        hands = r.hands;
        versions = r.versions;
        clock = r.clock;
        done = r.done;
        rest = r.rest;
        free = λ f low high. set_else r.frames x f new (λ e. omega arith) ∙ r.free f low high;
        here = set_there r.frames x old new r.here ∙ ap (λ (z : List ℕ). some (used (drafted 0 0) z)) (sym more);
      }
    where
      last : (n k : ℕ) → get_or (n ∷ []) (k - k) 0 ≡ n
      last n k = let z : k - k ≡ 0 = omega arith in ap (λ (j : ℕ). get_or (n ∷ []) j 0) z

  -- the page's word names the frame, and the page is open
  pub laid_open : (ws : List ℕ) (x i j n : ℕ) (xs : List ℕ) → x < l.pages → i ≡ page_at l x → j ≡ owner_at l x → n ≡ x + 1 → get_elem? cs x ≡ some xs → length xs ≡ 32 → is_blank xs ≡ false → Drafting ws x 32 xs → Laid l cs (set (set ws i n) j 1) (x + 1)
  laid_open ws x i j n xs inside i_is j_is n_is here size is r = let new : Frame = used (shown x 0) xs in let s1 : Pages (Unit {0}) = written_as r.pages x xs 0 in let s2 : Pages (Unit {0}) = owned s1 x Open in
      let draft_here : get_elem? r.frames x ≡ some (used (drafted 0 0) xs) = r.here ∙ ap (λ (z : List ℕ). some (used (drafted 0 0) z)) (take_all 32 xs (omega arith)) in
      let none : Unit {0} = tt in let yes : Pages (Unit {0}) → Type 0 = λ _. Unit {0} in let passing = first_put l none yes ws r.frames r.shows.frame 0 x 0 x xs [] draft_here size tt in
      let orderly1 = orderly_written l r.pages x 0 xs r.orderly in
      let shows1 = shows_put l none yes ws r.pages r.frames (set r.frames x new) 0 x 0 x i n xs [] i_is n_is inside r.orderly r.shows passing in
      let shows2 : Shows l (set (set ws i n) (owner_at l x) 1) s2 (set r.frames x new) = shows_owner l (set ws i n) s1 (set r.frames x new) x 1 Open orderly1 inside refl shows1 in
      let was = r.rest x (le_refl x) inside in record {
        pages = s2;
        frames = set r.frames x new;
        orderly = orderly_owned l s1 x Open orderly1;
        shows = subst (λ (z : ℕ). Shows l (set (set ws i n) z 1) s2 (set r.frames x new)) (sym j_is) shows2;
        hands = r.hands;
        versions = ap (λ (z : List ℕ). set z x 0) r.versions ∙ set_again (replicate l.pages 0) x 0 (at_all l.pages 0 x inside);
        clock = r.clock;
        done = λ y words low at. dite (ℕ_discrete y x)
            (λ e. let same : xs ≡ words = one_there cs x xs words here (ap (get_elem? cs) (sym e) ∙ at) in let open_now : Open ≡ first_owner words = ap (λ (b : Bool). if b then Released else Open) (sym is) ∙ ap first_owner same in
            (ap (get_elem? s1.contents) e ∙ (set_there r.pages.contents x (replicate 32 0) xs was.0 ∙ ap (λ (z : List ℕ). some z) same), ap (get_elem? s2.owners) e ∙ (set_there r.pages.owners x Released Open was.1 ∙ ap (λ (z : Owner). some z) open_now)))
            (λ ne. let d = r.done y words (omega arith) at in (set_else r.pages.contents x y xs ne ∙ d.0, set_else r.pages.owners x y Open ne ∙ d.1));
        rest = λ y low high. let other : y ≢ x = (λ e. omega arith) in let d = r.rest y (omega arith) high in (set_else r.pages.contents x y xs other ∙ d.0, set_else r.pages.owners x y Open other ∙ d.1);
        free = λ f low high. set_else r.frames x f new (λ e. omega arith) ∙ r.free f low high;
      }

  -- the first pages are laid, and all others have only zeros
  pub laid_padded : (ws : List ℕ) → length cs ≤ l.pages → Laid l cs ws (length cs) → Laid l (padded l.pages cs) ws l.pages
  laid_padded ws few r = record {
    pages = r.pages;
    frames = r.frames;
    orderly = r.orderly;
    shows = r.shows;
    hands = r.hands;
    versions = r.versions;
    clock = r.clock;
    done = λ y words low at. ⊎_elim (λ (h : (y < length cs) × (get_elem? cs y ≡ some words)). r.done y words h.0 h.1) (λ (h : (length cs ≤ y) × (j : ℕ) × (get_elem? (replicate (l.pages - length cs) (replicate 32 0)) j ≡ some words)). behind y words low h.0 h.1 h.2) (at_append cs (replicate (l.pages - length cs) (replicate 32 0)) y words at);
    rest = λ y low high. absurd (omega arith);
    free = λ f low high. r.free f (omega arith) high;
  }
    where
      behind : (y : ℕ) (words : List ℕ) → y < l.pages → length cs ≤ y → (j : ℕ) → get_elem? (replicate (l.pages - length cs) (replicate 32 0)) j ≡ some words → (get_elem? r.pages.contents y ≡ some words) × (get_elem? r.pages.owners y ≡ some (first_owner words))
      behind y words low high j at = let zeros : replicate 32 0 ≡ words = of_all (l.pages - length cs) (replicate 32 0) j words at in let was = r.rest y high low in
          (was.0 ∙ ap (λ (z : List ℕ). some z) zeros, was.1 ∙ ap (λ (z : List ℕ). some (first_owner z)) zeros)

  -- the rule at the start
  pub opens_with : {D : Type 0} (d : D) (holds : Pages D → Type 0) (ws : List ℕ) → length cs ≡ l.pages → Laid l cs ws l.pages → holds (first_pages cs l.passes d) → Kept {S = Unit {0}} l d holds (opening ws [] (starting l d))
  opens_with {D} d holds ws size r kept = let s : Pages D = first_pages cs l.passes d in let orderly = r.orderly in let some_pass = l.passes_within.0 in
      let contents : r.pages.contents ≡ cs = same_list r.pages.contents cs (orderly.contents ∙ sym size) (λ i a at. (r.done i a (let low = at_below cs i a at in omega arith) at).0) in
      let owners : r.pages.owners ≡ map first_owner cs = same_list r.pages.owners (map first_owner cs) (orderly.owners ∙ (sym size ∙ sym (length-map cs first_owner)))
      (λ i o at. let low = at_below (map first_owner cs) i o at in let same = length-map cs first_owner in let c = there cs i (omega arith) in (r.done i c.0 (omega arith) c.1).1 ∙ (sym (at_map first_owner cs i c.0 c.1) ∙ at)) in
      let shows : Shows l ws s r.frames = record {
        wide = r.shows.wide;
        frame_total = r.shows.frame_total;
        clock = r.shows.clock ∙ r.clock;
        process = λ q st e low at. subst (ProcessIs (get_or ws (process_at l q) 0)) (ap (λ (z : Stage × D). z.0) (of_all l.passes (Idle, d) q (st, e) at)) (r.shows.process q Idle tt low (ap (λ (z : List (Stage × Unit {0})). get_elem? z q) r.hands ∙ at_all l.passes (Idle, tt) q low));
        page = λ x v xs e ev. r.shows.page x v xs (ap (λ (z : List (List ℕ)). get_elem? z x) contents ∙ e) (ap (λ (z : List ℕ). get_elem? z x) (r.versions ∙ ap (λ (m : ℕ). replicate m 0) (sym size)) ∙ ev);
        owner = λ x o e. r.shows.owner x o (ap (λ (z : List Owner). get_elem? z x) owners ∙ e);
        frame = r.shows.frame;
      } in
      let hands : (k : ℕ) → k < l.passes → get_elem? s.hands k ≡ some (Idle, d) = at_all l.passes (Idle, d) in
      let knows : Knows l d ws s r.frames (replicate l.passes 0) (starting l d) = record {
        layout = refl;
        counted = omega arith;
        dealt = le_refl l.passes;
        stands = hands 0 (omega arith);
        undealt = λ k low high. (hands k high, at_all l.passes 0 k high);
        clocked = tt;
        reads = (tt, tt);
        stocks = tt;
        drops = tt;
        seals = tt;
        sweeps = tt;
        budget = at_all l.passes 0 0 (omega arith);
        joined = λ k g e. absurd (some-ne-none g (sym e));
      } in record {
        pages = s;
        frames = r.frames;
        budgets = replicate l.passes 0;
        orderly = record {
          contents = size;
          owners = length-map cs first_owner ∙ size;
          versions = length-replicate (length cs) 0 ∙ size;
          hands = length-replicate l.passes (Idle, d);
          begun = λ n since e at. let no : Idle ≡ Running since = ap (λ (z : Stage × D). z.0) (of_all l.passes (Idle, d) n (Running since, e) at) in cc;
        };
        shows = shows;
        budgeted = record { count = length-replicate l.passes 0; small = λ q b e. let zero' : 0 ≡ b = of_all l.passes 0 q b e in omega arith; total = let zeros = total_zeros l.passes in omega arith };
        seats = λ j v e _. ⊎_elim (λ (nothing : get_elem? [] j ≡ some v). absurd (some-ne-none v (sym nothing))) (λ (t : starting l d ≡ v). subst (Knows l d ws s r.frames (replicate l.passes 0)) t knows) (at_snoc [] (starting l d) v j e);
        apart = record {
          hands = λ i j v w at_i at_j _ _ other. let a = at_below (starting l d ∷ []) i v at_i in let b = at_below (starting l d ∷ []) j w at_j in absurd (other (omega arith));
          joined = λ i j v w at_i _ _ _ k g e. ⊎_elim (λ (nothing : get_elem? [] i ≡ some v). absurd (some-ne-none v (sym nothing)))
              (λ (t : starting l d ≡ v). absurd (some-ne-none g (sym e ∙ ap (λ (z : View D). get_elem? z.joined k) (sym t)))) (at_snoc [] (starting l d) v i at_i);
          taken = λ i j v w at_i _ _ _ k m g h e _ _. ⊎_elim (λ (nothing : get_elem? [] i ≡ some v). absurd (some-ne-none v (sym nothing)))
              (λ (t : starting l d ≡ v). absurd (some-ne-none g (sym e ∙ ap (λ (z : View D). get_elem? z.joined k) (sym t)))) (at_snoc [] (starting l d) v i at_i);
        };
        sealing = λ x t e. let owner = unmap first_owner cs x (Retired t) e in absurd (first_unretired owner.0 t owner.2);
        kept = kept;
      }

module _ {D : Type 0} (l : Layout) (first : D) (holds : Pages D → Type 0) where
  abbrev St : Type 0
  St = State (Unit {0}) (View D)

  abbrev Rule : St → Type 0
  Rule = Kept l first holds

  -- a hand deals out all numbers but its own
  pub deals : (id n m : ℕ) → n + 1 < m → n < l.passes → Splits Rule id (share l first n m) (share l first n (n + 1)) (share l first (n + 1) m)
  deals id n m more live st r at = let old : View D = share l first n m in let left : View D = share l first n (n + 1) in let right : View D = share l first (n + 1) m in let mine = r.seats id old at live in let dealt = mine.dealt in
      let next = mine.undealt (n + 1) (omega arith) more in
      let knows_left : Knows l first st.words r.pages r.frames r.budgets left = record {
        layout = refl;
        counted = omega arith;
        dealt = omega arith;
        stands = mine.stands;
        undealt = λ k low high. absurd (omega arith);
        clocked = tt;
        reads = (tt, tt);
        stocks = tt;
        drops = tt;
        seals = tt;
        sweeps = tt;
        budget = mine.budget;
        joined = λ k g e. absurd (some-ne-none g (sym e));
      } in
      let knows_right : Knows l first st.words r.pages r.frames r.budgets right = record {
        layout = refl;
        counted = more;
        dealt = mine.dealt;
        stands = next.0;
        undealt = λ k low high. mine.undealt k (omega arith) high;
        clocked = tt;
        reads = (tt, tt);
        stocks = tt;
        drops = tt;
        seals = tt;
        sweeps = tt;
        budget = next.1;
        joined = λ k g e. absurd (some-ne-none g (sym e));
      } in record {
        pages = r.pages;
        frames = r.frames;
        budgets = r.budgets;
        orderly = r.orderly;
        shows = r.shows;
        budgeted = r.budgeted;
        seats = λ j v e live_v. ⊎_elim
            (λ (was : get_elem? (set st.views id left) j ≡ some v). ⊎_elim (λ (t : (j ≡ id) × (left ≡ v)). subst (Knows l first st.words r.pages r.frames r.budgets) t.1 knows_left) (λ (t : (j ≢ id) × (get_elem? st.views j ≡ some v)). r.seats j v t.1 live_v) (at_set st.views id j left v was))
            (λ (t : right ≡ v). subst (Knows l first st.words r.pages r.frames r.budgets) t knows_right) (at_snoc (set st.views id left) right v j e);
        apart = record {
          hands = λ i j v w at_i at_j live_v live_w other. apart_dealt st r id n m more live at i j v w at_i at_j live_v live_w other;
          joined = λ i j v w at_i at_j live_v live_w k g at_k. joined_dealt st r id n m more live at i j v w at_i at_j live_v live_w k g at_k;
          taken = λ i j v w at_i at_j live_v live_w k m' g h at_k at_m other. let a = where_was st.views id n m at i v at_i in let b = where_was st.views id n m at j w at_j in ⊎_elim
              (λ (c : (i ≢ id) × (i < length st.views) × (get_elem? st.views i ≡ some v)). ⊎_elim
              (λ (d : (j ≢ id) × (j < length st.views) × (get_elem? st.views j ≡ some w)). r.apart.taken i j v w c.2 d.2 live_v live_w k m' g h at_k at_m other)
              (⊎_elim (λ (d : (j ≡ id) × (w ≡ share l first n (n + 1))). absurd (none_joined n (n + 1) m' w h d.1 at_m)) (λ (d : (j ≡ length st.views) × (w ≡ share l first (n + 1) m)). absurd (none_joined (n + 1) m m' w h d.1 at_m))) b)
              (⊎_elim (λ (c : (i ≡ id) × (v ≡ share l first n (n + 1))). absurd (none_joined n (n + 1) k v g c.1 at_k)) (λ (c : (i ≡ length st.views) × (v ≡ share l first (n + 1) m)). absurd (none_joined (n + 1) m k v g c.1 at_k))) a;
        };
        sealing = λ x t e. ⊎_elim inl (λ (h : (j : ℕ) × (u : View D) × (get_elem? st.views j ≡ some u) × IsLive u × (u.sealing ≡ Sealed x t)). let k = sealed_on st.views id old left at refl (λ k. k) x t h in inr (k.0, k.1, at_longer (set st.views id left) (right ∷ []) k.0 k.1 k.2, k.3, k.4)) (r.sealing x t e);
        kept = r.kept;
      }
    where
      -- what a seat of the new table was: one of the old ones, a part of the one that is cut, and at another place the other part
      where_was : (vs : List (View D)) (id n m : ℕ) → get_elem? vs id ≡ some (share l first n m) → (i : ℕ) (v : View D) → get_elem? (set vs id (share l first n (n + 1)) ++ share l first (n + 1) m ∷ []) i ≡ some v
          → ((i ≢ id) × (i < length vs) × (get_elem? vs i ≡ some v)) ⊎ ((i ≡ id) × (v ≡ share l first n (n + 1))) ⊎ ((i ≡ length vs) × (v ≡ share l first (n + 1) m))
      where_was vs id n m at i v at_i = let left : View D = share l first n (n + 1) in let right : View D = share l first (n + 1) m in let long : length (set vs id left) ≡ length vs = length-set vs id left in let all = at_below (set vs id left ++ right ∷ []) i v at_i in
          let size = length-append (set vs id left) (right ∷ []) in dite (ℕ_discrete i (length vs))
          (λ e. inr (inr (e, some-injective v right (sym at_i ∙ (ap (get_elem? (set vs id left ++ right ∷ [])) e ∙ at_last (set vs id left) right (length vs) long)))))
          (λ ne. let low : i < length (set vs id left) = omega arith in let c = there (set vs id left) i low in let same : c.0 ≡ v = some-injective c.0 v (sym (at_longer (set vs id left) (right ∷ []) i c.0 c.1) ∙ at_i) in
          ⊎_elim (λ (t : (i ≡ id) × (left ≡ c.0)). inr (inl (t.0, sym same ∙ sym t.1))) (λ (t : (i ≢ id) × (get_elem? vs i ≡ some c.0)). inl (t.0, omega arith, t.1 ∙ ap (λ (z : View D). some z) same)) (at_set vs id i left c.0 c.1))

      apart_dealt : (st : St) (r : Rule st) (id n m : ℕ) → n + 1 < m → n < l.passes → get_elem? st.views id ≡ some (share l first n m) → (i j : ℕ) (v w : View D) → get_elem? (set st.views id (share l first n (n + 1)) ++ share l first (n + 1) m ∷ []) i ≡ some v
          → get_elem? (set st.views id (share l first n (n + 1)) ++ share l first (n + 1) m ∷ []) j ≡ some w → IsLive v → IsLive w → i ≢ j → (v.upto ≤ w.number) ⊎ (w.upto ≤ v.number)
      apart_dealt st r id n m more live at i j v w at_i at_j live_v live_w other = let num : View D → ℕ = λ z. z.number in let up : View D → ℕ = λ z. z.upto in let here = where_was st.views id n m at i v at_i in let there' = where_was st.views id n m at j w at_j in ⊎_elim
          (λ (a : (i ≢ id) × (i < length st.views) × (get_elem? st.views i ≡ some v)). let between = r.apart.hands i id v (share l first n m) a.2 at live_v live a.0 in ⊎_elim
          (λ (b : (j ≢ id) × (j < length st.views) × (get_elem? st.views j ≡ some w)). r.apart.hands i j v w a.2 b.2 live_v live_w other)
          (⊎_elim
          (λ (b : (j ≡ id) × (w ≡ share l first n (n + 1))). let e = ap num b.1 in let f = ap up b.1 in ⊎_elim (λ (h : v.upto ≤ n). inl (omega arith)) (λ (h : m ≤ v.number). inr (omega arith)) between)
          (λ (b : (j ≡ length st.views) × (w ≡ share l first (n + 1) m)). let e = ap num b.1 in let f = ap up b.1 in ⊎_elim (λ (h : v.upto ≤ n). inl (omega arith)) (λ (h : m ≤ v.number). inr (omega arith)) between))
          there')
          (⊎_elim
          (λ (a : (i ≡ id) × (v ≡ share l first n (n + 1))). let e = ap num a.1 in let f = ap up a.1 in ⊎_elim
          (λ (b : (j ≢ id) × (j < length st.views) × (get_elem? st.views j ≡ some w)). ⊎_elim (λ (h : n + 0 < w.number + 0). inl (omega arith)) (λ (h : w.upto ≤ n). inr (omega arith))
          (⊎_elim (λ (h : m ≤ w.number). inl (omega arith)) (λ (h : w.upto ≤ n). inr h) (r.apart.hands id j (share l first n m) w at b.2 live live_w (λ z. b.0 (sym z)))))
          (⊎_elim
          (λ (b : (j ≡ id) × (w ≡ share l first n (n + 1))). absurd (other (a.0 ∙ sym b.0)))
          (λ (b : (j ≡ length st.views) × (w ≡ share l first (n + 1) m)). let e' = ap num b.1 in inl (omega arith)))
          there')
          (λ (a : (i ≡ length st.views) × (v ≡ share l first (n + 1) m)). let e = ap num a.1 in let f = ap up a.1 in ⊎_elim
          (λ (b : (j ≢ id) × (j < length st.views) × (get_elem? st.views j ≡ some w)). ⊎_elim (λ (h : m ≤ w.number). inl (omega arith)) (λ (h : w.upto ≤ n). inr (omega arith)) (r.apart.hands id j (share l first n m) w at b.2 live live_w (λ z. b.0 (sym z))))
          (⊎_elim
          (λ (b : (j ≡ id) × (w ≡ share l first n (n + 1))). let f' = ap up b.1 in inr (omega arith))
          (λ (b : (j ≡ length st.views) × (w ≡ share l first (n + 1) m)). absurd (other (a.0 ∙ sym b.0))))
          there'))
          here

      none_joined : (n m k : ℕ) (v : View D) (g : Joined D) → v ≡ share l first n m → get_elem? v.joined k ≡ some g → ⊥
      none_joined n m k v g is at_k = some-ne-none g (sym at_k ∙ ap (λ (z : View D). get_elem? z.joined k) is)

      joined_dealt : (st : St) (r : Rule st) (id n m : ℕ) → n + 1 < m → n < l.passes → get_elem? st.views id ≡ some (share l first n m) → (i j : ℕ) (v w : View D) → get_elem? (set st.views id (share l first n (n + 1)) ++ share l first (n + 1) m ∷ []) i ≡ some v
          → get_elem? (set st.views id (share l first n (n + 1)) ++ share l first (n + 1) m ∷ []) j ≡ some w → IsLive v → IsLive w → (k : ℕ) (g : Joined D) → get_elem? v.joined k ≡ some g → (g.number < w.number) ⊎ (w.upto ≤ g.number)
      joined_dealt st r id n m more live at i j v w at_i at_j live_v live_w k g at_k = let num : View D → ℕ = λ z. z.number in let up : View D → ℕ = λ z. z.upto in let here = where_was st.views id n m at i v at_i in let there' = where_was st.views id n m at j w at_j in ⊎_elim
          (λ (a : (i ≢ id) × (i < length st.views) × (get_elem? st.views i ≡ some v)). let apart = r.apart.joined i id v (share l first n m) a.2 at live_v live k g at_k in ⊎_elim
          (λ (b : (j ≢ id) × (j < length st.views) × (get_elem? st.views j ≡ some w)). r.apart.joined i j v w a.2 b.2 live_v live_w k g at_k)
          (⊎_elim
          (λ (b : (j ≡ id) × (w ≡ share l first n (n + 1))). let e = ap num b.1 in let f = ap up b.1 in ⊎_elim (λ (h : g.number < n). inl (omega arith)) (λ (h : m ≤ g.number). inr (omega arith)) apart)
          (λ (b : (j ≡ length st.views) × (w ≡ share l first (n + 1) m)). let e = ap num b.1 in let f = ap up b.1 in ⊎_elim (λ (h : g.number < n). inl (omega arith)) (λ (h : m ≤ g.number). inr (omega arith)) apart))
          there')
          (⊎_elim (λ (a : (i ≡ id) × (v ≡ share l first n (n + 1))). absurd (none_joined n (n + 1) k v g a.1 at_k)) (λ (a : (i ≡ length st.views) × (v ≡ share l first (n + 1) m)). absurd (none_joined (n + 1) m k v g a.1 at_k)))
          here

-- one more hand is dealt
pub dealt_on : {D : Type 0} (t : TableId) (l : Layout) (first : D) (n m : ℕ) (hands all : List (Hand D)) (hand : Hand D) → all ≡ hands ++ hand ∷ [] → m ≡ n + 1 → hand.number ≡ n → hand.seat.table_id ≡ t → hand.seat.me.0 ≡ share l first n (n + 1) → IsDealt t l first n hands → IsDealt t l first m all
dealt_on {D} t l first n m hands all hand is up number table view r = let long = r.count in let size : length (hands ++ hand ∷ []) ≡ n + 1 = omega (arith, length-append hands (hand ∷ [])) in record {
  count = ap length is ∙ (size ∙ sym up);
  each = λ k h at. let at' : get_elem? (hands ++ hand ∷ []) k ≡ some h = ap (λ (z : List (Hand D)). get_elem? z k) (sym is) ∙ at in let low = at_below (hands ++ hand ∷ []) k h at' in dite (ℕ_discrete k n)
      (λ e. let same : hand ≡ h = some-injective hand h (sym (at_last hands hand n long) ∙ (ap (get_elem? (hands ++ hand ∷ [])) (sym e) ∙ at')) in
      subst (λ (z : Hand D × ℕ). (z.0.number ≡ z.1) × (z.0.seat.table_id ≡ t) × (z.0.seat.me.0 ≡ share l first z.1 (z.1 + 1))) (λ i. (same i, sym e i)) (number, table, view))
      (λ ne. let c = there hands k (omega arith) in let same : c.0 ≡ h = some-injective c.0 h (sym (at_longer hands (hand ∷ []) k c.0 c.1) ∙ at') in r.each k h (c.1 ∙ ap (λ (z : Hand D). some z) same));
}
