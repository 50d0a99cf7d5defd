-- The looks at leaves that a range keeps: one more, those before a place, and what they are where no leaf was put since.
use Rattle.std.proofs.Common.{ℕ, zero, suc, ◌≡◌, ◌+◌, ◌-◌, ◌^◌, ◌<◌, ◌≤◌, ◌++◌, Option, List, [], ◌∷◌, length, take, get_or, refl, sym, ap, ◌∙◌, subst, append_assoc, append-nil, length-append, arith}
use Rattle.std.specs.Prelude.{All}
use Rattle.std.proofs.lemmas.List.{get_or_default}
use Rattle.atomic_table.specs.declared.shared.Seat.{Seat}
use Rattle.bl_claims.specs.Trails.{Trail}
use Rattle.bl_one_moment.specs.Moments.{puts_at, IsKept, Adjoin}
use Rattle.bl_one_moment.specs.Moments.Adjoin.{Nothing, Behind}
use Rattle.bl_store_rule.specs.declared.view.View.{View}
use Rattle.bl_store.specs.Hands.{known}
use Rattle.bl_index_rule.specs.declared.known.PassState.{PassState}
use Rattle.bl_index_read.specs.Keeping.{KeepsStill}
use Rattle.bl_index_read.specs.LeafRows.{IsBelow}
use Rattle.bl_index_range.specs.Gathering.{IsLook, AreLooks, IsUnput}
use Rattle.bl_index_range.specs.declared.ranging.Kept.{Kept}

-- what was looked at again at a place
pub unput_here : (h : Seat (Unit {0}) (View PassState)) (looks : List Kept) (place k : ℕ) (d e : Kept) → k ≡ place → place < length looks → IsUnput h (get_or looks place e) → IsUnput h (get_or looks k d)
unput_here h looks place k d e is lt unput = subst (λ (z : Kept). IsUnput h z) (get_or_default looks place e d lt ∙ ap (λ (n : ℕ). get_or looks n d) (sym is)) unput

-- rows up to a place behind others
pub taken_past : (xs ys : List (ℕ × ℕ)) (k : ℕ) → take (length xs + k) (xs ++ ys) ≡ xs ++ take k ys
taken_past [] ys k = ap (λ (n : ℕ). take n ys) (let z : 0 + k ≡ k = omega arith in z)
taken_past (x ∷ xs) ys k = ap (λ (n : ℕ). take n (x ∷ (xs ++ ys))) (let z : suc (length xs) + k ≡ suc (length xs + k) = omega arith in z) ∙ ap (λ (z : List (ℕ × ℕ)). x ∷ z) (taken_past xs ys k)

-- ---- the hand goes on

module _ (h h' : Seat (Unit {0}) (View PassState)) (still : KeepsStill h h') (pages : ℕ) (to : Option ℕ) where
  look_on : (from upto : ℕ) (look : Kept) (rows : List (ℕ × ℕ)) → IsLook h pages to from upto look rows → IsLook h' pages to from upto look rows
  look_on from upto look rows l = record {
    near = l.near;
    start = l.start;
    fits = l.fits;
    below = l.below;
    content = l.content;
    before = l.before;
    get = l.get;
    since = l.since ++ still.on.0;
    split = still.on.1 ∙ (ap (λ (z : Trail). z ++ still.on.0) l.split ∙ append_assoc l.before (l.get ∷ l.since) still.on.0);
    act = l.act;
    saw = l.saw;
    keeps = still.looks look.page (puts_at look.page (l.before ++ l.get ∷ [])) look.glance l.keeps;
    part = l.part;
  }

  pub looks_on : (count from upto : ℕ) (looks : List Kept) (rows : List (ℕ × ℕ)) → AreLooks h pages to count from upto looks rows → AreLooks h' pages to count from upto looks rows
  looks_on count from upto [] rows are = are
  looks_on count from upto (look ∷ looks) rows (mid, mine, rest, split, counted, is, more) =
      (mid, mine, rest, split, counted, look_on from mid look mine is, looks_on (count + length mine) mid upto looks rest more)

module _ (h : Seat (Unit {0}) (View PassState)) (pages : ℕ) (to : Option ℕ) where
  -- all of them are of pages of the index
  pub looks_near : (count from upto : ℕ) (looks : List Kept) (rows : List (ℕ × ℕ)) → AreLooks h pages to count from upto looks rows → All (λ (look : Kept). look.page < pages) looks
  looks_near count from upto [] rows are = λ k d lt. absurd (omega arith)
  looks_near count from upto (look ∷ looks) rows (mid, mine, rest, split, counted, is, more) = all_cons look looks is.near (looks_near (count + length mine) mid upto looks rest more)
    where
      all_cons : (look : Kept) (looks : List Kept) → look.page < pages → All (λ (look : Kept). look.page < pages) looks → All (λ (look : Kept). look.page < pages) (look ∷ looks)
      all_cons look looks here rest zero d lt = here
      all_cons look looks here rest (suc k) d lt = rest k d (omega arith)

  -- ---- one look more

  pub looks_push : (count from upto next : ℕ) (looks : List Kept) (rows : List (ℕ × ℕ)) (look : Kept) (mine : List (ℕ × ℕ)) → AreLooks h pages to count from upto looks rows → look.rows ≡ count + length rows
      → IsLook h pages to upto next look mine → AreLooks h pages to count from next (looks ++ look ∷ []) (rows ++ mine)
  looks_push count from upto next [] rows look mine are counted is =
      let none = ap length are.1 in (
        next,
        mine,
        [],
        ap (λ (z : List (ℕ × ℕ)). z ++ mine) are.1 ∙ sym (append-nil mine),
        (let z : look.rows ≡ count = omega (arith, counted, none) in z),
        subst (λ (z : ℕ). IsLook h pages to z next look mine) are.0 is,
        (refl, refl),
      )
  looks_push count from upto next (l ∷ ls) rows look mine (mid, own, rest, split, here, it, more) counted is =
      let long = ap length split ∙ length-append own rest in (
        mid,
        own,
        rest ++ mine,
        ap (λ (z : List (ℕ × ℕ)). z ++ mine) split ∙ append_assoc own rest mine,
        here,
        it,
        looks_push (count + length own) mid upto next ls rest look mine more (omega (arith, counted, long)) is,
      )

  -- ---- those before a place

  -- What stays of them, and where the one at that place stood.
  pub record TakenBack (count from upto : ℕ) (looks : List Kept) (rows : List (ℕ × ℕ)) (place : ℕ) (look : Kept) : Type 0 where
    pub kept : AreLooks h pages to count from look.from (take place looks) (take (look.rows - count) rows)
    pub low : count ≤ look.rows
    pub high : look.rows ≤ count + length rows
    pub begins : from ≤ look.from
    pub fits : look.from < 2 ^ 64
    pub below : IsBelow to look.from

  pub looks_take : (count from upto : ℕ) (looks : List Kept) (rows : List (ℕ × ℕ)) (place : ℕ) (look : Kept) → AreLooks h pages to count from upto looks rows → place < length looks → look ≡ get_or looks place look
      → TakenBack count from upto looks rows place look
  looks_take count from upto [] rows place look are lt is = absurd (omega arith)
  looks_take count from upto (l ∷ ls) rows zero look (mid, own, rest, split, here, it, more) lt is =
      let start : look.from ≡ from = ap (λ (z : Kept). z.from) is ∙ it.start in
      let counted : look.rows ≡ count = ap (λ (z : Kept). z.rows) is ∙ here in
      record {
        kept = (start, ap (λ (n : ℕ). take n rows) (let z : look.rows - count ≡ 0 = omega (arith, counted) in z));
        low = omega (arith, counted);
        high = omega (arith, counted);
        begins = omega (arith, start);
        fits = let f = it.fits in omega (arith, start, f);
        below = subst (IsBelow to) (sym start) it.below;
      }
  looks_take count from upto (l ∷ ls) rows (suc place) look (mid, own, rest, split, here, it, more) lt is =
      let back = looks_take (count + length own) mid upto ls rest place look more (omega arith) is in
      let k : ℕ = look.rows - (count + length own) in
      let many : look.rows - count ≡ length own + k = let low = back.low in omega arith in
      record {
        kept = (mid, own, take k rest, (ap (λ (z : ℕ × List (ℕ × ℕ)). take z.0 z.1) (λ i. (many i, split i)) ∙ taken_past own rest k), here, it, back.kept);
        low = let low = back.low in omega arith;
        high = let high = back.high in let long = ap length split ∙ length-append own rest in omega (arith, high, long);
        fits = back.fits;
        begins = let order = it.part.order in let low = back.begins in omega arith;
        below = back.below;
      }

  -- ---- no leaf was put since

  pub adjoins : (count from upto end : ℕ) (looks : List Kept) (rows more : List (ℕ × ℕ)) → AreLooks h pages to count from upto looks rows → All (IsUnput h) looks → Adjoin (known h).trail upto end more
      → Adjoin (known h).trail from end (rows ++ more)
  adjoins count from upto end [] rows more are unput behind = subst (λ (z : ℕ × List (ℕ × ℕ)). Adjoin (known h).trail z.0 end (z.1 ++ more)) (λ i. (are.0 i, sym are.1 i)) behind
  adjoins count from upto end (look ∷ looks) rows more (mid, own, rest, split, here, it, others) unput behind =
      let kept : IsKept (known h).trail look.page it.content = record {
        before = it.before;
        get = it.get;
        since = it.since;
        split = it.split;
        act = it.act;
        saw = it.saw;
        unput = unput 0 look (omega arith) _ it.keeps it.before it.since it.get it.split refl;
      } in
      let rest_adjoins = adjoins (count + length own) mid upto end looks rest more others (λ k d lt. unput (suc k) d (omega arith)) behind in
      subst (λ (z : List (ℕ × ℕ)). Adjoin (known h).trail from end z) (sym (ap (λ (z : List (ℕ × ℕ)). z ++ more) split ∙ append_assoc own rest more))
      (Behind look.page it.content kept it.part rest_adjoins)
