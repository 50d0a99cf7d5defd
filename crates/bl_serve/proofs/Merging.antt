-- Replies that are put into the order of their lines.
use Rattle.std.proofs.Common.{◌≡◌, ℕ, zero, suc, ◌+◌, ◌-◌, ◌<◌, ◌≤◌, List, [], ◌∷◌, ◌++◌, length, take, drop, get_or, set, map, refl, sym, ap, ◌∙◌, subst, arith, ⊎_elim, length-append}
use Rattle.std.specs.Prelude.{All, sum, cond, slice_index, ◌==◌, IsPermutation}
use Rattle.std.proofs.lemmas.Bool.{cases_eq}
use Rattle.std.proofs.lemmas.List.{flat_map_more, take_more, get_or-set_same, get_or-set_other, get_or_default, get_or-map, length-set, length-map, map-append}
use Rattle.std.proofs.lemmas.List.Sums.{sum_by_more, sum_by-take-le}
use Rattle.std.proofs.lemmas.List.Sorted.{sum_by-IsPermutation}
use Rattle.std.proofs.lemmas.List.Elements.{All-get_or}
use Rattle.bl_serve_lines.specs.declared.serving.ServeFault.{ServeFault}
use Rattle.bl_serve_lines.specs.declared.serving.ServeFault.TheVariants.{Read, Write, Memory, Lost}
use Rattle.bl_serve_lines.specs.Dealt.{dealt, numbers}
use Rattle.bl_serve_lines.proofs.Dealing.{counted_here, dealt_more, dealt_past, text_at, numbers_long}
use Rattle.bl_serve_worker.specs.declared.chunk.ShareOutput.{ShareOutput}
use Rattle.bl_serve_worker.specs.Answering.{joined_text}
use Rattle.bl_serve.specs.declared.joining.Joined.{Joined}
use Rattle.bl_serve.specs.Joining.{IsOutputOf, IsWhole, NamesLost, times}

-- ---- outputs in the order of their shares

numbers_more : (from n : ℕ) → numbers from (suc n) ≡ numbers from n ++ (from + n) ∷ []
numbers_more from zero = ap (λ (k : ℕ). k ∷ []) (let e : from ≡ from + 0 = omega arith in e)
numbers_more from (suc n) = ap (λ (z : List ℕ). from ∷ z) (numbers_more (suc from) n ∙ ap (λ (k : ℕ). numbers (suc from) n ++ k ∷ []) (let e : suc from + n ≡ from + suc n = omega arith in e))

-- one more has the number of its place
pub in_order_more : (outputs : List ShareOutput) (place : ℕ) (w : ShareOutput) → place < length outputs → w ≡ get_or outputs place w → w.share ≡ place → map (λ w. w.share) (take place outputs) ≡ numbers 0 place → map (λ w. w.share) (take (place + 1) outputs) ≡ numbers 0 (place + 1)
in_order_more outputs place w low at is so_far =
    ap (map (λ (w : ShareOutput). w.share)) (take_more outputs place w low ∙ ap (λ (z : ShareOutput). take place outputs ++ z ∷ []) (sym at))
    ∙ (map-append (λ (w : ShareOutput). w.share) (take place outputs) (w ∷ []) ∙ ((λ i. so_far i ++ is i ∷ [])
    ∙ (ap (λ (k : ℕ). numbers 0 place ++ k ∷ []) (let e : place ≡ 0 + place = omega arith in e) ∙ (sym (numbers_more 0 place) ∙ ap (numbers 0) (let e : suc place ≡ place + 1 = omega arith in e)))))

number_of_share : (from k : ℕ) (outputs : List ShareOutput) (count : ℕ) (w : ShareOutput) → map (λ w. w.share) outputs ≡ numbers from count → k < length outputs → (get_or outputs k w).share ≡ from + k
number_of_share from k [] count w is low = absurd (omega (arith, low))
number_of_share from k (x ∷ outputs) zero w is low = absurd (let no : ⊥ = cc in no)
number_of_share from zero (x ∷ outputs) (suc count) w is low = let first : x.share ≡ from = cc in omega (arith, first)
number_of_share from (suc k) (x ∷ outputs) (suc count) w is low = let rest : map (λ w. w.share) outputs ≡ numbers (suc from) count = cc in
    number_of_share (suc from) k outputs count w rest (omega (arith, low)) ∙ (let e : suc from + k ≡ from + suc k = omega arith in e)

-- ---- how far they are joined

-- behind so many places, as many replies of each share are joined as it has lines there
pub record Joins (deals : List ℕ) (outputs : List ShareOutput) (joined : List Joined) (place : ℕ) : Type 0 where
  pub long : length joined ≡ length outputs
  pub replies : (share : ℕ) (d : Joined) → share < length outputs → (get_or joined share d).replies ≡ length (dealt share (take place deals) deals)
  pub bytes : (share : ℕ) (d : Joined) (w : ShareOutput) → share < length outputs → (get_or joined share d).bytes ≡ sum (take (get_or joined share d).replies (get_or outputs share w).lengths.items)

-- the line at a place, the output of its share, and how far this is joined
pub record AtPlace (deals : List ℕ) (outputs : List ShareOutput) (joined : List Joined) (place : ℕ) (w : ShareOutput) (state : Joined) : Type 0 where
  pub joins : Joins deals outputs joined place
  pub low : place < length deals
  pub few : get_or deals place 0 < length outputs
  pub own : w.share ≡ get_or deals place 0
  pub there : w ≡ get_or outputs (get_or deals place 0) w
  pub whole : IsWhole deals w
  pub state_is : state ≡ get_or joined (get_or deals place 0) state

pub at_place : {deals : List ℕ} {outputs : List ShareOutput} {joined : List Joined} {place : ℕ} {w : ShareOutput} {state : Joined} → Joins deals outputs joined place → place < length deals → map (λ w. w.share) outputs ≡ numbers 0 (length outputs) → All (IsWhole deals) outputs
    → All (λ share. share < length outputs) deals → w ≡ get_or outputs (get_or deals place 0) w → state ≡ get_or joined (get_or deals place 0) state → AtPlace deals outputs joined place w state
at_place {deals} {outputs} {joined} {place} {w} j low all whole shares there state_is =
    let share : ℕ = get_or deals place 0 in
    let few : share < length outputs = All-get_or (λ share. share < length outputs) deals place 0 low shares in record {
      joins = j;
      low = low;
      few = few;
      own = ap (λ (z : ShareOutput). z.share) there ∙ (number_of_share 0 share outputs (length outputs) w all few ∙ (let e : 0 + share ≡ share = omega arith in e));
      there = there;
      whole = subst (IsWhole deals) (sym there) (All-get_or (IsWhole deals) outputs share w few whole);
      state_is = state_is;
    }

module _ (deals : List ℕ) (outputs : List ShareOutput) (joined : List Joined) (place : ℕ) (w : ShareOutput) (state : Joined) (h : AtPlace deals outputs joined place w state) where
  abbrev share : ℕ
  share = get_or deals place 0

  counted : state.replies ≡ length (dealt share (take place deals) deals)
  counted = ap (λ (z : Joined). z.replies) h.state_is ∙ h.joins.replies share state h.few

  bytes_are : state.bytes ≡ sum (take state.replies w.lengths.items)
  bytes_are = ap (λ (z : Joined). z.bytes) h.state_is ∙ (h.joins.bytes share state w h.few ∙ (λ i. sum (take (sym h.state_is i).replies (sym h.there i).lengths.items)))

  -- it has a reply that is not joined yet
  pub one_left : state.replies < length w.lengths.items
  one_left = let a = (counted_here share deals deals place 0 0 refl h.low refl).0 in let b = counted in let c = h.whole.many ∙ ap (λ (s : ℕ). length (dealt s deals deals)) h.own in omega (arith, a, b, c)

  module _ (bytes : ℕ) (at : bytes ≡ get_or w.lengths.items state.replies bytes) where
    end_is : state.bytes + bytes ≡ sum (take (state.replies + 1) w.lengths.items)
    end_is = (λ i. bytes_are i + at i) ∙ sym (sum_by_more (λ (n : ℕ). n) w.lengths.items state.replies bytes one_left)

    -- it is one of the text
    pub end_within : state.bytes + bytes ≤ length w.text.items
    end_within = let a = end_is in let b = sum_by-take-le (λ (n : ℕ). n) w.lengths.items (state.replies + 1) in let c = h.whole.bytes in omega (arith, a, b, c)

    abbrev next : Joined
    next = record { replies = state.replies + 1; bytes = state.bytes + bytes }

    next_replies : (s : ℕ) (d : Joined) → s < length outputs → (get_or (set joined share next) s d).replies ≡ length (dealt s (take (place + 1) deals) deals)
    next_replies s d few =
        let e : place + 1 ≡ suc place = omega arith in
        let before = h.joins.replies s d few in let long = h.joins.long in ⊎_elim
        (λ (own : s ≡ share).
        let a = ap length (dealt_more s deals deals place 0 0 refl h.low (sym own)) ∙ length-append (dealt s (take place deals) deals) (get_or deals place 0 ∷ []) in
        let b : state.replies ≡ length (dealt s (take place deals) deals) = counted ∙ ap (λ (k : ℕ). length (dealt k (take place deals) deals)) (sym own) in
        let c : (get_or (set joined share next) s d).replies ≡ state.replies + 1 = ap (λ (k : ℕ). (get_or (set joined share next) k d).replies) own ∙ ap (λ (z : Joined). z.replies) (get_or-set_same joined share next d (let few = h.few in omega (arith, few, long))) in
        c ∙ (let z : state.replies + 1 ≡ length (dealt s (take (suc place) deals) deals) = omega (arith, a, b) in z) ∙ ap (λ (k : ℕ). length (dealt s (take k deals) deals)) (sym e))
        (λ (other : s ≡ share → ⊥). ap (λ (z : Joined). z.replies) (get_or-set_other joined share s next d other)
        ∙ (before ∙ (ap length (sym (dealt_past s deals deals place 0 refl h.low (λ z. other (sym z)))) ∙ ap (λ (k : ℕ). length (dealt s (take k deals) deals)) (sym e))))
        (cases_eq s share)

    next_bytes : (s : ℕ) (d : Joined) (v : ShareOutput) → s < length outputs → (get_or (set joined share next) s d).bytes ≡ sum (take (get_or (set joined share next) s d).replies (get_or outputs s v).lengths.items)
    next_bytes s d v few = let long = h.joins.long in ⊎_elim
        (λ (own : s ≡ share).
        let is : get_or (set joined share next) s d ≡ next = ap (λ (k : ℕ). get_or (set joined share next) k d) own ∙ get_or-set_same joined share next d (let few = h.few in omega (arith, few, long)) in
        let it : get_or outputs s v ≡ w = ap (λ (k : ℕ). get_or outputs k v) own ∙ (get_or_default outputs share v w h.few ∙ sym h.there) in
        ap (λ (z : Joined). z.bytes) is ∙ (end_is ∙ (λ i. sum (take (sym is i).replies (sym it i).lengths.items))))
        (λ (other : s ≡ share → ⊥). let is : get_or (set joined share next) s d ≡ get_or joined s d = get_or-set_other joined share s next d other in
        ap (λ (z : Joined). z.bytes) is ∙ (h.joins.bytes s d v few ∙ ap (λ (z : Joined). sum (take z.replies (get_or outputs s v).lengths.items)) (sym is)))
        (cases_eq s share)

    pub joins_more : Joins deals outputs (set joined share next) (place + 1)
    joins_more = record { long = length-set joined share next ∙ h.joins.long; replies = next_replies; bytes = next_bytes }

    -- it is the reply to the line at that place
    pub reply_there : (texts : List (List ℕ)) → length texts ≡ length deals → IsOutputOf deals texts w → take bytes (drop state.bytes w.text.items) ≡ get_or texts place []
    reply_there texts long o =
        let mine : List (List ℕ) = dealt share deals texts in
        let text : w.text.items ≡ joined_text mine = o.text ∙ ap (λ (s : ℕ). joined_text (dealt s deals texts)) h.own in
        let cuts : w.lengths.items ≡ map length mine = o.cuts ∙ ap (λ (s : ℕ). map length (dealt s deals texts)) h.own in
        let left : state.replies < length (map length mine) = subst (λ (z : List ℕ). state.replies < length z) cuts one_left in
        let within : state.replies < length mine = (let e = length-map mine length in omega (arith, left, e)) in
        let its : get_or mine state.replies [] ≡ get_or texts place [] = ap (λ (k : ℕ). get_or mine k []) counted ∙ (counted_here share deals texts place 0 [] long h.low refl).1 in
        let size : bytes ≡ length (get_or mine state.replies []) = at ∙ (ap (λ (z : List ℕ). get_or z state.replies bytes) cuts ∙ get_or-map length mine state.replies [] bytes within) in
        let from : state.bytes ≡ sum (take state.replies (map length mine)) = bytes_are ∙ ap (λ (z : List ℕ). sum (take state.replies z)) cuts in
        (λ i. take (size i) (drop (from i) (text i))) ∙ (text_at mine state.replies within ∙ its)

    -- all replies up to that place, and it
    pub text_more : (old text more part : List ℕ) → part ≡ w.text.items → more ≡ text ++ take (state.bytes + bytes - state.bytes) (drop state.bytes part) → ((texts : List (List ℕ)) → length texts ≡ length deals → All (IsOutputOf deals texts) outputs → text ≡ old ++ joined_text (take place texts))
        → (texts : List (List ℕ)) → length texts ≡ length deals → All (IsOutputOf deals texts) outputs → more ≡ old ++ joined_text (take (place + 1) texts)
    text_more old text more part is grown so_far texts long each =
        let its : IsOutputOf deals texts w = subst (IsOutputOf deals texts) (sym h.there) (All-get_or (IsOutputOf deals texts) outputs share w h.few each) in
        let few : state.bytes + bytes - state.bytes ≡ bytes = omega arith in
        grown ∙ ((λ i. text ++ take (few i) (drop state.bytes (is i))) ∙ ((λ i. so_far texts long each i ++ reply_there texts long its i)
        ∙ (flat_map_more (λ (t : List ℕ). t) old (take place texts) (get_or texts place []) ∙ ap (λ (z : List (List ℕ)). old ++ joined_text z) (sym (take_more texts place [] (let low = h.low in omega (arith, low, long)))))))

-- ---- sorted outputs

-- the same share is lost
pub names_lost : (outputs sorted : List ShareOutput) (deals : List ℕ) (done : ℕ) (fault : ServeFault) → IsPermutation outputs sorted → NamesLost sorted deals done fault → NamesLost outputs deals done fault
names_lost outputs sorted deals done Read perm h = tt
names_lost outputs sorted deals done Write perm h = tt
names_lost outputs sorted deals done Memory perm h = tt
names_lost outputs sorted deals done (Lost number) perm h = record { place = h.place; is = h.is; within = h.within; once = λ i low. sym (as_often (slice_index deals i)) ∙ h.once i low; not_once = λ e. h.not_once (as_often (slice_index deals h.place) ∙ e) }
  where
    as_often : (share : ℕ) → times share sorted ≡ times share outputs
    as_often share = sum_by-IsPermutation (λ (w : ShareOutput). cond (w.share == share) 1 0) outputs sorted perm

-- there are as many outputs as shares
pub as_many : (outputs : List ShareOutput) (shares : ℕ) → map (λ w. w.share) outputs ≡ numbers 0 shares → length outputs ≡ shares
as_many outputs shares is = sym (length-map outputs (λ (w : ShareOutput). w.share)) ∙ (ap length is ∙ numbers_long 0 shares)

pub all_numbered : (outputs same : List ShareOutput) (shares : ℕ) → outputs ≡ same → map (λ w. w.share) outputs ≡ numbers 0 shares → map (λ w. w.share) same ≡ numbers 0 (length same)
all_numbered outputs same shares e is = subst (λ (z : List ShareOutput). map (λ w. w.share) z ≡ numbers 0 (length z)) e (is ∙ ap (numbers 0) (sym (as_many outputs shares is)))
