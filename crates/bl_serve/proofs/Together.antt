-- Handles that have met by their seats.
use Rattle.std.proofs.Common.{◌≡◌, ℕ, List, [], ◌∷◌, ◌++◌, length, ap, sym, ◌∙◌, subst}
use Rattle.std.specs.Prelude.{All, Option}
use Rattle.std.specs.List.{AllZip}
use Rattle.std.proofs.lemmas.List.{length-map}
use Rattle.std.proofs.lemmas.List.Elements.{All-nil, All-cons, All-head, All-tail, AllZip-push}
use Rattle.bl_page.specs.declared.page.Page.{Page}
use Rattle.bl_layout.specs.declared.layout.Layout.{Layout}
use Rattle.bl_claims.specs.Trails.{Trail}
use Rattle.bl_claims.specs.Seeing.{IsLinearizable}
use Rattle.bl_index.specs.declared.index.Index.{Index}
use Rattle.bl_index.specs.declared.index.Pass.{Pass}
use Rattle.bl_index.specs.Calls.{first_of, pages_of, IsPassOf, trail}
use Rattle.bl_map.specs.declared.handle.Handle.{Handle}
use Rattle.bl_map.specs.Handles.{first_map_of, pages_of_map, seat_of, seats_of}
use Rattle.bl_map.specs.Meetings.{IsSeated, Comes, HasCome, HaveAllMet}
use Rattle.bl_serve.specs.Meetings.{AllMeet}

pub seats_long : (handles : List Handle) → length (seats_of handles) ≡ length handles
seats_long handles = length-map handles seat_of

-- ---- handles over the seats of an index

pub all_seated : (index : Index) (handles : List Handle) → All (IsPassOf index) (seats_of handles) → All (IsSeated index) handles
all_seated index [] own = All-nil (IsSeated index)
all_seated index (h ∷ hs) own = All-cons (IsSeated index) h hs (All-head (IsPassOf index) (seat_of h) (seats_of hs) own) (all_seated index hs (All-tail (IsPassOf index) (seat_of h) (seats_of hs) own))

-- each began with what the index did, and has as many pages
abbrev pub BeganWith : List (Option Page) → ℕ → Handle → Type 0
BeganWith first pages handle = (first_map_of handle ≡ first) × (pages_of_map handle ≡ pages)

began_so : (index : Index) (h : Handle) → IsPassOf index (seat_of h) → BeganWith (first_of index) (pages_of index) h
began_so index h of = (sym h.own.2 ∙ of.2, ap (λ (z : Layout). z.pages) (sym h.own.1 ∙ of.1))

pub all_began : (index : Index) (handles : List Handle) → All (IsPassOf index) (seats_of handles) → All (BeganWith (first_of index) (pages_of index)) handles
all_began index [] own = All-nil (BeganWith (first_of index) (pages_of index))
all_began index (h ∷ hs) own = All-cons (BeganWith (first_of index) (pages_of index)) h hs (began_so index h (All-head (IsPassOf index) (seat_of h) (seats_of hs) own)) (all_began index hs (All-tail (IsPassOf index) (seat_of h) (seats_of hs) own))

-- ---- they meet

seats_come : (seen : Trail) (olds news : List Handle) → AllZip (HasCome seen) olds news → AllZip (Comes seen) (seats_of olds) (seats_of news)
seats_come seen [] [] h = tt
seats_come seen [] (n ∷ ns) h = absurd h
seats_come seen (o ∷ os) [] h = absurd h
seats_come seen (o ∷ os) (n ∷ ns) h = (h.0.2, seats_come seen os ns h.1)

last_seen : (first : List (Option Page)) (others : List Handle) (one : Handle) → All (λ p. IsLinearizable first (trail p)) (seats_of (others ++ one ∷ [])) → IsLinearizable first (trail (seat_of one))
last_seen first [] one all = All-head (λ (p : Pass). IsLinearizable first (trail p)) (seat_of one) [] all
last_seen first (h ∷ hs) one all = last_seen first hs one (All-tail (λ (p : Pass). IsLinearizable first (trail p)) (seat_of h) (seats_of (hs ++ one ∷ [])) all)

-- the last one has met the others
pub all_meet : (first : List (Option Page)) (one one' : Handle) (others others' olds news : List Handle) → olds ≡ others ++ one ∷ [] → news ≡ others' ++ one' ∷ [] → HaveAllMet first one others one' others' → AllMeet first (seats_of olds) (seats_of news)
all_meet first one one' others others' olds news old_are new_are m =
    subst (λ (z : List Handle × List Handle). AllMeet first (seats_of z.0) (seats_of z.1)) (λ i. (sym old_are i, sym new_are i)) (record {
      seen = m.seen;
      each = seats_come m.seen (others ++ one ∷ []) (others' ++ one' ∷ []) (AllZip-push (HasCome m.seen) others others' one one' m.theirs m.mine);
      may_be = λ all. m.may_be (last_seen first others one all);
    })
