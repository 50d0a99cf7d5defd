-- A map with the rows of a log, and handles for its seats that have noted nothing.
use Rattle.std.proofs.Common.{◌≡◌, ℕ, suc, ◌+◌, List, [], ◌∷◌, ◌++◌, Option, length, refl, sym, ap, ◌∙◌, subst, append_assoc, arith}
use Rattle.std.specs.Prelude.{All}
use Rattle.std.specs.List.{AllZip}
use Rattle.std.proofs.lemmas.List.Elements.{All-nil, All-cons}
use mathlib.Core.Option.{some}
use lib.ListN.{get_elem?}
use Rattle.bl_model.specs.Map.{SameMap, Map as PlainMap}
use Rattle.bl_model.specs.Rows.{map_of}
use Rattle.bl_page.specs.declared.page.Page.{Page}
use Rattle.bl_check.specs.Spans.{leftmost}
use Rattle.bl_check_laws.proofs.RowsFound.{rows_same}
use Rattle.bl_changes.specs.Changes.{all_came, all_went}
use Rattle.bl_claims.specs.Trails.{Trail}
use Rattle.bl_claims.specs.Seeing.{IsLinearizable, first_map, own}
use Rattle.bl_index.specs.Calls.{first_of, IsPassOf, number_of, trail}
use Rattle.bl_index.specs.declared.index.Index.{Index}
use Rattle.bl_index.specs.declared.index.Pass.{Pass}
use Rattle.bl_journal.specs.Logs.{KeepsMap}
use Rattle.bl_map.specs.declared.map.Map.{Map}
use Rattle.bl_map.specs.Maps.{IsLoaded}
use Rattle.bl_map.specs.Handles.{number_of_seat, seen_by}
use Rattle.bl_map_log.specs.declared.handle.NotingHandle.{NotingHandle}
use Rattle.bl_map_log.specs.declared.log.MapLog.{MapLog}
use Rattle.bl_map_log.specs.Notes.{HasNoted, IsNotingOf, IsNewNoting}
use Rattle.bl_map_log.specs.Commits.{AreFrom, AreNewSeats, HasLog}

-- ---- the map

-- it begins with the map of the log
pub begins_so : (m : PlainMap) (rows : List (ℕ × ℕ)) (pages fill among : ℕ) (map : Map) (seats : List Pass) → SameMap m (map_of rows) → IsLoaded rows pages fill among map seats → SameMap m (first_map (first_of map.index))
begins_so m rows pages fill among map seats same loaded key =
    let image = loaded.quiet.image.pages.items in
    let is : loaded.opened.rows ≡ rows = rows_same image (leftmost image 0) loaded.opened.rows rows loaded.opened.are_rows loaded.held.are_rows in
    ap (λ (z : List (Option Page)). first_map z key) loaded.opened.begun.first ∙ (sym (loaded.opened.map key) ∙ (ap (λ (z : List (ℕ × ℕ)). map_of z key) is ∙ same key))

-- ---- handles for seats, one after another

zip_push : {A B : Type 0} (R : A → B → Type 0) (xs : List A) (ys : List B) (x : A) (y : B) → AllZip R xs ys → R x y → AllZip R (xs ++ x ∷ []) (ys ++ y ∷ [])
zip_push R [] [] x y h k = (k, tt)
zip_push R [] (b ∷ ys) x y h k = absurd h
zip_push R (a ∷ xs) [] x y h k = absurd h
zip_push R (a ∷ xs) (b ∷ ys) x y h k = (h.0, zip_push R xs ys x y h.1 k)

-- so many of the seats have a handle
pub record IsSeatedSo (map : Map) (seats rest : List Pass) (handles : List NotingHandle) : Type 0 where
  pub taken : List Pass
  pub all : seats ≡ taken ++ rest
  pub over : AllZip (IsNewNoting map) taken handles

pub one_seated : (map : Map) (seats rest left : List Pass) (seat : Pass) (handles now : List NotingHandle) (handle : NotingHandle) → rest ≡ seat ∷ left → IsNewNoting map seat handle → now ≡ handles ++ handle ∷ []
    → IsSeatedSo map seats rest handles → IsSeatedSo map seats left now
one_seated map seats rest left seat handles now handle next over is s = record {
  taken = s.taken ++ seat ∷ [];
  all = s.all ∙ (ap (λ (z : List Pass). s.taken ++ z) next ∙ sym (append_assoc s.taken (seat ∷ []) left));
  over = subst (AllZip (IsNewNoting map) (s.taken ++ seat ∷ [])) (sym is) (zip_push (IsNewNoting map) s.taken handles seat handle s.over over);
}

pub none_left : (rest : List Pass) → length rest ≡ 0 → rest ≡ []
none_left [] e = refl
none_left (x ∷ rest) e = absurd (omega (arith, e))

append_none : (xs rest : List Pass) → rest ≡ [] → xs ++ rest ≡ xs
append_none [] rest none = none
append_none (x ∷ xs) rest none = ap (λ (z : List Pass). x ∷ z) (append_none xs rest none)

pub all_seated : (map : Map) (seats rest : List Pass) (handles : List NotingHandle) → rest ≡ [] → IsSeatedSo map seats rest handles → AllZip (IsNewNoting map) seats handles
all_seated map seats rest handles none s = subst (λ (z : List Pass). AllZip (IsNewNoting map) z handles) (sym (s.all ∙ append_none s.taken rest none)) s.over

pub all_of : (map : Map) (seats : List Pass) (handles : List NotingHandle) → AllZip (IsNewNoting map) seats handles → All (IsNotingOf map) handles
all_of map [] [] h = All-nil (IsNotingOf map)
all_of map [] (x ∷ xs) h = absurd h
all_of map (s ∷ ss) [] h = absurd h
all_of map (s ∷ ss) (x ∷ xs) h = All-cons (IsNotingOf map) x xs h.0.0.0 (all_of map ss xs h.1)

-- ---- they have the log

long : (map : Map) (seats : List Pass) (handles : List NotingHandle) → AllZip (IsNewNoting map) seats handles → length handles ≡ length seats
long map [] [] h = refl
long map [] (x ∷ xs) h = absurd h
long map (s ∷ ss) [] h = absurd h
long map (s ∷ ss) (x ∷ xs) h = ap suc (long map ss xs h.1)

-- The seats are numbered from that one on, and have seen nothing.
abbrev AreNewFrom : Map → ℕ → List Pass → Type 0
AreNewFrom map from seats = (n : ℕ) (seat : Pass) → get_elem? seats n ≡ some seat → IsPassOf map.index seat × (number_of seat ≡ from + n) × (trail seat ≡ [])

rest_new : (map : Map) (from : ℕ) (s : Pass) (ss : List Pass) → AreNewFrom map from (s ∷ ss) → AreNewFrom map (suc from) ss
rest_new map from s ss each n seat at = let r = each (suc n) seat at in (r.0, (let e = r.1 in omega (arith, e)), r.2)

from_seats : (map : Map) (from : ℕ) (seats : List Pass) (handles : List NotingHandle) → AreNewFrom map from seats → AllZip (IsNewNoting map) seats handles → AreFrom map from handles
from_seats map from [] [] each h = tt
from_seats map from [] (x ∷ xs) each h = absurd h
from_seats map from (s ∷ ss) [] each h = absurd h
from_seats map from (s ∷ ss) (x ∷ xs) each h =
    let first = each 0 s refl in
    let number : number_of s ≡ from = (let e = first.1 in omega (arith, e)) in
    (h.0.0.0, ap number_of h.0.0.1 ∙ number, from_seats map (suc from) ss xs (rest_new map from s ss each) h.1)

fresh : (map : Map) (seat : Pass) (x : NotingHandle) → IsLinearizable (first_of map.index) [] → trail seat ≡ [] → IsNewNoting map seat x → HasNoted [] x
fresh map seat x legal none h =
    let unseen : seen_by x.handle ≡ [] = ap trail h.0.1 ∙ none in
    let n = number_of_seat x.handle in record {
      begins = (seen_by x.handle, refl);
      legal = subst (λ (z : Index × Trail). IsLinearizable (first_of z.0) z.1) (λ i. (sym h.0.0 i, sym unseen i)) legal;
      came = ap (λ (z : Trail). all_came (own n z)) unseen ∙ sym h.1.came;
      went = ap (λ (z : Trail). all_went (own n z)) unseen ∙ sym h.1.went;
    }

all_fresh : (map : Map) (from : ℕ) (seats : List Pass) (handles : List NotingHandle) → IsLinearizable (first_of map.index) [] → AreNewFrom map from seats → AllZip (IsNewNoting map) seats handles → All (HasNoted []) handles
all_fresh map from [] [] legal each h = All-nil (HasNoted [])
all_fresh map from [] (x ∷ xs) legal each h = absurd h
all_fresh map from (s ∷ ss) [] legal each h = absurd h
all_fresh map from (s ∷ ss) (x ∷ xs) legal each h =
    All-cons (HasNoted []) x xs (fresh map s x legal (each 0 s refl).2 h.0) (all_fresh map (suc from) ss xs legal (rest_new map from s ss each) h.1)

pub have_log : {D : Type 0} (seen : D → List ℕ) (moment : D → ℕ) (leaves : D → ℕ → List ℕ → Type 0) (m : PlainMap) (map : Map) (seats : List Pass) (handles : List NotingHandle) (log : MapLog D)
    → KeepsMap seen moment leaves m log.journal → AreNewSeats map seats → SameMap m (first_map (first_of map.index)) → AllZip (IsNewNoting map) seats handles → HasLog seen moment leaves map [] handles log
have_log seen moment leaves m map seats handles log keeps new same over =
    let b = new.begun in
    let each : AreNewFrom map 0 seats = λ n seat at. let r = b.each n seat at in (r.0, (let e = r.1 in omega (arith, e)), r.2) in record {
      kept = subst (λ (z : PlainMap). KeepsMap seen moment leaves z log.journal) (λ i key. sym (same key) i) keeps;
      whole = record { legal = b.seen.linear; within = λ mark c. absurd (let l = c.1 in omega (arith, l)) };
      all = record { count = long map seats handles over ∙ (b.count ∙ sym b.passes_are); each = from_seats map 0 seats handles each over };
      noted = all_fresh map 0 seats handles b.seen.linear each over;
    }
