-- An index that goes on with more pages, and its lives.
use Rattle.std.proofs.Common.{◌≡◌, ◌∙◌, ◌++◌, ℕ, List, [], ◌∷◌, Option, refl, sym, ap, subst}
use Rattle.bl_model.specs.Map.{Map, SameMap}
use Rattle.bl_model.specs.Rows.{map_of}
use Rattle.bl_model.specs.History.{IsLegalFrom, final_map}
use Rattle.bl_model.proofs.Histories.{final_map-append, legal_append}
use Rattle.bl_model.specs.declared.operation.Entry.{Entry}
use Rattle.bl_page.specs.declared.page.Page.{Page}
use Rattle.bl_check.specs.Spans.{leftmost}
use Rattle.bl_check_laws.proofs.RowsFound.{rows_same}
use Rattle.bl_claims.specs.Trails.{history_of}
use Rattle.bl_claims.specs.Seeing.{first_map, IsSeen}
use Rattle.bl_index.specs.declared.index.Index.{Index}
use Rattle.bl_index.specs.declared.index.Pass.{Pass}
use Rattle.bl_index.specs.Calls.{passes_of}
use Rattle.bl_index.specs.Closed.{Closes}
use Rattle.bl_index.specs.Opened.{IsReopenedIn}
use Rattle.bl_index.specs.Lives.{Life, life_of, last_map, AreLivesFrom, map_after_lives, history_of_lives, LivesAreOneHistory, SeenIsALife, ResizingAddsALife}
use Rattle.bl_index.specs.Resized.{Resizes}

-- an image has one list of rows, so what is opened from it begins with the map that it was closed with
pub resizes : (old : Index) (passes : List Pass) (image : List (Option Page)) (pages among : ℕ) (new : Index) (news : List Pass) → among ≡ passes_of old → Closes old passes image → IsReopenedIn image pages among new news → Resizes old passes pages new news
resizes old passes image pages among new news count closed opened = record {
  image = image;
  closes = closed;
  reopens = subst (λ (z : ℕ). IsReopenedIn image pages z new news) count opened;
  map = λ key. ap (λ (z : List (Option Page)). first_map z key) opened.begun.first ∙ (sym (opened.map key) ∙ (ap (λ (z : List (ℕ × ℕ)). map_of z key) rows ∙ closed.map key));
}
  where
    rows : opened.rows ≡ closed.rows
    rows = rows_same image (leftmost image 0) opened.rows closed.rows opened.are_rows closed.are_rows

-- ---- lives

pub one_history : LivesAreOneHistory
one_history m [] are = record { legal = tt; ends = λ key. refl }
one_history m (life ∷ lives) are =
    let same : first_map life.first ≡ m = λ i key. are.0 key i in
    let rest = one_history (last_map life) lives are.2 in
    let first : List Entry = history_of life.whole in
    let later : List Entry = history_of_lives lives in
    record {
      legal = subst (λ (z : Map). IsLegalFrom z (first ++ later)) same (legal_append (first_map life.first) first later are.1.linear.legal rest.legal);
      ends = λ key. rest.ends key ∙ (sym (ap (λ (z : Map). z key) (final_map-append (first_map life.first) first later)) ∙ ap (λ (z : Map). final_map z (first ++ later) key) same);
    }

one_more : (m : Map) (lives : List Life) (life : Life) → AreLivesFrom m lives → SameMap (map_after_lives m lives) (first_map life.first) → IsSeen life.first life.whole → AreLivesFrom m (lives ++ life ∷ [])
one_more m [] life are begins seen = (begins, seen, tt)
one_more m (a ∷ lives) life are begins seen = (are.0, are.1, one_more (last_map a) lives life are.2 begins seen)

ends_with : (m : Map) (lives : List Life) (life : Life) → map_after_lives m (lives ++ life ∷ []) ≡ last_map life
ends_with m [] life = refl
ends_with m (a ∷ lives) life = ends_with (last_map a) lives life

pub seen_life : SeenIsALife
seen_life m lives index seen on is = one_more m lives (life_of index seen) on.are_lives on.begins is

pub resized_life : ResizingAddsALife
resized_life m lives old passes pages new news r on = record {
  are_lives = seen_life m lives old r.closes.whole on r.closes.seen;
  begins = λ key. r.map key ∙ sym (ap (λ (z : Map). z key) (ends_with m lives (life_of old r.closes.whole)));
}
