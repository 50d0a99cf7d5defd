-- The parts of a scan, and what it lists with one more.
use Rattle.std.proofs.Common.{◌≡◌, ⊎_elim, ℕ, get_or, Option, Some, None, List, [], ◌∷◌, ◌++◌, refl, sym, ap, ◌∙◌, append_assoc}
use Rattle.std.specs.Prelude.{All, Contains}
use Rattle.std.proofs.lemmas.List.Elements.{All-append, All-contains, All-filter, All-weaker, Contains-append_left, Contains-append_right, Contains-append_cases, Contains-get_or}
use Rattle.bl_model.specs.Map.{Map, MayAnswer}
use Rattle.bl_model.specs.History.{final_map}
use Rattle.bl_model.specs.declared.operation.Entry.{Entry}
use Rattle.bl_model.specs.declared.operation.Reply.{Reply}
use Rattle.bl_page.specs.declared.page.Page.{Page}
use Rattle.bl_claims.specs.Seeing.{first_map}
use Rattle.bl_proc.specs.declared.parts.Direction.{Direction}
use Rattle.bl_proc.specs.Parts.{op_toward}
use Rattle.bl_index_read.specs.LeafRows.{IsBefore, is_before, IsFrom, AreInOrder}
use Rattle.bl_index_read.proofs.Orders.{before_or_from, never_both, from_on, before_on, before_true}
use Rattle.bl_index_range.specs.Parts.{rows_before}
use Rattle.bl_index_range.proofs.Told.{TellsPart, Answered}
use Rattle.bl_index.specs.Scans.{AreParts, IsRight}
use Rattle.bl_model.specs.Parts.{rows_of, ended_at}
use Rattle.bl_index_read.proofs.Ranges.{filter_keeps, filter_has, order_filter, order_behind}

pub parts_push : (direction : Direction) (pass : ℕ) (to from : Option ℕ) (es : List Entry) (at : ℕ) (reply : Reply) → AreParts direction pass to from es (Some at) → IsBefore direction to at
    → AreParts direction pass to from (es ++ record { pass = pass; op = op_toward direction at; reply = reply } ∷ []) (ended_at reply)
parts_push direction pass to from [] at reply are before = rw (sym are) (refl, refl, before, refl)
parts_push direction pass to None (e ∷ es) at reply are before = absurd are
parts_push direction pass to (Some from) (e ∷ es) at reply are before = (are.0, are.1, are.2, parts_push direction pass to (ended_at e.reply) es at reply are.3 before)

-- the key of a row comes from one on, and before the other
abbrev pub IsBetween : Direction → ℕ → Option ℕ → ℕ × ℕ → Type 0
IsBetween direction from upto row = IsFrom direction from row.0 × IsBefore direction upto row.0

module _ (first : List (Option Page)) (pass : ℕ) (direction : Direction) (from at : ℕ) (to : Option ℕ) (old more mid new : List Entry) (e : Entry) (listed : List (ℕ × ℕ)) where
  abbrev fresh : List (ℕ × ℕ)
  fresh = rows_before direction to e.reply

  module _ (is_part : (m : Map) → MayAnswer m e.op e.reply → TellsPart direction m at e.reply) (on : mid ≡ old ++ more) (a : Answered (first_map first) e mid new) (mine : e.pass ≡ pass) (on_way : IsFrom direction from at) (within : All (IsBetween direction from (Some at)) listed) where
    part : TellsPart direction (final_map (first_map first) (mid ++ a.before)) at e.reply
    part = is_part (final_map (first_map first) (mid ++ a.before)) a.may

    same_map : (key : ℕ) → final_map (first_map first) (mid ++ a.before) key ≡ final_map (first_map first) (old ++ (more ++ a.before)) key
    same_map key = ap (λ (z : List Entry). final_map (first_map first) z key) (ap (λ (z : List Entry). z ++ a.before) on ∙ append_assoc old more a.before)

    fresh_is : (key value : ℕ) → Contains fresh (key, value) → Contains (rows_of e.reply) (key, value)
    fresh_is key value c = (filter_has (λ row. is_before direction to row.0) (rows_of e.reply) (key, value) c).0

    right_still : (key : ℕ) → IsBefore direction (Some at) key → IsRight first pass old mid listed key → IsRight first pass old new (listed ++ fresh) key
    right_still key before r =
        let tail : List Entry = a.before ++ e ∷ a.after in
        record {
          before = r.before;
          part = r.part;
          after = r.after ++ tail;
          stands = a.stands ∙ (ap (λ (z : List Entry). z ++ tail) r.stands
              ∙ (append_assoc old (r.before ++ r.part ∷ r.after) tail ∙ ap (λ (z : List Entry). old ++ z) (append_assoc r.before (r.part ∷ r.after) tail)));
          mine = r.mine;
          right = λ value. (
            λ c. ⊎_elim
                (λ (l : Contains listed (key, value)). (r.right value).0 l)
                (λ (f : Contains fresh (key, value)). let there = (part.pairs key value).0 (fresh_is key value f) in absurd (never_both direction at key before there.1))
                (Contains-append_cases listed fresh (key, value) c),
            λ is. Contains-append_left listed fresh (key, value) ((r.right value).1 is),
          );
        }

    right_now : (key : ℕ) → IsFrom direction at key → IsBefore direction (ended_at e.reply) key → IsBefore direction to key → IsRight first pass old new (listed ++ fresh) key
    right_now key there_on before before_to = record {
      before = more ++ a.before;
      part = e;
      after = a.after;
      stands = a.stands ∙ (ap (λ (z : List Entry). z ++ (a.before ++ e ∷ a.after)) on
          ∙ (append_assoc old more (a.before ++ e ∷ a.after) ∙ ap (λ (z : List Entry). old ++ z) (sym (append_assoc more a.before (e ∷ a.after)))));
      mine = mine;
      right = λ value. (
        λ c. ⊎_elim
            (λ (l : Contains listed (key, value)). let there = All-contains (IsBetween direction from (Some at)) listed (key, value) within l in absurd (never_both direction at key there.1 there_on))
            (λ (f : Contains fresh (key, value)). sym (same_map key) ∙ ((part.pairs key value).0 (fresh_is key value f)).0)
            (Contains-append_cases listed fresh (key, value) c),
        λ is. Contains-append_right listed fresh (key, value) (filter_keeps (λ row. is_before direction to row.0) (rows_of e.reply) (key, value)
            ((part.pairs key value).1 (same_map key ∙ is, there_on, before)) (before_true direction to key before_to)),
      );
    }

    pub right_more : ((key : ℕ) → IsFrom direction from key → IsBefore direction (Some at) key → IsBefore direction to key → IsRight first pass old mid listed key)
        → (key : ℕ) → IsFrom direction from key → IsBefore direction (ended_at e.reply) key → IsBefore direction to key → IsRight first pass old new (listed ++ fresh) key
    right_more right key least before before_to = ⊎_elim
        (λ (b : IsBefore direction (Some at) key). right_still key b (right key least b before_to))
        (λ (f : IsFrom direction at key). right_now key f before before_to)
        (before_or_from direction at key)

    between_part : All (IsBetween direction at (ended_at e.reply)) (rows_of e.reply)
    between_part k d lt = let row = get_or (rows_of e.reply) k d in let there = (part.pairs row.0 row.1).0 (Contains-get_or (rows_of e.reply) k d lt) in (there.1, there.2)

    between_fresh : All (IsBetween direction at (ended_at e.reply)) fresh
    between_fresh = All-filter (λ row. is_before direction to row.0) (IsBetween direction at (ended_at e.reply)) (rows_of e.reply) between_part

    pub between_more : All (IsBetween direction from (ended_at e.reply)) (listed ++ fresh)
    between_more = All-append (IsBetween direction from (ended_at e.reply)) listed fresh
        (All-weaker (IsBetween direction from (Some at)) (IsBetween direction from (ended_at e.reply)) (λ r is. (is.0, before_on direction (ended_at e.reply) at r.0 part.further is.1)) listed within)
        (All-weaker (IsBetween direction at (ended_at e.reply)) (IsBetween direction from (ended_at e.reply)) (λ r is. (from_on direction from at r.0 on_way is.0, is.1)) fresh between_fresh)

    pub order_more : AreInOrder direction listed → AreInOrder direction (listed ++ fresh)
    order_more ordered = order_behind direction at listed fresh ordered (order_filter direction (λ row. is_before direction to row.0) (rows_of e.reply) part.ordered)
        (All-weaker (IsBetween direction from (Some at)) (λ r. IsBefore direction (Some at) r.0) (λ r is. is.1) listed within)
        (All-weaker (IsBetween direction at (ended_at e.reply)) (λ r. IsFrom direction at r.0) (λ r is. is.0) fresh between_fresh)
