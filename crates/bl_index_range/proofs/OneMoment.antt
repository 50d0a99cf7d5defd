-- A range that has read its last leaf, while none of the others was put: its rows are those of one moment.
use Rattle.std.proofs.Common.{ℕ, ◌≡◌, ◌<◌, ◌≤◌, ◌++◌, Bool, true, false, Option, Some, None, List, [], ◌∷◌, cond, inl, inr, refl, sym, ap, ◌∙◌, subst, get_or, append_assoc, append-nil, arith}
use Rattle.std.specs.Prelude.{All, Contains, ◌==◌}
use Rattle.std.proofs.lemmas.Bool.{cases_lt}
use Rattle.std.proofs.lemmas.Bool.Decides.{nat_tests}
use Rattle.std.proofs.lemmas.List.{append_cancel_left}
use Rattle.std.proofs.lemmas.List.Elements.{Contains-append_left, Contains-append_right, Contains-append_cases, Contains-get_or}
use Rattle.bl_model.specs.declared.operation.Entry.{Entry}
use Rattle.bl_model.specs.declared.operation.Op.TheVariants.{Part}
use Rattle.bl_model.specs.declared.operation.Reply.{Reply}
use Rattle.bl_model.specs.Map.{Map, ListsPairs, MayAnswer}
use Rattle.bl_model.specs.History.{final_map, entries_of_pass, IsLegalFrom}
use Rattle.bl_model.specs.Parts.{rows_of, ended_at}
use Rattle.bl_model.proofs.Histories.{final_map-push, legal_rest, entries_of_pass-append}
use Rattle.bl_page.specs.declared.page.Page.{Page}
use Rattle.bl_page.specs.Machine.{Name, State}
use Rattle.bl_claims.specs.Trails.{Said, Mark, Trail, entries_at, history_of}
use Rattle.bl_claims.specs.Seeing.{first_map, own, GoesOnFrom}
use Rattle.bl_tree_worlds.proofs.Pushes.{history_of-push}
use Rattle.bl_one_moment.specs.Moments.{HasFirmMoments, Adjoin, IsRange}
use Rattle.bl_one_moment.proofs.Together.{range_agrees}
use Rattle.bl_index_rule.proofs.Entries.{own-push}
use Rattle.bl_proc.specs.declared.parts.Direction.TheVariants.{Up}
use Rattle.bl_index_read.specs.LeafRows.{IsBelow, is_below, IsOver}
use Rattle.bl_index_read.specs.Searching.{Finds}
use Rattle.bl_index_read.proofs.Ranges.{below_true, filter_keeps, filter_has, rising_filter, rising_behind}
use Rattle.bl_index_range.specs.Ranges.{IsPartWithin, IsAtOneMoment}
use Rattle.bl_index_range.specs.Parts.{rows_below}
use Rattle.bl_index_range.proofs.Told.{TellsPart, part_tells, history_append}
use Rattle.bl_index_range.proofs.PartsMade.{part_entry}

-- ---- the last rows behind the others

below_test : (to : Option ℕ) (key : ℕ) → is_below to key ≡ true → IsBelow to key
below_test None key is = tt
below_test (Some end) key is = grind (arith, nat_tests, is)

below_first : (to : Option ℕ) (at key : ℕ) → IsBelow to at → key < at → IsBelow to key
below_first None at key below lt = tt
below_first (Some end) at key below lt = omega (arith, below, lt)

-- a key below the range's end is one of the last part, which went up to there
below_last : (to ended : Option ℕ) (key : ℕ) → IsOver to ended → IsBelow to key → IsBelow ended key
below_last to None key over below = tt
below_last None (Some e) key over below = absurd over
below_last (Some end) (Some e) key over below = omega (arith, over, below)

module _ (m : Map) (from at : ℕ) (to : Option ℕ) (rows : List (ℕ × ℕ)) (reply : Reply) (kept : ListsPairs m (λ key. (from ≤ key) × (key < at)) rows) (last : TellsPart Up m at reply) (low : from ≤ at) (below : IsBelow to at) (over : IsOver to (ended_at reply)) where
  more : List (ℕ × ℕ)
  more = rows_below to reply

  first_keys : All (λ (r : ℕ × ℕ). r.0 < at) rows
  first_keys k d lt = let row = get_or rows k d in ((kept.pairs row.0 row.1).0 (Contains-get_or rows k d lt)).1.1

  last_keys : All (λ (r : ℕ × ℕ). at ≤ r.0) (rows_below to reply)
  last_keys k d lt = let row = get_or (rows_below to reply) k d in ((last.pairs row.0 row.1).0 (filter_has (λ r. is_below to r.0) (rows_of reply) row (Contains-get_or (rows_below to reply) k d lt)).0).1

  pub lists_all : ListsPairs m (λ key. (from ≤ key) × IsBelow to key) (rows ++ rows_below to reply)
  lists_all = record {
    rising = rising_behind at rows (rows_below to reply) kept.rising (rising_filter (λ r. is_below to r.0) (rows_of reply) last.ordered) first_keys last_keys;
    pairs = λ key value. (
      (λ has. elim (Contains-append_cases rows (rows_below to reply) (key, value) has) [
        | inl h ↦ let there = (kept.pairs key value).0 h in (there.0, (there.1.0, below_first to at key below there.1.1))
        | inr h ↦ let c = filter_has (λ r. is_below to r.0) (rows_of reply) (key, value) h in let there = (last.pairs key value).0 c.0 in let high = there.1 in (there.0, (omega (arith, low, high), below_test to key c.1))
      ]),
      (λ h. elim (cases_lt key at) [
        | inl lt ↦ Contains-append_left rows (rows_below to reply) (key, value) ((kept.pairs key value).1 (h.0, (h.1.0, lt)))
        | inr le ↦ Contains-append_right rows (rows_below to reply) (key, value) (filter_keeps (λ r. is_below to r.0) (rows_of reply) (key, value)
            ((last.pairs key value).1 (h.0, le, below_last to (ended_at reply) key over h.1.1)) (below_true to key h.1.1))
      ]),
    );
  }

-- ---- where the last entry stands

only_entry : (pass : ℕ) (p : Name) (said : Option Said) (e : Entry) → entries_of_pass pass (entries_at p said) ≡ e ∷ [] → entries_at p said ≡ e ∷ []
only_entry pass p None e h = h
only_entry pass p (Some s) e h = by_test (record { pass = p.pass; op = s.op; reply = s.reply }) (p.pass == pass) h
  where
    by_test : (x : Entry) (b : Bool) → ◌≡◌ {A = List Entry} (cond b (x ∷ []) []) (e ∷ []) → ◌≡◌ {A = List Entry} (x ∷ []) (e ∷ [])
    by_test x true h = h
    by_test x false h = let none : ⊥ = cc in absurd none

module _ (first : List (Option Page)) (start : State Page) (pages pass turns from at : ℕ) (to : Option ℕ) (rows : List (ℕ × ℕ)) (reply : Reply) (old mid before there new rest : Trail) (get : Mark) where
  entry : Entry
  entry = part_entry pass at reply

  -- the last get is where its part has its point
  module _ (split : there ≡ before ++ get ∷ []) (silent : own pass before ≡ own pass mid) (says : own pass there ≡ own pass mid ++ part_entry pass at reply ∷ []) where
    says_there : entries_at get.event.process get.said ≡ part_entry pass at reply ∷ []
    says_there = only_entry pass get.event.process get.said (part_entry pass at reply) (append_cancel_left (own pass mid) (entries_of_pass pass (entries_at get.event.process get.said)) (part_entry pass at reply ∷ [])
        (ap (λ (z : List Entry). z ++ entries_of_pass pass (entries_at get.event.process get.said)) (sym silent) ∙ (sym (own-push pass before get) ∙ (ap (own pass) (sym split) ∙ says))))

    history_there : history_of there ≡ history_of before ++ part_entry pass at reply ∷ []
    history_there = ap history_of split ∙ (history_of-push before get ∙ ap (λ (z : List Entry). history_of before ++ z) says_there)

    -- the map before it is the map after it
    same_map : final_map (first_map first) (history_of there) ≡ final_map (first_map first) (history_of before)
    same_map = ap (final_map (first_map first)) history_there ∙ final_map-push (first_map first) (history_of before) (part_entry pass at reply)

    pub at_one_moment : GoesOnFrom old mid → GoesOnFrom mid before → new ≡ there ++ rest → own pass new ≡ own pass there → IsLegalFrom (first_map first) (history_of new)
        → HasFirmMoments (first_map first) start there → Adjoin there from at rows → from ≤ at → IsBelow to at → IsOver to (ended_at reply)
        → IsAtOneMoment first pass from to (rows ++ rows_below to reply) (history_of old) (history_of new)
    at_one_moment one two goes quiet legal firm adjoin low below over =
        let e : Entry = part_entry pass at reply in
        let further : Trail = one.0 ++ two.0 in
        let begins : before ≡ old ++ further = two.1 ∙ (ap (λ (z : Trail). z ++ two.0) one.1 ∙ append_assoc old one.0 two.0) in
        let there_is : history_of before ≡ history_of old ++ history_of further = ap history_of begins ∙ history_append old further in
        let all : history_of new ≡ history_of before ++ e ∷ history_of rest = ap history_of goes ∙ (history_append there rest ∙ (ap (λ (z : List Entry). z ++ history_of rest) history_there ∙ append_assoc (history_of before) (e ∷ []) (history_of rest))) in
        let may : MayAnswer (final_map (first_map first) (history_of before)) (Part at) reply = (legal_rest (first_map first) (history_of before) (e ∷ history_of rest) (subst (IsLegalFrom (first_map first)) all legal)).0 in
        let kept : IsRange (first_map first) there from at rows = range_agrees (first_map first) start there from at rows firm adjoin in
        let kept_before : ListsPairs (final_map (first_map first) (history_of before)) (λ key. (from ≤ key) × (key < at)) rows = subst (λ (m : Map). ListsPairs m (λ key. (from ≤ key) × (key < at)) rows) same_map kept in
        let lists = lists_all (final_map (first_map first) (history_of before)) from at to rows reply kept_before (part_tells Up _ at reply may) low below over in
        record {
          before = history_of further;
          last = e;
          after = history_of rest;
          stands = all ∙ (ap (λ (z : List Entry). z ++ e ∷ history_of rest) there_is ∙ append_assoc (history_of old) (history_of further) (e ∷ history_of rest));
          part = record { mine = refl; key = at; op = refl; low = low; below = below };
          latest = append_cancel_left (own pass there) (entries_of_pass pass (history_of rest)) []
              (sym (entries_of_pass-append pass (history_of there) (history_of rest)) ∙ (ap (entries_of_pass pass) (sym (history_append there rest)) ∙ (ap (own pass) (sym goes) ∙ (quiet ∙ sym (append-nil (own pass there))))));
          lists = subst (λ (z : List Entry). ListsPairs (final_map (first_map first) z) (λ key. (from ≤ key) × IsBelow to key) (rows ++ rows_below to reply)) there_is lists;
        }
