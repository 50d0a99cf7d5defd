-- Handles that have seen more, and have done nothing.
use Rattle.std.proofs.Common.{◌≡◌, ℕ, List, [], ◌∷◌, ◌++◌, Option, refl, sym, ap, ◌∙◌, subst, append-nil, append_assoc}
use Rattle.std.specs.Prelude.{filter, ◌==◌}
use Rattle.std.proofs.lemmas.List.{append_cancel_left}
use Rattle.std.proofs.lemmas.List.Elements.{filter-append}
use Rattle.bl_model.specs.declared.operation.Entry.{Entry}
use Rattle.bl_page.specs.declared.page.Page.{Page}
use Rattle.bl_changes.specs.Changes.{all_came, all_went}
use Rattle.bl_claims.specs.Trails.{Trail, history_of}
use Rattle.bl_claims.specs.Seeing.{IsLinearizable, own, GoesOnFrom}
use Rattle.bl_index.specs.Calls.{first_of, IsPassOf}
use Rattle.bl_index.specs.declared.index.Index.{Index}
use Rattle.bl_map.specs.declared.handle.Handle.{Handle}
use Rattle.bl_map.specs.Handles.{IsSameHandle, KeepsHints, AreOfOne, HaveMet as HandlesHaveMet, first_map_of, number_of_seat, seen_by}
use Rattle.bl_map.proofs.AllMet.{same_again}
use Rattle.bl_map_calls.proofs.Scanning.{history_append}
use Rattle.bl_map_log.specs.declared.handle.NotingHandle.{NotingHandle}
use Rattle.bl_map_log.specs.Notes.{HasNoted, NotesNone, came_noted, went_noted, done_in}
use Rattle.bl_map_log.specs.Meetings.{HasSeenMore, HasMet}

-- ---- trails

pub goes_on : (old mid new : Trail) → GoesOnFrom old mid → GoesOnFrom mid new → GoesOnFrom old new
goes_on old mid new a b = (a.0 ++ b.0, b.1 ∙ (ap (λ (z : Trail). z ++ b.0) a.1 ∙ append_assoc old a.0 b.0))

pub goes_self : (seen : Trail) → GoesOnFrom seen seen
goes_self seen = ([], sym (append-nil seen))

own_append : (pass : ℕ) (old more : Trail) → own pass (old ++ more) ≡ own pass old ++ own pass more
own_append pass old more = ap (filter (λ (e : Entry). e.pass == pass)) (history_append old more) ∙ filter-append (λ (e : Entry). e.pass == pass) (history_of old) (history_of more)

some_is_none : (x : Entry) (xs : List Entry) → ◌≡◌ {A = List Entry} (x ∷ xs) [] → ⊥
some_is_none x xs is = cc

none_first : (xs ys : List Entry) → xs ++ ys ≡ [] → xs ≡ []
none_first [] ys is = refl
none_first (x ∷ xs) ys is = absurd (some_is_none x (xs ++ ys) is)

-- a trail between two that have the same entries of a pass has them too
pub between : (pass : ℕ) (old mid new : Trail) → GoesOnFrom old mid → GoesOnFrom mid new → own pass new ≡ own pass old → own pass mid ≡ own pass old
between pass old mid new a b same =
    let front : own pass mid ≡ own pass old ++ own pass a.0 = ap (own pass) a.1 ∙ own_append pass old a.0 in
    let whole : own pass new ≡ own pass old ++ (own pass a.0 ++ own pass b.0) = ap (own pass) b.1 ∙ (own_append pass mid b.0
    ∙ (ap (λ (z : List Entry). z ++ own pass b.0) front ∙ append_assoc (own pass old) (own pass a.0) (own pass b.0))) in
    let rest : own pass a.0 ++ own pass b.0 ≡ [] = append_cancel_left (own pass old) (own pass a.0 ++ own pass b.0) [] (sym whole ∙ (same ∙ sym (append-nil (own pass old)))) in
    front ∙ (ap (λ (z : List Entry). own pass old ++ z) (none_first (own pass a.0) (own pass b.0) rest) ∙ append-nil (own pass old))

-- ---- handles

-- what the map of the one began with is what that of the other one did
pub same_first : (a b : Handle) → IsSameHandle a b → first_map_of b ≡ first_map_of a
same_first a b same = λ i. first_of (same.0 i).now

pub seen_self : (h : NotingHandle) → HasSeenMore h h
seen_self h = record {
  same = (refl, (refl, refl, refl, refl));
  hints = refl;
  begins = goes_self (seen_by h.handle);
  none = refl;
  legal = λ l. l;
  notes = record { came = refl; went = refl };
}

pub seen_then : (a b c : NotingHandle) → HasSeenMore a b → HasSeenMore b c → HasSeenMore a c
seen_then a b c p q = record {
  same = same_again a.handle b.handle c.handle p.same q.same;
  hints = q.hints ∙ p.hints;
  begins = goes_on (seen_by a.handle) (seen_by b.handle) (seen_by c.handle) p.begins q.begins;
  none = subst (λ (z : ℕ). own z (seen_by c.handle) ≡ own z (seen_by b.handle)) p.same.1.2 q.none ∙ p.none;
  legal = λ l. let first = same_first a.handle b.handle p.same in
      subst (λ (z : List (Option Page)). IsLinearizable z (seen_by c.handle)) first
      (q.legal (subst (λ (z : List (Option Page)). IsLinearizable z (seen_by b.handle)) (sym first) (p.legal l)));
  notes = record { came = q.notes.came ∙ p.notes.came; went = q.notes.went ∙ p.notes.went };
}

-- of the two sides of what was noted
noted_on : (rows_of : List Entry → List (ℕ × ℕ)) (base : Trail) (a b : NotingHandle) (was is : List (ℕ × ℕ)) → HasSeenMore a b → is ≡ was
    → rows_of (done_in (seen_by a.handle) a) ≡ rows_of (done_in base a) ++ was → rows_of (done_in (seen_by b.handle) b) ≡ rows_of (done_in base b) ++ is
noted_on rows_of base a b was is s same h =
    let on : rows_of (own (number_of_seat a.handle) (seen_by b.handle)) ≡ rows_of (own (number_of_seat a.handle) base) ++ is =
    ap rows_of s.none ∙ (h ∙ ap (λ (z : List (ℕ × ℕ)). rows_of (done_in base a) ++ z) (sym same)) in
    subst (λ (z : ℕ). rows_of (own z (seen_by b.handle)) ≡ rows_of (own z base) ++ is) (sym s.same.1.2) on

-- what was noted is noted still
pub noted_still : (base : Trail) (a b : NotingHandle) → HasSeenMore a b → HasNoted base a → HasNoted base b
noted_still base a b s h = record {
  begins = goes_on base (seen_by a.handle) (seen_by b.handle) h.begins s.begins;
  legal = subst (λ (z : List (Option Page)). IsLinearizable z (seen_by b.handle)) (sym (same_first a.handle b.handle s.same)) (s.legal h.legal);
  came = noted_on all_came base a b (came_noted a) (came_noted b) s s.notes.came h.came;
  went = noted_on all_went base a b (went_noted a) (went_noted b) s s.notes.went h.went;
}

-- a trail that it has met by has what it has done, and no more of it
pub done_by : (now : Trail) (a b : NotingHandle) → HasMet now a b → done_in now a ≡ done_in (seen_by a.handle) a
done_by now a b m = between (number_of_seat a.handle) (seen_by a.handle) now (seen_by b.handle) m.begins m.ends m.more.none

-- ---- two handles meet

pub meets : (one two one' two' : NotingHandle) → AreOfOne one.handle two.handle → IsSameHandle one.handle one'.handle → IsSameHandle two.handle two'.handle → HandlesHaveMet one.handle two.handle one'.handle two'.handle
    → KeepsHints one.handle one'.handle → KeepsHints two.handle two'.handle → NotesNone one one' → NotesNone two two' → HasSeenMore one one' × HasSeenMore two two'
meets one two one' two' of same same' met hints hints' notes notes' =
    let first : first_map_of two.handle ≡ first_map_of one.handle = sym two.handle.own.2 ∙ of.2 in
    let both : seen_by one'.handle ≡ seen_by two'.handle = sym met.same in (
      record { same = same; hints = hints; begins = met.begins_one; none = met.none_one; legal = λ l. met.seen.linear; notes = notes },
      record {
        same = same';
        hints = hints';
        begins = subst (GoesOnFrom (seen_by two.handle)) both met.begins_two;
        none = ap (own (number_of_seat two.handle)) met.same ∙ met.none_two;
        legal = λ l. subst (λ (z : List (Option Page) × Trail). IsLinearizable z.0 z.1) (λ i. (sym first i, both i)) met.seen.linear;
        notes = notes';
      },
    )

-- what has met is of one map still
pub of_one_still : (one two mid : NotingHandle) → HasSeenMore one mid → AreOfOne one.handle two.handle → AreOfOne mid.handle two.handle
of_one_still one two mid s of = subst (λ (z : Index). IsPassOf z two.handle.pass) (λ i. (sym s.same.0 i).now) of
