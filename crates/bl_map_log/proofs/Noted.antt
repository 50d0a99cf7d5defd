-- What a handle has noted of its calls.
use Rattle.std.proofs.Common.{◌≡◌, inl, inr, arith, ℕ, List, [], ◌∷◌, ◌++◌, Option, Some, None, refl, sym, ap, ◌∙◌, subst, append-nil, append_assoc}
use Rattle.std.specs.Prelude.{All, Result, Ok, Err}
use Rattle.std.specs.declared.alloc.AllocError.{AllocError}
use Rattle.std.proofs.lemmas.Bool.{cases_lt}
use Rattle.std.proofs.lemmas.List.Concat.{flat_map-append}
use Rattle.std.proofs.lemmas.List.Elements.{All-nil, All-cons, All-head, All-tail, All-push, All-weaker}
use Rattle.bl_model.specs.declared.operation.Entry.{Entry}
use Rattle.bl_model.specs.declared.operation.Op.{Op}
use Rattle.bl_model.specs.declared.operation.Op.TheVariants.{Find, Insert, Put, Delete, Change, Part, PartDown}
use Rattle.bl_model.specs.declared.operation.Reply.{Reply}
use Rattle.bl_model.specs.Parts.{ended_at}
use Rattle.bl_model.specs.Writes.{IsRead}
use Rattle.bl_page.specs.declared.page.Page.{Page}
use Rattle.bl_proc.specs.declared.parts.Direction.{Direction}
use Rattle.bl_proc.specs.declared.parts.Direction.TheVariants.{Up, Down}
use Rattle.bl_proc.specs.Parts.{op_toward}
use Rattle.bl_changes.specs.Changes.{came_of, went_of, all_came, all_went}
use Rattle.bl_claims.specs.Trails.{Trail}
use Rattle.bl_claims.specs.Seeing.{IsLinearizable, own, GoesOnFrom}
use Rattle.bl_index_read.specs.LeafRows.{IsBelow}
use Rattle.bl_index_range.specs.Ranges.{IsPartWithin}
use Rattle.bl_index.specs.Scans.{AreParts}
use Rattle.bl_map.specs.declared.handle.Handle.{Handle}
use Rattle.bl_map_calls.specs.declared.ranging.RangeRefusal.{RangeRefusal}
use Rattle.bl_map.specs.Handles.{IsSameHandle, HasCalled, HasKeptUp, first_map_of, number_of_seat, seen_by}
use Rattle.bl_map_calls.specs.Ranges.{Ranged}
use Rattle.bl_map_calls.specs.Scans.{HasScanned, Scanned}
use Rattle.bl_map_log.specs.declared.handle.NotingHandle.{NotingHandle}
use Rattle.bl_map_log.specs.Notes.{KeepsNotes, NotesReply, NotesNone, came_noted, went_noted}
use Rattle.bl_map_log.proofs.Seen.{goes_on, goes_self, same_first}

-- ---- entries, and what they change

more_rows : (rows : List Entry → List (ℕ × ℕ)) (pass : ℕ) (base old new : Trail) (es : List Entry) (was is : List (ℕ × ℕ))
    → ((xs ys : List Entry) → rows (xs ++ ys) ≡ rows xs ++ rows ys) → own pass new ≡ own pass old ++ es → is ≡ was ++ rows es → rows (own pass old) ≡ rows (own pass base) ++ was → rows (own pass new) ≡ rows (own pass base) ++ is
more_rows rows pass base old new es was is splits mine noted h =
    ap rows mine ∙ (splits (own pass old) es ∙ (ap (λ (z : List (ℕ × ℕ)). z ++ rows es) h ∙ (append_assoc (rows (own pass base)) was (rows es) ∙ ap (λ (z : List (ℕ × ℕ)). rows (own pass base) ++ z) (sym noted))))

-- The handle has these new entries, and has seen what it had seen.
pub record Enters (es : List Entry) (old new : NotingHandle) : Type 0 where
  pub same : IsSameHandle old.handle new.handle
  pub begins : GoesOnFrom (seen_by old.handle) (seen_by new.handle)
  pub legal : IsLinearizable (first_map_of old.handle) (seen_by old.handle) → IsLinearizable (first_map_of old.handle) (seen_by new.handle)
  pub mine : own (number_of_seat old.handle) (seen_by new.handle) ≡ own (number_of_seat old.handle) (seen_by old.handle) ++ es

-- and what they change was noted
pub keeps : (es : List Entry) (a b : NotingHandle) → Enters es a b → came_noted b ≡ came_noted a ++ all_came es → went_noted b ≡ went_noted a ++ all_went es → KeepsNotes a b
keeps es a b e came went = record {
  same = e.same;
  still = λ base h.
      let n = number_of_seat a.handle in
      let came_now : all_came (own n (seen_by b.handle)) ≡ all_came (own n base) ++ came_noted b =
      more_rows all_came n base (seen_by a.handle) (seen_by b.handle) es (came_noted a) (came_noted b) (flat_map-append (λ (x : Entry). came_of x.op x.reply)) e.mine came h.came in
      let went_now : all_went (own n (seen_by b.handle)) ≡ all_went (own n base) ++ went_noted b =
      more_rows all_went n base (seen_by a.handle) (seen_by b.handle) es (went_noted a) (went_noted b) (flat_map-append (λ (x : Entry). went_of x.op x.reply)) e.mine went h.went in record {
        begins = goes_on base (seen_by a.handle) (seen_by b.handle) h.begins e.begins;
        legal = subst (λ (z : List (Option Page)). IsLinearizable z (seen_by b.handle)) (sym (same_first a.handle b.handle e.same)) (e.legal h.legal);
        came = subst (λ (z : ℕ). all_came (own z (seen_by b.handle)) ≡ all_came (own z base) ++ came_noted b) (sym e.same.1.2) came_now;
        went = subst (λ (z : ℕ). all_went (own z (seen_by b.handle)) ≡ all_went (own z base) ++ went_noted b) (sym e.same.1.2) went_now;
      };
}

-- ---- a call

one_called : (op : Op) (reply : Reply) (a b : NotingHandle) → IsSameHandle a.handle b.handle → HasCalled op reply a.handle b.handle → Enters (record { pass = number_of_seat a.handle; op = op; reply = reply } ∷ []) a b
one_called op reply a b same c = record { same = same; begins = c.begins; legal = λ l. c.seen; mine = c.once }

-- it was noted by its reply
pub keeps_reply : (op : Op) (reply : Reply) (a b : NotingHandle) → IsSameHandle a.handle b.handle → HasCalled op reply a.handle b.handle → NotesReply op reply a b → KeepsNotes a b
keeps_reply op reply a b same c n = keeps (record { pass = number_of_seat a.handle; op = op; reply = reply } ∷ []) a b (one_called op reply a b same c)
    (n.came ∙ ap (λ (z : List (ℕ × ℕ)). came_noted a ++ z) (sym (append-nil (came_of op reply))))
    (n.went ∙ ap (λ (z : List (ℕ × ℕ)). went_noted a ++ z) (sym (append-nil (went_of op reply))))

-- ---- what changes nothing

read_none : (op : Op) (reply : Reply) → IsRead op → (came_of op reply ≡ []) × (went_of op reply ≡ [])
read_none (Find key) reply reads = (refl, refl)
read_none (Part from) reply reads = (refl, refl)
read_none (PartDown from) reply reads = (refl, refl)
read_none (Insert key value) reply reads = absurd reads
read_none (Put key value) reply reads = absurd reads
read_none (Delete key) reply reads = absurd reads
read_none (Change key old new) reply reads = absurd reads

abbrev AreRead : List Entry → Type 0
AreRead es = All (λ e. IsRead e.op) es

all_none : (es : List Entry) → AreRead es → (all_came es ≡ []) × (all_went es ≡ [])
all_none [] reads = (refl, refl)
all_none (e ∷ es) reads =
    let one = read_none e.op e.reply (All-head (λ (x : Entry). IsRead x.op) e es reads) in
    let more = all_none es (All-tail (λ (x : Entry). IsRead x.op) e es reads) in (
      ap (λ (z : List (ℕ × ℕ)). z ++ all_came es) one.0 ∙ more.0,
      ap (λ (z : List (ℕ × ℕ)). z ++ all_went es) one.1 ∙ more.1,
    )

-- a handle that only reads has nothing to note
pub keeps_reading : (es : List Entry) (a b : NotingHandle) → AreRead es → Enters es a b → NotesNone a b → KeepsNotes a b
keeps_reading es a b reads e n = let none = all_none es reads in
    keeps es a b e (n.came ∙ (sym (append-nil (came_noted a)) ∙ ap (λ (z : List (ℕ × ℕ)). came_noted a ++ z) (sym none.0))) (n.went ∙ (sym (append-nil (went_noted a)) ∙ ap (λ (z : List (ℕ × ℕ)). went_noted a ++ z) (sym none.1)))

pub keeps_find : (key : ℕ) (reply : Reply) (a b : NotingHandle) → IsSameHandle a.handle b.handle → HasCalled (Find key) reply a.handle b.handle → NotesNone a b → KeepsNotes a b
keeps_find key reply a b same c n = let e : Entry = record { pass = number_of_seat a.handle; op = Find key; reply = reply } in
    keeps_reading (e ∷ []) a b (All-cons (λ (x : Entry). IsRead x.op) e [] tt (All-nil (λ (x : Entry). IsRead x.op))) (one_called (Find key) reply a b same c) n

pub keeps_upkeep : (a b : NotingHandle) → IsSameHandle a.handle b.handle → HasKeptUp a.handle b.handle → NotesNone a b → KeepsNotes a b
keeps_upkeep a b same k n = keeps_reading [] a b (All-nil (λ (x : Entry). IsRead x.op))
    (record { same = same; begins = k.begins; legal = k.seen; mine = k.none ∙ sym (append-nil (own (number_of_seat a.handle) (seen_by a.handle))) }) n

toward_read : (direction : Direction) (key : ℕ) → IsRead (op_toward direction key)
toward_read Up key = tt
toward_read Down key = tt

parts_read : (direction : Direction) (pass : ℕ) (to from : Option ℕ) (es : List Entry) (upto : Option ℕ) → AreParts direction pass to from es upto → AreRead es
parts_read direction pass to from [] upto are = All-nil (λ (x : Entry). IsRead x.op)
parts_read direction pass to None (e ∷ es) upto are = absurd are
parts_read direction pass to (Some key) (e ∷ es) upto are =
    All-cons (λ (x : Entry). IsRead x.op) e es (subst IsRead (sym are.1) (toward_read direction key)) (parts_read direction pass to (ended_at e.reply) es upto are.3)

pub keeps_scanned : (direction : Direction) (from : ℕ) (to upto : Option ℕ) (rows : List (ℕ × ℕ)) (a b : NotingHandle) → IsSameHandle a.handle b.handle
    → HasScanned (first_map_of a.handle) (number_of_seat a.handle) direction from to upto rows (seen_by a.handle) (seen_by b.handle) → NotesNone a b → KeepsNotes a b
keeps_scanned direction from to upto rows a b same s n = keeps_reading s.parts a b (parts_read direction (number_of_seat a.handle) to (Some from) s.parts upto s.are_parts)
    (record { same = same; begins = s.begins; legal = s.seen; mine = s.mine }) n

part_within : (pass from : ℕ) (to : Option ℕ) (e : Entry) → IsPartWithin pass from to e → IsRead e.op
part_within pass from to e p = subst IsRead (sym p.op) tt

pub keeps_ranged : (pages from : ℕ) (to : Option ℕ) (rounds : ℕ) (result : Result ℕ RangeRefusal) (before after : List (ℕ × ℕ)) (a b : NotingHandle) → IsSameHandle a.handle b.handle
    → Ranged (first_map_of a.handle) pages (number_of_seat a.handle) from to rounds result before after (seen_by a.handle) (seen_by b.handle) → NotesNone a b → KeepsNotes a b
keeps_ranged pages from to rounds result before after a b same r n = keeps_reading r.parts a b
    (All-weaker (IsPartWithin (number_of_seat a.handle) from to) (λ (x : Entry). IsRead x.op) (part_within (number_of_seat a.handle) from to) r.parts r.makes.within)
    (record { same = same; begins = r.makes.begins; legal = r.makes.seen; mine = r.makes.mine }) n

-- a scan, and the part behind it for which there was no room
pub keeps_scan : {S : Type 0} (takes : S → List (ℕ × ℕ) → S → Type 0) (lacks : ℕ → Type 0) (pages : ℕ) (direction : Direction) (from : ℕ) (to : Option ℕ) (result : Result (Unit {0}) AllocError) (before after : S) (a b : NotingHandle) → IsSameHandle a.handle b.handle
    → Scanned takes lacks (first_map_of a.handle) pages (number_of_seat a.handle) direction from to result before after (seen_by a.handle) (seen_by b.handle) → NotesNone a b → KeepsNotes a b
keeps_scan takes lacks pages direction from to (Ok done) before after a b same s n =
    let p = number_of_seat a.handle in
    let parts = s.scanned.parts in
    keeps_reading parts a b (parts_read direction p to (Some from) parts s.upto s.scanned.are_parts) (record {
      same = same;
      begins = goes_on (seen_by a.handle) s.mid (seen_by b.handle) s.scanned.begins s.begins;
      legal = λ l. s.seen (s.scanned.seen l);
      mine = ap (own p) s.over.1 ∙ s.scanned.mine;
    }) n
keeps_scan takes lacks pages direction from to (Err fault) before after a b same s n =
    let p = number_of_seat a.handle in
    let parts = s.scanned.parts in
    let last : Entry = record { pass = p; op = op_toward direction s.stopped.0; reply = s.stopped.2.reply } in
    keeps_reading (parts ++ last ∷ []) a b
    (All-push (λ (x : Entry). IsRead x.op) parts last (parts_read direction p to (Some from) parts s.upto s.scanned.are_parts) (toward_read direction s.stopped.0)) (record {
      same = same;
      begins = goes_on (seen_by a.handle) s.mid (seen_by b.handle) s.scanned.begins s.begins;
      legal = λ l. s.seen (s.scanned.seen l);
      mine = s.stopped.2.finds.answers.once ∙ (ap (λ (z : List Entry). z ++ last ∷ []) s.scanned.mine ∙ append_assoc (own p (seen_by a.handle)) parts (last ∷ []));
    }) n

-- a range, of which nothing is read where it has no keys
pub keeps_range : (pages from : ℕ) (to : Option ℕ) (rounds : ℕ) (result : Result ℕ RangeRefusal) (before after : List (ℕ × ℕ)) (P Q : Type 0) (a b : NotingHandle) → IsSameHandle a.handle b.handle
    → (IsBelow to from → Ranged (first_map_of a.handle) pages (number_of_seat a.handle) from to rounds result before after (seen_by a.handle) (seen_by b.handle))
    → ((IsBelow to from → ⊥) → P × Q × (seen_by b.handle ≡ seen_by a.handle)) → NotesNone a b → KeepsNotes a b
keeps_range pages from None rounds result before after P Q a b same ranged none n = keeps_ranged pages from None rounds result before after a b same (ranged tt) n
keeps_range pages from (Some to) rounds result before after P Q a b same ranged none n = elim (cases_lt from to) [
  | inl below ↦ keeps_ranged pages from (Some to) rounds result before after a b same (ranged below) n
  | inr above ↦ let still = (none (λ below. absurd (omega (arith, below, above)))).2 in keeps_reading [] a b (All-nil (λ (x : Entry). IsRead x.op)) (record {
    same = same;
    begins = subst (λ (z : Trail). GoesOnFrom (seen_by a.handle) z) (sym still) (goes_self (seen_by a.handle));
    legal = subst (λ (z : Trail). IsLinearizable (first_map_of a.handle) (seen_by a.handle) → IsLinearizable (first_map_of a.handle) z) (sym still) (λ l. l);
    mine = ap (own (number_of_seat a.handle)) still ∙ sym (append-nil (own (number_of_seat a.handle) (seen_by a.handle)));
  }) n
]
