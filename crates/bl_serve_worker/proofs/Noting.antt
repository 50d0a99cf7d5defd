-- What is noted of the entries of a handle, one after another.
use Rattle.std.proofs.Common.{◌≡◌, ℕ, List, [], ◌∷◌, ◌++◌, true, false, refl, sym, ap, ◌∙◌, subst, append-nil, append_assoc}
use Rattle.std.specs.Prelude.{◌||◌, Bool, Option, Some, None, Result, Ok, Err, OnOk, is_err}
use Rattle.std.proofs.lemmas.List.Concat.{flat_map-append}
use Rattle.bl_model.specs.declared.operation.Entry.{Entry}
use Rattle.bl_model.specs.declared.operation.Op.{Op}
use Rattle.bl_model.specs.declared.operation.Op.TheVariants.{Find, Insert, Put, Delete, Change, Part, PartDown}
use Rattle.bl_model.specs.declared.operation.Reply.{Reply}
use Rattle.bl_model.specs.Writes.{IsRead}
use Rattle.bl_changes.specs.declared.changes.Changes.{Changes}
use Rattle.bl_changes.specs.Changes.{came_of, went_of, all_came, all_went}
use Rattle.bl_serve_lines.specs.declared.request.Request.{Request}
use Rattle.bl_serve_lines.specs.declared.request.Request.TheVariants.{Ask, Add, Scan, Save, Stat, Sync}
use Rattle.bl_serve_lines.specs.declared.listing.Until.{Until}
use Rattle.bl_serve_lines.specs.declared.listing.Until.TheVariants.{Top, Below, DownTo}
use Rattle.bl_serve_lines.specs.declared.listing.Scan as listing
use Rattle.bl_serve_lines.specs.declared.listing.Listing.TheVariants.{ScanFrom}
use Rattle.bl_serve_lines.specs.Lines.{Answer, entries}
use Rattle.bl_serve_lines.specs.Scans.{AreParts, behind, part_of, scan_of}
use Rattle.bl_claims.specs.Trails.{Trail}
use Rattle.bl_claims.specs.Seeing.{own}
use Rattle.bl_map.specs.declared.handle.Handle.{Handle}
use Rattle.bl_map.specs.Handles.{IsSameHandle, HasCalled, HasKeptUp, number_of_seat, seen_by}
use Rattle.bl_map.proofs.Same.{kept_as}
use Rattle.bl_serve_worker.specs.declared.aside.Aside.{Aside}
use Rattle.bl_serve_worker.specs.Answering.IsFor.{Replies, Sums, Scans, Saves, States, Syncs, Refuses}
use Rattle.bl_serve_worker.specs.Answering.{IsFor, HasAnswered}
use Rattle.bl_serve_worker.specs.Noting.{HasNoted, NotesWrite, Notes}

-- ---- one after another

-- nothing was noted since
pub none_noted : (pass : ℕ) (base : Trail) (changes : Changes) → changes.came.items ≡ [] → changes.went.items ≡ [] → HasNoted pass base base changes
none_noted pass base changes came went = record {
  came = sym (append-nil (all_came (own pass base))) ∙ ap (λ (z : List (ℕ × ℕ)). all_came (own pass base) ++ z) (sym came);
  went = sym (append-nil (all_went (own pass base))) ∙ ap (λ (z : List (ℕ × ℕ)). all_went (own pass base) ++ z) (sym went);
}

-- more entries, and what they change
noted_more : (pass : ℕ) (base old new : Trail) (es : List Entry) (noted more : Changes) → own pass new ≡ own pass old ++ es
    → more.came.items ≡ noted.came.items ++ all_came es → more.went.items ≡ noted.went.items ++ all_went es → HasNoted pass base old noted → HasNoted pass base new more
noted_more pass base old new es noted more mine came went h = record {
  came = ap (λ (z : List Entry). all_came z) mine ∙ (flat_map-append (λ (e : Entry). came_of e.op e.reply) (own pass old) es ∙ (ap (λ (z : List (ℕ × ℕ)). z ++ all_came es) h.came
      ∙ (append_assoc (all_came (own pass base)) noted.came.items (all_came es) ∙ ap (λ (z : List (ℕ × ℕ)). all_came (own pass base) ++ z) (sym came))));
  went = ap (λ (z : List Entry). all_went z) mine ∙ (flat_map-append (λ (e : Entry). went_of e.op e.reply) (own pass old) es ∙ (ap (λ (z : List (ℕ × ℕ)). z ++ all_went es) h.went
      ∙ (append_assoc (all_went (own pass base)) noted.went.items (all_went es) ∙ ap (λ (z : List (ℕ × ℕ)). all_went (own pass base) ++ z) (sym went))));
}

pub no_notes : (a : Handle) (x : Aside) → Notes a x a x
no_notes a x = record { keeps = refl; ever = λ ok. ok; still = λ ok keeps base noted. noted }

pub then_notes : (a b c : Handle) (x y z : Aside) → Notes a x b y → Notes b y c z → Notes a x c z
then_notes a b c x y z p q = record {
  keeps = q.keeps ∙ p.keeps;
  ever = λ ok. p.ever (q.ever ok);
  still = λ ok keeps base noted. q.still ok (p.keeps ∙ keeps) base (p.still (q.ever ok) keeps base noted);
}

-- a write is noted
pub wrote : (a b : Handle) (x y : Aside) (op : Op) (reply : Reply) → IsSameHandle a b → HasCalled op reply a b → NotesWrite op reply x y → Notes a x b y
wrote a b x y op reply same called w = let es : List Entry = record { pass = number_of_seat a; op = op; reply = reply } ∷ [] in record {
  keeps = w.keeps;
  ever = w.ever;
  still = λ ok keeps base noted. subst (λ (pass : ℕ). HasNoted pass base (seen_by b) y.changes) (sym same.1.2)
      (noted_more (number_of_seat a) base (seen_by a) (seen_by b) es x.changes y.changes called.once
      (w.came ok keeps ∙ ap (λ (z : List (ℕ × ℕ)). x.changes.came.items ++ z) (sym (append-nil (came_of op reply))))
      (w.went ok keeps ∙ ap (λ (z : List (ℕ × ℕ)). x.changes.went.items ++ z) (sym (append-nil (went_of op reply)))) noted);
}

-- ---- what changes nothing

-- entries that change nothing need no note
quiet_notes : (a b : Handle) (x : Aside) (es : List Entry) → IsSameHandle a b → own (number_of_seat a) (seen_by b) ≡ own (number_of_seat a) (seen_by a) ++ es → (all_came es ≡ []) × (all_went es ≡ []) → Notes a x b x
quiet_notes a b x es same mine none = record {
  keeps = refl;
  ever = λ ok. ok;
  still = λ ok keeps base noted. subst (λ (pass : ℕ). HasNoted pass base (seen_by b) x.changes) (sym same.1.2)
      (noted_more (number_of_seat a) base (seen_by a) (seen_by b) es x.changes x.changes mine
      (sym (append-nil x.changes.came.items) ∙ ap (λ (z : List (ℕ × ℕ)). x.changes.came.items ++ z) (sym none.0))
      (sym (append-nil x.changes.went.items) ∙ ap (λ (z : List (ℕ × ℕ)). x.changes.went.items ++ z) (sym none.1)) noted);
}

pub kept_notes : (a b : Handle) (x : Aside) → IsSameHandle a b → HasKeptUp a b → Notes a x b x
kept_notes a b x same kept = quiet_notes a b x [] same (kept.none ∙ sym (append-nil (own (number_of_seat a) (seen_by a)))) (refl, refl)

read_none : (op : Op) (reply : Reply) → IsRead op → (came_of op reply ≡ []) × (went_of op reply ≡ [])
read_none (Find key) reply reads = (refl, refl)
read_none (Part from) reply reads = (refl, refl)
read_none (PartDown from) reply reads = (refl, refl)
read_none (Insert key value) reply reads = absurd reads
read_none (Put key value) reply reads = absurd reads
read_none (Delete key) reply reads = absurd reads
read_none (Change key old new) reply reads = absurd reads

one_none : (e : Entry) → IsRead e.op → (all_came (e ∷ []) ≡ []) × (all_went (e ∷ []) ≡ [])
one_none e reads = let r = read_none e.op e.reply reads in (append-nil (came_of e.op e.reply) ∙ r.0, append-nil (went_of e.op e.reply) ∙ r.1)

pub read_notes : (a b : Handle) (x : Aside) (op : Op) (reply : Reply) → IsRead op → IsSameHandle a b → HasCalled op reply a b → Notes a x b x
read_notes a b x op reply reads same called = let e : Entry = record { pass = number_of_seat a; op = op; reply = reply } in quiet_notes a b x (e ∷ []) same called.once (one_none e reads)

part_reads : (until : Until) (from : ℕ) → IsRead (part_of until from)
part_reads Top from = tt
part_reads (Below high) from = tt
part_reads (DownTo low) from = tt

parts_none : (scan : listing.Scan) (es : List Entry) → AreParts scan es → (all_came es ≡ []) × (all_went es ≡ [])
parts_none scan [] are = (refl, refl)
parts_none scan (e ∷ es) (from, at, is, rest) =
    let one = read_none e.op e.reply (subst IsRead (sym is) (part_reads scan.until from)) in
    let more = parts_none (behind scan e.reply) es rest in (
      ap (λ (z : List (ℕ × ℕ)). z ++ all_came es) one.0 ∙ more.0,
      ap (λ (z : List (ℕ × ℕ)). z ++ all_went es) one.1 ∙ more.1,
    )

-- a line that asks for no write
abbrev pub IsQuiet : Option Request → Type 0
IsQuiet (Some (Ask op)) = IsRead op
IsQuiet (Some (Add key number)) = ⊥
IsQuiet (Some (Scan asked)) = Unit {0}
IsQuiet (Some Save) = Unit {0}
IsQuiet (Some Stat) = Unit {0}
IsQuiet (Some Sync) = Unit {0}
IsQuiet None = Unit {0}

answer_none : {pages : ℕ × ℕ} {asked : Option Request} {answer : Answer} → IsFor pages asked answer → IsQuiet asked → (all_came (entries answer) ≡ []) × (all_went (entries answer) ≡ [])
answer_none (Replies entry) quiet = one_none entry quiet
answer_none (Sums key number es reply adds) quiet = absurd quiet
answer_none (Scans asked parts are) quiet = parts_none (scan_of asked) parts are
answer_none (Saves parts done are) quiet = parts_none (scan_of (ScanFrom 0 None)) parts are
answer_none (States all used free room) quiet = (refl, refl)
answer_none Syncs quiet = (refl, refl)
answer_none Refuses quiet = (refl, refl)

pub answered_notes : (a b : Handle) (x : Aside) (n : ℕ) (asked : Option Request) (before after : List ℕ) → IsQuiet asked → IsSameHandle a b → HasAnswered n asked before after a b → Notes a x b x
answered_notes a b x n asked before after quiet same answered = quiet_notes a b x (entries answered.answer) same answered.mine (answer_none answered.is_for quiet)

-- ---- at the end

pub neither : (a b : Bool) → (a || b) ≡ false → (a ≡ false) × (b ≡ false)
neither false b off = (refl, off)
neither true b off = cc

pub where_ok : {A E : Type 0} (P : Type 0) (r : Result A E) → is_err r ≡ false → OnOk r P → P
where_ok P (Ok x) fine here = here
where_ok P (Err e) fine here = cc

-- since the handle began
pub all_noted : (a b : Handle) (x y : Aside) → x.keeps ≡ true → x.changes.came.items ≡ [] → x.changes.went.items ≡ [] → y.failed ≡ false → IsSameHandle a b → Notes a x b y → HasNoted (number_of_seat a) (seen_by a) (seen_by b) y.changes
all_noted a b x y keeps came went ok same n =
    subst (λ (pass : ℕ). HasNoted pass (seen_by a) (seen_by b) y.changes) same.1.2 (n.still ok keeps (seen_by a) (none_noted (number_of_seat a) (seen_by a) x.changes came went))

-- a handle that has only kept up
pub kept_noted : (a b : Handle) (changes : Changes) → HasKeptUp a b → changes.came.items ≡ [] → changes.went.items ≡ [] → HasNoted (number_of_seat a) (seen_by a) (seen_by b) changes
kept_noted a b changes kept came went =
    noted_more (number_of_seat a) (seen_by a) (seen_by a) (seen_by b) [] changes changes (kept.none ∙ sym (append-nil (own (number_of_seat a) (seen_by a)))) (sym (append-nil changes.came.items)) (sym (append-nil changes.went.items))
    (none_noted (number_of_seat a) (seen_by a) changes came went)

-- and then what adds no entry
pub noted_idle : (a b c : Handle) (changes : Changes) → IsSameHandle a b → HasKeptUp b c → HasNoted (number_of_seat a) (seen_by a) (seen_by b) changes → HasNoted (number_of_seat a) (seen_by a) (seen_by c) changes
noted_idle a b c changes same kept h = let k = kept_as a b c same kept in
    noted_more (number_of_seat a) (seen_by a) (seen_by b) (seen_by c) [] changes changes (k.none ∙ sym (append-nil (own (number_of_seat a) (seen_by b)))) (sym (append-nil changes.came.items)) (sym (append-nil changes.went.items)) h
