-- How a scan goes on by a part, and where it ends.
use Rattle.std.proofs.Common.{◌≡◌, ℕ, ◌+◌, ◌-◌, ◌^◌, ◌<◌, false, Option, Some, None, List, [], ◌∷◌, ◌++◌, refl, sym, ap, ◌∙◌, subst, append_assoc, append-nil, arith}
use Rattle.std.proofs.lemmas.List.{flat_map_more}
use Rattle.std.proofs.lemmas.List.Elements.{All-nil}
use Rattle.bl_model.specs.declared.operation.Entry.{Entry}
use Rattle.bl_proc.specs.Parts.{op_toward}
use Rattle.bl_model.specs.declared.operation.Reply.{Reply}
use Rattle.bl_model.specs.Map.{Map, MayAnswer}
use Rattle.bl_claims.specs.Trails.{Trail, history_of}
use Rattle.bl_page.specs.declared.page.Page.{Page}
use Rattle.bl_claims.specs.Seeing.{first_map, own}
use Rattle.bl_index.specs.declared.scanning.ScanFault.{ScanFault}
use Rattle.bl_index_read.specs.Searching.{Finds}
use Rattle.bl_index_read.specs.declared.leaf_rows.Behind.{Behind}
use Rattle.bl_index_read.specs.declared.leaf_rows.Behind.TheVariants.{Part, Nothing}
use Rattle.bl_index_read.specs.LeafRows.{IsBefore, is_before, IsFrom, GoesOnWithin}
use Rattle.bl_index_read.proofs.Orders.{never_both, from_on, from_behind, past}
use Rattle.bl_index_range.specs.Parts.{rows_before}
use Rattle.bl_index.specs.Scans.{Scans, EndsScan, GivesPart, LeavesPart, StopsAt, StopsScan}
use Rattle.bl_model.specs.Parts.{ended_at}
use Rattle.bl_store.specs.Hands.{known, IsSameHand}
use Rattle.bl_store.specs.declared.store.Hand.{Hand}
use Rattle.bl_index_rule.specs.declared.known.PassState.{PassState}
use Rattle.bl_proc.specs.declared.parts.Direction.{Direction}
use Rattle.bl_proc.specs.declared.parts.Direction.TheVariants.{Up, Down}
use Rattle.bl_index_read.specs.declared.sought.Sought.TheVariants as sought
use Rattle.bl_index_read.specs.LeafWays.{HasSetOff}
use Rattle.bl_index_read.proofs.Setting.{same_number}
use Rattle.bl_index_events.specs.declared.tree.Tree.{Tree}
use Rattle.bl_proc_steps.specs.declared.descent.Descent.{Descent}
use Rattle.bl_index_range.proofs.Told.{Answered, answered, part_tells, history_append}
use Rattle.bl_index_range.proofs.PartsMade.{calls_push}
use Rattle.bl_index.proofs.Scanned.{IsBetween, parts_push, right_more, between_more, order_more}

-- a scan that is about to begin
unfoldable pub scans_none : (first : List (Option Page)) (pages pass turns : ℕ) (direction : Direction) (from : ℕ) (to : Option ℕ) (old : Trail) → Scans first pages pass turns direction from to (Some from) [] old old
scans_none first pages pass turns direction from to old = record {
  parts = [];
  are_parts = refl;
  calls = refl;
  begins = ([], sym (append-nil old));
  seen = λ s. s;
  mine = sym (append-nil (own pass old));
  listed = refl;
  ordered = λ i j lt within. absurd (omega arith);
  within = All-nil (IsBetween direction from (Some from));
  right = λ key there before before_to. absurd (never_both direction from key before there);
}

-- or that is to do nothing
pub ends_at_once : (first : List (Option Page)) (pages pass turns : ℕ) (direction : Direction) (from : ℕ) (to : Option ℕ) (old : Trail) → is_before direction to from ≡ false → EndsScan first pages pass turns direction from to [] old old
ends_at_once first pages pass turns direction from to old fails = record { upto = Some from; over = past direction to from fails; scans = scans_none first pages pass turns direction from to old }

module _ (first : List (Option Page)) (pages pass turns : ℕ) (direction : Direction) (at : ℕ) (reply : Reply) (mid new : Trail) (finds : Finds first pages pass turns (op_toward direction at) reply mid new) where
  abbrev entry : Entry
  entry = record { pass = pass; op = op_toward direction at; reply = reply }

  abbrev more : Trail
  more = finds.answers.holds.more

  stands_there : Answered (first_map first) entry (history_of mid) (history_of new)
  stands_there = answered (first_map first) pass entry (history_of mid) (history_of more) (history_of new) (ap history_of finds.answers.holds.begins ∙ history_append mid more) finds.answers.seen.legal finds.answers.once

  -- its own key comes before its end
  pub ends_behind : IsBefore direction (ended_at reply) at
  ends_behind = (part_tells direction _ at reply stands_there.may).further

  -- the scan has gone on by the part
  pub scans_more : (from : ℕ) (to : Option ℕ) (listed : List (ℕ × ℕ)) (old : Trail) → Scans first pages pass turns direction from to (Some at) listed old mid → IsFrom direction from at → IsBefore direction to at → Scans first pages pass turns direction from to (ended_at reply) (listed ++ rows_before direction to reply) old new
  scans_more from to listed old s on_way before =
      let is_part : (m : Map) → MayAnswer m (op_toward direction at) reply → _ = λ m may. part_tells direction m at reply may in
      let on : history_of mid ≡ history_of old ++ history_of s.begins.0 = ap history_of s.begins.1 ∙ history_append old s.begins.0 in
      record {
        parts = s.parts ++ entry ∷ [];
        are_parts = parts_push direction pass to (Some from) s.parts at reply s.are_parts before;
        calls = calls_push first pages pass turns s.parts entry old mid new s.calls finds;
        begins = (s.begins.0 ++ more, finds.answers.holds.begins ∙ (ap (λ (z : Trail). z ++ more) s.begins.1 ∙ append_assoc old s.begins.0 more));
        seen = λ _. finds.answers.seen;
        mine = finds.answers.once ∙ (ap (λ (z : List Entry). z ++ entry ∷ []) s.mine ∙ append_assoc (own pass old) s.parts (entry ∷ []));
        listed = ap (λ (z : List (ℕ × ℕ)). z ++ rows_before direction to reply) s.listed ∙ flat_map_more (λ part. rows_before direction to part.reply) [] s.parts entry;
        ordered = order_more first pass direction from at to (history_of old) (history_of s.begins.0) (history_of mid) (history_of new) entry listed is_part on stands_there refl on_way s.within s.ordered;
        within = between_more first pass direction from at to (history_of old) (history_of s.begins.0) (history_of mid) (history_of new) entry listed is_part on stands_there refl on_way s.within;
        right = right_more first pass direction from at to (history_of old) (history_of s.begins.0) (history_of mid) (history_of new) entry listed is_part on stands_there refl on_way s.within s.right;
      }

  pub parts_more : (from : ℕ) (to : Option ℕ) (listed : List (ℕ × ℕ)) (old : Trail) (s : Scans first pages pass turns direction from to (Some at) listed old mid) (on_way : IsFrom direction from at) (before : IsBefore direction to at) → (scans_more from to listed old s on_way before).parts ≡ s.parts ++ entry ∷ []
  unfolding scans_more
  parts_more from to listed old s on_way before = refl

module _ {S : Type 0} (takes : S → List (ℕ × ℕ) → S → Type 0) (first : List (Option Page)) (pages pass it turns : ℕ) (direction : Direction) (from at : ℕ) (to : Option ℕ) (behind : Behind) (listed : List (ℕ × ℕ)) (before after : S) (old mid new : Trail) (same : it ≡ pass) (s : Scans first pages pass turns direction from to (Some at) listed old mid) (on_way : IsFrom direction from at) (before_to : IsBefore direction to at) where
  abbrev Step : Option ℕ → Type 0
  Step upto = (rows : List (ℕ × ℕ)) × takes before rows after × Scans first pages pass turns direction from to upto (listed ++ rows) old new

  by_part : (a : GivesPart takes first pages it turns direction at to behind before after mid new) → Step (ended_at a.reply)
  by_part a = let finds : Finds first pages pass turns (op_toward direction at) a.reply mid new = subst (λ (z : ℕ). Finds first pages z turns (op_toward direction at) a.reply mid new) same a.finds in (
    rows_before direction to a.reply,
    a.taken,
    scans_more first pages pass turns direction at a.reply mid new finds from to listed old s on_way before_to,
  )

  -- a scan that goes on behind a part
  pub goes_on : (n near : ℕ) → behind ≡ Part n near → GivesPart takes first pages it turns direction at to behind before after mid new → IsBefore direction (Some n) at × (n < 2 ^ 64) × IsBefore direction to n × Step (Some n)
  goes_on n near is a = let on = subst (GoesOnWithin direction to (ended_at a.reply)) is a.ends in (
    subst (λ (z : Option ℕ). IsBefore direction z at) on.0 (ends_behind first pages it turns direction at a.reply mid new a.finds),
    on.1,
    on.2,
    subst Step on.0 (by_part a),
  )

  -- a scan that is over behind it
  pub ends_there : behind ≡ Nothing → GivesPart takes first pages it turns direction at to behind before after mid new → (rows : List (ℕ × ℕ)) × takes before rows after × EndsScan first pages pass turns direction from to (listed ++ rows) old new
  ends_there is a = let on = by_part a in (on.0, on.1, record { upto = ended_at a.reply; over = subst (GoesOnWithin direction to (ended_at a.reply)) is a.ends; scans = on.2 })

-- ---- a scan that has come so far

-- it goes on from a key before its end, or it has ended
abbrev pub IsSoFar : List (Option Page) → ℕ → ℕ → ℕ → Direction → ℕ → Option ℕ → Behind → List (ℕ × ℕ) → Trail → Trail → Type 0
IsSoFar first pages pass turns direction from to (Part at near) listed old new = IsFrom direction from at × (at < 2 ^ 64) × IsBefore direction to at × Scans first pages pass turns direction from to (Some at) listed old new
IsSoFar first pages pass turns direction from to Nothing listed old new = EndsScan first pages pass turns direction from to listed old new

-- how many keys there are from one on
abbrev pub keys_from : Direction → ℕ → ℕ
keys_from Up at = 2 ^ 64 - at
keys_from Down at = at + 1

pub some_left : (direction : Direction) (at : ℕ) → at < 2 ^ 64 → 0 < keys_from direction at
some_left Up at fits = omega (arith, fits)
some_left Down at fits = omega arith

pub fewer_left : (direction : Direction) (at n : ℕ) → IsBefore direction (Some n) at → n < 2 ^ 64 → keys_from direction n < keys_from direction at
fewer_left Up at n before fits = omega (arith, before, fits)
fewer_left Down at n before fits = omega (arith, before)

-- what is left of the keys
abbrev pub left_behind : Direction → Behind → ℕ
left_behind direction (Part at near) = keys_from direction at
left_behind direction Nothing = 0

-- what a part more makes of it
pub record HasGone {S : Type 0} (takes : S → List (ℕ × ℕ) → S → Type 0) (first : List (Option Page)) (pages pass turns : ℕ) (direction : Direction) (from at : ℕ) (to : Option ℕ) (behind : Behind) (listed : List (ℕ × ℕ)) (before after : S) (old new : Trail) : Type 0 where
  pub rows : List (ℕ × ℕ)
  pub taken : takes before rows after
  pub so_far : IsSoFar first pages pass turns direction from to behind (listed ++ rows) old new
  pub less : left_behind direction behind < keys_from direction at

pub part_more : {S : Type 0} (takes : S → List (ℕ × ℕ) → S → Type 0) (first : List (Option Page)) (pages pass it turns : ℕ) (direction : Direction) (from at near : ℕ) (to : Option ℕ) (behind : Behind) (listed : List (ℕ × ℕ)) (before after : S) (old mid new : Trail) → it ≡ pass
    → IsSoFar first pages pass turns direction from to (Part at near) listed old mid → GivesPart takes first pages it turns direction at to behind before after mid new → HasGone takes first pages pass turns direction from at to behind listed before after old new
part_more takes first pages pass it turns direction from at near to (Part n more) listed before after old mid new same (on_way, fits, before_to, s) a =
    let on = goes_on takes first pages pass it turns direction from at to (Part n more) listed before after old mid new same s on_way before_to n more refl a in
    record { rows = on.3.0; taken = on.3.1; so_far = (from_on direction from at n on_way (from_behind direction at n on.0), on.1, on.2, on.3.2); less = fewer_left direction at n on.0 on.1 }
part_more takes first pages pass it turns direction from at near to Nothing listed before after old mid new same (on_way, fits, before_to, s) a =
    let on = ends_there takes first pages pass it turns direction from at to Nothing listed before after old mid new same s on_way before_to refl a in
    record { rows = on.0; taken = on.1; so_far = on.2; less = some_left direction at fits }

-- where it stops
pub stops_there : {S : Type 0} (first : List (Option Page)) (pages pass it turns : ℕ) (direction : Direction) (from at near : ℕ) (to : Option ℕ) (lacks : ℕ → Type 0) (fault : ScanFault) (listed : List (ℕ × ℕ)) (before after : S) (old mid new : Trail) → it ≡ pass
    → IsSoFar first pages pass turns direction from to (Part at near) listed old mid → LeavesPart first pages it turns direction at to lacks fault before after mid new → StopsScan first pages pass turns direction from to lacks fault listed old new
stops_there first pages pass it turns direction from at near to lacks fault listed before after old mid new same (on_way, fits, before_to, s) left = record {
  mid = mid;
  scans = subst (λ (z : ℕ). Scans first pages pass turns direction from to (Some z) listed old mid) (sym left.key) s;
  left = subst (IsBefore direction to) (sym left.key) before_to;
  stops = subst (λ (z : ℕ). StopsAt first pages z turns direction to lacks fault mid new) same left.stops;
}

-- ---- a scan of which a hand makes the parts

-- a part that has set off by the number that the hand had, and has
pub set_off_again : (tree : Tree) (old hand : Hand PassState) → IsSameHand old.seat hand.seat → (direction : Direction) (from : ℕ) (way : Descent) (mid : PassState) → HasSetOff tree hand old.number (sought.Rows direction) from way mid → HasSetOff tree hand hand.number (sought.Rows direction) from way mid
set_off_again tree old hand same direction from way mid off = subst (λ (z : ℕ). HasSetOff tree hand z (sought.Rows direction) from way mid) (sym (same_number old hand same)) off

module _ {S : Type 0} (old hand : Hand PassState) (mid : PassState) (pages turns : ℕ) (direction : Direction) (from at near : ℕ) (to : Option ℕ) (listed : List (ℕ × ℕ)) (before after : S) (new : Trail) (same : IsSameHand old.seat hand.seat) (first : mid.first ≡ (known old.seat).first)
    (so_far : IsSoFar (known old.seat).first pages old.number turns direction from to (Part at near) listed (known old.seat).trail mid.trail) where
  -- what a part more makes of it
  pub part_on : (takes : S → List (ℕ × ℕ) → S → Type 0) (behind : Behind) → GivesPart takes mid.first pages hand.number turns direction at to behind before after mid.trail new → HasGone takes (known old.seat).first pages old.number turns direction from at to behind listed before after (known old.seat).trail new
  part_on takes behind a = part_more takes (known old.seat).first pages old.number hand.number turns direction from at near to behind listed before after (known old.seat).trail mid.trail new (same_number old hand same) so_far
      (subst (λ (z : List (Option Page)). GivesPart takes z pages hand.number turns direction at to behind before after mid.trail new) first a)

  -- where it stops
  pub stops_at : (lacks : ℕ → Type 0) (fault : ScanFault) → LeavesPart mid.first pages hand.number turns direction at to lacks fault before after mid.trail new → StopsScan (known old.seat).first pages old.number turns direction from to lacks fault listed (known old.seat).trail new
  stops_at lacks fault left = stops_there (known old.seat).first pages old.number hand.number turns direction from at near to lacks fault listed before after (known old.seat).trail mid.trail new (same_number old hand same) so_far
      (subst (λ (z : List (Option Page)). LeavesPart z pages hand.number turns direction at to lacks fault before after mid.trail new) first left)
