-- A scan goes on from where it stopped.
use Rattle.std.proofs.Common.{◌≡◌, ⊎_elim, ℕ, zero, suc, ◌-◌, ◌<◌, Option, Some, None, List, [], ◌∷◌, ◌++◌, refl, sym, ap, ◌∙◌, subst, append_assoc, append-nil, arith}
use Rattle.std.specs.Prelude.{Contains, Ok, Err, flat_map}
use Rattle.std.specs.declared.alloc.AllocError.{AllocError}
use Rattle.std.proofs.lemmas.Grind.{flat_map-append}
use Rattle.std.proofs.lemmas.List.Elements.{All-append, All-nil, All-contains, All-weaker, Contains-append_left, Contains-append_right, Contains-append_cases}
use Rattle.bl_model.specs.History.{final_map}
use Rattle.bl_model.specs.declared.operation.Entry.{Entry}
use Rattle.bl_proc.specs.declared.parts.Direction.{Direction}
use Rattle.bl_proc.specs.declared.parts.Direction.TheVariants.{Down}
use Rattle.bl_proc.specs.Parts.{op_toward}
use Rattle.bl_model.specs.Parts.{ended_at}
use Rattle.bl_claims.specs.Trails.{Trail, history_of, entries_at}
use Rattle.bl_page.specs.declared.page.Page.{Page}
use Rattle.bl_claims.specs.Seeing.{first_map, own}
use Rattle.bl_index_read.specs.Searching.{Finds, RunsOut}
use Rattle.bl_index_read.specs.LeafRows.{IsBefore, IsFrom, IsPast}
use Rattle.bl_index_read.proofs.Orders.{before_or_from, never_both, from_itself, from_on, from_behind, before_none, before_from}
use Rattle.bl_index_range.specs.Parts.{rows_before, AreCalls}
use Rattle.bl_index.specs.Scans.{AreParts, Scans, IsRight, StopsScan, EndsScan, FindsNoRoom}
use Rattle.bl_index.specs.declared.scanning.ScanFault.{ScanFault}
use Rattle.bl_index.specs.declared.scanning.ScanFault.TheVariants.{Memory, OutOfTurns}
use Rattle.bl_index.proofs.Scanned.{IsBetween}
use Rattle.bl_index.proofs.PartByPart.{ends_behind}
use Rattle.bl_index_read.proofs.Ranges.{order_behind}
use Rattle.bl_map_calls.specs.Works.{Adds, Searches}
use Rattle.bl_map_calls.specs.Scans.{key_below, HasScanned, Scanned}
use Rattle.bl_map_calls.proofs.Adding.{call_adds, made_more, lost_more, searches_then}

pub history_append : (xs ys : Trail) → history_of (xs ++ ys) ≡ history_of xs ++ history_of ys
history_append [] ys = refl
history_append (m ∷ ms) ys = ap (λ (z : List Entry). entries_at m.event.process m.said ++ z) (history_append ms ys) ∙ sym (append_assoc (entries_at m.event.process m.said) (history_of ms) (history_of ys))

-- ---- where parts lead

-- the second key comes from the first one on; no key is behind all
abbrev pub IsFurther : Direction → Option ℕ → Option ℕ → Type 0
IsFurther direction None upto = upto ≡ None
IsFurther direction (Some at) None = Unit {0}
IsFurther direction (Some at) (Some end) = IsFrom direction at end

further_still : (direction : Direction) (at : ℕ) (mid upto : Option ℕ) → IsBefore direction mid at → IsFurther direction mid upto → IsFurther direction (Some at) upto
further_still direction at None upto b r = subst (IsFurther direction (Some at)) (sym r) tt
further_still direction at (Some n) None b r = tt
further_still direction at (Some n) (Some end) b r = from_on direction at n end (from_behind direction at n b) r

pub reaches : (first : List (Option Page)) (pages pass turns : ℕ) (direction : Direction) (to start : Option ℕ) (es : List Entry) (upto : Option ℕ) (old new : Trail) → AreParts direction pass to start es upto → AreCalls first pages pass turns es old new → IsFurther direction start upto
reaches first pages pass turns direction to None [] upto old new are calls = are
reaches first pages pass turns direction to (Some at) [] upto old new are calls = subst (IsFurther direction (Some at)) (sym are) (from_itself direction at)
reaches first pages pass turns direction to None (e ∷ es) upto old new are calls = absurd are
reaches first pages pass turns direction to (Some at) (e ∷ es) upto old new are calls =
    let finds : Finds first pages pass turns (op_toward direction at) e.reply old calls.0 = subst (λ z. Finds first pages pass turns z e.reply old calls.0) are.1 calls.1 in
    further_still direction at (ended_at e.reply) upto (ends_behind first pages pass turns direction at e.reply old calls.0 finds) (reaches first pages pass turns direction to (ended_at e.reply) es upto calls.0 new are.3 calls.2)

parts_then : (direction : Direction) (pass : ℕ) (to start : Option ℕ) (es fs : List Entry) (at : ℕ) (upto : Option ℕ) → AreParts direction pass to start es (Some at) → AreParts direction pass to (Some at) fs upto → AreParts direction pass to start (es ++ fs) upto
parts_then direction pass to start [] fs at upto one two = subst (λ z. AreParts direction pass to z fs upto) one two
parts_then direction pass to None (e ∷ es) fs at upto one two = absurd one
parts_then direction pass to (Some from) (e ∷ es) fs at upto one two = (one.0, one.1, one.2, parts_then direction pass to (ended_at e.reply) es fs at upto one.3 two)

-- ---- a scan that is about to begin, and one of an index

pub scanned_of : (first : List (Option Page)) (pages pass turns : ℕ) (direction : Direction) (from : ℕ) (to upto : Option ℕ) (rows : List (ℕ × ℕ)) (old new : Trail) → Scans first pages pass turns direction from to upto rows old new → HasScanned first pass direction from to upto rows old new
scanned_of first pages pass turns direction from to upto rows old new s = record {
  parts = s.parts;
  are_parts = s.are_parts;
  begins = s.begins;
  seen = s.seen;
  mine = s.mine;
  listed = s.listed;
  ordered = s.ordered;
  within = s.within;
  right = s.right;
}

pub scanned_none : (first : List (Option Page)) (pass : ℕ) (direction : Direction) (from : ℕ) (to : Option ℕ) (old : Trail) → HasScanned first pass direction from to (Some from) [] old old
scanned_none first pass direction from to old = record {
  parts = [];
  are_parts = refl;
  begins = ([], sym (append-nil old));
  seen = λ s. s;
  mine = sym (append-nil (own pass old));
  listed = refl;
  ordered = λ i j lt within. absurd (omega arith);
  within = All-nil (IsBetween direction from (Some from));
  right = λ key there before before_to. absurd (never_both direction from key before there);
}

-- ---- what happens behind it

pub right_on : (first : List (Option Page)) (pass : ℕ) (old mid more new : List Entry) (rows : List (ℕ × ℕ)) (key : ℕ) → new ≡ mid ++ more → IsRight first pass old mid rows key → IsRight first pass old new rows key
right_on first pass old mid more new rows key e r = record {
  before = r.before;
  part = r.part;
  after = r.after ++ more;
  stands = e ∙ (ap (λ (z : List Entry). z ++ more) r.stands
      ∙ (append_assoc old (r.before ++ r.part ∷ r.after) more ∙ ap (λ (z : List Entry). old ++ z) (append_assoc r.before (r.part ∷ r.after) more)));
  mine = r.mine;
  right = r.right;
}

pub scanned_adds : (first : List (Option Page)) (pass : ℕ) (direction : Direction) (from : ℕ) (to upto : Option ℕ) (rows : List (ℕ × ℕ)) (old mid new : Trail) → HasScanned first pass direction from to upto rows old mid → Adds first pass mid new → HasScanned first pass direction from to upto rows old new
scanned_adds first pass direction from to upto rows old mid new s a = record {
  parts = s.parts;
  are_parts = s.are_parts;
  begins = (s.begins.0 ++ a.begins.0, a.begins.1 ∙ (ap (λ (z : Trail). z ++ a.begins.0) s.begins.1 ∙ append_assoc old s.begins.0 a.begins.0));
  seen = λ x. a.seen (s.seen x);
  mine = a.none ∙ s.mine;
  listed = s.listed;
  ordered = s.ordered;
  within = s.within;
  right = λ key low high below. right_on first pass (history_of old) (history_of mid) (history_of a.begins.0) (history_of new) rows key (ap history_of a.begins.1 ∙ history_append mid a.begins.0) (s.right key low high below);
}

-- ---- a scan that goes on

module _ (first : List (Option Page)) (pass : ℕ) (direction : Direction) (from at : ℕ) (to upto : Option ℕ) (xs ys : List (ℕ × ℕ)) (old mid new : Trail)
    (s : HasScanned first pass direction from to (Some at) xs old mid) (t : HasScanned first pass direction at to upto ys mid new) (on_way : IsFrom direction from at) (further : IsFurther direction (Some at) upto) where
  before_all : (end : Option ℕ) (key : ℕ) → IsFurther direction (Some at) end → IsBefore direction (Some at) key → IsBefore direction end key
  before_all None key f before = before_none direction key
  before_all (Some end) key f before = before_from direction at key end before f

  on : history_of mid ≡ history_of old ++ history_of s.begins.0
  on = ap history_of s.begins.1 ∙ history_append old s.begins.0

  before_it : (key : ℕ) → IsBefore direction (Some at) key → IsRight first pass (history_of old) (history_of mid) xs key → IsRight first pass (history_of old) (history_of new) (xs ++ ys) key
  before_it key before r =
      let w = right_on first pass (history_of old) (history_of mid) (history_of t.begins.0) (history_of new) xs key (ap history_of t.begins.1 ∙ history_append mid t.begins.0) r in
      record {
        before = w.before;
        part = w.part;
        after = w.after;
        stands = w.stands;
        mine = w.mine;
        right = λ value. (
          λ c. ⊎_elim
              (λ (l : Contains xs (key, value)). (w.right value).0 l)
              (λ (f : Contains ys (key, value)). let there = All-contains (IsBetween direction at upto) ys (key, value) t.within f in absurd (never_both direction at key before there.0))
              (Contains-append_cases xs ys (key, value) c),
          λ is. Contains-append_left xs ys (key, value) ((w.right value).1 is),
        );
      }

  behind_it : (key : ℕ) → IsFrom direction at key → IsRight first pass (history_of mid) (history_of new) ys key → IsRight first pass (history_of old) (history_of new) (xs ++ ys) key
  behind_it key there_on r =
      let more : List Entry = history_of s.begins.0 in
      let same : history_of mid ++ r.before ≡ history_of old ++ (more ++ r.before) = ap (λ (z : List Entry). z ++ r.before) on ∙ append_assoc (history_of old) more r.before in
      record {
        before = more ++ r.before;
        part = r.part;
        after = r.after;
        stands = r.stands ∙ (ap (λ (z : List Entry). z ++ (r.before ++ r.part ∷ r.after)) on
            ∙ (append_assoc (history_of old) more (r.before ++ r.part ∷ r.after) ∙ ap (λ (z : List Entry). history_of old ++ z) (sym (append_assoc more r.before (r.part ∷ r.after)))));
        mine = r.mine;
        right = λ value. (
          λ c. ⊎_elim
              (λ (l : Contains xs (key, value)). let there = All-contains (IsBetween direction from (Some at)) xs (key, value) s.within l in absurd (never_both direction at key there.1 there_on))
              (λ (f : Contains ys (key, value)). subst (λ (z : List Entry). final_map (first_map first) z key ≡ Some value) same ((r.right value).0 f))
              (Contains-append_cases xs ys (key, value) c),
          λ is. Contains-append_right xs ys (key, value) ((r.right value).1 (subst (λ (z : List Entry). final_map (first_map first) z key ≡ Some value) (sym same) is)),
        );
      }

  pub scanned_then : HasScanned first pass direction from to upto (xs ++ ys) old new
  scanned_then = record {
    parts = s.parts ++ t.parts;
    are_parts = parts_then direction pass to (Some from) s.parts t.parts at upto s.are_parts t.are_parts;
    begins = (s.begins.0 ++ t.begins.0, t.begins.1 ∙ (ap (λ (z : Trail). z ++ t.begins.0) s.begins.1 ∙ append_assoc old s.begins.0 t.begins.0));
    seen = λ x. t.seen (s.seen x);
    mine = t.mine ∙ (ap (λ (z : List Entry). z ++ t.parts) s.mine ∙ append_assoc (own pass old) s.parts t.parts);
    listed = ap (λ (z : List (ℕ × ℕ)). z ++ ys) s.listed ∙ (ap (λ (z : List (ℕ × ℕ)). flat_map (λ part. rows_before direction to part.reply) s.parts ++ z) t.listed ∙ sym (flat_map-append (λ part. rows_before direction to part.reply) s.parts t.parts));
    ordered = order_behind direction at xs ys s.ordered t.ordered
        (All-weaker (IsBetween direction from (Some at)) (λ r. IsBefore direction (Some at) r.0) (λ r is. is.1) xs s.within)
        (All-weaker (IsBetween direction at upto) (λ r. IsFrom direction at r.0) (λ r is. is.0) ys t.within);
    within = All-append (IsBetween direction from upto) xs ys
        (All-weaker (IsBetween direction from (Some at)) (IsBetween direction from upto) (λ r is. (is.0, before_all upto r.0 further is.1)) xs s.within)
        (All-weaker (IsBetween direction at upto) (IsBetween direction from upto) (λ r is. (from_on direction from at r.0 on_way is.0, is.1)) ys t.within);
    right = λ key least high before_to. ⊎_elim
        (λ (b : IsBefore direction (Some at) key). before_it key b (s.right key least b before_to))
        (λ (f : IsFrom direction at key). behind_it key f (t.right key f high before_to))
        (before_or_from direction at key);
  }

  pub searched_then : (pages : ℕ) → Searches first pages pass s.parts old mid → Searches first pages pass t.parts mid new → Searches first pages pass scanned_then.parts old new
  unfolding scanned_then
  searched_then pages one two = searches_then first pages pass s.parts t.parts old mid new one two

-- ---- what a call of the index adds to it

-- its parts were searched for
pub calls_then : (first : List (Option Page)) (pages pass turns : ℕ) (xs ys : List Entry) (old mid new : Trail) → turns ≡ pages → Searches first pages pass xs old mid → AreCalls first pages pass turns ys mid new → Searches first pages pass (xs ++ ys) old new
calls_then first pages pass turns xs [] old mid new is s c =
    subst (λ (z : List Entry). Searches first pages pass z old new) (sym (append-nil xs)) (subst (λ (z : Trail). Searches first pages pass xs old z) (sym c) s)
calls_then first pages pass turns xs (y ∷ ys) old mid new is s c =
    subst (λ (z : List Entry). Searches first pages pass z old new) (append_assoc xs (y ∷ []) ys)
    (calls_then first pages pass turns (xs ++ y ∷ []) ys old c.0 new is (made_more first pages pass pass turns xs y old mid c.0 refl is s c.1) c.2)

-- a scan that has come so far, and was searched for
pub record HasSearched (first : List (Option Page)) (pages pass : ℕ) (direction : Direction) (from : ℕ) (to upto : Option ℕ) (rows : List (ℕ × ℕ)) (old new : Trail) : Type 0 where
  pub scanned : HasScanned first pass direction from to upto rows old new
  pub searches : Searches first pages pass scanned.parts old new

pub searched_none : (first : List (Option Page)) (pages pass : ℕ) (direction : Direction) (from : ℕ) (to : Option ℕ) (old : Trail) → HasSearched first pages pass direction from to (Some from) [] old old
unfolding scanned_none
searched_none first pages pass direction from to old = record { scanned = scanned_none first pass direction from to old; searches = Searches.NoneMade }

pub all_rows : (listed rows before middle after : List (ℕ × ℕ)) → middle ≡ before ++ listed → after ≡ middle ++ rows → after ≡ before ++ (listed ++ rows)
all_rows listed rows before middle after grown appended = appended ∙ (ap (λ (z : List (ℕ × ℕ)). z ++ rows) grown ∙ append_assoc before listed rows)

-- a call of one part that ran out of turns loses nothing
pub searched_lost : (first : List (Option Page)) (pages pass it turns : ℕ) (direction : Direction) (from : ℕ) (to upto : Option ℕ) (rows : List (ℕ × ℕ)) (old mid new : Trail) → it ≡ pass → turns ≡ pages → HasSearched first pages pass direction from to upto rows old mid → RunsOut first pages it turns mid new → HasSearched first pages pass direction from to upto rows old new
unfolding scanned_adds
searched_lost first pages pass it turns direction from to upto rows old mid new same is_turns s lost = record {
  scanned = scanned_adds first pass direction from to upto rows old mid new s.scanned (call_adds first pass it mid new same lost.adds);
  searches = lost_more first pages pass it turns s.scanned.parts old mid new same is_turns s.searches lost;
}

module _ (first : List (Option Page)) (pages pass it turns : ℕ) (direction : Direction) (from at : ℕ) (to : Option ℕ) (listed rows : List (ℕ × ℕ)) (old mid new : Trail)
    (same : it ≡ pass) (is_turns : turns ≡ pages) (s : HasSearched first pages pass direction from to (Some at) listed old mid) (on_way : IsFrom direction from at) where
  pub by_call : (upto : Option ℕ) (end : Trail) → Scans first pages it turns direction at to upto rows mid end → HasSearched first pages pass direction from to upto (listed ++ rows) old end × IsFurther direction (Some at) upto
  unfolding scanned_then scanned_of
  by_call upto end c =
      let mine : Scans first pages pass turns direction at to upto rows mid end = subst (λ (z : ℕ). Scans first pages z turns direction at to upto rows mid end) same c in
      let further : IsFurther direction (Some at) upto = reaches first pages pass turns direction to (Some at) mine.parts upto mid end mine.are_parts mine.calls in (
        record {
          scanned = scanned_then first pass direction from at to upto listed rows old mid end s.scanned (scanned_of first pages pass turns direction at to upto rows mid end mine) on_way further;
          searches = calls_then first pages pass turns s.scanned.parts mine.parts old mid end is_turns s.searches mine.calls;
        },
        further,
      )

  pub ran_out : (lacks : ℕ → Type 0) (fault : ScanFault) (key : ℕ) → fault ≡ OutOfTurns key → StopsScan first pages it turns direction at to lacks fault rows mid new
      → IsFrom direction from key × HasSearched first pages pass direction from to (Some key) (listed ++ rows) old new
  unfolding scanned_adds
  ran_out lacks fault key is c =
      let stop : StopsScan first pages it turns direction at to lacks (OutOfTurns key) rows mid new = subst (λ (z : ScanFault). StopsScan first pages it turns direction at to lacks z rows mid new) is c in
      let by = by_call (Some key) stop.mid stop.scans in (
        from_on direction from at key on_way by.1,
        record {
          scanned = scanned_adds first pass direction from to (Some key) (listed ++ rows) old stop.mid new by.0.scanned (call_adds first pass it stop.mid new same stop.stops.adds);
          searches = lost_more first pages pass it turns by.0.scanned.parts old stop.mid new same is_turns by.0.searches stop.stops;
        },
      )

  module _ {S : Type 0} (takes : S → List (ℕ × ℕ) → S → Type 0) (lacks : ℕ → Type 0) (before after : S) (taken : takes before (listed ++ rows) after) where
    pub has_ended : EndsScan first pages it turns direction at to rows mid new → Scanned takes lacks first pages pass direction from to (Ok tt) before after old new
    has_ended e = record {
      rows = listed ++ rows;
      taken = taken;
      upto = e.upto;
      mid = new;
      scanned = (by_call e.upto new e.scans).0.scanned;
      searches = (by_call e.upto new e.scans).0.searches;
      over = (e.over, refl);
      stopped = tt;
      begins = ([], sym (append-nil new));
      seen = λ x. x;
    }

    pub had_no_room : (why : AllocError) (fault : ScanFault) (key : ℕ) → fault ≡ Memory key → StopsScan first pages it turns direction at to lacks fault rows mid new
        → Scanned takes lacks first pages pass direction from to (Err why) before after old new
    had_no_room why fault key is c =
        let stop : StopsScan first pages it turns direction at to lacks (Memory key) rows mid new = subst (λ (z : ScanFault). StopsScan first pages it turns direction at to lacks z rows mid new) is c in
        let f : FindsNoRoom first pages it turns direction key to lacks stop.mid new = stop.stops in
        record {
          rows = listed ++ rows;
          taken = taken;
          upto = Some key;
          mid = stop.mid;
          scanned = (by_call (Some key) stop.mid stop.scans).0.scanned;
          searches = (by_call (Some key) stop.mid stop.scans).0.searches;
          over = tt;
          stopped = (key, refl, subst (λ (z : ℕ). FindsNoRoom first pages pass z direction key to lacks stop.mid new) is_turns (subst (λ (z : ℕ). FindsNoRoom first pages z turns direction key to lacks stop.mid new) same f));
          begins = (_, f.finds.answers.holds.begins);
          seen = λ _. f.finds.answers.seen;
        }

-- ---- a scan downwards to a last key

-- it ends at the key below
pub below_is : (low : ℕ) → 0 < low → Some (low - 1) ≡ key_below low
below_is zero some = absurd (omega (arith, some))
below_is (suc key) some = ap (λ (z : ℕ). Some z) (let is : suc key - 1 ≡ key = omega arith in is)

past_low : (from low : ℕ) → from < low → IsPast Down (key_below low) (Some from)
past_low from zero under = absurd (omega (arith, under))
past_low from (suc key) under = omega (arith, under)

-- and does nothing from a key on that is below the last one
pub nothing_down : {S : Type 0} (takes : S → List (ℕ × ℕ) → S → Type 0) (lacks : ℕ → Type 0) (first : List (Option Page)) (pages pass from low : ℕ) (before : S) (old : Trail) → takes before [] before → from < low → Scanned takes lacks first pages pass Down from (key_below low) (Ok tt) before before old old
unfolding scanned_none
nothing_down takes lacks first pages pass from low before old nothing under = record {
  rows = [];
  taken = nothing;
  upto = Some from;
  mid = old;
  scanned = scanned_none first pass Down from (key_below low) old;
  searches = Searches.NoneMade;
  over = (past_low from low under, refl);
  stopped = tt;
  begins = ([], sym (append-nil old));
  seen = λ x. x;
}
