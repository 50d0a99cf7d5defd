-- How a scan that lists so many rows at most goes on by a part, and where it ends.
use Rattle.std.proofs.Common.{◌≡◌, ℕ, ◌+◌, ◌-◌, ◌^◌, ◌<◌, ◌≤◌, Bool, true, false, nat_lt, Option, Some, None, List, [], ◌∷◌, ◌++◌, length, take, drop, refl, sym, ap, ◌∙◌, subst, append_assoc, append-nil, arith}
use Rattle.std.specs.Prelude.{Ok, Err, IfSome, min, flat_map}
use Rattle.std.proofs.Math.Seq.{take-append-add, drop-append-add}
use Rattle.std.proofs.lemmas.List.{length-append, take_all, drop_all}
use Rattle.std.proofs.lemmas.Bool.Decides.{nat_tests}
use Rattle.bl_page.specs.declared.page.Page.{Page}
use Rattle.bl_model.specs.declared.operation.Entry.{Entry}
use Rattle.bl_model.specs.declared.operation.Reply.{Reply}
use Rattle.bl_model.specs.Parts.{ended_at}
use Rattle.bl_proc.specs.Parts.{op_toward}
use Rattle.bl_proc.specs.declared.parts.Direction.{Direction}
use Rattle.bl_claims.specs.Trails.{Trail}
use Rattle.bl_store.specs.Hands.{known, IsSameHand}
use Rattle.bl_store.specs.declared.store.Hand.{Hand}
use Rattle.bl_index_rule.specs.declared.known.PassState.{PassState}
use Rattle.bl_index_read.specs.Searching.{Finds}
use Rattle.bl_index_read.specs.declared.leaf_rows.Behind.{Behind}
use Rattle.bl_index_read.specs.declared.leaf_rows.Behind.TheVariants.{Part, Nothing}
use Rattle.bl_index_read.specs.LeafRows.{first_key, IsBefore, IsFrom, IsPast, GoesOnWithin}
use Rattle.bl_index_read.proofs.Orders.{from_on, from_behind, from_itself, past}
use Rattle.bl_index_read.proofs.Setting.{same_number}
use Rattle.bl_index_range.specs.Parts.{rows_before}
use Rattle.bl_index.specs.declared.scanning.ScanFault.{ScanFault}
use Rattle.bl_index.specs.Scans.{Scans, GivesPart, LeavesPart, StopsAt, left_from}
use Rattle.bl_index.specs.Limits.{IsNext, AreWanted, ScansSome}
use Rattle.bl_index.specs.Within.{stand_of, GoesOnSome, GivesSome, LeavesSome}
use Rattle.bl_index.proofs.PartByPart.{scans_none, scans_more, parts_more, ends_behind, keys_from, left_behind, some_left, fewer_left}

-- ---- how it goes on behind a part

module _ (direction : Direction) (to : Option ℕ) (most : ℕ) (rows : List (ℕ × ℕ)) (upto : Option ℕ) where
  none_left : length rows ≤ most → first_key (drop most rows) ≡ None
  none_left few = ap first_key (drop_all most rows few)

  ends_here : (next : Option ℕ) → first_key (drop most rows) ≡ None → IsNext direction None to upto next → IsNext direction (first_key (drop most rows)) to upto next
  ends_here next is there = subst (λ (z : Option ℕ). IsNext direction z to upto next) (sym is) there

  pub stands_so : (behind : Behind) (b : Bool) (left : Option ℕ) → GoesOnWithin direction to upto behind → b ≡ nat_lt (length rows) most → left ≡ first_key (drop most rows)
      → GoesOnSome direction to most rows upto (stand_of behind b left).0 (stand_of behind b left).1
  stands_so (Part key near) true left goes is cut = (goes.0, goes.1, goes.2, grind (arith, nat_tests, is))
  stands_so Nothing true left goes is cut = (ends_here None (none_left (grind (arith, nat_tests, is))) goes, tt)
  stands_so behind false (Some key) goes is cut = (subst (λ (z : Option ℕ). IsNext direction z to upto (Some key)) cut refl, grind (arith, nat_tests, is))
  stands_so (Part key near) false None goes is cut = (ends_here (Some key) (sym cut) (goes.0, goes.2), grind (arith, nat_tests, is))
  stands_so Nothing false None goes is cut = (ends_here None (sym cut) goes, tt)

-- what a part is known to have given, where it goes on behind its leaf so
abbrev pub Takes : ℕ → ℕ → Option ℕ → List (ℕ × ℕ) → List (ℕ × ℕ) → List (ℕ × ℕ) → Type 0
Takes most many left before rows after = (after ≡ before ++ take most rows) × (many ≡ length rows) × (left ≡ first_key (drop most rows))

pub gives_some : (first : List (Option Page)) (pages pass turns : ℕ) (direction : Direction) (from : ℕ) (to : Option ℕ) (most many : ℕ) (left : Option ℕ) (behind : Behind) (b : Bool) (before after : List (ℕ × ℕ)) (old new : Trail) → b ≡ nat_lt many most
    → GivesPart (Takes most many left) first pages pass turns direction from to behind before after old new → GivesSome first pages pass turns direction from to most (stand_of behind b left).0 (stand_of behind b left).1 before after old new
gives_some first pages pass turns direction from to most many left behind b before after old new is a = record {
  reply = a.reply;
  finds = a.finds;
  taken = a.taken.0;
  goes = stands_so direction to most (rows_before direction to a.reply) (ended_at a.reply) behind b left a.ends (is ∙ ap (λ (n : ℕ). nat_lt n most) a.taken.1) a.taken.2;
}

-- ---- a scan that has come so far

-- It has listed all rows that it has met, up to a key before its end, and more are wanted.
pub record IsListing (first : List (Option Page)) (pages pass turns : ℕ) (direction : Direction) (from : ℕ) (to : Option ℕ) (most at : ℕ) (before after : List (ℕ × ℕ)) (old new : Trail) : Type 0 where
  pub rows : List (ℕ × ℕ)
  pub on_way : IsFrom direction from at
  pub fits : at < 2 ^ 64
  pub before_to : IsBefore direction to at
  pub scans : Scans first pages pass turns direction from to (Some at) rows old new
  pub grown : after ≡ before ++ rows
  pub few : length rows < most
  pub wanted : AreWanted direction to most scans.parts

abbrev pub IsListed : List (Option Page) → ℕ → ℕ → ℕ → Direction → ℕ → Option ℕ → ℕ → Behind → Option ℕ → List (ℕ × ℕ) → List (ℕ × ℕ) → Trail → Trail → Type 0
IsListed first pages pass turns direction from to most (Part at near) next before after old new = IsListing first pages pass turns direction from to most at before after old new
IsListed first pages pass turns direction from to most Nothing next before after old new = (room : ℕ) → ScansSome first pages pass turns direction from to most room (Ok next) before after old new

pub lists_none : (first : List (Option Page)) (pages pass turns : ℕ) (direction : Direction) (from : ℕ) (to : Option ℕ) (most : ℕ) (before : List (ℕ × ℕ)) (old : Trail) → from < 2 ^ 64 → IsBefore direction to from → 0 < most
    → IsListing first pages pass turns direction from to most from before before old old
unfolding scans_none
lists_none first pages pass turns direction from to most before old fits before_to some = record {
  rows = [];
  on_way = from_itself direction from;
  fits = fits;
  before_to = before_to;
  scans = scans_none first pages pass turns direction from to old;
  grown = sym (append-nil before);
  few = some;
  wanted = tt;
}

wanted_more : (direction : Direction) (to : Option ℕ) (most : ℕ) (es : List Entry) (e : Entry) → AreWanted direction to most es → length (flat_map (λ part. rows_before direction to part.reply) es) < most → AreWanted direction to most (es ++ e ∷ [])
wanted_more direction to most [] e are few = (omega (arith, few), tt)
wanted_more direction to most (x ∷ es) e are few =
    let both = length-append (rows_before direction to x.reply) (flat_map (λ part. rows_before direction to part.reply) es) in
    (are.0, wanted_more direction to (most - length (rows_before direction to x.reply)) es e are.1 (omega (arith, few, both)))

module _ (first : List (Option Page)) (pages pass it turns : ℕ) (direction : Direction) (from at : ℕ) (to : Option ℕ) (most left : ℕ) (before middle after : List (ℕ × ℕ)) (old mid new : Trail) (same : it ≡ pass)
    (s : IsListing first pages pass turns direction from to most at before middle old mid) (is_left : left ≡ most - length s.rows) where
  module _ (reply : Reply) (finds : Finds first pages pass turns (op_toward direction at) reply mid new) (taken : after ≡ middle ++ take left (rows_before direction to reply)) where
    abbrev more : List (ℕ × ℕ)
    more = rows_before direction to reply

    abbrev IsOn : Option ℕ → Type 0
    IsOn upto = (t : Scans first pages pass turns direction from to upto (s.rows ++ more) old new) × AreWanted direction to most t.parts

    on : IsOn (ended_at reply)
    on = (
      scans_more first pages pass turns direction at reply mid new finds from to s.rows old s.scans s.on_way s.before_to,
      subst (AreWanted direction to most) (sym (parts_more first pages pass turns direction at reply mid new finds from to s.rows old s.scans s.on_way s.before_to))
          (wanted_more direction to most s.scans.parts (record { pass = pass; op = op_toward direction at; reply = reply }) s.wanted (subst (λ (z : List (ℕ × ℕ)). length z < most) s.scans.listed s.few)),
    )

    long : length (s.rows ++ more) ≡ length s.rows + length more
    long = length-append s.rows more

    whole : length s.rows + left ≡ most
    whole = let few = s.few in omega (arith, is_left, few)

    -- of all rows that were met so many stand behind those of before
    first_ones : after ≡ before ++ take most (s.rows ++ more)
    first_ones = taken ∙ (ap (λ (z : List (ℕ × ℕ)). z ++ take left more) s.grown
        ∙ (append_assoc before s.rows (take left more) ∙ ap (λ (z : List (ℕ × ℕ)). before ++ z)
        (sym (subst (λ (z : ℕ). take z (s.rows ++ more) ≡ s.rows ++ take left more) whole (take-append-add s.rows more left)))))

    others : drop most (s.rows ++ more) ≡ drop left more
    others = subst (λ (z : ℕ). drop z (s.rows ++ more) ≡ drop left more) whole (drop-append-add s.rows more left)

    pub goes_on : (n : ℕ) → (ended_at reply ≡ Some n) × (n < 2 ^ 64) × IsBefore direction to n × (length more < left)
        → IsListing first pages pass turns direction from to most n before after old new × (keys_from direction n < keys_from direction at)
    goes_on n goes =
        let upto = subst IsOn goes.0 on in
        let further : IsBefore direction (Some n) at = subst (λ (z : Option ℕ). IsBefore direction z at) goes.0 (ends_behind first pages pass turns direction at reply mid new finds) in
        let all : take left more ≡ more = take_all left more (let few = goes.3 in omega (arith, few)) in (
          record {
            rows = s.rows ++ more;
            on_way = from_on direction from at n s.on_way (from_behind direction at n further);
            fits = goes.1;
            before_to = goes.2;
            scans = upto.0;
            grown = taken ∙ ((λ j. s.grown j ++ all j) ∙ append_assoc before s.rows more);
            few = let few = goes.3 in omega (arith, long, whole, few);
            wanted = upto.1;
          },
          fewer_left direction at n further goes.1,
        )

    pub ends_so : (room : ℕ) (next : Option ℕ) → IsNext direction (first_key (drop left more)) to (ended_at reply) next × IfSome next (λ _. left ≤ length more)
        → ScansSome first pages pass turns direction from to most room (Ok next) before after old new
    ends_so room next goes = record {
      rows = s.rows ++ more;
      appended = first_ones;
      upto = ended_at reply;
      mid = new;
      scans = on.0;
      wanted = on.1;
      next = (subst (λ (z : List (ℕ × ℕ)). IsNext direction (first_key z) to (ended_at reply) next) (sym others) goes.0, enough next goes.1, refl);
      stopped = tt;
    }
      where
        enough : (next : Option ℕ) → IfSome next (λ _. left ≤ length more) → IfSome next (λ _. most ≤ length (s.rows ++ more))
        enough None is = tt
        enough (Some key) is = omega (arith, long, whole, is)

  -- what a part more makes of it
  pub listed_more : (behind : Behind) (next : Option ℕ) → GivesSome first pages it turns direction at to left behind next middle after mid new
      → IsListed first pages pass turns direction from to most behind next before after old new × (left_behind direction behind < keys_from direction at)
  listed_more (Part n near) next a = goes_on a.reply (subst (λ (z : ℕ). Finds first pages z turns (op_toward direction at) a.reply mid new) same a.finds) a.taken n a.goes
  listed_more Nothing next a = (
    λ room. ends_so a.reply (subst (λ (z : ℕ). Finds first pages z turns (op_toward direction at) a.reply mid new) same a.finds) a.taken room next a.goes,
    some_left direction at s.fits,
  )

  -- where it stops
  pub listed_less : (room : ℕ) (fault : ScanFault) → LeavesSome first pages it turns direction at to left room fault middle after mid new → ScansSome first pages pass turns direction from to most room (Err fault) before after old new
  listed_less room fault a = record {
    rows = s.rows;
    appended = a.kept ∙ (s.grown ∙ ap (λ (z : List (ℕ × ℕ)). before ++ z) (sym (take_all most s.rows (let few = s.few in omega (arith, few)))));
    upto = Some at;
    mid = mid;
    scans = s.scans;
    wanted = s.wanted;
    next = tt;
    stopped = (
      ap Some (sym a.key),
      subst (IsBefore direction to) (sym a.key) s.before_to,
      s.few,
      subst (λ (z : ℕ). StopsAt first pages pass turns direction to (λ many. room < min z many) fault mid new) is_left
          (subst (λ (z : ℕ). StopsAt first pages z turns direction to (λ many. room < min left many) fault mid new) same a.stops),
    );
  }

-- ---- a scan of which a hand makes the parts

module _ (old hand : Hand PassState) (mid : PassState) (pages turns : ℕ) (direction : Direction) (from at near : ℕ) (to next : Option ℕ) (most left : ℕ) (before middle after : List (ℕ × ℕ)) (new : Trail) (same : IsSameHand old.seat hand.seat) (first : mid.first ≡ (known old.seat).first)
    (s : IsListed (known old.seat).first pages old.number turns direction from to most (Part at near) next before middle (known old.seat).trail mid.trail) (is_left : left ≡ most - length s.rows) where
  pub some_on : (behind : Behind) (then : Option ℕ) → GivesSome mid.first pages hand.number turns direction at to left behind then middle after mid.trail new
      → IsListed (known old.seat).first pages old.number turns direction from to most behind then before after (known old.seat).trail new × (left_behind direction behind < keys_from direction at)
  some_on behind then a = listed_more (known old.seat).first pages old.number hand.number turns direction from at to most left before middle after (known old.seat).trail mid.trail new (same_number old hand same) s is_left behind then
      (subst (λ (z : List (Option Page)). GivesSome z pages hand.number turns direction at to left behind then middle after mid.trail new) first a)

  pub some_stops : (room : ℕ) (fault : ScanFault) → LeavesSome mid.first pages hand.number turns direction at to left room fault middle after mid.trail new
      → ScansSome (known old.seat).first pages old.number turns direction from to most room (Err fault) before after (known old.seat).trail new
  some_stops room fault a = listed_less (known old.seat).first pages old.number hand.number turns direction from at to most left before middle after (known old.seat).trail mid.trail new (same_number old hand same) s is_left room fault
      (subst (λ (z : List (Option Page)). LeavesSome z pages hand.number turns direction at to left room fault middle after mid.trail new) first a)

-- ---- a scan that is to list nothing

pub none_wanted : (first : List (Option Page)) (pages pass turns : ℕ) (direction : Direction) (from : ℕ) (to : Option ℕ) (most room : ℕ) (next : Option ℕ) (before : List (ℕ × ℕ)) (old : Trail) → IsNext direction None to (Some from) next → IfSome next (λ _. most ≤ 0)
    → ScansSome first pages pass turns direction from to most room (Ok next) before before old old
unfolding scans_none
none_wanted first pages pass turns direction from to most room next before old is enough = record {
  rows = [];
  appended = sym (append-nil before) ∙ ap (λ (z : List (ℕ × ℕ)). before ++ z) (sym (take_all most [] (omega arith)));
  upto = Some from;
  mid = old;
  scans = scans_none first pages pass turns direction from to old;
  wanted = tt;
  next = (subst (λ (z : List (ℕ × ℕ)). IsNext direction (first_key z) to (Some from) next) (sym (drop_all most [] (omega arith))) is, enough, refl);
  stopped = tt;
}
