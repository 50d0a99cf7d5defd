-- A scan that lists so many rows at most goes on from where it stopped.
use Rattle.std.proofs.Common.{◌≡◌, ℕ, ◌+◌, ◌-◌, ◌<◌, ◌≤◌, Option, Some, None, List, [], ◌∷◌, ◌++◌, refl, sym, ap, ◌∙◌, subst, length, take, drop, append_assoc, append-nil, arith}
use Rattle.std.specs.Prelude.{Ok, Err, Result, IfSome, min, flat_map}
use Rattle.std.proofs.Math.Seq.{take-append-add, drop-append-add}
use Rattle.std.proofs.lemmas.List.{append_cancel_left, length-append, length-take, take_all}
use Rattle.bl_model.specs.declared.operation.Entry.{Entry}
use Rattle.bl_model.specs.declared.operation.Op.TheVariants.{Part}
use Rattle.bl_page.specs.declared.page.Page.{Page}
use Rattle.bl_proc.specs.declared.parts.Direction.TheVariants.{Up}
use Rattle.bl_claims.specs.Trails.{Trail}
use Rattle.bl_claims.specs.Seeing.{own}
use Rattle.bl_index_read.specs.LeafRows.{first_key}
use Rattle.bl_index_read.specs.Searching.{Finds, RunsOut}
use Rattle.bl_index_range.specs.Parts.{rows_below, rows_before}
use Rattle.bl_index.specs.declared.scanning.ScanFault.{ScanFault}
use Rattle.bl_index.specs.declared.scanning.ScanFault.TheVariants.{Memory, OutOfTurns}
use Rattle.bl_index.specs.Scans.{Scans, StopsScan, FindsNoRoom}
use Rattle.bl_index.specs.Limits.{IsNext, AreWanted, ScansSome}
use Rattle.bl_map_calls.specs.Limits.{ScannedAtMost}
use Rattle.bl_map_calls.proofs.Adding.{call_adds}
use Rattle.bl_map_calls.proofs.Scanning.{HasSearched, searched_none, by_call, ran_out}

-- ---- the parts of a scan, by the entries that the pass has

module _ (first : List (Option Page)) (pages pass from : ℕ) (to upto next : Option ℕ) (xs ys : List (ℕ × ℕ)) (old mid new : Trail) (s : HasSearched first pages pass Up from to upto xs old mid) (t : HasSearched first pages pass Up from to next ys old new) where
  parts_then : (es : List Entry) → own pass new ≡ own pass mid ++ es → t.scanned.parts ≡ s.scanned.parts ++ es
  parts_then es is = append_cancel_left (own pass old) t.scanned.parts (s.scanned.parts ++ es)
      (sym t.scanned.mine ∙ (is ∙ (ap (λ (z : List Entry). z ++ es) s.scanned.mine ∙ append_assoc (own pass old) s.scanned.parts es)))

wanted_then : (to : Option ℕ) (most : ℕ) (es fs : List Entry) → AreWanted Up to most es → AreWanted Up to (most - length (flat_map (λ part. rows_before Up to part.reply) es)) fs → AreWanted Up to most (es ++ fs)
wanted_then to most [] fs one two = subst (λ (n : ℕ). AreWanted Up to n fs) (omega arith) two
wanted_then to most (e ∷ es) fs one two =
    let both = length-append (rows_before Up to e.reply) (flat_map (λ part. rows_before Up to part.reply) es) in
    let less : most - length (rows_before Up to e.reply ++ flat_map (λ part. rows_before Up to part.reply) es) ≡ most - length (rows_before Up to e.reply) - length (flat_map (λ part. rows_before Up to part.reply) es) = omega (arith, both) in
    (one.0, wanted_then to (most - length (rows_before Up to e.reply)) es fs one.1 (subst (λ (n : ℕ). AreWanted Up to n fs) less two))

-- ---- a scan that has come so far

-- It has come to that key and has listed all rows that it met, no more than are wanted.
pub record HasListed (first : List (Option Page)) (pages pass from : ℕ) (to : Option ℕ) (most at : ℕ) (before after : List (ℕ × ℕ)) (old new : Trail) : Type 0 where
  pub rows : List (ℕ × ℕ)
  pub low : from ≤ at
  pub grown : after ≡ before ++ rows
  pub few : length rows ≤ most
  pub searched : HasSearched first pages pass Up from to (Some at) rows old new
  pub wanted : AreWanted Up to most searched.scanned.parts

pub nothing_listed : (first : List (Option Page)) (pages pass from : ℕ) (to : Option ℕ) (most : ℕ) (before : List (ℕ × ℕ)) (old : Trail) → HasListed first pages pass from to most from before before old old
nothing_listed first pages pass from to most before old =
    let s = searched_none first pages pass Up from to old in
    record {
      rows = [];
      low = omega arith;
      grown = sym (append-nil before);
      few = omega arith;
      searched = s;
      wanted = subst (AreWanted Up to most) (append_cancel_left (own pass old) [] s.scanned.parts (append-nil (own pass old) ∙ s.scanned.mine)) tt;
    }

module _ (first : List (Option Page)) (pages pass it turns from : ℕ) (to : Option ℕ) (most at left room : ℕ) (result : Result (Option ℕ) ScanFault) (before middle after : List (ℕ × ℕ)) (old mid new : Trail) (same : it ≡ pass) (is_turns : turns ≡ pages)
    (s : HasListed first pages pass from to most at before middle old mid) (is_left : left ≡ most - length s.rows) (a : ScansSome first pages it turns Up at to left room result middle after mid new) where
  abbrev all : List (ℕ × ℕ)
  all = s.rows ++ a.rows

  long : length all ≡ length s.rows + length a.rows
  long = length-append s.rows a.rows

  whole : length s.rows + left ≡ most
  whole = let few = s.few in omega (arith, is_left, few)

  -- of all rows that were met so many stand behind those of before
  appended : after ≡ before ++ take most all
  appended = a.appended ∙ (ap (λ (z : List (ℕ × ℕ)). z ++ take left a.rows) s.grown
      ∙ (append_assoc before s.rows (take left a.rows) ∙ ap (λ (z : List (ℕ × ℕ)). before ++ z)
      (sym (subst (λ (z : ℕ). take z all ≡ s.rows ++ take left a.rows) whole (take-append-add s.rows a.rows left)))))

  others : drop most all ≡ drop left a.rows
  others = subst (λ (z : ℕ). drop z all ≡ drop left a.rows) whole (drop-append-add s.rows a.rows left)

  searched : HasSearched first pages pass Up from to a.upto all old a.mid
  searched = (by_call first pages pass it turns Up from at to s.rows a.rows old mid a.mid same is_turns s.searched s.low a.upto a.mid a.scans).0

  made : own pass a.mid ≡ own pass mid ++ a.scans.parts
  made = subst (λ (z : ℕ). own z a.mid ≡ own z mid ++ a.scans.parts) same a.scans.mine

  wanted : (upto : Option ℕ) (end : Trail) (t : HasSearched first pages pass Up from to upto all old end) → own pass end ≡ own pass mid ++ a.scans.parts → AreWanted Up to most t.scanned.parts
  wanted upto end t is =
      let few : most - length s.rows ≡ most - length (flat_map (λ part. rows_before Up to part.reply) s.searched.scanned.parts) = ap (λ (z : List (ℕ × ℕ)). most - length z) s.searched.scanned.listed in
      subst (AreWanted Up to most) (sym (parts_then first pages pass from to (Some at) upto s.rows all old mid end s.searched t a.scans.parts is))
      (wanted_then to most s.searched.scanned.parts a.scans.parts s.wanted (subst (λ (n : ℕ). AreWanted Up to n a.scans.parts) (is_left ∙ few) a.wanted))

  -- it is over, or has listed so many
  pub listed_all : {E : Type 0} (next : Option ℕ) → result ≡ Ok next → ScannedAtMost {E = E} first pages pass from to most room (Ok next) before after old new
  listed_all next is =
      let said : IsNext Up (first_key (drop left a.rows)) to a.upto next × IfSome next (λ _. left ≤ length a.rows) × (new ≡ a.mid) = rw is at a.next in
      record {
        rows = all;
        appended = appended;
        upto = a.upto;
        mid = a.mid;
        scanned = searched.scanned;
        searches = searched.searches;
        wanted = wanted a.upto a.mid searched made;
        next = (subst (λ (z : List (ℕ × ℕ)). IsNext Up (first_key z) to a.upto next) (sym others) said.0, enough next said.1, said.2);
        stopped = tt;
      }
    where
      enough : (next : Option ℕ) → IfSome next (λ _. left ≤ length a.rows) → IfSome next (λ _. most ≤ length all)
      enough None is = tt
      enough (Some key) is = omega (arith, long, whole, is)

  -- there was no room for what is wanted of a part
  pub listed_full : {E : Type 0} (why : E) (key : ℕ) → result ≡ Err (Memory key) → ScannedAtMost {E = E} first pages pass from to most room (Err why) before after old new
  listed_full why key is =
      let stop = rw is at a.stopped in
      let f : FindsNoRoom first pages it turns Up key to (λ many. room < min (left - length a.rows) many) a.mid new = stop.3 in
      let rest : most - length all ≡ left - length a.rows = omega (arith, long, whole) in
      let many : length (take (most - length all) (rows_below to f.reply)) ≡ min (left - length a.rows) (length (rows_below to f.reply)) = length-take (most - length all) (rows_below to f.reply) ∙ ap (λ (n : ℕ). min n (length (rows_below to f.reply))) rest in
      record {
        rows = all;
        appended = appended;
        upto = a.upto;
        mid = a.mid;
        scanned = searched.scanned;
        searches = searched.searches;
        wanted = wanted a.upto a.mid searched made;
        next = tt;
        stopped = (
          key,
          f.reply,
          stop.0,
          subst (λ (z : ℕ). Finds first pages pass z (Part key) f.reply a.mid new) is_turns (subst (λ (z : ℕ). Finds first pages z turns (Part key) f.reply a.mid new) same f.finds),
          subst (λ (n : ℕ). room < n) (sym many) f.more,
        );
      }

  -- a part ran out of turns
  pub listed_lost : (key : ℕ) → result ≡ Err (OutOfTurns key) → HasListed first pages pass from to most key before after old new
  listed_lost key is =
      let stop = rw is at a.stopped in
      let lost : RunsOut first pages it turns a.mid new = stop.3 in
      let scan : StopsScan first pages it turns Up at to (λ many. ⊥) (OutOfTurns key) a.rows mid new = record {
        mid = a.mid;
        scans = subst (λ (z : Option ℕ). Scans first pages it turns Up at to z a.rows mid a.mid) stop.0 a.scans;
        left = stop.1;
        stops = lost;
      } in
      let on = ran_out first pages pass it turns Up from at to s.rows a.rows old mid new same is_turns s.searched s.low (λ many. ⊥) (OutOfTurns key) key refl scan in
      let less = stop.2 in
      record {
        rows = all;
        low = on.0;
        grown = appended ∙ ap (λ (z : List (ℕ × ℕ)). before ++ z) (take_all most all (omega (arith, long, whole, less)));
        few = omega (arith, long, whole, less);
        searched = on.1;
        wanted = wanted (Some key) new on.1 ((call_adds first pass it a.mid new same lost.adds).none ∙ made);
      }
