-- How a range goes on by a part: behind its leaf, again from one before, or to its end.
use Rattle.std.proofs.Common.{ℕ, ◌≡◌, ◌+◌, ◌-◌, ◌*◌, ◌^◌, ◌<◌, ◌≤◌, ◌++◌, Bool, true, false, Option, Result, Ok, Err, List, [], ◌∷◌, length, take, get_or, refl, sym, ap, ◌∙◌, subst, append_assoc, append-nil, length-append, arith}
use Rattle.std.specs.Prelude.{All}
use Rattle.std.proofs.lemmas.List.{take-append-le}
use Rattle.bl_model.specs.declared.operation.Entry.{Entry}
use Rattle.bl_model.specs.declared.operation.Op.TheVariants.{Part as OpPart}
use Rattle.bl_model.specs.declared.operation.Reply.{Reply}
use Rattle.bl_model.specs.declared.operation.Reply.TheVariants.{Rows as ReplyRows}
use Rattle.bl_model.specs.History.{IsLegalFrom}
use Rattle.bl_page.specs.declared.page.Page.{Page}
use Rattle.bl_claims.specs.Trails.{Trail, history_of}
use Rattle.bl_claims.specs.Seeing.{first_map, own}
use Rattle.bl_one_moment.specs.Moments.{HasFirmMoments, Adjoin}
use Rattle.bl_one_moment.specs.Moments.Adjoin.{Nothing as NoneAdjoin}
use Rattle.bl_proc.specs.declared.parts.Direction.TheVariants.{Up}
use Rattle.bl_store.specs.declared.store.Hand.{Hand}
use Rattle.bl_store.specs.Hands.{known, IsSameHand}
use Rattle.bl_index_rule.specs.declared.known.PassState.{PassState}
use Rattle.bl_index_rule.specs.Observed.{ends}
use Rattle.bl_index_events.specs.declared.tree.Tree.{Tree}
use Rattle.bl_index_read.specs.declared.leaf_rows.Behind.{Behind}
use Rattle.bl_index_read.specs.declared.leaf_rows.Behind.TheVariants.{Part, Nothing}
use Rattle.bl_index_read.specs.declared.sought.Sought.TheVariants.{Rows}
use Rattle.bl_index_read.specs.LeafRows.{IsBelow, IsOver}
use Rattle.bl_index_read.specs.LeafWays.{HasSetOff}
use Rattle.bl_index_read.specs.Searching.{Finds, RunsOut}
use Rattle.bl_index_read.proofs.Answered.{part_finds}
use Rattle.bl_index_read.proofs.Keeping.{still_on}
use Rattle.bl_index_read.proofs.Setting.{same_number}
use Rattle.bl_index_range.specs.Parts.{rows_below}
use Rattle.bl_index_range.specs.Ranges.{MakesParts, IsAtOneMoment, StopsFor, StopsRange}
use Rattle.bl_index_range.specs.Gathering.{AreLooks, IsUnput, ReadsLeaf, LeavesLeaf, RestsAfter, EndsThere, SetsOff, GoesOnBehind, GoesOnOrStops, BeginsAgain, EndsRound, Gathers, HasGathered, GoesOrEnds, left_of}
use Rattle.bl_index_range.specs.declared.ranging.AtLeaf.{AtLeaf}
use Rattle.bl_index_range.specs.declared.ranging.Gathering.{Gathering}
use Rattle.bl_index_range.specs.declared.ranging.Kept.{Kept}
use Rattle.bl_index_range.specs.declared.ranging.RangeFault.{RangeFault}
use Rattle.bl_index_range.specs.declared.ranging.RangeFault.TheVariants.{Memory, OutOfTurns, Unsteady}
use Rattle.bl_index_range.specs.declared.ranging.RangeLimits.{RangeLimits}
use Rattle.bl_index_range.proofs.Looks.{looks_on, looks_push, looks_take, taken_past, adjoins}
use Rattle.bl_index_range.proofs.PartsMade.{part_entry, makes_none, makes_more}
use Rattle.bl_index_range.proofs.LeafParts.{ends_behind, look_of}
use Rattle.bl_index_range.proofs.OneMoment.{at_one_moment}

-- rows behind rows behind rows
behind_all : (all now before rows more : List (ℕ × ℕ)) → all ≡ now ++ more → now ≡ before ++ rows → all ≡ before ++ (rows ++ more)
behind_all all now before rows more is was = is ∙ (ap (λ (z : List (ℕ × ℕ)). z ++ more) was ∙ append_assoc before rows more)

-- what is left of them up to a place among those in the middle
back_to : (all before rows more : List (ℕ × ℕ)) (count : ℕ) → all ≡ before ++ (rows ++ more) → length before ≤ count → count ≤ length before + length rows → take count all ≡ before ++ take (count - length before) rows
back_to all before rows more count is low high =
    let k : ℕ = count - length before in
    ap (λ (z : ℕ × List (ℕ × ℕ)). take z.0 z.1) (λ i. ((let e : count ≡ length before + k = omega arith in e) i, is i))
    ∙ (taken_past before (rows ++ more) k ∙ ap (λ (z : List (ℕ × ℕ)). before ++ z) (take-append-le k rows more (omega arith)))

-- ---- less may come yet

less_behind : (rounds round again at next : ℕ) → again ≡ round → at < next → at < 2 ^ 64 → (rounds - again) * 2 ^ 64 + (2 ^ 64 - next) < (rounds - round) * 2 ^ 64 + (2 ^ 64 - at)
less_behind rounds round again at next is further fits =
    let same : (rounds - again) * 2 ^ 64 ≡ (rounds - round) * 2 ^ 64 = ap (λ (z : ℕ). (rounds - z) * 2 ^ 64) is in
    omega (arith, same, further, fits)

less_again : (rounds round again at next : ℕ) → again ≡ round + 1 → round < rounds → at < 2 ^ 64 → (rounds - again) * 2 ^ 64 + (2 ^ 64 - next) < (rounds - round) * 2 ^ 64 + (2 ^ 64 - at)
less_again rounds round again at next is most fits =
    let one : rounds - round ≡ (rounds - again) + 1 = omega (arith, is, most) in
    let more : (rounds - round) * 2 ^ 64 ≡ (rounds - again) * 2 ^ 64 + 2 ^ 64 = ap (λ (z : ℕ). z * 2 ^ 64) one ∙ (let z : ((rounds - again) + 1) * 2 ^ 64 ≡ (rounds - again) * 2 ^ 64 + 2 ^ 64 = omega arith in z) in
    omega (arith, more, fits)

module _ (tree : Tree) (hand hand' : Hand PassState) (limits : RangeLimits) (from : ℕ) (to : Option ℕ) (before : List (ℕ × ℕ)) (old : PassState) (g g' : Gathering) (leaf : AtLeaf)
    (inv : Gathers tree hand hand.number limits from to before old g) (r : ReadsLeaf tree hand hand' hand.number g.at to limits.turns leaf g.rows.items g'.rows.items inv.mid) where
  abbrev said : Reply
  said = ReplyRows r.has.leaf.ends.0.rows r.has.leaf.ends.0.next

  listed : g'.rows.items ≡ before ++ (inv.rows ++ rows_below to said)
  listed = behind_all g'.rows.items g.rows.items before inv.rows (rows_below to said) r.listed inv.listed

  looks_there : AreLooks hand'.seat tree.store.layout.pages to (length before) from g.at g.kept.items inv.rows
  looks_there = looks_on hand.seat hand'.seat r.still tree.store.layout.pages to (length before) from g.at g.kept.items inv.rows inv.looks

  -- the part has ended
  module _ (e : PassState) (ended : ends (known hand'.seat) 0 e) where
    first_is : e.first ≡ old.first
    first_is = ended.0.notes.first ∙ (r.has.since.beginning ∙ inv.first)

    finds : Finds old.first tree.store.layout.pages hand.number limits.turns (OpPart g.at) said inv.mid.trail e.trail
    finds = subst (λ (z : List (Option Page)). Finds z tree.store.layout.pages hand.number limits.turns (OpPart g.at) said inv.mid.trail e.trail) inv.first
        (part_finds tree.store.layout hand.number Up g.at limits.turns inv.mid hand'.seat e leaf.look.glance r.has ended)

    made : MakesParts old.first tree.store.layout.pages hand.number limits.turns from to (inv.parts ++ part_entry hand.number g.at said ∷ []) old.trail e.trail
    made = makes_more old.first tree.store.layout.pages hand.number limits.turns from to inv.parts g.at said old.trail inv.mid.trail e.trail inv.makes inv.low inv.below finds

    count : length (inv.parts ++ part_entry hand.number g.at said ∷ []) ≡ length inv.parts + 1
    count = length-append inv.parts (part_entry hand.number g.at said ∷ [])

    quiet : own hand.number e.trail ≡ own hand.number (known hand'.seat).trail
    quiet = subst (λ (z : ℕ). own z e.trail ≡ own z (known hand'.seat).trail) r.has.since.named ended.0.own

    moment : All (IsUnput hand'.seat) g.kept.items → leaf.behind ≡ Nothing → IsAtOneMoment old.first hand.number from to (inv.rows ++ rows_below to said) (history_of old.trail) (history_of e.trail)
    moment unput behind =
        let trail : Trail = (known hand'.seat).trail in
        let firm = r.kept.keeps.1 in
        let first_there = r.has.since.beginning ∙ inv.first in
        let adjoin : Adjoin trail from g.at inv.rows = subst (λ (z : List (ℕ × ℕ)). Adjoin trail from g.at z) (append-nil inv.rows)
        (adjoins hand'.seat tree.store.layout.pages to (length before) from g.at g.at g.kept.items inv.rows [] looks_there unput NoneAdjoin) in
        at_one_moment old.first firm.start tree.store.layout.pages hand.number limits.turns from g.at to inv.rows said old.trail inv.mid.trail r.kept.before trail e.trail (ended.0.notes.between ++ ended.0.notes.last ∷ []) r.kept.get
        r.kept.split r.kept.silent (sym quiet ∙ finds.answers.once) inv.makes.begins r.kept.begins ended.0.notes.trail quiet
        (subst (λ (z : List (Option Page)). IsLegalFrom (first_map z) (history_of e.trail)) first_is ended.0.notes.seen.linear.legal)
        (subst (λ (z : List (Option Page)). HasFirmMoments (first_map z) firm.start trail) first_there firm.firm) adjoin inv.low inv.below (rw behind at r.goes)

  -- ---- the range ends or stops with the part

  module _ (hand'' : Hand PassState) (ended : EndsThere hand' hand'') where
    rests_after : (did : Trail → Trail → Type 0) → did old.trail (known hand''.seat).trail → RestsAfter hand'' did old
    rests_after did is = record {
      rests = record { idle = ended.1; within = ended.2; over = ended.0.0.runs };
      first = first_is (known hand''.seat) ended.0;
      seen = ended.0.0.notes.seen;
      does = is;
    }

    pub ends_range : (g'' : Gathering) → g'' ≡ g' → g'.round ≡ g.round → g'.kept.items ≡ g.kept.items → All (IsUnput hand'.seat) g'.kept.items → leaf.behind ≡ Nothing
        → GoesOrEnds tree hand'' hand.number limits from to before old g g'' (Ok false)
    ends_range g'' is round kept unput behind =
        let few = inv.few in
        subst (λ (z : Gathering). GoesOrEnds tree hand'' hand.number limits from to before old g z (Ok false)) (sym is)
        (rests_after (HasGathered old.first tree.store.layout.pages hand.number limits from to before g' (Ok tt)) (
          (let z : g'.round ≤ limits.rounds = omega (arith, few, round) in z),
          inv.rows ++ rows_below to said,
          listed,
          record {
            parts = inv.parts ++ part_entry hand.number g.at said ∷ [];
            makes = made (known hand''.seat) ended.0;
            moment = moment (known hand''.seat) ended.0 (subst (λ (z : List Kept). All (IsUnput hand'.seat) z) kept unput) behind;
          },
        ))

    -- it stops there, with so many parts
    stopped : (fault : RangeFault) (g'' : Gathering) → g''.rows.items ≡ g'.rows.items → StopsFor old.first tree.store.layout.pages hand.number limits.turns limits.rounds (inv.parts ++ part_entry hand.number g.at said ∷ []) fault (known hand''.seat).trail (known hand''.seat).trail
        → GoesOrEnds tree hand'' hand.number limits from to before old g g'' (Err fault)
    stopped fault g'' rows why = rests_after (HasGathered old.first tree.store.layout.pages hand.number limits from to before g'' (Err fault)) (
      record {
        parts = inv.parts ++ part_entry hand.number g.at said ∷ [];
        mid = (known hand''.seat).trail;
        makes = made (known hand''.seat) ended.0;
        stops = why;
      },
      inv.rows ++ rows_below to said,
      rows ∙ listed,
    )

    pub lacks_room : (fault : RangeFault) (g'' : Gathering) → fault ≡ Memory → g''.rows.items ≡ g'.rows.items → GoesOrEnds tree hand'' hand.number limits from to before old g g'' (Err fault)
    lacks_room fault g'' is rows = subst (λ (z : RangeFault). GoesOrEnds tree hand'' hand.number limits from to before old g g'' (Err z)) (sym is)
        (stopped Memory g'' rows ((let some = count (known hand''.seat) ended.0 in omega (arith, some)), refl))

    pub is_unsteady : (fault : RangeFault) (g'' : Gathering) → fault ≡ Unsteady → limits.rounds ≤ g'.round → g'.round ≡ g.round → g'' ≡ g' → GoesOrEnds tree hand'' hand.number limits from to before old g g'' (Err fault)
    is_unsteady fault g'' is most round same = subst (λ (z : RangeFault). GoesOrEnds tree hand'' hand.number limits from to before old g g'' (Err z)) (sym is)
        (stopped Unsteady g'' (ap (λ (z : Gathering). z.rows.items) same) ((let some = count (known hand''.seat) ended.0 in let enough = inv.enough in omega (arith, some, enough, most, round)), refl))

  -- ---- or goes on

  module _ (hand'' : Hand PassState) (same : IsSameHand hand.seat hand'.seat) (g'' : Gathering) (off : SetsOff tree hand' hand'' g'') where
    off_again : HasSetOff tree hand'' hand.number (Rows Up) g''.at g''.way off.between
    off_again = subst (λ (z : ℕ). HasSetOff tree hand'' z (Rows Up) g''.at g''.way off.between) (same_number hand hand' same) off.off

    pub goes_behind : (next link : ℕ) → leaf.behind ≡ Part next link → g'.round ≡ g.round → g'.kept.items ≡ g.kept.items → GoesOnBehind tree hand' hand'' leaf.look next g' g''
        → GoesOrEnds tree hand'' hand.number limits from to before old g g'' (Ok true)
    goes_behind next link behind round kept goes =
        let there = ends_behind tree hand hand' hand.number g.at to limits.turns leaf g.rows.items g'.rows.items inv.mid r next link behind in
        let look = look_of tree hand hand' hand.number g.at to limits.turns leaf g.rows.items g'.rows.items inv.mid r next link inv.fits inv.below behind in
        let counted : leaf.look.rows ≡ length before + length inv.rows = r.count ∙ (ap length inv.listed ∙ length-append before inv.rows) in
        let looks = looks_push hand'.seat tree.store.layout.pages to (length before) from g.at next g.kept.items inv.rows leaf.look (rows_below to said) looks_there counted look in
        let on = looks_on hand'.seat hand''.seat off.still tree.store.layout.pages to (length before) from next (g.kept.items ++ leaf.look ∷ []) (inv.rows ++ rows_below to said) looks in
        let at = goes.at in
        let again : g''.round ≡ g.round = goes.round ∙ round in
        let few = inv.few in
        let enough = inv.enough in
        let low = inv.low in
        let fits = inv.fits in
        let more = count off.between off.ended in (
          record {
            mid = off.between;
            off = off_again;
            first = first_is off.between off.ended;
            parts = inv.parts ++ part_entry hand.number g.at said ∷ [];
            makes = made off.between off.ended;
            enough = omega (arith, again, enough, more);
            few = omega (arith, again, few);
            low = omega (arith, at, low, there.0);
            fits = omega (arith, at, there.1);
            below = subst (IsBelow to) (sym at) there.2;
            rows = inv.rows ++ rows_below to said;
            listed = goes.rows ∙ listed;
            looks = subst (λ (z : ℕ × List Kept). AreLooks hand''.seat tree.store.layout.pages to (length before) from z.0 z.1 (inv.rows ++ rows_below to said)) (λ i. (sym at i, sym (goes.kept ∙ ap (λ (z : List Kept). z ++ leaf.look ∷ []) kept) i)) on;
          },
          less_behind limits.rounds g.round g''.round g.at g''.at again (omega (arith, at, there.0)) fits,
        )

    pub goes_again : g'.round ≡ g.round → g'.kept.items ≡ g.kept.items → g'.round < limits.rounds → BeginsAgain tree hand' hand'' g' g''
        → GoesOrEnds tree hand'' hand.number limits from to before old g g'' (Ok true)
    goes_again round kept most goes =
        let look = goes.look in
        let is = subst (λ (z : List Kept). look ≡ get_or z goes.place look) kept goes.is in
        let within = subst (λ (z : List Kept). goes.place < length z) kept goes.within in
        let back = looks_take hand'.seat tree.store.layout.pages to (length before) from g.at g.kept.items inv.rows goes.place look looks_there within is in
        let less = look.rows - length before in
        let on = looks_on hand'.seat hand''.seat off.still tree.store.layout.pages to (length before) from look.from (take goes.place g.kept.items) (take less inv.rows) back.kept in
        let at = goes.at in
        let again : g''.round ≡ g.round + 1 = goes.round ∙ ap (λ (z : ℕ). z + 1) round in
        let enough = inv.enough in
        let low = back.begins in
        let fits = back.fits in
        let here = inv.fits in
        let more = count off.between off.ended in (
          record {
            mid = off.between;
            off = off_again;
            first = first_is off.between off.ended;
            parts = inv.parts ++ part_entry hand.number g.at said ∷ [];
            makes = made off.between off.ended;
            enough = omega (arith, again, enough, more);
            few = omega (arith, again, round, most);
            low = omega (arith, at, low);
            fits = omega (arith, at, fits);
            below = subst (IsBelow to) (sym at) back.below;
            rows = take less inv.rows;
            listed = goes.rows ∙ back_to g'.rows.items before inv.rows (rows_below to said) look.rows listed back.low back.high;
            looks = subst (λ (z : ℕ × List Kept). AreLooks hand''.seat tree.store.layout.pages to (length before) from z.0 z.1 (take less inv.rows)) (λ i. (sym at i, sym (goes.kept ∙ ap (take goes.place) kept) i)) on;
          },
          less_again limits.rounds g.round g''.round g.at g''.at again (omega (arith, round, most)) here,
        )

  -- ---- whichever of these

  module _ (hand'' : Hand PassState) (same : IsSameHand hand.seat hand'.seat) (g'' : Gathering) (round : g'.round ≡ g.round) (kept : g'.kept.items ≡ g.kept.items) where
    pub behind_leaf : (result : Result Bool RangeFault) (next link : ℕ) → leaf.behind ≡ Part next link → GoesOnOrStops tree hand' hand'' leaf.look next g' g'' result → GoesOrEnds tree hand'' hand.number limits from to before old g g'' result
    behind_leaf (Ok true) next link behind goes = goes_behind hand'' same g'' goes.sets_off next link behind round kept goes
    behind_leaf (Ok false) next link behind goes = absurd goes
    behind_leaf (Err fault) next link behind goes = lacks_room hand'' goes.1 fault g'' goes.0 goes.2

    pub at_end : (result : Result Bool RangeFault) → leaf.behind ≡ Nothing → EndsRound tree hand' hand'' limits.rounds g' g'' result → GoesOrEnds tree hand'' hand.number limits from to before old g g'' result
    at_end (Ok true) behind ends = goes_again hand'' same g'' ends.0.sets_off round kept ends.1 ends.0
    at_end (Ok false) behind ends = ends_range hand'' ends.0 g'' ends.2 round kept ends.1 behind
    at_end (Err fault) behind ends = is_unsteady hand'' ends.2 fault g'' ends.0 ends.1 round ends.3

-- ---- the part did not come to its leaf, or had no room for its rows

module _ (tree : Tree) (hand hand' : Hand PassState) (limits : RangeLimits) (from : ℕ) (to : Option ℕ) (before : List (ℕ × ℕ)) (old : PassState) (g g' : Gathering)
    (inv : Gathers tree hand hand.number limits from to before old g) (fault : RangeFault) (r : RestsAfter hand' (LeavesLeaf inv.mid.first tree.store.layout.pages hand.number limits.turns g.at fault) inv.mid) where
  pub stops_before : g'.rows.items ≡ g.rows.items → GoesOrEnds tree hand' hand.number limits from to before old g g' (Err fault)
  stops_before rows = record {
    rests = r.rests;
    first = r.first ∙ inv.first;
    seen = r.seen;
    does = (why fault (subst (λ (z : List (Option Page)). LeavesLeaf z tree.store.layout.pages hand.number limits.turns g.at fault inv.mid.trail (known hand'.seat).trail) inv.first r.does), inv.rows, rows ∙ inv.listed);
  }
    where
      why : (f : RangeFault) → LeavesLeaf old.first tree.store.layout.pages hand.number limits.turns g.at f inv.mid.trail (known hand'.seat).trail
          → StopsRange old.first tree.store.layout.pages hand.number limits.turns limits.rounds from to f old.trail (known hand'.seat).trail
      why Memory left = record {
        parts = inv.parts ++ part_entry hand.number g.at left.0 ∷ [];
        mid = (known hand'.seat).trail;
        makes = makes_more old.first tree.store.layout.pages hand.number limits.turns from to inv.parts g.at left.0 old.trail inv.mid.trail (known hand'.seat).trail inv.makes inv.low inv.below left.1;
        stops = ((let some = length-append inv.parts (part_entry hand.number g.at left.0 ∷ []) in omega (arith, some)), refl);
      }
      why OutOfTurns left = record { parts = inv.parts; mid = inv.mid.trail; makes = inv.makes; stops = left }
      why Unsteady left = absurd left

-- ---- a range that is to begin

pub gathers_none : (tree : Tree) (hand : Hand PassState) (pass : ℕ) (limits : RangeLimits) (to : Option ℕ) (before : List (ℕ × ℕ)) (old : PassState) (g : Gathering) → HasSetOff tree hand pass (Rows Up) g.at g.way old
    → g.round ≡ 0 → g.kept.items ≡ [] → g.rows.items ≡ before → g.at < 2 ^ 64 → IsBelow to g.at → Gathers tree hand pass limits g.at to before old g
gathers_none tree hand pass limits to before old g off none empty rows fits below = record {
  mid = old;
  off = off;
  first = refl;
  parts = [];
  makes = makes_none old.first tree.store.layout.pages pass limits.turns g.at to old.trail;
  enough = omega (arith, none);
  few = omega (arith, none);
  low = omega arith;
  fits = fits;
  below = below;
  rows = [];
  listed = rows ∙ sym (append-nil before);
  looks = subst (λ (z : List Kept). AreLooks hand.seat tree.store.layout.pages to (length before) g.at g.at z []) (sym empty) (refl, refl);
}

-- ---- one part after another

-- it has come so far, or has ended
abbrev pub IsUnderWay : Tree → Hand PassState → ℕ → RangeLimits → ℕ → Option ℕ → List (ℕ × ℕ) → PassState → Gathering → Bool → Type 0
IsUnderWay tree hand pass limits from to before old g true = Gathers tree hand pass limits from to before old g
IsUnderWay tree hand pass limits from to before old g false = RestsAfter hand (HasGathered old.first tree.store.layout.pages pass limits from to before g (Ok tt)) old

abbrev pub left_while : ℕ → Gathering → Bool → ℕ
left_while rounds g true = left_of rounds g + 1
left_while rounds g false = 0

pub under_way : (tree : Tree) (hand : Hand PassState) (pass : ℕ) (limits : RangeLimits) (from : ℕ) (to : Option ℕ) (before : List (ℕ × ℕ)) (old : PassState) (g g' : Gathering) (on : Bool)
    → GoesOrEnds tree hand pass limits from to before old g g' (Ok on) → IsUnderWay tree hand pass limits from to before old g' on × (left_while limits.rounds g' on < left_while limits.rounds g true)
under_way tree hand pass limits from to before old g g' true went = (went.0, let less = went.1 in omega (arith, less))
under_way tree hand pass limits from to before old g g' false went = (went, omega arith)

-- a range that a hand has begun goes on by a part of the same hand
module _ (tree : Tree) (began hand : Hand PassState) (same : IsSameHand began.seat hand.seat) (limits : RangeLimits) (from : ℕ) (to : Option ℕ) (before : List (ℕ × ℕ)) (old : PassState) (g : Gathering) (goes_on : Bool) (is : goes_on ≡ true)
    (way : IsUnderWay tree hand began.number limits from to before old g goes_on) where
  pub gathers_on : Gathers tree hand hand.number limits from to before old g
  gathers_on =
      let here : Gathers tree hand began.number limits from to before old g = subst (λ (z : Bool). IsUnderWay tree hand began.number limits from to before old g z) is way in
      subst (λ (z : ℕ). Gathers tree hand z limits from to before old g) (sym (same_number began hand same)) here

  pub by_part : (hand' : Hand PassState) (g' : Gathering) (result : Result Bool RangeFault)
      → ((from : ℕ) (before : List (ℕ × ℕ)) (old : PassState) → Gathers tree hand hand.number limits from to before old g → GoesOrEnds tree hand' hand.number limits from to before old g g' result)
      → GoesOrEnds tree hand' began.number limits from to before old g g' result
  by_part hand' g' result goes = subst (λ (z : ℕ). GoesOrEnds tree hand' z limits from to before old g g' result) (same_number began hand same) (goes from before old gathers_on)
