-- A range is read anew where a part ran out of turns.
use Rattle.std.proofs.Common.{◌≡◌, ℕ, ◌<◌, ◌≤◌, ◌+◌, List, [], ◌∷◌, ◌++◌, length, Option, sym, ap, ◌∙◌, subst, append_assoc, append-nil, length-append, arith}
use Rattle.std.specs.Prelude.{All, Ok, Err}
use Rattle.std.proofs.lemmas.List.Elements.{All-append, All-nil}
use Rattle.bl_model.specs.Map.{ListsPairs}
use Rattle.bl_model.specs.History.{final_map}
use Rattle.bl_model.specs.declared.operation.Entry.{Entry}
use Rattle.bl_page.specs.declared.page.Page.{Page}
use Rattle.bl_claims.specs.Trails.{Trail, history_of}
use Rattle.bl_claims.specs.Seeing.{first_map, own}
use Rattle.bl_index_read.specs.LeafRows.{IsBelow}
use Rattle.bl_index_read.specs.Searching.{RunsOut}
use Rattle.bl_index_range.specs.Ranges.{IsPartWithin, MakesParts, IsAtOneMoment, ReadsRange, StopsRange}
use Rattle.bl_index_range.specs.declared.ranging.RangeFault.{RangeFault}
use Rattle.bl_index_range.specs.declared.ranging.RangeFault.TheVariants as fault
use Rattle.bl_map_calls.specs.declared.ranging.RangeRefusal.{RangeRefusal}
use Rattle.bl_map_calls.specs.declared.ranging.RangeRefusal.TheVariants as refusal
use Rattle.bl_map_calls.specs.Works.{Searches}
use Rattle.bl_map_calls.specs.Ranges.{SearchesParts, Ranged, CountsRange, IsRefused}
use Rattle.bl_map_calls.proofs.Adding.{call_adds, lost_more}
use Rattle.bl_map_calls.proofs.Scanning.{history_append, calls_then}

pub no_parts : (first : List (Option Page)) (pages pass from : ℕ) (to : Option ℕ) (old : Trail) → SearchesParts first pages pass from to [] old old
no_parts first pages pass from to old = record {
  within = All-nil (IsPartWithin pass from to);
  searches = Searches.NoneMade;
  begins = ([], sym (append-nil old));
  seen = λ s. s;
  mine = sym (append-nil (own pass old));
}

-- the moment of a call that began later
pub moment_on : (first : List (Option Page)) (pass from : ℕ) (to : Option ℕ) (rows : List (ℕ × ℕ)) (old mid more new : List Entry) → mid ≡ old ++ more
    → IsAtOneMoment first pass from to rows mid new → IsAtOneMoment first pass from to rows old new
moment_on first pass from to rows old mid more new on r = record {
  before = more ++ r.before;
  last = r.last;
  after = r.after;
  stands = r.stands ∙ (ap (λ (z : List Entry). z ++ (r.before ++ r.last ∷ r.after)) on
      ∙ (append_assoc old more (r.before ++ r.last ∷ r.after) ∙ ap (λ (z : List Entry). old ++ z) (sym (append_assoc more r.before (r.last ∷ r.after)))));
  part = r.part;
  latest = r.latest;
  lists = subst (λ (z : List Entry). ListsPairs (final_map (first_map first) z) (λ key. (from ≤ key) × IsBelow to key) rows)
      (ap (λ (z : List Entry). z ++ r.before) on ∙ append_assoc old more r.before) r.lists;
}

module _ (first : List (Option Page)) (pages pass it turns from : ℕ) (to : Option ℕ) (parts : List Entry) (old mid new : Trail)
    (same : it ≡ pass) (is_turns : turns ≡ pages) (s : SearchesParts first pages pass from to parts old mid) where
  parts_then : (more : List Entry) (end : Trail) → MakesParts first pages it turns from to more mid end → SearchesParts first pages pass from to (parts ++ more) old end
  parts_then more end made =
      let m : MakesParts first pages pass turns from to more mid end = subst (λ (z : ℕ). MakesParts first pages z turns from to more mid end) same made in
      record {
        within = All-append (IsPartWithin pass from to) parts more s.within m.within;
        searches = calls_then first pages pass turns parts more old mid end is_turns s.searches m.calls;
        begins = (s.begins.0 ++ m.begins.0, m.begins.1 ∙ (ap (λ (z : Trail). z ++ m.begins.0) s.begins.1 ∙ append_assoc old s.begins.0 m.begins.0));
        seen = λ x. m.seen (s.seen x);
        mine = m.mine ∙ (ap (λ (z : List Entry). z ++ more) s.mine ∙ append_assoc (own pass old) parts more);
      }

  pub was_read : (rounds again : ℕ) (rows before middle after : List (ℕ × ℕ)) → middle ≡ before → again ≤ rounds → after ≡ middle ++ rows
      → ReadsRange first pages it turns from to rows mid new → Ranged first pages pass from to rounds (Ok again) before after old new
  was_read rounds again rows before middle after kept few appended r = record {
    parts = parts ++ r.parts;
    makes = parts_then r.parts new r.makes;
    few = few;
    told = (
      rows,
      appended ∙ ap (λ (z : List (ℕ × ℕ)). z ++ rows) kept,
      moment_on first pass from to rows (history_of old) (history_of mid) (history_of s.begins.0) (history_of new) (ap history_of s.begins.1 ∙ history_append old s.begins.0)
          (subst (λ (z : ℕ). IsAtOneMoment first z from to rows (history_of mid) (history_of new)) same r.moment),
    );
    kept = tt;
    refused = tt;
  }

  module _ (rounds : ℕ) (why : RangeFault) (stop : StopsRange first pages it turns rounds from to why mid new) where
    pub ran_out : why ≡ fault.OutOfTurns → (all : List Entry) × SearchesParts first pages pass from to all old new
    ran_out is =
        let t : StopsRange first pages it turns rounds from to fault.OutOfTurns mid new = subst (λ (z : RangeFault). StopsRange first pages it turns rounds from to z mid new) is stop in
        let m = parts_then t.parts t.mid t.makes in
        let a = call_adds first pass it t.mid new same t.stops.adds in (
          parts ++ t.parts,
          record {
            within = m.within;
            searches = lost_more first pages pass it turns (parts ++ t.parts) old t.mid new same is_turns m.searches t.stops;
            begins = (m.begins.0 ++ a.begins.0, a.begins.1 ∙ (ap (λ (z : Trail). z ++ a.begins.0) m.begins.1 ∙ append_assoc old m.begins.0 a.begins.0));
            seen = λ x. a.seen (m.seen x);
            mine = a.none ∙ m.mine;
          },
        )

    pub lacked_memory : (before after : List (ℕ × ℕ)) → after ≡ before → why ≡ fault.Memory → Ranged first pages pass from to rounds (Err refusal.Memory) before after old new
    lacked_memory before after kept is =
        let t : StopsRange first pages it turns rounds from to fault.Memory mid new = subst (λ (z : RangeFault). StopsRange first pages it turns rounds from to z mid new) is stop in
        record {
          parts = parts ++ t.parts;
          makes = subst (λ (z : Trail). SearchesParts first pages pass from to (parts ++ t.parts) old z) (sym t.stops.1) (parts_then t.parts t.mid t.makes);
          few = tt;
          told = tt;
          kept = kept;
          refused = omega (arith, length-append parts t.parts, t.stops.0);
        }

    pub was_unsteady : (before after : List (ℕ × ℕ)) → after ≡ before → why ≡ fault.Unsteady → Ranged first pages pass from to rounds (Err refusal.Unsteady) before after old new
    was_unsteady before after kept is =
        let t : StopsRange first pages it turns rounds from to fault.Unsteady mid new = subst (λ (z : RangeFault). StopsRange first pages it turns rounds from to z mid new) is stop in
        record {
          parts = parts ++ t.parts;
          makes = subst (λ (z : Trail). SearchesParts first pages pass from to (parts ++ t.parts) old z) (sym t.stops.1) (parts_then t.parts t.mid t.makes);
          few = tt;
          told = tt;
          kept = kept;
          refused = omega (arith, length-append parts t.parts, t.stops.0);
        }
