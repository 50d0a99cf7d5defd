-- A range that has made parts, and makes one more.
use Rattle.std.proofs.Common.{ℕ, zero, suc, ◌≡◌, ◌≤◌, ◌++◌, Option, List, [], ◌∷◌, refl, sym, ap, ◌∙◌, subst, append_assoc, append-nil, arith}
use Rattle.std.specs.Prelude.{All}
use Rattle.std.proofs.lemmas.List.Elements.{All-append, All-nil}
use Rattle.bl_model.specs.declared.operation.Entry.{Entry}
use Rattle.bl_model.specs.declared.operation.Op.TheVariants.{Part}
use Rattle.bl_model.specs.declared.operation.Reply.{Reply}
use Rattle.bl_page.specs.declared.page.Page.{Page}
use Rattle.bl_claims.specs.Trails.{Trail}
use Rattle.bl_claims.specs.Seeing.{own}
use Rattle.bl_index_read.specs.LeafRows.{IsBelow}
use Rattle.bl_index_read.specs.Searching.{Finds}
use Rattle.bl_index_range.specs.Parts.{AreCalls}
use Rattle.bl_index_range.specs.Ranges.{IsPartWithin, MakesParts}

pub calls_push : (first : List (Option Page)) (pages pass turns : ℕ) (es : List Entry) (e : Entry) (old mid new : Trail) → AreCalls first pages pass turns es old mid → Finds first pages pass turns e.op e.reply mid new → AreCalls first pages pass turns (es ++ e ∷ []) old new
calls_push first pages pass turns [] e old mid new calls finds = (new, subst (λ (z : Trail). Finds first pages pass turns e.op e.reply z new) calls finds, refl)
calls_push first pages pass turns (x ∷ xs) e old mid new calls finds = (calls.0, calls.1, calls_push first pages pass turns xs e calls.0 mid new calls.2 finds)

pub makes_none : (first : List (Option Page)) (pages pass turns from : ℕ) (to : Option ℕ) (old : Trail) → MakesParts first pages pass turns from to [] old old
makes_none first pages pass turns from to old = record {
  within = All-nil (IsPartWithin pass from to);
  calls = refl;
  begins = ([], sym (append-nil old));
  seen = λ s. s;
  mine = sym (append-nil (own pass old));
}

abbrev pub part_entry : ℕ → ℕ → Reply → Entry
part_entry pass at reply = record { pass = pass; op = Part at; reply = reply }

pub makes_more : (first : List (Option Page)) (pages pass turns from : ℕ) (to : Option ℕ) (parts : List Entry) (at : ℕ) (reply : Reply) (old mid new : Trail) → MakesParts first pages pass turns from to parts old mid
    → from ≤ at → IsBelow to at → Finds first pages pass turns (Part at) reply mid new → MakesParts first pages pass turns from to (parts ++ part_entry pass at reply ∷ []) old new
makes_more first pages pass turns from to parts at reply old mid new made low below finds =
    let entry : Entry = part_entry pass at reply in
    let more : Trail = finds.answers.holds.more in
    record {
      within = All-append (IsPartWithin pass from to) parts (entry ∷ []) made.within (one entry (record { mine = refl; key = at; op = refl; low = low; below = below }));
      calls = calls_push first pages pass turns parts entry old mid new made.calls finds;
      begins = (made.begins.0 ++ more, finds.answers.holds.begins ∙ (ap (λ (z : Trail). z ++ more) made.begins.1 ∙ append_assoc old made.begins.0 more));
      seen = λ _. finds.answers.seen;
      mine = finds.answers.once ∙ (ap (λ (z : List Entry). z ++ entry ∷ []) made.mine ∙ append_assoc (own pass old) parts (entry ∷ []));
    }
  where
    one : (entry : Entry) → IsPartWithin pass from to entry → All (IsPartWithin pass from to) (entry ∷ [])
    one entry is zero d lt = is
    one entry is (suc k) d lt = absurd (omega arith)
