-- After a section all passes meet: the history has gone on by the entries of the section's lines, and by no others.
use Rattle.std.proofs.Common.{◌≡◌, ℕ, suc, ◌<◌, ◌++◌, List, [], ◌∷◌, length, map, Option, Some, None, refl, sym, ap, ◌∙◌, subst, arith}
use Rattle.std.specs.Prelude.{All, flat_map}
use Rattle.std.proofs.lemmas.List.{append_cancel_left}
use Rattle.std.proofs.lemmas.List.Elements.{All-head, All-tail}
use Rattle.bl_model.specs.declared.operation.Entry.{Entry}
use Rattle.bl_model.specs.History.{IsLegalFrom, entries_of_pass}
use Rattle.bl_serve_lines.specs.declared.request.Request.{Request}
use Rattle.bl_serve_lines.specs.Lines.{Answer, entries}
use Rattle.bl_serve_lines.specs.Served.{Interleaves, on_key}
use Rattle.bl_page.specs.declared.page.Page.{Page}
use Rattle.bl_claims.specs.Trails.{Trail, history_of}
use Rattle.bl_claims.specs.Seeing.{first_map, IsLinearizable, own, AreWithin, GoesOnFrom}
use Rattle.bl_index.specs.Calls.{number_of, trail}
use Rattle.bl_serve.specs.Chunks.{Taken, IsTaken, IsChunk}
use Rattle.bl_serve_worker.proofs.Lines.{history_append}
use Rattle.bl_serve_ground.proofs.Gathered.{all_below, own_more, within_rest}
use Rattle.bl_serve.proofs.Weaving.{joined, all_of, parts, by_part, one_by_one}

-- The passes are numbered from that one on. Each had seen old before the section; and new, which all have seen after they
-- have met, has no entry of it that it hadn't seen at the section's end.
abbrev pub FitsFrom : Trail → Trail → ℕ → List Taken → Type 0
FitsFrom old new from [] = Unit {0}
FitsFrom old new from (t ∷ ts) = (number_of t.old ≡ from) × (trail t.old ≡ old) × (own from new ≡ own from (trail t.new)) × FitsFrom old new (suc from) ts

module _ (old new more : Trail) (on : new ≡ old ++ more) where
  share_is : (first : List (Option Page)) (from : ℕ) (t : Taken) → IsTaken first t → number_of t.old ≡ from → trail t.old ≡ old → own from new ≡ own from (trail t.new) → entries_of_pass from (history_of more) ≡ joined t.share
  share_is first from t is number before after = append_cancel_left (own from old) (entries_of_pass from (history_of more)) (joined t.share)
      (sym (own_more old new more on from) ∙ (after
      ∙ (subst (λ (z : ℕ). own z (trail t.new) ≡ own z (trail t.old) ++ joined t.share) number is.mine
      ∙ ap (λ (z : Trail). own from z ++ joined t.share) before)))

  shares_are : (first : List (Option Page)) (from : ℕ) (taken : List Taken) → All (IsTaken first) taken → FitsFrom old new from taken → parts from (length taken) (history_of more) ≡ map joined (map (λ t. t.share) taken)
  shares_are first from [] each fits = refl
  shares_are first from (t ∷ ts) each fits = ap (λ (z : List Entry). z ∷ parts (suc from) (length ts) (history_of more)) (share_is first from t (All-head (IsTaken first) t ts each) fits.0 fits.1 fits.2)
      ∙ ap (λ (z : List (List Entry)). joined t.share ∷ z) (shares_are first (suc from) ts (All-tail (IsTaken first) t ts each) fits.3)

all_shares : (taken : List Taken) → all_of (map (λ t. t.share) taken) ≡ flat_map (λ t. t.share) taken
all_shares [] = refl
all_shares (t ∷ ts) = ap (λ (z : List (List Entry)). t.share ++ z) (all_shares ts)

-- a section and its part of the history
pub record GoesOnBy (first : List (Option Page)) (old new : Trail) (answers : List Answer) : Type 0 where
  pub more : Trail
  pub on : new ≡ old ++ more
  pub history : history_of new ≡ history_of old ++ history_of more
  pub interleaves : Interleaves (map entries answers) (history_of more)
  pub order : (key : ℕ) → on_key key (history_of more) ≡ on_key key (flat_map entries answers)
  pub legal : IsLegalFrom (first_map first) (history_of new)

pub section : (first : List (Option Page)) (pages number : ℕ) (lines : List (Option Request)) (text : List ℕ) (olds news : List _) (old new : Trail) (r : IsChunk first pages number lines text olds news) → GoesOnFrom old new → IsLinearizable first new → AreWithin (length r.taken) new → FitsFrom old new 0 r.taken → GoesOnBy first old new r.answers
section first pages number lines text olds news old new r on seen within fits =
    let more : Trail = on.0 in
    let below = all_below (length r.taken) more (within_rest (length r.taken) old more (subst (AreWithin (length r.taken)) on.1 within)) in
    let a : Interleaves (parts 0 (length r.taken) (history_of more)) (history_of more) = by_part (length r.taken) (history_of more) below in
    let b : Interleaves (map joined (map (λ t. t.share) r.taken)) (history_of more) = subst (λ (z : List (List Entry)). Interleaves z (history_of more)) (shares_are old new more on.1 first 0 r.taken r.each_taken fits) a in
    let c : Interleaves (flat_map (λ t. t.share) r.taken) (history_of more) = subst (λ (z : List (List Entry)). Interleaves z (history_of more)) (all_shares r.taken) (one_by_one b (map (λ t. t.share) r.taken) refl) in record {
      more = more;
      on = on.1;
      history = ap history_of on.1 ∙ history_append old more;
      interleaves = r.weaves (history_of more) c;
      order = r.keeps (history_of more) c;
      legal = seen.legal;
    }
