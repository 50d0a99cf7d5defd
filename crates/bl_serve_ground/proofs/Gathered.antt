-- Passes that have met, and what they have seen.
use Rattle.std.proofs.Common.{◌≡◌, ℕ, suc, ◌<◌, List, [], ◌∷◌, ◌++◌, length, Option, Some, None, refl, sym, ap, ◌∙◌, subst, arith}
use Rattle.std.specs.Prelude.{All}
use Rattle.std.proofs.lemmas.List.Elements.{All-nil, All-cons}
use Rattle.bl_model.specs.declared.operation.Entry.{Entry}
use Rattle.bl_model.specs.History.{entries_of_pass}
use Rattle.bl_model.proofs.Histories.{entries_of_pass-append}
use Rattle.bl_page.specs.Machine.{Name}
use Rattle.bl_claims.specs.Trails.{Said, Trail, entries_at, history_of}
use Rattle.bl_claims.specs.Seeing.{own, AreWithin}
use Rattle.bl_index.specs.declared.index.Index.{Index}
use Rattle.bl_index.specs.declared.index.Pass.{Pass}
use Rattle.bl_index.specs.Calls.{IsPassOf}
use Rattle.bl_index_range.proofs.Told.{history_append}
use Rattle.bl_serve_ground.specs.Together.{AreFrom, AreTogether, seen_by}

all_own : (index : Index) (seen : Trail) (from : ℕ) (passes : List Pass) → AreFrom index seen from passes → All (IsPassOf index) passes
all_own index seen from [] h = All-nil (IsPassOf index)
all_own index seen from (p ∷ ps) h = All-cons (IsPassOf index) p ps h.0 (all_own index seen (suc from) ps h.3)

pub own_together : (index : Index) (seen : Trail) (passes : List Pass) → AreTogether index seen passes → All (IsPassOf index) passes
own_together index seen passes t = all_own index seen 0 passes t.each

-- they have seen what the first one has
pub first_seen : (index : Index) (seen : Trail) (passes : List Pass) → 0 < length passes → AreTogether index seen passes → seen_by passes ≡ seen
first_seen index seen [] some t = absurd (omega arith)
first_seen index seen (p ∷ ps) some t = t.each.2

pub together_by_first : (index : Index) (seen : Trail) (passes : List Pass) → 0 < length passes → AreTogether index seen passes → AreTogether index (seen_by passes) passes
together_by_first index seen passes some t = subst (λ (z : Trail). AreTogether index z passes) (sym (first_seen index seen passes some t)) t

-- ---- their entries

module _ (passes : ℕ) where
  abbrev pub IsBelow : Entry → Type 0
  IsBelow e = e.pass < passes

  entries_below : (p : Name) (said : Option Said) (es : List Entry) → p.pass < passes → All IsBelow es → All IsBelow (entries_at p said ++ es)
  entries_below p None es low all = all
  entries_below p (Some s) es low all = All-cons IsBelow (record { pass = p.pass; op = s.op; reply = s.reply }) es low all

  pub all_below : (marks : Trail) → AreWithin passes marks → All IsBelow (history_of marks)
  all_below [] w = All-nil IsBelow
  all_below (m ∷ ms) w = entries_below m.event.process m.said (history_of ms) (w m (0, omega arith, refl)) (all_below ms (λ n c. w n (suc c.0, (let l = c.1 in omega arith), c.2)))

  pub within_rest : (old more : Trail) → AreWithin passes (old ++ more) → AreWithin passes more
  within_rest [] more w = w
  within_rest (m ∷ ms) more w = within_rest ms more (λ n c. w n (suc c.0, (let l = c.1 in omega arith), c.2))

module _ (old new more : Trail) (on : new ≡ old ++ more) where
  pub own_more : (pass : ℕ) → own pass new ≡ own pass old ++ entries_of_pass pass (history_of more)
  own_more pass = ap (own pass) on ∙ (ap (entries_of_pass pass) (history_append old more) ∙ entries_of_pass-append pass (history_of old) (history_of more))
