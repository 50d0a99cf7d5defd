-- A compression goes on, and in one way.
use Rattle.std.proofs.Common.{ℕ, ◌≡◌, Option, Some, None, refl, ap, sym, subst, Bool}
use Rattle.std.specs.Prelude.{IsSome}
use Rattle.std.proofs.lemmas.Bool.{false≢true}
use Rattle.bl_page.specs.declared.page.Page.{Page}
use Rattle.bl_rearrange.specs.declared.sides.Side.{Side}
use Rattle.bl_rearrange.specs.declared.sides.Side.TheVariants as side
use Rattle.bl_proc_steps.specs.declared.acts.Seen.{Seen}
use Rattle.bl_proc_steps.specs.declared.acts.Seen.TheVariants as seen
use Rattle.bl_proc_steps.specs.Given.{Gives}
use Rattle.bl_rearrange.specs.declared.families.Family.{Family}
use Rattle.bl_proc_compress.specs.declared.compression.Puts.{Puts}
use Rattle.bl_proc_compress.specs.declared.compression.Decision.{Decision}
use Rattle.bl_proc_compress.specs.declared.compression.Decision.TheVariants.{Refused}
use Rattle.bl_proc_compress.specs.declared.compression.Compression.{Compression}
use Rattle.bl_proc_compress.specs.declared.compression.Compression.TheVariants.{LatchingLeft, LatchedLeft, LatchingRight, LatchedRight, PuttingFirst, PuttingParent, PuttingLast, Retiring, OpeningRight, OpeningLeft, OpeningParent}
use Rattle.bl_proc_compress.specs.declared.compression.Compressed.{Compressed}
use Rattle.bl_proc_compress.specs.declared.compression.Compressed.TheVariants.{On, Over}
use Rattle.bl_proc_compress.specs.Compressions.{put_of, other, after_puts, missed_left, missed_right, compression_next, compression_needs, Compresses}
use Rattle.bl_proc_deterministic.specs.One.{One}
use Rattle.bl_proc_deterministic.proofs.Decisions.{link_one, decide_one}

-- what a put gives, whichever child is put
put_gives : (s : Side) (p : Puts) (needs : Option (ℕ × ℕ)) (what : Seen) (Goal : Type 0) → (what ≡ seen.Done → Goal) → (what ≡ seen.Refused → IsSome needs → Goal) → Gives (put_of s p) needs what → Goal
put_gives side.Left p needs seen.Done Goal put refused g = put refl
put_gives side.Left p needs seen.Refused Goal put refused g = refused refl g
put_gives side.Right p needs seen.Done Goal put refused g = put refl
put_gives side.Right p needs seen.Refused Goal put refused g = refused refl g
put_gives old p needs what new put refused g = absurd g

-- What goes on goes on to one state.
module _ (waits : Bool) where
  on_only : (old : Compression) (what : Seen) (new : Compression) → ((d : Compression) → Compresses waits old what (On d) → d ≡ new) → ((decision : Decision) → Compresses waits old what (Over decision) → ⊥) → (o : Compressed) → Compresses waits old what o → o ≡ On new
  on_only old what new is over (On d) t = ap On (is d t)
  on_only old what new is over (Over decision) t = absurd (over decision t)

  opened : (x : ℕ) (decision : Decision) (o : Compressed) → Compresses waits (OpeningParent x decision) seen.Done o → o ≡ Over decision
  opened x decision (On d) t = absurd t
  opened x decision (Over z) t = ap Over t

  link_goes : (f : Family) (c : Page) → One (Compresses waits (LatchedLeft f) (seen.Words c))
  link_goes f c = (let h = link_one f c in record { new = On h.new; goes = h.goes; only = on_only (LatchedLeft f) (seen.Words c) h.new h.only (λ z t. t) })

  decide_goes : (f : Family) (c d : Page) → One (Compresses waits (LatchedRight f c) (seen.Words d))
  decide_goes f c d = (let h = decide_one f c d in record { new = On h.new; goes = h.goes; only = on_only (LatchedRight f c) (seen.Words d) h.new h.only (λ z t. t) })

  first_goes : (p : Puts) (what : Seen) → Gives (compression_next (PuttingFirst p)) (compression_needs (PuttingFirst p)) what → One (Compresses waits (PuttingFirst p) what)
  first_goes p what g = put_gives p.gains p (Some (0, 3)) what (One (Compresses waits (PuttingFirst p) what)) (λ e. subst (λ z. One (Compresses waits (PuttingFirst p) z)) (sym e) put) (λ e some. subst (λ z. One (Compresses waits (PuttingFirst p) z)) (sym e) refused) g
    where
      put : One (Compresses waits (PuttingFirst p) seen.Done)
      put = record { new = On (PuttingParent p); goes = refl; only = on_only (PuttingFirst p) seen.Done (PuttingParent p) (λ d t. t) (λ z t. t) }

      refused : One (Compresses waits (PuttingFirst p) seen.Refused)
      refused = record { new = On (OpeningRight p.at Refused); goes = refl; only = on_only (PuttingFirst p) seen.Refused (OpeningRight p.at Refused) (λ d t. t) (λ z t. t) }

  last_goes : (p : Puts) (what : Seen) → Gives (compression_next (PuttingLast p)) (compression_needs (PuttingLast p)) what → One (Compresses waits (PuttingLast p) what)
  last_goes p what g = put_gives (other p.gains) p None what (One (Compresses waits (PuttingLast p) what)) (λ e. subst (λ z. One (Compresses waits (PuttingLast p) z)) (sym e) put) (λ e some. absurd (false≢true some)) g
    where
      put : One (Compresses waits (PuttingLast p) seen.Done)
      put = record { new = On (after_puts p.at p.decision); goes = refl; only = on_only (PuttingLast p) seen.Done (after_puts p.at p.decision) (λ d t. t) (λ z t. t) }

  pub compression_one : (c : Compression) (what : Seen) → Gives (compression_next c) (compression_needs c) what → One (Compresses waits c what)
  compression_one (PuttingFirst p) what g = first_goes p what g
  compression_one (PuttingLast p) what g = last_goes p what g
  compression_one (LatchingLeft f) seen.Done g = record { new = On (LatchedLeft f); goes = refl; only = on_only (LatchingLeft f) seen.Done (LatchedLeft f) (λ n t. t) (λ z t. t) }
  compression_one (LatchingLeft f) seen.Missed g = record { new = On (missed_left waits f); goes = refl; only = on_only (LatchingLeft f) seen.Missed (missed_left waits f) (λ n t. t) (λ z t. t) }
  compression_one (LatchedLeft f) (seen.Words c) g = link_goes f c
  compression_one (LatchingRight f d) seen.Done g = record { new = On (LatchedRight f d); goes = refl; only = on_only (LatchingRight f d) seen.Done (LatchedRight f d) (λ n t. t) (λ z t. t) }
  compression_one (LatchingRight f d) seen.Missed g = record { new = On (missed_right waits f d); goes = refl; only = on_only (LatchingRight f d) seen.Missed (missed_right waits f d) (λ n t. t) (λ z t. t) }
  compression_one (LatchedRight f d) (seen.Words c) g = decide_goes f d c
  compression_one (PuttingParent p) seen.Done g = record { new = On (PuttingLast p); goes = refl; only = on_only (PuttingParent p) seen.Done (PuttingLast p) (λ n t. t) (λ z t. t) }
  compression_one (PuttingParent p) seen.Refused g = absurd (false≢true g)
  compression_one (Retiring at decision) seen.Done g = record { new = On (OpeningLeft at decision); goes = refl; only = on_only (Retiring at decision) seen.Done (OpeningLeft at decision) (λ n t. t) (λ z t. t) }
  compression_one (OpeningRight at decision) seen.Done g = record { new = On (OpeningLeft at decision); goes = refl; only = on_only (OpeningRight at decision) seen.Done (OpeningLeft at decision) (λ n t. t) (λ z t. t) }
  compression_one (OpeningLeft at decision) seen.Done g = record { new = On (OpeningParent at.parent decision); goes = refl; only = on_only (OpeningLeft at decision) seen.Done (OpeningParent at.parent decision) (λ n t. t) (λ z t. t) }
  compression_one (OpeningParent x decision) seen.Done g = record { new = Over decision; goes = refl; only = opened x decision }
  compression_one old what g = absurd g
