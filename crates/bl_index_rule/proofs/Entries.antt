-- The entries of a pass, as a trail goes on by one mark.
use Rattle.std.proofs.Common.{ℕ, ◌≡◌, ◌≢◌, ◌++◌, Option, Some, None, List, [], ◌∷◌, length, inl, inr, refl, sym, ap, ◌∙◌, arith, append-nil}
use Rattle.std.proofs.lemmas.Bool.{eq-eqb, ne_eqb}
use Rattle.std.proofs.lemmas.Option.{slice_get_within}
use Rattle.bl_model.specs.declared.operation.Entry.{Entry}
use Rattle.bl_model.specs.History.{entries_of_pass}
use Rattle.bl_model.proofs.Histories.{entries_of_pass-append}
use Rattle.bl_page.specs.Machine.{Name}
use Rattle.bl_claims.specs.Trails.{Said, Mark, Trail, entries_at, history_of, SaysAt, IsMarked, HasSaid}
use Rattle.bl_tree_worlds.proofs.Pushes.{history_of-push, SaysAt-push, SaysAt-last, SaysAt-cases}
use Rattle.bl_claims.specs.Seeing.{own}

pub own-push : (pass : ℕ) (trail : Trail) (m : Mark) → own pass (trail ++ m ∷ []) ≡ own pass trail ++ entries_of_pass pass (entries_at m.event.process m.said)
own-push pass trail m = ap (entries_of_pass pass) (history_of-push trail m) ∙ entries_of_pass-append pass (history_of trail) (entries_at m.event.process m.said)

entries_mine : (pass : ℕ) (p : Name) (said : Option Said) → p.pass ≡ pass → entries_of_pass pass (entries_at p said) ≡ entries_at p said
entries_mine pass p None e = refl
entries_mine pass p (Some s) e = rw (eq-eqb p.pass pass e) refl

entries_other : (pass : ℕ) (p : Name) (said : Option Said) → p.pass ≢ pass → entries_of_pass pass (entries_at p said) ≡ []
entries_other pass p None e = refl
entries_other pass p (Some s) e = rw (ne_eqb p.pass pass e) refl

-- a mark of another pass
pub own-other : (pass : ℕ) (trail : Trail) (m : Mark) → m.event.process.pass ≢ pass → own pass (trail ++ m ∷ []) ≡ own pass trail
own-other pass trail m ne = own-push pass trail m ∙ (ap (λ (l : List Entry). own pass trail ++ l) (entries_other pass m.event.process m.said ne) ∙ append-nil (own pass trail))

-- a mark of its own
pub own-mine : (pass : ℕ) (trail : Trail) (m : Mark) → m.event.process.pass ≡ pass → own pass (trail ++ m ∷ []) ≡ own pass trail ++ entries_at m.event.process m.said
own-mine pass trail m e = own-push pass trail m ∙ ap (λ (l : List Entry). own pass trail ++ l) (entries_mine pass m.event.process m.said e)

says_one : (trail : Trail) (i : ℕ) (p : Name) (v u : Said) → SaysAt trail i p v → SaysAt trail i p u → v ≡ u
says_one trail i p v u a b =
    let marks : Some a.mark ≡ Some b.mark = sym a.is ∙ b.is in
    let one : a.mark ≡ b.mark = cc in
    let both : Some v ≡ Some u = sym a.says ∙ (ap (λ (m : Mark). m.said) one ∙ b.says) in
    cc

module _ (trail : Trail) (m : Mark) (marked : IsMarked (trail ++ m ∷ [])) where
  grows : (s a b : Option Said) → m.said ≡ s → HasSaid trail m.event.process a → HasSaid (trail ++ m ∷ []) m.event.process b → entries_at m.event.process a ++ entries_at m.event.process s ≡ entries_at m.event.process b
  grows None None None e h k = refl
  grows None None (Some u) e h k = elim (SaysAt-cases trail m k.1) [ inl o ↦ absurd (h k.0 u o) | inr o ↦ (let x = o.2 in cc) ]
  grows (Some v) None None e h k = absurd (k (length trail) v (SaysAt-last trail m e))
  grows (Some v) None (Some u) e h k = elim (SaysAt-cases trail m k.1) [ inl o ↦ absurd (h k.0 u o) | inr o ↦ ap (entries_at m.event.process) (sym e ∙ o.2) ]
  grows None (Some v) None e h k = absurd (k h.0 v (SaysAt-push trail m h.1))
  grows None (Some v) (Some u) e h k =
      let here = SaysAt-push trail m h.1 in
      let place : h.0 ≡ k.0 = marked.once h.0 k.0 m.event.process v u here k.1 in
      let there : SaysAt (trail ++ m ∷ []) h.0 m.event.process u = rw place k.1 in
      ap (λ (x : Said). entries_at m.event.process (Some x)) (says_one (trail ++ m ∷ []) h.0 m.event.process v u here there)
  grows (Some v) (Some u) b e h k =
      let place : h.0 ≡ length trail = marked.once h.0 (length trail) m.event.process u v (SaysAt-push trail m h.1) (SaysAt-last trail m e) in
      let is = h.1 in
      let within = slice_get_within trail h.0 is.mark is.is in
      absurd (omega arith)

  -- what a process has said grows by what its mark says
  pub said_grows : (a b : Option Said) → HasSaid trail m.event.process a → HasSaid (trail ++ m ∷ []) m.event.process b → entries_at m.event.process a ++ entries_at m.event.process m.said ≡ entries_at m.event.process b
  said_grows a b h k = grows m.said a b refl h k
