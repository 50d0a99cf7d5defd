-- What a hand keeps in mind on its ways, and the leaf at which it has come so.
use Rattle.std.proofs.Common.{ℕ, suc, ◌≡◌, ◌<◌, ◌++◌, Some, List, [], ◌∷◌, refl, sym, ap, ◌∙◌, subst, append_assoc, append-nil}
use lib.ListN.{get_elem?}
use Rattle.atomic_table.specs.declared.shared.Seat.{Seat}
use Rattle.bl_layout.specs.declared.layout.Layout.{Layout}
use Rattle.bl_model.specs.declared.operation.Reply.{Reply}
use Rattle.bl_page.specs.declared.page.Page.{Page}
use Rattle.bl_page.specs.Machine.{Act}
use Rattle.bl_page.specs.Machine.Act.{Get}
use Rattle.bl_page.specs.Words.{words_of}
use Rattle.bl_claims.specs.Trails.{Trail, entries_at}
use Rattle.bl_claims.specs.Seeing.{own, name, AreElse, GoesOnFrom}
use Rattle.bl_proc_steps.specs.declared.acts.Seen.TheVariants as seen
use Rattle.bl_proc_steps.specs.declared.descent.Descent.{Descent}
use Rattle.bl_proc_steps.specs.Descents.{descent_page}
use Rattle.bl_proc.specs.declared.kinds.Proc.{Proc}
use Rattle.bl_proc.specs.Processes.{next_of}
use Rattle.bl_proc_invariant.specs.Knowing.{know, end_of_proc}
use Rattle.bl_proc_invariant.specs.Turns.{event_of}
use Rattle.bl_store_rule.specs.Frames.{place_at}
use Rattle.bl_store_rule.specs.declared.view.Look.{Look}
use Rattle.bl_store.specs.declared.store.Glance.{Glance}
use Rattle.bl_store_rule.specs.declared.view.View.{View}
use Rattle.bl_store.specs.Hands.{known, read_words, Keeps, KeepsNow}
use Rattle.bl_index_rule.specs.declared.known.PassState.{PassState}
use Rattle.bl_index_rule.specs.Observed.{IsNear, Notes, Steps, Goes}
use Rattle.bl_index_rule.proofs.Entries.{own-other}
use Rattle.bl_index_events.specs.Runs.{IsOn, IsSince}
use Rattle.bl_index_read.specs.declared.sought.Sought.{Sought}
use Rattle.bl_index_read.specs.declared.sought.Sought.TheVariants.{Value, Rows}
use Rattle.bl_index_read.specs.LeafWays.{going}
use Rattle.bl_index_read.specs.Keeping.{KeepsStill, KeepsPage, IsKeptLeaf}
use Rattle.bl_index_read.proofs.Ways.{gets, going_may_give_up}

-- ---- what the pass had seen it has seen

pub on_itself : (trail : Trail) → GoesOnFrom trail trail
on_itself trail = ([], sym (append-nil trail))

pub on_further : (old mid new : Trail) → GoesOnFrom old mid → GoesOnFrom mid new → GoesOnFrom old new
on_further old mid new one two = (one.0 ++ two.0, two.1 ∙ (ap (λ (z : Trail). z ++ two.0) one.1 ∙ append_assoc old one.0 two.0))

abbrev pub notes_on : (by count : ℕ) (act : Act Page Reply) (d e : PassState) → Notes by count act d e → GoesOnFrom d.trail e.trail
notes_on by count act d e n = (n.between ++ n.last ∷ [], n.trail)

-- ---- what is kept in mind

module _ (h h' : Seat (Unit {0}) (View PassState)) (same : h'.me.0.layout ≡ h.me.0.layout) (on : GoesOnFrom (known h).trail (known h').trail) where
  -- no look more
  pub still_same : h'.me.0.kept ≡ h.me.0.kept → KeepsStill h h'
  still_same kept = record {
    looks = λ page version glance k. (k.0, k.1, ap (λ (l : List Look). get_elem? l k.0) kept ∙ k.2, k.3 ∙ ap (λ (l : Layout). place_at l k.1 0) (sym same));
    on = on;
  }

  -- one look more
  pub still_more : (page version : ℕ) (glance : Glance) → KeepsNow h h' page version glance → KeepsStill h h'
  still_more page version glance now = record {
    looks = λ other count look k. (suc k.0, k.1, ap (λ (l : List Look). get_elem? l (suc k.0)) now.1 ∙ k.2, k.3 ∙ ap (λ (l : Layout). place_at l k.1 0) (sym same));
    on = on;
  }

pub keeps_now : (h h' : Seat (Unit {0}) (View PassState)) → h'.me.0.layout ≡ h.me.0.layout → (page version : ℕ) (glance : Glance) → KeepsNow h h' page version glance → Keeps h' page version glance
keeps_now h h' same page version glance now = (0, now.0, ap (λ (l : List Look). get_elem? l 0) now.1, now.2 ∙ ap (λ (l : Layout). place_at l now.0 0) (sym same))

pub still_itself : (h : Seat (Unit {0}) (View PassState)) → KeepsStill h h
still_itself h = record { looks = λ page version glance k. k; on = on_itself (known h).trail }

pub still_on : (h h' h'' : Seat (Unit {0}) (View PassState)) → KeepsStill h h' → KeepsStill h' h'' → KeepsStill h h''
still_on h h' h'' one two = record {
  looks = λ page version glance k. two.looks page version glance (one.looks page version glance k);
  on = on_further (known h).trail (known h').trail (known h'').trail one.on two.on;
}

-- it got the page that was next, and its mark shows what that was
pub got_page : (s : Sought) (key : ℕ) (way : Descent) (c : Page) (d e : PassState) → d.state ≡ going s key way → Goes (seen.Words c) d e
    → (steps : Steps (Get (descent_page way)) d e) × (steps.notes.last.saw ≡ Some c)
got_page Value key way c d e is goes = subst (λ (z : Proc). (steps : Steps (event_of (end_of_proc z) (next_of z) (seen.Words c)) d e) × (steps.notes.last.saw ≡ Some c)) is
    (goes.steps, goes.saw (descent_page way) c (ap (λ (z : Proc). event_of (end_of_proc z) (next_of z) (seen.Words c)) is) refl)
got_page (Rows direction) key way c d e is goes = subst (λ (z : Proc). (steps : Steps (event_of (end_of_proc z) (next_of z) (seen.Words c)) d e) × (steps.notes.last.saw ≡ Some c)) is
    (goes.steps, goes.saw (descent_page way) c (ap (λ (z : Proc). event_of (end_of_proc z) (next_of z) (seen.Words c)) is) refl)

-- events of other passes say nothing of this one's
pub own_else : (pass : ℕ) (trail more : Trail) → AreElse pass more → own pass (trail ++ more) ≡ own pass trail
own_else pass trail [] h = ap (own pass) (append-nil trail)
own_else pass trail (m ∷ ms) h = ap (own pass) (sym (append_assoc trail (m ∷ []) ms)) ∙ (own_else pass (trail ++ m ∷ []) ms h.1 ∙ own-other pass trail m h.0)

-- a process on its way has said nothing
on_way_silent : (l : Layout) (pass : ℕ) (s : Sought) (key : ℕ) (way : Descent) (old d : PassState) → IsSince pass old d → IsOn l d (going s key way) → own pass d.trail ≡ own pass old.trail
on_way_silent l pass s key way old d since on =
    let h = since.own in
    let quiet = (going_may_give_up s key way d.state on.state).silent h.run h.state in
    let here : own pass d.trail ≡ d.past ++ entries_at (name d.pass d.number) (know h.run).said = subst (λ (z : ℕ). own z d.trail ≡ d.past ++ entries_at (name d.pass d.number) (know h.run).said) since.named h.own in
    here ∙ ((λ i. since.past i ++ entries_at (name d.pass d.number) (quiet i)) ∙ append-nil (own pass old.trail))

-- what it got and keeps in mind, as its leaf
pub kept_leaf : (l : Layout) (pass : ℕ) (s : Sought) (key : ℕ) (way : Descent) (old d : PassState) (h : Seat (Unit {0}) (View PassState)) (glance : Glance) → IsSince pass old d → IsOn l d (going s key way)
    → (c : Page) → read_words h ≡ words_of c → (steps : Steps (Get (descent_page way)) d (known h)) → steps.notes.last.saw ≡ Some c → KeepsPage (descent_page way) h glance
    → IsKeptLeaf l.pages pass old (descent_page way) h glance
kept_leaf l pass s key way old d h glance since on c words steps saw keeps =
    let n = steps.notes in
    record {
      near = subst (λ (z : ℕ). descent_page way < z) on.pages (subst (IsNear d.pages) (gets s key way d.state on.state) on.near);
      before = d.trail ++ n.between;
      get = n.last;
      split = n.trail ∙ sym (append_assoc d.trail n.between (n.last ∷ []));
      begins = on_further old.trail d.trail (d.trail ++ n.between) (since.before ++ since.first ∷ since.since, since.begins) (n.between, refl);
      act = ap (λ e. e.act) n.event;
      content = c;
      words = words;
      saw = saw;
      silent = own_else pass d.trail n.between (subst (λ (z : ℕ). AreElse z n.between) since.named n.others) ∙ on_way_silent l pass s key way old d since on;
      keeps = keeps;
    }
