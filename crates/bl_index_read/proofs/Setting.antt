-- A search or a part that sets off, near a page or at the anchor, and goes on.
use Rattle.std.proofs.Common.{ℕ, ◌≡◌, Option, None, Some, refl, sym, subst, ◌∙◌}
use Rattle.std.specs.Prelude.{MatchOption}
use Rattle.atomic_table.specs.declared.shared.Seat.{Seat}
use Rattle.bl_layout.specs.declared.layout.Layout.{Layout}
use Rattle.bl_page.specs.declared.page.Page.{Page}
use Rattle.bl_page.specs.Words.{words_of}
use Rattle.bl_page.specs.Machine.Act.{Look}
use Rattle.bl_page.specs.Machine.Looked.{Page as OfPage}
use Rattle.bl_proc_steps.specs.declared.acts.Seen.TheVariants as seen
use Rattle.bl_proc_steps.specs.declared.descent.Descent.{Descent}
use Rattle.bl_proc_steps.specs.declared.descent.Descent.TheVariants.{AtAnchor}
use Rattle.bl_proc_steps.specs.declared.descent.Descended.{Descended}
use Rattle.bl_proc_steps.specs.declared.descent.Descended.TheVariants.{On, Here}
use Rattle.bl_proc_steps.specs.Descents.{Descends}
use Rattle.bl_proc_steps.proofs.Descents.{here_leads}
use Rattle.bl_proc.specs.declared.kinds.Proc.{Proc}
use Rattle.bl_proc.specs.Processes.{Takes}
use Rattle.bl_store.specs.declared.store.Glance.{Glance}
use Rattle.bl_store.specs.declared.store.Hand.{Hand}
use Rattle.bl_store_rule.specs.declared.view.View.{View}
use Rattle.bl_store.specs.Hands.{known, read_words, IsSameHand, ReadsFrom}
use Rattle.bl_index_rule.specs.declared.known.PassState.{PassState}
use Rattle.bl_index_rule.specs.Observed.{Begins, Steps, Goes}
use Rattle.bl_index_events.specs.declared.tree.Tree.{Tree}
use Rattle.bl_index_events.specs.Runs.{IsOn, Runs}
use Rattle.bl_index_events.proofs.Calls.{since_begin, since_step}
use Rattle.bl_index_events.proofs.Held.{begins_held}
use Rattle.bl_index_events.proofs.Standing.{on_goes, on_after}
use Rattle.bl_index_read.specs.declared.leaf_ways.Reached.{Reached}
use Rattle.bl_index_read.specs.declared.leaf_ways.Reached.TheVariants as reached
use Rattle.bl_index_read.specs.declared.sought.Sought.{Sought}
use Rattle.bl_index_read.specs.LeafWays.{fresh, probing, going, EndsWith, HasReached, HasSetOff}
use Rattle.bl_index_read.proofs.Ways.{begins, starts_near, probing_is_search, probing_under_way, going_is_search, going_under_way, goes_further, arrives}
use Rattle.bl_index_read.proofs.Paces.{at_begin, at_look}

module _ (l : Layout) (pass : ℕ) (s : Sought) (key : ℕ) (near : Option ℕ) (old d : PassState) (begun : Begins pass l.pages l.passes (fresh s key near) old d) where
  -- it has begun, and stands there then
  pub begun_on : (p : Proc) → Takes (fresh s key near) seen.Done p → IsOn l d p
  begun_on p t = record {
    runs = begun.runs;
    state = begun.state ∙ sym (begun.course.only p t);
    pages = begun.pages;
    passes = begun.passes;
    near = begun.near;
    held = begins_held _ _ _ _ _ _ begun (begins s key near);
  }

-- it has set off at the anchor
pub far_off : (tree : Tree) (hand : Hand PassState) (pass : ℕ) (s : Sought) (key : ℕ) (old : PassState) → Begins pass tree.store.layout.pages tree.store.layout.passes (fresh s key None) old (known hand.seat) → Runs tree hand (going s key AtAnchor) → HasSetOff tree hand pass s key AtAnchor old
far_off tree hand pass s key old begun runs =
    let state = runs.on.state in
    record {
      runs = runs;
      since = since_begin _ _ _ _ _ _ begun;
      turn = at_begin _ _ _ _ _ _ begun (going_is_search s key AtAnchor _ state) (going_under_way s key AtAnchor _ state);
    }

-- or with a page in mind, at which it has looked
pub near_off : (tree : Tree) (hand : Hand PassState) (pass : ℕ) (s : Sought) (key page : ℕ) (old d : PassState) (way : Descent) → Begins pass tree.store.layout.pages tree.store.layout.passes (fresh s key (Some page)) old d → Steps (Look (OfPage page)) d (known hand.seat) → Runs tree hand (going s key way) → HasSetOff tree hand pass s key way old
near_off tree hand pass s key page old d way begun looked runs =
    let since = since_begin _ _ _ _ _ _ begun in
    let state = (begun_on tree.store.layout pass s key (Some page) old d begun (probing s key page) (starts_near s key page)).state in
    let began = at_begin _ _ _ _ _ _ begun (probing_is_search s key page _ state) (probing_under_way s key page _ state) in
    record {
      runs = runs;
      since = since_step _ _ _ _ _ since looked;
      turn = at_look _ _ _ _ _ since.named since.number began (OfPage page) _ runs.on.pages looked (going_is_search s key way _ runs.on.state) (going_under_way s key way _ runs.on.state);
    }

-- ---- where it goes by the page that it got

abbrev pub reached_by : Descended → Glance → Reached
reached_by (On e) glance = reached.Further e
reached_by Here glance = reached.Leaf glance

pub page_reached : (l : Layout) (s : Sought) (key : ℕ) (a : Descent) (c : Page) (d : PassState) (h : Seat (Unit {0}) (View PassState)) (glance : Glance) → IsOn l d (going s key a) → Goes (seen.Words c) d (known h) → ReadsFrom h glance → read_words h ≡ words_of c → (o : Descended) → Descends key a c o → HasReached s key l h (reached_by o glance)
page_reached l s key a c d h glance on goes reads is (On e) t = on_goes l (seen.Words c) d (known h) (going s key a) (going s key e) on goes (goes_further s key a e c t)
page_reached l s key a c d h glance on goes reads is Here t =
    let there = arrives s key a c t in
    let at_leaf : IsOn l (known h) there.state = on_goes l (seen.Words c) d (known h) (going s key a) there.state on goes there.takes in
    (reads, record { page = c; is = is; leads = here_leads key a c t; ends = subst (EndsWith s key c) (sym at_leaf.state) there.ends }, on_after l (seen.Words c) d (known h) (going s key a) on goes)

-- ---- of calls

-- the same hand has the same number
pub same_number : (old new : Hand PassState) → IsSameHand old.seat new.seat → new.number ≡ old.number
same_number old new same = new.own.0 ∙ (same.2 ∙ sym old.own.0)

-- what is said where there is none
pub none_given : {A : Type 0} {P : Type 0} (Q : A → Type 0) (r : Option A) → r ≡ None → P → MatchOption r P Q
none_given Q None is p = p
none_given Q (Some a) is p = let no : ⊥ = cc in absurd no
