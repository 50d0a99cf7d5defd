-- Events that release no page and let no process begin or end.
use Rattle.std.proofs.Common.{ℕ, ◌≡◌, ◌≢◌, ◌≤◌, true, false, Some, arith, sym, ◌∙◌, refl}
use Rattle.bl_page.specs.Machine.{Name}
use Rattle.bl_page.specs.Machine.Owner.{Held, Retired}
use Rattle.bl_tree.specs.Trees.{Status, is_live, IsLive}
use Rattle.bl_tree.specs.Trees.Status.{Free, Fresh, Live, Left, Right, Uprooted, Gone, Anchored}
use Rattle.bl_tree_worlds.specs.Worlds.{Passed, World, nodes, was_in, MayGet, IsPassed, IsGone}

pub was_live : (s : Status) → IsLive s → was_in s ≡ true
unfolding is_live was_in
was_live Free h = h
was_live Fresh h = h
was_live Live h = refl
was_live (Left y) h = refl
was_live (Right y) h = refl
was_live Uprooted h = refl
was_live Gone h = refl
was_live Anchored h = h

pub was_gone : was_in Gone ≡ true
unfolding was_in
was_gone = refl

pub free_not : was_in Free ≡ false
unfolding was_in
free_not = refl

pub fresh_not : was_in Fresh ≡ false
unfolding was_in
fresh_not = refl

pub anchored_not : was_in Anchored ≡ false
unfolding was_in
anchored_not = refl

pub record Steady {P : Type 0} (w w' : World P) : Type 0 where
  pub phase : (q : Name) → w'.now.phase q ≡ w.now.phase q
  pub clock : w.now.clock ≤ w'.now.clock
  pub retired : (x time : ℕ) → w.now.owner x ≡ Retired time → w'.now.owner x ≡ Retired time
  pub retired_back : (x time : ℕ) → w'.now.owner x ≡ Retired time → w.now.owner x ≡ Retired time
  pub was : (x : ℕ) → was_in (w.status x) ≡ true → was_in (w'.status x) ≡ true
  pub level : (x : ℕ) → was_in (w.status x) ≡ true → (nodes w'.now x).shape.level ≡ (nodes w.now x).shape.level

module _ {P : Type 0} (w w' : World P) (s : Steady w w') where
  pub may_still : (q : Name) (x : ℕ) → MayGet w q x → MayGet w' q x
  may_still q x h = record { since = h.since; runs = s.phase q ∙ h.runs; was = s.was x h.was; kept = λ t e. h.kept t (s.retired_back x t e) }

  pub may_before : (q : Name) (x : ℕ) → was_in (w.status x) ≡ true → MayGet w' q x → MayGet w q x
  may_before q x e h = record { since = h.since; runs = sym (s.phase q) ∙ h.runs; was = e; kept = λ t f. h.kept t (s.retired x t f) }

  pub passed_still : (p : Passed) → IsPassed w (Some p) → IsPassed w' (Some p)
  passed_still p h = (omega (arith, h.0, s.clock), λ q since below runs. h.1 q since below (sym (s.phase q) ∙ runs))

  -- a dead page that is not put
  pub gone_still : (x : ℕ) → w.status x ≡ Gone → nodes w'.now x ≡ nodes w.now x → ((nodes w.now x).shape.right ≢ 0 → (q : Name) → w'.now.owner x ≡ Held q → (w.now.owner x ≡ Held q) × (w'.now.owner (nodes w.now x).shape.right ≡ Held q) × IsLive (w'.status (nodes w.now x).shape.right)) → IsGone w x → IsGone w' x
  gone_still x e n yet h =
      let was : was_in (w.status x) ≡ true = rw e was_gone in
      record {
        end = rw n h.end;
        above = rw n h.above;
        left = λ some.
            let link : (nodes w.now x).shape.right ≢ 0 = rw n at some in
            let k = h.left link in
            record {
              leads = λ p may.
                  let old = k.leads p (may_before p x was may) in
                  rw n (may_still p (nodes w.now x).shape.right old.0, s.level (nodes w.now x).shape.right old.0.was ∙ old.1);
              not_yet = λ q held.
                  let now = yet link q held in
                  let old = k.not_yet q now.0 in
                  rw n (now.1, now.2, s.level (nodes w.now x).shape.right (was_live (w.status (nodes w.now x).shape.right) old.1) ∙ old.2);
              later = λ p time next may e. rw n (λ f. k.later p time next (may_before p x was may) (s.retired_back x time e) (s.retired_back (nodes w.now x).shape.right next f));
            };
      }
