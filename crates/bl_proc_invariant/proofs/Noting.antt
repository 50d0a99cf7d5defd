-- A process notes the page from which it goes down: it may go there again, as a writer of that page's level.
use Rattle.std.proofs.Common.{ℕ, ◌≡◌, ◌+◌, ◌-◌, ◌<◌, zero, suc, List, [], ◌∷◌, None, Option, set, get_or, arith, ap, sym, ◌∙◌, refl, subst}
use Rattle.bl_model.specs.declared.deciding.KeyWrite.{KeyWrite}
use Rattle.bl_page.specs.declared.page.Page.{Page}
use Rattle.bl_page.specs.Machine.{Name}
use Rattle.bl_page.specs.Nodes.{unbounded, node_of}
use Rattle.bl_claims.specs.Trails.{Said, HasSaid}
use Rattle.bl_claims.specs.Walks.{Each}
use Rattle.bl_tree_worlds.specs.Worlds.{Stage, Know, World, IsStage, IsGoes, IsSure, IsGood}
use Rattle.bl_proc_steps.specs.declared.acts.Seen.{Seen}
use Rattle.bl_proc_steps.specs.declared.approach.Approach.{Approach}
use Rattle.bl_proc_steps.specs.declared.approach.Approach.TheVariants as way
use Rattle.bl_proc_steps.specs.Approaches.{approach_next}
use Rattle.bl_proc_writes.specs.declared.paths.Path.{Path}
use Rattle.bl_proc_writes.specs.declared.post.PostStage.{PostStage}
use Rattle.bl_proc_writes.specs.declared.post.PostStage.TheVariants as post
use Rattle.bl_proc_writes.specs.declared.writing.WriteStage.{WriteStage}
use Rattle.bl_proc_writes.specs.declared.writing.WriteStage.TheVariants as write
use Rattle.bl_proc_writes.specs.Paths.{page_at, from_page, IsBlank}
use Rattle.bl_proc_writes.specs.Writes.{write_next_in}
use Rattle.bl_proc_writes.specs.Posts.{post_next_in}
use Rattle.bl_proc_writes.specs.InsertPosts.{WriteNotes, PostNotes}
use Rattle.bl_proc_invariant.specs.Turns.{IsObserved}
use Rattle.bl_proc_invariant.specs.Tables.{Carried, goes_to, know_approach}
use Rattle.bl_proc_invariant.specs.Knowing.{goes_above, path_goes, know_write, know_post}
use Rattle.bl_proc_invariant.proofs.Instead.{with_proc, instead_good}
use Rattle.bl_proc_deterministic.proofs.KindCases.{NoteCase, note_case}

module _ {P : Type 0} (w : World P) (p : Name) where
  -- one of the pages that are noted
  goes_at : (xs : List ℕ) (level i x : ℕ) → Each (IsGoes w p) (goes_above level xs) → get_or xs i 0 ≡ suc x → IsGoes w p (goes_to (suc x) (level + i) (level + i))
  goes_at [] level zero x all e = absurd (let f = e in cc)
  goes_at [] level (suc i) x all e = absurd (let f = e in cc)
  goes_at (zero ∷ xs) level zero x all e = absurd (let f = e in cc)
  goes_at (zero ∷ xs) level (suc i) x all e = subst (λ n. IsGoes w p (goes_to (suc x) n n)) (omega arith) (goes_at xs (suc level) i x all e)
  goes_at (suc y ∷ xs) level zero x all e = subst (λ n. IsGoes w p (goes_to (suc x) n n)) (omega arith) (subst (λ z. IsGoes w p (goes_to z level level)) e all.0)
  goes_at (suc y ∷ xs) level (suc i) x all e = subst (λ n. IsGoes w p (goes_to (suc x) n n)) (omega arith) (goes_at xs (suc level) i x all.1 e)

  -- one more is noted
  goes_set : (xs : List ℕ) (level i y : ℕ) → Each (IsGoes w p) (goes_above level xs) → IsGoes w p (goes_to y (level + i) (level + i)) → Each (IsGoes w p) (goes_above level (set xs i y))
  goes_set [] level zero y all h = tt
  goes_set [] level (suc i) y all h = tt
  goes_set (zero ∷ xs) level zero zero all h = all
  goes_set (suc x ∷ xs) level zero zero all h = all.1
  goes_set (zero ∷ xs) level zero (suc y) all h = (subst (λ n. IsGoes w p (goes_to (suc y) n n)) (omega arith) h, all)
  goes_set (suc x ∷ xs) level zero (suc y) all h = (subst (λ n. IsGoes w p (goes_to (suc y) n n)) (omega arith) h, all.1)
  goes_set (zero ∷ xs) level (suc i) y all h = goes_set xs (suc level) i y all (subst (λ n. IsGoes w p (goes_to y n n)) (omega arith) h)
  goes_set (suc x ∷ xs) level (suc i) y all h = (all.0, goes_set xs (suc level) i y all.1 (subst (λ n. IsGoes w p (goes_to y n n)) (omega arith) h))

  -- a writer may begin at the page that is noted for its level
  pub from_sure : (carried : Carried) (path : Path) (level key x : ℕ) → carried.goes ≡ path_goes path → page_at path level ≡ x → 0 < level → key < unbounded → IsStage Stage.Busy (w.now.phase p) → HasSaid w.trail p carried.said → Each (IsGoes w p) carried.goes → IsSure w p (know_approach carried level key (from_page x))
  from_sure carried path level key zero same at least below stage said all = record { stage = stage; said = said; holds = tt; goes = all; children = tt; passed = tt; sound = below }
  from_sure carried path level key (suc x) same at least below stage said all =
      let here : IsGoes w p (goes_to (suc x) (1 + (level - 1)) (1 + (level - 1))) = goes_at path.pages 1 (level - 1) x (rw same at all) at in
      record { stage = stage; said = said; holds = tt; goes = (subst (λ n. IsGoes w p (goes_to (suc x) n n)) (omega (arith, least)) here, all); children = tt; passed = tt; sound = below }

-- where nothing is noted
none_above : (xs : List ℕ) (level : ℕ) → ((i : ℕ) → get_or xs i 0 ≡ 0) → goes_above level xs ≡ []
none_above [] level h = refl
none_above (zero ∷ xs) level h = none_above xs (suc level) (λ i. h (suc i))
none_above (suc x ∷ xs) level h = absurd (let e = h 0 in cc)

pub blank_goes : (path : Path) → IsBlank path → path_goes path ≡ []
blank_goes path h = none_above path.pages 1 (λ i. subst (λ n. get_or path.pages n 0 ≡ 0) (omega arith) (h (suc i)))

pub from_holds : (carried : Carried) (level key x : ℕ) → ((know_approach carried level key (from_page x)).holds ≡ []) × ((know_approach carried level key (from_page x)).middle ≡ None)
from_holds carried level key zero = (refl, refl)
from_holds carried level key (suc x) = (refl, refl)

module _ {P : Type 0} (know : P → Know) (w : World P) (g : IsGood know w) (p : Name) (a : P) where
  -- it knows the same
  same_good : know a ≡ know (w.proc p) → IsGood know (with_proc w p a)
  same_good same = instead_good know w p a g (ap (λ k. k.holds) same) (λ m e h. ap (λ k. k.middle) same ∙ e) (subst (IsSure w p) (sym same) (g.sure p))

  noted_good : (said : Option Said) (level key : ℕ) {b : Approach} {what : Seen} {old new : Path} → NoteCase level key b what old new → know (w.proc p) ≡ know_approach (record { said = said; goes = path_goes old }) level key b → know a ≡ know_approach (record { said = said; goes = path_goes new }) level key b → IsObserved w.now w.size (approach_next b) what → IsGood know (with_proc w p a)
  noted_good said level key (NoteCase.WentDown x c y old new leads is) before then observed =
      let sure : IsSure w p (know_approach (record { said = said; goes = path_goes old }) level key (way.At x)) = rw before at (g.sure p) in
      let n = (node_of c).shape.level in
      let here : IsGoes w p (goes_to x (1 + (n - 1)) (1 + (n - 1))) =
      record { may = sure.goes.0.may; least = (let up = leads.2 in rw (← observed) (omega arith)); most = (let up = leads.2 in rw (← observed) (omega arith)) } in
      let all : Each (IsGoes w p) (path_goes new) = rw is (goes_set w p old.pages 1 (n - 1) x sure.goes.1 here) in
      instead_good know w p a g (ap (λ k. k.holds) then ∙ ap (λ k. k.holds) (sym before)) (λ m e h. ap (λ k. k.middle) then ∙ (ap (λ k. k.middle) (sym before) ∙ e))
      (rw then (record { stage = sure.stage; said = sure.said; holds = tt; goes = (sure.goes.0, all); children = tt; passed = tt; sound = sure.sound }))
  noted_good said level key {b = b} (NoteCase.Stayed _ what old new is) before then observed =
      same_good (then ∙ (ap (λ z. know_approach (record { said = said; goes = path_goes z }) level key b) is ∙ sym before))

  pub write_noted : (key : ℕ) (does : KeyWrite) (got : ℕ → Page) (b : WriteStage) (what : Seen) (old new : Path) → WriteNotes key b what old new → know (w.proc p) ≡ know_write (path_goes old) key does got b → know a ≡ know_write (path_goes new) key does got b → IsObserved w.now w.size (write_next_in b) what → IsGood know (with_proc w p a)
  write_noted key does got write.New what old new t before then observed = same_good (then ∙ (ap (λ z. know_write (path_goes z) key does got write.New) t ∙ sym before))
  write_noted key does got (write.Coming b) what old new t before then observed = noted_good None 0 key (note_case 0 key b what old new t) before then observed
  write_noted key does got (write.Keeping x there) what old new t before then observed = same_good (then ∙ (ap (λ z. know_write (path_goes z) key does got (write.Keeping x there)) t ∙ sym before))
  write_noted key does got (write.Editing noted c) what old new t before then observed = same_good (then ∙ (ap (λ z. know_write (path_goes z) key does got (write.Editing noted c)) t ∙ sym before))
  write_noted key does got (write.Ending r) what old new t before then observed = same_good (then ∙ (ap (λ z. know_write (path_goes z) key does got (write.Ending r)) t ∙ sym before))
  write_noted key does got (write.Over r) what old new t before then observed = same_good (then ∙ (ap (λ z. know_write (path_goes z) key does got (write.Over r)) t ∙ sym before))

  pub post_noted : (said : Option Said) (level key : ℕ) (got : ℕ → Page) (child : ℕ) (b : PostStage) (what : Seen) (old new : Path) → PostNotes level key b what old new → know (w.proc p) ≡ know_post (record { said = said; goes = path_goes old }) level key got child b → know a ≡ know_post (record { said = said; goes = path_goes new }) level key got child b → IsObserved w.now w.size (post_next_in b) what → IsGood know (with_proc w p a)
  post_noted said level key got child (post.Coming b) what old new t before then observed = noted_good said level key (note_case level key b what old new t) before then observed
  post_noted said level key got child post.New what old new t before then observed = same_good (then ∙ (ap (λ z. know_post (record { said = said; goes = path_goes z }) level key got child post.New) t ∙ sym before))
  post_noted said level key got child (post.Growing g) what old new t before then observed = same_good (then ∙ (ap (λ z. know_post (record { said = said; goes = path_goes z }) level key got child (post.Growing g)) t ∙ sym before))
  post_noted said level key got child (post.Walking v) what old new t before then observed = same_good (then ∙ (ap (λ z. know_post (record { said = said; goes = path_goes z }) level key got child (post.Walking v)) t ∙ sym before))
  post_noted said level key got child (post.Editing c) what old new t before then observed = same_good (then ∙ (ap (λ z. know_post (record { said = said; goes = path_goes z }) level key got child (post.Editing c)) t ∙ sym before))
  post_noted said level key got child (post.Staying x r) what old new t before then observed = same_good (then ∙ (ap (λ z. know_post (record { said = said; goes = path_goes z }) level key got child (post.Staying x r)) t ∙ sym before))
  post_noted said level key got child (post.Ending r) what old new t before then observed = same_good (then ∙ (ap (λ z. know_post (record { said = said; goes = path_goes z }) level key got child (post.Ending r)) t ∙ sym before))
  post_noted said level key got child (post.Over r) what old new t before then observed = same_good (then ∙ (ap (λ z. know_post (record { said = said; goes = path_goes z }) level key got child (post.Over r)) t ∙ sym before))
